-- Which files the stage of dispositions makes, and which it names where it refuses a row.
use Rattle.plan_num.proofs.Common.{◌≡◌, true, Bool, Ok, Err, ap, lit<}
use Rattle.tables.specs.declared.file_id.FileId.{FileId}
use Rattle.tables.specs.declared.refusal.Refusal.{Refusal}
use Rattle.tables.proofs.Common.{input_faults, NamesInput, AllName, input_names, names_both}
use Rattle.tables.specs.declared.file_id.FileId.TheVariants as file
use Rattle.giv_files.specs.declared.made.Made.{Made}
use Rattle.giv_files.proofs.Common.{MakesAs, ids_of, BundleParts, input_text, refused_names}
use Rattle.giv_files.proofs.Common.{made_unless}
use Rattle.giv_files.specs.declared.stage.Stage.TheVariants as stage
use Rattle.event_tables.proofs.Common.{activity_delay_input, event_delay_input}
use Rattle.event_tables.proofs.Common.{expanded_activity_ids, expanded_event_ids}
use Rattle.delay_management.specs.DispositionStage.{activities_in, delay_faults, disposed_of, disposition_faults}
use Rattle.delay_management.specs.DispositionStage.{disposition_stage, events_in, made_faults}

-- they are those that the stage is to make
pub disposition_stage_makes : (bundle : BundleParts) (made : Made) → disposition_stage bundle ≡ Ok made
    → MakesAs stage.Disposition (ids_of made.files)
unfolding disposition_stage disposed_of
disposition_stage_makes bundle made is =
    (0, lit< tt, ap (λ (made : Made). ids_of made.files) (made_unless _ _ made is))

-- a refusal by a row names a file of delays, or what the faults of the files that earlier stages make do
pub disposition_names_delays : (test : FileId → Bool) → test file.EventDelays ≡ true
    → test file.ActivityDelays ≡ true → (bundle : BundleParts) (reason : Refusal)
    → AllName test (made_faults bundle) → disposition_stage bundle ≡ Err reason → NamesInput test reason
unfolding disposition_stage disposition_faults
disposition_names_delays test events activities bundle reason made is =
    let event_ids = expanded_event_ids (events_in bundle) in
    let activity_ids = expanded_activity_ids (activities_in bundle) in
    let delays : AllName test (delay_faults bundle) =
    names_both test (input_faults (event_delay_input event_ids) (input_text bundle 3))
    (input_faults (activity_delay_input activity_ids) (input_text bundle 4))
    (input_names test (event_delay_input event_ids) (input_text bundle 3) events)
    (input_names test (activity_delay_input activity_ids) (input_text bundle 4) activities) in
    refused_names test _ _ reason
    (names_both test (made_faults bundle) (delay_faults bundle) made delays) is

-- Which files the stage of timetables makes, and which it names where it refuses a row.
use Rattle.plan_num.proofs.Common.{arith, ◌≡◌, ℕ, Bool, true, List, [], Result, Ok, Err, ap, lit<}
use Rattle.plan_num.proofs.Common.{refl}
use Rattle.tables.specs.declared.file_id.FileId.{FileId}
use Rattle.tables.specs.declared.refusal.Refusal.{Refusal}
use Rattle.tables.proofs.Common.{input_faults, NamesInput, NamesOnly, AllName, input_names}
use Rattle.tables.proofs.Common.{names_both}
use Rattle.tables.specs.declared.file_id.FileId.TheVariants as file
use Rattle.giv_files.specs.declared.made.Made.{Made}
use Rattle.giv_files.proofs.Common.{MakesAs, ids_of, BundleParts, input_text, names_after}
use Rattle.giv_files.proofs.Common.{fine_after, made_after}
use Rattle.giv_files.specs.declared.stage.Stage.TheVariants as stage
use Rattle.event_tables.proofs.Common.{periodic_activity_input, periodic_event_ids}
use Rattle.event_tables.proofs.Common.{periodic_event_input}
use Rattle.pesp_model.specs.PespTexts.{events_of, problem_faults}
use Rattle.pesp.specs.Listings.{Listing, listing}
use Rattle.pesp_search.specs.SearchResults.{TimesFound, result_within}
use Rattle.pesp_search.specs.TimetableStage.{budget_in, problem_in, search_made, timetable_faults}
use Rattle.pesp_search.specs.TimetableStage.{timetable_stage}

-- the files that are made, where some are
abbrev ids_in : Result Made Refusal → List FileId
ids_in (Ok made) = ids_of made.files
ids_in (Err why) = []

search_makes : (result : Result TimesFound Refusal) (made : Made) → search_made result ≡ Ok made
    → MakesAs stage.Timetable (ids_of made.files)
search_makes (Ok found) made is = (0, lit< tt, ap ids_in is)
search_makes (Err why) made is = absurd (cc)

-- they are those that the stage is to make
pub timetable_stage_makes : (bundle : BundleParts) (made : Made) → timetable_stage bundle ≡ Ok made
    → MakesAs stage.Timetable (ids_of made.files)
unfolding timetable_stage
timetable_stage_makes bundle made is = grind (arith, search_makes, made_after)

search_names : (test : FileId → Bool) (budget : ℕ) (all : Listing) (reason : Refusal)
    → search_made (result_within budget all) ≡ Err reason → NamesOnly test reason
unfolding result_within
search_names test budget all reason is = grind arith

-- the faults name the file of events or of activities
pub timetable_faults_name : (test : FileId → Bool) → test file.EventsP ≡ true
    → test file.ActivitiesP ≡ true → (bundle : BundleParts) → AllName test (timetable_faults bundle)
unfolding problem_faults
timetable_faults_name test events activities bundle =
    let ids = periodic_event_ids (events_of (input_text bundle 0)) in
    names_both test (input_faults periodic_event_input (input_text bundle 0))
    (input_faults (periodic_activity_input ids) (input_text bundle 1))
    (input_names test periodic_event_input (input_text bundle 0) events)
    (input_names test (periodic_activity_input ids) (input_text bundle 1) activities)

pub inputs_fine : (bundle : BundleParts) (reason : Refusal) → ¬ NamesInput (λ _. true) reason
    → timetable_stage bundle ≡ Err reason → timetable_faults bundle ≡ []
unfolding timetable_stage
inputs_fine bundle reason other is = fine_after (timetable_faults bundle) _ reason
    (timetable_faults_name (λ _. true) refl refl bundle) other is

-- a refusal names what they do
pub timetable_stage_names : (test : FileId → Bool) (bundle : BundleParts) (reason : Refusal)
    → AllName test (timetable_faults bundle) → timetable_stage bundle ≡ Err reason → NamesOnly test reason
unfolding timetable_stage
timetable_stage_names test bundle reason named is =
    names_after test (timetable_faults bundle) _ reason named
    (search_names test (budget_in bundle) (listing (problem_in bundle)) reason) is

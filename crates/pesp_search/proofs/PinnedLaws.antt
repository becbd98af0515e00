-- What a timetable that a person gives owes to the chain: which files are made of it, that they are
-- right, which file a refusal names, and what they are over the inputs of a search.
use Rattle.plan_num.proofs.Common.{arith, ◌≡◌, ℕ, ◌≤◌, Bool, true, cond, List, [], ◌∷◌, is_some}
use Rattle.plan_num.proofs.Common.{Option, None, Some, Ok, Err, refl, subst}
use Rattle.tables.specs.declared.file_id.FileId.{FileId}
use Rattle.tables.specs.declared.refusal.Refusal.{Refusal}
use Rattle.tables.proofs.Common.{input_faults, or_else, NamesInput, AllName, input_names}
use Rattle.tables.proofs.Common.{names_both, names_or_else}
use Rattle.tables.specs.declared.file_id.FileId.TheVariants as file
use Rattle.giv_files.specs.declared.key.Key.TheVariants as key
use Rattle.giv_files.specs.declared.made.Made.{Made}
use Rattle.giv_files.specs.declared.made.MadeFile.{MadeFile}
use Rattle.giv_files.proofs.Common.{MakesAs, ids_of, BundleParts, Fits, SettingsFit, input_text}
use Rattle.giv_files.proofs.Common.{refused_names, amount_within}
use Rattle.tables.specs.declared.refusal.Refusal.TheVariants as refusal
use Rattle.tables.specs.declared.row_why.RowWhy.TheVariants as why
use Rattle.giv_files.specs.declared.stage.Stage.TheVariants as stage
use Rattle.pesp.specs.Timetables.{first_broken}
use Rattle.pesp_search.specs.Judged.{times_in}
use Rattle.pesp_search.specs.PinnedTimetables.{pinned_input, pinned_timetable_faults, pinned_timetable_stage}
use Rattle.pesp_search.specs.PinnedTimetables.{tension_faults, times_kept}
use Rattle.pesp_search.specs.RightTimetables.{TimetableFilesAreRight}
use Rattle.pesp_search.specs.TimetableStage.{period_in, problem_in, timetable_faults}
use Rattle.pesp_search.proofs.PinnedReads.{pinned_right}

-- the files that are made are those that the stage is to make
pub pinned_timetable_makes : (bundle : BundleParts) (made : Made) → pinned_timetable_stage bundle ≡ Ok made
    → MakesAs stage.PinnedTimetable (ids_of made.files)
unfolding pinned_timetable_stage
pinned_timetable_makes bundle made is = grind arith

-- the period of a bundle of the stage is in its range
pub pinned_within : (bundle : BundleParts) → bundle.stage ≡ stage.PinnedTimetable → Fits bundle
    → (1 ≤ period_in bundle) × (period_in bundle ≤ 720)
pinned_within bundle own fits =
    amount_within stage.PinnedTimetable bundle.settings key.PeriodLength _ _
    (subst (λ of. SettingsFit of bundle.settings) own fits.settings) refl refl refl

-- what is made is right
pub pinned_timetable_right : (bundle : BundleParts) (made : Made) → bundle.stage ≡ stage.PinnedTimetable
    → Fits bundle → pinned_timetable_stage bundle ≡ Ok made → TimetableFilesAreRight bundle made.files
pinned_timetable_right bundle made own fits is =
    pinned_right bundle made (pinned_within bundle own fits) is

-- times that are not feasible are refused as a whole
tension_names : (test : FileId → Bool) → test file.PinnedTimes ≡ true → (broken : Option ℕ)
    → AllName test (cond (is_some broken) (refusal.BadRow file.PinnedTimes 0 why.NotFeasible ∷ []) [])
tension_names test times None = tt
tension_names test times (Some at) = (times, tt)

-- a refusal names the file of the times, or what the faults of events and of activities do
pub pinned_timetable_names : (test : FileId → Bool) → test file.PinnedTimes ≡ true → (bundle : BundleParts)
    (reason : Refusal) → AllName test (timetable_faults bundle) → pinned_timetable_stage bundle ≡ Err reason
    → NamesInput test reason
unfolding pinned_timetable_stage
pinned_timetable_names test times bundle reason networks is =
    let text = input_text bundle 2 in
    let reads = input_faults (pinned_input bundle) text in
    let tensions = tension_faults bundle (times_in text) in
    let named : AllName test (pinned_timetable_faults bundle) =
    names_both test (timetable_faults bundle) (or_else reads tensions)
    networks
    (names_or_else test reads tensions (input_names test (pinned_input bundle) text times)
    (tension_names test times (first_broken (problem_in bundle) (times_in text)))) in
    refused_names test (pinned_timetable_faults bundle) (times_kept (times_in text)) reason named is

-- Files that are right over one bundle are so over another with the same period and the same texts of
-- events and of activities. So those of a timetable that is given are right over what a search of one is
-- given.
pub right_where_same : (bundle other : BundleParts) (files : List MadeFile) → period_in bundle ≡ period_in other
    → input_text bundle 0 ≡ input_text other 0 → input_text bundle 1 ≡ input_text other 1
    → TimetableFilesAreRight bundle files → TimetableFilesAreRight other files
right_where_same bundle other files period events activities right = grind arith

-- What the stage of a timetable that a person gives comes to, by what was read and tested.
use Rattle.plan_num.proofs.Common.{arith, ◌≡◌, ◌++◌, List, [], ℕ, Option, Some, None, Ok, Err, refl}
use Rattle.plan_num.proofs.Common.{ap, sym, subst, ◌∙◌}
use Rattle.tables.specs.declared.file_id.FileId.TheVariants as file
use Rattle.giv_files.specs.declared.made.Made.{Made}
use Rattle.giv_files.proofs.Common.{BundleParts, StageGives, input_text, stage_refused}
use Rattle.tables.specs.declared.refusal.Refusal.{Refusal}
use Rattle.tables.specs.declared.refusal.StageFault.{StageFault}
use Rattle.tables.proofs.Common.{Refuses, input_faults, or_else, records_of, refused_append}
use Rattle.tables.proofs.Common.{front_none, refused_before}
use Rattle.tables.specs.declared.refusal.Refusal.TheVariants as refusal
use Rattle.tables.specs.declared.refusal.StageFault.TheVariants as fault
use Rattle.tables.specs.declared.row_why.RowWhy.TheVariants as why
use Rattle.event_tables.specs.declared.periodic_event.PeriodicEvent.{PeriodicEvent}
use Rattle.event_tables.proofs.Common.{periodic_event_ids, periodic_event_input}
use Rattle.event_tables.proofs.Common.{periodic_time_input}
use Rattle.pesp_model.specs.PespTexts.{events_of, problem_faults}
use Rattle.pesp.specs.Timetables.{Problem, first_broken}
use Rattle.pesp_search.specs.Judged.{times_in}
use Rattle.pesp_search.specs.PinnedTimetables.{pinned_input, pinned_timetable_faults, pinned_timetable_stage}
use Rattle.pesp_search.specs.PinnedTimetables.{tension_faults, times_kept}
use Rattle.pesp_search.specs.TimetableStage.{period_in, problem_in, timetable_faults}

module _ (bundle : BundleParts) where
  abbrev text : List ℕ
  text = input_text bundle 2

  abbrev reads : List Refusal
  reads = input_faults (pinned_input bundle) text

  abbrev broken : Option ℕ
  broken = first_broken (problem_in bundle) (times_in text)

  refused : (fault : StageFault) → Refuses (pinned_timetable_faults bundle) fault
      → StageGives (pinned_timetable_stage bundle) (Err fault)
  unfolding pinned_timetable_stage
  refused fault by = stage_refused (pinned_timetable_faults bundle) (times_kept (times_in text)) fault by

  -- the inputs of the problem are refused
  pub problem_refused : (fault : StageFault) → Refuses (timetable_faults bundle) fault
      → StageGives (pinned_timetable_stage bundle) (Err fault)
  problem_refused fault by = refused fault (refused_append (timetable_faults bundle) _ fault by)

  -- the file of times, by the period and the events that were read
  pub same_faults : (period : ℕ) (events : List PeriodicEvent) (first last : List ℕ) → period ≡ period_in bundle
      → first ≡ input_text bundle 0 → events ≡ records_of periodic_event_input first → last ≡ text
      → input_faults (periodic_time_input file.PinnedTimes period (periodic_event_ids events)) last ≡ reads
  unfolding events_of
  same_faults period events first last period_is first_is events_are last_is =
      rw (period_is, events_are, first_is, last_is) refl

  -- what a test of the times tells
  pub broken_is : (problem : Problem) (times : List ℕ) (found told : Option ℕ) → problem ≡ problem_in bundle
      → times ≡ times_in text → found ≡ first_broken problem times → found ≡ told → broken ≡ told
  broken_is problem times found told same read is tells = rw (sym same, sym read) (sym is ∙ tells)

  module _ (inputs : timetable_faults bundle ≡ []) where
    left : pinned_timetable_faults bundle ≡ or_else reads (tension_faults bundle (times_in text))
    left = ap (λ some. some ++ or_else reads (tension_faults bundle (times_in text))) inputs

    -- the file of the times is refused
    pub times_refused : (fault : StageFault) → Refuses reads fault
        → StageGives (pinned_timetable_stage bundle) (Err fault)
    times_refused fault by =
        refused fault (subst (λ all. Refuses all fault) (sym left)
        (refused_before reads (tension_faults bundle (times_in text)) fault by))

    -- the events have no fault when they are read once more
    pub events_fine : (first : List ℕ) → first ≡ input_text bundle 0 → (others : List Refusal) (fault : StageFault)
        → Refuses (input_faults periodic_event_input first) fault → Refuses others fault
    unfolding problem_faults
    events_fine first is others (fault.Refused reason) by =
        let none = front_none (input_faults periodic_event_input (input_text bundle 0)) _ inputs in
        grind (arith, refused)
    events_fine first is others fault.NoMemory by = tt

    module _ (none : reads ≡ []) where
      tested : pinned_timetable_faults bundle ≡ tension_faults bundle (times_in text)
      tested = left ∙ ap (λ some. or_else some (tension_faults bundle (times_in text))) none

      -- some activity is not in its bounds
      pub not_feasible : (at : ℕ) → broken ≡ Some at
          → StageGives (pinned_timetable_stage bundle) (Err (fault.Refused (refusal.BadRow file.PinnedTimes 0 why.NotFeasible)))
      unfolding pinned_timetable_stage
      not_feasible at is = grind arith

      -- they are a timetable
      pub times_taken : (times : List ℕ) (made : Made) → broken ≡ None → times ≡ times_in text
          → made ≡ times_kept times → StageGives (pinned_timetable_stage bundle) (Ok made)
      unfolding pinned_timetable_stage
      times_taken times made is read kept = grind arith

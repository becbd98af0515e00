-- The definitions on small problems.
use Rattle.plan_num.proofs.Common.{◌≡◌, ◌≤◌, ◌+◌, ◌%◌, ◌≤ℤ◌, ℕ, ℤ, List, [], ◌∷◌, ◌++◌, map, refl}
use Rattle.plan_num.proofs.Common.{pos, codes, Some, None, arith, ints}
use Rattle.tables.specs.declared.file_id.FileId.TheVariants as file
use Rattle.tables.specs.declared.row_why.RowWhy.TheVariants as why
use Rattle.tables.specs.declared.refusal.Refusal.TheVariants as refusal
use Rattle.tables.specs.Inputs.{input_faults, row_faults}
use Rattle.tables.specs.Reading.{faults, errors, row_whys}
use Rattle.tables.specs.Reading.{table_of, cells_from, cell_of, values}
use Rattle.text_fields.specs.Rows.{rows, cleaned}
use Rattle.plan_num.specs.Number.{spelling_of, value_of, value_at, fixed_of, whole_of}
use Rattle.pesp.specs.declared.activity.PespActivity.{PespActivity}
use Rattle.pesp_model.specs.PespTexts.{events_of, activities_of, problem_of, problem_faults}
use Rattle.pesp.specs.Timetables.{Problem, IsKept, IsTension, tension, time_of, first_broken}

all_timetables_of :
    -- the tension goes past the end of the period
    (tension 20 (pos 2) 4 0 ≡ pos 16)
    × (tension 20 (pos 0) 5 5 ≡ pos 0)
    -- a lower bound of many periods, and a period of one minute
    × (tension 20 (pos 100000) 19 0 ≡ pos 100001)
    × (tension 1 (pos 7) 0 0 ≡ pos 7)
all_timetables_of = (refl, refl, refl, refl)

abbrev goes : ℕ → ℕ → ℕ → ℕ → PespActivity
goes from to lower upper = record { from = from; to = to; lower = pos lower; upper = pos upper }

-- ---- two lines in both directions, with six changes

abbrev lines : Problem
lines = record {
  period = 20;
  events = 12;
  activities = goes 0 1 4 5 ∷ goes 1 2 1 3 ∷ goes 2 3 6 6 ∷ goes 4 5 6 6 ∷ goes 5 6 1 3
      ∷ goes 6 7 4 5 ∷ goes 8 9 4 5 ∷ goes 10 11 4 5 ∷ goes 1 10 2 62 ∷ goes 5 10 2 62
      ∷ goes 7 8 2 62 ∷ goes 9 2 2 62 ∷ goes 9 6 2 62 ∷ goes 11 0 2 62 ∷ [];
}

abbrev their_times : List ℕ
their_times = 0 ∷ 4 ∷ 5 ∷ 11 ∷ 0 ∷ 6 ∷ 7 ∷ 11 ∷ 0 ∷ 4 ∷ 0 ∷ 4 ∷ []

abbrev tensions_in : Problem → List ℕ → List ℤ
tensions_in problem times = map (λ activity. tension problem.period activity.lower
    (time_of times activity.from) (time_of times activity.to)) problem.activities

tensions_of :
    -- their tensions
    (tensions_in lines their_times ≡ pos 4 ∷ pos 1 ∷ pos 6 ∷ pos 6 ∷ pos 1 ∷ pos 4
    ∷ pos 4 ∷ pos 4 ∷ pos 16 ∷ pos 14 ∷ pos 9 ∷ pos 21 ∷ pos 3 ∷ pos 16 ∷ [])
    -- they are kept
    × (first_broken lines their_times ≡ None)
unfolding first_broken
tensions_of = (refl, refl)

-- ---- a drive, a wait and a sync back to the first event

abbrev three : Problem
three = record {
  period = 10;
  events = 3;
  activities = goes 0 1 3 5 ∷ goes 1 2 2 2 ∷ goes 2 0 4 4 ∷ [];
}

first_broken_ones :
    (first_broken three (0 ∷ 4 ∷ 6 ∷ []) ≡ None)
    × (first_broken three (0 ∷ 3 ∷ 6 ∷ []) ≡ Some 1)
    × (first_broken three (0 ∷ 5 ∷ 7 ∷ []) ≡ Some 2)
unfolding first_broken
first_broken_ones = (refl, refl, refl)

-- ---- from texts

abbrev events : List ℕ
events = codes "# events\n1; departure; 1; 1; >; 1\n2; arrival; 2; 1; >; 1\n"
    ++ codes "3; departure; 2; 1; >; 1\n"

abbrev activities : List ℕ
activities = codes "1; drive; 1; 2; 3; 5\n2; wait; 2; 3; 2; 2\n3; sync; 3; 1; 4; 4\n"

texts_of_problems :
    (problem_of 10 events activities ≡ three)
    × (problem_faults events activities ≡ [])
    × (problem_faults events
    (codes "1; drive; 1; 2; 3; 5\n3; wait; 2; 9; 2; 2\n3; sync; 3; 1; 4; 3\n")
    ≡ refusal.BadRow file.ActivitiesP 2 why.OrderGap
    ∷ refusal.BadRow file.ActivitiesP 2 why.UnknownEvent
    ∷ refusal.BadRow file.ActivitiesP 3 why.BoundsCrossed
    ∷ [])
    -- the faults of the events come before those of the activities
    × (problem_faults (codes "2; arrival; 1; 1; >; 1\n") (codes "1; drive; 1; 2; 5; 3\n")
    ≡ refusal.BadRow file.EventsP 1 why.OrderGap
    ∷ refusal.BadRow file.ActivitiesP 1 why.UnknownEvent
    ∷ refusal.BadRow file.ActivitiesP 1 why.BoundsCrossed
    ∷ [])
unfolding problem_of events_of activities_of table_of cells_from cell_of values rows cleaned spelling_of
    value_of value_at fixed_of whole_of problem_faults input_faults row_faults faults errors row_whys
texts_of_problems = (refl, refl, refl, refl)

-- ---- the words of the subject, on one activity and on one that no number of periods keeps

back : IsKept 10 (0 ∷ 4 ∷ 6 ∷ []) (goes 2 0 4 4)
back = record { minutes = 4; leads = refl; enough = omega arith; short = omega arith }

least : IsTension 20 (pos 2) 4 0 16
least = record { leads = refl; enough = omega arith; least = later }
  where
    later : (other : ℕ) → (4 + other) % 20 ≡ 0 → pos 2 ≤ℤ pos other → 16 ≤ other
    later other leads enough = omega arith

never : ¬ IsKept 10 (0 ∷ 5 ∷ []) (goes 0 1 2 4)
never it = apart it.minutes it.leads it.short
  where
    apart : (minutes : ℕ) → (0 + minutes) % 10 ≡ 5 → pos minutes ≤ℤ pos 4 → ⊥
    apart minutes leads short = omega (arith, ints)

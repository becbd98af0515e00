-- Events that were made later have their times before again, one after the other.
use Rattle.plan_num.proofs.Common.{◌≡◌, ℕ, List, [], ◌∷◌, ◌++◌, slice_set, Some, arith}
use Rattle.delay_trials.specs.declared.moved_event.Moved.{Moved}
use Rattle.delay_trials.specs.OnTrial.{IsDropping, IsLastMoved, IsUndoing, TrialTimes, rewound}

pub undone_one : (left : ℕ) (first old popped new : TrialTimes) (last : Moved) → IsUndoing left first old
    → IsLastMoved left old popped (Some last)
    → new ≡ record popped { times = slice_set popped.times last.event last.before }
    → IsUndoing left first new
undone_one left first old popped new last is moved timed top rest parts size =
    by (so_far.0) so_far.1 so_far.2
  where
    so_far : (more : List Moved) × (old ≡ record first { times = old.times; noted = more ++ rest })
        × (rewound more old.times ≡ rewound top first.times)
    so_far = is top rest parts size

    by : (more : List Moved) → old ≡ record first { times = old.times; noted = more ++ rest }
        → rewound more old.times ≡ rewound top first.times
        → (more : List Moved) × (new ≡ record first { times = new.times; noted = more ++ rest })
        × (rewound more new.times ≡ rewound top first.times)
    by [] same told = grind arith
    by (m ∷ more) same told = grind arith

pub dropped_one : (left : ℕ) (first old popped : TrialTimes) (last : Moved) → IsDropping left first old
    → IsLastMoved left old popped (Some last) → IsDropping left first popped
dropped_one left first old popped last is moved top rest parts size = by so_far.0 so_far.1
  where
    so_far : (more : List Moved) × (old ≡ record first { noted = more ++ rest })
    so_far = is top rest parts size

    by : (more : List Moved) → old ≡ record first { noted = more ++ rest }
        → (more : List Moved) × (popped ≡ record first { noted = more ++ rest })
    by [] same = grind arith
    by (m ∷ more) same = grind arith

-- The least of some numbers as a problem for branch and bound: a region is a range of places.
use Rattle.std.specs.Prelude.{ℕ, ℤ, pos, ◌+◌, ◌-◌, ◌≤◌, ◌<◌, ◌≤ℤ◌, ◌&&◌, nat_lt}
use Rattle.std.specs.Prelude.{if◌then◌else◌, Bool, true, false, List, length, get_or, Option, Some, None}
use Rattle.branch_and_bound.specs.Branchings.{BranchingParts, Entry}

-- the number at a place
abbrev pub number_at : List ℕ → ℕ → ℕ
number_at numbers place = get_or numbers place 0

-- a place is better than the best one so far, where there is one
abbrev pub is_better : List ℕ → ℕ → Option ℕ → Bool
is_better numbers place None = true
is_better numbers place (Some best) = nat_lt (number_at numbers place) (number_at numbers best)

-- what is said of a range: where it is split, or else nothing, with its one place where that is
-- better
abbrev pub look_by : List ℕ → ℕ × ℕ → Option ℕ → Bool → Entry (Option ℕ) ℕ
look_by numbers range best true = (Some (range.0 + 1), None)
look_by numbers range best false =
    (None, if nat_lt range.0 range.1 && is_better numbers range.0 best then Some range.0 else None)

abbrev pub look_at : List ℕ → ℕ × ℕ → Option ℕ → Entry (Option ℕ) ℕ
look_at numbers range best = look_by numbers range best (nat_lt 1 (range.1 - range.0))

-- the parts of a range by a place inside it
abbrev pub parts_by : ℕ × ℕ → ℕ → Bool → Option ((ℕ × ℕ) × (ℕ × ℕ))
parts_by range at false = None
parts_by range at true = Some ((range.0, at), (at, range.1))

abbrev pub parts_at : ℕ × ℕ → Option ℕ → Option ((ℕ × ℕ) × (ℕ × ℕ))
parts_at range None = None
parts_at range (Some at) = parts_by range at (nat_lt range.0 at && nat_lt at range.1)

abbrev pub least : List ℕ → BranchingParts (ℕ × ℕ) (Option ℕ) ℕ
least numbers = record {
  root = (0, length numbers);
  look = look_at numbers;
  parts = parts_at;
  levels = λ range. range.1 - range.0;
  cost = λ place. pos (number_at numbers place);
}

-- a place lies in a range
abbrev pub LiesAt : ℕ × ℕ → ℕ → Type 0
LiesAt range place = (range.0 ≤ place) × (place < range.1)

-- a node shows a cost: no number of its range is less
abbrev pub ShowsAt : List ℕ → ℕ × ℕ → Option ℕ → ℤ → Type 0
ShowsAt numbers range said cost =
    (place : ℕ) → LiesAt range place → cost ≤ℤ pos (number_at numbers place)

-- a range of places of numbers
abbrev pub IsRange : List ℕ → ℕ × ℕ → Type 0
IsRange numbers range = (range.0 ≤ range.1) × (range.1 ≤ length numbers)

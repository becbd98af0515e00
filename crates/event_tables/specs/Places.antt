-- Rules that several files share: rows that are numbered in their order, events that are there, bounds in
-- order, and a row for each event.
use Rattle.std.specs.Prelude.{ℕ, ◌≡◌, ◌+◌, ◌≤◌, ◌==◌, ◌||◌, nat_lt, nat_eq, Bool, not, List, length, map}
use Rattle.std.specs.List.{list_any, range_with_len}
use Rattle.tables.specs.declared.row_why.RowWhy.TheVariants as why
use Rattle.tables.specs.Inputs.{RowRule, TableRule, whole_rule}

-- the rule that the id of a row is its place, from 1
abbrev pub own_place : {X : Type 0} → (X → ℕ) → RowRule X
own_place id =
    record { is_broken = λ before row. not (id row == length before + 1); why = why.OrderGap }

-- the ids of rows are their places, from 1
abbrev pub AreNumbered : {X : Type 0} → (X → ℕ) → List X → Type 0
AreNumbered id rows = map id rows ≡ range_with_len 1 (length rows)

-- an id that is none of some
abbrev pub is_none_of : List ℕ → ℕ → Bool
is_none_of ids id = not (list_any (nat_eq id) ids)

-- the rule that the event of a row is one of some
abbrev pub known_event : {X : Type 0} → List ℕ → (X → ℕ) → RowRule X
known_event events event =
    record { is_broken = λ _ row. is_none_of events (event row); why = why.UnknownEvent }

-- the rule that both ends of a row are
abbrev pub known_ends : {X : Type 0} → List ℕ → (X → ℕ) → (X → ℕ) → RowRule X
known_ends events from to = record {
  is_broken = λ _ row. is_none_of events (from row) || is_none_of events (to row);
  why = why.UnknownEvent;
}

-- the rule that an upper bound is not below the lower one
abbrev pub bounds_in_order : {X : Type 0} → (X → ℕ) → (X → ℕ) → RowRule X
bounds_in_order lower upper =
    record { is_broken = λ _ row. nat_lt (upper row) (lower row); why = why.BoundsCrossed }

-- the rule that each event has a row
abbrev pub all_there : {X : Type 0} → List ℕ → (X → ℕ) → TableRule X
all_there events event =
    whole_rule (λ rows. list_any (is_none_of (map event rows)) events) why.MissingEvent

-- one of so many ids, which count from 1
abbrev pub IsOneOf : ℕ → ℕ → Type 0
IsOneOf count id = (1 ≤ id) × (id ≤ count)

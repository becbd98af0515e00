-- Inner words: marks of events, and what a reason tells.
use Rattle.std.specs.Prelude.{ℕ, ◌||◌, nat_eq, Bool, true, false, List, get_or, slice_set}
use Rattle.std.specs.List.{fold}
use Rattle.propagation.specs.declared.reason.Reason.{Reason}
use Rattle.propagation.specs.declared.reason.Reason.TheVariants as reason

-- an event is marked where it was, or where something is so
abbrev pub with_mark : List Bool → ℕ → Bool → List Bool
with_mark marks event is = slice_set marks event (get_or marks event false || is)

-- the same for the events of some items, one after the other
abbrev pub marked_by : {X : Type 0} → (X → ℕ) → (X → Bool) → List Bool → List X → List Bool
marked_by event is marks items =
    fold (λ marks item. with_mark marks (event item) (is item)) marks items

-- a reason is the earliest time, it names an activity, or it is a turn
abbrev pub is_source : Reason → Bool
is_source reason.Source = true
is_source _ = false

abbrev pub names : Reason → ℕ → Bool
names (reason.Activity named) id = nat_eq named id
names _ id = false

abbrev pub is_turn : Reason → Bool
is_turn reason.Turn = true
is_turn _ = false

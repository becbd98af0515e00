-- Events of a day, and the order in which it goes forward.
use Rattle.std.specs.Prelude.{ℕ, ◌≡◌, ◌+◌, ◌*◌, false, Bool, if◌then◌else◌, List, [], ◌∷◌, length, map, get_or}
use Rattle.std.specs.Cmp.Lexicographic.{slice_cmp}
use Rattle.std.specs.List.{range_with_len}
use Rattle.std.specs.Ordering.{nat_cmp, is_lt}
use Rattle.propagation.specs.declared.day_event.DayEvent.{DayEvent}

-- the event at an index where there is none
abbrev pub no_event : DayEvent
no_event = record { id = 0; arrives = false; time = 0 }

-- the ids of things are their places, from 1
abbrev pub AreNumbered : {X : Type 0} → (X → ℕ) → List X → Type 0
AreNumbered id rows = map id rows ≡ range_with_len 1 (length rows)

-- where an event stands in the forward order: by its planned time, arrivals first, then by its id
abbrev pub forward_key : DayEvent → List ℕ
forward_key event = event.time ∷ (if event.arrives then 0 else 1) ∷ event.id ∷ []

-- an event stands before another in the forward order
abbrev pub stands_before : DayEvent → DayEvent → Bool
stands_before event other = is_lt (slice_cmp nat_cmp (forward_key event) (forward_key other))

-- what a departure comes later than an arrival of the same time
abbrev pub departs_later : DayEvent → ℕ
departs_later event = if event.arrives then 0 else 2147483648

-- where an event stands in the forward order, as one number: its time, then arrivals, then its
-- index
abbrev pub forward_rank : List DayEvent → ℕ → ℕ
forward_rank events event =
    (get_or events event no_event).time * 4294967296
    + (departs_later (get_or events event no_event) + event)

-- The forward order as one number.
use Rattle.plan_num.proofs.Common.{◌≡◌, ◌∙◌, ℕ, ◌+◌, ◌<◌, ◌≤◌, ◌⊎◌, Bool, true, false, cond, List}
use Rattle.plan_num.proofs.Common.{length, get_or, refl, ap, sym, arith, nat_cmp, is_lt}
use Rattle.plan_num.proofs.Common.{ordering_then, false≢true, get_or-map, get_or-range_with_len}
use Rattle.std.specs.declared.cmp.Ordering.{Ordering}
use Rattle.propagation.specs.declared.day_event.DayEvent.{DayEvent}
use Rattle.propagation.specs.DayEvents.{AreNumbered, forward_rank, no_event, stands_before}

-- things that are numbered in their order have the ids of their places
pub id_at : {X : Type 0} (id : X → ℕ) (rows : List X) (i : ℕ) (d : X) → AreNumbered id rows
    → i < length rows → id (get_or rows i d) ≡ i + 1
id_at id rows i d are inside =
    let place : 1 + i ≡ i + 1 = omega arith in
    sym (get_or-map id rows i d 0 inside)
    ∙ ap (λ ids. get_or ids i 0) are
    ∙ get_or-range_with_len 1 (length rows) i 0 inside
    ∙ place

-- the event at an index
abbrev pub at : List DayEvent → ℕ → DayEvent
at events event = get_or events event no_event

-- the first of two numbers that differ decides
decided : (x y : ℕ) (rest : Ordering) → is_lt (ordering_then (nat_cmp x y) rest) ≡ true
    → (x < y) ⊎ ((x ≡ y) × (is_lt rest ≡ true))
decided x y rest = grind arith

-- what comes later of an arrival and of a departure
lateness : (b : Bool) → ℕ
lateness b = cond b 0 2147483648

place_of : Bool → ℕ
place_of b = cond b 0 1

later_place : (a b : Bool) → (place_of a < place_of b) → lateness a + 2147483648 ≤ lateness b
unfolding place_of lateness
later_place true true h = absurd (omega arith)
later_place true false h = omega arith
later_place false true h = absurd (omega arith)
later_place false false h = absurd (omega arith)

same_place : (a b : Bool) → place_of a ≡ place_of b → lateness a ≡ lateness b
unfolding place_of lateness
same_place true true h = refl
same_place true false h = absurd (omega arith)
same_place false true h = absurd (omega arith)
same_place false false h = refl

most_late : (a : Bool) → lateness a ≤ 2147483648
unfolding lateness
most_late true = omega arith
most_late false = omega arith

-- of two events in the forward order the second has the greater rank
pub rank_rises : (events : List DayEvent) (from to : ℕ)
    → AreNumbered (λ event. event.id) events → length events ≤ 100000 → from < length events
    → to < length events → stands_before (at events from) (at events to) ≡ true
    → forward_rank events from < forward_rank events to
unfolding lateness place_of
rank_rises events from to are few from_there to_there before = grind (
  arith,
  decided,
  lateness,
  place_of,
  id_at,
  same_place,
  false≢true,
  later_place,
  most_late,
)

-- of two events in the forward order the second is planned no earlier
pub planned_rises : (events : List DayEvent) (from to : ℕ)
    → stands_before (at events from) (at events to) ≡ true
    → (at events from).time ≤ (at events to).time
planned_rises events from to before = grind (arith, decided)

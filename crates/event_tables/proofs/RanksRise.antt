-- The forward order as one number.
use Rattle.plan_num.proofs.Common.{◌≡◌, ◌∙◌, ℕ, ◌+◌, ◌-◌, ◌<◌, ◌≤◌, ◌⊎◌, Bool, true, false, cond}
use Rattle.plan_num.proofs.Common.{List, [], length, get_or, Some, refl, ap, sym, arith, nat_cmp}
use Rattle.plan_num.proofs.Common.{is_lt, ordering_then, false≢true, get_or-map}
use Rattle.plan_num.proofs.Common.{get_or-range_with_len}
use Rattle.std.specs.declared.cmp.Ordering.{Ordering}
use Rattle.event_tables.specs.declared.expanded_event.ExpandedEvent.{ExpandedEvent}
use Rattle.event_tables.specs.Cells.{expanded_event}
use Rattle.event_tables.specs.ForwardOrder.{both_pass, event_with, goes_forward, stands_before}
use Rattle.event_tables.specs.ForwardRanks.{forward_rank}
use Rattle.event_tables.specs.Places.{AreNumbered, IsOneOf}
use Rattle.event_tables.proofs.Numbering.{find_numbered}

-- things that are numbered in their order have the ids of their places
pub id_at : {X : Type 0} (id : X → ℕ) (rows : List X) (i : ℕ) (d : X) → AreNumbered id rows
    → i < length rows → id (get_or rows i d) ≡ i + 1
id_at id rows i d are inside =
    let place : 1 + i ≡ i + 1 = omega arith in
    sym (get_or-map id rows i d 0 inside)
    ∙ ap (λ ids. get_or ids i 0) are
    ∙ get_or-range_with_len 1 (length rows) i 0 inside
    ∙ place

-- the event at an index
abbrev pub at : List ExpandedEvent → ℕ → ExpandedEvent
at events event = get_or events event (expanded_event [])

-- the event of an id that goes before that of another stands there
pub at_places : (events : List ExpandedEvent) (from to : ℕ) → AreNumbered (λ event. event.id) events
    → IsOneOf (length events) from → IsOneOf (length events) to → goes_forward events from to ≡ true
    → stands_before (at events (from - 1)) (at events (to - 1)) ≡ true
at_places events from to are one other goes =
    sym (ap (λ first. both_pass stands_before first (event_with events to))
    (find_numbered (λ event. event.id) from events (expanded_event []) are one)
    ∙ ap (both_pass stands_before (Some (at events (from - 1))))
    (find_numbered (λ event. event.id) to events (expanded_event []) are other)) ∙ goes

-- the first of two numbers that differ decides
decided : (x y : ℕ) (rest : Ordering) → is_lt (ordering_then (nat_cmp x y) rest) ≡ true
    → (x < y) ⊎ ((x ≡ y) × (is_lt rest ≡ true))
decided x y rest = grind arith

-- what comes later of an arrival and of a departure
lateness : (b : Bool) → ℕ
lateness b = cond b 0 2147483648

place_of : Bool → ℕ
place_of b = cond b 0 1

later_place : (a b : Bool) → (place_of a < place_of b) → lateness a + 2147483648 ≤ lateness b
unfolding place_of lateness
later_place true true h = absurd (omega arith)
later_place true false h = omega arith
later_place false true h = absurd (omega arith)
later_place false false h = absurd (omega arith)

same_place : (a b : Bool) → place_of a ≡ place_of b → lateness a ≡ lateness b
unfolding place_of lateness
same_place true true h = refl
same_place true false h = absurd (omega arith)
same_place false true h = absurd (omega arith)
same_place false false h = refl

most_late : (a : Bool) → lateness a ≤ 2147483648
unfolding lateness
most_late true = omega arith
most_late false = omega arith

-- of two events in the forward order the second has the greater rank
pub rank_rises : (events : List ExpandedEvent) (from to : ℕ)
    → AreNumbered (λ event. event.id) events → length events ≤ 100000 → from < length events
    → to < length events → stands_before (at events from) (at events to) ≡ true
    → forward_rank events from < forward_rank events to
unfolding lateness place_of
rank_rises events from to are few from_there to_there before = grind (
  arith,
  decided,
  lateness,
  place_of,
  id_at,
  same_place,
  false≢true,
  later_place,
  most_late,
)

-- The lists of events by their keys have all events that an event is joined to.
use Rattle.plan_num.proofs.Common.{◌≡◌, ℕ, ◌%◌, ◌<◌, ◌≤◌, arith, Bool, true, List, [], ◌∷◌, length}
use Rattle.plan_num.proofs.Common.{filter, get_or, refl, eq-eqb, cases_Bool, both_ways}
use Rattle.plan_num.proofs.Common.{false_from_ne_true, length-filter, count_by-le-length}
use Rattle.event_activity.specs.declared.joining.Joining.{Joining}
use Rattle.event_activity.specs.declared.joining.Joining.TheVariants as joining
use Rattle.event_activity.specs.declared.run_event.RunEvent.{RunEvent}
use Rattle.event_activity.specs.Activities.{joined}
use Rattle.event_activity.specs.NextEvents.{AreNextEvents, key_from, key_of, may_end, stands_in}
use Rattle.plan_num.proofs.Lists.{filter_few}

-- ---- filters

-- what passes a test is found among what passes a weaker one
filter_within : {X : Type 0} (p q : X → Bool) (xs : List X)
    → ((x : X) → p x ≡ true → q x ≡ true) → filter p (filter q xs) ≡ filter p xs
filter_within p q [] weaker = refl
filter_within p q (x ∷ xs) weaker =
    grind (arith, cases_Bool, false_from_ne_true, both_ways, filter_within p q xs weaker)

-- ---- keys

-- an event that is joined to another one may end, and has its key
ends : (by : Joining) (event next : RunEvent) → joined by event next ≡ true
    → (may_end by next ≡ true) × (key_of by next ≡ key_from by event)
ends joining.Run event next is = grind arith
ends joining.Sync event next is = grind arith
ends joining.Change event next is = grind arith
ends joining.Headway event next is = grind arith

module _ (by : Joining) (events : List RunEvent) (lists : List (List RunEvent))
    (are : AreNextEvents by events lists) (event : RunEvent) where
  abbrev list : ℕ
  list = key_from by event % length lists

  abbrev test : RunEvent → Bool
  test = stands_in by (length lists) list

  stands : (next : RunEvent) → joined by event next ≡ true → test next ≡ true
  stands next is = grind (arith, ends, eq-eqb)

  -- they are all in the list of its key
  pub all_among : (some : List RunEvent) → some ≡ get_or lists list []
      → filter (joined by event) some ≡ filter (joined by event) events
  all_among some is = grind (arith, filter_within, stands)

  pub few_among : (some : List RunEvent) → some ≡ get_or lists list []
      → length some ≤ length events
  few_among some is = grind (arith, filter_few)

-- ---- the lists after some events

pub record NotedTo (by : Joining) (count : ℕ) (events : List RunEvent)
    (lists : List (List RunEvent)) : Type 0 where
  pub size : length lists ≡ count
  pub each : (list : ℕ) → list < count
      → get_or lists list [] ≡ filter (stands_in by count list) events

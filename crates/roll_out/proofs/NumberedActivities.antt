-- Activities with their places as ids.
use Rattle.plan_num.proofs.Common.{◌≡◌, ℕ, ◌+◌, List, [], ◌∷◌, length, map, refl, ap, arith}
use Rattle.plan_num.proofs.Common.{AllByRecursion, enumerate_from, range_with_len}
use Rattle.event_tables.specs.declared.expanded_activity.ExpandedActivity.{ExpandedActivity}
use Rattle.event_tables.specs.declared.expanded_event.ExpandedEvent.{ExpandedEvent}
use Rattle.event_tables.proofs.Common.{IsExpandedActivity}
use Rattle.roll_out.specs.DayActivities.{with_number}

-- their ids are these places
pub numbers_are : (n : ℕ) (plain : List ExpandedActivity)
    → map (λ (row : ExpandedActivity). row.id) (map with_number (enumerate_from n plain))
    ≡ range_with_len n (length plain)
numbers_are n [] = refl
numbers_are n (row ∷ plain) = ap (λ ids. n ∷ ids) (numbers_are (n + 1) plain)

-- an activity is accepted whatever its number
pub numbered_good : (events : List ExpandedEvent) (n : ℕ) (plain : List ExpandedActivity)
    → AllByRecursion (IsExpandedActivity events) plain
    → AllByRecursion (IsExpandedActivity events) (map with_number (enumerate_from n plain))
numbered_good events n [] good = tt
numbered_good events n (row ∷ plain) good = grind (arith, numbered_good events (n + 1) plain good.1)

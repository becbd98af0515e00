-- How many drives and waits a trip has.
use Rattle.plan_num.proofs.Common.{◌≡◌, ℕ, ◌+◌, List, [], ◌∷◌, length, Option, Some, None, refl, ap}
use Rattle.plan_num.proofs.Common.{sym, ◌∙◌, flat_map, enumerate_from, sum_by, length-append}
use Rattle.plan_num.proofs.Common.{sum_by-cons}
use Rattle.std.proofs.lemmas.List.Concat.{flat_map-cons}
use Rattle.event_tables.specs.declared.event_kind.EventKind.{EventKind}
use Rattle.event_tables.specs.declared.expanded_activity.ExpandedActivity.{ExpandedActivity}
use Rattle.event_tables.specs.declared.periodic_activity.PeriodicActivity.{PeriodicActivity}
use Rattle.roll_out.specs.declared.timed_event.TimedEvent.{TimedEvent}
use Rattle.roll_out.specs.DayActivities.{way_from}

-- one where an activity is there, and else none
abbrev pub size_of : Option PeriodicActivity → ℕ
size_of None = 0
size_of (Some way) = 1

abbrev pub way_size : TimedEvent → ℕ
way_size at = size_of at.way

size_same : (event : EventKind) (id : ℕ) (way : Option PeriodicActivity)
    → length (way_from event id way) ≡ size_of way
size_same event id None = refl
size_same event id (Some way) = refl

abbrev ways : ℕ × TimedEvent → List ExpandedActivity
ways at = way_from at.1.event.kind at.0 at.1.way

pub ways_counted : (first : ℕ) (run : List TimedEvent)
    → length (flat_map ways (enumerate_from first run)) ≡ sum_by way_size run
ways_counted first [] = refl
ways_counted first (at ∷ run) =
    ap length (flat_map-cons ways (first, at) (enumerate_from (first + 1) run))
    ∙ length-append (way_from at.event.kind first at.way) (flat_map ways (enumerate_from (first + 1) run))
    ∙ ap (λ n. n + length (flat_map ways (enumerate_from (first + 1) run))) (size_same at.event.kind first at.way)
    ∙ ap (λ n. way_size at + n) (ways_counted (first + 1) run)
    ∙ sym (sum_by-cons way_size at run)

-- Why an event is not earlier.
use Rattle.std.specs.Prelude.{ℕ, ◌<◌, ◌≡◌, ◌==◌, ◌&&◌, nat_eq, nat_lt, Bool, true, if◌then◌else◌, List, ◌++◌, length}
use Rattle.std.specs.Prelude.{map, filter, get_or, Option, Some, None}
use Rattle.std.specs.List.{list_any, reduce, range_with_len}
use Rattle.propagation.specs.declared.reason.Reason.{Reason}
use Rattle.propagation.specs.declared.reason.Reason.TheVariants as reason
use Rattle.propagation.specs.declared.step.Activity.{Activity}
use Rattle.propagation.specs.declared.step.Step.{Step}
use Rattle.propagation.specs.LeastTimes.{time_at, asked}
use Rattle.propagation.specs.Problems.{DelayProblem, earliest_at}

-- a step into an event is tight: the event is just when the step asks it to be
abbrev pub is_tight : List ℕ → ℕ → Step → Bool
is_tight times event step = (step.to == event) && nat_eq (asked times step) (time_at times event)

-- the ids of the tight ones of some activities into an event
abbrev pub tight_among : List ℕ → ℕ → List Activity → List ℕ
tight_among times event activities =
    map (λ activity. activity.id)
    (filter (λ activity. is_tight times event activity.step) activities)

-- those of drives, waits and kept changes
abbrev pub tight_ids : DelayProblem → List Activity → List ℕ → ℕ → List ℕ
tight_ids problem kept times event = tight_among times event (problem.rides ++ kept)

-- a reason of an event is right: the event is at its earliest time, or the named activity or some
-- turn into it is tight
abbrev pub is_right : DelayProblem → List Activity → List ℕ → ℕ → Reason → Bool
is_right problem kept times event reason.Source =
    nat_eq (time_at times event) (earliest_at problem event)
is_right problem kept times event (reason.Activity id) =
    list_any (nat_eq id) (tight_ids problem kept times event)
is_right problem kept times event reason.Turn = list_any (is_tight times event) problem.turns

-- the lesser one of two ids
abbrev pub lesser : ℕ → ℕ → ℕ
lesser id other = if nat_lt other id then other else id

-- the activity of the least of some ids, or else a turn
abbrev pub by_activity : Option ℕ → Reason
by_activity None = reason.Turn
by_activity (Some id) = reason.Activity id

-- the reason of an event that is written: its earliest time where that is right, or else the least
-- activity that is, or else a turn
abbrev pub canonical_reason : DelayProblem → List Activity → List ℕ → ℕ → Reason
canonical_reason problem kept times event =
    if is_right problem kept times event reason.Source then reason.Source
    else by_activity (reduce lesser (tight_ids problem kept times event))

-- the reasons of all events that are written
unfoldable pub canonical_reasons : DelayProblem → List Activity → List ℕ → List Reason
canonical_reasons problem kept times =
    map (canonical_reason problem kept times) (range_with_len 0 (length problem.events))

-- the id of the activity that a reason names, or 0 for none
abbrev pub named_activity : Reason → ℕ
named_activity (reason.Activity id) = id
named_activity _ = 0

-- the reason of an event, among those of all
abbrev pub reason_for : List Reason → ℕ → Reason
reason_for reasons event = get_or reasons event reason.Turn

-- each event has a reason that is right
pub record AreRight (problem : DelayProblem) (kept : List Activity) (times : List ℕ)
    (reasons : List Reason) : Type 0 where
  pub each : length reasons ≡ length problem.events
  pub right : (event : ℕ) → event < length problem.events
      → is_right problem kept times event (reason_for reasons event) ≡ true

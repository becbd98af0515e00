-- Inner words: events that are early, or whose reasons are right, by the activities that count and
-- the turns.
use Rattle.std.specs.Prelude.{ℕ, ◌&&◌, ◌||◌, ◌==◌, nat_eq, nat_lt, Bool, List}
use Rattle.std.specs.List.{list_any}
use Rattle.propagation.specs.declared.reason.Reason.{Reason}
use Rattle.propagation.specs.declared.step.Activity.{Activity}
use Rattle.propagation.specs.declared.step.Step.{Step}
use Rattle.propagation.specs.LeastTimes.{asked, time_at}
use Rattle.propagation.specs.Marks.{is_source, is_turn, names}
use Rattle.propagation.specs.Reasons.{reason_for}

-- the head of a step is before what it asks, and just then
abbrev pub is_before : List ℕ → Step → Bool
is_before times step = nat_lt (time_at times step.to) (asked times step)

abbrev pub is_just : List ℕ → Step → Bool
is_just times step = nat_eq (asked times step) (time_at times step.to)

-- an event is early
abbrev pub is_early_by : List ℕ → List Activity → List Step → List ℕ → ℕ → Bool
is_early_by earliest activities turns times event =
    (nat_lt (time_at times event) (time_at earliest event)
    || list_any (λ activity. (activity.step.to == event) && is_before times activity.step)
    activities)
    || list_any (λ turn. (turn.to == event) && is_before times turn) turns

-- the reason of an event is right
abbrev pub is_right_by : List ℕ → List Activity → List Step → List ℕ → List Reason → ℕ → Bool
is_right_by earliest activities turns times reasons event =
    ((is_source (reason_for reasons event) && nat_eq (time_at times event) (time_at earliest event))
    || list_any (λ activity. (activity.step.to == event)
    && (names (reason_for reasons activity.step.to) activity.id && is_just times activity.step))
    activities)
    || list_any (λ turn. (turn.to == event)
    && (is_turn (reason_for reasons turn.to) && is_just times turn)) turns

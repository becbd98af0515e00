-- Inner words: the reason of an event by the least id of a tight activity.
use Rattle.std.specs.Prelude.{ℕ, nat_eq, if◌then◌else◌, List, get_or, Option, Some, None}
use Rattle.propagation.specs.declared.reason.Reason.{Reason}
use Rattle.propagation.specs.declared.reason.Reason.TheVariants as reason
use Rattle.propagation.specs.LeastTimes.{time_at}
use Rattle.propagation.specs.Reasons.{by_activity, lesser}

-- a least id, with one more
abbrev pub with_id : Option ℕ → ℕ → ℕ
with_id None id = id
with_id (Some least) id = lesser least id

-- the reason of an event, by the least id of a tight activity into it
abbrev pub reason_by : List ℕ → List ℕ → ℕ → Option ℕ → Reason
reason_by earliest times event id =
    if nat_eq (time_at times event) (get_or earliest event 0) then reason.Source else by_activity id

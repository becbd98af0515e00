-- How late times are: the delay of all arrivals, and the changes that are missed.
use Rattle.std.specs.Prelude.{ℕ, ℤ, pos, ◌+◌, ◌+ℤ◌, ◌-ℤ◌, nat_lt, if◌then◌else◌, Bool, List, length, filter, zip}
use Rattle.std.specs.List.{fold}
use Rattle.propagation.specs.declared.day_event.DayEvent.{DayEvent}
use Rattle.propagation.specs.declared.step.Activity.{Activity}
use Rattle.propagation.specs.LeastTimes.{time_at, asked}

-- how much later than planned an event is
abbrev pub lateness : DayEvent × ℕ → ℤ
lateness timed = pos timed.1 -ℤ pos timed.0.time

-- an event with its time that is an arrival
abbrev pub arrives : DayEvent × ℕ → Bool
arrives timed = timed.0.arrives

-- the delay: how late all arrivals are together
abbrev pub delay_at : List DayEvent → List ℕ → ℤ
delay_at events times =
    fold (λ sum timed. sum +ℤ lateness timed) (pos 0) (filter arrives (zip events times))

-- how much later than at one time an event is at another, where it is an arrival
abbrev pub more_delay : DayEvent → ℕ → ℕ → ℤ
more_delay event before time =
    if event.arrives then pos time -ℤ pos before else pos 0

-- a change is missed where its departure is earlier than its least minutes as planned allow
abbrev pub is_missed : List ℕ → Activity → Bool
is_missed times change =
    nat_lt (time_at times change.step.to) (time_at times change.step.from + change.step.lower)

-- how many changes are missed
abbrev pub missed_at : List Activity → List ℕ → ℕ
missed_at changes times = length (filter (is_missed times) changes)

-- times break a change: its departure is earlier than its least minutes and its delay allow
abbrev pub is_broken : List ℕ → Activity → Bool
is_broken times change = nat_lt (time_at times change.step.to) (asked times change.step)

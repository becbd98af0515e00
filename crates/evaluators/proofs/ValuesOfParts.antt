-- The values of each part, put together.
use Rattle.plan_num.proofs.Common.{arith, ◌≡◌, ◌≤◌, ℕ, suc, ℤ, ◌+◌, ltb, true, Bool, false, cond}
use Rattle.plan_num.proofs.Common.{List, [], ◌∷◌, ◌++◌, length, map, filter, take, refl, ap, codes}
use Rattle.plan_num.proofs.Common.{flat_map, fold, sum_by, take_all}
use Rattle.tables.specs.declared.refusal.Refusal.{Refusal}
use Rattle.tables.specs.declared.refusal.StageFault.{StageFault}
use Rattle.tables.proofs.Common.{Refuses}
use Rattle.event_tables.specs.declared.periodic_kind.PeriodicKind.TheVariants as kind
use Rattle.event_tables.specs.declared.disposed_time.DisposedTime.{DisposedTime}
use Rattle.event_tables.specs.declared.expanded_activity.ExpandedActivity.{ExpandedActivity}
use Rattle.event_tables.specs.declared.expanded_event.ExpandedEvent.{ExpandedEvent}
use Rattle.event_tables.specs.declared.periodic_activity.PeriodicActivity.{PeriodicActivity}
use Rattle.event_tables.specs.declared.periodic_event.PeriodicEvent.{PeriodicEvent}
use Rattle.event_tables.specs.declared.periodic_time.PeriodicTime.{PeriodicTime}
use Rattle.event_tables.specs.declared.schedule_row.ScheduleRow.{ScheduleRow}
use Rattle.propagation.proofs.Common.{missed_at}
use Rattle.delay_management.specs.DayLateness.{delay_at}
use Rattle.delay_management.specs.InputProblems.{activities_of}
use Rattle.evaluators.specs.declared.costed_line.CostedLine.{CostedLine}
use Rattle.evaluators.specs.declared.rows.CostRow.{CostRow}
use Rattle.evaluators.specs.declared.rows.LineRow.{LineRow}
use Rattle.evaluators.specs.declared.statistic.Statistic.{Statistic}
use Rattle.evaluators.specs.CostedLines.{costed, runs_cost}
use Rattle.evaluators.specs.Statistic.{cost_of_runs, day_values, empty_minutes, greatest_delay, line_values, measures}
use Rattle.evaluators.specs.Statistic.{minutes_with, periodic_values, times_of, vehicle_count}
use Rattle.evaluators.specs.StatisticInputs.{lines_of}
use Rattle.evaluators.specs.StatisticStage.{statistic_text, value_line}

-- ---- lists of faults

pub both_none : (some others : List Refusal) → some ≡ [] → others ≡ [] → some ++ others ≡ []
both_none some others e f = λ i. e i ++ f i

pub refused_next : (some others : List Refusal) (fault : StageFault) → some ≡ []
    → Refuses others fault → Refuses (some ++ others) fault
refused_next [] others fault e h = h
refused_next (first ∷ some) others fault e h = cc

-- ---- lines

sum_from : (costs : List CostRow) (sum : ℕ) (rows : List LineRow)
    → fold (λ sum line. sum + runs_cost line) sum (map (costed costs) rows)
    ≡ fold (λ sum row. sum + cost_of_runs costs row) sum rows
sum_from costs sum [] = refl
sum_from costs sum (row ∷ rows) = sum_from costs (sum + cost_of_runs costs row) rows

sum_costed : (costs : List CostRow) (rows : List LineRow)
    → sum_by runs_cost (map (costed costs) rows) ≡ sum_by (cost_of_runs costs) rows
sum_costed costs rows = sum_from costs 0 rows

count_costed : (costs : List CostRow) (rows : List LineRow)
    → length (filter (λ line. ltb 0 line.frequency) (map (costed costs) rows))
    ≡ length (filter (λ row. ltb 0 row.frequency) rows)
count_costed costs [] = refl
count_costed costs (row ∷ rows) = by (ltb 0 row.frequency) (count_costed costs rows)
  where
    by : (b : Bool) → length (filter (λ line. ltb 0 line.frequency) (map (costed costs) rows))
        ≡ length (filter (λ row. ltb 0 row.frequency) rows)
        → length (cond b (costed costs row ∷ filter (λ line. ltb 0 line.frequency)
        (map (costed costs) rows)) (filter (λ line. ltb 0 line.frequency) (map (costed costs)
        rows)))
        ≡ length (cond b (row ∷ filter (λ row. ltb 0 row.frequency) rows)
        (filter (λ row. ltb 0 row.frequency) rows))
    by true e = ap suc e
    by false e = e

pub lines_are : (costs : List CostRow) (rows : List LineRow) (lines : List CostedLine)
    (cost running : ℕ) → lines ≡ map (costed costs) (lines_of rows) → cost ≡ sum_by runs_cost lines
    → running ≡ length (filter (λ line. ltb 0 line.frequency) lines)
    → record { cost = cost; running = running } ≡ line_values costs rows
unfolding line_values
lines_are costs rows lines cost running are c r = grind (arith, sum_costed, count_costed)

-- ---- the periodic timetable

pub periodic_are : (period : ℕ) (events : List PeriodicEvent) (activities : List PeriodicActivity)
    (times : List PeriodicTime) (drive wait change : ℕ)
    → drive ≡ minutes_with period times activities kind.Drive
    → wait ≡ minutes_with period times activities kind.Wait
    → change ≡ minutes_with period times activities kind.Change
    → record {
      events = length events;
      activities = length activities;
      drive = drive;
      wait = wait;
      change = change;
    } ≡ periodic_values period events activities times
unfolding periodic_values
periodic_are period events activities times drive wait change d w c = grind arith

-- ---- the day

pub day_are : (events : List ExpandedEvent) (activities : List ExpandedActivity)
    (schedule : List ScheduleRow) (disposed : List DisposedTime) (vehicles minutes : ℕ) (delay : ℤ)
    (greatest missed : ℕ) → vehicles ≡ vehicle_count schedule → minutes ≡ empty_minutes schedule
    → delay ≡ delay_at events (times_of disposed)
    → greatest ≡ greatest_delay events (times_of disposed)
    → missed ≡ missed_at (activities_of true [] activities) (times_of disposed)
    → record {
      vehicles = vehicles;
      empty_minutes = minutes;
      delay = delay;
      greatest = greatest;
      missed = missed;
    } ≡ day_values events activities schedule disposed
unfolding day_values
day_are events activities schedule disposed vehicles minutes delay greatest missed v e d g m =
    grind arith

-- ---- the text

pub text_whole : (all : Statistic) (bytes : List ℕ) (i : ℕ) → 14 ≤ i
    → bytes ≡ codes "# key; value\n" ++ flat_map (value_line all) (take i measures)
    → bytes ≡ statistic_text all
unfolding statistic_text
text_whole all bytes i past is = grind (arith, take_all)

-- The text has the lines of the measures so far.
use Rattle.plan_num.proofs.Common.{◌≡◌, ◌++◌, codes, take, flat_map}
use Rattle.evaluators.specs.Statistic.{measures}
use Rattle.evaluators.specs.StatisticStage.{value_line}
use Rattle.evaluators.proofs.text.statistic_text.Given as goal

abbrev pub invariant-loop-measure : goal.invariant-loop-measure
invariant-loop-measure l = l.bytes.items
    ≡ codes "# key; value\n" ++ flat_map (value_line l.all) (take l.measure-index measures)

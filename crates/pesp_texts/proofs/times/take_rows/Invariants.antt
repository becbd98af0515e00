-- The rows so far give the times that stand.
use Rattle.plan_num.proofs.Common.{length}
use Rattle.pesp_texts.specs.declared.times.TheConstants.{NONE}
use Rattle.pesp_texts.specs.Texts.{AreTimed}
use Rattle.pesp_texts.proofs.times.take_rows.Given as goal

abbrev pub invariant-rows : goal.invariant-rows
invariant-rows l =
    AreTimed l.instance.names.keys l.instance.weighted.period NONE l.fn.rows l.rows l.times

abbrev pub decreases-rows : goal.decreases-rows
decreases-rows l = length l.rows

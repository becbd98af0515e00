-- The rows so far have the activities so far.
use Rattle.plan_num.proofs.Common.{length}
use Rattle.pesp_texts.specs.Texts.{AreRead}
use Rattle.pesp_texts.proofs.instance.take_rows.Given as goal

abbrev pub invariant-rows : goal.invariant-rows
invariant-rows l = AreRead l.names.keys l.activities.items l.fn.rows l.rows

abbrev pub decreases-rows : goal.decreases-rows
decreases-rows l = length l.rows

-- Fewer rows are left.
use Rattle.plan_num.proofs.Common.{length}
use Rattle.pesp_texts.proofs.certificate.take_all.Given as goal

abbrev pub decreases-rows : goal.decreases-rows
decreases-rows l = length l.rows

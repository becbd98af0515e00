use Rattle.plan_queries.proofs.Telling.{printing_ends}
use Rattle.plan_queries.proofs.waits.over.Goals as goal

pub returns-in-Ok-clause-tells : goal.returns-in-Ok-clause-tells
returns-in-Ok-clause-tells g c =
    rw c.end_of_fault.ensures (printing_ends _ c.args.bundle.now c.args.penalty c.args.budget _ c.in-Err-print_waits.fault c.in-Ok.ensures.chosen.0 c.in-Err-print_waits.ensures.text)

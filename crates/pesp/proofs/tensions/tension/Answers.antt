use Rattle.plan_num.proofs.Common.{arith, unsigned_abs, common_steps}
use Rattle.pesp.proofs.LeastTensions.{tension_least}
use Rattle.pesp.proofs.tensions.tension.Goals as goal

pub returns-clause-value : goal.returns-clause-value
returns-clause-value c = grind (arith, common_steps)

pub returns-clause-least : goal.returns-clause-least
returns-clause-least c =
    let a = c.args in grind (arith, tension_least, unsigned_abs, returns-clause-value)

use Rattle.plan_num.proofs.Common.{arith, map-set, get_or-map}
use Rattle.pesp.proofs.links.note_at.Goals as goal

pub returns-clause-noted : goal.returns-clause-noted
returns-clause-noted c =
    let rows = c.args.rows.now in grind (arith, map-set, get_or-map)

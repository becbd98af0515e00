use Rattle.plan_num.proofs.Common.{arith}
use Rattle.stage_keep.proofs.EntriesRead.{exact_of, front_of}
use Rattle.stage_keep.proofs.read.read_keep.Goals as goal

pub returns-clause-exact : goal.returns-clause-exact
returns-clause-exact c =
    exact_of c.args.stage c.args.bytes.now c.read_entry.result (omega (arith, c.well_formed))
    c.read_entry.ensures

pub returns-clause-front : goal.returns-clause-front
returns-clause-front c =
    front_of c.args.stage c.args.bytes.now c.read_entry.result c.read_entry.ensures

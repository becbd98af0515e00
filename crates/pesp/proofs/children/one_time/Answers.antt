use Rattle.pesp.proofs.WordTurns.{one_marked}
use Rattle.pesp.proofs.children.one_time.Goals as goal

pub returns-clause-each : goal.returns-clause-each
returns-clause-each c other = one_marked c.args.time other c.requires

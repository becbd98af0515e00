use Rattle.stage_chain.specs.RunSays.{seen_files}
use Rattle.lintim_cli.specs.Top.{seen}
use Rattle.lintim_cli.proofs.Telling.{headline, told_leaves}
use Rattle.lintim_cli.proofs.run.run.Goals as goal

pub returns-in-Ok-clause-leaves : goal.returns-in-Ok-clause-leaves
returns-in-Ok-clause-leaves g c =
    told_leaves c.args.mode _ _ c.in-Ok.outcome c.from.result _ c.in-Ok.ensures.says.leaves c.from.ensures
    c.as_bytes.result.now c.as_bytes.ensures c.tell.ensures

pub returns-in-Ok-clause-headline : goal.returns-in-Ok-clause-headline
returns-in-Ok-clause-headline g c =
    let old = seen_files g.F.Files.contents g.F.Files.writes g.F.Files.faults c.args.files.now c.args.steps.now in
    let new = seen_files g.F.Files.contents g.F.Files.writes g.F.Files.faults c.run_chain.new.files
    c.run_chain.new.steps in
    headline c.args.mode (seen old (g.K.Sink.written c.args.out.now) (g.K.Sink.faults c.args.out.now))
    (seen new (g.K.Sink.written c.tell.new.out) (g.K.Sink.faults c.tell.new.out)) c.in-Ok.outcome c.from.result _
    c.in-Ok.ensures.says.leaves c.from.ensures c.as_bytes.result.now c.as_bytes.ensures c.tell.ensures

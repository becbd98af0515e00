use Rattle.std.proofs.Common.{Some, ap, sym, subst, ◌∙◌}
use Rattle.stage_chain.specs.RunSays.{seen_files}
use Rattle.lintim_cli.specs.Says.{Says}
use Rattle.lintim_cli.specs.Top.{seen}
use Rattle.lintim_cli.proofs.AllFolders.{laws}
use Rattle.lintim_cli.proofs.Telling.{is_done}
use Rattle.lintim_cli.proofs.top.lintim.Goals as goal

pub returns-in-Some-Run-clause-says : goal.returns-in-Some-Run-clause-says
returns-in-Some-Run-clause-says g c =
    let old = seen_files g.F.Files.contents g.F.Files.writes g.F.Files.faults c.args.files.now c.args.steps.now in
    let new = seen_files g.F.Files.contents g.F.Files.writes g.F.Files.faults c.run.new.files c.run.new.steps in
    let before = seen old (g.K.Sink.written c.args.out.now) (g.K.Sink.faults c.args.out.now) in
    let after = seen new (g.K.Sink.written c.run.new.out) (g.K.Sink.faults c.run.new.out) in
    subst (Says before after c.run.result)
    (sym (sym c.command_of.ensures.command ∙ c.in-Some-Run.is ∙ ap Some c.in-Some-Run.field-0-is))
    (record {
      leaves = c.run.ensures.leaves;
      done = is_done c.in-Some-Run.mode (g.F.Files.contents c.run.new.files) before after c.run.result
          c.run.ensures.headline c.run.ensures.always.file_fault c.run.ensures.always.sink_fault;
      safe = c.run.ensures.safe;
    })

pub returns-in-Some-Run-clause-laws : goal.returns-in-Some-Run-clause-laws
returns-in-Some-Run-clause-laws g c = laws

pub returns-in-Some-Check-clause-laws : goal.returns-in-Some-Check-clause-laws
returns-in-Some-Check-clause-laws g c = laws

pub returns-in-Some-Status-clause-laws : goal.returns-in-Some-Status-clause-laws
returns-in-Some-Status-clause-laws g c = laws

pub returns-in-Some-Demo-clause-laws : goal.returns-in-Some-Demo-clause-laws
returns-in-Some-Demo-clause-laws g c = laws

pub returns-in-Some-Ask-clause-laws : goal.returns-in-Some-Ask-clause-laws
returns-in-Some-Ask-clause-laws g c = laws

pub returns-in-None-clause-laws : goal.returns-in-None-clause-laws
returns-in-None-clause-laws g c = laws

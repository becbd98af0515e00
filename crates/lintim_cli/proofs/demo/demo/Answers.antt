use Rattle.lintim_cli.specs.Top.{seen}
use Rattle.lintim_cli.proofs.Demos.{demo_answers, demo_tells, no_fault}
use Rattle.lintim_cli.proofs.demo.demo.Goals as goal

pub returns-in-Ok-clause-answers : goal.returns-in-Ok-clause-answers
returns-in-Ok-clause-answers g c =
    demo_answers c.args.number c.run.result c.run.ensures.answers
    (λ is. no_fault _ _ _ _ (c.run.ensures.always.file_fault is))

pub returns-in-Ok-clause-tells : goal.returns-in-Ok-clause-tells
returns-in-Ok-clause-tells g c =
    demo_tells c.args.number _ c.in-Ok.ensures.contents (seen _ _ (g.K.Sink.faults c.args.out.now))
    (seen _ _ (g.K.Sink.faults c.run.new.out)) c.run.result c.run.ensures.leaves
    (λ is. no_fault _ _ _ _ (c.run.ensures.always.file_fault is)) c.run.ensures.safe.no_more_steps

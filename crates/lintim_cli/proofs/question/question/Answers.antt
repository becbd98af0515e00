use Rattle.lintim_cli.proofs.Asked.{form_tells}
use Rattle.lintim_cli.proofs.question.question.Goals as goal

pub returns-in-Ok-clause-tells : goal.returns-in-Ok-clause-tells
returns-in-Ok-clause-tells g c =
    form_tells c.args.form.now _ c.in-Ok.answer _ _ _ _ _ _ _ _ c.in-Ok.ensures.answers c.in-Ok.ensures.steps
    c.from.ensures c.as_bytes.result.now c.as_bytes.ensures c.tell.ensures

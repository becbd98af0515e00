use Rattle.pesp_texts.proofs.Answered.{none_said}
use Rattle.pesp_texts.proofs.answers.check_texts.Goals as goal

pub returns-clause-none : goal.returns-clause-none
returns-clause-none c =
    none_said c.args.instance.now c.args.period c.in_ok-instance.instance.names.keys
    c.in_ok-instance.instance.weighted c.in_ok-instance.ensures c.checked.result
    c.checked.ensures.none

use Rattle.plan_num.proofs.Common.{sym, ◌∙◌}
use Rattle.config_keys.proofs.NameFacts.{inside_read}
use Rattle.config_keys.proofs.include.inside.Goals as goal

pub returns : goal.returns
returns c =
    inside_read _ c.args.name.now c.from_utf8.result c.ok.result (sym c.is_inside.ensures ∙ c.if-not-is_inside.false)
    c.from_utf8.ensures.cases c.ok.ensures.value

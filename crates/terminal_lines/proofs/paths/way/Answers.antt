use Rattle.plan_num.proofs.Common.{sym, ◌∙◌}
use Rattle.terminal_lines.proofs.Ways.{is_reached, no_way, way_is}
use Rattle.terminal_lines.proofs.paths.way.Goals as goal

pub returns-then-not-reaches : goal.returns-then-not-reaches
returns-then-not-reaches c =
    let network = c.args.network.now in
    no_way network c.args.from c.args.to
    (sym (is_reached network c.args.from c.args.to c.args.known.now c.requires.known.is
    c.requires.to)
    ∙ sym c.reaches.ensures ∙ c.if-not-reaches.true)

pub returns : goal.returns
returns c =
    let network = c.args.network.now in
    way_is network c.args.from c.args.to c.in_ok-new.field-0
    (sym (is_reached network c.args.from c.args.to c.args.known.now c.requires.known.is
    c.requires.to)
    ∙ sym c.reaches.ensures ∙ c.if-not-reaches.false)
    (c.in_ok-new.ensures ∙ c.in_ok-edges.ensures.path)

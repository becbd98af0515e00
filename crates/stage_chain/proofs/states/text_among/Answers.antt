use Rattle.plan_num.proofs.Common.{Some, ap, cond, drop, sym, ◌∙◌, ◌+◌, bytes_eq}
use Rattle.stage_chain.specs.States.{text_among}
use Rattle.stage_chain.proofs.Stating.{text_next}
use Rattle.stage_chain.proofs.states.text_among.Goals as goal

pub returns-then-eq : goal.returns-then-eq
returns-then-eq c =
    let other = c.get-other.result.now in
    let rest = text_among (drop (c.loop-index.index + 1) c.args.made.now) c.args.file in
    sym (text_next c.args.made.now c.loop-index.index other c.args.file c.get-other.ensures
    ∙ ap (λ here. cond here (Some other.text) rest)
    (sym (c.eq.ensures ∙ (λ i. bytes_eq (c.name.ensures i) (c.name-in-loop-index.ensures i))) ∙ c.if-eq.true))
    ∙ c.loop-index.invariant

pub loop-index-preserved : goal.loop-index-preserved
loop-index-preserved c =
    let other = c.get-other.result.now in
    let rest = text_among (drop (c.loop-index.index + 1) c.args.made.now) c.args.file in
    sym (text_next c.args.made.now c.loop-index.index other c.args.file c.get-other.ensures
    ∙ ap (λ here. cond here (Some other.text) rest)
    (sym (c.eq.ensures ∙ (λ i. bytes_eq (c.name.ensures i) (c.name-in-loop-index.ensures i))) ∙ c.if-eq.false))
    ∙ c.loop-index.invariant

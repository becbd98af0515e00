use Rattle.plan_num.proofs.Common.{◌≡◌, ◌+◌, ◌-◌, false, None, get_or, slice_get, subst, sym, ap}
use Rattle.plan_num.proofs.Common.{◌∙◌, arith, same_Some}
use Rattle.link_plans.proofs.Common.{by_number, link_to, at, item}
use Rattle.plan_search.specs.Growing.{is_nearer}
use Rattle.plan_search.proofs.looks.next_nearer.Goals as goal

pub link_slack-requires-clause-to : goal.link_slack-requires-clause-to
link_slack-requires-clause-to c = (c.requires.links c.loop-step.step _
    (item c.args.links.now c.loop-step.step (omega (arith, c.loop-step-test.true)))).trip

pub link_slack-requires-clause-covered : goal.link_slack-requires-clause-covered
link_slack-requires-clause-covered c = (c.requires.links c.loop-step.step _
    (item c.args.links.now c.loop-step.step (omega (arith, c.loop-step-test.true)))).covered

pub is_nearer-requires-clause-place : goal.is_nearer-requires-clause-place
is_nearer-requires-clause-place c = (c.requires.links c.loop-step.step _
    (item c.args.links.now c.loop-step.step (omega (arith, c.loop-step-test.true)))).place

pub loop-step-preserved : goal.loop-step-preserved
loop-step-preserved c k link low high e = by_number k c.loop-step.step
    (λ same. subst (λ link. is_nearer
    (c.args.own + at c.args.potentials.now.v link.to - link.gain)
    (get_or c.args.nears.now link.to None) ≡ false)
    (same_Some (get_or c.args.links.now c.loop-step.step (link_to 0 0)) link
    (sym (item c.args.links.now c.loop-step.step (omega (arith, c.loop-step-test.true)))
    ∙ ap (slice_get c.args.links.now) (sym same) ∙ e))
    (ap (λ slack. is_nearer slack (get_or c.args.nears.now
    (get_or c.args.links.now c.loop-step.step (link_to 0 0)).to None))
    (sym c.link_slack.ensures.value) ∙ sym c.is_nearer.ensures ∙ c.if-is_nearer.false))
    (λ apart. c.loop-step.invariant k link low (omega (arith, high, apart)) e)

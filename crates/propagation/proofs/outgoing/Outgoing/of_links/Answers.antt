use Rattle.plan_num.proofs.Common.{◌≡◌, ◌<◌, ◌-◌, ◌+◌, ◌∙◌, length, None, slice_index_or, subst}
use Rattle.plan_num.proofs.Common.{arith, get_or_default, length-set}
use Rattle.propagation.specs.declared.links.Link.{Link}
use Rattle.propagation.specs.Outgoing.{AreChained}
use Rattle.propagation.proofs.LinksOut.{more_chained}
use Rattle.propagation.proofs.outgoing.Outgoing.of_links.Goals as goal

pub loop-left-preserved : goal.loop-left-preserved
loop-left-preserved c =
    let links = c.args.links.now in
    let from = c.loop-left.left - 1 in
    let d : Link = record { rank = 0; step = record { from = 0; to = 0; lower = 0; extra = 0 }; change = None } in
    let firsts = c.loop-left.firsts.items in
    let nexts = c.loop-left.nexts.items in
    let event = (slice_index_or links from d).step.from in
    let back : c.loop-left.left ≡ from + 1 = omega (arith, c.loop-left-test.true) in
    let inside : from < length links = omega (arith, c.loop-left-test.true, c.loop-left.invariant.most) in
    let there : event < length firsts = omega (arith, c.requires from d inside, c.loop-left.invariant.events) in
    let old = subst (λ left. AreChained links left firsts nexts) back c.loop-left.invariant.chained in
    let read : c.index.result.now ≡ slice_index_or firsts event 0 = c.index.ensures
    ∙ get_or_default firsts event c.index.result.now 0 there in
    record {
      most = omega (arith, c.loop-left.invariant.most);
      events = length-set firsts event from ∙ c.loop-left.invariant.events;
      chained = rw read (more_chained links from firsts nexts d inside there old);
    }

pub returns-clause-chained : goal.returns-clause-chained
returns-clause-chained c =
    subst (λ left. AreChained c.args.links.now left c.loop-left.firsts.items c.loop-left.nexts.items)
    (omega (arith, c.loop-left-test.false)) c.loop-left.invariant.chained

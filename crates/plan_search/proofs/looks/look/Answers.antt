use Rattle.plan_num.proofs.Common.{Some, None, get_or, length, ap, ◌∙◌, arith}
use Rattle.link_plans.proofs.Common.{links_in, link_to, item, link_covered, link_slack}
use Rattle.plan_search.specs.Claims.{claim_at}
use Rattle.plan_search.specs.Growing.{looked}
use Rattle.plan_search.proofs.LinkLooks.{looked_all, looked_more, looked_start, looked_to, near_links}
use Rattle.plan_search.proofs.looks.look.Goals as goal

pub next_nearer-step-requires-clause-links : goal.next_nearer-step-requires-clause-links
next_nearer-step-requires-clause-links c = near_links (links_in c.args.trips.now) c.args.potentials.now
    c.args.claims.now c.args.member.by c.args.member.from c.row-links.result.now c.row-links.ensures.row
    c.args.nears.now
    c.of_trip-own.result c.of_trip-own.ensures.value c.requires.covered c.requires.each.each_v
    (length c.args.nears.now) c.requires.nears

pub loop-step-init : goal.loop-step-init
loop-step-init c = record {
  told = looked_to (links_in c.args.trips.now) c.args.potentials.now c.args.claims.now c.args.member.by
      c.args.member.from c.row-links.result.now c.row-links.ensures.row c.args.nears.now c.of_trip-own.result
      c.of_trip-own.ensures.value c.args.nears.now 0 c.next_nearer-step.result
      (looked_start (links_in c.args.trips.now) c.args.potentials.now c.args.claims.now c.args.member.by
      c.args.member.from c.row-links.result.now c.row-links.ensures.row c.args.nears.now)
      c.next_nearer-step.ensures.low c.next_nearer-step.ensures.high
      c.next_nearer-step.ensures.passed;
  within = c.next_nearer-step.ensures.high;
}

pub link_slack-slack-requires-clause-to : goal.link_slack-slack-requires-clause-to
link_slack-slack-requires-clause-to c = omega (
  arith,
  (c.row-links.ensures.row.right c.loop-step.step _
      (item c.row-links.result.now c.loop-step.step c.loop-step-test.true)).within,
  c.requires.each.each_v,
)

pub link_slack-slack-requires-clause-covered : goal.link_slack-slack-requires-clause-covered
link_slack-slack-requires-clause-covered c = omega (
  arith,
  c.of_trip-own.ensures.value,
  link_covered (links_in c.args.trips.now) c.args.member.by c.row-links.result.now c.row-links.ensures.row
      c.args.potentials.now c.requires.covered c.loop-step.step
      (get_or c.row-links.result.now c.loop-step.step (link_to 0 0))
      (item c.row-links.result.now c.loop-step.step c.loop-step-test.true),
)

pub bring-requires-clause-place : goal.bring-requires-clause-place
bring-requires-clause-place c = omega (
  arith,
  (c.row-links.ensures.row.right c.loop-step.step _
      (item c.row-links.result.now c.loop-step.step c.loop-step-test.true)).within,
  c.requires.places,
)

pub returns-then-bring-clause-looked : goal.returns-then-bring-clause-looked
returns-then-bring-clause-looked c =
    let inside = (c.row-links.ensures.row.right c.loop-step.step _
    (item c.row-links.result.now c.loop-step.step c.loop-step-test.true)).within in
    record {
      within = omega (arith, inside);
      open_place = c.bring.ensures.open_place c.if-bring.true;
      free = c.bring.ensures.free c.if-bring.true;
      slack = link_slack (links_in c.args.trips.now) c.args.member.by c.row-links.result.now c.row-links.ensures.row
          c.args.potentials.now c.loop-step.step
          (get_or c.row-links.result.now c.loop-step.step (link_to 0 0))
          (item c.row-links.result.now c.loop-step.step c.loop-step-test.true)
          ∙ ap Some (omega (
            arith,
            c.of_trip-own.ensures.value,
            c.link_slack-slack.ensures.value,
            c.bring.ensures.exact c.if-bring.true,
          ));
    }

pub next_nearer-step-requires-in-loop-step-clause-links :
    goal.next_nearer-step-requires-in-loop-step-clause-links
next_nearer-step-requires-in-loop-step-clause-links c = near_links (links_in c.args.trips.now)
    c.args.potentials.now c.args.claims.now c.args.member.by c.args.member.from c.row-links.result.now
    c.row-links.ensures.row c.args.nears.now c.of_trip-own.result c.of_trip-own.ensures.value
    c.requires.covered c.requires.each.each_v (length c.bring.new.nears)
    (c.bring.ensures.others.each ∙ c.loop-step.invariant.told.each ∙ c.requires.nears)

pub loop-step-preserved : goal.loop-step-preserved
loop-step-preserved c = record {
  told = looked_to (links_in c.args.trips.now) c.args.potentials.now c.args.claims.now c.args.member.by
      c.args.member.from c.row-links.result.now c.row-links.ensures.row c.args.nears.now c.of_trip-own.result
      c.of_trip-own.ensures.value c.bring.new.nears _ c.next_nearer-step-in-loop-step.result
      (looked_more (links_in c.args.trips.now) c.args.potentials.now c.args.claims.now c.args.member.by
      c.args.member.from c.row-links.result.now c.row-links.ensures.row c.args.nears.now c.loop-step.nears
      c.bring.new.nears c.loop-step.step
      (get_or c.row-links.result.now c.loop-step.step (link_to 0 0)) c.loop-step.invariant.told
      (item c.row-links.result.now c.loop-step.step c.loop-step-test.true) c.bring.ensures.others
      (c.bring.ensures.here ∙ ap (λ slack. looked
      (claim_at c.args.claims.now (get_or c.row-links.result.now c.loop-step.step (link_to 0 0)).to)
      (Some slack) c.args.member.by c.args.member.from
      (get_or c.loop-step.nears (get_or c.row-links.result.now c.loop-step.step (link_to 0 0)).to None))
      (omega (arith, c.of_trip-own.ensures.value, c.link_slack-slack.ensures.value))))
      c.next_nearer-step-in-loop-step.ensures.low c.next_nearer-step-in-loop-step.ensures.high
      c.next_nearer-step-in-loop-step.ensures.passed;
  within = c.next_nearer-step-in-loop-step.ensures.high;
}

pub returns-clause-looked : goal.returns-clause-looked
returns-clause-looked c = looked_all (links_in c.args.trips.now) c.args.potentials.now c.args.claims.now
    c.args.member.by
    c.args.member.from c.row-links.result.now c.row-links.ensures.row c.args.nears.now c.loop-step.nears
    c.bring-2.new.nears c.loop-step.step c.len-last.result c.loop-step.invariant.told
    (omega (arith, c.loop-step-test.false)) c.len-last.ensures.count c.requires.nears c.bring-2.ensures.others
    (c.bring-2.ensures.here ∙ ap (λ slack. looked (claim_at c.args.claims.now c.len-last.result) (Some slack)
    c.args.member.by c.args.member.from (get_or c.loop-step.nears c.len-last.result None)) c.of_trip-own.ensures.value)

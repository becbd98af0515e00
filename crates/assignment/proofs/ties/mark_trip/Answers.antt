use Rattle.plan_num.proofs.Common.{◌≡◌, get_or, arith, subst, MatchBool, nat_eq, true}
use Rattle.link_plans.proofs.Common.{links_in, link_to, item, link_covered}
use Rattle.assignment.specs.ClaimablePlaces.{IsPut}
use Rattle.assignment.proofs.BitsOfPlaces.{row_more, row_same}
use Rattle.assignment.proofs.LinkTies.{ties_last, ties_more, ties_start}
use Rattle.assignment.proofs.ties.mark_trip.Goals as goal

pub loop-link-init : goal.loop-link-init
loop-link-init c = record {
  others = row_same c.args.ties.now c.args.trip;
  row = ties_start (links_in c.args.trips.now) c.args.potentials.now c.args.trip
      c.row-links.result.now c.row-links.ensures.row c.requires.covered c.args.ties.now c.requires.none;
}

pub link_slack-slack-requires-clause-to : goal.link_slack-slack-requires-clause-to
link_slack-slack-requires-clause-to c = omega (
  arith,
  (c.row-links.ensures.row.right c.loop-link.link-index _
      (item c.row-links.result.now c.loop-link.link-index c.loop-link-test.true)).within,
  c.requires.each.each_v,
)

pub link_slack-slack-requires-clause-covered : goal.link_slack-slack-requires-clause-covered
link_slack-slack-requires-clause-covered c = omega (
  arith,
  c.of_trip-own.ensures.value,
  link_covered (links_in c.args.trips.now) c.args.trip c.row-links.result.now c.row-links.ensures.row
      c.args.potentials.now c.requires.covered c.loop-link.link-index
      (get_or c.row-links.result.now c.loop-link.link-index (link_to 0 0))
      (item c.row-links.result.now c.loop-link.link-index c.loop-link-test.true),
)

pub mark_if_exact-requires-clause-place : goal.mark_if_exact-requires-clause-place
mark_if_exact-requires-clause-place c = omega (
  arith,
  (c.row-links.ensures.row.right c.loop-link.link-index _
      (item c.row-links.result.now c.loop-link.link-index c.loop-link-test.true)).within,
  c.loop-link.invariant.others.columns,
  c.requires.columns,
)

pub loop-link-preserved : goal.loop-link-preserved
loop-link-preserved c = record {
  others = row_more c.args.ties.now c.loop-link.ties c.mark_if_exact.new.ties c.args.trip
      (get_or c.row-links.result.now c.loop-link.link-index (link_to 0 0)).to
      c.link_slack-slack.result c.loop-link.invariant.others c.mark_if_exact.ensures;
  row = ties_more (links_in c.args.trips.now) c.args.potentials.now c.args.trip
      c.row-links.result.now c.row-links.ensures.row c.requires.covered c.loop-link.ties
      c.mark_if_exact.new.ties c.loop-link.link-index
      (get_or c.row-links.result.now c.loop-link.link-index (link_to 0 0))
      c.link_slack-slack.result
      (omega (arith, c.requires.trip, c.requires.rows, c.loop-link.invariant.others.rows))
      c.loop-link.invariant.row
      (item c.row-links.result.now c.loop-link.link-index c.loop-link-test.true)
      (omega (arith, c.link_slack-slack.ensures.value, c.of_trip-own.ensures.value))
      c.mark_if_exact.ensures;
}

pub returns-clause-row : goal.returns-clause-row
returns-clause-row c = ties_last (links_in c.args.trips.now) c.args.potentials.now c.args.trip
    c.row-links.result.now c.row-links.ensures.row c.requires.covered c.loop-link.ties
    c.mark_if_exact-2.new.ties c.loop-link.link-index c.len.result
    (omega (arith, c.requires.trip, c.requires.rows, c.loop-link.invariant.others.rows))
    c.loop-link.invariant.row (omega (arith, c.loop-link-test.false)) c.len.ensures.count
    (subst (λ n. MatchBool (nat_eq n 0) (IsPut c.loop-link.ties c.mark_if_exact-2.new.ties
    c.args.trip c.len.result true) (c.mark_if_exact-2.new.ties ≡ c.loop-link.ties))
    c.of_trip-own.ensures.value c.mark_if_exact-2.ensures)

-- What is told of the places up to the one that the next link leads to.
use Rattle.plan_num.proofs.Common.{◌≤◌, ◌-◌, get_or, length, None}
use Rattle.plan_search.specs.Claims.{claim_at}
use Rattle.plan_search.specs.Growing.{looked}
use Rattle.link_plans.proofs.Common.{reached, links_in, slack_to}
use Rattle.plan_search.proofs.WrittenLists.{IsTold}
use Rattle.plan_search.proofs.looks.look.Given as goal

abbrev pub invariant-loop-step : goal.invariant-loop-step
invariant-loop-step l = record {
  told : IsTold None (λ i. looked (claim_at l.claims i)
      (slack_to (links_in l.trips) l.potentials l.member.by i) l.member.by l.member.from (get_or l.fn.nears i None))
      l.fn.nears l.nears (reached (length l.trips) l.links l.step);
  within : l.step ≤ length l.links;
}

abbrev pub decreases-loop-step : goal.decreases-loop-step
decreases-loop-step l = length l.links - l.step

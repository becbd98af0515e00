-- Parts that make a problem, with their links in order.
use Rattle.plan_num.proofs.Common.{◌<◌, ◌≤◌, List, length, All, arith, IsNonDecreasingBy}
use Rattle.plan_num.proofs.Common.{IsPermutation, length-append, length-map, length-enumerate_from}
use Rattle.plan_num.proofs.Common.{length_permutation}
use Rattle.propagation.specs.declared.links.Link.{Link}
use Rattle.propagation.specs.Links.{IsDay, IsLinked, links_of}
use Rattle.propagation.specs.Problems.{DelayProblem, GoesForward}
use Rattle.propagation.proofs.PassIsLeast.{change_steps, ride_steps, turn_steps}

module _ (problem : DelayProblem) (day : IsDay problem) where
  -- the first event of each step is there
  pub rides_start : All (λ ride. ride.step.from < length problem.events) problem.rides
  rides_start k d inside =
      (ride_steps problem (GoesForward problem.events) problem.changes day.forward.steps k d inside).from

  pub changes_start : All (λ change. change.step.from < length problem.events) problem.changes
  changes_start k d inside =
      (change_steps problem (GoesForward problem.events) problem.changes day.forward.steps k d inside).from

  pub turns_start : All (λ turn. turn.from < length problem.events) problem.turns
  turns_start k d inside =
      (turn_steps problem (GoesForward problem.events) problem.changes day.forward.steps k d inside).from

  few_links : length (links_of problem) ≤ 502000
  few_links = grind (arith, length-append, length-map, length-enumerate_from)

  pub day_linked : (links : List Link) → IsPermutation (links_of problem) links
      → IsNonDecreasingBy (λ link. link.rank) links → IsLinked problem links
  day_linked links all in_order = grind (arith, few_links, length_permutation)

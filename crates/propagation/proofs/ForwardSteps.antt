-- The steps of a problem that was read join its events.
use Rattle.plan_num.proofs.Common.{◌≤◌, List, length, All, arith, length-append, length-map}
use Rattle.plan_num.proofs.Common.{length-enumerate_from, length_permutation}
use Rattle.propagation.specs.declared.links.Link.{Link}
use Rattle.propagation.specs.Links.{IsLinked}
use Rattle.propagation.specs.Problems.{DelayProblem, GoesForward, Joins}
use Rattle.propagation.proofs.PassIsLeast.{back_all, change_steps, front_all, ride_steps, turn_steps}

module _ (problem : DelayProblem) (links : List Link) (linked : IsLinked problem links) where
  pub rides_join : All (λ ride. Joins (length problem.events) ride.step) problem.rides
  rides_join k d inside =
      let is = ride_steps problem (GoesForward problem.events) problem.changes linked.forward.steps k d inside in
      (is.from, is.to)

  pub changes_join : All (λ change. Joins (length problem.events) change.step) problem.changes
  changes_join k d inside =
      let is = change_steps problem (GoesForward problem.events) problem.changes linked.forward.steps k d inside in
      (is.from, is.to)

  pub turns_join : All (Joins (length problem.events)) problem.turns
  turns_join k d inside =
      let is = turn_steps problem (GoesForward problem.events) problem.changes linked.forward.steps k d inside in
      (is.from, is.to)

  pub ride_ids : All (λ ride. ride.id ≤ 500000) problem.rides
  ride_ids = front_all (λ activity. activity.id ≤ 500000) problem.rides problem.changes linked.ids

  pub change_ids : All (λ change. change.id ≤ 500000) problem.changes
  change_ids = back_all (λ activity. activity.id ≤ 500000) problem.rides problem.changes linked.ids

  pub changes_few : length problem.changes ≤ 502000
  changes_few = grind (arith, length_permutation, length-append, length-map, length-enumerate_from)

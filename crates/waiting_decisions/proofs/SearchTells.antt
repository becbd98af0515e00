-- What is told of what a search found, where that is what its budget comes to.
use Rattle.plan_num.proofs.Common.{arith, ◌≡◌, ℕ, List, Option, IfOk, IfSome, IsSome, Result}
use Rattle.plan_num.proofs.Common.{option_map}
use Rattle.propagation.proofs.Common.{DelayProblem, IsForward}
use Rattle.waiting_decisions.specs.declared.node.WaitNode.{WaitNode}
use Rattle.waiting_decisions.specs.declared.waits.Waits.{Waits}
use Rattle.waiting_decisions.specs.Budgets.{FindsSome, IsEnough, IsMarked, waits_within, with_tree}
use Rattle.waiting_decisions.specs.Listings.{Choice, listing}
use Rattle.waiting_decisions.specs.RightChoices.{IsRight}
use Rattle.waiting_decisions.specs.RightListings.{IsListed}
use Rattle.waiting_decisions.specs.Searches.{IsCheap}
use Rattle.waiting_decisions.proofs.Holding.{listed_found}
use Rattle.waiting_decisions.proofs.Right.{found_marked, found_right, found_some, still_cheap}
use Rattle.waiting_decisions.proofs.Turns.{outcome_by}

pub record Tells (problem : DelayProblem) (penalty budget : ℕ) {E : Type 0} (result : Result
    (Option Waits) E) : Type 0 where
  pub found : IfOk result (λ found. found ≡ waits_within budget (listing problem penalty))
  pub right : IfOk result (λ found. IfSome found (IsRight problem penalty))
  pub listed : IfOk result (λ found. IfSome found (IsListed problem penalty budget))
  pub finds : FindsSome problem budget → IfOk result (λ found. IsSome found)
  pub whole : IsEnough problem budget → IfOk result IsMarked

pub tells : (problem : DelayProblem) (penalty budget : ℕ) → IsForward problem
    → (tree : Option (List WaitNode)) (best : Option Choice) → IsCheap best
    → option_map (with_tree tree) best ≡ waits_within budget (listing problem penalty)
    → {E : Type 0} (result : Result (Option Waits) E) → IfOk result (λ found. found ≡ option_map (with_tree tree) best)
    → Tells problem penalty budget result
tells problem penalty budget forward tree best cheap within result told = grind (
  arith,
  outcome_by,
  found_right,
  still_cheap,
  listed_found,
  found_some,
  found_marked,
)

-- The residual graph of a plan, its walks, and the least cost of those that end in a node.
use Rattle.std.specs.Prelude.{ℕ, ℤ, pos, neg_ℤ, ◌≡◌, ◌+ℤ◌, ◌≤ℤ◌, nat_lt, ◌&&◌, if◌then◌else◌, not}
use Rattle.std.specs.Prelude.{is_some, Bool, List, [], ◌∷◌, Option, Some, None, option_map}
use Rattle.std.specs.Prelude.{option_and_then}
use Rattle.link_plans.specs.Links.{Links}
use Rattle.link_plans.specs.Plans.{next, is_next, is_trip}

-- a node: the root, or the left or the right one of a trip
pub data Node : Type 0 where
  root : Node
  left : ℕ → Node
  right : ℕ → Node

-- an arc without a cost, where there is one
abbrev pub free_arc : Bool → Option ℤ
free_arc is_there = if is_there then Some (pos 0) else None

-- the cost of the arc from a node to another: a link is made from left to right at the loss of its gain,
-- and given up from right to left at its gain; the root joins the sides that may be left without a link,
-- or get one
abbrev pub arc : Links → List (Option ℕ) → Node → Node → Option ℤ
arc links plan root (left i) = free_arc (nat_lt i links.count && not (is_some (next plan i)))
arc links plan (left i) root = free_arc (is_some (next plan i))
arc links plan (right j) root = free_arc (nat_lt j links.count && not (is_next plan j))
arc links plan root (right j) = free_arc (is_next plan j)
arc links plan (left i) (right j) = option_map neg_ℤ (links.gain i j)
arc links plan (right j) (left i) = if is_trip j (next plan i) then links.gain i j else None
arc links plan _ _ = None

-- what a walk costs that ends in a node, by the nodes before it, backward; none where an arc is missing
abbrev pub walk_cost : Links → List (Option ℕ) → Node → List Node → Option ℤ
walk_cost links plan end [] = Some (pos 0)
walk_cost links plan end (before ∷ more) = option_and_then
    (λ cost. option_map (λ rest. rest +ℤ cost) (walk_cost links plan before more))
    (arc links plan before end)

-- a cost is the least of all walks that end in a node
pub record IsLeastCost (links : Links) (plan : List (Option ℕ)) (node : Node) (cost : ℤ) : Type 0 where
  pub walk : List Node
  pub has_it : walk_cost links plan node walk ≡ Some cost
  pub least : (other : List Node) (more : ℤ) → walk_cost links plan node other ≡ Some more
      → cost ≤ℤ more

-- A tree that certifies a cost: no feasible concept costs less.
use Rattle.plan_num.proofs.Common.{◌≡◌, ℕ, ℤ, pos, negsuc, Bool, false, T, ◌≤◌, ◌≤ℤ◌, List, refl}
use Rattle.plan_num.proofs.Common.{arith, inl, inr, true, le-leb, leb-true, T_from_true, le_z_yes}
use Rattle.plan_num.proofs.Common.{list_all-from_AllPass}
use Rattle.line_cost_model.specs.declared.multipliers.Multiplier.{Multiplier}
use Rattle.line_cost_model.specs.declared.range.LineRange.{LineRange}
use Rattle.line_cost_model.proofs.Common.{ProblemParts, IsProblem, IsFeasible, cost_of, are_within}
use Rattle.line_cost_model.proofs.Common.{HasEachFeasible, LiesIn, root_of, bound_is_least}
use Rattle.line_cost_model.proofs.Common.{empty_is_none, split_covers, one_concept, root_has_each}
use Rattle.line_cost_model.proofs.Common.{one_by_one}
use Rattle.line_concepts.specs.declared.node.Node.{Node}
use Rattle.line_concepts.specs.declared.node.Node.TheVariants as node
use Rattle.line_concepts.specs.Certified.{Certifies, CostsAtLeast, ShowsBound, TreeCertifies}
use Rattle.line_concepts.specs.Trees.{NodeTree, leaf, fork}
use Rattle.plan_num.proofs.Tests.{is_true}

within : (problem : ProblemParts) (cost : ℤ) (region : List LineRange) (ms : List Multiplier)
    → ShowsBound problem cost region ms → are_within problem region ms ≡ true
within problem cost region ms shown = grind (arith, list_all-from_AllPass, le-leb)

up_to : (c : ℤ) (b n : ℕ) → c ≤ℤ pos b → b ≤ n → c ≤ℤ pos n
up_to (pos c) b n h k = le_z_yes (T_from_true _ (le-leb c n (omega (arith, leb-true c b (is_true _ h.le), k))))
up_to (negsuc c) b n h k = le_z_yes tt

certified_over : (problem : ProblemParts) (cost : ℤ) (tree : NodeTree) (region : List LineRange)
    → TreeCertifies problem cost region tree → (fs : List ℕ) → IsFeasible problem fs → LiesIn region fs
    → cost ≤ℤ pos (cost_of problem fs)
unfolding TreeCertifies
certified_over problem cost (leaf (node.Split line at)) region shown fs feasible inside = absurd shown
certified_over problem cost (leaf (node.Empty edge side)) region shown fs feasible inside =
    absurd (empty_is_none problem region edge shown.0 side shown.1 shown.2 fs feasible inside)
certified_over problem cost (leaf (node.Bound ms)) region shown fs feasible inside =
    grind (arith, up_to, bound_is_least, within)
certified_over problem cost (leaf node.Point) region shown fs feasible inside =
    grind (arith, one_concept, one_by_one)
certified_over problem cost (fork line at lower upper) region shown fs feasible inside =
    elim (split_covers region fs line at inside) [
      | inl below ↦ certified_over problem cost lower _ shown.1 fs feasible below
      | inr above ↦ certified_over problem cost upper _ shown.2 fs feasible above
    ]

-- what a tree certifies: each feasible concept costs so much, where the root region has them all
pub certified_where_each : (problem : ProblemParts) (cost : ℤ) (nodes : List Node)
    → HasEachFeasible problem (root_of problem) → Certifies problem cost nodes
    → CostsAtLeast problem cost
certified_where_each problem cost nodes each shown fs feasible = grind (arith, certified_over)

-- the same of a line problem
pub certified_costs : (problem : ProblemParts) (cost : ℤ) (nodes : List Node) → IsProblem problem
    → Certifies problem cost nodes → CostsAtLeast problem cost
certified_costs problem cost nodes sound shown =
    certified_where_each problem cost nodes (root_has_each problem sound) shown

-- The rules of nodes and of rows, one after the other.
use Rattle.plan_num.proofs.Common.{◌≡◌, ℕ, ℤ, ◌<◌, ◌==◌, not, cond, pos, Bool, true, false, List}
use Rattle.plan_num.proofs.Common.{[], ◌∷◌, ◌++◌, length, map, slice_get, Some, None, refl, ap, sym}
use Rattle.plan_num.proofs.Common.{arith, option_map, int_eq}
use Rattle.propagation.proofs.Common.{DelayProblem}
use Rattle.waiting_decisions.specs.declared.node.WaitNode.{WaitNode}
use Rattle.wait_choice.specs.declared.rule.WaitRule.TheVariants as rule
use Rattle.waiting_decisions.specs.Certified.{are_tree, has_low_leaf}
use Rattle.tables.proofs.Common.{faults}
use Rattle.wait_choice.specs.declared.row.WaitRow.{WaitRow}
use Rattle.waiting_decisions.specs.Choices.{cost_of}
use Rattle.waiting_decisions.specs.TreeFaults.{fault_by, first_fault}
use Rattle.wait_choice.specs.WaitTexts.{waits_columns}
use Rattle.wait_choice.specs.Judged.{broken_nodes, broken_rows, broken_where, cost_in, first_broken_rule, is_shaped}
use Rattle.wait_choice.specs.Judged.{kept_in, nodes_in, rows_read, rule_of}

-- the first fault of nodes is the first rule that they break
pub fault_rule : (problem : DelayProblem) (penalty : ℕ) (cost : ℤ) (nodes : List WaitNode)
    → 0 < length nodes → option_map rule_of (first_fault problem penalty cost nodes)
    ≡ slice_get (broken_nodes problem penalty cost nodes) 0
fault_rule problem penalty cost [] some = absurd (omega (arith, some))
fault_rule problem penalty cost (first ∷ nodes) some =
    by (are_tree problem (first ∷ nodes)) (has_low_leaf problem penalty cost (first ∷ nodes))
  where
    by : (is_whole is_low : Bool) → option_map rule_of (fault_by is_whole is_low)
        ≡ slice_get (broken_where (not is_whole) rule.Tree ++ broken_where is_low rule.Leaf) 0
    by true true = refl
    by true false = refl
    by false true = refl
    by false false = refl

-- ---- the rules of rows

pub rows_nodes : (problem : DelayProblem) (penalty : ℕ) (rows : List WaitRow) → is_shaped problem.changes rows ≡ true
    → int_eq (pos (cost_in rows)) (cost_of problem penalty (kept_in problem.changes rows)) ≡ true
    → broken_nodes problem penalty (pos (cost_in rows)) (nodes_in problem.changes rows)
    ≡ broken_rows problem penalty rows
rows_nodes problem penalty rows shaped costs = grind arith

pub some_items : {X Y : Type 0} (f : X → Y) (xs : List X) → (length xs == 0) ≡ false → 0 < length (map f xs)
some_items f [] none = absurd (cc)
some_items f (x ∷ xs) none = omega arith

-- ---- whether a text is a table

pub row_first : (problem : DelayProblem) (penalty : ℕ) (text : List ℕ)
    → (length (faults waits_columns text) == 0) ≡ false
    → Some rule.Row ≡ first_broken_rule problem penalty text
unfolding first_broken_rule
row_first problem penalty text is =
    sym (ap (λ b. slice_get (broken_where (not b) rule.Row ++ broken_rows problem penalty (rows_read text)) 0) is)

pub rows_first : (problem : DelayProblem) (penalty : ℕ) (text : List ℕ)
    → (length (faults waits_columns text) == 0) ≡ true
    → slice_get (broken_rows problem penalty (rows_read text)) 0 ≡ first_broken_rule problem penalty text
unfolding first_broken_rule
rows_first problem penalty text is =
    sym (ap (λ b. slice_get (broken_where (not b) rule.Row ++ broken_rows problem penalty (rows_read text)) 0) is)

-- The rules of a waiting decision from any hand, in the order in which they are looked for.
use Rattle.std.specs.Prelude.{ℕ, ℤ, pos, ◌+◌, ◌≡◌, ◌&&◌, ◌==◌, nat_le, not, if◌then◌else◌, Bool, true, false, List, []}
use Rattle.std.specs.Prelude.{◌∷◌, ◌++◌, length, map, take, drop, zip, slice_get, Option, unwrap_or, position}
use Rattle.std.specs.List.{list_all}
use Rattle.std.specs.Ordering.{int_eq}
use Rattle.tables.specs.Reading.{faults, table_of}
use Rattle.tables.specs.RowsOfTables.{ReadsAs, records_by}
use Rattle.propagation.specs.declared.step.Activity.{Activity}
use Rattle.propagation.specs.Problems.{DelayProblem}
use Rattle.waiting_decisions.specs.declared.fault.TreeFault.{TreeFault}
use Rattle.waiting_decisions.specs.declared.fault.TreeFault.TheVariants as fault
use Rattle.waiting_decisions.specs.declared.node.WaitNode.{WaitNode}
use Rattle.waiting_decisions.specs.declared.node.WaitNode.TheVariants as node
use Rattle.wait_choice.specs.declared.row.WaitRow.{WaitRow}
use Rattle.wait_choice.specs.declared.row.WaitRow.TheVariants as row
use Rattle.wait_choice.specs.declared.rule.WaitRule.{WaitRule}
use Rattle.wait_choice.specs.declared.rule.WaitRule.TheVariants as rule
use Rattle.waiting_decisions.specs.declared.waits.Waits.{Waits}
use Rattle.waiting_decisions.specs.Certified.{are_tree, has_low_leaf}
use Rattle.waiting_decisions.specs.Choices.{IsBest, cost_of}
use Rattle.waiting_decisions.specs.RightChoices.{IsRight}
use Rattle.wait_choice.specs.WaitTexts.{wait_row, waits_columns, waits_rows}

-- ---- the form of the rows

-- tests of what a row says: a cost, a decision on a change, a node
abbrev pub is_cost : WaitRow → Bool
is_cost (row.Cost cost) = true
is_cost _ = false

abbrev pub is_choice : WaitRow → Activity → Bool
is_choice (row.Keep id) change = id == change.id
is_choice (row.Drop id) change = id == change.id
is_choice _ change = false

abbrev pub is_node : WaitRow → Bool
is_node (row.Split id) = true
is_node row.Leaf = true
is_node _ = false

-- rows behind the first one: a decision for each change in order, and then nodes
abbrev pub are_choices : List Activity → List WaitRow → Bool
are_choices changes rows =
    (nat_le (length changes) (length rows)
    && list_all (λ at. is_choice at.0 at.1) (zip rows changes))
    && list_all is_node (drop (length changes) rows)

-- rows have the form of a waiting decision over some changes
abbrev pub is_shaped : List Activity → List WaitRow → Bool
is_shaped changes [] = false
is_shaped changes (first ∷ rest) = is_cost first && are_choices changes rest

-- ---- what rows of that form hold

-- the cost that the first row tells
abbrev pub cost_in : List WaitRow → ℕ
cost_in (row.Cost cost ∷ rest) = cost
cost_in _ = 0

-- the set of changes that they keep
abbrev pub keeps : WaitRow → Bool
keeps (row.Keep id) = true
keeps _ = false

abbrev pub kept_in : List Activity → List WaitRow → List Bool
kept_in changes rows = map keeps (take (length changes) (drop 1 rows))

-- the index of the change of an id; of an id that no change has, the place behind all changes
abbrev pub index_of : List Activity → ℕ → ℕ
index_of changes id = unwrap_or (position (λ change. change.id == id) changes) (length changes)

-- the nodes that they hold
abbrev pub node_said : List Activity → WaitRow → WaitNode
node_said changes (row.Split id) = node.Split (index_of changes id)
node_said changes _ = node.Leaf

abbrev pub nodes_in : List Activity → List WaitRow → List WaitNode
nodes_in changes rows = map (node_said changes) (drop (length changes + 1) rows)

-- ---- the rules

-- a rule, where it is broken
abbrev pub broken_where : Bool → WaitRule → List WaitRule
broken_where is_broken rule = if is_broken then rule ∷ [] else []

-- the rule that a fault of nodes breaks
abbrev pub rule_of : TreeFault → WaitRule
rule_of fault.NotWhole = rule.Tree
rule_of fault.LowLeaf = rule.Leaf

-- the rules that nodes break for a cost: they are no whole tree of splits by free changes, a leaf
-- is low. Without a node there is no tree, and no rule of one.
abbrev pub broken_nodes : DelayProblem → ℕ → ℤ → List WaitNode → List WaitRule
broken_nodes problem penalty cost [] = []
broken_nodes problem penalty cost (node ∷ nodes) =
    broken_where (not (are_tree problem (node ∷ nodes))) rule.Tree
    ++ broken_where (has_low_leaf problem penalty cost (node ∷ nodes)) rule.Leaf

-- the rules that rows break: they have another form, the cost is not that of the changes that are
-- kept, and those of their nodes
abbrev pub broken_rows : DelayProblem → ℕ → List WaitRow → List WaitRule
broken_rows problem penalty rows =
    broken_where (not (is_shaped problem.changes rows)) rule.Shape
    ++ broken_where
    (not (int_eq (pos (cost_in rows)) (cost_of problem penalty (kept_in problem.changes rows))))
    rule.Cost
    ++ broken_nodes problem penalty (pos (cost_in rows)) (nodes_in problem.changes rows)

-- what the rows of a text say
abbrev pub rows_read : List ℕ → List WaitRow
rows_read text = records_by wait_row (table_of waits_columns text)

-- every rule that a text breaks, in order: it is no table, and those of its rows
abbrev pub broken_rules : DelayProblem → ℕ → List ℕ → List WaitRule
broken_rules problem penalty text =
    broken_where (not (length (faults waits_columns text) == 0)) rule.Row
    ++ broken_rows problem penalty (rows_read text)

-- the first of them, or none
unfoldable pub first_broken_rule : DelayProblem → ℕ → List ℕ → Option WaitRule
first_broken_rule problem penalty text = slice_get (broken_rules problem penalty text) 0

-- ---- what it means that a text passes

-- A text passes: it is the table of a waiting decision that is right. So where it has a tree, no
-- waiting decision costs less.
pub record Passes (problem : DelayProblem) (penalty : ℕ) (text : List ℕ) : Type 0 where
  pub waits : Waits
  pub reads : ReadsAs waits_columns wait_row (waits_rows problem waits) text
  pub right : IsRight problem penalty waits

-- the set of changes of a text with nodes costs no more than any other
abbrev pub KeepsBest : DelayProblem → ℕ → List ℕ → Type 0
KeepsBest problem penalty text =
    let rows = rows_read text in
    ¬ (nodes_in problem.changes rows ≡ [])
    → IsBest problem penalty (kept_in problem.changes rows) (pos (cost_in rows))

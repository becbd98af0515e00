-- A text that breaks no rule is the table of a waiting decision that is right, and conversely.
use Rattle.plan_num.proofs.Common.{◌≡◌, ◌∙◌, ℕ, ℤ, negsuc, zero, suc, ◌+◌, ◌<◌, ◌≤◌, ◌==◌, ◌≤ℤ◌}
use Rattle.plan_num.proofs.Common.{not, cond, pos, Bool, true, false, List, [], ◌∷◌, ◌++◌, length}
use Rattle.plan_num.proofs.Common.{map, drop, take, get_or, slice_get, Option, Some, None, IfSome}
use Rattle.plan_num.proofs.Common.{IfNone, IfOk, Result, Ok, Err, All, refl, ap, sym, subst, arith}
use Rattle.plan_num.proofs.Common.{position, unsigned_abs, unwrap_or, zip, list_all}
use Rattle.plan_num.proofs.Common.{IsStrictlyIncreasing, int_eq, and_from, and_parts, both_ways}
use Rattle.plan_num.proofs.Common.{eqb-true, eq-eqb, leb-true, le-leb, not-false, ints}
use Rattle.plan_num.proofs.Common.{take-append_seam, get_or-map, length-append, length-map}
use Rattle.plan_num.proofs.Common.{length-take-le, take-append-drop, All-nil, position-Some}
use Rattle.tables.proofs.Common.{faults, table_of, TableRow, InColumns, back_none, front_none}
use Rattle.tables.proofs.Common.{table_in_columns, ReadsAs, records_by}
use Rattle.event_tables.proofs.Common.{number_in, in_column}
use Rattle.propagation.specs.declared.step.Activity.{Activity}
use Rattle.propagation.proofs.Common.{DelayProblem, IsForward, chosen_changes, least_is_one}
use Rattle.propagation.proofs.Common.{least_times_are_least}
use Rattle.waiting_decisions.specs.declared.node.WaitNode.{WaitNode}
use Rattle.waiting_decisions.specs.declared.node.WaitNode.TheVariants as node
use Rattle.wait_choice.specs.declared.row.WaitRow.{WaitRow}
use Rattle.wait_choice.specs.declared.row.WaitRow.TheVariants as row
use Rattle.wait_choice.specs.declared.rule.WaitRule.{WaitRule}
use Rattle.wait_choice.specs.declared.rule.WaitRule.TheVariants as rule
use Rattle.waiting_decisions.specs.declared.waits.Waits.{Waits}
use Rattle.waiting_decisions.specs.Certified.{Certifies}
use Rattle.waiting_decisions.specs.Choices.{Costs, CostsAtLeast, cost_of, times_of, total}
use Rattle.wait_choice.specs.Judged.{KeepsBest, Passes, are_choices, broken_nodes, broken_rows, broken_where, cost_in}
use Rattle.wait_choice.specs.Judged.{first_broken_rule, index_of, is_choice, is_cost, is_node, is_shaped, keeps}
use Rattle.wait_choice.specs.Judged.{kept_in, node_said, nodes_in, rows_read}
use Rattle.waiting_decisions.specs.RightChoices.{IsRight, NamesChange}
use Rattle.wait_choice.specs.WaitTexts.{choice_row, id_at, node_row, said_by, tree_rows, wait_row, waits_columns}
use Rattle.wait_choice.specs.WaitTexts.{waits_rows}
use Rattle.waiting_decisions.proofs.Bounds.{certified_holds, chosen_are}
use Rattle.waiting_decisions.proofs.Right.{names_of}
use Rattle.wait_choice.proofs.ListItems.{drop_twice, found_at, index_alike}
use Rattle.waiting_decisions.proofs.TreesOfNodes.{certifies_by, tree_of_nodes}
use Rattle.waiting_decisions.specs.declared.cost.TheConstants.{MOST_COST}
use Rattle.plan_num.proofs.Lists.{none_first, none_long}

-- ---- rows that have the form

-- rows that are decisions on changes are the rows of what they keep
choices_back : (rows : List WaitRow) (changes : List Activity) → length rows ≡ length changes
    → list_all (λ at. is_choice at.0 at.1) (zip rows changes) ≡ true
    → map (λ at. choice_row at.0 at.1) (zip (map keeps rows) changes) ≡ rows
choices_back [] [] size fit = refl
choices_back [] (change ∷ changes) size fit = absurd (omega (arith, size))
choices_back (at ∷ rows) [] size fit = absurd (omega (arith, size))
choices_back (at ∷ rows) (change ∷ changes) size fit =
    let parts = and_parts (is_choice at change) (list_all (λ at. is_choice at.0 at.1) (zip rows changes)) fit in
    let one = by at parts.0 in
    let rest = choices_back rows changes (omega (arith, size)) parts.1 in
    λ i. one i ∷ rest i
  where
    by : (at : WaitRow) → is_choice at change ≡ true → choice_row (keeps at) change ≡ at
    by (row.Keep id) is = ap (λ k. row.Keep k) (sym (eqb-true id change.id is))
    by (row.Drop id) is = ap (λ k. row.Drop k) (sym (eqb-true id change.id is))
    by (row.Cost cost) is = absurd (both_ways false refl is)
    by (row.Split id) is = absurd (both_ways false refl is)
    by row.Leaf is = absurd (both_ways false refl is)
    by row.Stray is = absurd (both_ways false refl is)

id_there : (changes : List Activity) (k : ℕ) (d : Activity) → k < length changes
    → id_at changes k ≡ (get_or changes k d).id
id_there [] k d inside = absurd (omega (arith, inside))
id_there (change ∷ changes) zero d inside = refl
id_there (change ∷ changes) (suc k) d inside = id_there changes k d (omega (arith, inside))

no_change : Activity
no_change = record { id = 0; step = record { from = 0; to = 0; lower = 0; extra = 0 } }

-- the index of an id that is there has that id
id_back : (changes : List Activity) (id : ℕ) → index_of changes id < length changes
    → id_at changes (index_of changes id) ≡ id
id_back changes id inside = by (position (λ (change : Activity). change.id == id) changes) refl inside
  where
    by : (at : Option ℕ) → position (λ (change : Activity). change.id == id) changes ≡ at
        → unwrap_or at (length changes) < length changes → id_at changes (unwrap_or at (length changes)) ≡ id
    by None is inside = absurd (omega (arith, inside))
    by (Some k) is inside =
        let found = position-Some (λ (change : Activity). change.id == id) changes k no_change is in
        id_there changes k no_change inside ∙ eqb-true (get_or changes k no_change).id id found.1

-- the id of a change that is there has its index, where ids rise
index_back : (changes : List Activity) → IsStrictlyIncreasing (map (λ change. change.id) changes) → (k : ℕ)
    → k < length changes
    → index_of changes (id_at changes k) ≡ k
index_back changes rise k inside =
    let ids = map (λ (change : Activity). change.id) changes in
    let id = id_at changes k in
    let here : k < length ids = omega (arith, inside, length-map changes (λ (change : Activity). change.id)) in
    let at : get_or ids k 0 ≡ id = get_or-map (λ (change : Activity). change.id) changes k no_change 0 inside
    ∙ sym (id_there changes k no_change inside) in
    sym (found_at ids rise id k here at ∙ index_alike ids changes id refl)

-- rows that are nodes are the rows of the nodes that they say, where these name changes
nodes_back : (changes : List Activity) (rows : List WaitRow) → list_all is_node rows ≡ true
    → All (NamesChange (length changes)) (map (node_said changes) rows)
    → map (node_row changes) (map (node_said changes) rows) ≡ rows
nodes_back changes [] are names = refl
nodes_back changes (at ∷ rows) are names =
    let parts = and_parts (is_node at) (list_all is_node rows) are in
    let one = by at parts.0 (names 0 node.Leaf (omega arith)) in
    let rest = nodes_back changes rows parts.1 (λ k d inside. names (suc k) d (omega (arith, inside))) in
    λ i. one i ∷ rest i
  where
    by : (at : WaitRow) → is_node at ≡ true → NamesChange (length changes) (node_said changes at)
        → node_row changes (node_said changes at) ≡ at
    by (row.Split id) is name = ap (λ k. row.Split k) (id_back changes id name)
    by row.Leaf is name = refl
    by (row.Cost cost) is name = absurd (both_ways false refl is)
    by (row.Keep id) is name = absurd (both_ways false refl is)
    by (row.Drop id) is name = absurd (both_ways false refl is)
    by row.Stray is name = absurd (both_ways false refl is)

-- rows of the form are a cost, decisions and nodes
record HaveForm (changes : List Activity) (rows : List WaitRow) : Type 0 where
  cost : rows ≡ row.Cost (cost_in rows) ∷ drop 1 rows
  choices : list_all (λ at. is_choice at.0 at.1) (zip (take (length changes) (drop 1 rows)) changes) ≡ true
  enough : length changes ≤ length (drop 1 rows)
  nodes : list_all is_node (drop (length changes) (drop 1 rows)) ≡ true

zip_front : (rows : List WaitRow) (changes : List Activity)
    → zip (take (length changes) rows) changes ≡ zip rows changes
zip_front [] [] = refl
zip_front [] (change ∷ changes) = refl
zip_front (at ∷ rows) [] = refl
zip_front (at ∷ rows) (change ∷ changes) = ap (λ some. (at, change) ∷ some) (zip_front rows changes)

form_of : (changes : List Activity) (rows : List WaitRow) → is_shaped changes rows ≡ true → HaveForm changes rows
form_of changes [] shaped = absurd (both_ways false refl shaped)
form_of changes (first ∷ rest) shaped =
    let parts = and_parts (is_cost first) (are_choices changes rest) shaped in
    let fits = and_parts _ (list_all is_node (drop (length changes) rest)) parts.1 in
    let sized = and_parts _ (list_all (λ at. is_choice at.0 at.1) (zip rest changes)) fits.0 in
    record {
      cost = ap (λ r. r ∷ rest) (by first parts.0);
      choices = ap (list_all (λ at. is_choice at.0 at.1)) (zip_front rest changes) ∙ sized.1;
      enough = leb-true (length changes) (length rest) sized.0;
      nodes = fits.1;
    }
  where
    by : (first : WaitRow) → is_cost first ≡ true → first ≡ row.Cost (cost_in (first ∷ rest))
    by (row.Cost cost) is = refl
    by (row.Keep id) is = absurd (both_ways false refl is)
    by (row.Drop id) is = absurd (both_ways false refl is)
    by (row.Split id) is = absurd (both_ways false refl is)
    by row.Leaf is = absurd (both_ways false refl is)
    by row.Stray is = absurd (both_ways false refl is)

-- the tree that rows hold, where they hold one
tree_in : List WaitNode → Option (List WaitNode)
tree_in [] = None
tree_in (first ∷ nodes) = Some (first ∷ nodes)

rows_by_tree : (changes : List Activity) (nodes : List WaitNode)
    → tree_rows changes (tree_in nodes) ≡ map (node_row changes) nodes
unfolding tree_in
rows_by_tree changes [] = refl
rows_by_tree changes (first ∷ nodes) = refl

nodes_of : Option (List WaitNode) → List WaitNode
nodes_of None = []
nodes_of (Some nodes) = nodes

same_int : (a b : ℤ) → int_eq a b ≡ true → a ≡ b
same_int a b is = grind (arith, ints)

int_same : (a b : ℤ) → a ≡ b → int_eq a b ≡ true
int_same a b is = grind (arith, ints)

-- ---- a text that breaks no rule

kept_rule : (broken : Bool) (why : WaitRule) → broken_where broken why ≡ [] → broken ≡ false
kept_rule false why none = refl
kept_rule true why none = absurd (cc)

record BreaksNone (problem : DelayProblem) (penalty : ℕ) (text : List ℕ) : Type 0 where
  table : faults waits_columns text ≡ []
  shaped : is_shaped problem.changes (rows_read text) ≡ true
  costs : int_eq (pos (cost_in (rows_read text))) (cost_of problem penalty (kept_in problem.changes (rows_read text)))
      ≡ true
  nodes : broken_nodes problem penalty (pos (cost_in (rows_read text))) (nodes_in problem.changes (rows_read text)) ≡ []

module _ (problem : DelayProblem) (penalty : ℕ) (text : List ℕ) where
  abbrev changes : List Activity
  changes = problem.changes

  abbrev rows : List WaitRow
  rows = rows_read text

  abbrev cost : ℤ
  cost = pos (cost_in rows)

  abbrev kept : List Bool
  kept = kept_in changes rows

  abbrev nodes : List WaitNode
  nodes = nodes_in changes rows

  breaks_none : first_broken_rule problem penalty text ≡ None → BreaksNone problem penalty text
  unfolding first_broken_rule
  breaks_none none =
      let all = none_first
      (broken_where (not (length (faults waits_columns text) == 0)) rule.Row ++ broken_rows problem penalty rows) none in
      let table = kept_rule (not (length (faults waits_columns text) == 0)) rule.Row
      (front_none (broken_where (not (length (faults waits_columns text) == 0)) rule.Row)
      (broken_rows problem penalty rows) all) in
      let some = back_none (broken_where (not (length (faults waits_columns text) == 0)) rule.Row)
      (broken_rows problem penalty rows) all in
      let S = broken_where (not (is_shaped changes rows)) rule.Shape in
      let C = broken_where (not (int_eq cost (cost_of problem penalty kept))) rule.Cost in
      let N = broken_nodes problem penalty cost nodes in
      let first = front_none (S ++ C) N some in
      record {
        table = none_long (faults waits_columns text) (not-false _ table);
        shaped = not-false _ (kept_rule (not (is_shaped changes rows)) rule.Shape (front_none S C first));
        costs = not-false _ (kept_rule (not (int_eq cost (cost_of problem penalty kept))) rule.Cost
            (back_none S C first));
        nodes = back_none (S ++ C) N some;
      }

  -- the cost of a table fits its column
  cell_fits : (cell : ℤ) → pos 0 ≤ℤ cell → cell ≤ℤ pos MOST_COST → unsigned_abs cell ≤ MOST_COST
  cell_fits (pos n) low high = omega (arith, ints, high)
  cell_fits (negsuc n) low high = absurd (omega (arith, ints, low))

  said_fits : (place id value : ℕ) (rest : List WaitRow) → value ≤ MOST_COST
      → cost_in (said_by place id value ∷ rest) ≤ MOST_COST
  said_fits zero id value rest few = grind arith
  said_fits (suc zero) id value rest few = grind arith
  said_fits (suc (suc zero)) id value rest few = grind arith
  said_fits (suc (suc (suc zero))) id value rest few = grind arith
  said_fits (suc (suc (suc (suc zero)))) id value rest few = grind arith
  said_fits (suc (suc (suc (suc (suc place))))) id value rest few = omega arith

  table_fits : (table : List TableRow) → All (λ (row : TableRow). InColumns waits_columns row.cells) table
      → cost_in (records_by wait_row table) ≤ MOST_COST
  table_fits [] fit = omega arith
  table_fits (first ∷ table) fit =
      let cell = in_column waits_columns first.cells 2 (fit 0 first (omega arith)) (omega arith) in
      said_fits (number_in first.cells 0) (number_in first.cells 1) (number_in first.cells 2)
      (records_by wait_row table)
      (cell_fits (get_or first.cells 2 (pos 0)) cell.0 cell.1)

  cost_fits : faults waits_columns text ≡ [] → cost_in rows ≤ MOST_COST
  cost_fits none = table_fits (table_of waits_columns text) (table_in_columns waits_columns text none)

  -- nodes that break no rule certify the cost
  nodes_certify : (nodes : List WaitNode) → broken_nodes problem penalty cost nodes ≡ []
      → IfSome (tree_in nodes) (Certifies problem penalty cost)
  unfolding tree_in
  nodes_certify [] none = tt
  nodes_certify (first ∷ more) none =
      grind (arith, certifies_by, not-false, kept_rule, front_none, back_none)

  tree_names : (nodes : List WaitNode) → IfSome (tree_in nodes) (Certifies problem penalty cost) → IsForward problem
      → All (NamesChange (length changes)) nodes
  unfolding tree_in
  tree_names [] certified forward = All-nil (NamesChange (length changes))
  tree_names (first ∷ more) certified forward = names_of problem forward penalty cost (first ∷ more) certified

  tree_least : (nodes : List WaitNode) → IfSome (tree_in nodes) (Certifies problem penalty cost) → IsForward problem
      → IfSome (tree_in nodes) (λ tree. CostsAtLeast problem penalty cost)
  unfolding tree_in
  tree_least [] certified forward = tt
  tree_least (first ∷ more) certified forward = certified_holds problem forward penalty cost (first ∷ more) certified

  some_names : (nodes : List WaitNode) → All (NamesChange (length changes)) nodes
      → IfSome (tree_in nodes) (All (NamesChange (length changes)))
  unfolding tree_in
  some_names [] all = tt
  some_names (first ∷ more) all = all

  module _ (forward : IsForward problem) (none : BreaksNone problem penalty text) where
    form : HaveForm changes rows
    form = form_of changes rows none.shaped

    abbrev waits : Waits
    waits = record { kept = kept; cost = cost; tree = tree_in nodes }

    certified : IfSome (tree_in nodes) (Certifies problem penalty cost)
    certified = nodes_certify nodes none.nodes

    names : All (NamesChange (length changes)) nodes
    names = tree_names nodes certified forward

    kept_size : length kept ≡ length changes
    kept_size = grind (arith, length-map, length-take-le, form)

    costs : Costs problem penalty kept cost
    costs = record {
      each = kept_size;
      times = times_of problem kept;
      least = least_times_are_least problem (chosen_changes problem kept) forward (chosen_are problem kept);
      sum = same_int cost (cost_of problem penalty kept) none.costs;
    }

    right : IsRight problem penalty waits
    right = record {
      over = record { each = kept_size; names = some_names nodes names };
      costs = costs;
      writable = (omega (arith, ints), omega (arith, ints, cost_fits none.table));
      certified = certified;
      best = tree_least nodes certified forward;
    }

    behind : drop (length changes) (drop 1 rows) ≡ drop (length changes + 1) rows
    behind = drop_twice (length changes) rows

    reads : waits_rows problem waits ≡ rows
    reads =
        let front = take (length changes) (drop 1 rows) in
        let back = drop (length changes) (drop 1 rows) in
        let one = choices_back front changes (length-take-le (length changes) (drop 1 rows) form.enough) form.choices in
        let two : map (node_row changes) nodes ≡ back =
        nodes_back changes (drop (length changes + 1) rows) (ap (list_all is_node) (sym behind) ∙ form.nodes) names
        ∙ sym behind in
        (λ i. row.Cost (cost_in rows) ∷ one i ++ (rows_by_tree changes nodes ∙ two) i)
        ∙ ap (λ some. row.Cost (cost_in rows) ∷ some) (take-append-drop (length changes) (drop 1 rows))
        ∙ sym form.cost

    passes : Passes problem penalty text
    passes = record { waits = waits; reads = (none.table, sym reads); right = right }

    best : KeepsBest problem penalty text
    unfolding tree_in
    best some = record { costs = costs; least = by nodes some (tree_least nodes certified forward) }
      where
        by : (nodes : List WaitNode) → ¬ (nodes ≡ [])
            → IfSome (tree_in nodes) (λ tree. CostsAtLeast problem penalty cost)
            → CostsAtLeast problem penalty cost
        by [] some least = absurd (some refl)
        by (first ∷ more) some least = least

  -- ---- a text that is the table of a right decision

  keeps_back : (kept : List Bool) (changes : List Activity) → length kept ≡ length changes
      → map keeps (map (λ at. choice_row at.0 at.1) (zip kept changes)) ≡ kept
  keeps_back [] [] size = refl
  keeps_back [] (change ∷ changes) size = absurd (omega (arith, size))
  keeps_back (is ∷ kept) [] size = absurd (omega (arith, size))
  keeps_back (true ∷ kept) (change ∷ changes) size =
      ap (λ some. true ∷ some) (keeps_back kept changes (omega (arith, size)))
  keeps_back (false ∷ kept) (change ∷ changes) size =
      ap (λ some. false ∷ some) (keeps_back kept changes (omega (arith, size)))

  rows_size : (kept : List Bool) (changes : List Activity) → length kept ≡ length changes
      → length (map (λ at. choice_row at.0 at.1) (zip kept changes)) ≡ length changes
  rows_size [] [] size = refl
  rows_size [] (change ∷ changes) size = absurd (omega (arith, size))
  rows_size (is ∷ kept) [] size = absurd (omega (arith, size))
  rows_size (is ∷ kept) (change ∷ changes) size = ap suc (rows_size kept changes (omega (arith, size)))

  rows_fit : (kept : List Bool) (changes : List Activity) (more : List WaitRow) → length kept ≡ length changes
      → list_all (λ at. is_choice at.0 at.1) (zip (map (λ at. choice_row at.0 at.1) (zip kept changes) ++ more) changes)
      ≡ true
  rows_fit [] [] [] size = refl
  rows_fit [] [] (at ∷ more) size = refl
  rows_fit [] (change ∷ changes) more size = absurd (omega (arith, size))
  rows_fit (is ∷ kept) [] more size = absurd (omega (arith, size))
  rows_fit (true ∷ kept) (change ∷ changes) more size =
      and_from _ _ (eq-eqb change.id change.id refl) (rows_fit kept changes more (omega (arith, size)))
  rows_fit (false ∷ kept) (change ∷ changes) more size =
      and_from _ _ (eq-eqb change.id change.id refl) (rows_fit kept changes more (omega (arith, size)))

  nodes_are : (changes : List Activity) (nodes : List WaitNode) → list_all is_node (map (node_row changes) nodes) ≡ true
  nodes_are all [] = refl
  nodes_are all (node.Leaf ∷ more) = nodes_are all more
  nodes_are all (node.Split change ∷ more) = nodes_are all more

  trees_are : (changes : List Activity) (tree : Option (List WaitNode))
      → list_all is_node (tree_rows changes tree) ≡ true
  trees_are all None = refl
  trees_are all (Some more) = nodes_are all more

  said_back : (changes : List Activity) → IsStrictlyIncreasing (map (λ change. change.id) changes)
      → (nodes : List WaitNode)
      → All (NamesChange (length changes)) nodes → map (node_said changes) (map (node_row changes) nodes) ≡ nodes
  said_back changes rise [] names = refl
  said_back changes rise (node.Leaf ∷ nodes) names =
      ap (λ some. node.Leaf ∷ some) (said_back changes rise nodes
      (λ k d inside. names (suc k) d (omega (arith, inside))))
  said_back changes rise (node.Split change ∷ nodes) names =
      let one = index_back changes rise change (names 0 node.Leaf (omega arith)) in
      let rest = said_back changes rise nodes (λ k d inside. names (suc k) d (omega (arith, inside))) in
      λ i. node.Split (one i) ∷ rest i

  front_taken : {X : Type 0} (n : ℕ) (xs ys : List X) → length xs ≡ n
      → (take n (xs ++ ys) ≡ xs) × (drop n (xs ++ ys) ≡ ys)
  front_taken n xs ys size = (
    ap (λ k. take k (xs ++ ys)) (sym size) ∙ take-append_seam xs ys,
    ap (λ k. drop k (xs ++ ys)) (sym size) ∙ drop_front xs,
  )
    where
      drop_front : (xs : List _) → drop (length xs) (xs ++ ys) ≡ ys
      drop_front [] = refl
      drop_front (x ∷ xs) = drop_front xs

  module _ (forward : IsForward problem) (rise : IsStrictlyIncreasing (map (λ change. change.id) changes))
      (passed : Passes problem penalty text) where
    abbrev given : Waits
    given = passed.waits

    abbrev C : List WaitRow
    C = map (λ at. choice_row at.0 at.1) (zip given.kept changes)

    abbrev T : List WaitRow
    T = tree_rows changes given.tree

    each : length given.kept ≡ length changes
    each = passed.right.over.each

    parts : (take (length changes) (C ++ T) ≡ C) × (drop (length changes) (C ++ T) ≡ T)
    parts = front_taken (length changes) C T (rows_size given.kept changes each)

    all_rows : List WaitRow
    all_rows = row.Cost (unsigned_abs given.cost) ∷ C ++ T

    is_cost_of : pos (unsigned_abs given.cost) ≡ given.cost
    is_cost_of = by given.cost passed.right.writable.0
      where
        by : (z : ℤ) → pos 0 ≤ℤ z → pos (unsigned_abs z) ≡ z
        by (pos n) low = refl
        by (negsuc n) low = absurd (omega (arith, ints, low))

    costs_so : given.cost ≡ cost_of problem penalty given.kept
    costs_so =
        let its = passed.right.costs in
        its.sum ∙ ap (total problem penalty given.kept)
        (least_is_one problem (chosen_changes problem given.kept) its.times (times_of problem given.kept) its.least
        (least_times_are_least problem (chosen_changes problem given.kept) forward (chosen_are problem given.kept)))

    kept_so : kept_in changes all_rows ≡ given.kept
    unfolding all_rows
    kept_so = ap (map keeps) parts.0 ∙ keeps_back given.kept changes each

    nodes_so : nodes_in changes all_rows ≡ nodes_of given.tree
    unfolding all_rows nodes_of
    nodes_so =
        ap (map (node_said changes)) (sym (drop_twice (length changes) (row.Cost (unsigned_abs given.cost) ∷ C ++ T))
        ∙ parts.1)
        ∙ by given.tree passed.right.over.names
      where
        by : (tree : Option (List WaitNode)) → IfSome tree (All (NamesChange (length changes)))
            → map (node_said changes) (tree_rows changes tree) ≡ nodes_of tree
        by None named = refl
        by (Some more) named = said_back changes rise more named

    shaped_so : is_shaped changes all_rows ≡ true
    unfolding all_rows
    shaped_so =
        grind (arith, and_from, le-leb, length-append, rows_size, each, rows_fit, parts, trees_are)

    tree_so : broken_nodes problem penalty given.cost (nodes_of given.tree) ≡ []
    unfolding nodes_of
    tree_so = by given.tree passed.right.certified
      where
        by : (tree : Option (List WaitNode)) → IfSome tree (Certifies problem penalty given.cost)
            → broken_nodes problem penalty given.cost (nodes_of tree) ≡ []
        by None shown = refl
        by (Some []) shown = refl
        by (Some (first ∷ more)) shown =
            let is = tree_of_nodes problem penalty given.cost (first ∷ more) shown in
            λ i. broken_where (not (is.0 i)) rule.Tree ++ broken_where (is.1 i) rule.Leaf

    breaks_no_rule : first_broken_rule problem penalty text ≡ None
    unfolding first_broken_rule all_rows
    breaks_no_rule =
        grind (
          arith,
          all_rows,
          reads,
          costs,
          is_cost_of,
          kept_so,
          int_same,
          costs_so,
          nodes_so,
          tree_so,
          slice_get,
          shaped_so,
        )

-- ---- the clauses

pub passes_where : (problem whole : DelayProblem) (penalty : ℕ) (text : List ℕ) → IsForward problem → problem ≡ whole
    → (answer : Option WaitRule) → answer ≡ first_broken_rule problem penalty text
    → IfNone answer (Passes whole penalty text)
passes_where problem whole penalty text forward same None is =
    subst (λ p. Passes p penalty text) same (passes problem penalty text forward
    (breaks_none problem penalty text (sym is)))
passes_where problem whole penalty text forward same (Some why) is = tt

pub best_where : (problem whole : DelayProblem) (penalty : ℕ) (text : List ℕ) → IsForward problem → problem ≡ whole
    → (answer : Option WaitRule) → answer ≡ first_broken_rule problem penalty text
    → IfNone answer (KeepsBest whole penalty text)
best_where problem whole penalty text forward same None is =
    subst (λ p. KeepsBest p penalty text) same
    (best problem penalty text forward (breaks_none problem penalty text (sym is)))
best_where problem whole penalty text forward same (Some why) is = tt

pub only_where : (problem whole : DelayProblem) (penalty : ℕ) (text : List ℕ) → IsForward problem
    → IsStrictlyIncreasing (map (λ change. change.id) problem.changes) → problem ≡ whole
    → (answer : Option WaitRule) → answer ≡ first_broken_rule problem penalty text → Passes whole penalty text
    → answer ≡ None
only_where problem whole penalty text forward rise same answer is passed =
    is ∙ breaks_no_rule problem penalty text forward rise (subst (λ p. Passes p penalty text) (sym same) passed)

-- a text that is printed of a right decision breaks no rule
pub printed_passes : {E : Type 0} (problem : DelayProblem) (given : Waits) → IsForward problem
    → IsStrictlyIncreasing (map (λ change. change.id) problem.changes) → (result : Result (List ℕ) E)
    → IfOk result (ReadsAs waits_columns wait_row (waits_rows problem given))
    → IfOk result (λ text. (penalty : ℕ) → IsRight problem penalty given
    → first_broken_rule problem penalty text ≡ None)
printed_passes problem given forward rise (Ok text) again =
    λ penalty fine. breaks_no_rule problem penalty text forward rise
    (record { waits = given; reads = again; right = fine })
printed_passes problem given forward rise (Err error) again = tt

-- The shape of nodes: whether they are one whole tree, node by node.
use Rattle.std.proofs.Common.{◌≡◌, ◌≢◌, ℕ, zero, suc, ◌+◌, ◌-◌, ◌≤◌, ◌<◌, ◌∙◌, ◌==◌, Bool, true}
use Rattle.std.proofs.Common.{false, nat_lt, if◌then◌else◌, List, [], ◌∷◌, ◌++◌, length, drop}
use Rattle.std.proofs.Common.{slice_get, Option, Some, None, option_map, option_and_then, refl, ap}
use Rattle.std.proofs.Common.{sym, arith}
use Rattle.std.proofs.lemmas.Bool.{eq-eqb, ne_eqb, lt-ltb, le-ltb, cases_lt}
use Rattle.std.proofs.lemmas.List.{append_assoc, drop_more, drop_all, length-append, length-drop}
use Rattle.std.proofs.lemmas.Option.{slice_get_within, get_or_from_slice_get, none-some}
use Rattle.line_concepts.specs.declared.fault.TreeFault.{TreeFault}
use Rattle.line_concepts.specs.declared.fault.TreeFault.TheVariants as fault
use Rattle.line_concepts.specs.declared.node.Node.{Node}
use Rattle.line_concepts.specs.declared.node.Node.TheVariants as node
use Rattle.line_concepts.specs.TreeFaults.{shape_of, tree_in}
use Rattle.line_concepts.specs.Trees.{NodeTree, ReadTree, leaf, fork, first_tree, forked, is_split}
use Rattle.line_concepts.specs.Trees.{preorder}

-- ---- the nodes behind some trees

-- how many trees are to come behind a node, where there were so many behind its tree
abbrev pub trees_behind : ℕ → Node → ℕ
trees_behind count node = if is_split node then suc (suc count) else count

-- the nodes behind so many trees one after the other, where there are so many
unfoldable pub behind : ℕ → List Node → Option (List Node)
behind zero nodes = Some nodes
behind (suc count) [] = None
behind (suc count) (node ∷ nodes) = behind (trees_behind count node) nodes

-- ---- what the first tree is

-- no leaf is a split
unfoldable pub IsProper : NodeTree → Type 0
IsProper (leaf node) = is_split node ≡ false
IsProper (fork line at lower upper) = IsProper lower × IsProper upper

-- a tree that nodes begin with, and the nodes behind it
pub record Begins (nodes : List Node) (read : NodeTree × List Node) : Type 0 where
  pub whole : preorder read.0 ++ read.1 ≡ nodes
  pub proper : IsProper read.0

abbrev BeginsIf : List Node → ReadTree → Type 0
BeginsIf nodes read = (one : NodeTree × List Node) → read ≡ Some one → Begins nodes one

none_begins : (nodes : List Node) → BeginsIf nodes None
none_begins nodes one is = absurd (none-some one is)

begins_by : (nodes : List Node) (read : NodeTree × List Node) → Begins nodes read
    → BeginsIf nodes (Some read)
begins_by nodes read begins one is = grind arith

leaf_begins : (node : Node) (nodes : List Node) → is_split node ≡ false
    → Begins (node ∷ nodes) (leaf node, nodes)
unfolding preorder IsProper
leaf_begins node nodes is = record { whole = refl; proper = is }

fork_begins : (line at : ℕ) (nodes : List Node) (lower upper : NodeTree × List Node)
    → Begins nodes lower → Begins lower.1 upper
    → Begins (node.Split line at ∷ nodes) (fork line at lower.0 upper.0, upper.1)
unfolding preorder IsProper
fork_begins line at nodes lower upper first second = grind (arith, append_assoc)

upper_begins : (line at : ℕ) (nodes : List Node) (lower : NodeTree × List Node) (read : ReadTree)
    → Begins nodes lower → BeginsIf lower.1 read
    → BeginsIf (node.Split line at ∷ nodes)
    (option_map (λ upper. (fork line at lower.0 upper.0, upper.1)) read)
upper_begins line at nodes lower None first second = none_begins (node.Split line at ∷ nodes)
upper_begins line at nodes lower (Some upper) first second =
    begins_by (node.Split line at ∷ nodes) (fork line at lower.0 upper.0, upper.1)
    (fork_begins line at nodes lower upper first (second upper refl))

lower_begins : (line at : ℕ) (nodes : List Node) (next : List Node → ReadTree) (read : ReadTree)
    → BeginsIf nodes read → ((rest : List Node) → BeginsIf rest (next rest))
    → BeginsIf (node.Split line at ∷ nodes) (option_and_then (forked next line at) read)
lower_begins line at nodes next None first second = none_begins (node.Split line at ∷ nodes)
lower_begins line at nodes next (Some lower) first second =
    upper_begins line at nodes lower (next lower.1) (first lower refl) (second lower.1)

pub tree_begins : (levels : ℕ) (nodes : List Node) → BeginsIf nodes (first_tree levels nodes)
unfolding first_tree
tree_begins zero nodes = none_begins nodes
tree_begins (suc levels) [] = none_begins []
tree_begins (suc levels) (node.Split line at ∷ nodes) =
    lower_begins line at nodes (first_tree levels) (first_tree levels nodes)
    (tree_begins levels nodes) (λ rest. tree_begins levels rest)
tree_begins (suc levels) (node.Empty edge side ∷ nodes) =
    begins_by _ (leaf (node.Empty edge side), nodes) (leaf_begins (node.Empty edge side) nodes refl)
tree_begins (suc levels) (node.Bound multipliers ∷ nodes) =
    begins_by _ (leaf (node.Bound multipliers), nodes)
    (leaf_begins (node.Bound multipliers) nodes refl)
tree_begins (suc levels) (node.Point ∷ nodes) =
    begins_by _ (leaf node.Point, nodes) (leaf_begins node.Point nodes refl)

-- ---- the nodes behind the first tree

-- what a reading of one tree after another leaves
abbrev and_behind : ℕ → ReadTree → Option (List Node)
and_behind count read = option_and_then (λ read. behind count read.1) read

shorter : (nodes : List Node) (read : NodeTree × List Node) (levels : ℕ) → Begins nodes read
    → length nodes ≤ levels → length read.1 ≤ levels
shorter nodes read levels begins few =
    omega (arith, few, ap length begins.whole, length-append (preorder read.0) read.1)

one_more : (count : ℕ) (line at : ℕ) (levels : ℕ) (nodes : List Node) (read : ReadTree)
    → BeginsIf nodes read → length nodes ≤ levels
    → ((rest : List Node) → length rest ≤ levels
    → behind (suc count) rest ≡ and_behind count (first_tree levels rest))
    → and_behind (suc count) read
    ≡ and_behind count (option_and_then (forked (first_tree levels) line at) read)
one_more count line at levels nodes None begins few more = refl
one_more count line at levels nodes (Some lower) begins few more =
    more lower.1 (shorter nodes lower levels (begins lower refl) few)
    ∙ kept (first_tree levels lower.1)
  where
    kept : (read : ReadTree) → and_behind count read
        ≡ and_behind count (option_map (λ upper. (fork line at lower.0 upper.0, upper.1)) read)
    kept None = refl
    kept (Some upper) = refl

pub behind_first : (levels : ℕ) (nodes : List Node) (count : ℕ) → length nodes ≤ levels
    → behind (suc count) nodes ≡ and_behind count (first_tree levels nodes)
unfolding first_tree behind
behind_first zero [] count few = refl
behind_first zero (node ∷ nodes) count few = absurd (omega (arith, few))
behind_first (suc levels) [] count few = refl
behind_first (suc levels) (node.Split line at ∷ nodes) count few =
    behind_first levels nodes (suc count) (omega (arith, few))
    ∙ one_more count line at levels nodes (first_tree levels nodes) (tree_begins levels nodes)
    (omega (arith, few)) (λ rest few. behind_first levels rest count few)
behind_first (suc levels) (node.Empty edge side ∷ nodes) count few = refl
behind_first (suc levels) (node.Bound multipliers ∷ nodes) count few = refl
behind_first (suc levels) (node.Point ∷ nodes) count few = refl

-- ---- the fault of the shape

-- the fault, by the nodes behind the first tree
abbrev pub shape_behind : ℕ → Option (List Node) → List TreeFault
shape_behind nodes None = fault.Shape nodes ∷ []
shape_behind nodes (Some rest) =
    if length rest == 0 then [] else fault.Shape (nodes - length rest - 1) ∷ []

by_rest : (count : ℕ) (read : ReadTree) → shape_of count read
    ≡ shape_behind count (and_behind 0 read)
unfolding behind
by_rest count None = refl
by_rest count (Some read) = refl

pub shape_is : (nodes : List Node)
    → shape_of (length nodes) (tree_in nodes) ≡ shape_behind (length nodes) (behind 1 nodes)
shape_is nodes = by_rest (length nodes) (tree_in nodes)
    ∙ ap (shape_behind (length nodes)) (sym (behind_first (length nodes) nodes 0 (omega arith)))

-- ---- node by node

module _ (nodes : List Node) (place : ℕ) (node : Node)
    (there : slice_get nodes place ≡ Some node) where
  pub drop_node : drop place nodes ≡ node ∷ drop (place + 1) nodes
  drop_node = drop_more nodes place node (slice_get_within nodes place node there)
      ∙ ap (λ node. node ∷ drop (place + 1) nodes)
      (get_or_from_slice_get nodes place node node there)

  pub behind_node : (count : ℕ) → behind (suc count) (drop place nodes)
      ≡ behind (trees_behind count node) (drop (place + 1) nodes)
  unfolding behind
  behind_node count = ap (behind (suc count)) drop_node

-- the first tree ends at a place
pub ends_at : (nodes : List Node) (place : ℕ) → place < length nodes
    → slice_get (shape_behind (length nodes) (behind 0 (drop (place + 1) nodes))) 0
    ≡ (if nat_lt (place + 1) (length nodes) then Some (fault.Shape place) else None)
unfolding behind
ends_at nodes place within =
    grind (arith, cases_lt, slice_get, ne_eqb, length-drop, lt-ltb, eq-eqb, le-ltb)

-- no node is left, and a tree is to come
pub ends_early : (nodes : List Node) (place count : ℕ) → length nodes ≤ place
    → behind (suc count) (drop place nodes) ≡ None
unfolding behind
ends_early nodes place count past = ap (behind (suc count)) (drop_all place nodes past)

-- ---- turns of the loop

module _ (nodes : List Node) (place waiting : ℕ) (node : Node)
    (there : slice_get nodes place ≡ Some node)
    (so_far : behind 1 nodes ≡ behind (suc waiting) (drop place nodes)) where
  turn : (split : Bool) → is_split node ≡ split
      → behind 1 nodes ≡ behind (if split then suc (suc waiting) else waiting)
      (drop (place + 1) nodes)
  turn split is = grind (arith, behind_node)

  -- a split
  pub split_turn : (after : ℕ) → is_split node ≡ true → after ≡ waiting + 1
      → behind 1 nodes ≡ behind (suc after) (drop (place + 1) nodes)
  split_turn after is after_is = turn true is
      ∙ ap (λ count. behind count (drop (place + 1) nodes)) (omega (arith, after_is))

  -- a leaf before another tree
  pub leaf_turn : (after : ℕ) → is_split node ≡ false → waiting ≢ 0 → after ≡ waiting - 1
      → behind 1 nodes ≡ behind (suc after) (drop (place + 1) nodes)
  leaf_turn after is some after_is = turn false is
      ∙ ap (λ count. behind count (drop (place + 1) nodes)) (omega (arith, after_is, some))

  -- the last leaf of the first tree
  pub last_turn : is_split node ≡ false → waiting ≡ 0
      → slice_get (shape_of (length nodes) (tree_in nodes)) 0
      ≡ (if nat_lt (place + 1) (length nodes) then Some (fault.Shape place) else None)
  last_turn is none =
      ap (λ faults. slice_get faults 0) (shape_is nodes)
      ∙ ap (λ rest. slice_get (shape_behind (length nodes) rest) 0)
      (turn false is ∙ ap (λ count. behind count (drop (place + 1) nodes)) none)
      ∙ ends_at nodes place (slice_get_within nodes place node there)

pub past_turns : (nodes : List Node) (place waiting : ℕ)
    → behind 1 nodes ≡ behind (suc waiting) (drop place nodes) → length nodes ≤ place
    → slice_get (shape_of (length nodes) (tree_in nodes)) 0 ≡ Some (fault.Shape (length nodes))
past_turns nodes place waiting so_far past = grind (arith, slice_get, shape_is, ends_early)

-- The text of a tree, node by node.
use Rattle.plan_num.proofs.Common.{◌≡◌, ℕ, ◌+◌, ◌≤◌, List, [], ◌∷◌, ◌++◌, length, take, slice_get}
use Rattle.plan_num.proofs.Common.{get_or, Some, All, ap, subst, sym, ◌∙◌, refl, arith}
use Rattle.plan_num.proofs.Common.{append_assoc, flat_map, flat_map-append, take_all, take_more}
use Rattle.plan_num.proofs.Common.{All-push, get_or_from_slice_get, slice_get_within}
use Rattle.tables.proofs.Common.{tree_columns, line_text, plain_header, written_back}
use Rattle.tables.proofs.Common.{columns_written}
use Rattle.tables.specs.Writing.{table_text}
use Rattle.line_cost_model.proofs.Common.{IsProblem, ProblemParts}
use Rattle.line_concepts.specs.declared.node.Node.{Node}
use Rattle.line_concepts.specs.declared.node.Node.TheVariants as node
use Rattle.branch_certificate.specs.TreeTexts.{CanBeWritten, IsSmallSplit, ReadsBackAs, node_rows}
use Rattle.line_concepts.specs.Nodes.{NamesWhatIs}
use Rattle.branch_certificate.specs.TreeTexts.{tree_header, tree_text}
use Rattle.branch_certificate.proofs.WriteInside.{rows_inside}
use Rattle.branch_certificate.proofs.WriteRows.{rows_more}
use Rattle.branch_certificate.proofs.WriteTrees.{nodes_back}

-- the lines of the first items, with those of one more
pub lines_more : {X Y : Type 0} (header : List ℕ) (line : Y → List ℕ) (rows : X → List Y) (xs : List X)
    (i : ℕ) (x : X) (old new : List ℕ) → new ≡ old ++ flat_map line (rows x)
    → old ≡ header ++ 10 ∷ flat_map line (flat_map rows (take i xs)) → slice_get xs i ≡ Some x
    → new ≡ header ++ 10 ∷ flat_map line (flat_map rows (take (i + 1) xs))
lines_more header line rows xs i x old new pushed are there =
    let before = flat_map rows (take i xs) in
    pushed ∙ ap (λ some. some ++ flat_map line (rows x)) are
    ∙ append_assoc header (10 ∷ flat_map line before) (flat_map line (rows x))
    ∙ ap (λ some. header ++ 10 ∷ some) (sym (flat_map-append line before (rows x))
    ∙ ap (flat_map line) (rows_more rows xs i x before (before ++ rows x) refl refl there))

-- what holds of the first items, and of one more
pub items_more : {X : Type 0} (P : X → Type 0) (xs : List X) (i : ℕ) (x : X) → All P (take i xs) → P x
    → slice_get xs i ≡ Some x → All P (take (i + 1) xs)
items_more P xs i x all own there =
    subst (All P) (sym (take_more xs i x (slice_get_within xs i x there)
    ∙ ap (λ item. take i xs ++ item ∷ []) (get_or_from_slice_get xs i x x there)))
    (All-push P (take i xs) x all own)

-- the lines of all nodes are the text of the tree
pub all_lines : (problem : ProblemParts) (nodes : List Node) (i : ℕ) → length nodes ≤ i
    → tree_header ++ 10 ∷ flat_map (line_text tree_columns) (flat_map (node_rows problem) (take i nodes))
    ≡ tree_text problem nodes
unfolding tree_text table_text
all_lines problem nodes i past = grind (arith, take_all)

-- and it is read back
pub text_back : (problem : ProblemParts) → IsProblem problem → (nodes : List Node)
    → All (NamesWhatIs problem) nodes → All CanBeWritten nodes → (text : List ℕ)
    → text ≡ tree_text problem nodes → ReadsBackAs problem nodes text
unfolding tree_text
text_back problem sound nodes named can text is =
    subst (ReadsBackAs problem nodes) (sym is)
    (nodes_back problem sound nodes named can (tree_text problem nodes)
    (written_back tree_header tree_columns (flat_map (node_rows problem) nodes) (omega arith)
    (columns_written tree_columns refl)
    (rows_inside problem sound nodes named can) (refl, plain_header tree_header refl)))

-- the splits of nodes that can be written are not too great
pub small_splits : (nodes : List Node) → All CanBeWritten nodes → All IsSmallSplit nodes
small_splits nodes can k d h = grind (arith, get_or)

-- A text without a fault as a tree has exactly the rows of that tree, so it is written anew row by
-- row.
use Rattle.plan_num.proofs.Common.{◌≡◌, ℕ, ℤ, pos, arith, Bool, true, false, cond, not, List, []}
use Rattle.plan_num.proofs.Common.{◌∷◌, ◌++◌, length, map, slice_get, refl, ap, sym, ◌∙◌, Some, All}
use Rattle.plan_num.proofs.Common.{append-nil, append_assoc, Err, Ok, Result, AllByRecursion}
use Rattle.plan_num.proofs.Common.{flat_map, ltb-false, ltb-true, not-false, Decides-int_eq}
use Rattle.plan_num.proofs.Common.{flat_map-append, All-head, All-tail}
use Rattle.tables.specs.declared.file_id.FileId.TheVariants as file
use Rattle.tables.specs.declared.row_why.RowWhy.TheVariants as why
use Rattle.tables.specs.declared.read_fault.ReadFault.{ReadFault}
use Rattle.tables.specs.declared.read_fault.RowFault.{RowFault}
use Rattle.tables.proofs.Common.{tree_columns, numbered, records, faults, table_of, table_row}
use Rattle.tables.proofs.Common.{TableRow, InColumns, line_text, KeepRules, parts_sound}
use Rattle.tables.proofs.Common.{table_sound, whole_rule_sound, table_in_columns}
use Rattle.tables.specs.Inputs.{row_faults}
use Rattle.tables.specs.declared.read_fault.ReadFault.TheVariants as read
use Rattle.text_fields.specs.Rows.{Row}
use Rattle.tables.specs.Writing.{table_text}
use Rattle.line_cost_model.proofs.Common.{ProblemParts}
use Rattle.branch_certificate.specs.declared.tree_row.TreeRow.{TreeRow}
use Rattle.branch_certificate.specs.ReadRows.{IsTreeRow}
use Rattle.branch_certificate.specs.TreeFiles.{NamedIds, due_after}
use Rattle.branch_certificate.specs.TreeFiles.{ids_of, is_due}
use Rattle.branch_certificate.specs.TreeFiles.{is_multiplier}
use Rattle.branch_certificate.specs.TreeFiles.{multiplier_rows, node_of, nodes_of, read_faults}
use Rattle.branch_certificate.specs.TreeFiles.{tree_input, tree_of, tree_row, tree_rules}
use Rattle.branch_certificate.specs.TreeTexts.{CopiesTrees, CopyGives, node_rows}
use Rattle.branch_certificate.specs.TreeTexts.{tree_header, tree_text}
use Rattle.branch_certificate.proofs.FaultlessTrees.{row_cells}
use Rattle.branch_certificate.proofs.ReadSteps.{due_more, inside_first, multiplier_first}
use Rattle.branch_certificate.proofs.ReadSteps.{no_multiplier, nodes_first, nodes_none}
use Rattle.branch_certificate.proofs.RowsOfNodes.{multipliers_written, node_written, none_broken}
use Rattle.branch_certificate.proofs.RowsOfNodes.{whole_row, written}
use Rattle.plan_num.proofs.Lists.{unmapped}

module _ (problem : ProblemParts) where
  abbrev ids : NamedIds
  ids = ids_of problem

  -- rows that keep the rules: those of multipliers at their front are as many as are due, and all
  -- others are the rows of their nodes
  record AreWritten (before rows : List TreeRow) : Type 0 where
    due : length (multiplier_rows rows) ≡ due_after before
    same : map (written problem) rows
        ≡ map (written problem) (multiplier_rows rows) ++ flat_map (node_rows problem) (nodes_of ids rows)

  module _ (row : TreeRow) (rows before : List TreeRow) (cells : IsTreeRow row)
      (all_cells : AllByRecursion IsTreeRow rows) (keep : KeepRules (tree_rules ids) before (row ∷ rows))
      (next : AreWritten (before ++ row ∷ []) rows) where
    abbrev behind : List TableRow
    behind = flat_map (node_rows problem) (nodes_of ids rows)

    parted : flat_map (node_rows problem) (nodes_of ids (row ∷ rows))
        ≡ flat_map (node_rows problem) (node_of ids row rows) ++ behind
    parted = ap (flat_map (node_rows problem)) (nodes_first ids row rows)
        ∙ flat_map-append (node_rows problem) (node_of ids row rows) (nodes_of ids rows)

    placed : (b : Bool) → is_multiplier row ≡ b
        → cond b (not (is_due before)) (is_due before) ≡ false
    placed b is =
        ap (λ b. cond b (not (is_due before)) (is_due before)) (sym is)
        ∙ (none_broken (tree_rules ids) before row keep.0).1.1.0

    one_written : (b : Bool) → is_multiplier row ≡ b → AreWritten before (row ∷ rows)
    one_written true is =
        let kind : row.kind ≡ pos 3 = (Decides-int_eq row.kind (pos 3)).0 is in
        let some = ltb-true 0 (due_after before) (not-false (is_due before) (placed true is)) in
        let first = multiplier_first row rows is in
        record {
          due = ap length first
              ∙ omega (arith, some, next.due, due_more before row true is);
          same = ap (λ all. written problem row ∷ all) next.same
              ∙ ap (λ some. map (written problem) some ++ behind) (sym first)
              ∙ ap (λ all. map (written problem) (multiplier_rows (row ∷ rows)) ++ all)
              (sym (parted
              ∙ ap (λ kind. flat_map (node_rows problem)
              (node_of ids (record row { kind = kind }) rows) ++ behind) kind));
        }
    one_written false other =
        let none = no_multiplier (row ∷ rows) (inside_first row rows other) in
        let few = ltb-false 0 (due_after before) (placed false other) in
        record {
          due = ap length none ∙ omega (arith, few);
          same = ap (λ all. written problem row ∷ all) next.same
              ∙ ap (λ all. all ++ behind) (sym (node_written problem row (whole_row problem row cells before keep.0)
              rows other (next.due ∙ due_more before row false other)
              (multipliers_written problem rows all_cells (before ++ row ∷ []) keep.1)))
              ∙ sym parted
              ∙ ap (λ some. map (written problem) some ++ flat_map (node_rows problem) (nodes_of ids (row ∷ rows)))
              (sym none);
        }

  rows_written : (rows : List TreeRow) → AllByRecursion IsTreeRow rows → (before : List TreeRow)
      → KeepRules (tree_rules ids) before rows → due_after (before ++ rows) ≡ 0
      → AreWritten before rows
  rows_written [] cells before keep ends = grind (arith, append-nil, nodes_none)
  rows_written (row ∷ rows) cells before keep ends =
      grind (
        arith,
        one_written,
        append_assoc,
        rows_written rows cells.1 (before ++ row ∷ []) keep.1
            (ap due_after (append_assoc before (row ∷ []) rows) ∙ ends),
      )

  -- ---- texts

  none_here : {X Y : Type 0} (f : X → Y) (xs : List X) (ys : List Y) → map f xs ++ ys ≡ []
      → (xs ≡ []) × (ys ≡ [])
  none_here f [] ys e = (refl, e)
  none_here f (x ∷ xs) ys e = cc

  rules_kept : (table : List TableRow) (before : List TreeRow)
      → row_faults file.Tree (tree_rules ids) before (numbered (tree_input ids) table) ≡ []
      → KeepRules (tree_rules ids) before (records (tree_input ids) table)
  unfolding row_faults
  rules_kept [] before none = tt
  rules_kept (row ∷ table) before none =
      let both = none_here _ _ _ none in
      (both.0, rules_kept table (before ++ tree_row row.cells ∷ []) both.1)

  abbrev IsInside : TableRow → Type 0
  IsInside row = InColumns tree_columns row.cells

  cells_kept : (table : List TableRow) → All IsInside table
      → AllByRecursion IsTreeRow (records (tree_input ids) table)
  cells_kept [] each = tt
  cells_kept (row ∷ table) each = (
    row_cells row.cells (All-head IsInside row table each),
    cells_kept table (All-tail IsInside row table each),
  )

  one_line : (cells : List ℤ) → InColumns tree_columns cells
      → line_text tree_columns (record { number = 0; cells = cells })
      ≡ line_text tree_columns (written problem (tree_row cells))
  one_line (kind ∷ id ∷ value ∷ multiplier ∷ []) h = refl
  one_line [] h = elim h [ ]
  one_line (a ∷ []) h = elim h.1 [ ]
  one_line (a ∷ b ∷ []) h = elim h.1.1 [ ]
  one_line (a ∷ b ∷ c ∷ []) h = elim h.1.1.1 [ ]
  one_line (a ∷ b ∷ c ∷ d ∷ e ∷ rest) h = elim h.1.1.1.1 [ ]

  lines_written : (table : List TableRow) → All IsInside table
      → flat_map (line_text tree_columns) table
      ≡ flat_map (line_text tree_columns) (map (written problem) (records (tree_input ids) table))
  lines_written [] each = refl
  lines_written (row ∷ table) each =
      grind (
        arith,
        one_line,
        All-head,
        written,
        All-tail,
        lines_written table (All-tail IsInside row table each),
      )

  -- a text without a fault has the lines of its tree
  pub tree_kept : (text : List ℕ) → read_faults problem text ≡ []
      → table_text tree_header tree_columns (table_of tree_columns text)
      ≡ tree_text problem (tree_of problem text)
  unfolding read_faults tree_of tree_text table_text
  tree_kept text none =
      let input = tree_input ids in
      let table = table_of tree_columns text in
      let parts = parts_sound input text none in
      let sound = table_sound input table parts.1 in
      let ends = (whole_rule_sound input table is_due why.OrderGap [] sound.2).0 in
      let each = table_in_columns tree_columns text (unmapped _ _ parts.0) in
      let few = ltb-false 0 (due_after (records input table)) ends in
      let all = rows_written (records input table) (cells_kept table each) []
      (rules_kept table [] sound.1) (omega (arith, few)) in
      ap (λ lines. tree_header ++ 10 ∷ lines) (lines_written table each
      ∙ ap (flat_map (line_text tree_columns)) (all.same
      ∙ ap (λ some. map (written problem) some ++ flat_map (node_rows problem)
      (nodes_of ids (records input table)))
      (nothing (multiplier_rows (records input table)) all.due)))
    where
      nothing : (rows : List TreeRow) → length rows ≡ 0 → rows ≡ []
      nothing [] e = refl
      nothing (first ∷ rows) e = cc

-- ---- the lines of a text

-- the lines of no row, before those of all
pub lines_first : (bytes : List ℕ) (rows table : List TableRow) → bytes ≡ tree_header ++ 10 ∷ []
    → rows ≡ table
    → bytes ++ flat_map (line_text tree_columns) rows ≡ table_text tree_header tree_columns table
unfolding table_text
lines_first bytes rows table is same = grind arith

-- those of one row more, before those that are left
pub lines_next : (old new text : List ℕ) (cells : List ℤ) (row : Row) (left rows : List Row)
    → new ≡ old ++ line_text tree_columns (record { number = 0; cells = cells })
    → cells ≡ (table_row tree_columns row).cells → left ≡ row ∷ rows
    → old ++ flat_map (line_text tree_columns) (map (table_row tree_columns) left) ≡ text
    → new ++ flat_map (line_text tree_columns) (map (table_row tree_columns) rows) ≡ text
lines_next old new text cells row left rows pushed same next whole = grind (arith, append_assoc)

-- ---- a text that is copied

module _ (problem : ProblemParts) (text : List ℕ) (fine : read_faults problem text ≡ []) where
  -- no cell of it is at fault
  never_refused : (first : RowFault) → slice_get (faults tree_columns text) 0 ≡ Some first → ⊥
  unfolding read_faults
  never_refused first refused =
      let none = unmapped _ _ (parts_sound (tree_input (ids_of problem)) text fine).0 in grind
      (arith, slice_get)

  -- and the copy is the text of its tree
  copied : (made : List ℕ)
      → made ≡ table_text tree_header tree_columns (table_of tree_columns text)
      → made ≡ tree_text problem (tree_of problem text)
  copied made is = is ∙ tree_kept problem text fine

-- so what is copied is copied as each tree that the text is
pub trees_copied : (text : List ℕ) (result : Result (List ℕ) ReadFault) → CopyGives text result
    → CopiesTrees text result
trees_copied text (Ok made) gives = λ problem fine. copied problem text fine made gives.1
trees_copied text (Err (read.Row first)) gives = λ problem fine. never_refused problem text fine first gives
trees_copied text (Err read.NoMemory) gives = tt

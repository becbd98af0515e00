-- A text of a tree that is read, or refused by its cells, by its rows or as a whole.
use Rattle.plan_num.proofs.Common.{◌≡◌, ℕ, arith, Bool, true, false, List, [], get_or, slice_get}
use Rattle.plan_num.proofs.Common.{refl, subst, sym, ap, ◌∙◌, Some, Err, All, length-map}
use Rattle.tables.specs.declared.file_id.FileId.TheVariants as file
use Rattle.tables.specs.declared.refusal.Refusal.{Refusal}
use Rattle.tables.proofs.Common.{tree_columns, Input, cell_faults, records, table_row_faults}
use Rattle.tables.proofs.Common.{table_of, TableRow, refused_cells, faults_of_table, refused_rows}
use Rattle.tables.proofs.Common.{refused_whole, no_faults, whole_rule_broken, whole_rule_kept}
use Rattle.tables.specs.declared.refusal.Refusal.TheVariants as refusal
use Rattle.tables.specs.declared.refusal.StageFault.TheVariants as stage
use Rattle.tables.specs.declared.row_why.RowWhy.TheVariants as why
use Rattle.line_cost_model.proofs.Common.{ProblemParts}
use Rattle.line_concepts.specs.declared.node.Node.{Node}
use Rattle.line_concepts.specs.declared.node.Node.TheVariants as node
use Rattle.branch_certificate.specs.declared.read_fault.TreeReadFault.{TreeReadFault}
use Rattle.branch_certificate.specs.declared.read_fault.TreeReadFault.TheVariants as read
use Rattle.branch_certificate.specs.declared.read_so_far.ReadSoFar.{ReadSoFar}
use Rattle.branch_certificate.specs.declared.tree_row.TreeRow.{TreeRow}
use Rattle.branch_certificate.specs.ReadRows.{IsFirst, IsReadSoFar, IsSoundNode, closed, is_due_in}
use Rattle.branch_certificate.specs.TreeFiles.{NamedIds, ids_of, is_due, nodes_of, tree_input}
use Rattle.branch_certificate.specs.TreeFiles.{TreeGives, tree_of, read_faults}
use Rattle.branch_certificate.specs.TreeTexts.{CanBeWritten}
use Rattle.line_concepts.specs.Nodes.{NamesWhatIs}
use Rattle.branch_certificate.proofs.ReadSteps.{due_told}
use Rattle.branch_certificate.proofs.ReadTaken.{all_read}

-- what holds of the nodes of a text that is read
abbrev pub IsRead : ProblemParts → List ℕ → List Node → Type 0
IsRead problem text tree =
    (read_faults problem text ≡ []) × (tree ≡ tree_of problem text)
    × All (NamesWhatIs problem) tree × All CanBeWritten tree

module _ (problem : ProblemParts) (text : List ℕ) where
  abbrev input : Input TreeRow
  input = tree_input (ids_of problem)

  -- a text that is refused by a cell
  pub cells_refuse : (fault : TreeReadFault) → IsFirst (cell_faults file.Tree tree_columns text)
      fault
      → TreeGives (read_faults problem text) (tree_of problem text) (Err fault)
  unfolding read_faults
  cells_refuse (read.Row first) h =
      refused_cells input text (stage.Refused (refusal.BadRow file.Tree first.row first.why)) h
  cells_refuse read.NoMemory h = tt

  module _ (table : List TableRow) (cells : cell_faults file.Tree tree_columns text ≡ [])
      (is : table ≡ table_of tree_columns text) (ids : NamedIds) (own : ids ≡ ids_of problem) where
    -- one that is refused by a row
    pub rows_refuse : (fault : TreeReadFault) → IsFirst (table_row_faults (tree_input ids) table)
        fault
        → TreeGives (read_faults problem text) (tree_of problem text) (Err fault)
    unfolding read_faults
    rows_refuse (read.Row first) h =
        ap (λ (all : List Refusal). slice_get all 0)
        (sym (faults_of_table input text table cells is))
        ∙ refused_rows input table (stage.Refused (refusal.BadRow file.Tree first.row first.why))
        refl
        (ap (λ ids. slice_get (table_row_faults (tree_input ids) table) 0) (sym own) ∙ h)
    rows_refuse read.NoMemory h = tt

    module _ (none : table_row_faults (tree_input ids) table ≡ []) (so_far : ReadSoFar)
        (known : IsReadSoFar ids (records (tree_input ids) table) so_far) (due : Bool)
        (told : due ≡ is_due_in so_far.bound) where
      none_here : table_row_faults input table ≡ []
      none_here = ap (λ ids. table_row_faults (tree_input ids) table) (sym own) ∙ none

      due_here : is_due (records input table) ≡ due
      due_here = due_told ids (records (tree_input ids) table) so_far.nodes so_far.bound
          known.behind ∙ sym told

      -- one that ends where a multiplier is due
      pub due_refuses : due ≡ true → slice_get (read_faults problem text) 0
          ≡ Some (refusal.BadRow file.Tree 0 why.OrderGap)
      unfolding read_faults
      due_refuses late =
          ap (λ (all : List Refusal). slice_get all 0)
          (sym (faults_of_table input text table cells is))
          ∙ refused_whole input table (stage.Refused (refusal.BadRow file.Tree 0 why.OrderGap)) refl
          none_here (whole_rule_broken input table is_due why.OrderGap [] (due_here ∙ late))

      names_line : (one : Node) → IsSoundNode ids one → NamesWhatIs problem one
      names_line (node.Split line at) sound = grind (arith, length-map)
      names_line (node.Empty edge side) sound = grind (arith, length-map)
      names_line (node.Bound multipliers) sound = grind (arith, get_or, length-map)
      names_line node.Point sound = tt

      -- and one that is read
      pub tree_read : due ≡ false → (tree : List Node) → tree ≡ closed so_far.nodes so_far.bound
          → IsRead problem text tree
      unfolding read_faults tree_of
      tree_read gone tree made =
          let all = all_read ids (records (tree_input ids) table) so_far known (sym told ∙ gone) in (
            sym (faults_of_table input text table cells is)
                ∙ no_faults input table refl none_here
                (whole_rule_kept input table is_due why.OrderGap [] (due_here ∙ gone)),
            made ∙ all.0 ∙ ap (λ ids. nodes_of ids (records (tree_input ids) table)) own
                ∙ ap (λ rows. nodes_of (ids_of problem) (records input rows)) is,
            subst (All (NamesWhatIs problem)) (sym made) (λ k d h. names_line _ (all.1 k d h)),
            subst (All CanBeWritten) (sym made) (λ k d h. (all.1 k d h).1),
          )

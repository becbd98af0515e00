-- A row of a tree that is read, and what is known after it.
use Rattle.plan_num.proofs.Common.{◌≡◌, ℕ, ◌+◌, ◌<◌, Bool, true, false, cond, List, [], ◌∷◌, ◌++◌}
use Rattle.plan_num.proofs.Common.{length, take, get_or, slice_get, subst, refl, sym, ap, ◌∙◌, Some}
use Rattle.plan_num.proofs.Common.{None}
use Rattle.tables.specs.declared.file_id.FileId.TheVariants as file
use Rattle.tables.specs.declared.refusal.Refusal.TheVariants as refusal
use Rattle.tables.specs.declared.row_why.RowWhy.{RowWhy}
use Rattle.tables.proofs.Common.{records, broken_whys, table_row_faults, TableRow, no_row}
use Rattle.tables.proofs.Common.{row_number, SoundBefore, row_met, row_refused, records_more}
use Rattle.tables.specs.declared.row_why.RowWhy.TheVariants as why
use Rattle.branch_certificate.specs.declared.read_so_far.ReadSoFar.{ReadSoFar}
use Rattle.branch_certificate.specs.declared.row_says.RowSays.{RowSays}
use Rattle.branch_certificate.specs.declared.tree_row.TreeRow.{TreeRow}
use Rattle.branch_certificate.specs.ReadRows.{AreRising, IsReadSoFar, IsRefused, Says, first_why}
use Rattle.branch_certificate.specs.ReadRows.{takes_row, with_row}
use Rattle.branch_certificate.specs.TreeFiles.{NamedIds, tree_input, tree_row, tree_rules}
use Rattle.branch_certificate.proofs.ReadTaken.{taken}

-- ---- one row of a table

module _ (ids : NamedIds) (table : List TableRow) (i : ℕ) (so_far : ReadSoFar) (row : TreeRow)
    (within : i < length table) (is : row ≡ tree_row (get_or table i no_row).cells)
    (sound : SoundBefore (tree_input ids) table i)
    (known : IsReadSoFar ids (records (tree_input ids) (take i table)) so_far) where
  abbrev rows_before : List TreeRow
  rows_before = records (tree_input ids) (take i table)

  refused_for : (why : RowWhy) → first_why ids rows_before row ≡ Some why → (number : ℕ)
      → number ≡ row_number table i
      → slice_get (table_row_faults (tree_input ids) table) 0
      ≡ Some (refusal.BadRow file.Tree number why)
  refused_for why broken number counted =
      row_refused (tree_input ids) table i why within
      (ap (λ row. first_why ids rows_before row) (sym is) ∙ broken) sound
      ∙ ap (λ number. Some (refusal.BadRow file.Tree number why)) (sym counted)

  -- a row that is refused whatever stands before it
  pub always_refused : (why : RowWhy) → IsRefused ids row why → (number : ℕ)
      → number ≡ row_number table i
      → slice_get (table_row_faults (tree_input ids) table) 0
      ≡ Some (refusal.BadRow file.Tree number why)
  always_refused why broken number counted = refused_for why (broken rows_before) number counted

  module _ (up : AreRising ids) (said : RowSays) (says : Says ids row said) (goes : Bool)
      (told : goes ≡ takes_row so_far said) where
    -- one that is out of its place
    pub misplaced : goes ≡ false → (number : ℕ) → number ≡ row_number table i
        → slice_get (table_row_faults (tree_input ids) table) 0
        ≡ Some (refusal.BadRow file.Tree number why.OrderGap)
    misplaced left number counted =
        refused_for why.OrderGap
        ((taken ids rows_before row so_far up known said says).0
        ∙ ap (λ b. cond b None (Some why.OrderGap)) (sym told ∙ left)) number counted

    -- and one that is taken
    pub next_row : goes ≡ true → (new : ReadSoFar) → new ≡ cond goes (with_row so_far said) so_far
        → record {
          sound : SoundBefore (tree_input ids) table (i + 1);
          known : IsReadSoFar ids (records (tree_input ids) (take (i + 1) table)) new;
        }
    next_row went new is_new =
        let step = taken ids rows_before row so_far up known said says in
        let none : broken_whys (tree_rules ids) rows_before row ≡ [] =
        none_first _ (step.0 ∙ ap (λ b. cond b None (Some why.OrderGap)) (sym told ∙ went)) in
        let more : rows_before ++ row ∷ [] ≡ records (tree_input ids) (take (i + 1) table) =
        ap (λ row. rows_before ++ row ∷ []) is
        ∙ sym (records_more (tree_input ids) table i within) in
        record {
          sound = row_met (tree_input ids) table i within
              (ap (λ row. broken_whys (tree_rules ids) rows_before row) (sym is) ∙ none) sound;
          known = subst (IsReadSoFar ids _)
              (sym (is_new ∙ ap (λ b. cond b (with_row so_far said) so_far) went))
              (subst (λ rows. IsReadSoFar ids rows (with_row so_far said)) more
              (step.1 (sym told ∙ went)));
        }
      where
        none_first : (whys : List RowWhy) → slice_get whys 0 ≡ None → whys ≡ []
        none_first [] e = refl
        none_first (x ∷ whys) e = cc

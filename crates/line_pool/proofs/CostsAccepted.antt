-- The costs that are made are accepted by the rules of their kind.
use Rattle.plan_num.proofs.Common.{arith, ◌≡◌, ℕ, not, Bool, true, false, List, [], ◌∷◌, map, refl}
use Rattle.plan_num.proofs.Common.{ap, subst, sym, ◌∙◌, AllByRecursion, list_any}
use Rattle.plan_num.proofs.Common.{IsStrictlySortedBy, int_eq, int_cmp}
use Rattle.tables.specs.declared.file_id.FileId.TheVariants as file
use Rattle.tables.specs.declared.row_why.RowWhy.TheVariants as why
use Rattle.giv_files.specs.declared.setting.Setting.{Setting}
use Rattle.tables.proofs.Common.{pool_cost_columns, broken_whys, records, input_faults, ReadsBack}
use Rattle.tables.proofs.Common.{accepted, whole_accepted, all_keep, each_known, none_missing}
use Rattle.plan_num.proofs.Found.{any_mapped}
use Rattle.walks.specs.declared.edge.Edge.{Edge}
use Rattle.line_pool.specs.CostStage.{cost_row}
use Rattle.line_walks.specs.declared.cost_row.CostRow.{CostRow}
use Rattle.line_walks.specs.PoolCosts.{cost_input, pool_cost_input}
use Rattle.line_walks.specs.Pools.{LineParts}

-- a row of a line that is there keeps the rules where no row before has its line
keeps : (lines : List LineParts) (before : List CostRow) (row : CostRow)
    → list_any (λ other. int_eq row.line other.line) before ≡ false
    → list_any (λ line. int_eq row.line line.id) lines ≡ true
    → broken_whys (pool_cost_input lines).row_rules before row ≡ []
keeps lines before row new there = rw (there, new) refl

module _ (settings : List Setting) (edges : List Edge) where
  -- what the rows of lines stand for
  abbrev given : List LineParts → List CostRow
  given lines = records (cost_input [] []) (map (cost_row settings edges) lines)

  ids_are : (lines : List LineParts) → map (λ (row : CostRow). row.line) (given lines)
      ≡ map (λ (line : LineParts). line.id) lines
  ids_are [] = refl
  ids_are (line ∷ lines) = ap (λ ids. line.id ∷ ids) (ids_are lines)

  all_known : (all lines : List LineParts)
      → AllByRecursion (λ id. list_any (int_eq id) (map (λ (line : LineParts). line.id) all) ≡ true)
      (map (λ (line : LineParts). line.id) lines)
      → AllByRecursion (λ (row : CostRow). list_any (λ line. int_eq row.line line.id) all ≡ true) (given lines)
  all_known all [] known = tt
  all_known all (line ∷ lines) known = grind (arith, any_mapped, all_known all lines known.1)

  module _ (lines : List LineParts) where
    has_cost : (line : LineParts)
        → list_any (λ (row : CostRow). int_eq line.id row.line) (given lines)
        ≡ list_any (int_eq line.id) (map (λ (line : LineParts). line.id) lines)
    has_cost line = sym (any_mapped (int_eq line.id) (λ (row : CostRow). row.line) (given lines))
        ∙ ap (list_any (int_eq line.id)) (ids_are lines)

    all_have : list_any (λ line. not
        (list_any (λ (row : CostRow). int_eq line.id row.line) (given lines))) lines ≡ false
    all_have =
        ap (λ (missing : LineParts → Bool). list_any missing lines) (λ i line. not (has_cost line i))
        ∙ none_missing (λ (line : LineParts). line.id) (map (λ (line : LineParts). line.id) lines) lines (λ p h. h)

    -- a text of the costs of lines, whose ids rise, has no fault as a file of costs over these
    -- lines
    pub costs_accepted : (text : List ℕ)
        → IsStrictlySortedBy int_cmp (map (λ (line : LineParts). line.id) lines)
        → ReadsBack pool_cost_columns (map (cost_row settings edges) lines) text
        → input_faults (pool_cost_input lines) text ≡ []
    costs_accepted text rise back =
        let ids = map (λ (line : LineParts). line.id) lines in
        accepted (pool_cost_input lines) (map (cost_row settings edges) lines) text back refl
        (all_keep (pool_cost_input lines).row_rules (λ row. row.line)
        (λ row. list_any (λ line. int_eq row.line line.id) lines ≡ true) (keeps lines) (given lines)
        (subst (IsStrictlySortedBy int_cmp) (sym (ids_are lines)) rise)
        (all_known lines lines (each_known ids ids (λ p h. h))))
        (whole_accepted file.PoolCost (λ rows. list_any
        (λ line. not (list_any (λ row. int_eq line.id row.line) rows)) lines) why.MissingLine
        (given lines) all_have)

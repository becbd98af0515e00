-- The costs of the lines by rows, and the rule that each line has one.
use Rattle.plan_num.proofs.Common.{arith, ◌≡◌, ℕ, ℤ, pos, ◌+◌, ◌<◌, not, Bool, true, false, cond}
use Rattle.plan_num.proofs.Common.{List, [], ◌∷◌, ◌++◌, length, take, get_or, slice_get, refl, ap}
use Rattle.plan_num.proofs.Common.{sym, ◌∙◌, Option, Some, None, option_map, is_some, unwrap_or}
use Rattle.plan_num.proofs.Common.{list_any, int_eq, map_more, list_any_at, list_any_more}
use Rattle.plan_num.proofs.Common.{slice_get-get_or, same_Some}
use Rattle.tables.specs.declared.file_id.FileId.TheVariants as file
use Rattle.tables.specs.declared.row_why.RowWhy.TheVariants as why
use Rattle.tables.specs.declared.refusal.Refusal.TheVariants as refusal
use Rattle.tables.proofs.Common.{input_faults, records_of, without_whole, refused_as_whole}
use Rattle.tables.proofs.Common.{sound_as_whole}
use Rattle.plan_num.proofs.Found.{any_found}
use Rattle.line_walks.specs.GivenCosts.{cost_for, costs_over, costs_of}
use Rattle.line_walks.specs.PoolCosts.{CostRow, pool_cost_input}
use Rattle.line_walks.specs.Pools.{LineParts}
use Rattle.line_walks.proofs.LineIds.{no_parts}

-- a cost is given where a row is there
given_is_there : (id : ℤ) (rows : List CostRow)
    → is_some (cost_for id rows) ≡ list_any (λ row. int_eq id row.line) rows
given_is_there id rows = any_found (λ (row : CostRow). int_eq id row.line) (λ row. row.cost) rows

-- ---- the costs of all lines

-- a line has no row
abbrev pub lacks : List CostRow → LineParts → Bool
lacks rows line = not (list_any (λ row. int_eq line.id row.line) rows)

module _ (rows : List CostRow) (lines : List LineParts) (i : ℕ) (lt : i < length lines)
    (cost : Option ℤ)
    (is : option_map (λ (line : LineParts). cost_for line.id rows) (slice_get lines i)
    ≡ Some cost) where
  cost_is : cost_for (get_or lines i no_parts).id rows ≡ cost
  cost_is = same_Some _ _ (sym (ap (option_map (λ (line : LineParts). cost_for line.id rows))
      (slice_get-get_or lines i no_parts lt)) ∙ is)

  lacks_is : lacks rows (get_or lines i no_parts) ≡ not (is_some cost)
  lacks_is = ap not (sym (given_is_there (get_or lines i no_parts).id rows) ∙ ap is_some cost_is)

  pub line_missing : cost ≡ None → list_any (lacks rows) lines ≡ true
  line_missing none = list_any_at (lacks rows) lines i no_parts lt
      (lacks_is ∙ ap (λ c. not (is_some c)) none)

  pub none_missing : (n : ℤ) → cost ≡ Some n → list_any (lacks rows) (take i lines) ≡ false
      → list_any (lacks rows) (take (i + 1) lines) ≡ false
  none_missing n some so_far =
      list_any_more (lacks rows) lines i no_parts lt
      ∙ rw (so_far, lacks_is ∙ ap (λ c. not (is_some c)) some) refl

  pub cost_more : (n : ℤ) → cost ≡ Some n
      → costs_over (take (i + 1) lines) rows ≡ costs_over (take i lines) rows ++ n ∷ []
  cost_more n some =
      map_more (λ (line : LineParts). unwrap_or (cost_for line.id rows) (pos 0)) lines i no_parts lt
      ∙ ap (λ c. costs_over (take i lines) rows ++ unwrap_or c (pos 0) ∷ []) (cost_is ∙ some)

-- ---- the whole file

-- costs are not all there where none are handed on
not_all : (some : Bool) (all : List ℤ) → None ≡ cond some None (Some all) → some ≡ true
not_all true all e = refl
not_all false all e = cc

all_are : (some : Bool) (all costs : List ℤ) → Some costs ≡ cond some None (Some all)
    → (some ≡ false) × (costs ≡ all)
all_are true all costs e = cc
all_are false all costs e = (refl, same_Some costs all e)

module _ (lines : List LineParts) (text : List ℕ) (rows : List CostRow)
    (none : input_faults (without_whole (pool_cost_input lines)) text ≡ [])
    (are : rows ≡ records_of (pool_cost_input lines) text) where
  abbrev pub missing : Bool
  missing = list_any (lacks rows) lines

  is_missing : list_any (lacks (records_of (pool_cost_input lines) text)) lines ≡ missing
  is_missing = ap (λ some. list_any (lacks some) lines) (sym are)

  -- a text in which a line has no row
  pub line_missing_of_text : None ≡ cond missing None (Some (costs_over lines rows))
      → slice_get (input_faults (pool_cost_input lines) text) 0
      ≡ Some (refusal.BadRow file.PoolCost 0 why.MissingLine)
  line_missing_of_text e = grind (arith, refused_as_whole, is_missing, not_all)

  -- one in which each has, and its costs
  pub costs_given : (costs : List ℤ) → Some costs ≡ cond missing None (Some (costs_over lines rows))
      → (input_faults (pool_cost_input lines) text ≡ []) × (costs ≡ costs_of lines text)
  unfolding costs_of
  costs_given costs e = grind (arith, all_are, sound_as_whole, is_missing)

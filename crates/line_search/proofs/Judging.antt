-- The rules of a concept, from what is found of its text.
use Rattle.plan_num.proofs.Common.{◌≡◌, ℕ, not, Bool, true, false, cond, List, [], ◌∷◌, refl, sym}
use Rattle.plan_num.proofs.Common.{◌∙◌, arith, Option, Some, None, IfNone, IfSome, option_or}
use Rattle.plan_num.proofs.Common.{same_Some}
use Rattle.tables.proofs.Common.{concept_columns, faults, table_of, TableRow}
use Rattle.line_cost_model.proofs.Common.{ProblemParts, IsFeasible, is_feasible, cost_of}
use Rattle.line_search.specs.declared.fault.ConceptFault.{ConceptFault}
use Rattle.line_search.specs.declared.fault.ConceptFault.TheVariants as fault
use Rattle.line_search.specs.ConceptTables.{concept_rows, frequencies_in}
use Rattle.line_search.specs.Judged.{Marks, Passes, broken_where, first_broken, has_some, same_cells, tree_rule}
use Rattle.line_search.proofs.SameCells.{same_are}

pub none_there : {X : Type 0} (list : List X) → has_some list ≡ false → list ≡ []
none_there [] e = refl
none_there (x ∷ list) e = grind arith

or_none : {X : Type 0} (option : Option X) → option_or option None ≡ option
or_none None = refl
or_none (Some x) = refl

-- the rules one after the other
abbrev in_turn : Bool → Bool → Bool → Option ConceptFault → Option ConceptFault
in_turn row lines bounds tree =
    option_or (broken_where row fault.Row) (option_or (broken_where lines fault.Lines)
    (option_or (broken_where bounds fault.Bounds) (option_or tree None)))

module _ (problem : ProblemParts) (text : List ℕ) (certificate : Option (List ℕ)) where
  -- what reading gives
  abbrev pub read_rows : Option (List TableRow)
  read_rows =
      cond (has_some (faults concept_columns text)) None (Some (table_of concept_columns text))

  pub not_read : None ≡ read_rows → Some fault.Row ≡ first_broken problem text certificate
  unfolding first_broken
  not_read none = grind arith

  module _ (table : List TableRow) (read : Some table ≡ read_rows) where
    is_read : (has_some (faults concept_columns text) ≡ false)
        × (table ≡ table_of concept_columns text)
    is_read = grind (arith, same_Some)

    module _ (fs : List ℕ) (given : fs ≡ frequencies_in problem table) (rows : List TableRow)
        (made : rows ≡ concept_rows problem fs) where
      turns : first_broken problem text certificate
          ≡ in_turn false (not (same_cells table rows)) (not (is_feasible problem fs))
          (tree_rule problem (cost_of problem fs) certificate)
      unfolding first_broken
      turns = rw (made, given, is_read.0, is_read.1) refl

      pub other_lines : false ≡ same_cells table rows
          → Some fault.Lines ≡ first_broken problem text certificate
      other_lines differs = sym (turns ∙ rw (sym differs) refl)

      module _ (same : true ≡ same_cells table rows) where
        pub out_of_bounds : false ≡ is_feasible problem fs
            → Some fault.Bounds ≡ first_broken problem text certificate
        out_of_bounds broken = sym (turns ∙ rw (sym same, sym broken) refl)

        pub by_tree : true ≡ is_feasible problem fs
            → tree_rule problem (cost_of problem fs) certificate
            ≡ first_broken problem text certificate
        by_tree kept = sym (turns ∙ rw (sym same, sym kept) (or_none _))

        -- a concept that breaks no rule passes
        pub passes : IsFeasible problem fs → IfSome certificate (λ tree. Marks problem fs tree)
            → Passes problem text certificate
        passes feasible marked = grind (arith, none_there, is_read, same_are)

-- what follows from nothing found
pub none_then : {P Q : Type 0} (answer : Option ConceptFault) → (P → Q) → IfNone answer P
    → IfNone answer Q
none_then None then h = then h
none_then (Some x) then h = tt

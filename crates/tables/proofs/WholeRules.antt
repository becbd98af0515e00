-- Files that have one rule as a whole, behind the rules of their rows.
use Rattle.plan_num.proofs.Common.{arith, ◌≡◌, ℕ, Bool, true, false, List, [], ◌∷◌, ◌++◌, slice_get}
use Rattle.plan_num.proofs.Common.{refl, ap, sym, subst, ◌∙◌, Some, append-nil}
use Rattle.tables.specs.declared.row_why.RowWhy.{RowWhy}
use Rattle.tables.specs.declared.refusal.Refusal.{Refusal}
use Rattle.tables.specs.declared.refusal.Refusal.TheVariants as refusal
use Rattle.tables.specs.declared.refusal.StageFault.{StageFault}
use Rattle.tables.specs.declared.refusal.StageFault.TheVariants as stage
use Rattle.tables.specs.Inputs.{Input, whole_rule, records_of, numbered, whole_faults, input_faults, or_else, Refuses}
use Rattle.tables.specs.Reading.{table_of}
use Rattle.tables.proofs.Inputs.{parts_sound, table_sound, faults_of_table, refused_append, refused_whole, no_faults, whole_rule_broken, whole_rule_kept}

-- a file without its rules as a whole
abbrev pub without_whole : {X : Type 0} → Input X → Input X
without_whole input = record {
  file = input.file;
  columns = input.columns;
  read = input.read;
  limits = input.limits;
  row_rules = input.row_rules;
  table_rules = [];
}

refused_more : (cells some more : List Refusal) (fault : StageFault)
    → Refuses (or_else cells (some ++ [])) fault → Refuses (or_else cells (some ++ more)) fault
refused_more [] some more fault h = refused_append some more fault
    (subst (λ (all : List Refusal). Refuses all fault) (append-nil some) h)
refused_more (first ∷ cells) some more fault h = h

module _ {X : Type 0} (input : Input X) (text : List ℕ) where
  -- what refuses it without them refuses it
  pub refused_without : (fault : StageFault)
      → Refuses (input_faults (without_whole input) text) fault
      → Refuses (input_faults input text) fault
  unfolding input_faults
  refused_without fault h = grind (arith, refused_more)

  module _ (test : List X → Bool) (why : RowWhy) (whole : input.table_rules ≡ whole_rule test why
      ∷ []) (none : input_faults (without_whole input) text ≡ []) where
    -- where the rows break the one rule of the whole, it is the first fault
    pub refused_as_whole : test (records_of input text) ≡ true
        → slice_get (input_faults input text) 0 ≡ Some (refusal.BadRow input.file 0 why)
    refused_as_whole broken =
        let table = table_of input.columns text in
        let cells = parts_sound (without_whole input) text none in
        let parts = table_sound (without_whole input) table cells.1 in
        subst (λ (all : List Refusal). slice_get all 0 ≡ Some (refusal.BadRow input.file 0 why))
        (faults_of_table input text table cells.0 refl)
        (refused_whole input table (stage.Refused (refusal.BadRow input.file 0 why)) parts.0 parts.1
        (ap (λ rules. slice_get (whole_faults input.file rules (numbered input table)) 0) whole
        ∙ whole_rule_broken input table test why [] broken))

    -- and otherwise there is none
    pub sound_as_whole : test (records_of input text) ≡ false → input_faults input text ≡ []
    sound_as_whole kept =
        let table = table_of input.columns text in
        let cells = parts_sound (without_whole input) text none in
        let parts = table_sound (without_whole input) table cells.1 in
        sym (faults_of_table input text table cells.0 refl)
        ∙ no_faults input table parts.0 parts.1
        (ap (λ rules. whole_faults input.file rules (numbered input table)) whole
        ∙ whole_rule_kept input table test why [] kept)

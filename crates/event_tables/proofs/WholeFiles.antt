-- Files in which each event has a row.
use Rattle.plan_num.proofs.Common.{◌≡◌, ℕ, ◌+◌, ◌<◌, ◌≤◌, arith, Bool, true, false, nat_lt, ltb}
use Rattle.plan_num.proofs.Common.{List, [], ◌∷◌, length, map, get_or, refl, ap, sym, subst, ◌∙◌}
use Rattle.plan_num.proofs.Common.{Result, Ok, Err, MatchResult, All, lt-ltb, le-ltb, ltb-true}
use Rattle.plan_num.proofs.Common.{ltb-false, get_or-map, get_or-range_with_len, list_any}
use Rattle.plan_num.proofs.Common.{range_with_len}
use Rattle.tables.specs.declared.row_why.RowWhy.TheVariants as why
use Rattle.tables.specs.declared.refusal.Refusal.TheVariants as refusal
use Rattle.tables.specs.declared.refusal.StageFault.{StageFault}
use Rattle.tables.proofs.Common.{Input, RowRule, records_of, numbered, whole_faults, input_faults}
use Rattle.tables.proofs.Common.{Refuses, UnlessFault, table_of, parts_sound, table_sound}
use Rattle.tables.proofs.Common.{whole_rule_sound, without_whole, refused_as_whole, sound_as_whole}
use Rattle.tables.specs.declared.refusal.StageFault.TheVariants as stage
use Rattle.event_tables.specs.Places.{own_place, all_there, is_none_of, AreNumbered, IsOneOf}
use Rattle.event_tables.proofs.Numbering.{some_missing, numbered_rows}

-- an event is missing where there are fewer rows than events
missing : {X : Type 0} (event : X → ℕ) (count : ℕ) (rows : List X) → AreNumbered event rows
    → list_any (is_none_of (map event rows)) (range_with_len 1 count) ≡ nat_lt (length rows) count
missing event count rows are = ap (λ ids. list_any (is_none_of ids) (range_with_len 1 count)) are
    ∙ some_missing (length rows) count

-- there are no more numbered rows than events, where each is of one of them
few_places : {X : Type 0} (event : X → ℕ) (count : ℕ) (rows : List X) → AreNumbered event rows → All
    (λ row. IsOneOf count (event row)) rows → length rows ≤ count
few_places event count [] are one = omega arith
few_places event count (row ∷ rows) are one =
    elim (ltb count (length (row ∷ rows))) as
    (λ b. ltb count (length (row ∷ rows)) ≡ b → length (row ∷ rows) ≤ count) [
      | true ↦ λ is.
          let over : count < length (row ∷ rows) = ltb-true count (length (row ∷ rows)) is in
          let at : event (get_or (row ∷ rows) count row) ≡ 1 + count =
          sym (get_or-map event (row ∷ rows) count row 0 over) ∙ ap (λ ids. get_or ids count 0) are
          ∙ get_or-range_with_len 1 (length (row ∷ rows)) count 0 over in
          let high : event (get_or (row ∷ rows) count row) ≤ count = (one count row over).1 in
          absurd (omega (arith, at, high))
      | false ↦ λ is. ltb-false count (length (row ∷ rows)) is
    ] refl

module _ {X : Type 0} (input : Input X) (text : List ℕ) (event : X
    → ℕ) (count : ℕ) (whole : input.table_rules ≡ all_there (range_with_len 1 count) event
    ∷ []) where
  -- an event has no row
  abbrev lacks : List X → Bool
  lacks rows = list_any (is_none_of (map event rows)) (range_with_len 1 count)

  lacking : (rules : List (RowRule X)) → input.row_rules ≡ own_place event ∷ rules
      → input_faults (without_whole input) text ≡ []
      → lacks (records_of input text) ≡ nat_lt (length (records_of input text)) count
  lacking rules own none = missing event count (records_of input text)
      (numbered_rows (without_whole input) event rules text own none)

  -- what is read of it: the rows, or that an event is missing
  pub read_whole : {A : Type 0} (view : A → List X) (rules : List (RowRule X)) (rows : A)
      → input.row_rules ≡ own_place event ∷ rules → input_faults (without_whole input) text ≡ []
      → view rows ≡ records_of input text
      → (read : Result A StageFault) → MatchResult read
      (λ all. (all ≡ rows) × (count ≤ length (view rows)))
      (λ fault. (fault
      ≡ stage.Refused (refusal.BadRow input.file 0 why.MissingEvent)) × (length (view rows) < count))
      → UnlessFault (input_faults input text) (λ all. view all ≡ records_of input text) read
  read_whole view rules rows own none is (Ok all) h =
      let many : count ≤ length (records_of input text) = subst
      (λ some. count ≤ length some) is h.1 in (
        sound_as_whole input text lacks why.MissingEvent whole none
            (lacking rules own none ∙ le-ltb (length (records_of input text)) count many),
        ap view h.0 ∙ is,
      )
  read_whole view rules rows own none is (Err fault) h =
      let few : length (records_of input text) < count = subst
      (λ some. length some < count) is h.1 in
      subst (λ (told : StageFault). Refuses (input_faults input text) told)
      (sym h.0) (refused_as_whole input text lacks why.MissingEvent whole none
      (lacking rules own none ∙ lt-ltb (length (records_of input text)) count few))

  -- where it has no fault, there is one row for each event
  pub one_each : input_faults input text ≡ [] → AreNumbered event (records_of input text) → All
      (λ row. IsOneOf count (event row)) (records_of input text) → length (records_of input text)
      ≡ count
  one_each none are one =
      let table = table_of input.columns text in
      let parts = table_sound input table (parts_sound input text none).1 in
      let kept = (whole_rule_sound input table lacks why.MissingEvent []
      (ap (λ rules. whole_faults input.file rules (numbered input table)) (sym whole)
      ∙ parts.2)).0 in
      let many : count ≤ length
      (records_of input text) = ltb-false (length (records_of input text)) count
      (sym (missing event count (records_of input text) are) ∙ kept) in
      let few : length (records_of input text) ≤ count = few_places event count
      (records_of input text) are one in
      omega (arith, many, few)

-- Rows of which no two have one id.
use Rattle.plan_num.proofs.Common.{◌≡◌, ℕ, pos, arith, false, nat_eq, List, [], ◌∷◌, ◌++◌, map}
use Rattle.plan_num.proofs.Common.{refl, sym, subst, ◌∙◌, append_assoc, list_any, nat_eq_equiv}
use Rattle.plan_num.proofs.Common.{int_eq, append-nil, map_push, IsDistinct-push}
use Rattle.std.specs.List.{IsDistinct}
use Rattle.tables.specs.declared.file_id.FileId.{FileId}
use Rattle.tables.proofs.Common.{Input, RowRule, own_id, broken_whys, records_of, input_faults}
use Rattle.tables.proofs.Common.{table_of, TableRow, parts_sound, table_sound, front_none}
use Rattle.tables.proofs.Common.{back_none}
use Rattle.tables.specs.declared.refusal.Refusal.TheVariants as refusal
use Rattle.tables.specs.Inputs.{row_faults}
use Rattle.plan_num.proofs.Lists.{unmapped}

-- two numbers are one as whole numbers where they are
pub same_number : (a b : ℕ) → int_eq (pos a) (pos b) ≡ nat_eq a b
same_number a b = grind arith

ids_among : {X : Type 0} (id : X → ℕ) (before : List X) (n : ℕ)
    → list_any (nat_eq n) (map id before) ≡ list_any
    (λ other. int_eq (pos n) (pos (id other))) before
ids_among id [] n = refl
ids_among id (other ∷ before) n = rw (same_number n (id other), ids_among id before n) refl

-- an id that the rows before have not
pub own_among : {X : Type 0} (id : X → ℕ) (before : List X) (row : X)
    → (own_id (λ (x : X). pos (id x))).is_broken before row ≡ false
    → list_any (nat_eq (id row)) (map id before) ≡ false
own_among id before row kept = ids_among id before (id row) ∙ kept

none_apart : IsDistinct nat_eq []
unfolding IsDistinct
none_apart = tt

module _ {X : Type 0} (id : X → ℕ) (file : FileId) (rules : List (RowRule X)) (of : TableRow
    → X) (own : (before : List X) (row : X) → broken_whys rules before row ≡ []
    → list_any (nat_eq (id row)) (map id before) ≡ false) where
  distinct_from : (before : List X) (rows : List TableRow) → IsDistinct nat_eq (map id before)
      → row_faults file rules before (map
      (λ row. record { number = row.number; row = of row }) rows) ≡ []
      → IsDistinct nat_eq (map id (before ++ map of rows))
  unfolding row_faults
  distinct_from before [] apart none = subst (λ some. IsDistinct nat_eq (map id some))
      (sym (append-nil before)) apart
  distinct_from before (row ∷ rows) apart none =
      let kept = own before (of row) (unmapped _ (broken_whys rules before (of row)) (front_none _ _ none)) in
      let more = subst (IsDistinct nat_eq)
      (sym (map_push id before (of row))) (IsDistinct-push nat_eq_equiv (map id before) (id (of row)) apart kept) in
      subst (λ some. IsDistinct nat_eq (map id some)) (append_assoc before (of row
      ∷ []) (map of rows))
      (distinct_from (before ++ of row
      ∷ []) rows more (back_none (map
      (λ why. refusal.BadRow file row.number why) (broken_whys rules before (of row))) _ none))

-- no two rows of a text without a fault have one id, where a rule says so
pub own_rows : {X : Type 0} (id : X → ℕ) (input : Input X) (text : List ℕ)
    → ((before : List X) (row : X) → broken_whys input.row_rules before row ≡ []
    → list_any (nat_eq (id row)) (map id before) ≡ false)
    → input_faults input text ≡ [] → IsDistinct nat_eq (map id (records_of input text))
own_rows id input text own none =
    let table = table_of input.columns text in
    distinct_from id input.file input.row_rules
    (λ row. input.read row.cells) own [] table none_apart (table_sound input table (parts_sound input text none).1).1

-- Ids that are the places of rows.
use Rattle.plan_num.proofs.Common.{◌≡◌, ◌≢◌, ◌==◌, ℕ, zero, suc, ◌+◌, ◌-◌, ◌<◌, ◌≤◌, arith, Bool}
use Rattle.plan_num.proofs.Common.{true, false, ◌||◌, nat_eq, nat_lt, eqb, ltb, List, [], ◌∷◌, ◌++◌}
use Rattle.plan_num.proofs.Common.{length, map, get_or, refl, ap, sym, subst, ◌∙◌, Some, eqb-true}
use Rattle.plan_num.proofs.Common.{ltb-true, eqb-false, ltb-false, ne_eqb, eq-eqb, lt-ltb, le-ltb}
use Rattle.plan_num.proofs.Common.{false≢true, not-false, length_push, length-map, list_any_at}
use Rattle.plan_num.proofs.Common.{length-range_with_len, get_or-range_with_len, list_any}
use Rattle.plan_num.proofs.Common.{range_with_len, find}
use Rattle.tables.specs.declared.file_id.FileId.{FileId}
use Rattle.tables.proofs.Common.{Input, RowRule, records_of, broken_whys, numbered, input_faults}
use Rattle.tables.proofs.Common.{table_of, TableRow, rules_sound, parts_sound, table_sound}
use Rattle.tables.proofs.Common.{front_none, back_none}
use Rattle.tables.specs.declared.refusal.Refusal.TheVariants as refusal
use Rattle.tables.specs.Inputs.{row_faults}
use Rattle.event_tables.specs.Places.{own_place, is_none_of, AreNumbered, IsOneOf}
use Rattle.plan_num.proofs.Lists.{unmapped}

-- the numbers from one on that are there
among : (id a n : ℕ) → list_any (nat_eq id) (range_with_len a n) ≡ true → (a ≤ id) × (id < a + n)
among id a zero h = cc
among id a (suc n) h =
    elim (eqb id a) as (λ b. eqb id a ≡ b → (b || list_any (nat_eq id) (range_with_len (a + 1) n))
    ≡ true → (a ≤ id) × (id < a + suc n)) [
      | true ↦ λ is some. (omega (arith, eqb-true id a is), omega (arith, eqb-true id a is))
      | false ↦ λ is some. grind (arith, among id (a + 1) n some)
    ] refl h

-- a test that one of so many numbers passes, or that none does
pub any_in : (test : ℕ → Bool) (id a n : ℕ) → a ≤ id → id < a + n → test id ≡ true
    → list_any test (range_with_len a n) ≡ true
any_in test id a n low high passes =
    let within : id - a < n = omega arith in
    let back : a + (id - a) ≡ id = omega arith in
    list_any_at test (range_with_len a n) (id - a) 0
    (subst (λ m. id - a < m) (sym (length-range_with_len a n)) within)
    (ap test (get_or-range_with_len a n (id - a) 0 within ∙ back) ∙ passes)

pub none_in : (test : ℕ → Bool) (a n : ℕ) → ((id : ℕ) → a ≤ id → id < a + n → test id ≡ false)
    → list_any test (range_with_len a n) ≡ false
none_in test a zero fails = refl
none_in test a (suc n) fails = rw (fails a (omega arith) (omega arith)) (none_in test (a + 1) n
    (λ id low high. fails id (omega arith) (omega arith)))

-- each of them is there
there : (id a n : ℕ) → a ≤ id → id < a + n → list_any (nat_eq id) (range_with_len a n) ≡ true
there id a n low high = any_in (nat_eq id) id a n low high (eq-eqb id id refl)

-- an id is none of so many, which count from 1, where it is 0 or above their count
pub none_of_places : (count id : ℕ) → is_none_of (range_with_len 1 count) id
    ≡ (nat_eq id 0 || nat_lt count id)
none_of_places count id =
    grind (arith, nat_eq, nat_lt, among, ne_eqb, le-ltb, eqb-false, ltb-false, false≢true, there)

-- of so many ids one is missing among fewer of them
pub some_missing : (n count : ℕ)
    → list_any (is_none_of (range_with_len 1 n)) (range_with_len 1 count) ≡ nat_lt n count
some_missing n count =
    elim (ltb n count) as
    (λ b. ltb n count ≡ b → list_any (is_none_of (range_with_len 1 n)) (range_with_len 1 count)
    ≡ b) [
      | true ↦ λ is.
          let fewer : n < count = ltb-true n count is in
          any_in (is_none_of (range_with_len 1 n)) (suc n) 1 count (omega arith)
          (omega (arith, fewer))
          (none_of_places n (suc n)
          ∙ rw (ne_eqb (suc n) 0 (λ e. omega (arith, e)), lt-ltb n (suc n) (omega arith)) refl)
      | false ↦ λ is. grind (arith, ltb-false, none_in, none_of_places, ne_eqb, le-ltb)
    ] refl

-- an id that is one of so many
pub is_place : (count id : ℕ) → is_none_of (range_with_len 1 count) id ≡ false → IsOneOf count id
is_place count id h =
    let is = among id 1 count (not-false (list_any (nat_eq id) (range_with_len 1 count)) h) in
    (is.0, omega (arith, is.1))

-- rows whose first rule is that they are numbered, and that break none, are numbered
numbered_from : {X : Type 0} (file : FileId) (id : X → ℕ) (of : TableRow
    → X) (rules : List (RowRule X)) (before : List X) (rows : List TableRow)
    → row_faults file (own_place id ∷ rules) before (map
    (λ row. record { number = row.number; row = of row }) rows) ≡ [] → map id (map of rows)
    ≡ range_with_len (length before + 1) (length rows)
unfolding row_faults
numbered_from file id of rules before [] none = refl
numbered_from file id of rules before (row ∷ rows) none =
    let kept = rules_sound (own_place id) rules before (of row)
    (unmapped _ (broken_whys (own_place id ∷ rules) before (of row)) (front_none _ _ none)) in grind (
      arith,
      eqb-true,
      not-false,
      back_none,
      length_push,
      numbered_from file id of rules (before
          ++ of row ∷ []) rows (back_none (map (λ why. refusal.BadRow file row.number why)
          (broken_whys (own_place id ∷ rules) before (of row))) _ none),
    )

pub numbered_rows : {X : Type 0} (input : Input X) (id : X
    → ℕ) (rules : List (RowRule X)) (text : List ℕ) → input.row_rules ≡ own_place id ∷ rules
    → input_faults input text ≡ [] → AreNumbered id (records_of input text)
numbered_rows input id rules text is none =
    let table = table_of input.columns text in
    let kept = (table_sound input table (parts_sound input text none).1).1 in
    let told : row_faults input.file (own_place id ∷ rules) [] (numbered input table) ≡ [] = ap
    (λ some. row_faults input.file some [] (numbered input table)) (sym is) ∙ kept in
    numbered_from input.file id (λ row. input.read row.cells) rules [] table told
    ∙ ap (range_with_len 1) (sym (length-map table (λ row. input.read row.cells)))

-- ---- numbered things by their ids

module _ {X : Type 0} (id : X → ℕ) where
  find_from : (a k : ℕ) (rows : List X) (d : X) → map id rows ≡ range_with_len a (length rows)
      → a ≤ k → k < a + length rows → find (λ row. k == id row) rows ≡ Some (get_or rows (k - a) d)
  find_from a k [] d is low high = absurd (omega arith)
  find_from a k (row ∷ rows) d is low high =
      let first : id row ≡ a = let e = is in cc in
      let rest : map id rows ≡ range_with_len (a + 1) (length rows) = let e = is in cc in
      elim (eqb k a) as (λ b. eqb k a ≡ b → find (λ at. k == id at) (row ∷ rows) ≡ Some (get_or (row
      ∷ rows) (k - a) d)) [
        | true ↦ λ same. let here : k - a
            ≡ 0 = omega (arith, eqb-true k a same) in rw (first, same, here) refl
        | false ↦ λ same.
            let other : k ≢ a = eqb-false k a same in
            let later : k - a ≡ suc (k - (a + 1)) = omega (arith, other) in
            rw (first, same, later) (find_from (a + 1) k rows d rest (omega (arith, other))
            (omega arith))
      ] refl

  -- the one of an id stands at the place of its id
  pub find_numbered : (k : ℕ) (rows : List X) (d : X) → AreNumbered id rows
      → IsOneOf (length rows) k → find (λ row. k == id row) rows ≡ Some (get_or rows (k - 1) d)
  find_numbered k rows d is one = find_from 1 k rows d is one.0 (omega (arith, one.1))

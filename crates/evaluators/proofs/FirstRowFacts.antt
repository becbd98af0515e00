-- The first rows of keys, one row after the other.
use Rattle.plan_num.proofs.Common.{arith, ◌≡◌, ℕ, ℤ, ◌+◌, ◌<◌, ◌||◌, Bool, true, false, not, cond}
use Rattle.plan_num.proofs.Common.{List, [], ◌∷◌, ◌++◌, length, filter, get_or, take, refl, ap, sym}
use Rattle.plan_num.proofs.Common.{◌∙◌, append-nil, Some, find, list_any, int_eq, false≢true}
use Rattle.plan_num.proofs.Common.{int_eq_equiv, length_push, take_more, filter-append}
use Rattle.evaluators.specs.FirstRows.{firsts}
use Rattle.plan_num.proofs.Lists.{find_passing, any_push}

-- a row is added behind the others, or it is not
step : {X : Type 0} (first row : X) (some : List X) (test : X → Bool) (old same : Bool)
    → test row ≡ not same
    → first ∷ filter test (cond old some (some ++ row ∷ []))
    ≡ cond (same || old) (first ∷ filter test some) (first ∷ filter test some ++ row ∷ [])
step first row some test true true is = refl
step first row some test true false is = refl
step {X} first row some test false true is = grind (arith, filter-append, test, append-nil)
step {X} first row some test false false is = grind (arith, filter-append, test)

module _ {X : Type 0} (key : X → ℤ) where
  -- no rows have no first ones
  pub no_firsts : firsts key [] ≡ []
  unfolding firsts
  no_firsts = refl

  -- one of some rows has the key of a row
  abbrev pub is_old : List X → X → Bool
  is_old rows row = list_any (λ other. int_eq (key row) (key other)) rows

  -- one row more
  pub firsts_push : (rows : List X) (row : X) → firsts key (rows ++ row ∷ [])
      ≡ cond (is_old rows row) (firsts key rows) (firsts key rows ++ row ∷ [])
  unfolding firsts
  firsts_push [] row = refl
  firsts_push (first ∷ rows) row =
      let test : X → Bool = λ other. not (int_eq (key first) (key other)) in
      ap (λ (some : List X). first ∷ filter test some) (firsts_push rows row)
      ∙ step first row (firsts key rows) test (is_old rows row) (int_eq (key row) (key first))
      (ap not (int_eq_equiv.symm (key first) (key row)))

  module _ (rows : List X) (i : ℕ) (d : X) (inside : i < length rows) where
    pub firsts_more : firsts key (take (i + 1) rows)
        ≡ cond (is_old (take i rows) (get_or rows i d)) (firsts key (take i rows))
        (firsts key (take i rows) ++ get_or rows i d ∷ [])
    firsts_more = ap (firsts key) (take_more rows i d inside)
        ∙ firsts_push (take i rows) (get_or rows i d)

  -- the first row of a key is that among all rows
  pub find_firsts : (line : ℤ) (rows : List X)
      → find (λ row. int_eq line (key row)) (firsts key rows)
      ≡ find (λ row. int_eq line (key row)) rows
  unfolding firsts
  find_firsts line [] = refl
  find_firsts line (first ∷ rows) = by (int_eq line (key first)) refl (find_firsts line rows)
    where
      p : X → Bool
      p row = int_eq line (key row)

      test : X → Bool
      test other = not (int_eq (key first) (key other))

      passes : int_eq line (key first) ≡ false → (x : X) → p x ≡ true → test x ≡ true
      passes other x is = grind arith

      by : (b : Bool) → int_eq line (key first) ≡ b → find p (firsts key rows) ≡ find p rows
          → cond b (Some first) (find p (filter test (firsts key rows)))
          ≡ cond b (Some first) (find p rows)
      by true e rest = refl
      by false e rest = find_passing p test (passes e) (firsts key rows) ∙ rest

-- ---- counts, and rows that are kept

module _ {X : Type 0} (key : X → ℤ) (rows : List X) (i : ℕ) (d : X) (inside : i < length rows)
    (count : ℕ)
    (told : count ≡ length (firsts key (take i rows))) where
  abbrev so_far : List X
  so_far = firsts key (take i rows)

  pub new_counts : is_old key (take i rows) (get_or rows i d) ≡ false
      → count + 1 ≡ length (firsts key (take (i + 1) rows))
  new_counts is =
      ap (λ n. n + 1) told ∙ sym (length_push so_far (get_or rows i d))
      ∙ sym (ap length (firsts_more key rows i d inside
      ∙ ap (λ b. cond b so_far (so_far ++ get_or rows i d ∷ [])) is))

  pub old_counts : is_old key (take i rows) (get_or rows i d) ≡ true
      → count ≡ length (firsts key (take (i + 1) rows))
  old_counts is =
      told ∙ sym (ap length (firsts_more key rows i d inside
      ∙ ap (λ b. cond b so_far (so_far ++ get_or rows i d ∷ [])) is))

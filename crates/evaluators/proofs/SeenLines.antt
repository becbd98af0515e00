-- The lines that were seen, one row after the other.
use Rattle.plan_num.proofs.Common.{◌≡◌, ℕ, ℤ, ◌+◌, ◌<◌, ◌||◌, not, Bool, true, false, cond, List}
use Rattle.plan_num.proofs.Common.{[], ◌∷◌, ◌++◌, length, map, take, get_or, refl, ap, sym, ◌∙◌}
use Rattle.plan_num.proofs.Common.{list_any, int_eq, map_more, take_more}
use Rattle.tables.proofs.Common.{TableRow}
use Rattle.evaluators.specs.FirstRows.{firsts}
use Rattle.evaluators.proofs.FirstRowFacts.{firsts_push, is_old, new_counts, old_counts}
use Rattle.plan_num.proofs.Lists.{any_push}

-- an answer and its negation
pub turned : (test new answer : Bool) → new ≡ not test → new ≡ not answer → test ≡ answer
turned true new true is e = refl
turned true new false is e = cc
turned false new true is e = cc
turned false new false is e = refl

module _ {X : Type 0} (key : X → ℤ) (of : TableRow → X) (rows : List TableRow) (i : ℕ) (d :
    TableRow)
    (inside : i < length rows) where
  abbrev before : List X
  before = map of (take i rows)

  abbrev row : X
  row = of (get_or rows i d)

  more : map of (take (i + 1) rows) ≡ before ++ row ∷ []
  more = map_more of rows i d inside

  -- what is known of the keys of one row more
  pub known_more : (old new : ℤ → Bool) (noted : X) → noted ≡ row
      → ((id : ℤ) → old id ≡ list_any (λ other. int_eq id (key other)) before)
      → ((id : ℤ) → new id ≡ (old id || int_eq id (key noted)))
      → (id : ℤ) → new id ≡ list_any (λ other. int_eq id (key other)) (map of (take (i + 1) rows))
  known_more old new noted is known adds id =
      adds id ∙ ap (λ b. b || int_eq id (key noted)) (known id)
      ∙ ap (λ (noted : X). list_any (λ other. int_eq id (key other)) before || int_eq id (key
      noted)) is
      ∙ sym (ap (list_any (λ other. int_eq id (key other))) more
      ∙ any_push (λ other. int_eq id (key other)) before row)

  module _ (old : ℤ → Bool) (fresh : Bool) (noted : X) (is : noted ≡ row)
      (known : (id : ℤ) → old id ≡ list_any (λ other. int_eq id (key other)) before)
      (told : fresh ≡ not (old (key noted))) where
    -- whether the key of the row was there
    pub was_there : (answer : Bool) → fresh ≡ not answer → is_old key before row ≡ answer
    was_there answer e =
        sym (known (key row)) ∙ ap (λ (noted : X). old (key noted)) (sym is)
        ∙ turned (old (key noted)) fresh answer told e

    -- the first rows of one row more
    pub first_more : (some all : List X) → some ≡ firsts key before → fresh ≡ true
        → all ≡ some ++ noted ∷ [] → all ≡ firsts key (map of (take (i + 1) rows))
    first_more some all so_far new put =
        put ∙ ap (λ (some : List X). some ++ noted ∷ []) so_far
        ∙ ap (λ (noted : X). firsts key before ++ noted ∷ []) is
        ∙ sym (ap (firsts key) more ∙ firsts_push key before row
        ∙ ap (λ b. cond b (firsts key before) (firsts key before ++ row ∷ []))
        (was_there false new))

    pub first_passed : (some : List X) → some ≡ firsts key before → fresh ≡ false
        → some ≡ firsts key (map of (take (i + 1) rows))
    first_passed some so_far new =
        so_far ∙ sym (ap (firsts key) more ∙ firsts_push key before row
        ∙ ap (λ b. cond b (firsts key before) (firsts key before ++ row ∷ [])) (was_there true new))

-- ---- a row whose key is noted

module _ {X : Type 0} (key : X → ℤ) (rows : List X) (i : ℕ) (d : X) (inside : i < length rows)
    (old : ℤ → Bool) (noted : ℤ) (is : noted ≡ key (get_or rows i d))
    (known : (id : ℤ) → old id ≡ list_any (λ row. int_eq id (key row)) (take i rows)) where
  -- the keys that are known then
  pub noted_more : (new : ℤ → Bool) → ((id : ℤ) → new id ≡ (old id || int_eq id noted))
      → (id : ℤ) → new id ≡ list_any (λ row. int_eq id (key row)) (take (i + 1) rows)
  noted_more new adds id =
      adds id ∙ (λ j. known id j || int_eq id (is j))
      ∙ sym (ap (list_any (λ row. int_eq id (key row))) (take_more rows i d inside)
      ∙ any_push (λ row. int_eq id (key row)) (take i rows) (get_or rows i d))

  module _ (fresh : Bool) (told : fresh ≡ not (old noted)) (count : ℕ)
      (counted : count ≡ length (firsts key (take i rows))) where
    was_noted : (answer : Bool) → fresh ≡ not answer
        → is_old key (take i rows) (get_or rows i d) ≡ answer
    was_noted answer e =
        sym (known (key (get_or rows i d))) ∙ ap old (sym is)
        ∙ turned (old noted) fresh answer told e

    pub new_noted : fresh ≡ true → count + 1 ≡ length (firsts key (take (i + 1) rows))
    new_noted new = new_counts key rows i d inside count counted (was_noted false new)

    pub old_noted : fresh ≡ false → count ≡ length (firsts key (take (i + 1) rows))
    old_noted new = old_counts key rows i d inside count counted (was_noted true new)

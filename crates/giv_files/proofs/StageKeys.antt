-- The keys of a stage, taken one after the other from all keys.
use Rattle.plan_num.proofs.Common.{◌≡◌, ℕ, ◌+◌, ◌<◌, ◌≤◌, ◌==◌, ◌↔◌, Bool, true, false, IsTrue}
use Rattle.plan_num.proofs.Common.{List, [], ◌∷◌, ◌++◌, length, take, drop, get_or, slice_get, Some}
use Rattle.plan_num.proofs.Common.{cond, ap, sym, ◌∙◌, arith, filter, eqb-true, eq-eqb, take_all}
use Rattle.plan_num.proofs.Common.{take_more, take-append-drop, append-nil, append_assoc}
use Rattle.plan_num.proofs.Common.{length-append, length-take-le, filter_more, filter-append}
use Rattle.plan_num.proofs.Common.{slice_get_within, get_or_from_slice_get, slice_get-get_or}
use Rattle.plan_num.proofs.Common.{get_or-append_seam}

module _ {X : Type 0} (test : X → Bool) (all own : List X) (i count : ℕ) (d : X)
    (h : i < length all) (is : test (get_or all i d) ≡ true)
    (same : take count own ≡ filter test (take i all)) where
  -- one more passes
  passes : filter test (take (i + 1) all) ≡ take count own ++ get_or all i d ∷ []
  passes =
      filter_more test all i d h
      ∙ ap (λ b. filter test (take i all) ++ cond b (get_or all i d ∷ []) []) is
      ∙ ap (λ front. front ++ get_or all i d ∷ []) (sym same)

  -- where it stands behind those before, one more is the same
  pub one_more : slice_get own count ≡ Some (get_or all i d)
      → take (count + 1) own ≡ filter test (take (i + 1) all)
  one_more at =
      take_more own count d (slice_get_within own count (get_or all i d) at)
      ∙ ap (λ x. take count own ++ x ∷ []) (get_or_from_slice_get own count (get_or all i d) d at)
      ∙ sym passes

  -- and it does stand there where all are those that pass
  pub stands : count ≤ length own → own ≡ filter test all
      → slice_get own count ≡ Some (get_or all i d)
  stands few whole =
      let rest = filter test (drop (i + 1) all) in
      let parts : own ≡ take count own ++ (get_or all i d ∷ rest) =
      whole ∙ ap (filter test) (sym (take-append-drop (i + 1) all))
      ∙ filter-append test (take (i + 1) all) (drop (i + 1) all)
      ∙ ap (λ front. front ++ rest) passes ∙ append_assoc (take count own) (get_or all i d ∷ [])
      rest in
      let size : length (take count own) ≡ count = length-take-le count own few in
      let longer : length own ≡ length (take count own) + length (get_or all i d ∷ rest) =
      ap length parts ∙ length-append (take count own) (get_or all i d ∷ rest) in
      let at : get_or own count d ≡ get_or all i d =
      ap (λ xs. get_or xs count d) parts ∙ ap (λ n. get_or (take count own ++ get_or all i d ∷ rest)
      n d) (sym size)
      ∙ get_or-append_seam (take count own) (get_or all i d) rest d in
      slice_get-get_or own count d (omega arith) ∙ ap Some at

module _ {X : Type 0} (test : X → Bool) (all own : List X) (i count : ℕ)
    (same : take count own ≡ filter test (take i all)) where
  -- one that does not pass is left out
  pub passed_over : (d : X) → i < length all → test (get_or all i d) ≡ false
      → take count own ≡ filter test (take (i + 1) all)
  passed_over d h not = same ∙ sym (filter_more test all i d h
      ∙ ap (λ b. filter test (take i all) ++ cond b (get_or all i d ∷ []) []) not
      ∙ append-nil (filter test (take i all)))

  whole : length all ≤ i → take count own ≡ filter test all
  whole h = same ∙ ap (filter test) (take_all i all h)

  -- at the end all are those that pass exactly where none is left
  pub at_end : (given : List X) → all ≡ given → count ≤ length own → length all ≤ i
      → IsTrue (count == length own) ↔ (own ≡ filter test given)
  at_end given is few h = grind (arith, whole, eqb-true, take_all, eq-eqb, length-take-le)

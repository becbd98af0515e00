-- Lists that tell one thing of each place.
use Rattle.plan_num.proofs.Common.{◌≡◌, ◌≢◌, ◌∙◌, ℕ, ◌+◌, ◌<◌, true, false, eqb, length, map}
use Rattle.plan_num.proofs.Common.{get_or, slice_set, refl, ap, sym, arith, range_with_len}
use Rattle.plan_num.proofs.Common.{eqb-true, eqb-false, ext_get_or, get_or-set_same}
use Rattle.plan_num.proofs.Common.{get_or-set_other, length-set, get_or-map-range_with_len}
use Rattle.plan_num.proofs.Common.{length-map-range_with_len}

-- what is told of a place changes at one of them
pub told_anew : {X : Type 0} (f g : ℕ → X) (a n i : ℕ) (x : X) → i < n → g (a + i) ≡ x
    → ((k : ℕ) → k < n → k ≢ i → g (a + k) ≡ f (a + k))
    → slice_set (map f (range_with_len a n)) i x ≡ map g (range_with_len a n)
told_anew f g a n i x inside here others =
    let some = map f (range_with_len a n) in
    let long : length some ≡ n = length-map-range_with_len f a n in
    ext_get_or x (slice_set some i x) (map g (range_with_len a n))
    (length-set some i x ∙ long ∙ sym (length-map-range_with_len g a n))
    (λ k within.
    let in_n : k < n = omega (arith, within, length-set some i x, long) in
    elim (eqb k i) as (λ b. eqb k i ≡ b → get_or (slice_set some i x) k x ≡ get_or (map g (range_with_len a n)) k x) [
      | true ↦ λ is. let same : k ≡ i = eqb-true k i is in
          ap (λ j. get_or (slice_set some i x) j x) same
          ∙ get_or-set_same some i x x (omega (arith, inside, long))
          ∙ sym (get_or-map-range_with_len g a n i (a + i) x inside refl ∙ here)
          ∙ sym (ap (λ j. get_or (map g (range_with_len a n)) j x) same)
      | false ↦ λ is. let other : k ≢ i = eqb-false k i is in
          get_or-set_other some i k x x other
          ∙ get_or-map-range_with_len f a n k (a + k) x in_n refl
          ∙ sym (others k in_n other)
          ∙ sym (get_or-map-range_with_len g a n k (a + k) x in_n refl)
    ] refl)

-- The places of a fraction, one after the other.
use Rattle.plan_num.proofs.Common.{◌≡◌, ℕ, ◌+◌, ◌/◌, ◌%◌, ◌<◌, zero, suc, List, [], ◌∷◌, ◌++◌}
use Rattle.plan_num.proofs.Common.{append_assoc, append-nil, ◌∙◌, sym, length, get_or, drop, refl}
use Rattle.plan_num.proofs.Common.{ap, arith, ne_eqb, add-one, drop-cons, nat_tests}
use Rattle.plan_num.specs.Print.{places, digits_at, fraction_text}

-- what a rest is below, at each place, and 1 after the last one
abbrev pub limits : List ℕ
limits = 1000000 ∷ places

-- what is left of a rest is below the place
pub next_limit : (i : ℕ) → get_or limits (i + 1) 0 ≡ get_or places i 0
next_limit i = rw add-one refl

-- a place is above 0
pub place_positive : (i : ℕ) → i < 6 → 0 < get_or places i 0
place_positive zero h = omega arith
place_positive (suc zero) h = omega arith
place_positive (suc (suc zero)) h = omega arith
place_positive (suc (suc (suc zero))) h = omega arith
place_positive (suc (suc (suc (suc zero)))) h = omega arith
place_positive (suc (suc (suc (suc (suc zero))))) h = omega arith
place_positive (suc (suc (suc (suc (suc (suc n)))))) h = absurd (omega arith)

-- a rest of 0 has no digit
pub digits_of_zero : (ps : List ℕ) → digits_at ps 0 ≡ []
unfolding digits_at
digits_of_zero [] = refl
digits_of_zero (place ∷ ps) = refl

-- after the last place there is no digit
pub no_places : (rest : ℕ) → digits_at [] rest ≡ []
unfolding digits_at
no_places rest = refl

-- another rest has the digit of the place, and then those of what is left
pub digits_more : (ps : List ℕ) (i rest : ℕ) → i < length ps → (rest ≡ 0 → ⊥)
    → digits_at (drop i ps) rest
    ≡ (48 + rest / get_or ps i 0) ∷ digits_at (drop (i + 1) ps) (rest % get_or ps i 0)
unfolding digits_at
digits_more ps i rest h ne = rw (drop-cons ps i 0) (rw add-one (grind (arith, nat_tests)))

-- a digit goes from those that are left to those that are written
pub digit_moves : (written more all left rest : List ℕ) (digit : ℕ) → more ≡ written ++ digit ∷ []
    → left ≡ digit ∷ rest → written ++ left ≡ all → more ++ rest ≡ all
digit_moves written more all left rest digit e f h = grind (arith, append_assoc)

-- no digit is left
pub digits_done : (written all left : List ℕ) → left ≡ [] → written ++ left ≡ all → written ≡ all
digits_done written all left e h = sym (append-nil written) ∙ ap (λ x. written ++ x) (sym e) ∙ h

-- a point and all digits make the text of a fraction that is not 0
pub fraction_told : (before dotted written : List ℕ) (millionths : ℕ) → (millionths ≡ 0 → ⊥)
    → dotted ≡ before ++ 46 ∷ [] → written ≡ dotted ++ digits_at places millionths
    → written ≡ before ++ fraction_text millionths
fraction_told before dotted written millionths ne dots told = grind (arith, ne_eqb, append_assoc)

-- Bits of rows that are put one by one, and rows that have the places for which something holds.
use Rattle.plan_num.proofs.Common.{◌≡◌, ℕ, ◌+◌, ◌%◌, ◌<◌, ◌≤◌, nat_eq, Bool, true, false, cond}
use Rattle.plan_num.proofs.Common.{◌&&◌, MatchBool, refl, ap, sym, ◌∙◌, subst, arith, eqb-true}
use Rattle.plan_num.proofs.Common.{eq-eqb, and_from, false≢true, le-ltb, ne_eqb}
use Rattle.bit_rows.specs.Bits.{Bits, has, has_bit, word_of}
use Rattle.link_plans.proofs.Common.{by_bound, by_number}
use Rattle.assignment.specs.ClaimablePlaces.{IsInRow, IsPut, IsRowOf}
use Rattle.plan_num.proofs.Tests.{and_false}

-- no bit is set behind the columns
past_none : (bits : Bits) (r c : ℕ) → bits.columns ≤ c → has bits r c ≡ false
past_none bits r c past =
    ap (λ b. b && has_bit (word_of bits r c) (c % 64)) (le-ltb c bits.columns past)

pub put_is : (before after : Bits) (row place : ℕ) (is : Bool) → row < before.rows
    → place < before.columns → after.rows ≡ before.rows → after.columns ≡ before.columns
    → ((r c : ℕ) → r < before.rows → c < before.columns
    → has after r c ≡ cond (nat_eq r row && nat_eq c place) is (has before r c))
    → IsPut before after row place is
put_is before after row place is inside within rows columns bits = grind (
  arith,
  and_from,
  eq-eqb,
  by_bound,
  past_none,
  nat_eq,
  by_number,
  ne_eqb,
  and_false,
)

-- ---- rows

module _ (P : ℕ → Type 0) (below : ℕ) (row : ℕ) where
  -- some places more, none of which is one
  pub row_up : (more : ℕ) (bits : Bits) → IsRowOf P below bits row → below ≤ more
      → ((j : ℕ) → below ≤ j → j < more → P j → ⊥) → IsRowOf P more bits row
  row_up more bits are up none = grind arith

  -- one place more, which is marked where a slack is 0
  pub row_step : (before after : Bits) (slack : ℕ) → row < before.rows → IsRowOf P below before row
      → MatchBool (nat_eq slack 0) (IsPut before after row below true) (after ≡ before)
      → (slack ≡ 0 → P below) → (P below → slack ≡ 0) → IsRowOf P (below + 1) after row
  row_step before after slack inside are marked exact none = split (nat_eq slack 0) refl marked
    where
      split : (b : Bool) → nat_eq slack 0 ≡ b
          → MatchBool b (IsPut before after row below true) (after ≡ before)
          → IsRowOf P (below + 1) after row
      split true e put = record {
        right = λ place h. by_number place below
            (λ same. (omega (arith, same), subst P (sym same) (exact (eqb-true slack 0 e))))
            (λ apart.
            let old = are.right place (sym (put.others row place inside (λ _. apart)) ∙ h) in
            (omega (arith, old.0), old.1));
        all = λ place bound h. by_number place below
            (λ same. ap (has after row) same ∙ put.here)
            (λ apart. put.others row place inside (λ _. apart)
            ∙ are.all place (omega (arith, bound, apart)) h);
      }
      split false e same = subst (λ bits. IsRowOf P (below + 1) bits row) (sym same)
          (row_up (below + 1) before are (omega arith) (λ j low high h.
          let here : j ≡ below = omega (arith, low, high) in
          false≢true (sym e ∙ eq-eqb slack 0 (none (subst P here h)))))

-- ---- changes in one row

pub row_same : (bits : Bits) (row : ℕ) → IsInRow bits bits row
row_same bits row = record { rows = refl; columns = refl; others = λ r c inside apart. refl }

pub row_more : (start before after : Bits) (row place slack : ℕ) → IsInRow start before row
    → MatchBool (nat_eq slack 0) (IsPut before after row place true) (after ≡ before)
    → IsInRow start after row
row_more start before after row place slack was marked = grind (arith, nat_eq)

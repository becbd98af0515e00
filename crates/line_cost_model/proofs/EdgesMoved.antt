-- Sums move edge by edge, where a line over some edges has another frequency.
use Rattle.plan_num.proofs.Common.{◌≡◌, ℕ, ◌+◌, ◌≤◌, ◌<◌, ◌∙◌, true, ◌||◌, cond, nat_eq, List}
use Rattle.plan_num.proofs.Common.{length, get_or, set, take, ap, subst, sym, arith, inl, inr}
use Rattle.plan_num.proofs.Common.{get_or-set_other, get_or-set_same, list_any, ne_eqb, eq-eqb}
use Rattle.plan_num.proofs.Common.{cases_eq, get_or_default_zero, length-set, list_any_more}
use Rattle.line_cost_model.specs.RunningSums.{AreCounted}
use Rattle.line_cost_model.proofs.Lowered.{is_new}
use Rattle.plan_num.proofs.Tests.{or_true, or_false}

-- a line over some edges has another frequency in the sums of so many of these
pub record AreMovedUpTo (edges : List ℕ) (k before after : ℕ) (old now : List ℕ) : Type 0 where
  pub size : length now ≡ length old
  pub moved : (at : ℕ) → at < length old
      → get_or now at 0 + cond (list_any (nat_eq at) (take k edges)) before 0
      ≡ get_or old at 0 + cond (list_any (nat_eq at) (take k edges)) after 0

module _ (edges : List ℕ) (k before after : ℕ) (old now : List ℕ) (counted : AreCounted before old edges)
    (so_far : AreMovedUpTo edges k before after old now) (h : k < length edges) (value : ℕ)
    (read : value ≡ get_or now (get_or edges k 0) value) where
  value_is : value ≡ get_or old (get_or edges k 0) 0
  value_is = grind (arith, get_or, nat_eq, is_new, get_or_default_zero)

  -- the frequency is counted in the sum of the next edge, which is not too great
  pub next_counted : before ≤ value
  next_counted = omega (arith, counted.counted k 0 h, value_is)

  pub next_few : value ≤ 1000000000000
  next_few = omega (arith, counted.few k 0 h, value_is)

  pub moved_more : (sum : ℕ) (next : List ℕ) → sum + before ≡ value + after
      → next ≡ set now (get_or edges k 0) sum → AreMovedUpTo edges (k + 1) before after old next
  moved_more sum next is next_is =
      let edge = get_or edges k 0 in
      let there : edge < length old = counted.there k 0 h in
      let so_many = so_far.moved in
      subst (AreMovedUpTo edges (k + 1) before after old) (sym next_is) (record {
        size = length-set now edge sum ∙ so_far.size;
        moved = λ at within.
            let more : list_any (nat_eq at) (take (k + 1) edges)
            ≡ (list_any (nat_eq at) (take k edges) || nat_eq at edge) = list_any_more (nat_eq at) edges k 0 h in
            elim (cases_eq at edge) [
              | inl same ↦
                  let now_over : list_any (nat_eq at) (take (k + 1) edges) ≡ true =
                  more ∙ ap (λ b. list_any (nat_eq at) (take k edges) || b) (eq-eqb at edge same)
                  ∙ or_true (list_any (nat_eq at) (take k edges)) in
                  let here : get_or (set now edge sum) at 0 ≡ sum =
                  ap (λ n. get_or (set now edge sum) n 0) same
                  ∙ get_or-set_same now edge sum 0 (omega (arith, so_far.size, there)) in
                  let old_is : get_or old at 0 ≡ value = ap (λ n. get_or old n 0) same ∙ sym value_is in
                  let own : cond (list_any (nat_eq at) (take (k + 1) edges)) before 0 ≡ before =
                  ap (λ b. cond b before 0) now_over in
                  let later : cond (list_any (nat_eq at) (take (k + 1) edges)) after 0 ≡ after =
                  ap (λ b. cond b after 0) now_over in
                  omega (arith, here, old_is, own, later, is)
              | inr other ↦
                  let as_before : list_any (nat_eq at) (take (k + 1) edges)
                  ≡ list_any (nat_eq at) (take k edges) =
                  more ∙ ap (λ b. list_any (nat_eq at) (take k edges) || b) (ne_eqb at edge other)
                  ∙ or_false (list_any (nat_eq at) (take k edges)) in
                  subst (λ b. get_or (set now edge sum) at 0 + cond b before 0 ≡ get_or old at 0 + cond b after 0)
                  (sym as_before)
                  (ap (λ n. n + cond (list_any (nat_eq at) (take k edges)) before 0)
                  (get_or-set_other now edge at sum 0 other) ∙ so_many at within)
            ];
      })

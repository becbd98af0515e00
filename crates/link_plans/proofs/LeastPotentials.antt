-- For each links there are a plan and potentials that are valid for it: trip by trip, where potentials go
-- down until the trip in hand has its place.
use Rattle.plan_num.proofs.Common.{◌≡◌, ℕ, ℤ, zero, suc, pos, negsuc, ◌+◌, ◌-◌, ◌<◌, ◌≤◌, ◌≤ℤ◌}
use Rattle.plan_num.proofs.Common.{◌==◌, ◌&&◌, not, is_some, Bool, true, false, cond, Option, Some}
use Rattle.plan_num.proofs.Common.{None, IfSome, refl, ap, sym, ◌∙◌, subst, arith, eqb-true, eq-eqb}
use Rattle.plan_num.proofs.Common.{false≢true, not-true, ints, none-some}
use Rattle.link_plans.specs.Plans.{is_trip}
use Rattle.link_plans.proofs.Counting.{count_most}
use Rattle.link_plans.proofs.Linking.{by_number, is_trip_same, same_is_trip}
use Rattle.link_plans.proofs.TestsBelow.{IsFound, by_bool, found_below}
use Rattle.link_plans.proofs.TestsBelow.{none_below, put, put_here, put_other, some_below}
use Rattle.link_plans.proofs.TripInHand.{AreAllHands, AreHands, HasDone, IsFree, IsInHand, Plan, closing}
use Rattle.link_plans.proofs.TripInHand.{drops, is_next_reached, is_reached, links, not_reached, reached}
use Rattle.plan_num.proofs.Tests.{both_true, first_true, second_true, not_both}

-- a gain that is not more than a number, and not the number
less_than : (gain : ℤ) (number : ℕ) → gain ≤ℤ pos number → (gain ≡ pos number → ⊥)
    → gain ≤ℤ pos (number - 1)
less_than (pos m) number most apart = grind (arith, ints)
less_than (negsuc m) number most apart = omega (arith, ints)

module _ (gain : ℕ → ℕ → Option ℤ) where
  -- ---- potentials go down on the side of all trips that may be in hand

  module _ (taken : ℕ) (u v : ℕ → ℕ) (plan : Plan gain) (h : ℕ) (it : IsInHand gain taken u v plan h)
      (hands : ℕ → Bool) (all : AreAllHands gain taken u v plan h it hands)
      (some : (i : ℕ) → hands i ≡ true → 1 ≤ u i)
      (none_free : (j : ℕ) → is_reached gain taken u v plan h it hands j ≡ true
      → IsFree gain plan j → ⊥) where
    abbrev is_there : ℕ → Bool
    is_there j = is_reached gain taken u v plan h it hands j

    abbrev pub lower_u : ℕ → ℕ
    lower_u i = cond (hands i) (u i - 1) (u i)

    abbrev pub raised_v : ℕ → ℕ
    raised_v j = cond (is_there j) (v j + 1) (v j)

    u_in : (i : ℕ) → hands i ≡ true → lower_u i ≡ u i - 1
    u_in i e = ap (λ b. cond b (u i - 1) (u i)) e

    u_out : (i : ℕ) → hands i ≡ false → lower_u i ≡ u i
    u_out i e = ap (λ b. cond b (u i - 1) (u i)) e

    v_in : (j : ℕ) → is_there j ≡ true → raised_v j ≡ v j + 1
    v_in j e = ap (λ b. cond b (v j + 1) (v j)) e

    v_out : (j : ℕ) → is_there j ≡ false → raised_v j ≡ v j
    v_out j e = ap (λ b. cond b (v j + 1) (v j)) e

    -- a link keeps its sum
    same_sum : (i j : ℕ) → plan i ≡ Some j → lower_u i + raised_v j ≡ u i + v j
    same_sum i j e =
        let old = it.held.follow i j e in
        by_bool (hands i)
        (λ in_it. by_bool (is_there j)
        (λ there. omega (arith, u_in i in_it, v_in j there, some i in_it))
        (λ away. absurd (not_reached gain taken u v plan h it hands j i away old.0 in_it old.1)))
        (λ out. by_bool (is_there j)
        (λ there. absurd (not_both (both_true (ap not out)
        (ap (is_next_reached gain taken u v plan h it hands) e ∙ there)) (all.whole i old.0)))
        (λ away. omega (arith, u_out i out, v_out j away)))

    covers : (i j : ℕ) → i < taken → (g : ℤ) → gain i j ≡ Some g → g ≤ℤ pos (u i + v j)
        → g ≤ℤ pos (lower_u i + raised_v j)
    covers i j within g is most = by_bool (hands i)
        (λ in_it. by_bool (is_there j)
        (λ there. let same : lower_u i + raised_v j ≡ u i + v j = grind (arith, u_in, v_in) in grind
        arith)
        (λ away. let same : lower_u i + raised_v j ≡ (u i + v j) - 1 =
        omega (arith, u_in i in_it, v_out j away, some i in_it) in
        subst (λ k. g ≤ℤ pos k) (sym same) (less_than g (u i + v j) most
        (λ e. not_reached gain taken u v plan h it hands j i away within in_it (is ∙ ap Some e)))))
        (λ out. by_bool (is_there j)
        (λ there. omega (arith, ints, u_out i out, v_in j there, most))
        (λ away. omega (arith, ints, u_out i out, v_out j away, most)))

    covered : (i j : ℕ) → i < taken → (at : Option ℤ) → gain i j ≡ at
        → IfSome at (λ g. g ≤ℤ pos (u i + v j)) → IfSome at (λ g. g ≤ℤ pos (lower_u i + raised_v j))
    covered i j within None is most = tt
    covered i j within (Some g) is most = covers i j within g is most

    pub lowered : IsInHand gain taken lower_u raised_v plan h
    lowered = record {
      held = record {
        follow = λ i j e. (
          (it.held.follow i j e).0,
          (it.held.follow i j e).1 ∙ ap (λ k. Some (pos k)) (sym (same_sum i j e)),
        );
        once = it.held.once;
        covered = λ i j within. covered i j within (gain i j) refl (it.held.covered i j within);
        last = λ i none apart. grind (arith, by_bool, u_in, u_out);
        first = λ j free. grind (arith, by_bool, v_out);
      };
      within = it.within;
      none = it.none;
    }

    pub lower_hand : lower_u h + 1 ≤ u h
    lower_hand = omega (arith, u_in h all.are.start, some h all.are.start)

  module _ (n : ℕ) (inside : (i j : ℕ) → is_some (gain i j) ≡ true → j < n) (top : ℕ)
      (most : (i j : ℕ) → IfSome (gain i j) (λ g. g ≤ℤ pos top)) where
    -- ---- one trip in hand

    module _ (taken : ℕ) (u v : ℕ → ℕ) (plan : Plan gain) (h : ℕ) (it : IsInHand gain taken u v plan h)
        (rest : (lower raised : ℕ → ℕ) → IsInHand gain taken lower raised plan h → lower h + 1 ≤ u h
        → HasDone gain taken) where
      first_hands : AreHands gain taken u v plan h it (λ i. i == h)
      first_hands = grind arith

      module _ (hands : ℕ → Bool) (all : AreAllHands gain taken u v plan h it hands) where
        abbrev has_nothing : ℕ → Bool
        has_nothing i = hands i && (u i == 0)

        abbrev is_linked : ℕ → Bool
        is_linked j = some_below (λ k. is_trip j (plan k)) taken

        abbrev is_open : ℕ → Bool
        is_open j = is_reached gain taken u v plan h it hands j && not (is_linked j)

        dropped : IsFound has_nothing taken → HasDone gain taken
        dropped found = grind (arith, first_true, drops, eqb-true, second_true)

        free_where : (j : ℕ) → is_linked j ≡ false → IsFree gain plan j
        free_where j none i e =
            not_both (same_is_trip j (plan i) e)
            (none_below (λ k. is_trip j (plan k)) taken none i (it.held.follow i j e).0)

        linked : IsFound is_open n → HasDone gain taken
        linked found =
            let at = reached gain taken u v plan h it hands found.i (first_true _ _ found.passes) in
            let can = all.are.each at.i at.is in
            record {
              u = u;
              v = v;
              plan = put can.other at.i (Some found.i);
              done = links gain taken u v can.other at.i found.i can.holds at.tight
                  (can.free found.i (free_where found.i
                  (not-true (is_linked found.i)
                  (second_true (is_reached gain taken u v plan h it hands found.i) _ found.passes))));
            }

        not_open : (j : ℕ) → some_below is_open n ≡ false
            → is_reached gain taken u v plan h it hands j ≡ true → IsFree gain plan j → ⊥
        not_open j none there free =
            let at = reached gain taken u v plan h it hands j there in
            by_bool (is_linked j)
            (λ some. let found = found_below (λ k. is_trip j (plan k)) taken some in
            free found.i (is_trip_same j (plan found.i) found.passes))
            (λ away. not_both (both_true there (ap not away))
            (none_below is_open n none j (inside at.i j (ap is_some at.tight))))

        more_than : (i : ℕ) → some_below has_nothing taken ≡ false → hands i ≡ true → 1 ≤ u i
        more_than i none is = by_number (u i) 0
            (λ nothing. absurd (not_both (both_true is (eq-eqb (u i) 0 nothing))
            (none_below has_nothing taken none i (all.are.each i is).holds.within)))
            (λ apart. omega (arith, apart))

        by_hands : HasDone gain taken
        by_hands = by_bool (some_below has_nothing taken)
            (λ some. dropped (found_below has_nothing taken some))
            (λ none. by_bool (some_below is_open n)
            (λ some. linked (found_below is_open n some))
            (λ closed. rest
            (lower_u taken u v plan h it hands all (λ i is. more_than i none is)
            (λ j there free. not_open j closed there free))
            (raised_v taken u v plan h it hands all (λ i is. more_than i none is)
            (λ j there free. not_open j closed there free))
            (lowered taken u v plan h it hands all (λ i is. more_than i none is)
            (λ j there free. not_open j closed there free))
            (lower_hand taken u v plan h it hands all (λ i is. more_than i none is)
            (λ j there free. not_open j closed there free))))

      placed : HasDone gain taken
      placed =
          let all = closing gain taken u v plan h it taken (λ i. i == h) first_hands
          (count_most (λ k. not (k == h)) 0 taken) in
          by_hands all.0 all.1

    -- down to nothing at the latest
    down : (taken depth : ℕ) (u v : ℕ → ℕ) (plan : Plan gain) (h : ℕ)
        → IsInHand gain taken u v plan h → u h ≤ depth → HasDone gain taken
    down taken zero u v plan h it few = grind (arith, placed)
    down taken (suc depth) u v plan h it few =
        placed taken u v plan h it
        (λ lower raised again less. down taken depth lower raised plan h again (omega (arith, less, few)))

    -- ---- trip by trip

    module _ (taken : ℕ) (old : HasDone gain taken) where
      abbrev more_u : ℕ → ℕ
      more_u = put old.u taken top

      was : (i : ℕ) → i < taken → more_u i ≡ old.u i
      was i within = put_other old.u taken top i (λ e. absurd (omega (arith, within, e)))

      covers_new : (j : ℕ) (at : Option ℤ) → IfSome at (λ g. g ≤ℤ pos top)
          → IfSome at (λ g. g ≤ℤ pos (top + old.v j))
      covers_new j None h = tt
      covers_new j (Some g) h = omega (arith, ints, h)

      none_yet : (at : Option ℕ) → old.plan taken ≡ at → old.plan taken ≡ None
      none_yet None e = e
      none_yet (Some j) e = absurd (omega (arith, (old.done.follow taken j e).0))

      in_hand : IsInHand gain (taken + 1) more_u old.v old.plan taken
      in_hand = record {
        held = record {
          follow = λ i j e. let told = old.done.follow i j e in grind (arith, was);
          once = old.done.once;
          covered = λ i j within. grind (arith, by_number, put_here, covers_new, was, covered);
          last = λ i none apart. put_other old.u taken top i apart ∙ old.done.last i none (λ never. never);
          first = old.done.first;
        };
        within = omega arith;
        none = none_yet (old.plan taken) refl;
      }

      one_more : HasDone gain (taken + 1)
      one_more = down (taken + 1) top more_u old.v old.plan taken in_hand
          (omega (arith, put_here old.u taken top taken refl))

    pub all_done : (taken : ℕ) → HasDone gain taken
    all_done zero = record {
      u = λ i. 0;
      v = λ i. 0;
      plan = λ i. None;
      done = grind (arith, none-some, covered);
    }
    all_done (suc taken) =
        let same : taken + 1 ≡ suc taken = omega arith in
        subst (HasDone gain) same (one_more taken (all_done taken))

-- A plan and its potentials, where one trip is in hand: it has no successor, and its potential may be
-- more than nothing. Some plan takes each trip on its side, or all potentials on a side go down.
use Rattle.plan_num.proofs.Common.{◌≡◌, ◌≢◌, ℕ, ℤ, zero, suc, pos, ◌+◌, ◌<◌, ◌≤◌, ◌≤ℤ◌, ◌==◌, ◌&&◌}
use Rattle.plan_num.proofs.Common.{◌||◌, not, Bool, true, false, Option, Some, None, IfSome, refl}
use Rattle.plan_num.proofs.Common.{ap, sym, ◌∙◌, subst, arith, false≢true, ne_eqb, not-true}
use Rattle.plan_num.proofs.Common.{none-some, same_Some}
use Rattle.link_plans.proofs.Counting.{count, one_less}
use Rattle.link_plans.proofs.Linking.{by_number}
use Rattle.link_plans.proofs.TestsBelow.{IsFound, by_bool, exact_where}
use Rattle.link_plans.proofs.TestsBelow.{found_below, is_exact, none_below, put}
use Rattle.link_plans.proofs.TestsBelow.{put_here, put_other, some_below, where_exact}
use Rattle.plan_num.proofs.Tests.{both_true, first_true, second_true, not_both}

-- ---- plans as functions

module _ (gain : ℕ → ℕ → Option ℤ) where
  abbrev pub Plan : Type 0
  Plan = ℕ → Option ℕ

  -- no trip comes before another one
  abbrev pub IsFree : Plan → ℕ → Type 0
  IsFree plan j = (i : ℕ) → plan i ≡ Some j → ⊥

  -- links of the first trips gain exactly their potentials, and none gains more; a trip has nothing on a
  -- side without a link, but for one in hand on its own
  pub record IsHeld (taken : ℕ) (u v : ℕ → ℕ) (plan : Plan) (hand : ℕ → Type 0) : Type 0 where
    pub follow : (i j : ℕ) → plan i ≡ Some j → (i < taken) × (gain i j ≡ Some (pos (u i + v j)))
    pub once : (i k j : ℕ) → plan i ≡ Some j → plan k ≡ Some j → i ≡ k
    pub covered : (i j : ℕ) → i < taken → IfSome (gain i j) (λ g. g ≤ℤ pos (u i + v j))
    pub last : (i : ℕ) → plan i ≡ None → (hand i → ⊥) → u i ≡ 0
    pub first : (j : ℕ) → IsFree plan j → v j ≡ 0

  abbrev pub IsDone : ℕ → (ℕ → ℕ) → (ℕ → ℕ) → Plan → Type 0
  IsDone taken u v plan = IsHeld taken u v plan (λ i. ⊥)

  pub record IsInHand (taken : ℕ) (u v : ℕ → ℕ) (plan : Plan) (h : ℕ) : Type 0 where
    pub held : IsHeld taken u v plan (λ i. i ≡ h)
    pub within : h < taken
    pub none : plan h ≡ None

  -- some plan with potentials
  pub record HasDone (taken : ℕ) : Type 0 where
    pub u : ℕ → ℕ
    pub v : ℕ → ℕ
    pub plan : Plan
    pub done : IsDone taken u v plan

  module _ (taken : ℕ) (u v : ℕ → ℕ) where
    -- a trip in hand that has nothing may stay without a successor
    pub drops : (plan : Plan) (h : ℕ) → IsInHand taken u v plan h → u h ≡ 0 → IsDone taken u v plan
    drops plan h it nothing = grind arith

    -- it may take a trip that comes behind none
    pub links : (plan : Plan) (h j : ℕ) → IsInHand taken u v plan h → gain h j ≡ Some (pos (u h + v j))
        → IsFree plan j → IsDone taken u v (put plan h (Some j))
    links plan h j it tight free = record {
      follow = λ i k e. by_number i h
          (λ same. follows i k same (same_Some j k (sym (put_here plan h (Some j) i same) ∙ e)))
          (λ apart. it.held.follow i k (sym (put_other plan h (Some j) i apart) ∙ e));
      once = λ i k x e f. grind (arith, by_number, put_other, same_Some, put_here);
      covered = it.held.covered;
      last = λ i e never. grind (arith, by_number, none-some, put_here, put_other);
      first = λ k is. grind (arith, by_number, none-some, put_other);
    }
      where
        follows : (i k : ℕ) → i ≡ h → j ≡ k → (i < taken) × (gain i k ≡ Some (pos (u i + v k)))
        follows i k same at = grind arith

    -- it may take one from another trip, which is then in hand
    module _ (plan : Plan) (h j k : ℕ) (it : IsInHand taken u v plan h)
        (tight : gain h j ≡ Some (pos (u h + v j))) (behind : plan k ≡ Some j) where
      abbrev pub passed : Plan
      passed = put (put plan k None) h (Some j)

      apart_hand : k ≢ h
      apart_hand e = none-some j (sym it.none ∙ ap plan (sym e) ∙ behind)

      at_hand : (i : ℕ) → i ≡ h → passed i ≡ Some j
      at_hand i e = put_here (put plan k None) h (Some j) i e

      at_other : (i : ℕ) → i ≢ h → i ≡ k → passed i ≡ None
      at_other i apart e = put_other (put plan k None) h (Some j) i apart ∙ put_here plan k None i e

      pub elsewhere : (i : ℕ) → i ≢ h → i ≢ k → passed i ≡ plan i
      elsewhere i apart other = grind (arith, put_other, put)

      by_place : {P : Type 0} (i : ℕ) → (i ≡ h → P) → (i ≢ h → i ≡ k → P) → (i ≢ h → i ≢ k → P) → P
      by_place i at_h at_k else = by_number i h at_h (λ apart. by_number i k (at_k apart) (else apart))

      is_j : (i x : ℕ) → i ≡ h → passed i ≡ Some x → j ≡ x
      is_j i x same e = same_Some j x (sym (at_hand i same) ∙ e)

      follows : (i x : ℕ) → i ≡ h → j ≡ x → (i < taken) × (gain i x ≡ Some (pos (u i + v x)))
      follows i x same at = grind arith

      -- a link that was there to the trip that is taken is that from the other one
      was_other : (i x : ℕ) → i ≢ h → i ≢ k → passed i ≡ Some x → j ≡ x → ⊥
      was_other i x apart other e at = grind (arith, elsewhere)

      pub passes : IsInHand taken u v passed k
      passes = record {
        held = record {
          follow = λ i x e. by_place i
              (λ same. follows i x same (is_j i x same e))
              (λ apart same. absurd (none-some x (sym (at_other i apart same) ∙ e)))
              (λ apart other. it.held.follow i x (sym (elsewhere i apart other) ∙ e));
          once = λ i l x e f. by_place i
              (λ same. by_place l (λ also. same ∙ sym also)
              (λ apart at. absurd (none-some x (sym (at_other l apart at) ∙ f)))
              (λ apart other. absurd (was_other l x apart other f (is_j i x same e))))
              (λ apart at. absurd (none-some x (sym (at_other i apart at) ∙ e)))
              (λ apart other. by_place l
              (λ also. absurd (was_other i x apart other e (is_j l x also f)))
              (λ apart_l at. absurd (none-some x (sym (at_other l apart_l at) ∙ f)))
              (λ apart_l other_l. it.held.once i l x (sym (elsewhere i apart other) ∙ e)
              (sym (elsewhere l apart_l other_l) ∙ f)));
          covered = it.held.covered;
          last = λ i e never. grind (arith, by_place, none-some, at_hand, elsewhere);
          first = λ x is. grind (arith, by_place, none-some, at_hand, elsewhere);
        };
        within = (it.held.follow k j behind).0;
        none = at_other k apart_hand refl;
      }

      -- what comes behind none still does
      pub free_still : (x : ℕ) → IsFree plan x → IsFree passed x
      free_still x is i e = grind arith

  -- ---- the trips that may be in hand

  module _ (taken : ℕ) (u v : ℕ → ℕ) (plan : Plan) (h : ℕ) (it : IsInHand taken u v plan h) where
    -- a plan that has another trip in hand, and is the same for trips outside some
    pub record CanHold (hands : ℕ → Bool) (i : ℕ) : Type 0 where
      pub other : Plan
      pub holds : IsInHand taken u v other i
      pub outside : (k : ℕ) → hands k ≡ false → other k ≡ plan k
      pub free : (j : ℕ) → IsFree plan j → IsFree other j

    pub record AreHands (hands : ℕ → Bool) : Type 0 where
      pub start : hands h ≡ true
      pub each : (i : ℕ) → hands i ≡ true → CanHold hands i

    -- a trip is linked exactly to one of them
    abbrev pub is_reached : (ℕ → Bool) → ℕ → Bool
    is_reached hands j = some_below (λ i. hands i && is_exact (gain i j) (u i + v j)) taken

    abbrev pub is_next_reached : (ℕ → Bool) → Option ℕ → Bool
    is_next_reached hands None = false
    is_next_reached hands (Some j) = is_reached hands j

    -- a trip outside them that has a successor which one of them could take
    abbrev pub comes_next : (ℕ → Bool) → ℕ → Bool
    comes_next hands k = not (hands k) && is_next_reached hands (plan k)

    -- with all that come next among them
    pub record AreAllHands (hands : ℕ → Bool) : Type 0 where
      pub are : AreHands hands
      pub whole : (k : ℕ) → k < taken → comes_next hands k ≡ false

    abbrev with_hand : (ℕ → Bool) → ℕ → ℕ → Bool
    with_hand hands k i = (i == k) || hands i

    was_out : (hands : ℕ → Bool) (k i : ℕ) → with_hand hands k i ≡ false
        → (i ≢ k) × (hands i ≡ false)
    was_out hands k i e = grind arith

    pub record IsReached (hands : ℕ → Bool) (j : ℕ) : Type 0 where
      pub i : ℕ
      pub within : i < taken
      pub is : hands i ≡ true
      pub tight : gain i j ≡ Some (pos (u i + v j))

    pub reached : (hands : ℕ → Bool) (j : ℕ) → is_reached hands j ≡ true → IsReached hands j
    reached hands j e =
        let found = found_below (λ i. hands i && is_exact (gain i j) (u i + v j)) taken e in grind
        (arith, first_true, passes, where_exact, second_true)

    pub not_reached : (hands : ℕ → Bool) (j i : ℕ) → is_reached hands j ≡ false → i < taken
        → hands i ≡ true → gain i j ≡ Some (pos (u i + v j)) → ⊥
    not_reached hands j i e within is tight =
        not_both (both_true is (exact_where (gain i j) (u i + v j) tight))
        (none_below (λ i. hands i && is_exact (gain i j) (u i + v j)) taken e i within)

    -- one that comes next may be in hand
    module _ (hands : ℕ → Bool) (are : AreHands hands) (k j : ℕ) (out : hands k ≡ false)
        (behind : plan k ≡ Some j) (at : IsReached hands j) where
      before : CanHold hands at.i
      before = are.each at.i at.is

      same_behind : before.other k ≡ Some j
      same_behind = before.outside k out ∙ behind

      next_hand : CanHold (with_hand hands k) k
      next_hand = record {
        other = passed taken u v before.other at.i j k before.holds at.tight same_behind;
        holds = passes taken u v before.other at.i j k before.holds at.tight same_behind;
        outside = λ i e. let was = was_out hands k i e in
            elsewhere taken u v before.other at.i j k before.holds at.tight same_behind i
            (λ same. not_both (ap hands same ∙ at.is) was.1) was.0
            ∙ before.outside i was.1;
        free = λ x is. free_still taken u v before.other at.i j k before.holds at.tight same_behind x
            (before.free x is);
      }

      more_hands : AreHands (with_hand hands k)
      more_hands = record {
        start = is_there h are.start;
        each = λ i is. by_number i k
            (λ same. subst (CanHold (with_hand hands k)) (sym same) next_hand)
            (λ apart. wider i (are.each i (sym (ap (λ b. b || hands i) (ne_eqb i k apart)) ∙ is)));
      }
        where
          is_there : (i : ℕ) → hands i ≡ true → with_hand hands k i ≡ true
          is_there i e = grind (arith, by_bool)

          wider : (i : ℕ) → CanHold hands i → CanHold (with_hand hands k) i
          wider i can = grind arith

    one_more : (hands : ℕ → Bool) → AreHands hands → IsFound (comes_next hands) taken
        → (k : ℕ) × (k < taken) × (hands k ≡ false) × AreHands (with_hand hands k)
    one_more hands are found =
        let out : hands found.i ≡ false = not-true (hands found.i) (first_true (not (hands found.i)) _ found.passes) in (
          found.i,
          found.within,
          out,
          by_next (plan found.i) refl out (second_true (not (hands found.i)) _ found.passes),
        )
      where
        by_next : (next : Option ℕ) → plan found.i ≡ next → hands found.i ≡ false
            → is_next_reached hands next ≡ true → AreHands (with_hand hands found.i)
        by_next None is out e = absurd (false≢true e)
        by_next (Some j) is out e = more_hands hands are found.i j out is (reached hands j e)

    -- how many are left outside
    abbrev pub left : (ℕ → Bool) → ℕ
    left hands = count (λ k. not (hands k)) 0 taken

    abbrev pub AllHands : Type 0
    AllHands = (all : ℕ → Bool) × AreAllHands all

    record IsMore (hands : ℕ → Bool) : Type 0 where
      more : ℕ → Bool
      are : AreHands more
      fewer : left more + 1 ≡ left hands

    one_taken : (hands : ℕ → Bool) → AreHands hands → IsFound (comes_next hands) taken → IsMore hands
    one_taken hands are found =
        let more = one_more hands are found in
        record {
          more = with_hand hands more.0;
          are = more.3;
          fewer = one_less hands more.0 0 taken (omega arith) (omega (arith, more.1)) more.2;
        }

    closing_by : (fuel : ℕ)
        → ((hands : ℕ → Bool) → AreHands hands → left hands + 1 ≤ fuel → AllHands)
        → (hands : ℕ → Bool) → AreHands hands → left hands ≤ fuel → AllHands
    closing_by fuel rest hands are few = by_bool (some_below (comes_next hands) taken)
        (λ some. let more = one_taken hands are (found_below (comes_next hands) taken some) in
        rest more.more more.are (omega (arith, few, more.fewer)))
        (λ none. (hands, record { are = are; whole = none_below (comes_next hands) taken none }))

    -- until none comes next
    pub closing : (fuel : ℕ) (hands : ℕ → Bool) → AreHands hands → left hands ≤ fuel → AllHands
    closing zero hands are few =
        closing_by zero (λ more are_more fewer. absurd (omega (arith, fewer))) hands are few
    closing (suc fuel) hands are few =
        closing_by (suc fuel) (λ more are_more fewer. closing fuel more are_more (omega (arith, fewer)))
        hands are few

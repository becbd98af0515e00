-- Where a round finds no better walk, the numbers tell the canonical potentials: a link that gains less
-- than nothing makes no walk better that goes on to the root.
use Rattle.plan_num.proofs.Common.{◌≡◌, ℕ, ℤ, pos, negsuc, neg_ℤ, ◌+◌, ◌-◌, ◌<◌, ◌≤◌, ◌+ℤ◌, ◌-ℤ◌}
use Rattle.plan_num.proofs.Common.{◌≤ℤ◌, ◌&&◌, not, is_some, Bool, true, false, cond, List, ◌∷◌}
use Rattle.plan_num.proofs.Common.{map, get_or, Option, Some, None, IfSome, refl, ap, sym, ◌∙◌}
use Rattle.plan_num.proofs.Common.{subst, arith, int_max, range_with_len, lt-ltb, ints, int_max_is}
use Rattle.plan_num.proofs.Common.{get_or-map, length-map, get_or-map-range_with_len}
use Rattle.plan_num.proofs.Common.{length-range_with_len}
use Rattle.link_plans.proofs.Common.{Links, AreLinks, next, is_next, next_found, worth}
use Rattle.link_plans.proofs.Common.{PotentialParts, at, AreValid}
use Rattle.canonical_potentials.specs.Canonical.{AreCanonical}
use Rattle.canonical_potentials.specs.Drops.{DropParts, AreDropsOver, IsSearched, LinkKept}
use Rattle.canonical_potentials.specs.Drops.{NextKept, RootKept, AreKept, ArePassed, potentials_by}
use Rattle.canonical_potentials.specs.Residual.{root, left, right, arc, free_arc, walk_cost, IsLeastCost}
use Rattle.canonical_potentials.proofs.Deeper.{joined}
use Rattle.canonical_potentials.proofs.Rounds.{canonical_is, same_numbers}
use Rattle.canonical_potentials.proofs.Settled.{greater, kept_valid, least_of, over_all, u_at, v_at}

-- a number where there is one, or else another one
abbrev either_of : Bool → ℕ → ℕ → ℕ
either_of b one other = cond b one other

module _ (links : Links) (sound : AreLinks links) (plan : List (Option ℕ)) (drops : DropParts)
    (known : IsSearched links plan drops) (passed : ArePassed links plan drops) where
  abbrev n : ℕ
  n = links.count

  left_of : ℕ → ℕ
  left_of i = either_of (is_some (next plan i)) (get_or drops.left i 0) drops.root

  right_of : ℕ → ℕ
  right_of j = either_of (is_next plan j) (get_or drops.right j 0) drops.root

  -- the same numbers, but nodes that the root joins without a link have its number
  evened : DropParts
  evened = record {
    root = drops.root;
    left = map left_of (range_with_len 0 n);
    right = map right_of (range_with_len 0 n);
  }

  sized : AreDropsOver n evened
  unfolding evened
  sized = record {
    left = length-map (range_with_len 0 n) left_of ∙ length-range_with_len 0 n;
    right = length-map (range_with_len 0 n) right_of ∙ length-range_with_len 0 n;
  }

  left_at : (i : ℕ) → i < n → get_or evened.left i 0 ≡ left_of i
  unfolding evened
  left_at i within = get_or-map-range_with_len left_of 0 n i i 0 within (omega arith)

  right_at : (j : ℕ) → j < n → get_or evened.right j 0 ≡ right_of j
  unfolding evened
  right_at j within = get_or-map-range_with_len right_of 0 n j j 0 within (omega arith)

  root_at : evened.root ≡ drops.root
  unfolding evened
  root_at = refl

  -- ---- where the nodes lie

  left_linked : (i j : ℕ) → next plan i ≡ Some j → left_of i ≡ get_or drops.left i 0
  unfolding left_of
  left_linked i j e = ap (λ it. either_of (is_some it) (get_or drops.left i 0) drops.root) e

  left_alone : (i : ℕ) → next plan i ≡ None → left_of i ≡ drops.root
  unfolding left_of
  left_alone i e = ap (λ it. either_of (is_some it) (get_or drops.left i 0) drops.root) e

  right_linked : (j : ℕ) → is_next plan j ≡ true → right_of j ≡ get_or drops.right j 0
  unfolding right_of
  right_linked j e = ap (λ b. either_of b (get_or drops.right j 0) drops.root) e

  right_alone : (j : ℕ) → is_next plan j ≡ false → right_of j ≡ drops.root
  unfolding right_of
  right_alone j e = ap (λ b. either_of b (get_or drops.right j 0) drops.root) e

  by_next : {P : Type 0} (i : ℕ) → ((j : ℕ) → next plan i ≡ Some j → P) → (next plan i ≡ None → P) → P
  by_next {P} i linked alone = grind arith

  by_before : {P : Type 0} (j : ℕ) → (is_next plan j ≡ true → P) → (is_next plan j ≡ false → P) → P
  by_before {P} j linked alone = grind arith

  -- no left node lies further than the root, nor than it lay
  left_low : (i : ℕ) → i < n → (left_of i ≤ drops.root) × (left_of i ≤ get_or drops.left i 0)
  left_low i within = by_next i
      (λ j e.
      let low = subst (NextKept links drops i) e (passed i within).next_kept in
      (omega (arith, low.0, left_linked i j e), omega (arith, left_linked i j e)))
      (λ e.
      let low = subst (NextKept links drops i) e (passed i within).next_kept in
      (omega (arith, left_alone i e), omega (arith, low, left_alone i e)))

  -- and no right node less far
  right_high : (j : ℕ) → j < n → (drops.root ≤ right_of j) × (get_or drops.right j 0 ≤ right_of j)
  right_high j within = by_before j
      (λ e.
      let high = subst (RootKept drops j) e (passed j within).root_kept in
      (omega (arith, high, right_linked j e), omega (arith, right_linked j e)))
      (λ e.
      let low = subst (RootKept drops j) e (passed j within).root_kept in
      (omega (arith, right_alone j e), omega (arith, low, right_alone j e)))

  -- ---- no arc finds a better walk

  pair_kept : (i j : ℕ) → i < n → j < n → IfSome (links.gain i j)
      (λ gain. (pos (get_or evened.left i 0) +ℤ gain) ≤ℤ pos (get_or evened.right j 0))
  pair_kept i j from to = split (links.gain i j) refl
    where
      split : (gain : Option ℤ) → links.gain i j ≡ gain
          → IfSome gain (λ gain. (pos (get_or evened.left i 0) +ℤ gain) ≤ℤ pos (get_or evened.right j 0))
      split None e = tt
      split (Some (pos gain)) e =
          let pair : get_or drops.left i 0 + gain ≤ get_or drops.right j 0 =
          (passed i from).row j gain to (ap worth e) in
          omega (arith, ints, pair, left_at i from, right_at j to, (left_low i from).1, (right_high j to).1)
      split (Some (negsuc less)) e =
          omega (arith, ints, left_at i from, right_at j to, (left_low i from).0, (right_high j to).0)

  to_within : (i j : ℕ) → next plan i ≡ Some j → j < n
  to_within i j e = (sound.within i j (known.plan_is.follow i j e)).1

  next_kept : (i : ℕ) → i < n → NextKept links evened i (next plan i)
  next_kept i within = split (next plan i) refl
    where
      linked : (j : ℕ) → next plan i ≡ Some j → j < n → LinkKept links drops i j
          → LinkKept links evened i j
      linked j e to = split_gain (links.gain i j)
        where
          split_gain : (gain : Option ℤ)
              → IfSome gain (λ gain. pos (get_or drops.right j 0) ≤ℤ (pos (get_or drops.left i 0) +ℤ gain))
              → IfSome gain (λ gain. pos (get_or evened.right j 0) ≤ℤ (pos (get_or evened.left i 0) +ℤ gain))
          split_gain None h = tt
          split_gain (Some gain) h = omega (
            arith,
            ints,
            h,
            left_at i within,
            right_at j to,
            left_linked i j e,
            right_linked j (next_found plan i j e),
          )

      split : (it : Option ℕ) → next plan i ≡ it → NextKept links evened i it
      split None e = omega (arith, root_at, left_at i within, left_alone i e)
      split (Some j) e =
          let both = subst (NextKept links drops i) e (passed i within).next_kept in (
            omega (arith, root_at, left_at i within, left_linked i j e, both.0),
            linked j e (to_within i j e) both.1,
          )

  root_kept : (j : ℕ) → j < n → RootKept evened j (is_next plan j)
  root_kept j within = grind (arith, evened, root_at, right_at, right_alone, right_high)

  kept : AreKept links plan evened
  kept = λ i within. record {
    pairs = λ j to. pair_kept i j within to;
    next_kept = next_kept i within;
    root_kept = root_kept i within;
  }

  -- ---- the potentials are the same

  same : potentials_by drops ≡ potentials_by evened
  same =
      let of_u : List ℕ → PotentialParts = λ u. record { u = u; v = map (λ right. right - drops.root) drops.right } in
      let of_v : List ℕ → PotentialParts = λ v. record { u = (potentials_by evened).u; v = v } in
      ap of_u (same_numbers (potentials_by drops).u (potentials_by evened).u
      (length-map drops.left (λ left. drops.root - left) ∙ known.over.left
      ∙ sym (over_all links sound plan evened known.plan_is sized kept).each_u)
      (λ k h. u_same k (omega (arith, h, length-map drops.left (λ left. drops.root - left), known.over.left))))
      ∙ ap of_v (same_numbers (potentials_by drops).v (potentials_by evened).v
      (length-map drops.right (λ right. right - drops.root) ∙ known.over.right
      ∙ sym (over_all links sound plan evened known.plan_is sized kept).each_v)
      (λ k h. v_same k (omega (arith, h, length-map drops.right (λ right. right - drops.root), known.over.right))))
    where
      u_same : (k : ℕ) → k < n → at (potentials_by drops).u k ≡ at (potentials_by evened).u k
      u_same k within =
          let before = get_or-map (λ left. drops.root - left) drops.left k 0 0
          (omega (arith, within, known.over.left)) in
          let after = u_at links sound plan evened known.plan_is sized kept k within in
          before ∙ by_next k
          (λ j e. omega (arith, root_at, left_at k within, left_linked k j e))
          (λ e.
          let low = subst (NextKept links drops k) e (passed k within).next_kept in
          omega (arith, root_at, left_at k within, left_alone k e, low)) ∙ sym after

      v_same : (k : ℕ) → k < n → at (potentials_by drops).v k ≡ at (potentials_by evened).v k
      v_same k within =
          let before = get_or-map (λ right. right - drops.root) drops.right k 0 0
          (omega (arith, within, known.over.right)) in
          let after = v_at links sound plan evened known.plan_is sized kept k within in
          before ∙ by_before k
          (λ e. omega (arith, root_at, right_at k within, right_linked k e))
          (λ e.
          let low = subst (RootKept drops k) e (passed k within).root_kept in
          omega (arith, root_at, right_at k within, right_alone k e, low)) ∙ sym after

  pub passed_valid : AreValid links plan (potentials_by drops)
  passed_valid = subst (AreValid links plan) (sym same)
      (kept_valid links sound plan evened known.plan_is sized kept)

  -- ---- least costs

  base_least : IsLeastCost links plan root (neg_ℤ (pos evened.root))
  base_least = least_of links sound plan evened known.plan_is sized kept root (known.found root).0
      ((known.found root).1 ∙ ap (λ k. Some (neg_ℤ (pos k))) (sym root_at))

  left_least : (i : ℕ) → i < n → IsLeastCost links plan (left i) (neg_ℤ (pos (get_or evened.left i 0)))
  left_least i within = by_next i
      (λ j e. least_of links sound plan evened known.plan_is sized kept (left i) (known.found (left i)).0
      ((known.found (left i)).1
      ∙ ap (λ k. Some (neg_ℤ (pos k))) (sym (left_linked i j e) ∙ sym (left_at i within))))
      (λ e.
      let over : arc links plan root (left i) ≡ Some (pos 0) =
      ap (λ b. free_arc (b && not (is_some (next plan i)))) (lt-ltb i n within)
      ∙ ap (λ it. free_arc (not (is_some it))) e in
      let number : (neg_ℤ (pos drops.root) +ℤ pos 0) ≡ neg_ℤ (pos (get_or evened.left i 0)) =
      omega (arith, ints, left_at i within, left_alone i e) in
      least_of links sound plan evened known.plan_is sized kept (left i) (root ∷ (known.found root).0)
      (joined (arc links plan root (left i)) (walk_cost links plan root (known.found root).0)
      (pos 0) (neg_ℤ (pos drops.root)) over (known.found root).1 ∙ ap Some number))

  abbrev RightTold : ℕ → Type 0
  RightTold j = (cost : ℤ) × (IsLeastCost links plan (right j) cost
      × (pos (at (potentials_by evened).v j) ≡ int_max (pos 0) (neg_ℤ (pos evened.root) -ℤ cost)))

  right_told : (j : ℕ) → j < n → RightTold j
  right_told j within = by_before j
      (λ e. (
        neg_ℤ (pos (get_or evened.right j 0)),
        (
          least_of links sound plan evened known.plan_is sized kept (right j) (known.found (right j)).0
              ((known.found (right j)).1
              ∙ ap (λ k. Some (neg_ℤ (pos k))) (sym (right_linked j e) ∙ sym (right_at j within))),
          ap pos (v_at links sound plan evened known.plan_is sized kept j within)
              ∙ greater (get_or evened.right j 0) evened.root,
        ),
      ))
      (λ e.
      let least = (canonical_is links sound plan known.certified.0 known.plan_is known.certified.1).v j within in
      let over : arc links plan (right j) root ≡ Some (pos 0) =
      ap (λ b. free_arc (b && not (is_next plan j))) (lt-ltb j n within)
      ∙ ap (λ b. free_arc (not b)) e in
      let low : neg_ℤ (pos evened.root) ≤ℤ (least.0 +ℤ pos 0) =
      base_least.least (right j ∷ least.1.0.walk) (least.0 +ℤ pos 0)
      (joined (arc links plan (right j) root) (walk_cost links plan (right j) least.1.0.walk)
      (pos 0) least.0 over least.1.0.has_it) in (
        least.0,
        (
          least.1.0,
          omega (
            arith,
            ints,
            low,
            v_at links sound plan evened known.plan_is sized kept j within,
            root_at,
            right_at j within,
            right_alone j e,
            int_max_is (pos 0) (neg_ℤ (pos evened.root) -ℤ least.0),
          ),
        ),
      ))

  pub passed_canonical : AreCanonical links plan (potentials_by drops)
  passed_canonical = subst (AreCanonical links plan) (sym same) (record {
    over = over_all links sound plan evened known.plan_is sized kept;
    base = neg_ℤ (pos evened.root);
    base_least = base_least;
    u = λ i within. (
      neg_ℤ (pos (get_or evened.left i 0)),
      (
        left_least i within,
        ap pos (u_at links sound plan evened known.plan_is sized kept i within)
            ∙ greater evened.root (get_or evened.left i 0),
      ),
    );
    v = right_told;
  })

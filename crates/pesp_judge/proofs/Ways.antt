-- Ways from the root of a tree: what waits, and what is left.
use Rattle.plan_num.proofs.Common.{◌≡◌, ℕ, ℤ, pos, ◌+◌, ◌-◌, ◌<◌, ◌≤◌, ◌+ℤ◌, ◌≤ℤ◌, ◌⊎◌, inl, inr, List, []}
use Rattle.plan_num.proofs.Common.{◌∷◌, ◌++◌, length, take, get_or, sym, subst, arith}
use Rattle.plan_num.proofs.Common.{take_more, true, false, true≢false, All-cons, All-nil, All-head, All-tail, ⊎_elim, ◌∙◌, set, length-take, ap}
use Rattle.plan_num.proofs.Common.{get_or-take, get_or_default}
use Rattle.std.proofs.Math.Seq.{set-append_seam}
use Rattle.std.proofs.Common.{◌*ℤ◌}
use Rattle.pesp_judge.specs.declared.step.Step.{Step}
use Rattle.pesp_judge.specs.declared.region.Split.{Split}
use Rattle.pesp_judge.specs.Regions.{IsLeft, LiesInPart, Waits, taken}

abbrev pub no_split : Split
no_split = record { cycle = 0; least = false; periods = pos 0 }

module _ (period : ℕ) (cycles : List (List Step)) (slacks : List ℤ) where
  -- nothing waits at a split in whose second part one is
  pub waits_before : (path : List Split) (split : Split) → split.least ≡ true
      → Waits period cycles slacks (path ++ split ∷ []) → Waits period cycles slacks path
  unfolding Waits
  waits_before [] split second (inl at) = absurd (true≢false (sym second ∙ at.0))
  waits_before [] split second (inr none) = none.1
  waits_before (first ∷ more) split second (inl at) = inl at
  waits_before (first ∷ more) split second (inr later) =
      inr (later.0, waits_before more split second later.1)

  pub waits_less : (path : List Split) (kept : ℕ) → 0 < kept → kept ≤ length path
      → (get_or path (kept - 1) no_split).least ≡ true
      → Waits period cycles slacks (take kept path)
      → Waits period cycles slacks (take (kept - 1) path)
  waits_less path kept some within second waits =
      let more = take_more path (kept - 1) no_split (omega (arith, some, within)) in
      let same : kept - 1 + 1 ≡ kept = omega (arith, some) in
      waits_before (take (kept - 1) path) (get_or path (kept - 1) no_split) second
      (subst (Waits period cycles slacks) more
      (subst (λ n. Waits period cycles slacks (take n path)) (sym same) waits))

  -- into the second part of the last split
  pub second_left : (path : List Split) (split next : Split) → split.least ≡ false
      → next.cycle ≡ split.cycle → next.least ≡ true → next.periods ≡ split.periods +ℤ pos 1
      → Waits period cycles slacks (path ++ split ∷ [])
      → IsLeft period cycles slacks (path ++ next ∷ [])
  unfolding Waits
  second_left [] split next first same second more (inl at) =
      inl (All-cons (LiesInPart period cycles slacks) next [] (there at.1) (All-nil (LiesInPart period cycles slacks)))
    where
      there : (pos period *ℤ (split.periods +ℤ pos 1)) ≤ℤ taken cycles slacks split
          → LiesInPart period cycles slacks next
      there least = rw (second) (rw (same) (rw (more) least))
  second_left [] split next first same second more (inr none) = absurd none.1
  second_left (one ∷ path) split next first same second more (inl at) = inr (inl at)
  second_left (one ∷ path) split next first same second more (inr later) =
      ⊎_elim
      (λ all. inl (All-cons (LiesInPart period cycles slacks) one (path ++ next ∷ []) later.0 all))
      (λ waits. inr (inr (later.0, waits)))
      (second_left path split next first same second more later.1)

  -- a split puts what lies in a region into one of two parts
  pub split_left : (path : List Split) (split : Split) → split.least ≡ false
      → (taken cycles slacks split ≤ℤ (pos period *ℤ split.periods))
      ⊎ ((pos period *ℤ (split.periods +ℤ pos 1)) ≤ℤ taken cycles slacks split)
      → IsLeft period cycles slacks path → IsLeft period cycles slacks (path ++ split ∷ [])
  unfolding Waits
  split_left [] split first parts (inr none) = absurd none
  split_left [] split first (inl less) (inl all) =
      inl (All-cons (LiesInPart period cycles slacks) split [] (rw (first) less) (All-nil (LiesInPart period cycles slacks)))
  split_left [] split first (inr more) (inl all) = inr (inl (first, more))
  split_left (one ∷ path) split first parts (inl all) =
      ⊎_elim
      (λ all'. inl (All-cons (LiesInPart period cycles slacks) one (path ++ split ∷ []) (All-head (LiesInPart period cycles slacks) one path all) all'))
      (λ waits. inr (inr (All-head (LiesInPart period cycles slacks) one path all, waits)))
      (split_left path split first parts (inl (All-tail (LiesInPart period cycles slacks) one path all)))
  split_left (one ∷ path) split first parts (inr (inl at)) = inr (inl at)
  split_left (one ∷ path) split first parts (inr (inr later)) =
      ⊎_elim
      (λ all'. inl (All-cons (LiesInPart period cycles slacks) one (path ++ split ∷ []) later.0 all'))
      (λ waits. inr (inr (later.0, waits)))
      (split_left path split first parts (inr later.1))

  -- nothing waits on a way without a split
  pub waits_none : Waits period cycles slacks [] → ⊥
  unfolding Waits
  waits_none none = none

  -- into the second part of the last split that is kept
  pub second_of_kept : (path : List Split) (kept : ℕ) (next : Split) → 0 < kept
      → kept ≤ length path → (get_or path (kept - 1) no_split).least ≡ false
      → next.cycle ≡ (get_or path (kept - 1) no_split).cycle → next.least ≡ true
      → next.periods ≡ (get_or path (kept - 1) no_split).periods +ℤ pos 1
      → Waits period cycles slacks (take kept path)
      → IsLeft period cycles slacks (set (take kept path) (kept - 1) next)
  second_of_kept path kept next some within first same second more waits =
      let front = take (kept - 1) path in
      let split = get_or path (kept - 1) no_split in
      let whole : take kept path ≡ front ++ split ∷ [] =
      subst (λ n. take n path ≡ front ++ split ∷ []) (omega (arith, some))
      (take_more path (kept - 1) no_split (omega (arith, some, within))) in
      let size : length front ≡ kept - 1 =
      let size = length-take (kept - 1) path in omega (arith, size, within) in
      let placed : set (take kept path) (kept - 1) next ≡ front ++ next ∷ [] =
      rw (whole) (subst (λ n. set (front ++ split ∷ []) n next ≡ front ++ next ∷ []) size
      (set-append_seam front split [] next)) in
      subst (IsLeft period cycles slacks) (sym placed)
      (second_left front split next first same second more
      (subst (Waits period cycles slacks) whole waits))

-- the last split that is kept, read among those that are kept
pub last_kept : (path kept_path : List Split) (kept : ℕ) (split : Split) → 0 < kept
    → kept ≤ length path → kept_path ≡ take kept path → split ≡ get_or kept_path (kept - 1) split
    → split ≡ get_or path (kept - 1) no_split
last_kept path kept_path kept split some within is at =
    at ∙ ap (λ front. get_or front (kept - 1) split) is
    ∙ get_or-take kept path (kept - 1) split (omega (arith, some))
    ∙ get_or_default path (kept - 1) split no_split (omega (arith, some, within))

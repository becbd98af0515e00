-- Regions that are left: at the root, after a split, and when none is left.
use Rattle.plan_num.proofs.Common.{◌≡◌, ℕ, ℤ, pos, ◌<◌, ◌+ℤ◌, ◌≤ℤ◌, ◌<ℤ◌, ◌⊎◌, inl, inr, List, []}
use Rattle.plan_num.proofs.Common.{◌∷◌, ◌++◌, length, get_or, false, All-nil, All-get_or, arith}
use Rattle.plan_num.proofs.Common.{ints, sym, subst, length-map, All-map}
use Rattle.std.proofs.Common.{◌*ℤ◌}
use Rattle.std.proofs.lemmas.Int.{by_lt_z}
use Rattle.pesp.specs.Timetables.{IsTimetable}
use Rattle.pesp_judge.specs.declared.cycle.Cycle.{Cycle}
use Rattle.pesp_judge.specs.declared.region.Split.{Split}
use Rattle.pesp_judge.specs.Weighted.{WeightedProblem, IsBound, IsWeighted, problem_of, weighted_slack}
use Rattle.pesp_judge.specs.Cycles.{IsCycle, around, slacks_of}
use Rattle.pesp_judge.specs.Regions.{LiesInPart}
use Rattle.pesp_judge.specs.Trees.{AreCycles, AreLeft, steps_of}
use Rattle.pesp_judge.proofs.Products.{grows}
use Rattle.pesp_judge.proofs.Timetabled.{turns}
use Rattle.pesp_judge.proofs.Ways.{split_left}

-- whole periods are so many at most, or one more at least
parts : (period : ℕ) (q most whole : ℤ) → whole ≡ pos period *ℤ q
    → (whole ≤ℤ (pos period *ℤ most)) ⊎ ((pos period *ℤ (most +ℤ pos 1)) ≤ℤ whole)
parts period q most whole is =
    by_lt_z most q
    (λ more. inr (subst (λ z. (pos period *ℤ (most +ℤ pos 1)) ≤ℤ z) (sym is)
    (grows (pos period) (most +ℤ pos 1) q (omega (arith, ints)) (omega (arith, ints, more)))))
    (λ less. inl (subst (λ z. z ≤ℤ (pos period *ℤ most)) (sym is)
    (grows (pos period) q most (omega (arith, ints)) less)))

module _ (weighted : WeightedProblem) (cycles : List Cycle) (claim : ℤ) where
  pub left_at_root : AreLeft weighted cycles [] claim
  left_at_root times timetable less =
      inl (All-nil (LiesInPart weighted.period (steps_of cycles) (slacks_of weighted times)))

  -- a split leaves nothing out
  pub left_in_parts : IsWeighted weighted → AreCycles weighted cycles → (path : List Split)
      (split : Split) → split.cycle < length cycles → split.least ≡ false
      → AreLeft weighted cycles path claim → AreLeft weighted cycles (path ++ split ∷ []) claim
  left_in_parts is are path split some first left times timetable less =
      let slacks = slacks_of weighted times in
      let steps = get_or (steps_of cycles) split.cycle [] in
      let here : split.cycle < length (steps_of cycles) =
      subst (λ n. split.cycle < n) (sym (length-map cycles (λ cycle. cycle.steps.items))) some in
      let cycle : IsCycle weighted steps =
      All-get_or (IsCycle weighted) (steps_of cycles) split.cycle [] here
      (All-map (IsCycle weighted) (λ cycle. cycle.steps.items) cycles are) in
      let whole = turns weighted is times timetable steps cycle in
      split_left weighted.period (steps_of cycles) slacks path split first
      (parts weighted.period whole.0 split.periods (around slacks steps) whole.1)
      (left times timetable less)

  -- where none is left no timetable costs less
  pub none_left : ((times : List ℕ) → IsTimetable (problem_of weighted) times
      → weighted_slack weighted times <ℤ claim → ⊥) → IsBound weighted claim
  none_left none times timetable =
      by_lt_z (weighted_slack weighted times) claim
      (λ less. absurd (none times timetable less)) (λ enough. enough)

-- One link more of a pass.
use Rattle.plan_num.proofs.Common.{◌≡◌, ℕ, ◌+◌, ◌*◌, ◌<◌, ◌≤◌, Bool, true, false, List, length}
use Rattle.plan_num.proofs.Common.{drop, get_or, All, arith, ◌⊎◌, inl, inr, drop_more, All-set}
use Rattle.propagation.specs.declared.links.Link.{Link}
use Rattle.propagation.specs.declared.step.Step.{Step}
use Rattle.propagation.specs.LeastTimes.{asked, later, time_at}
use Rattle.propagation.specs.Links.{counts, head_pushed, pushed_along}
use Rattle.propagation.specs.Problems.{minutes}
use Rattle.propagation.proofs.Later.{later_is}

module _ (kept : List Bool) (links : List Link) (times : List ℕ) (i : ℕ) (d : Link)
    (inside : i < length links) where
  abbrev at : Link
  at = get_or links i d

  pub link_counts : counts kept at.change ≡ true
      → pushed_along kept (drop (i + 1) links) (head_pushed times at.step)
      ≡ pushed_along kept (drop i links) times
  link_counts there = grind (arith, drop_more)

  pub link_passed : counts kept at.change ≡ false
      → pushed_along kept (drop (i + 1) links) times ≡ pushed_along kept (drop i links) times
  link_passed out = grind (arith, drop_more)

-- a later bound
pub still_soon : (i : ℕ) (times : List ℕ) → All (λ time. time ≤ 8589934590 + i * 8589934590) times
    → All (λ time. time ≤ 8589934590 + (i + 1) * 8589934590) times
still_soon i times soon k d within = let now = soon k d within in omega (arith, now)

pub head_soon : (i : ℕ) (times : List ℕ) (step : Step) → minutes step ≤ 8589934590
    → step.from < length times → step.to < length times
    → All (λ time. time ≤ 8589934590 + i * 8589934590) times
    → All (λ time. time ≤ 8589934590 + (i + 1) * 8589934590) (head_pushed times step)
head_soon i times step short from to soon =
    let first = soon step.from 0 from in
    let old = soon step.to 0 to in
    let new = later_is (time_at times step.to) (asked times step) in
    All-set (λ time. time ≤ 8589934590 + (i + 1) * 8589934590) times step.to _
    (by new.one first old) (still_soon i times soon)
  where
    by : (later (time_at times step.to) (asked times step) ≡ time_at times step.to)
        ⊎ (later (time_at times step.to) (asked times step) ≡ asked times step)
        → time_at times step.from ≤ 8589934590 + i * 8589934590
        → time_at times step.to ≤ 8589934590 + i * 8589934590
        → later (time_at times step.to) (asked times step) ≤ 8589934590 + (i + 1) * 8589934590
    by (inl is) first old = omega (arith, is, old)
    by (inr is) first old = omega (arith, is, first, short)

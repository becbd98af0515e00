-- What waits does so up to the splits that are kept.
use Rattle.plan_num.proofs.Common.{ℕ, ℤ, ◌≤◌, List, length, take}
use Rattle.pesp_judge.specs.declared.step.Step.{Step}
use Rattle.pesp_judge.specs.Regions.{Waits}
use Rattle.pesp_judge.proofs.region.waiting.Given as goal

abbrev pub invariant-splits : goal.invariant-splits
invariant-splits l =
    record {
      within : l.kept ≤ length l.path;
      left : (period : ℕ) (cycles : List (List Step)) (slacks : List ℤ)
          → Waits period cycles slacks l.path → Waits period cycles slacks (take l.kept l.path);
    }

abbrev pub decreases-splits : goal.decreases-splits
decreases-splits l = l.kept

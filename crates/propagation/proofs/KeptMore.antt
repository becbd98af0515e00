-- Times grow with the set of changes that is kept.
use Rattle.plan_num.proofs.Common.{ℕ, Bool, List, All, Contains, All-contains_itself}
use Rattle.propagation.specs.LeastTimes.{IsLeast}
use Rattle.propagation.specs.Problems.{DelayProblem}
use Rattle.propagation.specs.Waiting.{GrowWithKept, KeepsAll, chosen_changes}
use Rattle.propagation.proofs.PassIsLeast.{all_chosen, chosen_all}
use Rattle.propagation.proofs.Rounds.{times_grow}

-- the changes of a set are among those of one that keeps all of it
kept_among : (problem : DelayProblem) (kept fewer : List Bool) → KeepsAll kept fewer
    → All (λ change. Contains (chosen_changes problem kept) change) (chosen_changes problem fewer)
kept_among problem kept fewer keeps =
    let there = Contains (chosen_changes problem kept) in
    chosen_all there fewer problem.changes
    (λ k d inside is. all_chosen there kept problem.changes (All-contains_itself (chosen_changes problem kept)) k d
    inside (keeps k is))

pub grow_with_kept : (problem : DelayProblem) (kept : List Bool) (times : List ℕ)
    → IsLeast problem (chosen_changes problem kept) times → GrowWithKept problem kept times
grow_with_kept problem kept times least fewer others keeps less event inside =
    times_grow problem (chosen_changes problem fewer) (chosen_changes problem kept) others times
    (kept_among problem kept fewer keeps) less least event inside

use Rattle.plan_num.proofs.Common.{ℕ, ◌∷◌, ◌≤◌, List, All, map, subst, IsPermutation}
use Rattle.plan_num.proofs.Common.{IsPermutation-map}
use Rattle.std.specs.declared.cmp.Reverse.{Reverse}
use Rattle.walks.proofs.LeastFirst.{least_sum_first}
use Rattle.walks.proofs.frontier.Frontier.pop.Goals as goal

pub returns-clause-least : goal.returns-clause-least
returns-clause-least c =
    let entry = c.in_ok-walk.field-0 in
    subst (λ (walks : List (ℕ × ℕ)). All (λ (other : ℕ × ℕ). entry.0.0 ≤ other.0) walks)
    c.self.view_is
    (least_sum_first entry _ (c.in_ok-walk.ensures.heap_order c.self.invariant).1)

pub returns-clause-rest : goal.returns-clause-rest
returns-clause-rest c =
    let walk : Reverse (ℕ × ℕ) → ℕ × ℕ = λ entry. entry.0 in
    let left = map walk c.pop.new.self.data.items in
    subst (λ (walks : List (ℕ × ℕ)). IsPermutation walks (c.in_ok-walk.field-0.0 ∷ left))
    c.self.view_is
    (IsPermutation-map walk _ _ c.in_ok-walk.ensures.permutation)

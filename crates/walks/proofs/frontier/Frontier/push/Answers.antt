use Rattle.plan_num.proofs.Common.{ℕ, ◌∷◌, List, map, subst, IsPermutation, IsPermutation-map}
use Rattle.std.specs.declared.cmp.Reverse.{Reverse}
use Rattle.walks.proofs.frontier.Frontier.push.Goals as goal

pub returns-clause-more : goal.returns-clause-more
returns-clause-more c =
    let walk : Reverse (ℕ × ℕ) → ℕ × ℕ = λ entry. entry.0 in
    let all = map walk c.push.new.self.data.items in
    subst (λ (walks : List (ℕ × ℕ)). IsPermutation ((c.args.sum, c.args.stop) ∷ walks) all)
    c.self.view_is
    (IsPermutation-map walk _ _ c.in_ok-push.ensures.permutation)

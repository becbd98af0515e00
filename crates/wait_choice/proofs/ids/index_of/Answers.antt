use Rattle.plan_num.proofs.Common.{◌≡◌, ◌<◌, ◌≤◌, ℕ, length, get_or, MatchResult, subst, searched}
use Rattle.wait_choice.proofs.ListItems.{found_at, never_falls, not_there}
use Rattle.wait_choice.proofs.ids.index_of.Goals as goal

pub returns-in-Ok : goal.returns-in-Ok
returns-in-Ok c =
    let ids = c.args.ids.now in
    let at = subst (λ r. MatchResult r (λ i. (i < length ids) × (get_or ids i 0 ≡ c.args.id))
    (λ i. (i ≤ length ids) × ((k : ℕ) → k < i → get_or ids k 0 < c.args.id)
    × ((k : ℕ) → i ≤ k → k < length ids → c.args.id < get_or ids k 0))) c.in-Ok.is
    (searched ids c.args.id c.binary_search.result c.binary_search.ensures.position
    (never_falls ids c.requires c.args.id)) in
    found_at ids c.requires c.args.id c.in-Ok.index at.0 at.1

pub returns-in-Err : goal.returns-in-Err
returns-in-Err c =
    let ids = c.args.ids.now in
    let at = subst (λ r. MatchResult r (λ i. (i < length ids) × (get_or ids i 0 ≡ c.args.id))
    (λ i. (i ≤ length ids) × ((k : ℕ) → k < i → get_or ids k 0 < c.args.id)
    × ((k : ℕ) → i ≤ k → k < length ids → c.args.id < get_or ids k 0))) c.in-Err.is
    (searched ids c.args.id c.binary_search.result c.binary_search.ensures.position
    (never_falls ids c.requires c.args.id)) in
    not_there ids c.requires c.args.id c.in-Err.field-0 at.1 at.2

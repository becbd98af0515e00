use Rattle.plan_num.proofs.Common.{◌≡◌, ◌<◌, ◌≢◌, ℕ, List, length, get_or, set, ap, sym, subst, ◌∙◌}
use Rattle.plan_num.proofs.Common.{arith, get_or_default, length_permutation}
use Rattle.walks.specs.declared.label.Label.{Label}
use Rattle.walks.specs.declared.label.Label.TheVariants.{Unseen, Reached, Settled}
use Rattle.walks.specs.Labels.{label_at, is_reached_with, IsNearest}
use Rattle.walks.proofs.GoingOn.{stop_within, pass_goes_on, settle_goes_on, nearest_is, none_left}
use Rattle.walks.proofs.labels.Labels.settle_nearest.Goals as goal

-- the label that was read
read : (labels : List Label) (stop : ℕ) (found : Label) → stop < length labels
    → found ≡ get_or labels stop found → label_at labels stop ≡ found
read labels stop found here is = get_or_default labels stop Unseen found here ∙ sym is

pub index-requires : goal.index-requires
index-requires c =
    let labels = c.loop-sum.self-inside.labels in
    let here = stop_within labels.items c.loop-sum.self-inside.frontier c.pop.new.self
    c.in-Some.stop c.in-Some.sum c.loop-sum.invariant.goes c.in-Some.ensures.rest in
    omega (arith, here, labels.ok)

pub index_mut-requires : goal.index_mut-requires
index_mut-requires c =
    let labels = c.loop-sum.self-inside.labels in
    let here = stop_within labels.items c.loop-sum.self-inside.frontier c.pop.new.self
    c.in-Some.stop c.in-Some.sum c.loop-sum.invariant.goes c.in-Some.ensures.rest in
    omega (arith, here, labels.ok)

pub invariant_of-self : goal.invariant_of-self
invariant_of-self c =
    settle_goes_on c.loop-sum.self-inside.labels.items c.loop-sum.self-inside.frontier
    c.pop.new.self c.in-Some.stop c.in-Some.sum c.loop-sum.invariant.goes c.in-Some.ensures.rest

pub returns-then-is_reached_with-clause-nearest : goal.returns-then-is_reached_with-clause-nearest
returns-then-is_reached_with-clause-nearest c =
    let labels = c.loop-sum.self-inside.labels.items in
    let walks = c.loop-sum.self-inside.frontier in
    let so_far = c.loop-sum.invariant.goes in
    let here = stop_within labels walks c.pop.new.self c.in-Some.stop c.in-Some.sum so_far
    c.in-Some.ensures.rest in
    let test = ap (is_reached_with c.in-Some.sum)
    (read labels c.in-Some.stop c.index.result.now here c.index.ensures)
    ∙ sym c.is_reached_with.ensures ∙ c.if-is_reached_with.true in
    subst (λ (some : List Label). IsNearest some (length some) c.in-Some.stop c.in-Some.sum)
    c.loop-sum.invariant.same
    (nearest_is labels walks c.pop.new.self c.in-Some.stop c.in-Some.sum so_far
    c.in-Some.ensures.rest test c.in-Some.ensures.least)

pub returns-then-is_reached_with-clause-settled : goal.returns-then-is_reached_with-clause-settled
returns-then-is_reached_with-clause-settled c =
    ap (λ (labels : List Label). set labels c.in-Some.stop (Settled c.in-Some.sum))
    c.loop-sum.invariant.same

pub loop-sum-smaller : goal.loop-sum-smaller
loop-sum-smaller c =
    let one_less = length_permutation c.loop-sum.self-inside.frontier _ c.in-Some.ensures.rest in
    omega (arith, one_less)

pub loop-sum-preserved : goal.loop-sum-preserved
loop-sum-preserved c = record {
  same = c.loop-sum.invariant.same;
  goes =
      let labels = c.loop-sum.self-inside.labels.items in
      let walks = c.loop-sum.self-inside.frontier in
      let so_far = c.loop-sum.invariant.goes in
      let here = stop_within labels walks c.pop.new.self c.in-Some.stop c.in-Some.sum so_far
      c.in-Some.ensures.rest in
      let test = ap (is_reached_with c.in-Some.sum)
      (read labels c.in-Some.stop c.index.result.now here c.index.ensures)
      ∙ sym c.is_reached_with.ensures ∙ c.if-is_reached_with.false in
      pass_goes_on labels walks c.pop.new.self c.in-Some.stop c.in-Some.sum so_far
      c.in-Some.ensures.rest test;
}

pub returns-clause-nearest : goal.returns-clause-nearest
returns-clause-nearest c =
    subst (λ (labels : List Label). (other far : ℕ) → other < length labels
    → label_at labels other ≢ Reached far) c.loop-sum.invariant.same
    (none_left c.loop-sum.self-inside.labels.items c.loop-sum.self-inside.frontier
    c.loop-sum.invariant.goes c.in_default.ensures.none)

use Rattle.plan_num.proofs.Common.{sym, ◌∙◌, ap, subst, list_any, IsPermutation}
use Rattle.plan_num.proofs.Common.{list_any-IsPermutation}
use Rattle.pool_maker.proofs.SortedIds.{sorted_rise}
use Rattle.pool_maker.proofs.terminals.sorted.Goals as goal

pub returns-clause-rising : goal.returns-clause-rising
returns-clause-rising c =
    sorted_rise c.args.ids.now c.sort.new.self.items c.requires
    (subst (λ ids. IsPermutation ids c.sort.new.self.items) c.in_ok-sorted.ensures.items
    c.in_ok-sort.ensures.permutation)
    c.in_ok-sort.ensures.sorted

pub returns-clause-same : goal.returns-clause-same
returns-clause-same c = λ p.
    sym (list_any-IsPermutation p c.in_ok-sorted.sorted.items c.sort.new.self.items
    c.in_ok-sort.ensures.permutation)
    ∙ ap (list_any p) c.in_ok-sorted.ensures.items

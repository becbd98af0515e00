-- The rest of the list decides.
use Rattle.plan_num.proofs.Common.{◌≡◌, drop}
use Rattle.link_plans.specs.CheckedLists.{is_list}
use Rattle.link_plans.proofs.checked_lists.is_list.Given as goal

abbrev pub invariant-loop-link : goal.invariant-loop-link
invariant-loop-link l = is_list l.count 0 l.row ≡ is_list l.count l.from (drop l.link-index l.row)

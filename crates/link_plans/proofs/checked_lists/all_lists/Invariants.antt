-- The rest of the lists decides.
use Rattle.plan_num.proofs.Common.{◌≡◌, drop, map, list_all}
use Rattle.link_plans.specs.CheckedLists.{is_list}
use Rattle.link_plans.proofs.checked_lists.all_lists.Given as goal

abbrev pub invariant-loop-row : goal.invariant-loop-row
invariant-loop-row l = list_all (is_list l.count 0) (map (λ row. row.items) l.rows)
    ≡ list_all (is_list l.count 0) (map (λ row. row.items) (drop l.row-index l.rows))

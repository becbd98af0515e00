use Rattle.plan_num.proofs.Common.{ap, ◌∙◌, ◌++◌}
use Rattle.bit_rows.specs.Bits.{common}
use Rattle.assignment.proofs.Claimables.{common_places}
use Rattle.assignment.proofs.claimable.claimable_of.Goals as goal

pub returns : goal.returns
returns c = common_places c.args.rows.now c.args.row c.args.places.now c.push_common.new.found.items
    (c.in_ok-push_common.ensures
    ∙ ap (λ found. found ++ common c.args.rows.now c.args.row c.args.places.now 0)
    c.new-found.ensures.items)

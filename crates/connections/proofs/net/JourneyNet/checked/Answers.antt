use Rattle.plan_num.proofs.Common.{◌∙◌, sym}
use Rattle.connections.specs.RankedNets.{is_ranked, parts_of}
use Rattle.connections.proofs.RankedParts.{passed_ranked}
use Rattle.connections.proofs.net.JourneyNet.checked.Goals as goal

pub of_parts-requires : goal.of_parts-requires
of_parts-requires c =
    let ranks = c.args.ranks.now in
    passed_ranked (parts_of c.args.events.items c.args.connections.items) ranks
    ((λ i. is_ranked (parts_of (sym c.deref.ensures.value i) (sym c.deref-2.ensures.value i)) ranks)
    ∙ sym c.is_ranked.ensures ∙ c.if-is_ranked.true)

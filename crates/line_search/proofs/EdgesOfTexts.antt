-- The ids of the edges of a network that texts give.
use Rattle.plan_num.proofs.Common.{◌≡◌, ℕ, List, [], All, All-weaker}
use Rattle.walks.specs.declared.edge.Edge.{Edge}
use Rattle.ptn_network.specs.Networks.{network_faults, network_of}
use Rattle.line_walks.proofs.EdgesOfTexts.{HasId}
use Rattle.line_walks.proofs.EdgesOfTexts as texts
use Rattle.line_cost_model.proofs.Common.{IsId}

-- each is one
pub edge_ids : (stops_text edges_text : List ℕ) → network_faults stops_text edges_text ≡ []
    → All (λ (edge : Edge). IsId edge.id) (network_of stops_text edges_text).edges
edge_ids stops_text edges_text none =
    All-weaker HasId (λ (edge : Edge). IsId edge.id)
    (λ edge own. record { low = own.0; high = own.1 }) (network_of stops_text edges_text).edges
    (texts.edge_ids stops_text edges_text none)

use Rattle.walks_tests.proofs.Around.{is_network}
use Rattle.walks_tests.proofs.round.edges_around.Goals as goal

pub returns-clause-network : goal.returns-clause-network
returns-clause-network c = rw (
  c.in_ok-insert-4.ensures.entries,
  c.in_ok-insert-3.ensures.entries,
  c.in_ok-insert-2.ensures.entries,
  c.in_ok-insert.ensures.entries,
  c.new-edges.ensures.empty,
  c.edge.ensures,
  c.edge-2.ensures,
  c.edge-3.ensures,
  c.edge-4.ensures,
)
    is_network

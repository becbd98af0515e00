use Rattle.plan_num.proofs.Common.{ap, ◌∙◌}
use Rattle.walks.proofs.Common.{by_id, sorted_entries}
use Rattle.ptn_network.proofs.edges.read_edges.Goals as goal

pub returns : goal.returns
returns c =
    let read = c.in_ok-edges.ensures in
    let sorted = c.in_ok-sort_keys.ensures in (
      read.0,
      sorted_entries c.sort_keys.new.self.entries c.in_ok-edges.edges.entries sorted.sorted
          sorted.unique sorted.reordered.2 ∙ ap by_id read.1,
    )

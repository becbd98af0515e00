use Rattle.pesp.proofs.Classed.{shift_at}
use Rattle.pesp.proofs.Closing.{close_propagates, closed_bound, closed_result}
use Rattle.pesp.proofs.Linked.{links_at}
use Rattle.pesp.proofs.reduce.visit.Goals as goal

pub returns-then-branch-clause-visits : goal.returns-then-branch-clause-visits
returns-then-branch-clause-visits c =
    let problem = c.args.pesp.now in
    let later = shift_at problem c.args.graph.now.shifts.items c.requires.graph.shifts
    c.args.event c.index.result.now c.requires.event c.index.ensures in
    record {
      propagates = close_propagates problem c.args.sets.now c.close.new.sets c.args.event
          c.index.result.now c.in_ok-close.ensures.closes c.requires.period later;
      empty = c.in_ok-close.ensures.empty c.if-branch.true;
    }

pub visit_links-requires-clause-links : goal.visit_links-requires-clause-links
visit_links-requires-clause-links c =
    links_at c.args.pesp.now c.args.event c.args.graph.now.links c.at.result.now
    c.requires.graph.links c.at.ensures

pub visit_links-requires-clause-revised : goal.visit_links-requires-clause-revised
visit_links-requires-clause-revised c =
    closed_bound c.args.pesp.now c.args.sets.now c.close.new.sets c.args.event c.index.result.now
    c.in_ok-close.ensures.closes c.args.changed.now c.requires.flag c.requires.revised

pub returns-clause-visits : goal.returns-clause-visits
returns-clause-visits c =
    let problem = c.args.pesp.now in
    let later = shift_at problem c.args.graph.now.shifts.items c.requires.graph.shifts
    c.args.event c.index.result.now c.requires.event c.index.ensures in
    closed_result problem c.args.sets.now c.close.new.sets c.args.event c.index.result.now
    c.in_ok-close.ensures.closes
    (close_propagates problem c.args.sets.now c.close.new.sets c.args.event c.index.result.now
    c.in_ok-close.ensures.closes c.requires.period later)
    c.visit_links.new.sets c.args.changed.now c.visit_links.new.changed
    (c.in_ok-close.ensures.full c.if-branch.false) c.visit_links.result c.visit_links.ensures.visits

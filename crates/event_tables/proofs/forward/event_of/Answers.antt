use Rattle.plan_num.proofs.Common.{length, arith}
use Rattle.event_tables.proofs.Numbering.{is_place, find_numbered}
use Rattle.event_tables.proofs.forward.event_of.Goals as goal

pub overflow_sub-result : goal.overflow_sub-result
overflow_sub-result c = (is_place (length c.args.events.now) c.args.id c.requires.known).0

pub bounds-events-id : goal.bounds-events-id
bounds-events-id c = let one = is_place (length c.args.events.now) c.args.id c.requires.known in omega (arith, one.0, one.1)

pub returns : goal.returns
returns c = find_numbered
    (λ event. event.id) c.args.id c.args.events.now _ c.requires.numbered
    (is_place (length c.args.events.now) c.args.id c.requires.known)

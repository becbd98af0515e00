use Rattle.plan_num.proofs.Common.{◌≡◌, ◌<◌, [], length, get_or, ap, sym, ◌∙◌, arith, map-set}
use Rattle.plan_num.proofs.Common.{get_or-map, length-map, length-set}
use Rattle.demand_paths.specs.Wanted.{everyone}
use Rattle.demand_paths.proofs.WantedLists.{list_set, one_more, more_fits}
use Rattle.demand_paths.proofs.wanted.Wanted.add.Goals as goal

pub add_at-requires-clause-room : goal.add_at-requires-clause-room
add_at-requires-clause-room c =
    let from = c.args.from in
    let rows = c.self.inside.by_source.items in
    let own = c.in_ok-start.ensures in
    let size = ap length c.self.view_is in
    let h : from < length rows = omega (
      arith,
      size,
      length-map rows (λ customers. customers.items),
      own.wanted.size,
      c.requires.from,
    ) in
    let old : c.index_mut.result.now.items ≡ get_or c.start.new.self from [] =
    ap (λ customers. customers.items) c.index_mut.ensures.value
    ∙ sym (get_or-map (λ customers. customers.items) rows from c.index_mut.result.now [] h)
    ∙ ap (λ lists. get_or lists from []) c.self.view_is in
    let same = own.same (λ _. everyone) in
    more_fits c.args.network.now c.start.new.self from own.wanted c.requires.from
    c.index_mut.result.now.items old c.args.to c.args.customers (ap length old ∙ own.there)
    c.requires.to (omega (arith, c.requires.room))

pub returns : goal.returns
returns c =
    let from = c.args.from in grind (
      arith,
      length-map,
      get_or,
      get_or-map,
      map-set,
      list_set,
      length-set,
      one_more,
    )

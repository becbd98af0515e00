use Rattle.plan_num.proofs.Common.{◌≡◌, [], arith}
use Rattle.plan_files.proofs.Common.{both_read}
use Rattle.stage_chain.proofs.Settling.{nothing_left, outside_wish, outside_wishes, told_wish}
use Rattle.stage_chain.proofs.settle.unmet.Goals as goal

pub loop-wish-preserved : goal.loop-wish-preserved
loop-wish-preserved g c =
    let next = c.in-Some.ensures.steps.0 in
    record {
      reads = both_read _ _ _ _ _ _ _ c.loop-wish.invariant.reads c.in_ok-add_unmet.ensures.only_reads;
      told = told_wish _ _ c.args.wishes.items c.loop-wish.writes.items c.add_unmet.new.writes.items
          c.loop-wish.wish-iterator.rest.items c.next.new.self.rest.items c.in-Some.wish
          c.loop-wish.invariant.reads.contents next c.in_ok-add_unmet.ensures.writes c.loop-wish.invariant.told;
      outside =
          outside_wish c.args.wishes.items c.loop-wish.writes.items c.add_unmet.new.writes.items
          c.loop-wish.wish-iterator.rest.items c.next.new.self.rest.items c.in-Some.wish next
          c.in_ok-add_unmet.ensures.either c.loop-wish.invariant.outside;
    }

pub returns-clause-outside : goal.returns-clause-outside
returns-clause-outside g c =
    let none = c.in-None.ensures.steps.0 in
    let empty : c.loop-wish.wish-iterator.rest.items ≡ [] =
    nothing_left _ (omega (arith, c.loop-wish.wish-iterator.rest.ok, none)) in
    outside_wishes c.args.wishes.items c.loop-wish.writes.items c.loop-wish.wish-iterator.rest.items empty
    c.loop-wish.invariant.outside

use Rattle.plan_num.proofs.Common.{◌≡◌, length, slice_set, get_or, ap, ◌∙◌, arith, length-set}
use Rattle.plan_num.proofs.Common.{length-replicate}
use Rattle.link_plans.proofs.Common.{PotentialParts}
use Rattle.plan_search.proofs.MovedOne.{between_is, moved_more, moved_none}
use Rattle.plan_search.proofs.parting.moved.Goals as goal

pub loop-i-init : goal.loop-i-init
loop-i-init c = grind (arith, length-replicate, moved_none)

pub loop-i-preserved : goal.loop-i-preserved
loop-i-preserved c =
    let i = c.loop-i.i in
    let before = c.loop-i.moved in
    let is : c.set_place.new.potentials ≡ record {
      u = slice_set before.u i c.between.result;
      v = slice_set before.v i c.between-in-loop-i.result;
    } = c.set_place.ensures ∙ ap (λ (some : PotentialParts). record {
      u = some.u;
      v = slice_set some.v i c.between-in-loop-i.result;
    }) c.set_trip.ensures in
    let none = c.number-none.ensures ∙ ap (λ n. get_or c.args.found.now n 0) c.len-count.ensures.count in
    record {
      over = record {
        each_u = ap (λ (some : PotentialParts). length some.u) is
            ∙ length-set before.u i c.between.result ∙ c.loop-i.invariant.over.each_u;
        each_v = ap (λ (some : PotentialParts). length some.v) is
            ∙ length-set before.v i c.between-in-loop-i.result ∙ c.loop-i.invariant.over.each_v;
      };
      moved = moved_more c.args.found.now c.args.assignment.now c.args.potentials.now before i
          c.loop-i.invariant.moved c.set_place.new.potentials c.between.result c.between-in-loop-i.result
          c.node_at.result
          (omega (arith, c.loop-i-test.true, c.len-count.ensures.count, c.loop-i.invariant.over.each_u))
          (omega (arith, c.loop-i-test.true, c.len-count.ensures.count, c.loop-i.invariant.over.each_v))
          is
          (between_is c.between.ensures.value c.of_trip-own.ensures.value c.number.ensures none)
          c.node_at.ensures
          (between_is c.between-in-loop-i.ensures.value c.natural_v-place.ensures.value none
          c.number-number.ensures);
    }

use Rattle.plan_num.proofs.Common.{◌-◌, arith, slice_index_or, slice_set, drop_all, drop_more}
use Rattle.plan_num.proofs.Common.{length-map-range_with_len}
use Rattle.delay_management.proofs.DelaysByPlace.{by_place, more_placed, none_placed}
use Rattle.delay_management.proofs.delays.delays_by_place.Goals as goal

pub loop-left-init : goal.loop-left-init
loop-left-init c = record {
  some = omega arith;
  told = grind (arith, none_placed, by_place, drop_all);
}

pub index_mut-requires : goal.index_mut-requires
index_mut-requires c =
    let left = c.loop-left.left in grind (arith, slice_index_or, length-map-range_with_len)

pub loop-left-preserved : goal.loop-left-preserved
loop-left-preserved c =
    let left = c.loop-left.left in grind (
      arith,
      slice_index_or,
      slice_set,
      more_placed,
      by_place,
      drop_more,
    )

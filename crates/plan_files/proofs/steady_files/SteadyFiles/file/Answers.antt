use Rattle.plan_num.proofs.Common.{sym, arith, slice_cmp, nat_cmp}
use Rattle.std.specs.FinMap.{get-empty}
use Rattle.plan_files.proofs.Writes.{get_next_write}
use Rattle.plan_files.proofs.steady_files.SteadyFiles.file.Goals as goal

pub loop-write-init : goal.loop-write-init
loop-write-init c = sym (get-empty (slice_cmp nat_cmp) c.args.name.now)

pub loop-write-preserved : goal.loop-write-preserved
loop-write-preserved c =
    let step =
    get_next_write c.deref-write-items.result.now c.loop-write.write-index c.write-item.result
    c.args.name.now c.loop-write-test.true c.write-item.is in
    grind (arith, step)

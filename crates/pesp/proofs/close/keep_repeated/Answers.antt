use Rattle.plan_num.proofs.Common.{◌≡◌, ◌<◌, ℕ, subst}
use Rattle.bit_rows.specs.Bits.{marked}
use Rattle.pesp.specs.Marks.{Marks, is_left}
use Rattle.pesp.specs.Revising.{reaches}
use Rattle.pesp.proofs.Pruned.{prunes_by_bits}
use Rattle.pesp.proofs.close.keep_repeated.Goals as goal

pub returns : goal.returns
returns c =
    prunes_by_bits c.args.sets.now c.prune.new.sets c.args.event
    (reaches c.args.sets.now.sets.columns (is_left c.args.sets.now.sets c.args.event) c.args.by 0)
    c.reached-later.result c.prune.result
    (subst (λ (sets : Marks). (time : ℕ) → time < sets.columns → marked c.reached-later.result time
    ≡ reaches sets.columns (is_left sets c.args.event) c.args.by 0 time) c.sets.ensures
    c.reached-later.ensures.each)
    c.prune.ensures

use Rattle.plan_num.proofs.Common.{◌≡◌, ◌+◌, ◌-◌, arith, subst}
use Rattle.pesp.proofs.FlagBits.{NoneFrom, last_flag, none_before, none_behind}
use Rattle.pesp.proofs.flags.EventFlags.last.Goals as goal

pub loop-index-init : goal.loop-index-init
loop-index-init c = record {
  few = omega (arith, c.min-index.ensures);
  none = grind (arith, none_behind);
}

pub returns-in-Some : goal.returns-in-Some
returns-in-Some c =
    let own : c.loop-index.index ≡ c.loop-index.index - 1 + 1 =
    omega (arith, c.loop-index-test.true) in
    last_flag c.args.self.now (c.loop-index.index - 1) c.args.end c.word.result
    c.requires c.word.ensures
    (subst (NoneFrom c.args.self.now c.args.end) own c.loop-index.invariant.none) c.in-Some.bit
    c.in-Some.ensures

pub returns : goal.returns
returns c =
    none_before c.args.self.now c.args.end c.range-low.result.0 c.range-low.result.1
    c.loop-index.index c.range-low.ensures.clear (omega (arith, c.loop-index-test.false))
    c.loop-index.invariant.none

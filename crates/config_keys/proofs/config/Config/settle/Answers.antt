use Rattle.plan_num.proofs.Common.{sym, arith, rules}
use Rattle.giv_files.specs.declared.key.Key.TheVariants.{LastStage}
use Rattle.config_keys.specs.ReadSoFar.{said_of}
use Rattle.config_keys.proofs.Settling.{settled_bad, settled_more, settled_good, are_settings}
use Rattle.config_keys.proofs.config.Config.settle.Goals as goal

pub loop-key-preserved : goal.loop-key-preserved
loop-key-preserved c =
    let more = settled_more (said_of c.args.reading.now) c.all-key-items.result.now
    c.loop-key.values.items c.loop-key.key-index LastStage c.in-Some.value c.loop-key-test.true
    c.loop-key.invariant.good c.loop-key.invariant.told (sym c.in-Some.ensures) in
    record { good = more.0; told = grind (arith, rules, c.in_ok-push-in-Some.ensures.items, more.1) }

pub returns-in-None : goal.returns-in-None
returns-in-None c =
    settled_bad (said_of c.args.reading.now) c.all-key-items.result.now c.loop-key.key-index LastStage
    c.all-key-items.ensures c.loop-key-test.true c.loop-key.invariant.good (sym c.in-None.ensures)

pub invariant_of-result : goal.invariant_of-result
invariant_of-result c =
    let whole = settled_good (said_of c.args.reading.now) c.all-key-items.result.now c.loop-key.values.items
    c.loop-key.key-index c.all-key-items.ensures c.loop-key-test.false c.loop-key.invariant.good
    c.loop-key.invariant.told in
    rw whole.2 (are_settings (said_of c.args.reading.now) whole.1)

pub returns : goal.returns
returns c =
    (settled_good (said_of c.args.reading.now) c.all-key-items.result.now c.loop-key.values.items c.loop-key.key-index
    c.all-key-items.ensures c.loop-key-test.false c.loop-key.invariant.good c.loop-key.invariant.told).0

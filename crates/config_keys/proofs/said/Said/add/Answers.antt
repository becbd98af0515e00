use Rattle.giv_files.specs.declared.key.Key.TheVariants.{LastStage}
use Rattle.config_keys.proofs.SaidItems.{says_begin, says_more, says_all}
use Rattle.config_keys.proofs.said.Said.add.Goals as goal

pub loop-key-init : goal.loop-key-init
loop-key-init c = says_begin c.args.later.now c.args.self.now c.all-key-items.result.now

pub loop-key-preserved : goal.loop-key-preserved
loop-key-preserved c = says_more c.args.later.now c.args.self.now c.loop-key.self c.add_key.new.self
    c.all-key-items.result.now c.loop-key.key-index LastStage c.loop-key-test.true
    c.loop-key.invariant c.in_ok-add_key.ensures

pub returns : goal.returns
returns c = says_all c.args.later.now c.args.self.now c.loop-key.self c.all-key-items.result.now
    c.loop-key.key-index c.all-key-items.ensures c.loop-key-test.false c.loop-key.invariant

use Rattle.plan_num.proofs.Common.{arith, common_steps}
use Rattle.stage_keep.specs.Entries.{entry_bytes}
use Rattle.stage_keep.proofs.EntriesRead.{back_of, entry_of_text}
use Rattle.stage_keep.proofs.write.write_keep.Goals as goal

text_is : goal.returns-clause-text
unfolding entry_bytes
text_is c = grind (arith, common_steps)

pub returns-clause-text : goal.returns-clause-text
returns-clause-text c = text_is c

pub returns-clause-entry : goal.returns-clause-entry
returns-clause-entry c =
    let small = c.extend_from_slice-2.new.self.small in grind (arith, entry_of_text, text_is)

pub returns-clause-read_back : goal.returns-clause-read_back
returns-clause-read_back c =
    back_of c.args.bundle.now c.args.made.now c.from_vec.result (returns-clause-entry c) (text_is c)

use Rattle.plan_num.proofs.Common.{refl}
use Rattle.tables.proofs.WriteFacts.{word_is}
use Rattle.tables.proofs.write.word_at.Goals as goal

pub returns : goal.returns
returns c = word_is c.words.result.now _ c.args.place _ c.words.ensures c.requires refl

use Rattle.std.proofs.Common.{◌∙◌, arith, length, ap}
use Rattle.evaluators.proofs.ValuesOfParts.{text_whole}
use Rattle.evaluators.proofs.text.statistic_text.Goals as goal

pub returns : goal.returns
returns c = c.from_vec.ensures
    ∙ text_whole c.args.all.now _ c.loop-measure.measure-index (omega (
      arith,
      c.loop-measure-test.false,
      ap length c.all-measure-items.ensures,
    )) c.loop-measure.invariant

use Rattle.plan_num.proofs.Common.{◌<◌, ◌∙◌, sym, arith, length, map, [], get_or-map, length-map}
use Rattle.tables.specs.declared.file_id.FileId.TheVariants.{Stop}
use Rattle.stage_keep.proofs.Reading.{file_pushed}
use Rattle.stage_keep.proofs.read.made_files.Goals as goal

pub loop-index-preserved : goal.loop-index-preserved
loop-index-preserved c =
    let few = c.loop-index.invariant.few in
    let inside : c.loop-index.index < length c.args.texts.now = omega (arith, few, c.loop-index-test.true) in
    record {
      few = few;
      left = file_pushed c.args.files.now (map (λ text. text.now) c.args.texts.now)
          c.loop-index.index Stop c.loop-index.made _ c.push.new.self c.in_ok-text.text
          c.loop-index-test.true
          (omega (arith, inside, length-map c.args.texts.now (λ text. text.now)))
          (c.in_ok-text.ensures
          ∙ sym (get_or-map (λ text. text.now) c.args.texts.now c.loop-index.index _ [] inside))
          c.in_ok-push.ensures.ok c.loop-index.invariant.left;
    }

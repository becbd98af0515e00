use Rattle.plan_num.proofs.Common.{◌<◌, ◌∙◌, sym, arith, length, map, [], get_or-map, length-map}
use Rattle.tables.specs.declared.file_id.FileId.TheVariants.{Stop}
use Rattle.stage_keep.specs.Places.{part_of}
use Rattle.stage_keep.proofs.Reading.{file_pushed}
use Rattle.stage_keep.proofs.last_part.add_copies.Goals as goal

pub loop-index-preserved : goal.loop-index-preserved
loop-index-preserved c =
    let inside : c.loop-index.index < length c.args.places.now =
    omega (arith, c.requires.each, c.loop-index-test.true) in
    file_pushed c.args.files.now (map (part_of c.args.bytes.now) c.args.places.now)
    c.loop-index.index Stop c.loop-index.made _ c.push.new.self c.in_ok-text.text
    c.loop-index-test.true
    (omega (arith, inside, length-map c.args.places.now (part_of c.args.bytes.now)))
    (c.in_ok-text.ensures ∙ c.part_of.ensures
    ∙ sym (get_or-map (part_of c.args.bytes.now) c.args.places.now c.loop-index.index _ [] inside))
    c.in_ok-push.ensures.ok c.loop-index.invariant

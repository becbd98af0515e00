use Rattle.std.proofs.Common.{◌≡◌, ◌<◌, ◌∙◌, ◌∷◌, ◌++◌, [], List, ap, arith, get_or, length, refl}
use Rattle.tables.specs.declared.file_id.FileId.TheVariants.{Stop}
use Rattle.giv_files.specs.declared.made.MadeFile.{MadeFile}
use Rattle.stage_keep.specs.Places.{part_of}
use Rattle.stage_keep.proofs.PlacesInLastPart.{all_there, copies_are, files_joined}
use Rattle.stage_keep.proofs.last_part.made_files.Goals as goal

pub returns : goal.returns
returns c =
    let within : c.longest_of-longest.result < length c.args.places.now = c.longest_of-longest.ensures in
    let none = c.in-None.ensures.steps.0 in
    let bytes = c.args.bytes.items in
    let rest : c.into_iter-file-iterator.result.rest.items ≡ c.into_vec-file-items.result.items =
    c.into_iter-file-iterator.ensures.into_iter_gives.0 in
    files_joined (part_of bytes) c.longest_of-longest.result _ c.args.files.now c.args.places.now Stop _
    c.add_copies.new.made c.push.new.self c.add_copies-2.new.made c.loop-file.made
    (omega (arith, c.requires.each, within)) within refl
    (copies_are bytes _ _ _ _ _ c.as_slice.ensures.value c.new-made.ensures c.in_ok-add_copies.ensures)
    (copies_are bytes _ _ _ _ _ c.as_slice-2.ensures.value c.new-later.ensures c.in_ok-add_copies-2.ensures)
    (c.in_ok-push.ensures.ok
    ∙ ap (λ text.
    c.add_copies.new.made ++ record {
      file = get_or c.args.files.now c.longest_of-longest.result Stop;
      text =
          text;
    } ∷ []) c.cut_out.ensures)
    (all_there _ c.loop-file.file-iterator.rest.items _
    (omega (arith, c.loop-file.file-iterator.rest.ok, none)) c.loop-file.invariant
    ∙ ap (λ (l : List MadeFile). c.push.new.self ++ l)
    (rest ∙ c.into_vec-file-items.ensures))

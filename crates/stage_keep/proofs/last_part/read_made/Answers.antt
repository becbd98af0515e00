use Rattle.plan_num.proofs.Common.{arith, Ok, Some, ap, map, ◌∙◌, ◌∷◌, [], ⊤}
use Rattle.stage_keep.specs.EntryReading.{made_of}
use Rattle.stage_keep.specs.Places.{part_of}
use Rattle.stage_keep.proofs.LastParts.{makes_told}
use Rattle.stage_keep.proofs.PlacesInLastPart.{no_texts_in, read_first, read_later, read_neither, read_none, texts_in}
use Rattle.stage_keep.proofs.last_part.read_made.Goals as goal

pub returns-in-Some-clause-made : goal.returns-in-Some-clause-made
returns-in-Some-clause-made c =
    let bytes = c.args.bytes.items in
    read_first c.args.stage bytes c.makes-files.result.now _ c.in_ok-made_of.field-0 c.makes-files.ensures
    (texts_in (λ bytes places. map (part_of bytes) places.items) bytes _ _ _ c.in_ok-places.field-0
    c.in-Some.places c.as_slice-2.ensures.value (c.as_slice.ensures.value ∙ c.in_ok-heads.ensures)
    c.in-Some.is c.in_ok-places.ensures.texts)
    (c.in_ok-made_of.ensures
    ∙ ap (λ places. made_of c.makes-files.result.now (map (part_of bytes) places)) c.as_slice-in-Some.ensures.value)

pub returns-in-Some-clause-makes : goal.returns-in-Some-clause-makes
returns-in-Some-clause-makes c =
    makes_told {E = ⊤} c.args.stage c.args.bytes.items (Ok (Some c.in_ok-made_of.field-0))
    (returns-in-Some-clause-made c)

pub returns-in_default-shorter_list-clause-made : goal.returns-in_default-shorter_list-clause-made
returns-in_default-shorter_list-clause-made c =
    let bytes = c.args.bytes.items in grind (arith, read_none, no_texts_in)

pub returns-in_ok-made_of-in-Some-2-clause-made : goal.returns-in_ok-made_of-in-Some-2-clause-made
returns-in_ok-made_of-in-Some-2-clause-made c =
    let bytes = c.args.bytes.items in
    let file = c.in-Some-shorter_list.file in
    read_later c.args.stage bytes c.makes-files.result.now c.shorter_list.result file c.makes-files.ensures
    (no_texts_in (λ bytes places. map (part_of bytes) places.items) bytes _ _ _ c.in_ok-places.field-0
    c.as_slice-2.ensures.value (c.as_slice.ensures.value ∙ c.in_ok-heads.ensures)
    c.in_default.is c.in_ok-places.ensures.texts)
    c.shorter_list.ensures c.in-Some-shorter_list.is _ c.in_ok-made_of-in-Some-2.field-0
    (texts_in (λ bytes places. map (part_of bytes) places.items) bytes _ _ _ c.in_ok-places-2.field-0
    c.in-Some-2.places c.as_slice-4.ensures.value (c.as_slice-3.ensures.value ∙ c.in_ok-heads-2.ensures)
    c.in-Some-2.is c.in_ok-places-2.ensures.texts)
    (c.in_ok-made_of-in-Some-2.ensures
    ∙ ap (λ places. made_of (file ∷ []) (map (part_of bytes) places)) c.as_slice-in-Some-2.ensures.value)

pub returns-in_ok-made_of-in-Some-2-clause-makes : goal.returns-in_ok-made_of-in-Some-2-clause-makes
returns-in_ok-made_of-in-Some-2-clause-makes c =
    makes_told {E = ⊤} c.args.stage c.args.bytes.items (Ok (Some c.in_ok-made_of-in-Some-2.field-0))
    (returns-in_ok-made_of-in-Some-2-clause-made c)

pub returns-in-None-clause-made : goal.returns-in-None-clause-made
returns-in-None-clause-made c =
    let bytes = c.args.bytes.items in
    read_neither c.args.stage bytes c.makes-files.result.now c.shorter_list.result c.in-Some-shorter_list.file
    c.makes-files.ensures
    (no_texts_in (λ bytes places. map (part_of bytes) places.items) bytes _ _ _ c.in_ok-places.field-0
    c.as_slice-2.ensures.value (c.as_slice.ensures.value ∙ c.in_ok-heads.ensures)
    c.in_default.is c.in_ok-places.ensures.texts)
    c.shorter_list.ensures c.in-Some-shorter_list.is
    (no_texts_in (λ bytes places. map (part_of bytes) places.items) bytes _ _ _ c.in_ok-places-2.field-0
    c.as_slice-4.ensures.value (c.as_slice-3.ensures.value ∙ c.in_ok-heads-2.ensures)
    c.in-None.is c.in_ok-places-2.ensures.texts)

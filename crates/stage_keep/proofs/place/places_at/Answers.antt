use Rattle.plan_num.proofs.Common.{◌≡◌, ◌+◌, ap, ◌∙◌, sym, arith, refl, length, option_map, drop}
use Rattle.plan_num.proofs.Common.{◌++◌, List, ℕ, Some, length_push}
use Rattle.stage_keep.specs.EntryReading.{block_at, texts_at}
use Rattle.stage_keep.proofs.PlacesInLastPart.{before, next_split, place_more, place_within, sizes}
use Rattle.stage_keep.proofs.Reading.{block_found, block_lacks, ended_as, text_more, text_none, texts_end}
use Rattle.stage_keep.proofs.place.places_at.Goals as goal

pub returns-in_default-clause-texts : goal.returns-in_default-clause-texts
returns-in_default-clause-texts c =
    text_none c.args.heads.now c.loop-head.head-index _ c.loop-head.rest.now _
    c.loop-head.invariant.left c.head-item.result c.loop-head-test.true
    (ap (λ (h : List ℕ). block_at h c.loop-head.rest.now) (sym (c.as_bytes.ensures ∙ c.head-item.is))
    ∙ block_lacks _ c.in_ok-text.field-0 _ c.in_default.is c.in_ok-text.ensures)

pub overflow_sub-bytes : goal.overflow_sub-bytes
overflow_sub-bytes c =
    let found = block_found _ c.in_ok-text.field-0 _ _ c.in-Some.is c.in_ok-text.ensures in
    omega (
      arith,
      sizes _ c.loop-head.invariant.front c.loop-head.rest.now _ c.in-Some.text.now
          c.in-Some.more.now c.loop-head.invariant.split found,
    )

pub overflow_sub-bytes-in-loop-head : goal.overflow_sub-bytes-in-loop-head
overflow_sub-bytes-in-loop-head c =
    let found = block_found _ c.in_ok-text.field-0 _ _ c.in-Some.is c.in_ok-text.ensures in
    omega (
      arith,
      sizes _ c.loop-head.invariant.front c.loop-head.rest.now _ c.in-Some.text.now
          c.in-Some.more.now c.loop-head.invariant.split found,
    )

pub loop-head-preserved : goal.loop-head-preserved
loop-head-preserved c =
    let rest = c.loop-head.rest.now in
    let text = c.in-Some.text.now in
    let more = c.in-Some.more.now in
    let front = c.loop-head.invariant.front in
    let split = c.loop-head.invariant.split in
    let items = c.in_ok-push.ensures.items in
    let found : block_at c.as_bytes.result.now rest ≡ Some (text, more) =
    block_found _ c.in_ok-text.field-0 _ _ c.in-Some.is c.in_ok-text.ensures in
    record {
      each = ap (λ l. length l) items ∙ length_push _ _ ∙ omega (arith, c.loop-head.invariant.each);
      front = before c.args.bytes.now front rest c.as_bytes.result.now text more split found ++ text;
      split = next_split c.args.bytes.now front rest c.as_bytes.result.now text more split found;
      within = place_within c.args.bytes.now front rest c.as_bytes.result.now text more split found
          _ refl refl c.loop-head.places.items _ items c.loop-head.invariant.within;
      left = ap (λ (so_far : List (List ℕ)). option_map (λ later. so_far ++ later)
          (texts_at (drop (c.loop-head.head-index + 1) c.args.heads.now) more))
          (place_more c.args.bytes.now front rest c.as_bytes.result.now text more split found
          _ refl refl c.loop-head.places.items _ items)
          ∙ text_more c.args.heads.now c.loop-head.head-index _ rest _
          c.loop-head.invariant.left c.head-item.result text more c.loop-head-test.true
          (ap (λ (h : List ℕ). block_at h rest) (sym (c.as_bytes.ensures ∙ c.head-item.is)) ∙ found);
    }

pub returns-clause-texts : goal.returns-clause-texts
returns-clause-texts c =
    ended_as _ c.loop-head.places c.if_ended.result _ _ c.if_ended.ensures
    (texts_end c.args.heads.now c.loop-head.head-index _ c.loop-head.rest.now _
    c.loop-head.invariant.left c.loop-head-test.false)

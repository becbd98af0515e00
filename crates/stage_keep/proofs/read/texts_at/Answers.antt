use Rattle.plan_num.proofs.Common.{◌+◌, ap, ◌∙◌, sym, arith, length, map, option_map, drop, [], ◌∷◌}
use Rattle.plan_num.proofs.Common.{◌++◌, List, ℕ, length-append, map-append}
use Rattle.stage_keep.specs.EntryReading.{block_at, texts_at}
use Rattle.stage_keep.proofs.Reading.{block_found, block_lacks, ended_as, text_more, text_none, texts_end}
use Rattle.stage_keep.proofs.read.texts_at.Goals as goal

pub returns-in_default-clause-texts : goal.returns-in_default-clause-texts
returns-in_default-clause-texts c =
    text_none c.args.heads.now c.loop-head.head-index _ c.loop-head.rest.now _
    c.loop-head.invariant.left c.head-item.result c.loop-head-test.true
    (ap (λ (h : List ℕ). block_at h c.loop-head.rest.now) (sym (c.as_bytes.ensures ∙ c.head-item.is))
    ∙ block_lacks _ c.in_ok-text.field-0 _ c.in_default.is c.in_ok-text.ensures)

pub loop-head-preserved : goal.loop-head-preserved
loop-head-preserved c =
    let items = c.in_ok-push.ensures.items in
    record {
      each = ap (λ l. length l) items ∙ length-append c.loop-head.texts.items (c.in-Some.text ∷ [])
          ∙ omega (arith, c.loop-head.invariant.each);
      left = ap (λ (front : List (List ℕ)). option_map (λ later. front ++ later)
          (texts_at (drop (c.loop-head.head-index + 1) c.args.heads.now) c.in-Some.more.now))
          (ap (map (λ text. text.now)) items
          ∙ map-append (λ text. text.now) c.loop-head.texts.items (c.in-Some.text ∷ []))
          ∙ text_more c.args.heads.now c.loop-head.head-index _ c.loop-head.rest.now _
          c.loop-head.invariant.left c.head-item.result c.in-Some.text.now c.in-Some.more.now
          c.loop-head-test.true
          (ap (λ (h : List ℕ). block_at h c.loop-head.rest.now)
          (sym (c.as_bytes.ensures ∙ c.head-item.is))
          ∙ block_found _ c.in_ok-text.field-0 _ _ c.in-Some.is c.in_ok-text.ensures);
    }

pub returns-clause-texts : goal.returns-clause-texts
returns-clause-texts c =
    ended_as _ c.loop-head.texts c.if_ended.result _ _ c.if_ended.ensures
    (texts_end c.args.heads.now c.loop-head.head-index _ c.loop-head.rest.now _
    c.loop-head.invariant.left c.loop-head-test.false)

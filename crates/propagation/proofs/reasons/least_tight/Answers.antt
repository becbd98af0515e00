use Rattle.plan_num.proofs.Common.{◌∙◌, ℕ, List, length, map, take, get_or, slice_set, Some, None}
use Rattle.plan_num.proofs.Common.{ap, sym, arith, Vec, Option, range_with_len, reduce, take_more}
use Rattle.plan_num.proofs.Common.{length-map-range_with_len}
use Rattle.propagation.specs.declared.step.Activity.{Activity}
use Rattle.propagation.specs.Reasons.{lesser, tight_among}
use Rattle.propagation.specs.TightIds.{with_id}
use Rattle.propagation.proofs.ReasonsProve.{none}
use Rattle.propagation.proofs.TightMore.{all_changes, change_noted, change_passed, no_change, slack_passed, tight_noted}
use Rattle.propagation.proofs.reasons.least_tight.Goals.{then-is_tight, else-is_tight, then-is_chosen_tight}
use Rattle.propagation.proofs.reasons.least_tight.Goals.{else-is_chosen_tight}
use Rattle.propagation.proofs.reasons.least_tight.Goals as goal

pub note-requires : goal.note-requires
note-requires c = grind (arith, none, length-map-range_with_len)

pub loop-ride-preserved : goal.loop-ride-preserved
loop-ride-preserved c =
    let times = c.args.times.now in
    let rides = c.args.rides.now in
    let i = c.loop-ride.ride-index in
    let n = length times in
    let some = take i rides in
    let at : Activity = get_or rides i none in
    let ends = c.requires.rides i none c.loop-ride-test.true in
    let more = λ (all : List Activity). map (λ event. reduce lesser (tight_among times event all))
    (range_with_len 0 n) in
    let next = ap more (sym (take_more rides i none c.loop-ride-test.true)) in
    elim c.if-is_tight.branch [
      | then-is_tight w ↦
          ap (λ (v : Vec (Option ℕ) _). v.items) w.ids-is ∙ w.note.ensures
          ∙ ap (λ ids. slice_set ids at.step.to (Some (with_id (get_or ids at.step.to None) at.id)))
          c.loop-ride.invariant
          ∙ tight_noted times n some at ends.1 (sym c.is_tight.ensures ∙ w.if-is_tight.true) ∙ next
      | else-is_tight w ↦
          ap (λ (v : Vec (Option ℕ) _). v.items) w.ids-is ∙ c.loop-ride.invariant
          ∙ slack_passed times n some at (sym c.is_tight.ensures ∙ w.if-is_tight.false) ∙ next
    ]

pub loop-index-init : goal.loop-index-init
loop-index-init c =
    c.loop-ride.invariant
    ∙ no_change c.args.times.now (length c.args.times.now) c.args.rides.now c.args.kept.now c.args.changes.now
    c.loop-ride.ride-index (omega (arith, c.loop-ride-test.false))

pub note-requires-then-is_chosen_tight : goal.note-requires-then-is_chosen_tight
note-requires-then-is_chosen_tight c = grind (arith, none, length-map-range_with_len)

pub loop-index-preserved : goal.loop-index-preserved
loop-index-preserved c =
    let times = c.args.times.now in
    let kept = c.args.kept.now in
    let changes = c.args.changes.now in
    let i = c.loop-index.index in
    let at : Activity = get_or changes i none in
    let ends = c.requires.changes i none c.loop-index-test.true in
    elim c.if-is_chosen_tight.branch [
      | then-is_chosen_tight w ↦
          ap (λ (v : Vec (Option ℕ) _). v.items) w.ids-is ∙ w.note-then-is_chosen_tight.ensures
          ∙ ap (λ ids. slice_set ids at.step.to (Some (with_id (get_or ids at.step.to None) at.id)))
          c.loop-index.invariant
          ∙ change_noted times (length times) c.args.rides.now kept changes i none c.loop-index-test.true ends.1
          (sym c.is_chosen_tight.ensures ∙ w.if-is_chosen_tight.true)
      | else-is_chosen_tight w ↦
          ap (λ (v : Vec (Option ℕ) _). v.items) w.ids-is ∙ c.loop-index.invariant
          ∙ change_passed times (length times) c.args.rides.now kept changes i none c.loop-index-test.true
          (sym c.is_chosen_tight.ensures ∙ w.if-is_chosen_tight.false)
    ]

pub returns : goal.returns
returns c =
    c.loop-index.invariant
    ∙ all_changes c.args.times.now (length c.args.times.now) c.args.rides.now c.args.kept.now c.args.changes.now
    c.loop-index.index (omega (arith, c.loop-index-test.false))

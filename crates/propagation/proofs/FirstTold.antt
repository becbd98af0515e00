-- The first event that marks tell of.
use Rattle.plan_num.proofs.Common.{◌≡◌, ◌∙◌, ℕ, ◌<◌, ◌&&◌, ◌||◌, ◌==◌, not, Bool, false, nat_eq}
use Rattle.plan_num.proofs.Common.{nat_lt, List, length, map, filter, get_or, slice_get, All}
use Rattle.plan_num.proofs.Common.{Option, ap, list_any, range_with_len}
use Rattle.propagation.specs.declared.reason.Reason.{Reason}
use Rattle.propagation.specs.declared.step.Activity.{Activity}
use Rattle.propagation.specs.declared.step.Step.{Step}
use Rattle.propagation.specs.EarlyEvents.{is_before, is_early_by, is_just, is_right_by}
use Rattle.propagation.specs.LeastTimes.{time_at}
use Rattle.propagation.specs.Marks.{is_source, is_turn, marked_by, names}
use Rattle.propagation.specs.Problems.{Joins}
use Rattle.propagation.specs.Reasons.{reason_for}
use Rattle.propagation.proofs.MarksTell.{any_told, filter_marks}

module _ (earliest : List ℕ) (activities : List Activity) (turns : List Step) (times : List ℕ)
    (here : All (λ activity. Joins (length times) activity.step) activities) (there : All
    (Joins (length times)) turns) where
  abbrev n : ℕ
  n = length times

  heads : All (λ (activity : Activity). activity.step.to < n) activities
  heads k d inside = (here k d inside).1

  turn_heads : All (λ (turn : Step). turn.to < n) turns
  turn_heads k d inside = (there k d inside).1

  pub early_first : (first second third seen : List Bool) (found : Option ℕ)
      → first ≡ map (λ event. nat_lt (time_at times event) (time_at earliest event)) (range_with_len 0 n)
      → second ≡ marked_by (λ (activity : Activity). activity.step.to)
      (λ activity. is_before times activity.step) first activities
      → third ≡ marked_by (λ (turn : Step). turn.to) (is_before times) second turns → seen ≡ third
      → found ≡ slice_get (filter (λ event. get_or seen event false) (range_with_len 0 (length seen))) 0
      → found ≡ slice_get (filter (is_early_by earliest activities turns times) (range_with_len 0 n)) 0
  early_first first second third seen found a b c d e =
      let base : ℕ → Bool = λ event. nat_lt (time_at times event) (time_at earliest event) in
      let some : ℕ → Bool = λ event. base event
      || list_any (λ (activity : Activity). (activity.step.to == event) && is_before times activity.step) activities in
      let are = d ∙ c ∙ ap (λ marks. marked_by (λ (turn : Step). turn.to) (is_before times) marks turns)
      (b ∙ ap (λ marks. marked_by (λ (activity : Activity). activity.step.to)
      (λ activity. is_before times activity.step) marks activities) a
      ∙ any_told (λ (activity : Activity). activity.step.to)
      (λ activity. is_before times activity.step) activities base n heads)
      ∙ any_told (λ (turn : Step). turn.to) (is_before times) turns some n turn_heads in
      e ∙ ap (λ all. slice_get all 0) (filter_marks (λ b. b) (is_early_by earliest activities turns times) n seen are)

  pub wrong_first : (reasons : List Reason) (first second third seen : List Bool) (found : Option ℕ)
      → first ≡ map (λ event. is_source (reason_for reasons event)
      && nat_eq (time_at times event) (time_at earliest event)) (range_with_len 0 n)
      → second ≡ marked_by (λ (activity : Activity). activity.step.to)
      (λ activity. names (reason_for reasons activity.step.to) activity.id
      && is_just times activity.step) first activities
      → third ≡ marked_by (λ (turn : Step). turn.to)
      (λ turn. is_turn (reason_for reasons turn.to) && is_just times turn) second turns → seen ≡ third
      → found ≡ slice_get (filter (λ event. not (get_or seen event false)) (range_with_len 0 (length seen))) 0
      → found ≡ slice_get (filter (λ event. not (is_right_by earliest activities turns times reasons event))
      (range_with_len 0 n)) 0
  wrong_first reasons first second third seen found a b c d e =
      let base : ℕ → Bool = λ event. is_source (reason_for reasons event)
      && nat_eq (time_at times event) (time_at earliest event) in
      let named : Activity → Bool = λ activity. names (reason_for reasons activity.step.to) activity.id
      && is_just times activity.step in
      let turned : Step → Bool = λ turn. is_turn (reason_for reasons turn.to) && is_just times turn in
      let some : ℕ → Bool = λ event. base event
      || list_any (λ (activity : Activity). (activity.step.to == event) && named activity) activities in
      let are = d ∙ c ∙ ap (λ marks. marked_by (λ (turn : Step). turn.to) turned marks turns)
      (b ∙ ap (λ marks. marked_by (λ (activity : Activity). activity.step.to) named marks activities) a
      ∙ any_told (λ (activity : Activity). activity.step.to) named activities base n heads)
      ∙ any_told (λ (turn : Step). turn.to) turned turns some n turn_heads in
      e ∙ ap (λ all. slice_get all 0)
      (filter_marks not (is_right_by earliest activities turns times reasons) n seen are)

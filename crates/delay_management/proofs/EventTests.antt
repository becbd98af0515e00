-- Whether an event is early, or its reason is right, by the activities that count and the turns.
use Rattle.plan_num.proofs.Common.{arith, ◌≡◌, ◌∙◌, ℕ, ◌==◌, ◌&&◌, ◌||◌, Bool, true, false, nat_eq}
use Rattle.plan_num.proofs.Common.{nat_lt, List, [], ◌∷◌, ◌++◌, map, filter, refl, ap, sym}
use Rattle.plan_num.proofs.Common.{list_any, list_any-append}
use Rattle.propagation.specs.declared.reason.Reason.{Reason}
use Rattle.propagation.specs.declared.step.Activity.{Activity}
use Rattle.propagation.specs.declared.step.Step.{Step}
use Rattle.propagation.proofs.Common.{is_early_by, is_just, is_right_by, asked, time_at, is_source}
use Rattle.propagation.proofs.Common.{is_turn, names, DelayProblem, earliest_at, steps_with}
use Rattle.propagation.proofs.Common.{is_right, is_tight, reason_for, or_assoc}
use Rattle.propagation.specs.declared.reason.Reason.TheVariants as reason
use Rattle.delay_management.specs.Judged.{is_early}
use Rattle.plan_num.proofs.Tests.{and_false, or_false}
use Rattle.plan_num.proofs.Found.{any_mapped}

any_alike : {X : Type 0} (p q : X → Bool) → ((x : X) → p x ≡ q x) → (xs : List X) → list_any p xs ≡ list_any q xs
any_alike p q same [] = refl
any_alike p q same (x ∷ xs) = λ i. same x i || any_alike p q same xs i

any_none : {X : Type 0} (p : X → Bool) → ((x : X) → p x ≡ false) → (xs : List X) → list_any p xs ≡ false
any_none p none [] = refl
any_none p none (x ∷ xs) = ap (λ b. b || list_any p xs) (none x) ∙ any_none p none xs

any_filter : {X : Type 0} (q p : X → Bool) (xs : List X) → list_any q (filter p xs) ≡ list_any (λ x. p x && q x) xs
any_filter q p [] = refl
any_filter q p (x ∷ xs) = grind (arith, any_filter q p xs)

-- what is asked of a head is asked of the event where the head is the event
at_head : (head event : ℕ) (test : ℕ → Bool) → ((head == event) && test head) ≡ ((head == event) && test event)
at_head head event test = grind arith

swapped : (a b c : Bool) → ((a && b) && c) ≡ (a && (c && b))
swapped true true true = refl
swapped true true false = refl
swapped true false true = refl
swapped true false false = refl
swapped false b c = refl

module _ (problem : DelayProblem) (kept : List Activity) (times : List ℕ) (event : ℕ) where
  abbrev activities : List Activity
  activities = problem.rides ++ kept

  pub early_is : is_early problem (steps_with problem kept) times event
      ≡ is_early_by problem.earliest activities problem.turns times event
  early_is = grind (arith, nat_lt, at_head, list_any-append, any_mapped, any_alike, or_assoc)

  -- the same with one reason
  abbrev right_by : Reason → Bool
  right_by why =
      ((is_source why && nat_eq (time_at times event) (earliest_at problem event))
      || list_any (λ (at : Activity). (at.step.to == event) && (names why at.id && is_just times at.step)) activities)
      || list_any (λ (turn : Step). (turn.to == event) && (is_turn why && is_just times turn)) problem.turns

  no_activity : list_any (λ (at : Activity). (at.step.to == event) && false) activities ≡ false
  no_activity = grind (arith, any_none, and_false)

  no_turn : list_any (λ (turn : Step). (turn.to == event) && false) problem.turns ≡ false
  no_turn = any_none (λ (turn : Step). (turn.to == event) && false) (λ turn. and_false (turn.to == event)) problem.turns

  just : (step : Step) → is_tight times event step ≡ ((step.to == event) && is_just times step)
  just step = sym (at_head step.to event (λ e. nat_eq (asked times step) (time_at times e)))

  by_reason : (why : Reason) → is_right problem kept times event why ≡ right_by why
  by_reason reason.Source = grind (arith, nat_eq, no_activity, no_turn, or_false)
  by_reason (reason.Activity id) =
      grind (arith, any_mapped, nat_eq, any_filter, any_alike, just, swapped, no_turn, or_false)
  by_reason reason.Turn = grind (arith, any_alike, just, no_activity)

  pub right_is : (reasons : List Reason) → is_right problem kept times event (reason_for reasons event)
      ≡ is_right_by problem.earliest activities problem.turns times reasons event
  right_is reasons =
      by_reason (reason_for reasons event)
      ∙ (λ i. ((is_source (reason_for reasons event) && nat_eq (time_at times event) (earliest_at problem event))
      || any_alike (λ at. (at.step.to == event) && (names (reason_for reasons event) at.id && is_just times at.step))
      (λ at. (at.step.to == event) && (names (reason_for reasons at.step.to) at.id && is_just times at.step))
      (λ at. sym (at_head at.step.to event (λ e. names (reason_for reasons e) at.id
      && is_just times at.step))) activities i)
      || any_alike (λ turn. (turn.to == event) && (is_turn (reason_for reasons event) && is_just times turn))
      (λ turn. (turn.to == event) && (is_turn (reason_for reasons turn.to) && is_just times turn))
      (λ turn. sym (at_head turn.to event (λ e. is_turn (reason_for reasons e) && is_just times turn))) problem.turns i)

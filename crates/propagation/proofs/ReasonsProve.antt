-- Feasible times with a right reason for each event are the least ones.
use Rattle.plan_num.proofs.Common.{◌≡◌, ℕ, zero, suc, ◌<◌, ◌+◌, ◌&&◌, ◌≤◌, nat_eq, Bool, true}
use Rattle.plan_num.proofs.Common.{false, List, [], ◌∷◌, ◌++◌, length, map, get_or, ap, sym, ◌∙◌}
use Rattle.plan_num.proofs.Common.{refl, arith, ◌⊎◌, inl, inr, subst, slice_cmp, All, Contains}
use Rattle.plan_num.proofs.Common.{list_any, filter, nat_cmp, is_lt, Decides-eqb, length-map}
use Rattle.plan_num.proofs.Common.{get_or-map, All-filter, All-contains_itself, All-contains}
use Rattle.plan_num.proofs.Common.{filter_passes, Contains-append_left, Contains-append_right}
use Rattle.plan_num.proofs.Common.{Contains-get_or, All-append, All-map, All-weaker}
use Rattle.plan_num.proofs.Common.{Any-from_list_any, length-filter, count_by-le-length, and_parts}
use Rattle.std.specs.declared.cmp.Ordering.{Ordering}
use Rattle.std.specs.declared.cmp.Ordering.TheVariants.{Less, Equal, Greater}
use Rattle.std.proofs.lemmas.Cmp.{lists_total, nat_cmp_total}
use Rattle.propagation.specs.DayEvents.{stands_before, forward_key}
use Rattle.propagation.specs.declared.day_event.DayEvent.{DayEvent}
use Rattle.propagation.specs.declared.reason.Reason.{Reason}
use Rattle.propagation.specs.declared.reason.Reason.TheVariants as reason
use Rattle.propagation.specs.declared.step.Activity.{Activity}
use Rattle.propagation.specs.declared.step.Step.{Step}
use Rattle.propagation.specs.LeastTimes.{IsFeasible, IsLeast, time_at, asked}
use Rattle.propagation.specs.Problems.{DelayProblem, steps_with, event_at, earliest_at, GoesForward, IsForward}
use Rattle.propagation.specs.Problems.{AreChanges}
use Rattle.propagation.specs.Reasons.{AreRight, is_right, is_tight}

record Tight (steps : List Step) (times : List ℕ) (event : ℕ) : Type 0 where
  step : Step
  there : Contains steps step
  to : step.to ≡ event
  just : asked times step ≡ time_at times event

tight_of : (steps : List Step) (times : List ℕ) (event : ℕ) (step : Step) → Contains steps step →
    is_tight times event step ≡ true → Tight steps times event
tight_of steps times event step there tight = grind arith

abbrev pub none : Activity
none = record { id = 0; step = record { from = 0; to = 0; lower = 0; extra = 0 } }

found : (test : Activity → Bool) (p : ℕ → Bool) (xs : List Activity) →
    list_any p (map (λ a. a.id) (filter test xs)) ≡ true → (a : Activity) × Contains xs a × (test a ≡ true)
found test p xs h =
    let some = Any-from_list_any p (map (λ a. a.id) (filter test xs)) h in
    let within : some.0 < length (filter test xs) =
    omega (arith, length-map (filter test xs) (λ a. a.id), some.2) in (
      get_or (filter test xs) some.0 none,
      All-filter test (Contains xs) xs
          (All-contains_itself xs) some.0 none within,
      filter_passes test xs some.0 none within,
    )

pub mapped : (f : Activity → Step) (xs : List Activity) (a : Activity) → Contains xs a → Contains (map f xs) (f a)
mapped f xs a c = (c.0, omega (arith, length-map xs f, c.1), get_or-map f xs c.0 a (f a) c.1 ∙ ap f c.2)

module _ (problem : DelayProblem) (kept : List Activity) (times : List ℕ) where
  by_reason : (event : ℕ) (why : Reason) → is_right problem kept times event why ≡ true →
      (time_at times event ≡ earliest_at problem event) ⊎ Tight (steps_with problem kept) times event
  by_reason event reason.Source h =
      inl ((Decides-eqb (time_at times event) (earliest_at problem event)).0 h)
  by_reason event (reason.Activity id) h =
      let f = found (λ a. is_tight times event a.step) (nat_eq id) (problem.rides ++ kept) h in
      inr (tight_of (steps_with problem kept) times event f.0.step
      (Contains-append_left (map (λ (at : Activity). at.step) (problem.rides ++ kept)) problem.turns f.0.step
      (mapped (λ (at : Activity). at.step) (problem.rides ++ kept) f.0 f.1)) f.2)
  by_reason event reason.Turn h = grind (arith, Any-from_list_any, tight_of, Contains-append_right)

  module _ (rank : ℕ → ℕ) (rises : All (λ step. rank step.from < rank step.to) (steps_with problem kept))
      (from : All (λ step. step.from < length problem.events) (steps_with problem kept))
      (reasons : List Reason) (right : AreRight problem kept times reasons) (others : List ℕ)
      (fits : IsFeasible problem kept others) where
    below : (bound event : ℕ) → rank event < bound → event < length problem.events →
        time_at times event ≤ time_at others event
    below zero event h within = absurd (omega arith)
    below (suc bound) event h within =
        by (below bound) (by_reason event (get_or reasons event reason.Turn) (right.right event within))
      where
        by : ((e : ℕ) → rank e < bound → e < length problem.events → time_at times e ≤ time_at others e) →
            (time_at times event ≡ earliest_at problem event) ⊎ Tight (steps_with problem kept) times event →
            time_at times event ≤ time_at others event
        by before (inl e) = subst (λ t. t ≤ time_at others event) (sym e) (fits.earliest event within)
        by before (inr t) = grind (arith, rank, All-contains)

pub right_is_least : (problem : DelayProblem) (kept : List Activity) (times : List ℕ) (rank : ℕ → ℕ) →
    All (λ step. rank step.from < rank step.to) (steps_with problem kept)
    → All (λ step. step.from < length problem.events) (steps_with problem kept) → (reasons : List Reason) →
    IsFeasible problem kept times → AreRight problem kept times reasons → IsLeast problem kept times
right_is_least problem kept times rank rises from reasons feasible right = record {
  feasible = feasible;
  least = λ others fits event within. below problem kept times rank rises from reasons right others fits
      (rank event + 1) event (omega arith) within;
}

-- ---- the rank of an event: how many events stand before it

is_less : (o : Ordering) → is_lt o ≡ true → o ≡ Less
is_less Less h = refl
is_less Equal h = grind arith
is_less Greater h = grind arith

before_before : (a b c : DayEvent) → stands_before a b ≡ true → stands_before b c ≡ true →
    stands_before a c ≡ true
before_before a b c h g =
    ap is_lt ((lists_total nat_cmp_total).trans (forward_key a) (forward_key b) (forward_key c)
    (is_less (slice_cmp nat_cmp (forward_key a) (forward_key b)) h)
    (is_less (slice_cmp nat_cmp (forward_key b) (forward_key c)) g))

not_before_itself : (a : DayEvent) → stands_before a a ≡ false
not_before_itself a = grind arith

module _ {X : Type 0} (p q : X → Bool) (implies : (x : X) → p x ≡ true → q x ≡ true) where
  no_more : (xs : List X) → length (filter p xs) ≤ length (filter q xs)
  no_more [] = omega arith
  no_more (x ∷ xs) = grind (arith, no_more xs)

  fewer : (xs : List X) (k : ℕ) (d : X) → k < length xs → p (get_or xs k d) ≡ false →
      q (get_or xs k d) ≡ true → length (filter p xs) < length (filter q xs)
  fewer [] k d within isnt is = absurd (omega arith)
  fewer (x ∷ xs) zero d within isnt is = rw isnt (rw is (omega (arith, no_more xs)))
  fewer (x ∷ xs) (suc k) d within isnt is = grind (arith, fewer xs k d (omega arith) isnt is)

pub rank : List DayEvent → ℕ → ℕ
rank events event = length (filter (λ other. stands_before other (event_at events event)) events)

pub rising : (events : List DayEvent) (step : Step) → GoesForward events step →
    rank events step.from < rank events step.to
unfolding rank
rising events step forward = grind (arith, fewer, before_before, not_before_itself)

pub few_before : (events : List DayEvent) (event : ℕ) → rank events event ≤ length events
unfolding rank
few_before events event = grind (arith, length-filter, count_by-le-length)

pub forward_with : (problem : DelayProblem) (kept : List Activity) → IsForward problem → AreChanges problem kept →
    All (GoesForward problem.events) (steps_with problem kept)
forward_with problem kept forward among =
    let P = GoesForward problem.events in let rides =
    problem.rides in let changes = problem.changes in let all = steps_with problem changes in
    let of : (a : Activity) → Contains (rides ++ changes) a →
    P a.step = λ a there. All-contains P all a.step forward.steps
    (Contains-append_left (map (λ (at : Activity). at.step) (rides ++ changes)) problem.turns a.step
    (mapped (λ (at : Activity). at.step) (rides ++ changes) a there)) in
    All-append P (map (λ (at : Activity). at.step) (rides ++ kept)) problem.turns
    (All-map P (λ (at : Activity). at.step) (rides ++ kept) (All-append (λ a. P a.step) rides kept
    (λ k d within. of (get_or rides k d)
    (Contains-append_left rides changes (get_or rides k d) (Contains-get_or rides k d within)))
    (λ k d within. of (get_or kept k d)
    (Contains-append_right rides changes (get_or kept k d) (among k d within)))))
    (λ k d within. All-contains P all (get_or problem.turns k d) forward.steps
    (Contains-append_right (map (λ (at : Activity). at.step) (rides ++ changes)) problem.turns
    (get_or problem.turns k d)
    (Contains-get_or problem.turns k d within)))

pub reasons_prove_least : (problem : DelayProblem) (kept : List Activity) (times : List ℕ)
    (reasons : List Reason) → IsForward problem → AreChanges problem kept
    → IsFeasible problem kept times → AreRight problem kept times reasons
    → IsLeast problem kept times
reasons_prove_least problem kept times reasons forward among feasible right =
    let steps = forward_with problem kept forward among in
    right_is_least problem kept times (rank problem.events)
    (All-weaker (GoesForward problem.events)
    (λ step. rank problem.events step.from < rank problem.events step.to) (rising problem.events)
    (steps_with problem kept) steps)
    (All-weaker (GoesForward problem.events) (λ step. step.from < length problem.events)
    (λ step goes. goes.from) (steps_with problem kept) steps)
    reasons feasible right

-- The least times that are computed are the least times, and the only ones.
use Rattle.plan_num.proofs.Common.{◌≡◌, ℕ, ℤ, zero, suc, ◌<◌, ◌+◌, ◌==◌, ◌≤◌, cond, Bool, true}
use Rattle.plan_num.proofs.Common.{false, List, [], ◌∷◌, ◌++◌, length, map, get_or, ap, sym, ◌∙◌}
use Rattle.plan_num.proofs.Common.{refl, arith, ◌⊎◌, inl, inr, subst, All, Contains, filter}
use Rattle.plan_num.proofs.Common.{Decides-eqb, length-map, get_or-map, ext_get_or, All-filter}
use Rattle.plan_num.proofs.Common.{All-contains_itself, All-contains, filter_passes}
use Rattle.plan_num.proofs.Common.{Contains-append_left, Contains-append_right, Contains-get_or}
use Rattle.plan_num.proofs.Common.{All-append, All-map, All-weaker, All-head, All-tail}
use Rattle.plan_num.proofs.Common.{All-from_get_or, get_or-map-range_with_len}
use Rattle.plan_num.proofs.Common.{length-map-range_with_len}
use Rattle.propagation.specs.declared.step.Activity.{Activity}
use Rattle.propagation.specs.declared.step.Step.{Step}
use Rattle.propagation.specs.LeastTimes.{IsLeast, time_at, asked, latest, pushed_at, pushed, pushed_often, least_times}
use Rattle.propagation.specs.Problems.{DelayProblem, minutes, steps_with, earliest_at, GoesForward, IsForward}
use Rattle.propagation.specs.Problems.{AreChanges}
use Rattle.propagation.specs.Waiting.{IsDisposition, is_kept, kept_changes, times_alone, disposition}
use Rattle.propagation.proofs.Later.{latest_bounds, latest_reached, shifted}
use Rattle.propagation.proofs.ReasonsProve.{mapped, rank, rising, few_before, forward_with}

-- ---- the least times that are computed

pub in_filter : {X : Type 0} (p : X → Bool) (xs : List X) (k : ℕ) (x : X) → k < length xs → get_or xs k x ≡ x →
    p x ≡ true → Contains (filter p xs) x
in_filter p [] k x within is passes = absurd (omega arith)
in_filter p (y ∷ ys) zero x within is passes = grind arith
in_filter p (y ∷ ys) (suc k) x within is passes = by (p y) (in_filter p ys k x (omega arith) is passes)
  where
    by : (b : Bool) → Contains (filter p ys) x → Contains (cond b (y ∷ filter p ys) (filter p ys)) x
    by true there = shifted y (filter p ys) x there
    by false there = there

pub alike : (f g : Step → ℕ) (xs : List Step) → All (λ x. f x ≡ g x) xs → map f xs ≡ map g xs
alike f g [] same = refl
alike f g (x ∷ xs) same =
    λ i. All-head (λ x. f x ≡ g x) x xs same i ∷ alike f g xs (All-tail (λ x. f x ≡ g x) x xs same) i

pub no_step : Step
no_step = record { from = 0; to = 0; lower = 0; extra = 0 }

module _ (problem : DelayProblem) (steps : List Step) where
  into : ℕ → List Step
  into event = filter (λ step. step.to == event) steps

  pub first : pushed_often problem steps 0 ≡ problem.earliest
  unfolding pushed_often
  first = refl

  pub next : (k : ℕ) → pushed_often problem steps (suc k) ≡ pushed problem steps (pushed_often problem steps k)
  unfolding pushed_often
  next k = refl

  at_pushed : (times : List ℕ) (event : ℕ) → event < length problem.events →
      time_at (pushed problem steps times) event ≡ pushed_at problem steps times event
  at_pushed times event within = grind (arith, get_or-map-range_with_len)

  at_next : (k event : ℕ) → event < length problem.events →
      time_at (pushed_often problem steps (suc k)) event ≡ pushed_at problem steps
      (pushed_often problem steps k) event
  at_next k event within =
      ap (λ times. time_at times event) (next k) ∙ at_pushed (pushed_often problem steps k) event within

  -- the steps into an event are steps, and go into it
  pub into_are : (event k : ℕ) → k < length (filter (λ step. step.to == event) steps) →
      Contains steps (get_or (filter (λ step. step.to == event) steps) k no_step)
      × ((get_or (filter (λ step. step.to == event) steps) k no_step).to ≡ event)
  into_are event k within = let xs = filter (λ step. step.to == event) steps in (
    All-filter (λ step. step.to == event) (Contains steps) steps
        (All-contains_itself steps) k no_step within,
    (Decides-eqb (get_or xs k no_step).to event).0
        (filter_passes (λ step. step.to == event) steps k no_step within),
  )

  -- what is pushed is at most what any times ask that fit
  pushed_below : (times others : List ℕ) →
      ((event : ℕ) → event < length problem.events → earliest_at problem event ≤ time_at others event)
      → All (λ step. asked others step ≤ time_at others step.to) steps →
      All (λ step. time_at times step.from ≤ time_at others step.from) steps
      → (event : ℕ) → event < length problem.events →
      pushed_at problem steps times event ≤ time_at others event
  pushed_below times others earliest fits tails event within =
      by (latest_reached (earliest_at problem event) (map (asked times) (filter (λ step. step.to == event) steps)))
    where
      by : (pushed_at problem steps times event ≡ earliest_at problem event) ⊎ Contains
          (map (asked times) (filter (λ step. step.to == event) steps))
          (pushed_at problem steps times event) → pushed_at problem steps times event ≤ time_at others event
      by (inl e) = subst (λ t. t ≤ time_at others event) (sym e) (earliest event within)
      by (inr there) =
          let xs = filter (λ step. step.to == event) steps in
          let inside : there.0 < length xs = omega (arith, length-map xs (asked times), there.1) in
          let step = get_or xs there.0 no_step in let is = into_are event there.0 inside in
          let value : asked times step ≡ pushed_at problem steps times event =
          sym (get_or-map (asked times) xs there.0 no_step
          (pushed_at problem steps times event) inside) ∙ there.2 in
          let head : asked others step ≤ time_at others event =
          subst (λ e. asked others step ≤ time_at others e) is.1
          (All-contains (λ step. asked others step ≤ time_at others step.to) steps step fits is.0) in
          let tail =
          All-contains
          (λ step. time_at times step.from ≤ time_at others step.from) steps step tails is.0 in
          omega (arith, value, head, tail)

  -- what is pushed is at least the earliest time and what each step into the event asks
  pushed_above : (times : List ℕ) (step : Step) → Contains steps step →
      asked times step ≤ pushed_at problem steps times step.to
  pushed_above times step there =
      let xs = filter (λ other. other.to == step.to) steps in
      let place =
      in_filter (λ other. other.to == step.to) steps there.0 step there.1 there.2
      ((Decides-eqb step.to step.to).1 refl) in
      let bounds =
      latest_bounds (earliest_at problem step.to) (map (asked times) xs) in
      All-contains (λ x. x ≤ pushed_at problem steps times step.to) (map (asked times) xs)
      (asked times step) bounds.1 (
        place.0,
        omega (arith, length-map xs (asked times), place.1),
        get_or-map
            (asked times) xs place.0 step (asked times step) place.1 ∙ ap (asked times) place.2,
      )

  pushed_late : (times : List ℕ) (event : ℕ) →
      earliest_at problem event ≤ pushed_at problem steps times event
  pushed_late times event =
      (latest_bounds (earliest_at problem event) (map (asked times) (filter (λ step. step.to == event) steps))).0

  rounds_below : (others : List ℕ) →
      ((event : ℕ) → event < length problem.events → earliest_at problem event ≤ time_at others event)
      → All (λ step. asked others step ≤ time_at others step.to) steps →
      All (λ step. step.from < length problem.events) steps
      → (k event : ℕ) → event < length problem.events →
      time_at (pushed_often problem steps k) event ≤ time_at others event
  rounds_below others earliest fits from zero event within =
      subst (λ times. time_at times event ≤ time_at others event) (sym first) (earliest event within)
  rounds_below others earliest fits from (suc k) event within =
      subst (λ t. t ≤ time_at others event) (sym (at_next k event within))
      (pushed_below (pushed_often problem steps k) others earliest fits
      (λ j d w. rounds_below others earliest fits from k (get_or steps j d).from
      (from j d w)) event within)

  long : length problem.earliest ≡ length problem.events → (k : ℕ) →
      length (pushed_often problem steps k) ≡ length problem.events
  long each zero = ap (λ (times : List ℕ). length times) first ∙ each
  long each (suc k) = grind (arith, next, length-map-range_with_len)

  module _ (ranks : ℕ → ℕ) (rises : All (λ step. ranks step.from < ranks step.to) steps)
      (from : All (λ step. step.from < length problem.events) steps) where
    lower : (event k : ℕ) → k < length (filter (λ step. step.to == event) steps) →
        ranks (get_or (filter (λ step. step.to == event) steps) k no_step).from < ranks event
    lower event k within = grind (arith, into_are, get_or, no_step, All-contains)

    is_nil : (xs : List Step) → ¬ (0 < length xs) → xs ≡ []
    is_nil [] no_one = refl
    is_nil (x ∷ xs) no_one = absurd (no_one (omega arith))

    settled : (k event : ℕ) → ranks event ≤ k → event < length problem.events →
        time_at (pushed_often problem steps (suc k)) event ≡ time_at (pushed_often problem steps k) event
    settled zero event low within =
        at_next 0 event within
        ∙ ap (λ xs. latest (earliest_at problem event) (map (asked (pushed_often problem steps 0)) xs))
        (is_nil (filter (λ step. step.to == event) steps)
        (λ some. omega (arith, lower event 0 some, low)))
        ∙ sym (ap (λ times. time_at times event) first)
    settled (suc k) event low within =
        at_next (suc k) event within
        ∙ ap (latest (earliest_at problem event))
        (alike (asked (pushed_often problem steps (suc k))) (asked (pushed_often problem steps k))
        (filter (λ step. step.to == event) steps)
        (All-from_get_or (λ step. asked (pushed_often problem steps (suc k)) step ≡ asked
        (pushed_often problem steps k) step) (filter (λ step. step.to == event) steps) no_step
        (λ j w. let step = get_or (filter (λ step. step.to == event) steps) j no_step in
        ap (λ t. t + minutes step) (settled k step.from (omega (arith, lower event j w, low))
        (All-contains (λ step. step.from < length problem.events) steps step from
        (into_are event j w).0)))))
        ∙ sym (at_next k event within)

    fixed : (k event : ℕ) → ranks event ≤ k → event < length problem.events →
        time_at (pushed_often problem steps k) event ≡ pushed_at problem steps
        (pushed_often problem steps k) event
    fixed k event low within = sym (settled k event low within) ∙ at_next k event within

pub least_times_are_least : (problem : DelayProblem) (kept : List Activity) → IsForward problem
    → AreChanges problem kept → IsLeast problem kept (least_times problem kept)
unfolding least_times
least_times_are_least problem kept forward among =
    let steps = steps_with problem kept in let all = forward_with problem kept forward among in
    let rises =
    All-weaker (GoesForward problem.events)
    (λ step. rank problem.events step.from < rank problem.events step.to)
    (rising problem.events) steps all in
    let from =
    All-weaker (GoesForward problem.events) (λ step. step.from < length problem.events)
    (λ step goes. goes.from) steps all in
    let fix = λ (event : ℕ) (within : event < length problem.events). fixed problem steps
    (rank problem.events) rises from (length problem.events) event
    (few_before problem.events event) within in
    record {
      feasible = record {
        each = long problem steps forward.each (length problem.events);
        earliest =
            λ event within. subst (λ t. earliest_at problem event ≤ t) (sym (fix event within))
            (pushed_late problem steps (least_times problem kept) event);
        steps = λ k d within. let step = get_or steps k d in
            subst (λ t. asked (least_times problem kept) step ≤ t) (sym (fix step.to (all k d within).to))
            (pushed_above problem steps (least_times problem kept) step (Contains-get_or steps k d within));
      };
      least = λ others fits event within. rounds_below problem steps others fits.earliest fits.steps from
          (length problem.events) event within;
    }

pub least_is_one : (problem : DelayProblem) (kept : List Activity) (times others : List ℕ)
    → IsLeast problem kept times → IsLeast problem kept others → times ≡ others
least_is_one problem kept times others h g =
    ext_get_or (0) times others (h.feasible.each ∙ sym g.feasible.each) (λ event within.
    let inside : event < length problem.events = omega (arith, within, h.feasible.each) in
    omega (arith, h.least others g.feasible event inside, g.least times h.feasible event inside))

-- what holds of each step with more changes holds of each with fewer
pub steps_fewer : (P : Step → Type 0) (problem : DelayProblem) (fewer more : List Activity) →
    All (λ change. Contains more change) fewer → All P (steps_with problem more) →
    All P (steps_with problem fewer)
steps_fewer P problem fewer more among all =
    let rides = problem.rides in let steps = steps_with problem more in
    let of : (a : Activity) → Contains (rides ++ more) a →
    P a.step = λ a there. All-contains P steps a.step all
    (Contains-append_left (map (λ (at : Activity). at.step) (rides ++ more)) problem.turns a.step
    (mapped (λ (at : Activity). at.step) (rides ++ more) a there)) in
    All-append P (map (λ (at : Activity). at.step) (rides ++ fewer)) problem.turns
    (All-map P (λ (at : Activity). at.step) (rides ++ fewer) (All-append (λ a. P a.step) rides fewer
    (λ k d within. of (get_or rides k d)
    (Contains-append_left rides more (get_or rides k d) (Contains-get_or rides k d within)))
    (λ k d within. of (get_or fewer k d)
    (Contains-append_right rides more (get_or fewer k d) (among k d within)))))
    (λ k d within. All-contains P steps (get_or problem.turns k d) all
    (Contains-append_right (map (λ (at : Activity). at.step) (rides ++ more)) problem.turns (get_or problem.turns k d)
    (Contains-get_or problem.turns k d within)))

-- no event is earlier where more changes are kept
pub times_grow : (problem : DelayProblem) (fewer more : List Activity) (times others : List ℕ)
    → All (λ change. Contains more change) fewer → IsLeast problem fewer times
    → IsLeast problem more others → (event : ℕ) → event < length problem.events
    → time_at times event ≤ time_at others event
times_grow problem fewer more times later among h g event within =
    h.least later (record {
      each = g.feasible.each;
      earliest = g.feasible.earliest;
      steps = steps_fewer
          (λ step. asked later step ≤ time_at later step.to) problem fewer more among g.feasible.steps;
    }) event within

pub kept_are_changes : (problem : DelayProblem) (test : Activity → Bool) →
    AreChanges problem (filter test problem.changes)
kept_are_changes problem test =
    All-filter test (Contains problem.changes) problem.changes (All-contains_itself problem.changes)

pub disposition_is_one : (problem : DelayProblem) (wait : ℤ) → IsForward problem
    → IsDisposition problem wait (disposition problem wait)
    × ((times : List ℕ) → IsDisposition problem wait times → times ≡ disposition problem wait)
unfolding kept_changes
disposition_is_one problem wait forward =
    let alone_least = least_times_are_least problem [] forward (λ k d within. absurd (omega arith)) in (
      record {
        alone = times_alone problem;
        alone_least = alone_least;
        least = least_times_are_least problem (kept_changes problem wait) forward
            (kept_are_changes problem (is_kept problem wait (times_alone problem)));
      },
      λ times is.
          let alone : is.alone ≡ times_alone problem =
          least_is_one problem [] is.alone (times_alone problem) is.alone_least alone_least in
          least_is_one problem (kept_changes problem wait) times (disposition problem wait)
          (subst (λ a. IsLeast problem (filter (is_kept problem wait a) problem.changes) times) alone is.least)
          (least_times_are_least problem (kept_changes problem wait) forward
          (kept_are_changes problem (is_kept problem wait (times_alone problem)))),
    )

pub least_is_pushed : (problem : DelayProblem) (kept : List Activity) (times : List ℕ) → IsForward problem →
    AreChanges problem kept → IsLeast problem kept times
    → (event : ℕ) → event < length problem.events →
    time_at times event ≡ pushed_at problem (steps_with problem kept) times event
unfolding least_times
least_is_pushed problem kept times forward among least event within =
    let steps = steps_with problem kept in let all = forward_with problem kept forward among in
    let rises =
    All-weaker (GoesForward problem.events)
    (λ step. rank problem.events step.from < rank problem.events step.to)
    (rising problem.events) steps all in
    let from =
    All-weaker (GoesForward problem.events) (λ step. step.from < length problem.events)
    (λ step goes. goes.from) steps all in
    let same : least_times problem kept ≡ times =
    least_is_one problem kept (least_times problem kept) times
    (least_times_are_least problem kept forward among) least in
    subst (λ ts. time_at ts event ≡ pushed_at problem steps ts event) same
    (fixed problem steps (rank problem.events) rises from (length problem.events) event
    (few_before problem.events event) within)

-- What the pass along the links of a problem gives are its least times.
use Rattle.plan_num.proofs.Common.{◌≡◌, ◌∙◌, ℕ, zero, suc, ◌+◌, ◌<◌, ◌≤◌, Bool, true, false, List}
use Rattle.plan_num.proofs.Common.{[], ◌∷◌, ◌++◌, length, map, get_or, All, Option, Some, None}
use Rattle.plan_num.proofs.Common.{Result, Ok, Err, IfOk, refl, sym, subst, arith, Contains}
use Rattle.plan_num.proofs.Common.{enumerate_from, items_where_true, get_or-map, get_or-append-add}
use Rattle.plan_num.proofs.Common.{length-append, length-map, get_or-append, All-append, All-cons}
use Rattle.plan_num.proofs.Common.{All-map, All-nil, Contains-get_or, get_or-enumerate_from}
use Rattle.plan_num.proofs.Common.{length-enumerate_from, All-permutation, IsPermutation-sym}
use Rattle.propagation.specs.declared.day_event.DayEvent.{DayEvent}
use Rattle.propagation.specs.DayEvents.{forward_rank}
use Rattle.propagation.proofs.RanksRise.{rank_rises}
use Rattle.propagation.specs.declared.links.Link.{Link}
use Rattle.propagation.specs.declared.step.Activity.{Activity}
use Rattle.propagation.specs.declared.step.Step.{Step}
use Rattle.propagation.specs.LeastTimes.{IsLeast, asked, least_times, time_at}
use Rattle.propagation.specs.Links.{IsLinked, change_links, link_of, links_of, pushed_along, ride_links, turn_links}
use Rattle.propagation.specs.Problems.{AreChanges, DelayProblem, GoesForward, steps_with}
use Rattle.propagation.specs.Waiting.{chosen_changes}
use Rattle.propagation.proofs.ForwardPass.{Holds, Joins, below, closed, grows, long}
use Rattle.propagation.proofs.Rounds.{least_is_one, least_times_are_least}

-- ---- what holds of parts of lists

pub front_all : {X : Type 0} (P : X → Type 0) (xs ys : List X) → All P (xs ++ ys) → All P xs
front_all P xs ys all k d inside =
    subst P (get_or-append xs ys d k inside) (all k d (omega (arith, inside, length-append xs ys)))

pub back_all : {X : Type 0} (P : X → Type 0) (xs ys : List X) → All P (xs ++ ys) → All P ys
back_all P xs ys all k d inside =
    subst P (get_or-append-add xs ys k d) (all (length xs + k) d (omega (arith, inside, length-append xs ys)))

pub unmapped_all : {X Y : Type 0} (P : Y → Type 0) (f : X → Y) (xs : List X) → All P (map f xs)
    → All (λ x. P (f x)) xs
unmapped_all P f xs all k d inside =
    subst P (get_or-map f xs k d (f d) inside) (all k (f d) (omega (arith, inside, length-map xs f)))

-- what holds of each one that is chosen
pub chosen_all : {X : Type 0} (P : X → Type 0) (kept : List Bool) (xs : List X)
    → ((k : ℕ) (d : X) → k < length xs → get_or kept k false ≡ true → P (get_or xs k d))
    → All P (items_where_true kept xs)
chosen_all P [] xs each = All-nil P
chosen_all P (b ∷ kept) [] each = All-nil P
chosen_all P (true ∷ kept) (x ∷ xs) each =
    All-cons P x (items_where_true kept xs) (each 0 x (omega arith) refl)
    (chosen_all P kept xs (λ k d inside is. each (suc k) d (omega (arith, inside)) is))
chosen_all P (false ∷ kept) (x ∷ xs) each =
    chosen_all P kept xs (λ k d inside is. each (suc k) d (omega (arith, inside)) is)

pub all_chosen : {X : Type 0} (P : X → Type 0) (kept : List Bool) (xs : List X)
    → All P (items_where_true kept xs) → (k : ℕ) (d : X) → k < length xs → get_or kept k false ≡ true
    → P (get_or xs k d)
all_chosen P [] xs all k d inside is = let e : false ≡ true = is in absurd (cc)
all_chosen P (b ∷ kept) [] all k d inside is = absurd (omega (arith, inside))
all_chosen P (true ∷ kept) (x ∷ xs) all zero d inside is = all 0 d (omega arith)
all_chosen P (false ∷ kept) (x ∷ xs) all zero d inside is = let e : false ≡ true = is in absurd (cc)
all_chosen P (true ∷ kept) (x ∷ xs) all (suc k) d inside is =
    all_chosen P kept xs (λ j e within. all (suc j) e (omega (arith, within))) k d (omega (arith, inside)) is
all_chosen P (false ∷ kept) (x ∷ xs) all (suc k) d inside is =
    all_chosen P kept xs all k d (omega (arith, inside)) is

pub chosen_are_changes : (problem : DelayProblem) (kept : List Bool)
    → AreChanges problem (chosen_changes problem kept)
chosen_are_changes problem kept =
    chosen_all (Contains problem.changes) kept problem.changes
    (λ k d inside _. Contains-get_or problem.changes k d inside)

-- what stands at a place, with its place
pub placed_at : {X : Type 0} (xs : List X) (k : ℕ) (d : ℕ × X) → k < length xs
    → get_or (enumerate_from 0 xs) k d ≡ (k, get_or xs k d.1)
placed_at xs k d inside = grind (arith, get_or-enumerate_from, get_or)

-- ---- the links of a problem

module _ (problem : DelayProblem) where
  abbrev events : List DayEvent
  events = problem.events

  abbrev change_link : ℕ × Activity → Link
  change_link at = link_of events (Some at.0) at.1.step

  -- what holds of the links holds of the steps
  module _ (P : Link → Type 0) where
    pub links_all : All (λ ride. P (link_of events None ride.step)) problem.rides
        → All (λ turn. P (link_of events None turn)) problem.turns
        → ((k : ℕ) (d : Activity) → k < length problem.changes
        → P (link_of events (Some k) (get_or problem.changes k d).step))
        → All P (links_of problem)
    links_all rides turns changes =
        All-append P (ride_links events problem.rides)
        (turn_links events problem.turns ++ change_links events 0 problem.changes)
        (All-map P (λ ride. link_of events None ride.step) problem.rides rides)
        (All-append P (turn_links events problem.turns) (change_links events 0 problem.changes)
        (All-map P (link_of events None) problem.turns turns)
        (All-map P change_link (enumerate_from 0 problem.changes)
        (λ k d inside. let within : k < length problem.changes =
        omega (arith, inside, length-enumerate_from 0 problem.changes) in
        subst (λ at. P (change_link at)) (sym (placed_at problem.changes k d within)) (changes k d.1 within))))

    module _ (all : All P (links_of problem)) where
      rides_by : All (λ ride. P (link_of events None ride.step)) problem.rides
      rides_by =
          unmapped_all P (λ (ride : Activity). link_of events None ride.step) problem.rides
          (front_all P (ride_links events problem.rides)
          (turn_links events problem.turns ++ change_links events 0 problem.changes) all)

      behind : All P (turn_links events problem.turns ++ change_links events 0 problem.changes)
      behind = back_all P (ride_links events problem.rides)
          (turn_links events problem.turns ++ change_links events 0 problem.changes) all

      turns_by : All (λ turn. P (link_of events None turn)) problem.turns
      turns_by =
          unmapped_all P (link_of events None) problem.turns
          (front_all P (turn_links events problem.turns) (change_links events 0 problem.changes) behind)

      change_by : (k : ℕ) (d : Activity) → k < length problem.changes
          → P (link_of events (Some k) (get_or problem.changes k d).step)
      change_by k d inside =
          let at = unmapped_all P change_link (enumerate_from 0 problem.changes)
          (back_all P (turn_links events problem.turns) (change_links events 0 problem.changes) behind) in
          subst (λ at. P (change_link at)) (placed_at problem.changes k (0, d) inside)
          (at k (0, d) (omega (arith, inside, length-enumerate_from 0 problem.changes)))

  -- what holds of the steps of rides, of kept changes and of turns
  module _ (P : Step → Type 0) (some : List Activity) where
    pub steps_all : All (λ ride. P ride.step) problem.rides → All (λ change. P change.step) some
        → All P problem.turns → All P (steps_with problem some)
    steps_all rides changes turns =
        All-append P (map (λ (at : Activity). at.step) (problem.rides ++ some)) problem.turns
        (All-map P (λ (at : Activity). at.step) (problem.rides ++ some)
        (All-append (λ at. P at.step) problem.rides some rides changes)) turns

    module _ (all : All P (steps_with problem some)) where
      activity_steps : All (λ at. P at.step) (problem.rides ++ some)
      activity_steps = unmapped_all P (λ (at : Activity). at.step) (problem.rides ++ some)
          (front_all P (map (λ (at : Activity). at.step) (problem.rides ++ some)) problem.turns all)

      pub ride_steps : All (λ ride. P ride.step) problem.rides
      ride_steps = front_all (λ at. P at.step) problem.rides some activity_steps

      pub change_steps : All (λ change. P change.step) some
      change_steps = back_all (λ at. P at.step) problem.rides some activity_steps

      pub turn_steps : All P problem.turns
      turn_steps = back_all P (map (λ (at : Activity). at.step) (problem.rides ++ some)) problem.turns all

module _ (problem : DelayProblem) (links : List Link) (linked : IsLinked problem links) where
  abbrev n : ℕ
  n = length problem.events

  abbrev ranks : ℕ → ℕ
  ranks = forward_rank problem.events

  joined : (change : Option ℕ) (step : Step) → GoesForward problem.events step
      → Joins n ranks (link_of problem.events change step)
  joined change step goes = grind (arith, rank_rises)

  pub all_join : All (Joins n ranks) links
  all_join =
      let P = GoesForward problem.events in
      let all = linked.forward.steps in
      All-permutation (Joins n ranks) (links_of problem) links linked.all
      (links_all problem (Joins n ranks)
      (λ k d inside. joined None (get_or problem.rides k d).step (ride_steps problem P problem.changes all k d inside))
      (λ k d inside. joined None (get_or problem.turns k d) (turn_steps problem P problem.changes all k d inside))
      (λ k d inside. joined (Some k) (get_or problem.changes k d).step
      (change_steps problem P problem.changes all k d inside)))

  module _ (kept : List Bool) where
    abbrev chosen : List Activity
    chosen = chosen_changes problem kept

    -- times that satisfy the steps satisfy the links that count, and conversely
    pub steps_hold : (times : List ℕ) → All (Holds kept times) links
        → All (λ step. asked times step ≤ time_at times step.to) (steps_with problem chosen)
    steps_hold times hold =
        let P = λ (step : Step). asked times step ≤ time_at times step.to in
        let all = All-permutation (Holds kept times) links (links_of problem)
        (IsPermutation-sym (links_of problem) links linked.all) hold in
        steps_all problem P chosen (λ k d inside. rides_by problem (Holds kept times) all k d inside refl)
        (chosen_all (λ change. P change.step) kept problem.changes
        (λ k d inside is. change_by problem (Holds kept times) all k d inside is))
        (λ k d inside. turns_by problem (Holds kept times) all k d inside refl)

    pub links_hold : (times : List ℕ)
        → All (λ step. asked times step ≤ time_at times step.to) (steps_with problem chosen)
        → All (Holds kept times) links
    links_hold times all =
        let P = λ (step : Step). asked times step ≤ time_at times step.to in
        All-permutation (Holds kept times) (links_of problem) links linked.all
        (links_all problem (Holds kept times)
        (λ k d inside _. ride_steps problem P chosen all k d inside)
        (λ k d inside _. turn_steps problem P chosen all k d inside)
        (λ k d inside is. all_chosen (λ change. P change.step) kept problem.changes
        (change_steps problem P chosen all) k d inside is))

    pub pass_is_least : IsLeast problem chosen (pushed_along kept links problem.earliest)
    pass_is_least =
        let each = linked.forward.each in
        let times = pushed_along kept links problem.earliest in
        record {
          feasible = record {
            each = long kept n ranks links problem.earliest all_join each;
            earliest = λ event inside. grows kept n ranks links problem.earliest all_join each event;
            steps = steps_hold times (closed kept n ranks links problem.earliest linked.in_order all_join each);
          };
          least = λ others fits. below kept n ranks others links problem.earliest all_join each
              (links_hold others fits.steps) fits.earliest;
        }

    pub pass_is : pushed_along kept links problem.earliest ≡ least_times problem chosen
    pass_is =
        least_is_one problem chosen (pushed_along kept links problem.earliest) (least_times problem chosen)
        pass_is_least (least_times_are_least problem chosen linked.forward (chosen_are_changes problem kept))

-- ---- the same of what a pass over the parts of a problem gives

module _ (whole problem : DelayProblem) (links seen : List Link)
    (earliest : List ℕ) (linked : IsLinked whole links) (same : whole ≡ problem) (is : seen ≡ links)
    (from : earliest ≡ whole.earliest) (kept : List Bool) where
  pub ends_there : All (λ link. (link.step.from < length earliest) × (link.step.to < length earliest)) seen
  ends_there =
      subst (All (λ link. (link.step.from < length earliest) × (link.step.to < length earliest))) (sym is)
      (λ k d inside.
      let joins = all_join whole links linked k d inside in grind arith)

  passed : pushed_along kept seen earliest ≡ pushed_along kept links whole.earliest
  passed = λ i. pushed_along kept (is i) (from i)

  pub least_told : {A E : Type 0} (view : A → List ℕ) (result : Result A E)
      → IfOk result (λ times. view times ≡ pushed_along kept seen earliest)
      → IfOk result (λ times. view times ≡ least_times problem (chosen_changes problem kept))
  least_told view (Ok times) told = grind (arith, passed, pass_is)
  least_told view (Err error) told = tt

  pub told_least : {A E : Type 0} (view : A → List ℕ) (result : Result A E)
      → IfOk result (λ times. view times ≡ pushed_along kept seen earliest)
      → IfOk result (λ times. IsLeast problem (chosen_changes problem kept) (view times))
  told_least view (Ok times) told =
      subst (λ all. IsLeast problem (chosen_changes problem kept) all) (sym (told ∙ passed))
      (subst (λ p. IsLeast p (chosen_changes p kept) (pushed_along kept links whole.earliest)) same
      (pass_is_least whole links linked kept))
  told_least view (Err error) told = tt

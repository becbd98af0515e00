-- Changes that are kept one after the other, and taken back.
use Rattle.plan_num.proofs.Common.{◌≡◌, ◌∙◌, ℕ, zero, suc, ◌+◌, ◌<◌, ◌≤◌, ◌⊎◌, inl, inr, Bool, true}
use Rattle.plan_num.proofs.Common.{false, List, [], ◌∷◌, ◌++◌, length, get_or, not, slice_set, All}
use Rattle.plan_num.proofs.Common.{Option, None, Some, ap, refl, sym, subst, arith, replicate}
use Rattle.plan_num.proofs.Common.{items_where_true, false≢true, get_or-eq_default, get_or_default}
use Rattle.plan_num.proofs.Common.{get_or-map-range_with_len, All-permutation}
use Rattle.propagation.specs.declared.links.Link.{Link}
use Rattle.propagation.specs.declared.step.Activity.{Activity}
use Rattle.propagation.proofs.Common.{rank_rises, IsFeasible, IsLeast, asked, least_times, time_at}
use Rattle.propagation.proofs.Common.{GainsLittle, IsLinked, counts, links_of, DelayProblem}
use Rattle.propagation.proofs.Common.{GoesForward, IsForward, chosen_changes, all_chosen}
use Rattle.propagation.proofs.Common.{change_steps, links_all, links_hold, steps_hold}
use Rattle.delay_trials.specs.declared.moved_event.Moved.{Moved}
use Rattle.delay_trials.specs.declared.taken.Taken.{Taken}
use Rattle.delay_trials.specs.OnTrial.{AreOnce, AreSaved, DropsNotes, Follows, GoesBack, IsHeld}
use Rattle.delay_trials.specs.OnTrial.{IsSettlingBut, IsTaken, IsTrial, NoneWaits, StartsTrial, TrialTimes, decided_in}
use Rattle.delay_trials.specs.OnTrial.{rewound}
use Rattle.delay_trials.specs.Trials.{is_decided, kept_of, times_of}
use Rattle.bit_rows.proofs.Cases.{by_less, by_same}
use Rattle.delay_trials.proofs.Apart.{set_back, set_here, set_there}
use Rattle.delay_trials.proofs.Settling.{all_held, is_least, least_small}
use Rattle.delay_trials.proofs.TrialFacts.{dropped_on, kept_less, kept_on, kept_size, least_each, not_kept, open_flag}
use Rattle.delay_trials.proofs.TrialFacts.{open_more, starts, trial_least}

-- ---- one change more is kept

counts_more : (kept : List Bool) (change : ℕ) (at : Option ℕ) → counts kept at ≡ true
    → counts (slice_set kept change true) at ≡ true
counts_more kept change None is = is
counts_more kept change (Some k) is =
    grind (
      arith,
      by_same,
      by_less,
      get_or,
      slice_set,
      set_here,
      false≢true,
      get_or-eq_default,
      set_there,
    )

counts_but : (kept : List Bool) (change : ℕ) (at : Option ℕ) → counts (slice_set kept change true) at ≡ true
    → (counts kept at ≡ true) ⊎ (at ≡ Some change)
counts_but kept change None is = inl is
counts_but kept change (Some k) is = grind (arith, by_same, set_there, slice_set)

module _ (problem : DelayProblem) where
  -- the link of a change has the change's step
  abbrev IsOwn : ℕ → Activity → Link → Type 0
  IsOwn change d link = link.change ≡ Some change → link.step ≡ (get_or problem.changes change d).step

  some_is : (k change : ℕ) → Some k ≡ Some change → k ≡ change
  some_is k change is = grind arith

  none_is : (change : ℕ) → None ≡ Some change → ⊥
  none_is change is = grind (arith, false≢true)

  pub is_own : (at : Option ℕ) (change : ℕ) → (at ≡ Some change) ⊎ (at ≡ Some change → ⊥)
  is_own None change = inr (none_is change)
  is_own (Some k) change = grind (arith, by_same, some_is)

  pub own_links : (links : List Link) → IsLinked problem links → (change : ℕ) (d : Activity)
      → All (IsOwn change d) links
  own_links links linked change d =
      All-permutation (IsOwn change d) (links_of problem) links linked.all
      (links_all problem (IsOwn change d)
      (λ k e inside is. absurd (none_is change is))
      (λ k e inside is. absurd (none_is change is))
      (λ k e inside is. let same = some_is k change is in grind (arith, get_or, get_or_default)))

module _ (all : TrialTimes) (taken : List Taken) (kept : List Bool) (is : IsTaken all taken kept) (change : ℕ) (there : change < length all.problem.changes)
    (none : is_decided (decided_in taken) change ≡ false) where
  abbrev more : List Bool
  more = slice_set kept change true

  abbrev linked : IsLinked all.problem all.links
  linked = is.linked

  least_now : IsLeast all.problem (chosen_changes all.problem kept) all.times
  least_now =
      subst (λ kept. IsLeast all.problem (chosen_changes all.problem kept) all.times) (sym is.trial.flags)
      (trial_least all.problem linked.forward (decided_in taken) all.times is.trial.told)

  fits_fewer : IsFeasible all.problem (chosen_changes all.problem kept)
      (least_times all.problem (chosen_changes all.problem more))
  fits_fewer = grind (arith, is_least, steps_hold, all_held, counts_more, get_or)

  -- the links of the change alone may not hold yet
  starts_settling : (opened : TrialTimes) (d : Activity)
      → opened ≡ record all { open_yet = slice_set all.open_yet change false }
      → IsSettlingBut more (get_or all.problem.changes change d).step opened
  starts_settling opened d one =
      let problem = all.problem in
      let goes = change_steps problem
      (GoesForward problem.events) problem.changes linked.forward.steps change d there in
      let gains = change_steps problem (GainsLittle problem.events) problem.changes linked.gains change d there in
      let step = (get_or problem.changes change d).step in
      subst (IsSettlingBut more step) (sym one) (record {
        linked = linked;
        each = is.trial.each;
        joins = (goes.from, goes.to);
        rises = rank_rises problem.events step.from step.to linked.numbered linked.few goes.from goes.to goes.before;
        small =
            let time = is.trial.small step.from 0 (omega (arith, goes.from, is.trial.each)) in
            let planned = linked.late step.to goes.to in
            let soon = linked.soon step.to 0 (omega (arith, goes.to, linked.forward.each)) in
            omega (arith, time, gains, planned, soon);
        holds = all_chosen (λ (change : Activity). asked least_more change.step ≤ time_at least_more change.step.to) more problem.changes
            (change_steps problem (λ step. asked least_more step ≤ time_at least_more step.to)
            (chosen_changes problem more)
            (is_least problem all.links linked more).feasible.steps) change d there kept_now;
        earliest = least_now.feasible.earliest;
        most = least_now.least least_more fits_fewer;
        held = λ k e inside. by k e inside (is_own problem (get_or all.links k e).change change);
        none = is.rest;
      })
    where
      least_more : List ℕ
      least_more = least_times all.problem (chosen_changes all.problem more)

      kept_now : get_or more change false ≡ true
      kept_now = set_here kept more change true false (λ i. more)
          (omega (arith, there, kept_size all.problem (decided_in taken) kept all.open_yet all.times is.trial))

      by : (k : ℕ) (e : Link) → k < length all.links
          → ((get_or all.links k e).change ≡ Some change) ⊎ ((get_or all.links k e).change ≡ Some change → ⊥)
          → ((get_or all.links k e).step ≡ (get_or all.problem.changes change d).step)
          ⊎ IsHeld more all.times (get_or all.links k e)
      by k e inside (inl own) = inl (own_links all.problem all.links linked change d k e inside own)
      by k e inside (inr other) = grind (arith, counts_but, get_or, links_hold, least_now)

  pub settles_from : (opened : TrialTimes) (d : Activity)
      → opened ≡ record all { open_yet = slice_set all.open_yet change false }
      → (flags : List Bool) → flags ≡ more → (seen : List Activity) → seen ≡ all.problem.changes
      → IsSettlingBut flags (get_or seen change d).step opened
  settles_from opened d one flags are seen same =
      subst (λ flags. IsSettlingBut flags (get_or seen change d).step opened) (sym are)
      (subst (λ changes. IsSettlingBut more (get_or changes change d).step opened) (sym same)
      (starts_settling opened d one))

  -- ---- the change is kept

  abbrev last : Bool → Taken
  last noted = record { decided = record { change = change; kept = true }; moved = length all.noted; is_noted = noted }

  module _ (opened waiting now : TrialTimes) (one : opened
      ≡ record all { open_yet = slice_set all.open_yet change false })
      (two : waiting ≡ record opened { waiting = waiting.waiting }) (follows : Follows waiting now) where
    told : waiting ≡ record all { open_yet = slice_set all.open_yet change false; waiting = waiting.waiting }
    told = two ∙ ap (λ (t : TrialTimes). record t { waiting = waiting.waiting }) one

    problem_is : now.problem ≡ all.problem
    problem_is = follows.problem ∙ ap (λ (t : TrialTimes). t.problem) told

    links_are : now.links ≡ all.links
    links_are = follows.links ∙ ap (λ (t : TrialTimes). t.links) told

    linked_now : IsLinked now.problem now.links
    linked_now = grind (arith, problem_is, links_are)

    open_is : now.open_yet ≡ slice_set all.open_yet change false
    open_is = follows.open_yet ∙ ap (λ (t : TrialTimes). t.open_yet) told

    noted_is : now.noted ≡ follows.back.0 ++ all.noted
    noted_is = follows.back.1 ∙ ap (λ (t : TrialTimes). follows.back.0 ++ t.noted) told

    back_is : rewound follows.back.0 now.times ≡ all.times
    back_is = follows.back.2 ∙ ap (λ (t : TrialTimes). t.times) told

    kept_trial : now.times ≡ least_times waiting.problem (chosen_changes waiting.problem more)
        → IsTrial now.problem (record { change = change; kept = true } ∷ decided_in taken) more now.open_yet now.times
    kept_trial least =
        let problem = all.problem in
        let waiting_is = ap (λ (t : TrialTimes). t.problem) told in
        let least_is = least ∙ ap (λ (p : DelayProblem). least_times p (chosen_changes p more)) waiting_is in
        let small = subst (All (λ time. time ≤ 600000000000)) (sym least_is)
        (least_small problem all.links linked more) in
        subst (λ p. IsTrial p (record { change = change; kept = true } ∷ decided_in taken) more now.open_yet now.times)
        (sym problem_is)
        (kept_on problem (decided_in taken) kept all.open_yet all.times is.trial change there none more now.open_yet now.times
        (λ i. more) open_is linked.forward least_is small)

    pub kept_taken : (dropped : TrialTimes) (stay : Bool) → DropsNotes (length all.noted) stay now dropped
        → now.times ≡ least_times waiting.problem (chosen_changes waiting.problem more)
        → NoneWaits now → IsTaken dropped (last stay ∷ taken) more
    unfolding AreSaved
    kept_taken dropped true drops least rest = grind (
      arith,
      linked_now,
      kept_trial,
      problem_is,
      noted_is,
      back_is,
      told,
    )
    kept_taken dropped false drops least rest = grind (
      arith,
      noted_is,
      linked_now,
      kept_trial,
      problem_is,
      told,
    )

    -- ---- and where memory runs out, all is as it was
    pub kept_not : (forgot undone now_last : TrialTimes) → forgot ≡ record now { waiting = forgot.waiting }
        → NoneWaits forgot
        → ((top rest : List Moved) → forgot.noted ≡ top ++ rest → length rest ≡ length all.noted
        → undone ≡ record forgot { times = rewound top forgot.times; noted = rest })
        → now_last ≡ record undone { open_yet = slice_set undone.open_yet change true }
        → now_last ≡ record all { waiting = forgot.waiting }
    kept_not forgot undone now_last three none_waits undo four =
        let noted = ap (λ (t : TrialTimes). t.noted) three ∙ noted_is in
        let undone_is = undo follows.back.0 all.noted noted (λ i. length all.noted) in
        let times = ap (λ (t : TrialTimes). rewound follows.back.0 t.times) three ∙ back_is in
        let flag : get_or all.open_yet change false ≡ true =
        open_flag all.problem (decided_in taken) kept all.open_yet all.times is.trial change there ∙ ap not none in
        let open_back : slice_set (slice_set all.open_yet change false) change true ≡ all.open_yet =
        ap (slice_set (slice_set all.open_yet change false) change) (sym flag)
        ∙ set_back all.open_yet change false false in
        four
        ∙ ap (λ (t : TrialTimes). record t { open_yet = slice_set t.open_yet change true }) undone_is
        ∙ ap (λ (t : TrialTimes). record t {
          open_yet = slice_set t.open_yet change true;
          times = rewound follows.back.0 forgot.times;
          noted = all.noted;
        }) three
        ∙ (λ i. record {
          problem = problem_is i;
          links = links_are i;
          times = times i;
          open_yet = (ap (λ flags. slice_set flags change true) open_is ∙ open_back) i;
          noted = all.noted;
          waiting = forgot.waiting;
        })

  pub flags_back : slice_set more change false ≡ kept
  flags_back =
      let here : 0 + change ≡ change = omega arith in
      let flag : get_or kept change false ≡ false = grind (
        arith,
        get_or,
        get_or-map-range_with_len,
        not_kept,
      ) in grind (arith, slice_set, set_back)

  pub taken_still : (now : TrialTimes) (waiting : List Bool) (flags : List Bool)
      → now ≡ record all { waiting = waiting }
      → ((k : ℕ) → get_or waiting k false ≡ false) → flags ≡ slice_set more change false → IsTaken now taken flags
  taken_still now waiting flags told rest back = grind (arith, told, flags_back)

  -- ---- the change is dropped
  pub dropped_taken : (now : TrialTimes) → now ≡ record all { open_yet = slice_set all.open_yet change false }
      → IsTaken now (record {
        decided = record { change = change; kept = false };
        moved = length all.noted;
        is_noted = true;
      } ∷ taken) kept
  unfolding AreSaved
  dropped_taken now one =
      subst (λ (t : TrialTimes). IsTaken t (record {
        decided = record { change = change; kept = false };
        moved = length all.noted;
        is_noted = true;
      } ∷ taken) kept) (sym one) (record {
        linked = linked;
        trial = dropped_on all.problem (decided_in taken) kept all.open_yet all.times is.trial change there none
            (slice_set all.open_yet change false) (λ i. slice_set all.open_yet change false);
        saved = grind (arith, told);
        rest = is.rest;
      })

-- ---- the last decision is taken back

module _ (all : TrialTimes) (last : Taken) (taken : List Taken) (kept : List Bool) (is : IsTaken all
    (last ∷ taken) kept) where
  -- the times before are back, and what is kept before
  back_taken : (undone now : TrialTimes) (flags : List Bool) (rest : List Moved)
      → undone ≡ record all { times = undone.times; noted = rest }
      → undone.times ≡ times_of (record { problem = all.problem; decided = decided_in taken })
      → AreSaved all.problem taken rest (times_of (record { problem = all.problem; decided = decided_in taken }))
      → now ≡ record undone { open_yet = slice_set undone.open_yet last.decided.change true }
      → flags ≡ slice_set kept last.decided.change false → IsTaken now taken flags
  unfolding AreOnce
  back_taken undone now flags rest undone_is times saved opened dropped = grind (
    arith,
    told,
    slice_set,
    kept_less,
    open_more,
    is_least,
    least_small,
  )

  -- the flags before are those that are left
  flags_before : (flags : List Bool) → flags ≡ slice_set kept last.decided.change false
      → flags ≡ kept_of (record { problem = all.problem; decided = decided_in taken })
  unfolding AreOnce
  flags_before flags dropped = grind (arith, slice_set, kept_less)

  pub taken_back : (undone now : TrialTimes) (flags : List Bool)
      → GoesBack last flags all undone
      → now ≡ record undone { open_yet = slice_set undone.open_yet last.decided.change true }
      → flags ≡ slice_set kept last.decided.change false → IsTaken now taken flags
  unfolding AreSaved
  taken_back undone now flags goes opened dropped = grind (arith, back_taken, flags_before)

  pub undone_problem : (undone : TrialTimes) (flags : List Bool) → GoesBack last flags all undone
      → undone.problem ≡ all.problem
  unfolding AreSaved
  undone_problem undone flags goes = grind arith

  pub last_there : last.decided.change < length all.problem.changes
  unfolding AreOnce
  last_there = is.trial.once.0

-- ---- nothing is decided yet

none_chosen : {X : Type 0} (n : ℕ) (xs : List X) → items_where_true (replicate n false) xs ≡ []
none_chosen zero xs = refl
none_chosen (suc n) [] = refl
none_chosen (suc n) (x ∷ xs) = none_chosen n xs

pub none_taken : (problem : DelayProblem) (all : TrialTimes) (kept : List Bool) → StartsTrial problem all
    → kept ≡ replicate (length problem.changes) false → IsTaken all [] kept
unfolding AreSaved
none_taken problem all kept is none =
    let count = length problem.changes in
    let forward = subst IsForward is.problem_is is.linked.forward in
    let chosen : chosen_changes problem kept ≡ [] = ap (chosen_changes problem) none
    ∙ none_chosen count problem.changes in
    let least = is.times ∙ ap (least_times problem) (sym chosen) in
    record {
      linked = is.linked;
      trial = subst (λ p. IsTrial p [] kept all.open_yet all.times) (sym is.problem_is)
          (starts problem kept all.open_yet all.times none is.open_yet
          (least_each problem forward kept all.times least) least is.least_small);
      saved = tt;
      rest = is.none;
    }

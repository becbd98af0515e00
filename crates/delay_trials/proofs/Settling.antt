-- Times on the way to the least ones: links that wait are looked at in their order, and heads that are made later
-- let the links out of them wait.
use Rattle.plan_num.proofs.Common.{◌≡◌, ◌≢◌, ◌∙◌, ℕ, ◌+◌, ◌<◌, ◌≤◌, ◌⊎◌, inl, inr, Bool, true}
use Rattle.plan_num.proofs.Common.{false, cond, List, [], ◌∷◌, ◌++◌, length, get_or, slice_set, All}
use Rattle.plan_num.proofs.Common.{None, ap, sym, subst, arith, false≢true, lt-ltb, append_assoc}
use Rattle.plan_num.proofs.Common.{get_or_default}
use Rattle.propagation.specs.declared.links.Link.{Link}
use Rattle.propagation.specs.declared.step.Step.{Step}
use Rattle.propagation.specs.declared.times.TheConstants.{LATEST}
use Rattle.propagation.proofs.Common.{forward_rank, IsLeast, asked, later, least_times, time_at}
use Rattle.propagation.proofs.Common.{IsLinked, counts, head_pushed, DelayProblem, Joins}
use Rattle.propagation.proofs.Common.{chosen_changes, is_pushed, all_join, chosen_are_changes}
use Rattle.propagation.proofs.Common.{links_hold, pass_is, steps_hold, least_is_one}
use Rattle.propagation.proofs.Common.{least_times_are_least, all_slow, pass_small}
use Rattle.delay_trials.specs.declared.moved_event.Moved.{Moved}
use Rattle.bit_rows.specs.Markings.{IsNext}
use Rattle.delay_trials.specs.OnTrial.{Follows, IsHeld, IsSettling, IsSettlingBut, NoneWaits, Pushes, TrialTimes}
use Rattle.delay_trials.specs.OnTrial.{WaitBy, rewound}
use Rattle.bit_rows.proofs.Cases.{by_less, by_same}
use Rattle.delay_trials.proofs.Apart.{set_back, set_here, set_there}

-- ---- times before can be had again

pub rewound_append : (xs ys : List Moved) (times : List ℕ) → rewound (xs ++ ys) times ≡ rewound ys (rewound xs times)
rewound_append [] ys times = λ i. rewound ys times
rewound_append (x ∷ xs) ys times = rewound_append xs ys (slice_set times x.event x.before)

pub follows_on : (first second third : TrialTimes) → Follows first second → Follows second third → Follows first third
follows_on first second third one two =
    let top = two.back.0 in let bottom = one.back.0 in
    record {
      problem = two.problem ∙ one.problem;
      links = two.links ∙ one.links;
      open_yet = two.open_yet ∙ one.open_yet;
      back = (
        top ++ bottom,
        two.back.1 ∙ ap (λ noted. top ++ noted) one.back.1 ∙ sym (append_assoc top bottom first.noted),
        rewound_append top bottom third.times ∙ ap (rewound bottom) two.back.2 ∙ one.back.2,
      );
    }

-- the head of a step is made later, and the links out of it wait
pub pushed_later : (step : Step) (old noted timed new : TrialTimes) (asks before : ℕ)
    → noted ≡ record old { noted = record { event = step.to; before = before } ∷ old.noted }
    → timed ≡ record noted { times = slice_set noted.times step.to asks }
    → new ≡ record timed { waiting = new.waiting }
    → WaitBy (λ link. link.rank ≡ forward_rank timed.problem.events step.to) timed.links timed.waiting new.waiting
    → before ≡ time_at old.times step.to → asks ≡ asked old.times step → before < asks → Pushes step old new
pushed_later step old noted timed new asks before one two three waits before_is asks_is less =
    let so_far = two ∙ ap (λ (t : TrialTimes). record t { times = slice_set t.times step.to asks }) one in
    let all = three ∙ ap (λ (t : TrialTimes). record t { waiting = new.waiting }) so_far in
    let times : new.times ≡ slice_set old.times step.to asks = ap (λ (t : TrialTimes). t.times) all in
    record {
      follows = record {
        problem = ap (λ (t : TrialTimes). t.problem) all;
        links = ap (λ (t : TrialTimes). t.links) all;
        open_yet = ap (λ (t : TrialTimes). t.open_yet) all;
        back = (
          record { event = step.to; before = before } ∷ [],
          ap (λ (t : TrialTimes). t.noted) all,
          (λ i. slice_set (times i) step.to (before_is i)) ∙ set_back old.times step.to asks 0,
        );
      };
      times = times ∙ ap (slice_set old.times step.to) (sym (ap (λ b. cond b asks (time_at old.times step.to))
          (lt-ltb (time_at old.times step.to) asks (omega (arith, less, before_is))))
          ∙ ap (later (time_at old.times step.to)) asks_is);
      waits = inr (subst (λ (t : TrialTimes). WaitBy
          (λ link. link.rank ≡ forward_rank t.problem.events step.to) t.links t.waiting new.waiting)
          so_far waits);
    }

-- ---- the least times

module _ (problem : DelayProblem) (links : List Link) (linked : IsLinked problem links) (kept : List Bool) where
  abbrev least : List ℕ
  least = least_times problem (chosen_changes problem kept)

  pub is_least : IsLeast problem (chosen_changes problem kept) least
  is_least = least_times_are_least problem (chosen_changes problem kept) linked.forward
      (chosen_are_changes problem kept)

  pub least_small : All (λ time. time ≤ 600000000000) least
  least_small = subst (All (λ time. time ≤ 600000000000)) (pass_is problem links linked kept)
      (pass_small problem links linked kept)

  pub all_held : All (IsHeld kept least) links
  all_held = links_hold problem links linked kept least is_least.feasible.steps

-- ---- the head of a step that is pushed

module _ (all : TrialTimes) (each : length all.times ≡ length all.problem.events) (step : Step)
    (joins : Joins (length all.problem.events) step)
    (rises : forward_rank all.problem.events step.from < forward_rank all.problem.events step.to)
    (new : List ℕ) (pushed : new ≡ head_pushed all.times step) where
  fits : step.to < length all.times
  fits = omega (arith, joins.1, each)

  pub grown : (event : ℕ) → time_at all.times event ≤ time_at new event
  grown event =
      subst (λ times. time_at all.times event ≤ time_at times event) (sym pushed)
      ((is_pushed all.times step fits).grows event)

  stayed : (event : ℕ) → step.to ≢ event → time_at new event ≡ time_at all.times event
  stayed event apart = ap (λ times. time_at times event) pushed ∙ (is_pushed all.times step fits).stays event apart

  apart_ends : step.to ≢ step.from
  apart_ends same = grind (arith, rises)

  pub own_held : asked new step ≤ time_at new step.to
  own_held =
      let from = stayed step.from apart_ends in
      let held = subst (λ times. asked all.times step ≤ time_at times step.to) (sym pushed)
      (is_pushed all.times step fits).holds in grind arith

  -- no time is above one that the step respects
  pub under : (goal : List ℕ) → asked goal step ≤ time_at goal step.to
      → ((event : ℕ) → event < length all.problem.events → time_at all.times event ≤ time_at goal event)
      → (event : ℕ) → event < length all.problem.events → time_at new event ≤ time_at goal event
  under goal holds most event inside =
      by_same step.to event
      (λ same. subst (λ n. time_at new n ≤ time_at goal n) same (value (is_pushed all.times step fits).one))
      (λ apart. let stay = stayed event apart in let old = most event inside in omega (arith, stay, old))
    where
      value : (time_at (head_pushed all.times step) step.to ≡ time_at all.times step.to)
          ⊎ (time_at (head_pushed all.times step) step.to ≡ asked all.times step)
          → time_at new step.to ≤ time_at goal step.to
      value (inl is) = grind arith
      value (inr is) = grind arith

  -- a link with another first event holds as before
  pub held_still : (kept : List Bool) (link : Link) → link.step.from ≢ step.to
      → IsHeld kept all.times link → IsHeld kept new link
  held_still kept link apart held there = grind (arith, stayed, get_or, grown)

-- ---- one link

module _ (all : TrialTimes) (linked : IsLinked all.problem all.links) (each : length all.times
    ≡ length all.problem.events)
    (size : length all.waiting ≡ length all.links) (kept : List Bool) (at : ℕ)
    (settling : IsSettling kept all at) (there : at < length all.links) (e : Link) where
  abbrev goal : List ℕ
  goal = least_times all.problem (chosen_changes all.problem kept)

  abbrev link : Link
  link = get_or all.links at e

  abbrev ranks : ℕ → ℕ
  ranks = forward_rank all.problem.events

  abbrev seen : TrialTimes
  seen = record all { waiting = slice_set all.waiting at false }

  pub link_joins : (link.step.from < length all.problem.events) × (link.step.to < length all.problem.events)
  link_joins = let joins = all_join all.problem all.links linked at e there in (joins.from, joins.to)

  pub asks_little : asked all.times link.step ≤ LATEST
  asks_little =
      let joins = all_join all.problem all.links linked at e there in grind (
        arith,
        all_slow,
        is_least,
        least_small,
      )

  not_here : (k : ℕ) → k ≢ at → get_or seen.waiting k false ≡ false → get_or all.waiting k false ≡ false
  not_here k apart none = sym (set_there all.waiting seen.waiting at false false (λ i. seen.waiting) k apart) ∙ none

  gone : (k : ℕ) → k < at + 1 → get_or seen.waiting k false ≡ false
  gone k less =
      by_same k at
      (λ same. ap (λ n. get_or seen.waiting n false) same
      ∙ set_here all.waiting seen.waiting at false false (λ i. seen.waiting) (omega (arith, there, size)))
      (λ apart. set_there all.waiting seen.waiting at false false (λ i. seen.waiting) k apart
      ∙ settling.done k (omega (arith, less, apart)))

  same_link : (d : Link) → get_or all.links at d ≡ link
  same_link d = get_or_default all.links at d e there

  -- a link that does not count is passed over
  pub passed_over : (now : TrialTimes) → now ≡ seen → counts kept link.change ≡ false → IsSettling kept now (at + 1)
  passed_over now is out = grind (arith, by_same, false≢true, get_or, same_link, not_here, gone)

  -- the head of a link that counts is pushed
  module _ (now new : TrialTimes) (is : now ≡ seen) (counted : counts kept link.change ≡ true)
      (told : Pushes link.step now new) where
    abbrev step : Step
    step = link.step

    pushes : Pushes step seen new
    pushes = subst (λ t. Pushes step t new) is told

    pushed_times : new.times ≡ head_pushed all.times step
    pushed_times = pushes.times

    events_same : new.problem.events ≡ all.problem.events
    events_same = ap (λ (p : DelayProblem). p.events) pushes.follows.problem

    joined : Joins (length all.problem.events) step
    joined = link_joins

    rises : ranks step.from < ranks step.to
    rises = let joins = all_join all.problem all.links linked at e there in omega (arith, joins.own, joins.rises)

    grown_now : (event : ℕ) → time_at all.times event ≤ time_at new.times event
    grown_now = grown all each step joined rises new.times pushed_times

    under_now : (event : ℕ) → event < length all.problem.events → time_at new.times event ≤ time_at goal event
    under_now = grind (arith, under, joined, rises, pushed_times, all_held)

    held_now : (k : ℕ) (d : Link) → k < length all.links → get_or new.waiting k false ≡ false
        → IsHeld kept new.times (get_or all.links k d)
    held_now k d inside none =
        by_same k at
        (λ same. subst (IsHeld kept new.times) (sym (ap (λ n. get_or all.links n d) same ∙ same_link d))
        (λ _. own_held all each step joined rises new.times pushed_times))
        (λ apart. other apart pushes.waits)
      where
        other : k ≢ at → (new ≡ seen) ⊎ WaitBy (λ link. link.rank ≡ ranks step.to) all.links seen.waiting new.waiting
            → IsHeld kept new.times (get_or all.links k d)
        other apart (inl same) = grind (arith, get_or, not_here)
        other apart (inr waits) = grind (
          arith,
          held_still,
          joined,
          rises,
          pushed_times,
          get_or,
          all_join,
          not_here,
        )

    done_now : (k : ℕ) → k < at + 1 → get_or new.waiting k false ≡ false
    done_now k less = by pushes.waits
      where
        by : (new ≡ seen) ⊎ WaitBy (λ link. link.rank ≡ ranks step.to) all.links seen.waiting new.waiting
            → get_or new.waiting k false ≡ false
        by (inl same) = ap (λ (t : TrialTimes). get_or t.waiting k false) same ∙ gone k less
        by (inr waits) = only (waits.only k e (gone k less))
          where
            only : (get_or new.waiting k false ≡ false)
                ⊎ ((k < length all.links) × ((get_or all.links k e).rank ≡ ranks step.to))
                → get_or new.waiting k false ≡ false
            only (inl none) = none
            only (inr rank) = grind (arith, all_join, get_or, rises)

    pub pushed_on : IsSettling kept new (at + 1)
    pushed_on = grind (arith, pushes, events_same, grown_now, get_or, under_now, held_now, done_now)

-- ---- the first step, links with which alone may not hold

module _ (all : TrialTimes) (kept : List Bool) (step : Step) (but : IsSettlingBut kept step all) (new : TrialTimes)
    (pushes : Pushes step all new) where
  held_first : (k : ℕ) (d : Link) → k < length all.links → get_or new.waiting k false ≡ false
      → IsHeld kept new.times (get_or all.links k d)
  held_first k d inside none = grind (arith, pushes, get_or, own_held, rises, held_still, all_join)

  pub pushed_first : IsSettling kept new 0
  pushed_first =
      subst (λ t. IsSettling kept t 0)
      (λ i. record {
        problem = sym pushes.follows.problem i;
        links = sym pushes.follows.links i;
        times = new.times;
        open_yet = new.open_yet;
        noted = new.noted;
        waiting = new.waiting;
      }) (record {
        earliest = λ event inside. grind (arith, grown, rises, pushes);
        most = grind (arith, under, rises, pushes);
        held = held_first;
        done = λ k less. absurd (omega (arith, less));
      })

-- ---- at the end

module _ (all : TrialTimes) (linked : IsLinked all.problem all.links) (each : length all.times
    ≡ length all.problem.events)
    (kept : List Bool) (from : ℕ) (settling : IsSettling kept all from) (next : IsNext all.waiting from None) where
  pub none_waits : NoneWaits all
  none_waits k = by_less k from (settling.done k) (next k)

  pub are_least : all.times ≡ least_times all.problem (chosen_changes all.problem kept)
  are_least =
      let problem = all.problem in let chosen = chosen_changes problem kept in
      let last = is_least problem all.links linked kept in
      least_is_one problem chosen all.times (least_times problem chosen) (record {
        feasible = record {
          each = each;
          earliest = settling.earliest;
          steps = steps_hold problem all.links linked kept all.times
              (λ k d inside. settling.held k d inside (none_waits k));
        };
        least = λ others fits event inside.
            let most = settling.most event inside in let less =
            last.least others fits event inside in omega (arith, most, less);
      }) last

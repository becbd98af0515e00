-- Minutes after which times come again, and what exact activities tie together.
use Rattle.plan_num.proofs.Common.{◌≡◌, ◌∙◌, inl, inr, ℕ, zero, suc, ◌+◌, ◌-◌, ◌*◌, ◌/◌, ◌%◌, ◌<◌}
use Rattle.plan_num.proofs.Common.{◌≤◌, Bool, true, slice_get, Some, ap, sym, subst, arith}
use Rattle.plan_num.proofs.Common.{add-mod-mod, add-mul-mod_self_right, mod-add-div', mod-add-mod}
use Rattle.std.proofs.Math.Nat.{mod-eq_of_lt, mod-lt}
use Rattle.pesp.specs.declared.activity.PespActivity.{PespActivity}
use Rattle.pesp.specs.Timetables.{IsActivity, IsProblem, Problem}
use Rattle.pesp.specs.declared.cycles.Tie.{Tie}
use Rattle.pesp.specs.Cycles.{AreLater, IsTie, Repeats, TiesBy}
use Rattle.pesp.specs.declared.activity_end.ActivityEnd.TheVariants as at_end
use Rattle.pesp.specs.Revising.{IsRevised, ahead, behind, width_of}
use Rattle.pesp.proofs.AnyBelow.{some_below}
use Rattle.pesp.proofs.Partners.{partner_reached}
use Rattle.pesp.proofs.Sweeping.{held}

-- ---- minutes after a time

later_twice : (period time minutes more : ℕ)
    → ((time + minutes) % period + more) % period ≡ (time + (minutes + more) % period) % period
later_twice period time minutes more =
    mod-add-mod (time + minutes) period more ∙ ap (λ n. n % period) grouped
    ∙ sym (add-mod-mod time (minutes + more) period)
  where
    grouped : time + minutes + more ≡ time + (minutes + more)
    grouped = omega arith

none_later : (period time : ℕ) → time < period → (time + 0) % period ≡ time
none_later period time low = grind (arith, mod-eq_of_lt)

-- ---- times that come again

module _ (period : ℕ) (left : ℕ → Bool) (some : 1 ≤ period) where
  pub repeats_on : (minutes more : ℕ) → Repeats period left minutes → Repeats period left more
      → Repeats period left ((minutes + more) % period)
  repeats_on minutes more one two time low is =
      subst (λ time. left time ≡ true) (later_twice period time minutes more)
      (two ((time + minutes) % period) (mod-lt (time + minutes) (omega (arith, some)))
      (one time low is))

  pub repeats_times : (minutes : ℕ) → Repeats period left minutes → (k : ℕ)
      → Repeats period left (k * minutes)
  repeats_times minutes one zero time low is =
      let none : time + 0 * minutes ≡ time = omega arith in grind (arith, mod-eq_of_lt, is)
  repeats_times minutes one (suc k) time low is = grind (
    arith,
    mod-add-mod,
    mod-lt,
    is,
    repeats_times minutes one k time low is,
  )

whole_turns : (period x : ℕ) → 1 ≤ period → x + (period - 1) * x ≡ x * period
whole_turns zero x some = absurd (omega (arith, some))
whole_turns (suc n) x some = grind arith

-- what is left of the one by the other, as minutes, brings times back, too
pub repeats_rest : (period : ℕ) (left : ℕ → Bool) (some : 1 ≤ period) (first second : ℕ)
    → Repeats period left first → Repeats period left second
    → Repeats period left (first % second)
repeats_rest period left some first second one two time low is =
    subst (λ time. left time ≡ true)
    (mod-add-mod (time + first) period ((period - 1) * times)
    ∙ ap (λ n. n % period) sum ∙ add-mul-mod_self_right (time + first % second) times period)
    (repeats_times period left some times (repeats_times period left some second two (first / second))
    (period - 1) ((time + first) % period) (mod-lt (time + first) (omega (arith, some)))
    (one time low is))
  where
    times : ℕ
    times = first / second * second

    sum : time + first + (period - 1) * times ≡ time + first % second + times * period
    sum = grind (arith, mod-add-div', whole_turns)

-- ---- events whose times are tied

pub leads_on : (problem : Problem) → 1 ≤ problem.period → (a b c minutes more : ℕ)
    → AreLater problem a b minutes → AreLater problem b c more
    → AreLater problem a c ((minutes + more) % problem.period)
leads_on problem some a b c minutes more one two left all time low is =
    subst (λ time. left c time ≡ true) (later_twice problem.period time minutes more)
    (two left all ((time + minutes) % problem.period)
    (mod-lt (time + minutes) (omega (arith, some))) (one left all time low is))

pub stays_there : (problem : Problem) (event : ℕ) → AreLater problem event event 0
stays_there problem event left all time low is = grind (arith, none_later, is)

-- ---- exact activities

module _ (problem : Problem) (sound : IsProblem problem) (index : ℕ) (activity : PespActivity)
    (at : slice_get problem.activities index ≡ Some activity)
    (exact : width_of problem.period activity ≡ 0) where
  is : IsActivity problem.events activity
  is = held (IsActivity problem.events) problem.activities index activity sound.sound at

  exact_forth : AreLater problem activity.from activity.to (ahead problem.period activity)
  exact_forth left all time low here =
      let so = held (IsRevised problem.period left) problem.activities index activity all at in
      let found = some_below _ _
      (sym (partner_reached problem.period sound.some problem.events activity is left at_end.First time low)
      ∙ so at_end.First time here) in
      let few = found.1 in
      let same : time + ahead problem.period activity + found.0
      ≡ time + ahead problem.period activity = omega (arith, few, exact) in
      subst (λ n. left activity.to (n % problem.period) ≡ true) same found.2

  exact_back : AreLater problem activity.to activity.from (behind problem.period activity)
  exact_back left all time low here =
      let so = held (IsRevised problem.period left) problem.activities index activity all at in
      let found = some_below _ _
      (sym (partner_reached problem.period sound.some problem.events activity is left at_end.Second time low)
      ∙ so at_end.Second time here) in
      let few = found.1 in
      let same : time + behind problem.period activity + found.0
      ≡ time + behind problem.period activity = omega (arith, few, exact) in
      subst (λ n. left activity.from (n % problem.period) ≡ true) same found.2

  pub ties : (tie : Tie) → TiesBy problem.period activity tie
      → tie.forth ≤ problem.period → tie.back ≤ problem.period → IsTie problem tie
  ties tie (inl so) few_forth few_back = record {
    from = subst (λ n. n < problem.events) (sym so.0) is.from;
    to = subst (λ n. n < problem.events) (sym so.1) is.to;
    forth = λ left. rw (so.0, so.1, so.2) (exact_forth left);
    back = λ left. rw (so.0, so.1, so.3) (exact_back left);
    few_forth = few_forth;
    few_back = few_back;
  }
  ties tie (inr so) few_forth few_back = record {
    from = subst (λ n. n < problem.events) (sym so.0) is.to;
    to = subst (λ n. n < problem.events) (sym so.1) is.from;
    forth = λ left. rw (so.0, so.1, so.2) (exact_back left);
    back = λ left. rw (so.0, so.1, so.3) (exact_forth left);
    few_forth = few_forth;
    few_back = few_back;
  }

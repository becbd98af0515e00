-- Times behind links that gain little are not much later than planned.
use Rattle.plan_num.proofs.Common.{◌≡◌, ℕ, suc, ◌+◌, ◌*◌, ◌<◌, ◌≤◌, Bool, true, false, cond, List}
use Rattle.plan_num.proofs.Common.{[], ◌∷◌, length, All, Result, Ok, Err, IfOk, sym, subst, arith}
use Rattle.plan_num.proofs.Common.{eqb-true, eqb-false, get_or_default, get_or-set_same}
use Rattle.plan_num.proofs.Common.{get_or-set_other, length-set, All-head, All-tail}
use Rattle.plan_num.proofs.Common.{All-permutation}
use Rattle.propagation.specs.declared.day_event.DayEvent.{DayEvent}
use Rattle.propagation.specs.DayEvents.{forward_rank}
use Rattle.propagation.specs.declared.links.Link.{Link}
use Rattle.propagation.specs.declared.step.Step.{Step}
use Rattle.propagation.specs.LeastTimes.{asked, later, time_at}
use Rattle.propagation.specs.Links.{GainsLittle, IsLinked, counts, head_pushed, links_of, pushed_along}
use Rattle.propagation.specs.Problems.{DelayProblem, GoesForward, planned_at}
use Rattle.propagation.proofs.Later.{later_is}
use Rattle.propagation.proofs.PassIsLeast.{all_join, change_steps, links_all, ride_steps, turn_steps}
use Rattle.propagation.proofs.ForwardPass.{long as pass_long}

module _ (events : List DayEvent) where
  -- no event is later than planned by more than so much
  abbrev pub LateBy : ℕ → List ℕ → Type 0
  LateBy most times = (event : ℕ) → event < length times → time_at times event ≤ planned_at events event + most

  head_late : (most : ℕ) (times : List ℕ) (step : Step) → GainsLittle events step
      → step.from < length times → step.to < length times → LateBy most times
      → LateBy (most + 1100000) (head_pushed times step)
  head_late most times step gains from to late event inside = grind (
    arith,
    eqb-true,
    later_is,
    get_or-set_other,
    eqb-false,
    length-set,
    get_or-set_same,
  )

  -- a link between two of so many events that gains little
  abbrev pub IsSlow : ℕ → Link → Type 0
  IsSlow n link = (link.step.from < n) × (link.step.to < n) × GainsLittle events link.step

  pub late_along : (kept : List Bool) (links : List Link) (most : ℕ) (times : List ℕ)
      → All (IsSlow (length times)) links → LateBy most times
      → LateBy (most + length links * 1100000) (pushed_along kept links times)
  late_along kept [] most times slow late = λ event inside. let old = late event inside in omega (arith, old)
  late_along kept (link ∷ links) most times slow late =
      let first = All-head (IsSlow (length times)) link links slow in
      let rest = All-tail (IsSlow (length times)) link links slow in
      let value = later (time_at times link.step.to) (asked times link.step) in
      let size = length-set times link.step.to value in
      by (counts kept link.change)
      (λ event inside. let old = late_along kept links (most + 1100000) (head_pushed times link.step)
      (subst (λ n. All (IsSlow n) links) (sym size) rest)
      (head_late most times link.step first.2 first.0 first.1 late) event inside in omega (arith, old))
      (λ event inside. let old = late_along kept links most times rest late event inside in omega (arith, old))
    where
      by : (b : Bool)
          → LateBy (most + suc (length links) * 1100000) (pushed_along kept links (head_pushed times link.step))
          → LateBy (most + suc (length links) * 1100000) (pushed_along kept links times)
          → LateBy (most + suc (length links) * 1100000)
          (pushed_along kept links (cond b (head_pushed times link.step) times))
      by true pushed passed = pushed
      by false pushed passed = passed

module _ (problem : DelayProblem) (links : List Link) (linked : IsLinked problem links) (kept : List Bool) where
  pub all_slow : All (IsSlow problem.events (length problem.events)) links
  all_slow =
      let P = IsSlow problem.events (length problem.events) in
      let F = GoesForward problem.events in
      let G = GainsLittle problem.events in
      let goes = linked.forward.steps in
      let gains = linked.gains in
      All-permutation P (links_of problem) links linked.all
      (links_all problem P
      (λ k d inside. let at = ride_steps problem F problem.changes goes k d inside in
      (at.from, at.to, ride_steps problem G problem.changes gains k d inside))
      (λ k d inside. let at = turn_steps problem F problem.changes goes k d inside in
      (at.from, at.to, turn_steps problem G problem.changes gains k d inside))
      (λ k d inside. let at = change_steps problem F problem.changes goes k d inside in
      (at.from, at.to, change_steps problem G problem.changes gains k d inside)))

  -- no event is later than at its earliest by more than all links may gain
  pub pass_small : All (λ time. time ≤ 600000000000) (pushed_along kept links problem.earliest)
  pass_small k d inside =
      let each = linked.forward.each in
      let long = pass_long kept (length problem.events) (forward_rank problem.events) links problem.earliest
      (all_join problem links linked) each in
      let here : k < length problem.events = omega (arith, inside, long) in
      let late = late_along problem.events kept links 8589934590 problem.earliest
      (subst (λ n. All (IsSlow problem.events n) links) (sym each) all_slow)
      (λ event within. let at = linked.soon event 0 within in omega (arith, at)) k (omega (arith, here, each)) in
      let planned = linked.late k here in
      let soon = linked.soon k 0 (omega (arith, here, each)) in
      let same = get_or_default (pushed_along kept links problem.earliest) k d 0 inside in
      omega (arith, late, planned, soon, same, linked.few_links)

-- the same of what a pass over the parts of a problem gives
pub told_small : (whole : DelayProblem) (links seen : List Link) (earliest : List ℕ)
    (linked : IsLinked whole links) (is : seen ≡ links) (from : earliest ≡ whole.earliest) (kept : List Bool)
    → {A E : Type 0} (view : A → List ℕ) (result : Result A E)
    → IfOk result (λ times. view times ≡ pushed_along kept seen earliest)
    → IfOk result (λ times. All (λ time. time ≤ 600000000000) (view times))
told_small whole links seen earliest linked is from kept view (Ok times) told =
    grind (arith, pass_small)
told_small whole links seen earliest linked is from kept view (Err error) told = tt

-- What holds of the slacks of steps in a timetable.
use Rattle.plan_num.proofs.Common.{◌≡◌, ℕ, ℤ, pos, ◌<◌, ◌≤ℤ◌, List, length, map, get_or}
use Rattle.std.proofs.Common.{◌*ℤ◌}
use Rattle.std.proofs.lemmas.Int.{clamps, int_min_is}
use Rattle.plan_num.proofs.Common.{length-map}
use Rattle.plan_num.proofs.Common.{All, All-get_or, All-weaker, All-from_get_or, sym, subst}
use Rattle.plan_num.proofs.Common.{arith, ints, get_or-map, get_or_from_slice_get}
use Rattle.std.proofs.lemmas.Option.{slice_get_within}
use Rattle.pesp.specs.declared.activity.PespActivity.{PespActivity}
use Rattle.pesp.specs.Timetables.{IsActivity, IsKept, IsTimetable, time_of}
use Rattle.pesp.proofs.LeastTensions.{tension_least}
use Rattle.pesp_judge.specs.declared.step.Step.{Step}
use Rattle.pesp_judge.specs.Weighted.{WeightedProblem, IsWeighted, problem_of, slack_in, span_of}
use Rattle.pesp_judge.specs.Cycles.{IsCycle, IsStep, around, slacks_of}
use Rattle.pesp_judge.proofs.Slacks.{nothing, slack_is_small}
use Rattle.pesp_judge.proofs.Turns.{cycle_apart, slack_is, sound_at}
use Rattle.pesp_judge.proofs.Cuts.{IsWithin}

module _ (weighted : WeightedProblem) (is : IsWeighted weighted) (times : List ℕ)
    (timetable : IsTimetable (problem_of weighted) times) where
  pub all_sound : All (λ it. IsActivity (length times) it.activity) weighted.activities
  all_sound = subst (λ events. All (λ it. IsActivity events it.activity) weighted.activities)
      (sym timetable.each) is.sound

  kept_at : (index : ℕ) → index < length weighted.activities
      → IsKept weighted.period times (get_or weighted.activities index nothing).activity
  kept_at index some =
      subst (IsKept weighted.period times)
      (get_or-map (λ it. it.activity) weighted.activities index nothing nothing.activity some)
      (All-get_or (IsKept weighted.period times) (map (λ it. it.activity) weighted.activities)
      index nothing.activity (subst (λ n. index < n) (sym (length-map weighted.activities
      (λ it. it.activity))) some) timetable.kept)

  -- an activity that is kept has no more slack than its span
  span_most : (activity : PespActivity) → IsActivity (length times) activity
      → IsKept weighted.period times activity
      → (pos 0 ≤ℤ slack_in weighted.period times activity)
      × (slack_in weighted.period times activity ≤ℤ span_of weighted.period activity)
  span_most activity sound kept =
      let time_in : (event : ℕ) → event < length times → time_of times event < weighted.period =
      λ event some. All-get_or (λ time. time < weighted.period) times event 0 some timetable.within in
      let small = slack_is_small weighted.period times timetable.within activity sound in
      let tension_is = tension_least weighted.period activity.lower (time_of times activity.from)
      (time_of times activity.to) (time_in activity.from sound.from)
      (time_in activity.to sound.to) sound.low in
      let least = tension_is.1.least kept.minutes kept.leads kept.enough in
      let short = kept.short in
      (omega (arith, ints, small), omega (arith, ints, clamps, small, least, short, tension_is.0, int_min_is))

  pub steps_within : (steps : List Step) → All (IsStep weighted) steps
      → All (IsWithin (slacks_of weighted times)) steps
  steps_within steps are =
      All-weaker (IsStep weighted) (IsWithin (slacks_of weighted times)) within steps are
    where
      within : (step : Step) → IsStep weighted step → IsWithin (slacks_of weighted times) step
      within step is_step =
          let slack = slack_is weighted times timetable.within all_sound step is_step in
          let sound = sound_at weighted times timetable.within all_sound step is_step in
          let kept : IsKept weighted.period times is_step.it.activity =
          subst (λ it. IsKept weighted.period times it.activity)
          (get_or_from_slice_get weighted.activities step.place is_step.it nothing is_step.there)
          (kept_at step.place (slice_get_within weighted.activities step.place is_step.it is_step.there)) in
          let both = span_most is_step.it.activity sound kept in
          record {
            low = subst (λ z. pos 0 ≤ℤ z) (sym slack) both.0;
            high = subst (λ z. z ≤ℤ step.span) (sym slack)
                (subst (λ z. slack_in weighted.period times is_step.it.activity ≤ℤ z) (sym is_step.span) both.1);
          }

  pub turns : (steps : List Step) → IsCycle weighted steps
      → (q : ℤ) × (around (slacks_of weighted times) steps ≡ pos weighted.period *ℤ q)
  turns = cycle_apart weighted times timetable.within all_sound

  -- the slack of each activity lies between 0 and its span
  pub spans : (index : ℕ) → index < length weighted.activities
      → (pos 0 ≤ℤ slack_in weighted.period times (get_or weighted.activities index nothing).activity)
      × (slack_in weighted.period times (get_or weighted.activities index nothing).activity
      ≤ℤ span_of weighted.period (get_or weighted.activities index nothing).activity)
  spans index some =
      span_most (get_or weighted.activities index nothing).activity
      (all_sound index nothing some) (kept_at index some)

  pub all_spans : All (λ it. (pos 0 ≤ℤ slack_in weighted.period times it.activity)
      × (slack_in weighted.period times it.activity ≤ℤ span_of weighted.period it.activity))
      weighted.activities
  all_spans = All-from_get_or (λ it. (pos 0 ≤ℤ slack_in weighted.period times it.activity)
      × (slack_in weighted.period times it.activity ≤ℤ span_of weighted.period it.activity))
      weighted.activities nothing spans

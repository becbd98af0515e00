-- The slack of activities: its bounds, how it adds up, and what is said of times.
use Rattle.plan_num.proofs.Common.{◌≡◌, ℕ, ℤ, pos, negsuc, ◌+◌, ◌-◌, ◌*◌, ◌^◌, ◌<◌, ◌≤◌, ◌+ℤ◌}
use Rattle.plan_num.proofs.Common.{◌≤ℤ◌, List, [], ◌∷◌, ◌++◌, length, take, get_or, refl}
use Rattle.plan_num.proofs.Common.{sym, subst, ◌∙◌, arith, ints, take_more, All, All-get_or, map}
use Rattle.plan_num.proofs.Common.{slice_get, Some, length-map, get_or-map, get_or_from_slice_get}
use Rattle.plan_num.proofs.Common.{All-map, All-from_get_or}
use Rattle.std.proofs.Common.{◌*ℤ◌}
use Rattle.std.proofs.Math.Nat.{le-mul_of_pos_right, mod-lt, mul-le-mul}
use Rattle.pesp.specs.declared.activity.PespActivity.{PespActivity}
use Rattle.pesp.specs.Timetables.{slack, time_of, IsActivity, IsKept}
use Rattle.pesp.proofs.LeastTensions.{rest}
use Rattle.pesp.proofs.Slack.{slack_is}
use Rattle.pesp_judge.specs.declared.weighted.WeightedActivity.{WeightedActivity}
use Rattle.pesp_judge.specs.declared.judging.Judged.TheVariants as judged
use Rattle.pesp_judge.specs.Weighted.{WeightedProblem, Judges, slack_in, slack_of_all, weighted_slack}

abbrev pub nothing : WeightedActivity
nothing = record { activity = record { from = 0; to = 0; lower = pos 0; upper = pos 0 }; weight = 0 }

pub slack_push : (period : ℕ) (times : List ℕ) (xs : List WeightedActivity) (it : WeightedActivity)
    → slack_of_all period times (xs ++ it ∷ [])
    ≡ slack_of_all period times xs +ℤ pos it.weight *ℤ slack_in period times it.activity
unfolding slack_of_all
slack_push period times [] it = omega (arith, ints)
slack_push period times (x ∷ xs) it =
    let more = slack_push period times xs it in omega (arith, ints)

pub slack_more : (period : ℕ) (times : List ℕ) (xs : List WeightedActivity) (index : ℕ) (it : WeightedActivity)
    → index < length xs → get_or xs index nothing ≡ it
    → slack_of_all period times (take (index + 1) xs)
    ≡ slack_of_all period times (take index xs) +ℤ pos it.weight *ℤ slack_in period times it.activity
slack_more period times xs index it some is =
    let more = take_more xs index nothing some in
    rw (more) (rw (is) (slack_push period times (take index xs) it))

-- the slack is a remainder, so it is less than the period
rest_is : (period : ℕ) (lower : ℤ) (from to : ℕ) → 0 < period → pos 0 ≤ℤ lower
    → (s : ℕ) × (slack period lower from to ≡ pos s) × (s < period)
rest_is period (pos l) from to some low = (
  rest period l from to,
  slack_is period l from to some (le-mul_of_pos_right (from + l) some),
  mod-lt (to + (from + l) * period - (from + l)) some,
)
rest_is period (negsuc n) from to some low = absurd (omega (arith, ints))

module _ (period : ℕ) (times : List ℕ) (within : All (λ time. time < period) times)
    (activity : PespActivity) (is : IsActivity (length times) activity) where
  pub time_in : (event : ℕ) → event < length times → time_of times event < period
  time_in event some = All-get_or (λ time. time < period) times event 0 some within

  pub slack_is_small : (s : ℕ) × (slack_in period times activity ≡ pos s) × (s < period)
  slack_is_small = rest_is period activity.lower (time_of times activity.from)
      (time_of times activity.to) (omega (arith, time_in activity.from is.from)) is.low

-- what is added for one activity more
pub cost_more : (period : ℕ) (times : List ℕ) (xs : List WeightedActivity) (index cost slack : ℕ)
    (it : WeightedActivity) → index < length xs → get_or xs index nothing ≡ it
    → pos slack ≡ slack_in period times it.activity
    → pos cost ≡ slack_of_all period times (take index xs)
    → pos (cost + it.weight * slack) ≡ slack_of_all period times (take (index + 1) xs)
cost_more period times xs index cost slack it some is same so_far =
    rw (slack_more period times xs index it some is) (rw (← so_far) (rw (← same) refl))

-- and it is not much
pub cost_small : (cost index weight slack : ℕ) → cost ≤ index * (720 * 10 ^ 9) → weight ≤ 10 ^ 9
    → slack ≤ 720 → cost + weight * slack ≤ (index + 1) * (720 * 10 ^ 9)
cost_small cost index weight slack so_far light small =
    let most : weight * slack ≤ 10 ^ 9 * 720 = mul-le-mul light small in omega (arith, most, so_far)

-- ---- what is said of times
module _ (weighted : WeightedProblem) (times : List ℕ) where
  abbrev Kept : PespActivity → Type 0
  Kept = IsKept weighted.period times

  at : (index : ℕ) (activity : PespActivity)
      → slice_get (map (λ it. it.activity) weighted.activities) index ≡ Some activity
      → index < length weighted.activities
      → (get_or weighted.activities index nothing).activity ≡ activity
  at index activity is some =
      sym (get_or-map (λ it. it.activity) weighted.activities index nothing
      nothing.activity some) ∙ get_or_from_slice_get _ index activity nothing.activity is

  pub broken_first : (index : ℕ) → index < length weighted.activities
      → ¬ Kept (get_or weighted.activities index nothing).activity
      → ((k : ℕ) → k < index → Kept (get_or weighted.activities k nothing).activity)
      → Judges weighted times (judged.Broken index)
  broken_first index some breaks kept = (
    rw (length-map weighted.activities) some,
    (λ activity is keeps. breaks (subst Kept (sym (at index activity is some)) keeps)),
    (λ earlier activity less is.
        subst Kept (at earlier activity is (omega (arith, less, some))) (kept earlier less)),
  )

  pub all_kept : length times ≡ weighted.events → All (λ time. time < weighted.period) times
      → ((k : ℕ) → k < length weighted.activities
      → Kept (get_or weighted.activities k nothing).activity)
      → (cost : ℤ) → cost ≡ weighted_slack weighted times
      → Judges weighted times (judged.Kept cost)
  all_kept each within kept cost is = (
    record {
      each = each;
      within = within;
      kept = All-map Kept (λ it. it.activity) weighted.activities
          (All-from_get_or (λ it. Kept it.activity) weighted.activities nothing kept);
    },
    is,
  )

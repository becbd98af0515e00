-- A time has a partner where a time is left in a window.
use Rattle.plan_num.proofs.Common.{◌≡◌, ◌∙◌, inl, inr, ℕ, zero, suc, ℤ, pos, negsuc, ◌+◌, ◌-◌, ◌*◌}
use Rattle.plan_num.proofs.Common.{◌/◌, ◌%◌, ◌<◌, ◌≤◌, ◌≤ℤ◌, ◌-ℤ◌, min, Bool, true, false, cond}
use Rattle.plan_num.proofs.Common.{List, [], ◌∷◌, map, filter, Decides, refl, ap, sym, arith}
use Rattle.plan_num.proofs.Common.{slice_set, unsigned_abs, list_all, list_any, range_with_len}
use Rattle.plan_num.proofs.Common.{add-mod-mod, mod-add-mod, mod-add-div', add-mul-mod_self_right}
use Rattle.plan_num.proofs.Common.{add-mod_right, and_parts, cases_Bool, cases_eq, false≢true}
use Rattle.plan_num.proofs.Common.{or_cases, or_left, or_right, ints, All-cons, All-nil}
use Rattle.std.proofs.Math.Nat.{mod-eq_of_lt, mod-lt}
use Rattle.pesp.specs.declared.activity.PespActivity.{PespActivity}
use Rattle.pesp.specs.Timetables.{IsActivity, IsKept, keeps}
use Rattle.pesp.proofs.Keeping.{test_tells}
use Rattle.pesp.specs.declared.activity_end.ActivityEnd.{ActivityEnd}
use Rattle.pesp.specs.declared.activity_end.ActivityEnd.TheVariants as at
use Rattle.pesp.specs.Revising.{ahead, behind, event_at, is_partnered, opens_behind, other_end, reaches}
use Rattle.pesp.proofs.AnyBelow.{passes_below, some_below}
use Rattle.pesp.specs.Revising.{width_of}
use Rattle.plan_num.proofs.Tests.{same_tests}

-- ---- tests that hold somewhere

module _ (left test : ℕ → Bool) where
  pub kept_first : (x : ℕ) (xs : List ℕ) → left x ≡ true → filter left (x ∷ xs) ≡ x ∷ filter left xs
  kept_first x xs is = ap (λ b. cond b (x ∷ filter left xs) (filter left xs)) is

  pub left_out : (x : ℕ) (xs : List ℕ) → left x ≡ false → filter left (x ∷ xs) ≡ filter left xs
  left_out x xs is = ap (λ b. cond b (x ∷ filter left xs) (filter left xs)) is

  pub range_holds : (from n x : ℕ) → from ≤ x → x < from + n → left x ≡ true → test x ≡ true
      → list_any test (filter left (range_with_len from n)) ≡ true
  range_holds from zero x low high is holds = absurd (omega (arith, low, high))
  range_holds from (suc n) x low high is holds =
      elim (cases_eq from x) [
        | inl same ↦ grind (arith, kept_first, or_left)
        | inr other ↦ grind (
          arith,
          cases_Bool,
          kept_first,
          or_right,
          left_out,
          range_holds (from +
              1) n x (omega (arith, low, other)) (omega (arith, high)) is holds,
        )
      ]

  pub holds_in_range : (from n : ℕ) → list_any test (filter left (range_with_len from n)) ≡ true
      → (x : ℕ) × (from ≤ x) × (x < from + n) × (left x ≡ true) × (test x ≡ true)
  holds_in_range from zero is = absurd (false≢true is)
  holds_in_range from (suc n) is =
      elim (cases_Bool (left from)) [
        | inl kept ↦
            elim (or_cases (test from) _ (sym (ap (list_any test) (kept_first from _ kept)) ∙ is)) [
              | inl here ↦ (from, omega arith, omega arith, kept, here)
              | inr there ↦ later (holds_in_range (from + 1) n there)
            ]
        | inr gone ↦
            later (holds_in_range (from + 1) n (sym (ap (list_any test) (left_out from _ gone)) ∙ is))
      ]
    where
      later : ((x : ℕ) × (from + 1 ≤ x) × (x < from + 1 + n) × (left x ≡ true) × (test x ≡ true))
          → (x : ℕ) × (from ≤ x) × (x < from + suc n) × (left x ≡ true) × (test x ≡ true)
      later found = (found.0, omega (arith, found.1), omega (arith, found.2), found.3, found.4)

  -- each that is left passes
  pub all_in_range : (from n x : ℕ) → from ≤ x → x < from + n
      → list_all test (filter left (range_with_len from n)) ≡ true → left x ≡ true → test x ≡ true
  all_in_range from zero x low high all is = absurd (omega (arith, low, high))
  all_in_range from (suc n) x low high all is = elim (cases_eq from x) [
    | inl same ↦ grind (arith, and_parts, kept_first)
    | inr other ↦ grind (
      arith,
      all_in_range (from + 1) n x (omega (arith, low, other)) (omega
          (arith, high)) (rest (left from) all) is,
    )
  ]
    where
      xs : List ℕ
      xs = filter left (range_with_len (from + 1) n)

      rest : (b : Bool) → list_all test (cond b (from ∷ xs) xs) ≡ true → list_all test xs ≡ true
      rest true all = (and_parts (test from) _ all).1
      rest false all = all

-- tests that agree on a range
pub same_on_range : {X : Type 0} (test other : ℕ → X) (from n : ℕ)
    → ((x : ℕ) → from ≤ x → x < from + n → test x ≡ other x)
    → map test (range_with_len from n) ≡ map other (range_with_len from n)
same_on_range test other from zero same = refl
same_on_range test other from (suc n) same = λ i.
    same from (omega arith) (omega arith) i
    ∷ same_on_range test other (from + 1) n (λ x low high. same x (omega (arith, low)) (omega (arith, high))) i

pub set_on_range : {X : Type 0} (set other : ℕ → X) (one : X) (from n i event : ℕ)
    → from + i ≡ event → i < n
    → other event ≡ one → ((x : ℕ) → (x ≡ event → ⊥) → other x ≡ set x)
    → map other (range_with_len from n) ≡ slice_set (map set (range_with_len from n)) i one
set_on_range set other one from zero i event at low is others = absurd (omega (arith, low))
set_on_range set other one from (suc n) zero event at low is others =
    let own : from ≡ event = omega (arith, at) in
    λ k. (ap other own ∙ is) k
    ∷ same_on_range other set (from + 1) n
    (λ x above _. others x (λ same. absurd (omega (arith, same, own, above)))) k
set_on_range set other one from (suc n) (suc i) event at low is others =
    let apart : (from ≡ event → ⊥) = λ own. omega (arith, own, at) in
    λ k. others from apart k
    ∷ set_on_range set other one (from + 1) n i event (omega (arith, at)) (omega (arith, low)) is
    others k

-- ---- windows on plain numbers

module _ (period lower upper : ℕ) (some : 1 ≤ period) (order : lower ≤ upper) where
  abbrev width : ℕ
  width = min (upper - lower) (period - 1)

  width_low : width ≤ upper - lower
  width_low = omega arith

  around_width : (n : ℕ) → n ≤ upper - lower → n % period ≤ width
  around_width n few = grind arith

  turn : (time n m : ℕ) → (time + n % period + m % period) % period ≡ (time + (n + m)) % period
  turn time n m =
      add-mod-mod (time + n % period) m period
      ∙ ap (λ k. k % period) (swap (n % period)) ∙ add-mod-mod (time + m) n period
      ∙ ap (λ k. k % period) (swap' n)
    where
      swap : (k : ℕ) → time + k + m ≡ time + m + k
      swap k = omega arith

      swap' : (n : ℕ) → time + m + n ≡ time + (n + m)
      swap' n = omega arith

  -- the minutes behind the lower bound
  second_at : (time minutes : ℕ) → lower ≤ minutes
      → (time + lower % period + (minutes - lower) % period) % period ≡ (time + minutes) % period
  second_at time minutes enough = grind (arith, turn)

  abbrev back : ℕ
  back = period - (lower + width) % period

  first_at : (other time minutes : ℕ) → other < period → lower ≤ minutes → minutes ≤ upper
      → (other + minutes) % period ≡ time
      → (time + back + (width - (minutes - lower) % period)) % period ≡ other
  first_at other time minutes within enough short leads =
      let far = mod-add-div' (lower + width) period in
      let near = mod-add-div' (minutes - lower) period in
      let small : (lower + width) % period < period = mod-lt (lower + width) (omega (arith, some)) in
      let narrow = around_width (minutes - lower) (omega (arith, short)) in
      let sum : other + minutes + (back + (width - (minutes - lower) % period))
      ≡ other + period + (lower + width) / period * period + (minutes - lower) / period * period =
      omega (arith, far, near, small, narrow, enough) in
      ap (λ time. (time + back + (width - (minutes - lower) % period)) % period) (sym leads)
      ∙ ap (λ n. n % period) (group ((other + minutes) % period) back (width - (minutes - lower) % period))
      ∙ mod-add-mod (other + minutes) period _
      ∙ ap (λ n. n % period) sum
      ∙ add-mul-mod_self_right _ ((minutes - lower) / period) period
      ∙ add-mul-mod_self_right _ ((lower + width) / period) period
      ∙ add-mod_right other period
      ∙ mod-eq_of_lt within
    where
      group : (a b c : ℕ) → a + b + c ≡ a + (b + c)
      group a b c = omega arith

-- ---- activities

module _ (period : ℕ) (some : 1 ≤ period) where
  abbrev pair : PespActivity → PespActivity
  pair activity = record { from = 0; to = 1; lower = activity.lower; upper = activity.upper }

  abbrev Below : ℕ → Type 0
  Below time = time < period

  -- a test tells whether an activity can take minutes within its bounds
  told : (events : ℕ) (activity : PespActivity) (from to : ℕ) → IsActivity events activity
      → from < period → to < period
      → Decides (keeps period activity from to) (IsKept period (from ∷ to ∷ []) (pair activity))
  told events activity from to is low high =
      test_tells period (from ∷ to ∷ []) (All-cons Below from (to ∷ []) low (All-cons Below to [] high
      (All-nil Below))) (pair activity) (record {
        from = omega arith;
        to = omega arith;
        low = is.low;
        in_order = is.in_order;
        high = is.high;
      })

natural : (z : ℤ) → pos 0 ≤ℤ z → z ≡ pos (unsigned_abs z)
natural (pos n) low = refl
natural (negsuc n) low = absurd (omega (arith, ints))

difference : (l u : ℕ) → l ≤ u → unsigned_abs (pos u -ℤ pos l) ≡ u - l
difference l u order =
    let is : pos u -ℤ pos l ≡ pos (u - l) = omega (arith, ints) in ap unsigned_abs is

module _ (period : ℕ) (some : 1 ≤ period) (events : ℕ) (activity : PespActivity)
    (is : IsActivity events activity) where
  abbrev l : ℕ
  l = unsigned_abs activity.lower

  abbrev u : ℕ
  u = unsigned_abs activity.upper

  low_is : activity.lower ≡ pos l
  low_is = natural activity.lower is.low

  above : (y z : ℤ) → pos 0 ≤ℤ y → y ≤ℤ z → pos 0 ≤ℤ z
  above y z h k = omega (arith, ints)

  high_is : activity.upper ≡ pos u
  high_is = natural activity.upper (above activity.lower activity.upper is.low is.in_order)

  order : l ≤ u
  order = omega (arith, ints, low_is, high_is, is.in_order)

  width_is : width_of period activity ≡ width period l u some order
  width_is = ap (λ n. min n (period - 1))
      ((λ i. unsigned_abs (high_is i -ℤ low_is i)) ∙ difference l u order)

  low_of : (n : ℕ) → activity.lower ≤ℤ pos n → l ≤ n
  low_of n h = omega (arith, ints, low_is, h)

  high_of : (n : ℕ) → pos n ≤ℤ activity.upper → n ≤ u
  high_of n h = omega (arith, ints, high_is, h)

  of_low : (n : ℕ) → l ≤ n → activity.lower ≤ℤ pos n
  of_low n h = omega (arith, ints, low_is, h)

  of_high : (n : ℕ) → n ≤ u → pos n ≤ℤ activity.upper
  of_high n h = omega (arith, ints, high_is, h)

  second_reached : (left : ℕ → ℕ → Bool) (time : ℕ) → time < period
      → is_partnered period left activity at.First time
      ≡ reaches period (left activity.to) (ahead period activity) (width_of period activity) time
  second_reached left time low = same_tests _ _ to from
    where
      to : is_partnered period left activity at.First time ≡ true
          → reaches period (left activity.to) (ahead period activity) (width_of period activity) time ≡ true
      to holds =
          let found = holds_in_range (left activity.to) (keeps period activity time) 0 period holds in
          let within : found.0 < period = omega (arith, found.2) in
          let kept = (told period some events activity time found.0 is low within).0 found.4 in
          let enough = low_of kept.minutes kept.enough in
          let few = around_width period l u some order (kept.minutes - l)
          (omega (arith, enough, high_of kept.minutes kept.short)) in
          passes_below _ _ ((kept.minutes - l) % period) (omega (arith, few, width_is))
          (ap (left activity.to) (second_at period l u some order time kept.minutes enough ∙ kept.leads)
          ∙ found.3)

      from : reaches period (left activity.to) (ahead period activity) (width_of period activity) time ≡ true
          → is_partnered period left activity at.First time ≡ true
      from holds =
          let found = some_below _ _ holds in
          let k = found.0 in
          let other = (time + ahead period activity + k) % period in
          let within : other < period = mod-lt (time + ahead period activity + k) (omega (arith, some)) in
          let few : k ≤ u - l = omega (arith, found.1, width_is, width_low period l u some order) in
          range_holds (left activity.to) (keeps period activity time) 0 period other (omega arith)
          (omega (arith, within)) found.2
          ((told period some events activity time other is low within).1 (record {
            minutes = l + k;
            leads = sym (ap (λ n. n % period) (swap k) ∙ add-mod-mod (time + k) l period
                ∙ ap (λ n. n % period) (swap' k));
            enough = of_low (l + k) (omega arith);
            short = of_high (l + k) (omega (arith, few, order));
          }))
        where
          swap : (k : ℕ) → time + l % period + k ≡ time + k + l % period
          swap k = omega arith

          swap' : (k : ℕ) → time + k + l ≡ time + (l + k)
          swap' k = omega arith

  first_reached : (left : ℕ → ℕ → Bool) (time : ℕ) → time < period
      → is_partnered period left activity at.Second time
      ≡ reaches period (left activity.from) (behind period activity) (width_of period activity) time
  first_reached left time low = same_tests _ _ to from
    where
      behind_is : behind period activity ≡ back period l u some order
      behind_is = ap (λ n. period - (l + n) % period) width_is

      to : is_partnered period left activity at.Second time ≡ true
          → reaches period (left activity.from) (behind period activity) (width_of period activity) time ≡ true
      to holds =
          let found = holds_in_range (left activity.from) (λ other. keeps period activity other time) 0
          period holds in
          let within : found.0 < period = omega (arith, found.2) in
          let kept = (told period some events activity found.0 time is within low).0 found.4 in
          let enough = low_of kept.minutes kept.enough in
          let short = high_of kept.minutes kept.short in
          let at = first_at period l u some order found.0 time kept.minutes within enough short kept.leads in
          passes_below _ _ (width period l u some order - (kept.minutes - l) % period)
          (omega (arith, width_is))
          (ap (λ back. left activity.from ((time + back
          + (width period l u some order - (kept.minutes - l) % period)) % period)) behind_is
          ∙ ap (left activity.from) at ∙ found.3)

      from : reaches period (left activity.from) (behind period activity) (width_of period activity) time ≡ true
          → is_partnered period left activity at.Second time ≡ true
      from holds =
          let found = some_below _ _ holds in
          let k = found.0 in
          let other = (time + behind period activity + k) % period in
          let within : other < period = mod-lt (time + behind period activity + k) (omega (arith, some)) in
          let w = width_of period activity in
          let few : w ≤ u - l = omega (arith, width_is, width_low period l u some order) in
          let far = mod-add-div' (l + w) period in
          let small : (l + w) % period < period = mod-lt (l + w) (omega (arith, some)) in
          let sum : time + behind period activity + k + (l + (w - k))
          ≡ time + period + (l + w) / period * period =
          omega (arith, found.1, far, small) in
          range_holds (left activity.from) (λ other. keeps period activity other time) 0 period other
          (omega arith) (omega (arith, within)) found.2
          ((told period some events activity other time is within low).1 (record {
            minutes = l + (w - k);
            leads = mod-add-mod (time + behind period activity + k) period (l + (w - k))
                ∙ ap (λ n. n % period) sum
                ∙ add-mul-mod_self_right (time + period) ((l + w) / period) period
                ∙ add-mod_right time period ∙ mod-eq_of_lt low;
            enough = of_low (l + (w - k)) (omega arith);
            short = of_high (l + (w - k)) (omega (arith, few, order));
          }))

  -- a time at an end has a partner where a time is left in its window
  pub partner_reached : (left : ℕ → ℕ → Bool) (end : ActivityEnd) (time : ℕ) → time < period
      → is_partnered period left activity end time
      ≡ reaches period (left (event_at activity (other_end end))) (opens_behind period activity end)
      (width_of period activity) time
  partner_reached left at.First time low = second_reached left time low
  partner_reached left at.Second time low = first_reached left time low

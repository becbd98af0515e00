-- Rounds and any other way to take out times without a partner leave the same sets.
use Rattle.plan_num.proofs.Common.{◌≡◌, ◌∙◌, inl, inr, ℕ, zero, suc, ◌<◌, ◌==◌, nat_lt, Bool, true}
use Rattle.plan_num.proofs.Common.{false, not, ◌&&◌, ◌||◌, List, [], ◌∷◌, filter, get_or, pos}
use Rattle.plan_num.proofs.Common.{slice_get, Some, All, refl, ap, sym, subst, arith, list_all}
use Rattle.plan_num.proofs.Common.{list_any, range_with_len, length-map-range_with_len, and_from}
use Rattle.plan_num.proofs.Common.{and_parts, cases_Bool, eq-eqb, lt-ltb, All-from_get_or}
use Rattle.plan_num.proofs.Common.{none-some, slice_get-get_or}
use Rattle.pesp.specs.declared.activity.PespActivity.{PespActivity}
use Rattle.pesp.specs.Timetables.{IsActivity, IsProblem, Problem, keeps}
use Rattle.pesp.specs.Listings.{is_empty}
use Rattle.pesp.specs.Marks.{AreMarks, Tracked, family, is_left, sets_of}
use Rattle.pesp.specs.Revising.{AllFrom, HasEmpty, IsRevised, IsWithin, Left, Propagates}
use Rattle.pesp.specs.Revising.{Reduces}
use Rattle.pesp.specs.declared.activity_end.ActivityEnd.{ActivityEnd}
use Rattle.pesp.specs.declared.activity_end.ActivityEnd.TheVariants as at_end
use Rattle.pesp.specs.Revising.{are_partners, event_at, is_free, is_partnered, other_end}
use Rattle.pesp.specs.TimeSets.{has_partner, has_partners, left_to, reduced, round}
use Rattle.pesp.specs.TimeSets.{times_left}
use Rattle.pesp.proofs.Crowded.{free_revised}
use Rattle.pesp.proofs.EmptySets.{empty_within, some_left}
use Rattle.pesp.proofs.Families.{both_of, left_to_family}
use Rattle.pesp.proofs.Families.{round_family, same_family, sets_family}
use Rattle.pesp.proofs.Partners.{all_in_range, holds_in_range, range_holds}
use Rattle.pesp.proofs.ShrinkingSets.{reduced_length, reduced_partnered, rounds_leave}
use Rattle.pesp.proofs.Revised.{end_inside, partner_more}
use Rattle.pesp.proofs.Sweeping.{held}
use Rattle.plan_num.proofs.Tests.{same_tests}

-- ---- tests of all activities

all_hold : {X : Type 0} (test : X → Bool) (xs : List X)
    → ((i : ℕ) (x : X) → slice_get xs i ≡ Some x → test x ≡ true) → list_all test xs ≡ true
all_hold test [] holds = refl
all_hold test (x ∷ xs) holds =
    and_from (test x) (list_all test xs) (holds 0 x refl) (all_hold test xs (λ i. holds (suc i)))

holds_at : {X : Type 0} (test : X → Bool) (xs : List X) → list_all test xs ≡ true
    → (i : ℕ) (x : X) → slice_get xs i ≡ Some x → test x ≡ true
holds_at test [] all i x at = absurd (none-some x at)
holds_at test (first ∷ xs) all zero x at =
    let own : first ≡ x = cc in ap test (sym own) ∙ (and_parts (test first) _ all).0
holds_at test (first ∷ xs) all (suc i) x at = holds_at test xs (and_parts (test first) _ all).1 i
    x at

-- ---- partners in a family

module _ (problem : Problem) (sound : IsProblem problem) where
  abbrev period : ℕ
  period = problem.period

  abbrev events : ℕ
  events = problem.events

  abbrev sets : Left → List (List ℕ)
  sets left = family period events left

  abbrev partners : Left → Left
  partners left = has_partners problem (sets left)

  -- where an activity is there, a partner is one among the times that are left
  partner_is : (left : Left) (activity : PespActivity) → IsActivity events activity → (e t : ℕ)
      → has_partner period (sets left) e t activity
      ≡ ((not (activity.from == e) || is_partnered period left activity at_end.First t)
      && (not (activity.to == e) || is_partnered period left activity at_end.Second t))
  partner_is left activity is e t = λ i.
      (not (activity.from == e)
      || list_any (keeps period activity t) (left_to_family period events left activity.to is.to i))
      && (not (activity.to == e) || list_any (λ other. keeps period activity other t)
      (left_to_family period events left activity.from is.from i))

  activity_at : (i : ℕ) (activity : PespActivity) → slice_get problem.activities i ≡ Some activity
      → IsActivity events activity
  activity_at i activity at = held (IsActivity events) problem.activities i activity sound.sound at

  or_here : (a e : ℕ) (b : Bool) → (a ≡ e → b ≡ true) → (not (a == e) || b) ≡ true
  or_here a e b holds = grind arith

  here_or : (a : ℕ) (b : Bool) → (not (a == a) || b) ≡ true → b ≡ true
  here_or a b is = sym (ap (λ c. not c || b) (eq-eqb a a refl)) ∙ is

  -- times of sets in which all is revised have their partners among more times
  pub held_partners : (left others : Left)
      → AllFrom problem.activities (IsRevised period left) 0 → IsWithin left others
      → (e t : ℕ) → left e t ≡ true → partners others e t ≡ true
  held_partners left others revised within e t is =
      all_hold (has_partner period (sets others) e t) problem.activities (λ i activity at.
      let so = revised i activity at (omega arith) in
      partner_is others activity (activity_at i activity at) e t
      ∙ and_from _ _
      (or_here activity.from e _ (λ own. partner_more period left others activity at_end.First t within
      (so at_end.First t (ap (λ e. left e t) own ∙ is))))
      (or_here activity.to e _ (λ own. partner_more period left others activity at_end.Second t within
      (so at_end.Second t (ap (λ e. left e t) own ∙ is)))))

  abbrev no_activity : PespActivity
  no_activity = record { from = 0; to = 0; lower = pos 0; upper = pos 0 }

  -- ---- the times of events and of the period alone

  abbrev inside : Left → Left
  inside left event time = nat_lt event events && (nat_lt time period && left event time)

  inside_parts : (left : Left) (e t : ℕ) → inside left e t ≡ true
      → (e < events) × (t < period) × (left e t ≡ true)
  inside_parts left e t is = grind arith

  inside_from : (left : Left) (e t : ℕ) → e < events → t < period → left e t ≡ true
      → inside left e t ≡ true
  inside_from left e t within small is =
      and_from _ _ (lt-ltb e events within) (and_from _ _ (lt-ltb t period small) is)

  -- where no round takes a time out, all activities are revised
  stable_revised : (left : Left)
      → ((e t : ℕ) → e < events → t < period → left e t ≡ true → partners left e t ≡ true)
      → All (IsRevised period (inside left)) problem.activities
  stable_revised left stable = All-from_get_or (IsRevised period (inside left)) problem.activities
      no_activity
      (λ i within. revised i (get_or problem.activities i no_activity)
      (slice_get-get_or problem.activities i no_activity within))
    where
      told : (i : ℕ) (activity : PespActivity) → slice_get problem.activities i ≡ Some activity
          → (e t : ℕ)
          → inside left e t ≡ true
          → ((not (activity.from == e) || is_partnered period left activity at_end.First t) ≡ true)
          × ((not (activity.to == e) || is_partnered period left activity at_end.Second t) ≡ true)
      told i activity at e t is =
          let parts = inside_parts left e t is in
          and_parts _ _ (sym (partner_is left activity (activity_at i activity at) e t)
          ∙ holds_at (has_partner period (sets left) e t) problem.activities
          (stable e t parts.0 parts.1 parts.2) i activity at)

      kept_inside : (activity : PespActivity) (end : ActivityEnd) (t : ℕ)
          → IsActivity events activity → is_partnered period left activity end t ≡ true
          → is_partnered period (inside left) activity end t ≡ true
      kept_inside activity end t is holds =
          let event = event_at activity (other_end end) in
          let partners = are_partners period activity end t in
          let found = holds_in_range (left event) partners 0 period holds in
          range_holds (inside left event) partners 0 period found.0 found.1 found.2
          (inside_from left event found.0 (end_inside events activity is (other_end end))
          (omega (arith, found.2)) found.3) found.4

      revised : (i : ℕ) (activity : PespActivity) → slice_get problem.activities i ≡ Some activity
          → IsRevised period (inside left) activity
      revised i activity at at_end.First t is =
          kept_inside activity at_end.First t (activity_at i activity at)
          (here_or activity.from _ (told i activity at activity.from t is).0)
      revised i activity at at_end.Second t is =
          kept_inside activity at_end.Second t (activity_at i activity at)
          (here_or activity.to _ (told i activity at activity.to t is).1)

  -- ---- rounds

  -- sets are a family inside of the first one, and have all that is inside of it and revised
  abbrev IsLeft : Left → List (List ℕ) → Type 0
  IsLeft first left = (now : Left) × (left ≡ sets now) × IsWithin now first
      × ((last : Left) → AllFrom problem.activities (IsRevised period last) 0
      → IsWithin last first → IsWithin last now)

  round_left : (first : Left) (left : List (List ℕ)) → IsLeft first left
      → IsLeft first (round problem left)
  round_left first left so = (
    both_of so.0 (partners so.0),
    ap (round problem) so.1 ∙ round_family period problem events so.0,
    λ e t is. so.2 e t (and_parts (so.0 e t) _ is).0,
    λ last revised low e t is. and_from (so.0 e t) _ (so.3 last revised low e t is)
        (held_partners last so.0 revised (so.3 last revised low) e t is),
  )

  -- so are the reduced sets
  reduced_left : (first : Left) → IsLeft first (reduced problem (sets first))
  unfolding reduced
  reduced_left first =
      rounds_leave problem (IsLeft first) (round_left first) (times_left (sets first)) (sets first)
      (first, refl, λ e t is. is, λ _ _ low. low)

  -- and all activities are revised in them
  all_revised_in : (first : Left)
      → All (IsRevised period (inside (reduced_left first).0)) problem.activities
  all_revised_in first =
      let left = reduced problem (sets first) in
      let so = reduced_left first in
      let size = reduced_length problem (sets first) in
      let many = length-map-range_with_len (λ e. filter (first e) (range_with_len 0 period)) 0
      events in
      stable_revised so.0 (λ e t within small. all_in_range (so.0 e) (partners so.0 e) 0 period t
      (omega arith) (omega (arith, small))
      (ap (list_all (partners so.0 e)) (sym (left_to_family period events so.0 e within))
      ∙ sym (ap (λ left. list_all (has_partners problem left e) (left_to left e)) so.1)
      ∙ reduced_partnered problem (sets first) e (omega (arith, within, size, many))))

  pub family_reduced : (first last : Left) → AllFrom problem.activities (IsRevised period last) 0
      → ((left : Left) → All (IsRevised period left) problem.activities
      → IsWithin left first → IsWithin left last)
      → IsWithin last first → reduced problem (sets first) ≡ sets last
  family_reduced first last revised keeps_all low =
      let so = reduced_left first in
      so.1 ∙ same_family period events so.0 last (λ e t within small.
      same_tests (so.0 e t) (last e t)
      (λ is. keeps_all (inside so.0) (all_revised_in first)
      (λ e t is. so.2 e t (inside_parts so.0 e t is).2) e t (inside_from so.0 e t within small is))
      (so.3 last revised low e t))

  -- ---- marks

  module _ (before after : Tracked) (period_is : before.sets.columns ≡ period)
      (events_is : before.sets.rows ≡ events) (so : Propagates problem before after) where
    before_is : sets_of before.sets ≡ sets (is_left before.sets)
    before_is = sets_family before.sets
        ∙ (λ i. family (period_is i) (events_is i) (is_left before.sets))

    after_is : sets_of after.sets ≡ sets (is_left after.sets)
    after_is = sets_family after.sets
        ∙ (λ i. family ((so.period ∙ period_is) i) ((so.events ∙ events_is) i) (is_left after.sets))

    sets_reduced : AllFrom problem.activities (IsRevised period (is_left after.sets)) 0
        → sets_of after.sets ≡ reduced problem (sets_of before.sets)
    sets_reduced revised =
        after_is ∙ sym (family_reduced (is_left before.sets) (is_left after.sets) revised so.keeps
        so.within)
        ∙ sym (ap (reduced problem) before_is)

    -- where some event has no time left, it has none in the reduced sets
    none_reduced : HasEmpty after.sets
        → list_any is_empty (reduced problem (sets_of before.sets)) ≡ true
    none_reduced empty =
        let found = reduced_left (is_left before.sets) in
        let inner = so.keeps (inside found.0) (all_revised_in (is_left before.sets))
        (λ e t is. found.2 e t (inside_parts found.0 e t is).2) in
        let same = same_family period events found.0 (inside found.0) (λ e t within small.
        same_tests (found.0 e t) (inside found.0 e t)
        (λ is. inside_from found.0 e t within small is) (λ is. (inside_parts found.0 e t is).2)) in
        ap (list_any is_empty) (ap (reduced problem) before_is ∙ found.1 ∙ same)
        ∙ empty_within period (inside found.0) (is_left after.sets) inner events
        (sym (ap (list_any is_empty) after_is) ∙ empty)

    pub dead_stands : HasEmpty after.sets → Reduces problem before after
    dead_stands empty = record {
      period = so.period;
      events = so.events;
      saved = so.saved;
      within = so.within;
      stands = inl (empty, none_reduced empty);
    }

    -- all activities are revised that are not free, and where times are left to all events the others too
    pub bound_stands : AreMarks after.sets
        → AllFrom problem.activities (λ activity. is_free period activity ≡ false
        → IsRevised period (is_left after.sets) activity) 0
        → Reduces problem before after
    bound_stands are bound = elim (cases_Bool (list_any is_empty (sets_of after.sets))) [
      | inl empty ↦ dead_stands empty
      | inr none ↦
          let all = all_revised none in
          record {
            period = so.period;
            events = so.events;
            saved = so.saved;
            within = so.within;
            stands = inr (sets_reduced all, all);
          }
    ]
      where
        own_period : after.sets.columns ≡ period
        own_period = so.period ∙ period_is

        own_events : after.sets.rows ≡ events
        own_events = so.events ∙ events_is

        all_revised : list_any is_empty (sets_of after.sets) ≡ false
            → AllFrom problem.activities (IsRevised period (is_left after.sets)) 0
        all_revised none i activity at low = elim (cases_Bool (is_free period activity)) [
          | inr not_free ↦ bound i activity at low not_free
          | inl free ↦
              let is = activity_at i activity at in
              subst (λ period. IsRevised period (is_left after.sets) activity) own_period
              (free_revised activity after (subst (λ events. IsActivity events activity) (sym
              own_events) is) are
              (ap (λ (period : ℕ). is_free period activity) own_period ∙ free)
              (some_left after.sets activity.from (subst (λ events. activity.from < events) (sym
              own_events) is.from) none)
              (some_left after.sets activity.to (subst (λ events. activity.to < events) (sym
              own_events) is.to) none))
        ]

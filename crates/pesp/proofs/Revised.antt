-- What the sets of both events of an activity are after it has revised them.
use Rattle.plan_num.proofs.Common.{◌≡◌, ◌∙◌, ◌⊎◌, inl, inr, ℕ, ◌<◌, ◌==◌, Bool, true, false, not}
use Rattle.plan_num.proofs.Common.{◌&&◌, ◌-◌, ◌||◌, filter, length, refl, ap, sym, subst, arith}
use Rattle.plan_num.proofs.Common.{list_any, range_with_len, and_from, and_parts, cases_eq, eq-eqb}
use Rattle.plan_num.proofs.Common.{false≢true, ne_eqb, or_from, or_parts, get_or-set_at}
use Rattle.plan_num.proofs.Common.{get_or-set_other, length-set}
use Rattle.pesp.specs.declared.activity.PespActivity.{PespActivity}
use Rattle.pesp.specs.Timetables.{IsActivity}
use Rattle.pesp.specs.Listings.{is_empty}
use Rattle.pesp.specs.Marks.{Prunes, Tracked, is_left, marks_left, times_from}
use Rattle.pesp.proofs.EmptySets.{pruned_full}
use Rattle.pesp.specs.declared.activity_end.ActivityEnd.{ActivityEnd}
use Rattle.pesp.specs.declared.activity_end.ActivityEnd.TheVariants as ends
use Rattle.pesp.specs.Revising.{IsRevised, IsWithin, Left, PartneredUnless, RevisedUnless, Revises}
use Rattle.pesp.specs.Revising.{RevisesEnd, StaysFull, Touches, are_partners, either, event_at}
use Rattle.pesp.specs.Revising.{is_partnered, keeps_partnered, noted, other_end}
use Rattle.pesp.specs.Flags.{Flags, has_changed}
use Rattle.pesp.proofs.Partners.{holds_in_range, range_holds}

-- ---- the ends of an activity

pub end_inside : (events : ℕ) (activity : PespActivity) → IsActivity events activity
    → (end : ActivityEnd) → event_at activity end < events
end_inside events activity is ends.First = is.from
end_inside events activity is ends.Second = is.to

pub ends_apart : (activity : PespActivity) → (activity.from ≡ activity.to → ⊥) → (end : ActivityEnd)
    → event_at activity (other_end end) ≡ event_at activity end → ⊥
ends_apart activity apart ends.First same = apart (sym same)
ends_apart activity apart ends.Second same = apart same

-- ---- partners among more times

pub partner_more : (period : ℕ) (left others : Left) (activity : PespActivity) (end : ActivityEnd)
    (time : ℕ) → IsWithin left others → is_partnered period left activity end time ≡ true
    → is_partnered period others activity end time ≡ true
partner_more period left others activity end time within is =
    let partners = are_partners period activity end time in
    let found = holds_in_range (left (event_at activity (other_end end))) partners 0 period is in
    range_holds (others (event_at activity (other_end end))) partners 0 period found.0 found.1 found.2
    (within (event_at activity (other_end end)) found.0 found.3) found.4

-- ---- a test of the times of one event

module _ (kept : ℕ) (test : ℕ → Bool) where
  abbrev kept_test : Left
  kept_test event time = not (event == kept) || test time

  passes_elsewhere : (e t : ℕ) → (e ≡ kept → ⊥) → kept_test e t ≡ true
  passes_elsewhere e t other = ap (λ b. not b || test t) (ne_eqb e kept other)

  passes_here : (t : ℕ) → kept_test kept t ≡ test t
  passes_here t = ap (λ b. not b || test t) (eq-eqb kept kept refl)

  -- what holds of all times of the event passes it
  passes : (left : Left) → ((t : ℕ) → left kept t ≡ true → test t ≡ true) → (e t : ℕ)
      → left e t ≡ true → kept_test e t ≡ true
  passes left holds e t is = grind arith

-- ---- flags

events_noted : (flags : Flags) (event : ℕ) (is : Bool)
    → length (noted flags event is) ≡ length flags
events_noted flags event true = length-set flags event true
events_noted flags event false = refl

not_noted : (flags : Flags) (event : ℕ) (is : Bool) (e : ℕ) → event < length flags
    → has_changed (noted flags event is) e ≡ false
    → (has_changed flags e ≡ false) × (e ≡ event → is ≡ false)
not_noted flags event false e inside none = (none, λ _. refl)
not_noted flags event true e inside none = grind (
  arith,
  cases_eq,
  false≢true,
  get_or-set_at,
  get_or-set_other,
)

is_noted : (flags : Flags) (event : ℕ) (is : Bool) (e : ℕ)
    → has_changed (noted flags event is) e ≡ true → (has_changed flags e ≡ true) ⊎ (is ≡ true)
is_noted flags event true e some = inr refl
is_noted flags event false e some = inl some

-- ---- one side

module _ (before after : Tracked) (kept : ℕ) (test : ℕ → Bool) (changes : Bool)
    (so : Prunes before after (kept_test kept test) changes) where
  abbrev old : Left
  old = is_left before.sets

  abbrev new : Left
  new = is_left after.sets

  at : (e t : ℕ) → new e t ≡ (old e t && kept_test kept test e t)
  at e t = ap (λ (left : Left). left e t) so.left

  side_within : IsWithin new old
  side_within e t is = (and_parts (old e t) _ (sym (at e t) ∙ is)).0

  side_keeps : (left : Left) → ((t : ℕ) → left kept t ≡ true → test t ≡ true) → IsWithin left old
      → IsWithin left new
  side_keeps left holds within e t is =
      at e t ∙ and_from (old e t) _ (within e t is) (passes kept test left holds e t is)

  side_passes : (t : ℕ) → new kept t ≡ true → test t ≡ true
  side_passes t is = sym (passes_here kept test t) ∙ (and_parts (old kept t) _ (sym (at kept t)
      ∙ is)).1

  and_all : (x y : Bool) → y ≡ true → (x && y) ≡ x
  and_all true y is = is
  and_all false y is = refl

  pub side_untouched : (e : ℕ) → (e ≡ kept → changes ≡ false) → new e ≡ old e
  side_untouched e same = elim (cases_eq e kept) [
    | inl own ↦ ap (λ (tracked : Tracked). is_left tracked.sets e) (so.same (same own))
    | inr other ↦ λ i t. (at e t ∙ and_all (old e t) _ (passes_elsewhere kept test e t other)) i
  ]

-- ---- what is known of a side, and of both

module _ (activity : PespActivity) (before after : Tracked) (kept : ℕ) (test : ℕ
    → Bool) (changes : Bool)
    (flags : Flags) (inside : kept < length flags)
    (so : Prunes before after (kept_test kept test) changes)
    (holds : (left : Left) → IsRevised before.sets.columns left activity
    → IsWithin left (is_left before.sets) → (t : ℕ) → left kept t ≡ true → test t ≡ true) where
  side_touches : Touches activity before after flags (noted flags kept changes)
  side_touches = record {
    period = so.period;
    events = so.events;
    saved = so.saved;
    within = side_within before after kept test changes so;
    keeps = λ left revised within.
        side_keeps before after kept test changes so left (holds left revised within) within;
    each = events_noted flags kept changes;
    untouched = λ event none.
        let parts = not_noted flags kept changes event inside none in
        (parts.0, side_untouched before after kept test changes so event parts.1);
    fewer = λ event some. fewer_marks event (is_noted flags kept changes event some);
    no_more = so.no_more;
  }
    where
      fewer_marks : (event : ℕ) → (has_changed flags event ≡ true) ⊎ (changes ≡ true)
          → (has_changed flags event ≡ true) ⊎ (marks_left after.sets < marks_left before.sets)
      fewer_marks event (inl was) = inl was
      fewer_marks event (inr is) = inr (so.fewer is)

pub end_revised : (activity : PespActivity) (end : ActivityEnd) (before after : Tracked)
    (changes : Bool) (at : ℕ) (flags : Flags) → event_at activity end < length flags
    → Prunes before after (keeps_partnered before.sets.columns (is_left before.sets) activity end)
    changes → RevisesEnd activity end at before after flags (noted flags (event_at activity end) changes)
end_revised activity end before after changes at flags inside so =
    let period = before.sets.columns in
    let test = is_partnered period (is_left before.sets) activity end in
    let touched = side_touches activity before after (event_at activity end) test changes flags inside
    so (λ left revised within t is.
    partner_more period left (is_left before.sets) activity end t within (revised end t is)) in (
      touched,
      λ _ none t is.
          ap (λ (left : ℕ → Bool). list_any (are_partners period activity end t)
          (filter left (range_with_len 0 period)))
          (touched.untouched (event_at activity (other_end end)) none).1
          ∙ side_passes before after (event_at activity end) test changes so t is,
    )

-- the set of another event stays as it was
pub own_kept : (before after : Tracked) (kept at : ℕ) (test : ℕ → Bool) (changes : Bool)
    → Prunes before after (kept_test kept test) changes → (at ≡ kept → ⊥)
    → times_from after.sets at 0 ≡ times_from before.sets at 0
own_kept before after kept at test changes so apart =
    λ i. filter (side_untouched before after kept test changes so at (λ own. absurd (apart own)) i)
    (range_with_len 0 (so.period i - 0))

-- times stay left to all events where some do to this one
pub side_full : (before after : Tracked) (kept : ℕ) (test : ℕ → Bool) (changes : Bool)
    → Prunes before after (kept_test kept test) changes
    → (changes ≡ true → is_empty (times_from after.sets kept 0) ≡ false) → StaysFull before after
side_full before after kept test changes so some =
    pruned_full before after kept (kept_test kept test) changes so
    (λ event apart. side_untouched before after kept test changes so event (λ own. absurd (apart
    own)))
    some

-- what is revised stays so where the set of the other event has not changed
pub carried_end : (period : ℕ) (first last : Left) (flags more : ℕ → Bool) (other : PespActivity)
    (end : ActivityEnd) → IsWithin last first
    → ((event : ℕ) → more event ≡ false → (flags event ≡ false) × (last event ≡ first event))
    → PartneredUnless period first flags other end → PartneredUnless period last more other end
carried_end period first last flags more other end within untouched so none t is = grind arith

-- one end behind the other
module _ (activity : PespActivity) (at : ℕ) (start middle end : Tracked)
    (flags some more : Flags) (one : RevisesEnd activity ends.First at start middle flags some)
    (two : RevisesEnd activity ends.Second at middle end some more) where
  both_touched : Touches activity start end flags more
  both_touched = record {
    period = two.0.period ∙ one.0.period;
    events = two.0.events ∙ one.0.events;
    saved = two.0.saved ∙ one.0.saved;
    within = λ e t is. one.0.within e t (two.0.within e t is);
    keeps = λ left revised within. two.0.keeps left
        (subst (λ period. IsRevised period left activity) (sym one.0.period) revised)
        (one.0.keeps left revised within);
    each = two.0.each ∙ one.0.each;
    untouched = λ event none. grind arith;
    fewer = λ event is. fewer_marks event (two.0.fewer event is);
    no_more = omega (arith, one.0.no_more, two.0.no_more);
  }
    where
      fewer_marks : (event : ℕ)
          → (has_changed some event ≡ true) ⊎ (marks_left end.sets < marks_left middle.sets)
          → (has_changed flags event ≡ true) ⊎ (marks_left end.sets < marks_left start.sets)
      fewer_marks event (inr less) = inr (omega (arith, less, one.0.no_more))
      fewer_marks event (inl was) = grind arith

  last_here : PartneredUnless start.sets.columns (is_left middle.sets) (either at some) activity ends.Second
      → PartneredUnless start.sets.columns (is_left end.sets) (has_changed more) activity ends.Second
  last_here = grind (arith, at)

  each_end : RevisedUnless start.sets.columns (is_left start.sets) (either at flags) activity
      → RevisedUnless start.sets.columns (is_left end.sets) (has_changed more) activity
  each_end so ends.First = carried_end start.sets.columns (is_left middle.sets) (is_left end.sets)
      (has_changed some) (has_changed more) activity ends.First two.0.within two.0.untouched
      (one.1 (so ends.First))
  each_end so ends.Second = last_here (carried_end start.sets.columns (is_left start.sets)
      (is_left middle.sets) (either at flags) (either at some) activity ends.Second one.0.within
      (λ event none.
      let parts = or_parts (event == at) _ none in grind (arith, or_from, at)) (so ends.Second))

  pub both_revised : Revises activity at start end flags more
  both_revised = (both_touched, each_end)

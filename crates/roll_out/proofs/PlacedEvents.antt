-- Events whose ids are their places, and activities between them.
use Rattle.plan_num.proofs.Common.{◌≡◌, ℕ, zero, suc, ◌+◌, ◌-◌, ◌<◌, ◌≤◌, ◌==◌, ◌⊎◌, inl, inr}
use Rattle.plan_num.proofs.Common.{arith, Bool, false, ◌&&◌, ◌||◌, List, [], ◌∷◌, length, map}
use Rattle.plan_num.proofs.Common.{get_or, refl, ap, sym, ◌∙◌, list_any, range_with_len, eq-eqb}
use Rattle.plan_num.proofs.Common.{ne_eqb, get_or-map, get_or-range_with_len}
use Rattle.std.proofs.Math.Bool.{or-false as or_false}
use Rattle.event_tables.specs.declared.periodic_activity.PeriodicActivity.{PeriodicActivity}
use Rattle.event_tables.specs.declared.periodic_event.PeriodicEvent.{PeriodicEvent}
use Rattle.event_tables.proofs.Common.{joins, AreNumbered, goes_between, is_placed}

no_any : {X : Type 0} (p : X → Bool) (xs : List X) → ((x : X) → p x ≡ false) → list_any p xs ≡ false
no_any p [] none = refl
no_any p (x ∷ xs) none = ap (λ b. b || list_any p xs) (none x) ∙ no_any p xs none

module _ (p : PeriodicEvent → Bool) (k : ℕ) (only : (x : PeriodicEvent) → (x.id ≡ k → ⊥) → p x
    ≡ false) where
  none_with : (a : ℕ) (xs : List PeriodicEvent) → map (λ (x : PeriodicEvent). x.id) xs
      ≡ range_with_len a (length xs)
      → ((k < a) ⊎ (a + length xs ≤ k)) → list_any p xs ≡ false
  none_with a [] are out = refl
  none_with a (x ∷ xs) are out =
      let first : x.id ≡ a = let e = are in cc in
      let rest : map (λ (x : PeriodicEvent). x.id) xs
      ≡ range_with_len (a + 1) (length xs) = let e = are in cc in grind (
        arith,
        none_with (a + 1) xs
            rest (further out),
      )
    where
      further : ((k < a) ⊎ (a + suc (length xs) ≤ k)) → ((k < a + 1) ⊎ (a + 1 + length xs ≤ k))
      further (inl low) = inl (omega (arith, low))
      further (inr high) = inr (omega (arith, high))

  any_with : (a i : ℕ) (xs : List PeriodicEvent) (d : PeriodicEvent)
      → map (λ (x : PeriodicEvent). x.id) xs ≡ range_with_len a (length xs)
      → k ≡ a + i → i < length xs → list_any p xs ≡ p (get_or xs i d)
  any_with a i [] d are at h = absurd (omega (arith, h))
  any_with a zero (x ∷ xs) d are at h = grind (arith, none_with, or_false)
  any_with a (suc i) (x ∷ xs) d are at h =
      let first : x.id ≡ a = let e = are in cc in
      let rest : map (λ (x : PeriodicEvent). x.id) xs
      ≡ range_with_len (a + 1) (length xs) = let e = are in cc in grind (
        arith,
        any_with (a + 1) i
            xs d rest (omega (arith, at)) (omega (arith, h)),
      )

module _ (events : List PeriodicEvent) (are : AreNumbered (λ event. event.id) events)
    (at : PeriodicActivity)
    (d : PeriodicEvent) where
  abbrev to_any : PeriodicEvent → Bool
  to_any event = list_any (goes_between at event) events

  other_from : (event : PeriodicEvent) → (event.id ≡ at.from → ⊥) → to_any event ≡ false
  other_from event other = grind (arith, no_any, ne_eqb)

  other_to : (event next : PeriodicEvent) → (next.id ≡ at.to → ⊥) → goes_between at event next
      ≡ false
  other_to event next other = grind (arith, ne_eqb)

  -- an activity from no event is not placed
  pub unknown_from : ((at.from < 1) ⊎ (length events < at.from)) → false ≡ is_placed events at
  unknown_from out = sym (none_with to_any at.from other_from 1 events are (further out))
    where
      further : ((at.from < 1) ⊎ (length events < at.from))
          → ((at.from < 1) ⊎ (1 + length events ≤ at.from))
      further (inl low) = inl low
      further (inr high) = inr (omega (arith, high))

  -- nor is one to no event
  pub unknown_to : ((at.to < 1) ⊎ (length events < at.to)) → false ≡ is_placed events at
  unknown_to out =
      sym (no_any to_any events
      (λ event. none_with (goes_between at event) at.to (other_to event) 1 events are
      (further out)))
    where
      further : ((at.to < 1) ⊎ (length events < at.to))
          → ((at.to < 1) ⊎ (1 + length events ≤ at.to))
      further (inl low) = inl low
      further (inr high) = inr (omega (arith, high))

  abbrev tail : PeriodicEvent
  tail = get_or events (at.from - 1) d

  abbrev head : PeriodicEvent
  head = get_or events (at.to - 1) d

  id_is : (k : ℕ) → 1 ≤ k → k ≤ length events → (get_or events (k - 1) d).id ≡ k
  id_is k low high =
      sym (get_or-map (λ (event : PeriodicEvent). event.id) events (k - 1) d 0
      (omega (arith, low, high)))
      ∙ ap (λ ids. get_or ids (k - 1) 0) are
      ∙ get_or-range_with_len 1 (length events) (k - 1) 0 (omega (arith, low, high))
      ∙ omega (arith, low)

  -- between two events it is placed where its kind may join them
  pub known_ends_is : (1 ≤ at.from) × (at.from ≤ length events) → (1 ≤ at.to)
      × (at.to ≤ length events)
      → joins at.kind tail head ≡ is_placed events at
  known_ends_is from to =
      sym (any_with to_any at.from other_from 1 (at.from - 1) events d are (omega (arith, from.0))
      (omega (arith, from.0, from.1))
      ∙ any_with (goes_between at tail) at.to (other_to tail) 1 (at.to - 1) events d are
      (omega (arith, to.0))
      (omega (arith, to.0, to.1))
      ∙ ap (λ b. b && at.to == head.id && joins at.kind tail head)
      (eq-eqb at.from tail.id (sym (id_is at.from from.0 from.1)))
      ∙ ap (λ b. b && joins at.kind tail head) (eq-eqb at.to head.id (sym (id_is at.to to.0 to.1))))

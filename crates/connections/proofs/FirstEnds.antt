-- The first arrival that can be reached, event by event.
use Rattle.plan_num.proofs.Common.{◌≡◌, ℕ, ℤ, ◌+◌, ◌<◌, ◌⊎◌, ◌&&◌, inl, inr, nat_lt, Bool, true}
use Rattle.plan_num.proofs.Common.{false, List, Option, Some, None, refl, subst, arith, and_parts}
use Rattle.plan_num.proofs.Common.{both_ways, cases_Bool, cases_eq, cond_both, ltb-true}
use Rattle.connections.specs.declared.way.Way.{Way}
use Rattle.connections.specs.Earliest.{IsNoLater}
use Rattle.connections.specs.Ends.{IsFirstEnd, earlier_end, is_end}
use Rattle.connections.specs.Nets.{JourneyParts, time_at}
use Rattle.connections.specs.Journeys.{arrives_at, passes_at}
use Rattle.connections.specs.Ways.{is_reached, way_at}

-- the first two of three tests
front : (a b c : Bool) → (a && (b && c)) ≡ true → (a && b) ≡ true
front a b c all = grind arith

third : (a b c : Bool) → (a && (b && c)) ≡ true → c ≡ true
third a b c all = (and_parts b c (and_parts a (b && c) all).1).1

third_fails : (a b c : Bool) → (a && (b && c)) ≡ false → (a && b) ≡ true → c ≡ false
third_fails true true c all some = all
third_fails true false c all some = absurd (both_ways false refl some)
third_fails false b c all some = absurd (both_ways false refl some)

-- a number below the next one
below : (other event : ℕ) → other < event + 1 → (other < event) ⊎ (other ≡ event)
below other event less = grind (arith, cases_eq)

module _ (net : JourneyParts) (ways : List Way) (to : ℤ) (event : ℕ) where
  abbrev arrives : Bool
  arrives = passes_at (arrives_at to) net event

  abbrev reached : Bool
  reached = is_reached (way_at ways event)

  abbrev sooner : ℕ → Bool
  sooner end = nat_lt (time_at net event) (time_at net end)

  abbrev Told : Option ℕ → Type 0
  Told = IsFirstEnd net ways to (event + 1)

  -- an event that is first among those so far
  here : (first : Option ℕ) → is_end net ways to event ≡ true
      → ((other : ℕ) → other < event → is_end net ways to other ≡ true → IsNoLater net event other)
      → Told (Some event)
  here first is others = grind (arith, below)

  pub first_kept : (first : Option ℕ) → IsFirstEnd net ways to event first
      → Told (earlier_end net ways to first event)
  first_kept None none =
      cond_both (arrives && (reached && true)) (Some event) None Told
      (λ is. here None (front arrives reached true is)
      (λ other low ends. absurd (both_ways (is_end net ways to other) (none other low) ends)))
      (λ fails other less. by other fails (below other event less))
    where
      by : (other : ℕ) → (arrives && (reached && true)) ≡ false
          → (other < event) ⊎ (other ≡ event) → is_end net ways to other ≡ false
      by other fails (inl low) = none other low
      by other fails (inr same) = ends (cases_Bool (is_end net ways to other))
        where
          ends : (is_end net ways to other ≡ true) ⊎ (is_end net ways to other ≡ false)
              → is_end net ways to other ≡ false
          ends (inr is) = is
          ends (inl is) = absurd (both_ways true
              (third_fails arrives reached true fails
              (subst (λ e. is_end net ways to e ≡ true) same is)) refl)
  first_kept (Some end) told =
      cond_both (arrives && (reached && sooner end)) (Some event) (Some end) Told
      (λ is. here (Some end) (front arrives reached (sooner end) is)
      (λ other low ends. before other (third arrives reached (sooner end) is)
      (told.2 other low ends)))
      (λ fails. (
        omega (arith, told.0),
        told.1,
        λ other less ends. by other fails ends (below other event less),
      ))
    where
      before : (other : ℕ) → sooner end ≡ true → IsNoLater net end other → IsNoLater net event other
      before other is (inl less) =
          let early = ltb-true (time_at net event) (time_at net end) is in
          inl (omega (arith, early, less))
      before other is (inr same) =
          let early = ltb-true (time_at net event) (time_at net end) is in
          let times = same.0 in
          inl (omega (arith, early, times))

      by : (other : ℕ) → (arrives && (reached && sooner end)) ≡ false
          → is_end net ways to other ≡ true → (other < event) ⊎ (other ≡ event)
          → IsNoLater net end other
      by other fails ends (inl low) = told.2 other low ends
      by other fails ends (inr same) = grind arith

-- Lists of events that rise, and the last event of a list.
use Rattle.plan_num.proofs.Common.{◌≡◌, ℕ, zero, suc, ◌+◌, ◌-◌, ◌<◌, ◌≤◌, ◌⊎◌, inl, inr, nat_lt}
use Rattle.plan_num.proofs.Common.{nat_eq, true, List, [], ◌∷◌, length, get_or, slice_get, Result}
use Rattle.plan_num.proofs.Common.{Ok, Err, refl, sym, subst, ◌∙◌, arith, IsNonDecreasingBy}
use Rattle.plan_num.proofs.Common.{IsStrictlyIncreasing, nat_cmp, MatchResult, and_from, and_parts}
use Rattle.plan_num.proofs.Common.{cases_lt, eq-eqb, lt-ltb, ltb-true, ne_eqb, get_or_default}
use Rattle.plan_num.proofs.Common.{list_any_at, list_any_none, searched}
use Rattle.std.proofs.Common.{is_ok}
use Rattle.std.specs.List.Sorted.{IsBinarySearchResult}
use Rattle.std.proofs.lemmas.List.Sorted.{IsNonDecreasingBy-from_all_adjacent}
use Rattle.connections.specs.Earliest.{is_rising}
use Rattle.connections.specs.Journeys.{last_of}
use Rattle.connections.specs.Judged.{is_in}

-- each event of a list that rises is below the next one
pub rising_at : (events : List ℕ) → is_rising events ≡ true → (k d : ℕ) → k + 1 < length events
    → get_or events k d < get_or events (k + 1) d
rising_at [] is k d inside = absurd (omega (arith, inside))
rising_at (x ∷ []) is k d inside = absurd (omega (arith, inside))
rising_at (x ∷ y ∷ more) is zero d inside =
    ltb-true x y (and_parts (nat_lt x y) (is_rising (y ∷ more)) is).0
rising_at (x ∷ y ∷ more) is (suc k) d inside =
    let later : suc k + 1 ≡ suc (k + 1) = omega arith in
    rw later (rising_at (y ∷ more) (and_parts (nat_lt x y) (is_rising (y ∷ more)) is).1 k d
    (omega (arith, inside)))

pub rising_from : (events : List ℕ) → IsStrictlyIncreasing events → is_rising events ≡ true
rising_from [] rises = refl
rising_from (x ∷ []) rises = refl
rising_from (x ∷ y ∷ more) rises =
    and_from (nat_lt x y) (is_rising (y ∷ more)) (lt-ltb x y (rises 0 (omega arith)))
    (rising_from (y ∷ more)
    (λ k inside. let later : suc k + 1 ≡ suc (k + 1) = omega arith in
    subst (λ place. get_or (x ∷ y ∷ more) (suc k) 0 < get_or (x ∷ y ∷ more) place 0) later
    (rises (suc k) (omega (arith, inside)))))

in_order : (events : List ℕ) → is_rising events ≡ true → IsNonDecreasingBy (λ x. x) events
in_order events is = IsNonDecreasingBy-from_all_adjacent (λ x. x) events
    (λ k d inside. let less = rising_at events is k d inside in omega (arith, less))

-- what halving finds in a list that rises
pub halved : (events : List ℕ) (event : ℕ) (r : Result ℕ ℕ)
    → IsBinarySearchResult (λ y. nat_cmp y event) events r → is_rising events ≡ true
    → is_ok r ≡ is_in events event
halved events event r searching is =
    by r (searched events event r searching (λ i j low high. in_order events is i j 0 low high))
  where
    apart : (i : ℕ) → ((k : ℕ) → k < i → get_or events k 0 < event)
        → ((k : ℕ) → i ≤ k → k < length events → event < get_or events k 0)
        → (k d : ℕ) → k < length events → event ≡ get_or events k d → ⊥
    apart i below above k d inside same = from (cases_lt k i)
      where
        here : event ≡ get_or events k 0
        here = same ∙ get_or_default events k d 0 inside

        from : (k < i) ⊎ (i ≤ k) → ⊥
        from (inl low) = let less = below k low in omega (arith, less, here)
        from (inr high) = let more = above k high inside in omega (arith, more, here)

    by : (r : Result ℕ ℕ) → MatchResult r (λ i. (i < length events) × (get_or events i 0 ≡ event))
        (λ i. (i ≤ length events) × ((k : ℕ) → k < i → get_or events k 0 < event)
        × ((k : ℕ) → i ≤ k → k < length events → event < get_or events k 0))
        → is_ok r ≡ is_in events event
    by (Ok i) found = grind (arith, list_any_at, nat_eq, eq-eqb, get_or)
    by (Err i) none =
        sym (list_any_none (nat_eq event) events
        (λ k d inside. ne_eqb event (get_or events k d) (apart i none.1 none.2 k d inside)))

-- the last event of a list stands at the last place
pub last_at : (events : List ℕ) → last_of events ≡ slice_get events (length events - 1)
last_at [] = refl
last_at (x ∷ []) = refl
last_at (x ∷ y ∷ more) = grind (arith, slice_get, last_at (y ∷ more))

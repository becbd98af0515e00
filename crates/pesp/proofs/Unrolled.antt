-- A listing does not depend on how many branches it is given, as long as there are enough.
use Rattle.plan_num.proofs.Common.{◌≡◌, ◌∙◌, ℕ, zero, suc, ◌<◌, true, false, List, position, Option}
use Rattle.plan_num.proofs.Common.{Some, None, refl, ap, sym, arith, list_any}
use Rattle.pesp.specs.Timetables.{Problem}
use Rattle.pesp.specs.Listings.{Listing, branches, entry, has_several, in_turn, is_empty}
use Rattle.pesp.specs.Listings.{listing_from}
use Rattle.pesp.specs.Listings.{listing_of, one_more, several_in, with_time}
use Rattle.pesp.specs.TimeSets.{left_to, reduced}
use Rattle.pesp.proofs.ListedTimes.{fewer_settled, several_at}
use Rattle.pesp.proofs.ShrinkingSets.{reduced_several}

-- ---- events with several times

branch_several : (sets : List (List ℕ)) (event time : ℕ) → position has_several sets ≡ Some event
    → several_in (with_time sets event time) < several_in sets
branch_several sets event time is = grind (arith, several_at, fewer_settled)

-- ---- what is listed in turn

pub same_turns : {X : Type 0} (visit other : X → Listing) → ((x : X) → visit x ≡ other x)
    → (xs : List X) → in_turn visit xs ≡ in_turn other xs
same_turns visit other same xs = ap (λ visit. in_turn visit xs) (λ i x. same x i)

branches_same : (sets : List (List ℕ)) (visit other : ℕ → ℕ → Listing) (found : Option ℕ)
    → ((event : ℕ) → found ≡ Some event → (time : ℕ) → visit event time ≡ other event time)
    → branches sets visit found ≡ branches sets other found
branches_same sets visit other None same = refl
branches_same sets visit other (Some event) same =
    ap one_more (same_turns (visit event) (other event) (same event refl) (left_to sets event))

entry_same : (sets : List (List ℕ)) (visit other : ℕ → ℕ → Listing)
    → ((event : ℕ) → position has_several sets ≡ Some event → (time : ℕ)
    → visit event time ≡ other event time)
    → entry sets visit ≡ entry sets other
entry_same sets visit other same =
    elim (list_any is_empty sets) as (λ b. elim b as (λ _. Listing) [
      | true ↦ record { entries = 1; found = None }
      | false ↦ branches sets visit (position has_several sets)
    ] ≡ elim b as (λ _. Listing) [
      | true ↦ record { entries = 1; found = None }
      | false ↦ branches sets other (position has_several sets)
    ]) [
      | true ↦ refl
      | false ↦ branches_same sets visit other (position has_several sets) same
    ]

-- ---- enough branches

module _ (problem : Problem) where
  step : (n : ℕ) (sets : List (List ℕ)) → listing_from (suc n) problem sets
      ≡ entry (reduced problem sets)
      (λ event time. listing_from n problem (with_time (reduced problem sets) event time))
  unfolding listing_from
  step n sets = refl

  enough : (n m : ℕ) (sets : List (List ℕ)) → several_in sets < n → several_in sets < m
      → listing_from n problem sets ≡ listing_from m problem sets
  enough zero m sets low high = absurd (omega (arith, low))
  enough (suc n) zero sets low high = absurd (omega (arith, high))
  enough (suc n) (suc m) sets low high =
      let all = reduced_several problem sets in
      step n sets
      ∙ entry_same (reduced problem sets) _ _ (λ event is time.
      let less = branch_several (reduced problem sets) event time is in
      enough n m (with_time (reduced problem sets) event time) (omega (arith, low, all, less))
      (omega (arith, high, all, less)))
      ∙ sym (step m sets)

  -- what is listed from sets on, by the listings of their children
  pub unrolls : (sets : List (List ℕ)) → listing_of problem sets ≡ entry (reduced problem sets)
      (λ event time. listing_of problem (with_time (reduced problem sets) event time))
  unrolls sets = grind (arith, reduced_several, step, entry_same, branch_several, enough)

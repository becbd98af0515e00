-- Steps over many arcs.
use Rattle.plan_num.proofs.Common.{◌≡◌, ℕ, ◌+◌, ◌-◌, ◌<◌, ◌≤◌, ◌||◌, Bool, true, false, List}
use Rattle.plan_num.proofs.Common.{length, slice_get, get_or, Option, Some, ap, subst, arith}
use Rattle.plan_num.proofs.Common.{slice_get_within}
use Rattle.link_plans.specs.declared.link_table.Link.{Link}
use Rattle.link_plans.proofs.Common.{next, is_next, Links, link_to, IsRow, by_bound}
use Rattle.canonical_potentials.specs.Drops.{DropParts, one_if, IsStep, RowKept, NextKept, RootKept, TripPassed}
use Rattle.canonical_potentials.proofs.Deeper.{two_steps}

-- many arcs as one step; where nothing has changed, something is kept
pub record IsPassed (links : Links) (plan : List (Option ℕ)) (before after : DropParts) (changed : Bool)
    (Kept : Type 0) : Type 0 where
  pub step : IsStep links plan before after changed
  pub kept : changed ≡ false → Kept

-- the trips so far
abbrev pub TripsKept : Links → List (Option ℕ) → DropParts → ℕ → Type 0
TripsKept links plan drops most = (i : ℕ) → i < most → TripPassed links plan drops i

-- a link finds no better walk
abbrev pub LinkPassed : DropParts → ℕ → Link → Type 0
LinkPassed drops i link = get_or drops.left i 0 + link.gain ≤ get_or drops.right link.to 0

-- nor do the first links of a row
abbrev pub LinksKept : DropParts → ℕ → List Link → ℕ → Type 0
LinksKept drops i row most = (k : ℕ) → k < most → (link : Link) → slice_get row k ≡ Some link → LinkPassed drops i link

module _ (links : Links) (plan : List (Option ℕ)) (before : DropParts) where
  -- what one arc more keeps, and those before it
  pub passed_more : (now after : DropParts) (changed better both : Bool) (Kept One Next : Type 0)
      → IsPassed links plan before now changed Kept → IsStep links plan now after better
      → (better ≡ false → now ≡ before → One) → (Kept → One → Next) → both ≡ (changed || better)
      → IsPassed links plan before after both Next
  passed_more now after changed better both Kept One Next passed step one more is = grind arith

below_next : (P : ℕ → Type 0) (i : ℕ) → ((k : ℕ) → k < i → P k) → P i → (k : ℕ) → k < i + 1 → P k
below_next P i before here k h = by_bound k i (before k)
    (λ past. let same : i ≡ k = omega (arith, past, h) in subst P same here)

module _ (links : Links) (plan : List (Option ℕ)) (before : DropParts) (i : ℕ) where
  pub one_link : (row : List Link) (k : ℕ) (link : Link) → slice_get row k ≡ Some link
      → (now after : DropParts) (changed better both : Bool)
      → IsPassed links plan before now changed (LinksKept before i row k) → IsStep links plan now after better
      → (better ≡ false → get_or now.left i 0 + link.gain ≤ get_or now.right link.to 0) → both ≡ (changed || better)
      → IsPassed links plan before after both (LinksKept before i row (k + 1))
  one_link row k link here now after changed better both passed step kept is = grind arith

  -- all links of a row
  pub row_kept : (row : List Link) → IsRow links i links.count row → (k : ℕ) → length row ≤ k → LinksKept before i row k
      → RowKept links before i
  row_kept row is k past all j gain within worth_is =
      let found = is.all j gain within worth_is in
      all found.0 (omega (arith, past, slice_get_within row found.0 (link_to j gain) found.1)) (link_to j gain) found.1

  pub one_trip : (now after : DropParts) (changed better both : Bool)
      → IsPassed links plan before now changed (TripsKept links plan before i) → IsStep links plan now after better
      → (better ≡ false → TripPassed links plan now i) → both ≡ (changed || better)
      → IsPassed links plan before after both (TripsKept links plan before (i + 1))
  one_trip now after changed better both passed step kept is =
      passed_more links plan before now after changed better both (TripsKept links plan before i)
      (TripPassed links plan before i)
      (TripsKept links plan before (i + 1)) passed step
      (λ e same. subst (λ drops. TripPassed links plan drops i) same (kept e))
      (below_next (TripPassed links plan before) i) is

  -- all arcs of a trip
  module _ (one two after : DropParts) (next_better row_better root_better part all : Bool)
      (part_is : part ≡ (next_better || row_better)) (all_is : all ≡ (part || root_better))
      (first : IsStep links plan before one next_better) (second : IsStep links plan one two row_better)
      (third : IsStep links plan two after root_better) where
    pub trip_step : IsStep links plan before after all
    trip_step = two_steps links plan before two after part root_better all all_is
        (two_steps links plan before one two next_better row_better part part_is first second) third

    pub trip_kept : (next_better ≡ false → NextKept links before i (next plan i))
        → (row_better ≡ false → RowKept links one i)
        → (root_better ≡ false → RootKept two i (is_next plan i)) → all ≡ false → TripPassed links plan before i
    trip_kept nexts rows roots e = grind arith

-- the measure goes down
pub goes_down : (d deeper : ℕ) (changed better : Bool) → changed ≡ true → d + one_if better ≤ deeper
    → deeper ≤ 8002000000000000000
    → (8002000000000000000 - deeper) + one_if better < (8002000000000000000 - d) + one_if changed
goes_down d deeper changed true is rises most =
    let one : one_if changed ≡ 1 = ap one_if is in omega (arith, one, rises, most)
goes_down d deeper changed false is rises most =
    let one : one_if changed ≡ 1 = ap one_if is in omega (arith, one, rises, most)

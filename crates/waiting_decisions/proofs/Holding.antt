-- What each entry of a listing says holds, and no entries are left out however deep a region is split.
use Rattle.plan_num.proofs.Common.{◌≡◌, ℕ, ℤ, cond, Bool, true, false, List, length, Option, Some}
use Rattle.plan_num.proofs.Common.{None, IfSome, refl, sym, arith, both_ways, ints}
use Rattle.propagation.proofs.Common.{DelayProblem, IsForward}
use Rattle.waiting_decisions.specs.declared.decision.Decision.{Decision}
use Rattle.waiting_decisions.specs.declared.waits.Waits.{Waits}
use Rattle.waiting_decisions.specs.Budgets.{waits_within}
use Rattle.waiting_decisions.specs.Listings.{Choice, Entry, choice_in, cut_off, entries_by, entries_within}
use Rattle.waiting_decisions.specs.Listings.{entry_at, entry_by, found, holds_off, listing, split, visit}
use Rattle.waiting_decisions.specs.Regions.{CostsAtLeastIn, bound_of, decided, first_broken, greatest_set, is_free}
use Rattle.waiting_decisions.specs.Regions.{open_region}
use Rattle.waiting_decisions.specs.Paths.{region_in}
use Rattle.waiting_decisions.specs.Searches.{Between}
use Rattle.waiting_decisions.specs.RightListings.{CostsNoMore, EntryHolds, IsListed}
use Rattle.waiting_decisions.proofs.Bounds.{bound_holds, found_costs, parts_cover}
use Rattle.waiting_decisions.proofs.PathFacts.{region_size}
use Rattle.waiting_decisions.proofs.Visits.{free_less, le_of, split_free}

module _ (problem : DelayProblem) (penalty : ℕ) where
  -- ---- what an entry says

  bounds : (forward : IsForward problem) (region : List Decision)
      → CostsAtLeastIn problem penalty region (bound_of problem penalty region)
  bounds forward region kept times lies feasible = grind (arith, bound_holds)

  pub split_holds : (region : List Decision) (best : Option Choice) (change : ℕ)
      → first_broken problem region ≡ Some change → EntryHolds problem penalty region best (split change)
  split_holds region best change is = grind (arith, split_free, parts_cover)

  module _ (forward : IsForward problem) (region : List Decision) (best : Option Choice)
      (size : length region ≡ length problem.changes) where
    abbrev bound : ℤ
    bound = bound_of problem penalty region

    cut : (held : Option Choice) → holds_off held bound ≡ true → CostsNoMore problem penalty region held
    cut None off = absurd (both_ways false refl off)
    cut (Some held) off = λ kept times lies feasible.
        let less = le_of held.cost bound off in
        let least = bounds forward region kept times lies feasible in
        omega (arith, ints, less, least)

    entry_holds : EntryHolds problem penalty region best (entry_at problem penalty region best)
    entry_holds = by (holds_off best bound) refl (first_broken problem region) refl
      where
        by : (off : Bool) → holds_off best bound ≡ off → (broken : Option ℕ)
            → first_broken problem region ≡ broken → EntryHolds problem penalty region best
            (cond off cut_off (entry_by (choice_in problem penalty region) broken))
        by true off broken is = cut best off
        by false off None is = (found_costs problem forward penalty region size is, bounds forward region)
        by false off (Some change) is = split_holds region best change is

  -- ---- how deep a region is split

  parts_same : (below above : List Decision → Option Choice → List Entry) (region : List Decision)
      (best : Option Choice) → ((change : ℕ) (as_what : Decision) (best : Option Choice)
      → first_broken problem region ≡ Some change → is_free as_what ≡ false
      → below (decided region change as_what) best ≡ above (decided region change as_what) best)
      → entries_by below region best (entry_at problem penalty region best)
      ≡ entries_by above region best (entry_at problem penalty region best)
  parts_same below above region best same = grind arith

  unrolled : (region : List Decision) (best : Option Choice) → visit problem penalty region best
      ≡ entries_by (visit problem penalty) region best (entry_at problem penalty region best)
  unfolding entries_within
  unrolled region best = grind (arith, parts_same, free_less, split_free)

  from_open : visit problem penalty (open_region problem) None ≡ listing problem penalty
  unfolding listing
  from_open = refl

  pub listed_found : IsForward problem → (budget : ℕ) (found : Option Waits)
      → found ≡ waits_within budget (listing problem penalty) → IfSome found (IsListed problem penalty budget)
  listed_found forward budget None is = tt
  listed_found forward budget (Some waits) is = record {
    entries = visit problem penalty;
    unrolls = unrolled;
    holds = entry_holds forward;
    whole = from_open;
    gives = sym is;
  }

-- what is found where a search has come to holds
pub found_holds : (penalty : ℕ) (at : Between) → IsForward at.path.problem
    → first_broken at.path.problem (region_in at.path) ≡ None → (cost : ℤ) (entry : Entry)
    → entry ≡ found (record { kept = greatest_set (region_in at.path); cost = cost })
    → cost ≡ bound_of at.path.problem penalty (region_in at.path)
    → EntryHolds at.path.problem penalty (region_in at.path) at.best entry
found_holds penalty at forward none cost entry is value = grind (
  arith,
  region_size,
  found_costs,
  bounds,
)

-- What a whole listing comes to, how long it is, and within how many entries it finds something.
use Rattle.plan_num.proofs.Common.{◌≡◌, ℕ, zero, suc, ◌≤◌, ◌+◌, ◌*◌, ◌^◌, cond, List, [], ◌∷◌, ◌++◌}
use Rattle.plan_num.proofs.Common.{length, Option, Some, None, ap, sym, ◌∙◌, refl, arith, subst}
use Rattle.plan_num.proofs.Common.{append_assoc, IsSome, count_by, filter_map, replicate, take, ◌-◌}
use Rattle.plan_num.proofs.Common.{sum_by-cons, last_or, pow-succ', take-append-add, ints}
use Rattle.plan_num.proofs.Common.{length-append, length-replicate}
use Rattle.propagation.proofs.Common.{DelayProblem, IsForward}
use Rattle.waiting_decisions.specs.declared.decision.Decision.{Decision}
use Rattle.waiting_decisions.specs.declared.decision.Decision.TheVariants as decision
use Rattle.waiting_decisions.specs.Certified.{Certifies}
use Rattle.waiting_decisions.specs.Choices.{IsBest}
use Rattle.waiting_decisions.specs.Listings.{Choice, Entry, best_after, choice_in, entries_by, entries_within}
use Rattle.waiting_decisions.specs.Listings.{entry_at, entry_by, found, found_by, levels_of, listing}
use Rattle.waiting_decisions.specs.Listings.{nodes_of, split}
use Rattle.waiting_decisions.specs.Regions.{decided, first_broken, is_free, open_region}
use Rattle.waiting_decisions.proofs.Bounds.{certified_holds}
use Rattle.waiting_decisions.proofs.Visits.{AtMost, IsGood, best_behind, free_less, split_free, visited}

open_size : (problem : DelayProblem) → length (open_region problem) ≡ length problem.changes
open_size problem = length-replicate (length problem.changes) decision.Free

-- the last choice that a whole listing finds is a best one, and its nodes certify that
pub listing_is_best : (problem : DelayProblem) (penalty : ℕ) (choice : Choice) → IsForward problem
    → best_after None (listing problem penalty) ≡ Some choice
    → IsBest problem penalty choice.kept choice.cost
    × Certifies problem penalty choice.cost (nodes_of (listing problem penalty))
unfolding listing
listing_is_best problem penalty choice forward is =
    let all = visited problem forward penalty (levels_of (open_region problem))
    (open_region problem) None (open_size problem) (omega arith) in
    let certified : Certifies problem penalty choice.cost (nodes_of (listing problem penalty)) = record {
      tree = all.tree;
      whole = all.whole;
      shows = all.shows choice.cost (subst (λ b. AtMost choice.cost b) (sym is) (omega (arith, ints)));
    } in (
      record {
        costs = subst (λ b. IsGood problem penalty b) is (all.good tt);
        least = certified_holds problem forward penalty choice.cost
            (nodes_of (listing problem penalty)) certified;
      },
      certified,
    )

-- a power of two, with one more
twice : (n : ℕ) → 2 ^ (n + 1) ≡ 2 * 2 ^ n
twice n = ap (λ k. 2 ^ k) (let h : n + 1 ≡ suc n = omega arith in h) ∙ pow-succ' 2 n

some_power : (n : ℕ) → 1 ≤ 2 ^ n
some_power zero = omega arith
some_power (suc n) = let h = some_power n in let e = pow-succ' 2 n in omega (arith, h, e)

module _ (problem : DelayProblem) (penalty : ℕ) where
  -- ---- the entries of a region are no more than those of a whole tree over its free changes

  abbrev free_in : List Decision → ℕ
  free_in region = count_by is_free region

  abbrev IsShort : List Decision → List Entry → Type 0
  IsShort region entries = length entries + 1 ≤ 2 ^ (free_in region + 1)

  short_step : (levels : ℕ) (below : List Decision → Option Choice → List Entry)
      → ((region : List Decision) (best : Option Choice) → levels_of region ≤ levels
      → IsShort region (below region best))
      → (region : List Decision) (best : Option Choice) → levels_of region ≤ suc levels
      → IsShort region (entries_by below region best (entry_at problem penalty region best))
  short_step levels below rec region best enough = grind (
    arith,
    some_power,
    twice,
    split_free,
    free_less,
    length-append,
  )

  short : (levels : ℕ) (region : List Decision) (best : Option Choice) → levels_of region ≤ levels
      → IsShort region (entries_within problem penalty levels region best)
  unfolding entries_within
  short zero region best enough = absurd (omega (arith, enough))
  short (suc levels) region best enough =
      short_step levels (entries_within problem penalty levels) (short levels) region best enough

  -- ---- without a best choice something is found within one entry more than there are free changes

  record FindsWithin (most : ℕ) (entries : List Entry) : Type 0 where
    first : List Entry
    rest : List Entry
    is : entries ≡ first ++ rest
    few : length first ≤ most
    some : IsSome (best_after None first)

  finds_step : (levels : ℕ) (below : List Decision → Option Choice → List Entry)
      → ((region : List Decision) → levels_of region ≤ levels
      → FindsWithin (free_in region + 1) (below region None))
      → (region : List Decision) → levels_of region ≤ suc levels
      → FindsWithin (free_in region + 1) (entries_by below region None (entry_at problem penalty region None))
  finds_step levels below rec region enough = by (first_broken problem region) refl
    where
      by : (broken : Option ℕ) → first_broken problem region ≡ broken
          → FindsWithin (free_in region + 1) (entries_by below region None
          (entry_by (choice_in problem penalty region) broken))
      by None is = record {
        first = found (choice_in problem penalty region) ∷ [];
        rest = [];
        is = refl;
        few = omega arith;
        some = refl;
      }
      by (Some change) is =
          let free = split_free problem region change is in
          let fewer = free_less region change decision.Kept refl free in
          let one = rec (decided region change decision.Kept) (omega (arith, fewer, enough)) in
          let few = one.few in
          record {
            first = split change ∷ one.first;
            rest = one.rest ++ below (decided region change decision.Dropped)
                (best_after None (below (decided region change decision.Kept) None));
            is = ap (λ entries. split change ∷ entries ++ below (decided region change decision.Dropped)
                (best_after None (below (decided region change decision.Kept) None))) one.is
                ∙ append_assoc (split change ∷ one.first) one.rest
                (below (decided region change decision.Dropped)
                (best_after None (below (decided region change decision.Kept) None)));
            few = omega (arith, fewer, few);
            some = one.some;
          }

  finds : (levels : ℕ) (region : List Decision) → levels_of region ≤ levels
      → FindsWithin (free_in region + 1) (entries_within problem penalty levels region None)
  unfolding entries_within
  finds zero region enough = absurd (omega (arith, enough))
  finds (suc levels) region enough =
      finds_step levels (entries_within problem penalty levels) (finds levels) region enough

-- ---- the whole listing

count_free : (n : ℕ) → count_by is_free (replicate n decision.Free) ≡ n
count_free zero = refl
count_free (suc n) =
    let h = sum_by-cons (λ x. cond {A = ℕ} (is_free x) 1 0) decision.Free (replicate n decision.Free) in
    grind (arith, count_free n)

-- it is no longer than a whole tree over all changes
pub listing_is_short : (problem : DelayProblem) (penalty : ℕ)
    → length (listing problem penalty) + 1 ≤ 2 ^ (length problem.changes + 1)
unfolding listing
listing_is_short problem penalty = grind (arith, count_free, short)

-- within one entry more than there are changes a choice is found
pub listing_finds : (problem : DelayProblem) (penalty budget : ℕ) → length problem.changes + 1 ≤ budget
    → IsSome (best_after None (take budget (listing problem penalty)))
unfolding listing
listing_finds problem penalty budget enough =
    let all = finds problem penalty (levels_of (open_region problem)) (open_region problem) (omega arith) in
    let few = all.few in
    let count = count_free (length problem.changes) in
    let front : take budget (listing problem penalty)
    ≡ all.first ++ take (budget - length all.first) all.rest =
    ap (take budget) all.is
    ∙ ap (λ n. take n (all.first ++ all.rest)) (let h : budget ≡ length all.first + (budget - length all.first) =
    omega (arith, few, count, enough) in h)
    ∙ take-append-add all.first all.rest (budget - length all.first) in
    subst (λ entries. IsSome (best_after None entries)) (sym front)
    (subst (λ b. IsSome b) (sym (best_behind None all.first (take (budget - length all.first) all.rest)))
    (stays (best_after None all.first) (filter_map found_by (take (budget - length all.first) all.rest))
    all.some))
  where
    stays : (best : Option Choice) (more : List Choice) → IsSome best → IsSome (last_or best more)
    stays best [] some = some
    stays best (choice ∷ more) some = stays (Some choice) more refl

-- A waiting decision that a listing gives within a budget is right.
use Rattle.plan_num.proofs.Common.{◌≡◌, ◌∙◌, ℕ, ℤ, zero, suc, ◌+◌, ◌*◌, ◌^◌, ◌<◌, ◌≤◌, cond, nat_le}
use Rattle.plan_num.proofs.Common.{Bool, true, false, List, [], ◌∷◌, ◌++◌, length, take, All}
use Rattle.plan_num.proofs.Common.{Option, Some, None, IfSome, ap, sym, subst, refl, arith, ⊤}
use Rattle.plan_num.proofs.Common.{IsSome, option_map, pow-succ', both_ways, le-leb, leb-true}
use Rattle.plan_num.proofs.Common.{length-set, length-replicate, take_all, All-append, All-cons}
use Rattle.plan_num.proofs.Common.{All-nil}
use Rattle.propagation.proofs.Common.{DelayProblem, IsForward}
use Rattle.waiting_decisions.specs.declared.decision.Decision.{Decision}
use Rattle.waiting_decisions.specs.declared.decision.Decision.TheVariants as decision
use Rattle.waiting_decisions.specs.declared.node.WaitNode.{WaitNode}
use Rattle.waiting_decisions.specs.declared.node.WaitNode.TheVariants as node
use Rattle.waiting_decisions.specs.declared.waits.Waits.{Waits}
use Rattle.waiting_decisions.specs.Budgets.{FindsSome, IsEnough, IsMarked, waits_within, with_tree}
use Rattle.waiting_decisions.specs.Certified.{Certifies, ChangeTree, TreeCertifies, fork, leaf, preorder}
use Rattle.waiting_decisions.specs.Choices.{Costs}
use Rattle.waiting_decisions.specs.Listings.{Choice, Entry, best_after, choice_in, cut_off, entries_by, entries_within}
use Rattle.waiting_decisions.specs.Listings.{entry_at, entry_by, found, holds_off, levels_of, listing, nodes_of, split}
use Rattle.waiting_decisions.specs.Regions.{bound_of, decided, first_broken, is_free_at, open_region}
use Rattle.waiting_decisions.specs.RightChoices.{IsRight, IsWritable, NamesChange}
use Rattle.waiting_decisions.proofs.Bounds.{found_costs}
use Rattle.waiting_decisions.proofs.Listed.{listing_finds, listing_is_best, listing_is_short}
use Rattle.waiting_decisions.proofs.Visits.{IsGood}

-- ---- what is found costs what it says

module _ (problem : DelayProblem) (forward : IsForward problem) (penalty : ℕ) where
  GoodEntry : Entry → Type 0
  GoodEntry (found choice) = Costs problem penalty choice.kept choice.cost
  GoodEntry (split change) = ⊤
  GoodEntry cut_off = ⊤

  goods_step : (below : List Decision → Option Choice → List Entry)
      → ((region : List Decision) (best : Option Choice) → length region ≡ length problem.changes
      → All GoodEntry (below region best))
      → (region : List Decision) (best : Option Choice) → length region ≡ length problem.changes
      → All GoodEntry (entries_by below region best (entry_at problem penalty region best))
  unfolding GoodEntry
  goods_step below rec region best size =
      by (holds_off best (bound_of problem penalty region)) (first_broken problem region) refl
    where
      by : (off : Bool) (broken : Option ℕ) → first_broken problem region ≡ broken
          → All GoodEntry (entries_by below region best
          (cond off cut_off (entry_by (choice_in problem penalty region) broken)))
      by true broken is = All-cons GoodEntry cut_off [] tt (All-nil GoodEntry)
      by false None is =
          All-cons GoodEntry (found (choice_in problem penalty region)) []
          (found_costs problem forward penalty region size is) (All-nil GoodEntry)
      by false (Some change) is =
          let keeping = below (decided region change decision.Kept) best in
          let dropping = below (decided region change decision.Dropped) (best_after best keeping) in
          All-cons GoodEntry (split change) (keeping ++ dropping) tt
          (All-append GoodEntry keeping dropping
          (rec (decided region change decision.Kept) best (length-set region change decision.Kept ∙ size))
          (rec (decided region change decision.Dropped) (best_after best keeping)
          (length-set region change decision.Dropped ∙ size)))

  goods : (levels : ℕ) (region : List Decision) (best : Option Choice) → length region ≡ length problem.changes
      → All GoodEntry (entries_within problem penalty levels region best)
  unfolding entries_within
  goods zero region best size = All-nil GoodEntry
  goods (suc levels) region best size =
      goods_step (entries_within problem penalty levels) (goods levels) region best size

  last_good : (entries : List Entry) (best : Option Choice) → All GoodEntry entries → IsGood problem penalty best
      → IsGood problem penalty (best_after best entries)
  unfolding GoodEntry
  last_good [] best all good = good
  last_good (found choice ∷ entries) best all good =
      last_good entries (Some choice) (λ k d inside. all (suc k) d (omega (arith, inside)))
      (all 0 cut_off (omega arith))
  last_good (split change ∷ entries) best all good =
      last_good entries best (λ k d inside. all (suc k) d (omega (arith, inside))) good
  last_good (cut_off ∷ entries) best all good =
      last_good entries best (λ k d inside. all (suc k) d (omega (arith, inside))) good

  front_all : {X : Type 0} (P : X → Type 0) (n : ℕ) (xs : List X) → All P xs → All P (take n xs)
  front_all P zero xs all = All-nil P
  front_all P (suc n) [] all = All-nil P
  front_all P (suc n) (x ∷ xs) all =
      All-cons P x (take n xs) (all 0 x (omega arith))
      (front_all P n xs (λ k d inside. all (suc k) d (omega (arith, inside))))

  all_good : All GoodEntry (listing problem penalty)
  unfolding listing
  all_good = goods (levels_of (open_region problem)) (open_region problem) None
      (length-replicate (length problem.changes) decision.Free)

  front_good : (n : ℕ) (choice : Choice) → best_after None (take n (listing problem penalty)) ≡ Some choice
      → Costs problem penalty choice.kept choice.cost
  front_good n choice is =
      subst (IsGood problem penalty) is
      (last_good (take n (listing problem penalty)) None (front_all GoodEntry n (listing problem penalty) all_good) tt)

  -- ---- the splits of a tree that certifies something name changes

  free_inside : (region : List Decision) (change : ℕ) → is_free_at region change ≡ true → change < length region
  free_inside [] change free = absurd (both_ways false refl free)
  free_inside (at ∷ region) zero free = omega arith
  free_inside (at ∷ region) (suc change) free = let less = free_inside region change free in omega (arith, less)

  tree_names : (cost : ℤ) (count : ℕ) (tree : ChangeTree) (region : List Decision) → length region ≡ count
      → TreeCertifies problem penalty cost region tree → All (NamesChange count) (preorder tree)
  unfolding TreeCertifies preorder
  tree_names cost count leaf region size shows =
      All-cons (NamesChange count) node.Leaf [] tt (All-nil (NamesChange count))
  tree_names cost count (fork change keeping dropping) region size shows =
      All-cons (NamesChange count) (node.Split change) (preorder keeping ++ preorder dropping)
      (let less = free_inside region change shows.0 in omega (arith, less, size))
      (All-append (NamesChange count) (preorder keeping) (preorder dropping)
      (tree_names cost count keeping (decided region change decision.Kept)
      (length-set region change decision.Kept ∙ size) shows.1)
      (tree_names cost count dropping (decided region change decision.Dropped)
      (length-set region change decision.Dropped ∙ size) shows.2))

  pub names_of : (cost : ℤ) (nodes : List WaitNode) → Certifies problem penalty cost nodes
      → All (NamesChange (length problem.changes)) nodes
  names_of cost nodes certifies =
      subst (All (NamesChange (length problem.changes))) certifies.whole
      (tree_names cost (length problem.changes) certifies.tree (open_region problem)
      (length-replicate (length problem.changes) decision.Free) certifies.shows)

  -- ---- what is found within a budget is right

  right_marked : (choice : Choice) → best_after None (listing problem penalty) ≡ Some choice → IsWritable choice.cost
      → IsRight problem penalty (with_tree (Some (nodes_of (listing problem penalty))) choice)
  right_marked choice is cheap =
      let best = listing_is_best problem penalty choice forward is in
      record {
        over = record {
          each = best.0.costs.each;
          names = names_of choice.cost (nodes_of (listing problem penalty)) best.1;
        };
        costs = best.0.costs;
        writable = cheap;
        certified = best.1;
        best = best.0.least;
      }

  right_front : (n : ℕ) (choice : Choice) → best_after None (take n (listing problem penalty)) ≡ Some choice
      → IsWritable choice.cost → IsRight problem penalty (with_tree None choice)
  right_front n choice is cheap =
      let costs = front_good n choice is in grind arith

  pub found_right : (budget : ℕ) (result : Option Waits) → result ≡ waits_within budget (listing problem penalty)
      → IfSome result (λ waits. IsWritable waits.cost) → IfSome result (IsRight problem penalty)
  unfolding waits_within
  found_right budget result is cheap = grind (arith, nat_le, right_marked, right_front)

-- ---- what a budget is enough for

map_some : {X Y : Type 0} (f : X → Y) (x : Option X) → IsSome x → IsSome (option_map f x)
map_some f (Some x) some = refl
map_some f None some = absurd (cc)

pub finds_within : (problem : DelayProblem) (penalty budget : ℕ) → FindsSome problem budget
    → IsSome (waits_within budget (listing problem penalty))
unfolding waits_within
finds_within problem penalty budget enough = grind (
  arith,
  nat_le,
  listing_finds,
  map_some,
  take_all,
  leb-true,
)

marked_by : (tree : List WaitNode) (best : Option Choice) (waits : Waits)
    → option_map (with_tree (Some tree)) best ≡ Some waits → IsSome waits.tree
marked_by tree None waits is = absurd (cc)
marked_by tree (Some choice) waits is = grind arith

pub whole_marked : (problem : DelayProblem) (penalty budget : ℕ) (waits : Waits) → IsEnough problem budget
    → waits_within budget (listing problem penalty) ≡ Some waits → IsSome waits.tree
unfolding waits_within
whole_marked problem penalty budget waits enough is =
    grind (arith, listing_is_short, le-leb, marked_by)

-- a whole tree over all changes has more nodes than there are changes
pub enough_finds : (problem : DelayProblem) (budget : ℕ) → IsEnough problem budget → FindsSome problem budget
enough_finds problem budget enough = let some = grows (length problem.changes) in omega (arith, some, enough)
  where
    grows : (n : ℕ) → n + 2 ≤ 2 ^ (n + 1)
    grows zero = omega arith
    grows (suc n) =
        let less = grows n in
        let twice : 2 ^ (suc n + 1) ≡ 2 * 2 ^ (n + 1) =
        ap (λ k. 2 ^ k) (let h : suc n + 1 ≡ suc (n + 1) = omega arith in h) ∙ pow-succ' 2 (n + 1) in
        omega (arith, less, twice)

pub still_cheap : (tree : Option (List WaitNode)) (best : Option Choice)
    → IfSome best (λ choice. IsWritable choice.cost)
    → IfSome (option_map (with_tree tree) best) (λ waits. IsWritable waits.cost)
still_cheap tree None cheap = tt
still_cheap tree (Some choice) cheap = cheap

-- ---- the same of what a search within a budget found

module _ (problem : DelayProblem) (penalty budget : ℕ) (found : Option Waits)
    (is : found ≡ waits_within budget (listing problem penalty)) where
  pub found_some : FindsSome problem budget → IsSome found
  found_some enough = subst IsSome (sym is) (finds_within problem penalty budget enough)

  pub found_marked : IsEnough problem budget → IsMarked found
  found_marked enough = by found is (found_some (enough_finds problem budget enough))
    where
      by : (found : Option Waits) → found ≡ waits_within budget (listing problem penalty) → IsSome found
          → IsMarked found
      by None is some = absurd (cc)
      by (Some waits) is some = whole_marked problem penalty budget waits enough (sym is)

-- An entry more of a search.
use Rattle.plan_num.proofs.Common.{append-nil, Result, Ok, Err, IfOk, ◌≡◌, ◌∙◌, ℕ, zero, suc, ◌+◌}
use Rattle.plan_num.proofs.Common.{◌≤◌, ◌<◌, Bool, true, false, List, [], ◌∷◌, ◌++◌, length, take}
use Rattle.plan_num.proofs.Common.{drop, Option, Some, None, ap, sym, arith, append_assoc, count_by}
use Rattle.plan_num.proofs.Common.{min, option_map, OnErr, OnOk, length-append, length-drop}
use Rattle.plan_num.proofs.Common.{map-append, take_all}
use Rattle.waiting_decisions.specs.Budgets.{waits_within, with_tree}
use Rattle.propagation.proofs.Common.{DelayProblem}
use Rattle.delay_trials.specs.Trials.{TrialParts}
use Rattle.waiting_decisions.specs.declared.best.Best.{Best}
use Rattle.waiting_decisions.specs.declared.decision.Decision.{Decision}
use Rattle.waiting_decisions.specs.declared.decision.Decision.TheVariants as decision
use Rattle.waiting_decisions.specs.declared.node.WaitNode.{WaitNode}
use Rattle.waiting_decisions.specs.declared.node.WaitNode.TheVariants as node
use Rattle.waiting_decisions.specs.Listings.{Choice, Entry, best_after, cut_off, entries_by, entries_within}
use Rattle.waiting_decisions.specs.Listings.{entry_at, found, levels_of, listing, node_of}
use Rattle.waiting_decisions.specs.Listings.{nodes_of, split, visit}
use Rattle.waiting_decisions.specs.Paths.{region_in, region_of, waiting, waiting_in}
use Rattle.waiting_decisions.specs.Regions.{decided, is_free, is_free_at}
use Rattle.waiting_decisions.specs.Searches.{Between, IsBehind, Leaves, Splits, TakesEntry, best_in, next_entry}
use Rattle.waiting_decisions.specs.Searches.{to_come, visits}
use Rattle.waiting_decisions.proofs.Visits.{best_behind, free_less, split_free}

-- ---- the entries of a region, by what is said of it first

module _ (problem : DelayProblem) (penalty : ℕ) (region : List Decision) (best : Option Choice) where
  levels_one : levels_of region ≡ suc (count_by is_free region)
  levels_one = omega arith

  visit_by : visit problem penalty region best
      ≡ entries_by (entries_within problem penalty (count_by is_free region)) region best
      (entry_at problem penalty region best)
  unfolding entries_within
  visit_by = ap (λ levels. entries_within problem penalty levels region best) levels_one

  pub visit_leaf : (entry : Entry) → entry_at problem penalty region best ≡ entry → node_of entry ≡ node.Leaf
      → visit problem penalty region best ≡ entry ∷ []
  visit_leaf entry is leaf = grind (arith, visit_by)

  pub visit_split : (change : ℕ) → entry_at problem penalty region best ≡ split change
      → is_free_at region change ≡ true
      → visit problem penalty region best
      ≡ split change ∷ visit problem penalty (decided region change decision.Kept) best
      ++ visit problem penalty (decided region change decision.Dropped)
      (best_after best (visit problem penalty (decided region change decision.Kept) best))
  visit_split change is free = grind (arith, visit_by, free_less)

-- where a region is split its change is free
entry_free : (problem : DelayProblem) (penalty : ℕ) (region : List Decision) (best : Option Choice) (change : ℕ)
    → entry_at problem penalty region best ≡ split change → is_free_at region change ≡ true
entry_free problem penalty region best change is = grind (arith, split_free)

module _ (penalty : ℕ) (before : Between) where
  abbrev problem : DelayProblem
  problem = before.path.problem

  abbrev region : List Decision
  region = region_in before.path

  abbrev entry : Entry
  entry = next_entry penalty before

  pub next_free : (change : ℕ) → split change ≡ entry → is_free_at region change ≡ true
  next_free change is = entry_free problem penalty region before.best change (sym is)

  come_leaf : (leaf : Entry) → leaf ≡ entry → node_of leaf ≡ node.Leaf
      → to_come penalty before ≡ entry ∷ visits problem penalty (waiting_in before.path)
      (best_after before.best (entry ∷ []))
  unfolding visits
  come_leaf leaf is one = grind (arith, visit_leaf)

  -- an entry that is a leaf
  pub takes_leaf : (leaf : Entry) → leaf ≡ entry → node_of leaf ≡ node.Leaf
      → (mid after : Between) (more : Bool) → mid.path ≡ before.path → mid.nodes ≡ before.nodes
      → mid.best ≡ best_after before.best (leaf ∷ []) → Leaves mid after more
      → TakesEntry penalty before after more
  unfolding visits
  takes_leaf leaf is one mid after more path nodes best leaves = grind (arith, come_leaf)

  -- an entry that is a split
  come_split : (change : ℕ) → split change ≡ entry
      → to_come penalty before
      ≡ split change ∷ visits problem penalty
      (decided region change decision.Kept ∷ decided region change decision.Dropped ∷ waiting_in before.path) before.best
  unfolding visits
  come_split change is =
      let kept = visit problem penalty (decided region change decision.Kept) before.best in
      let middle = best_after before.best kept in
      let dropped = visit problem penalty (decided region change decision.Dropped) middle in
      let all = visit_split problem penalty region before.best change (sym is) (next_free change is) in
      let end : best_after before.best (split change ∷ kept ++ dropped) ≡ best_after middle dropped =
      best_behind before.best kept dropped in
      ap (λ entries. entries ++ visits problem penalty (waiting_in before.path) (best_after before.best entries)) all
      ∙ ap (λ last. (split change ∷ kept ++ dropped) ++ visits problem penalty (waiting_in before.path) last) end
      ∙ ap (λ rest. split change ∷ rest) (append_assoc kept dropped
      (visits problem penalty (waiting_in before.path) (best_after middle dropped)))

  pub takes_split : (change : ℕ) → split change ≡ entry → (after : Between) (more : Bool)
      → more ≡ true → Splits before after change → TakesEntry penalty before after more
  unfolding region_of waiting
  takes_split change is after more goes splits = grind (arith, come_split)

-- what holds of an outcome, by what holds of another
pub outcome_by : {A E : Type 0} (P Q : A → Type 0) (result : Result A E) → IfOk result P
    → ((value : A) → P value → Q value) → IfOk result Q
outcome_by P Q (Ok value) is turn = turn value is
outcome_by P Q (Err error) is turn = tt

-- what a split leaves, piece by piece
pub split_done : (path : TrialParts) (nodes : List WaitNode) (best : Option Best) (change : ℕ)
    (new_path : TrialParts) (new_nodes : List WaitNode)
    → new_path ≡ record path { decided = record { change = change; kept = true } ∷ path.decided }
    → new_nodes ≡ nodes ++ node.Split change ∷ []
    → Splits (record { path = path; nodes = nodes; best = best_in (length path.problem.changes) best })
    (record { path = new_path; nodes = new_nodes; best = best_in (length new_path.problem.changes) best }) change
split_done path nodes best change new_path new_nodes kept pushed =
    λ i. record { path = kept i; nodes = pushed i; best = best_in (length (kept i).problem.changes) best }

-- ---- a search behind some entries

at_drop : {X : Type 0} (xs : List X) (i : ℕ) (x : X) (rest : List X) → drop i xs ≡ x ∷ rest
    → (take (i + 1) xs ≡ take i xs ++ x ∷ []) × (drop (i + 1) xs ≡ rest) × (i < length xs)
at_drop [] zero x rest is = absurd (cc)
at_drop [] (suc i) x rest is = absurd (cc)
at_drop (y ∷ xs) zero x rest is = grind arith
at_drop (y ∷ xs) (suc i) x rest is =
    let less = at_drop xs i x rest is in
    let more : suc i + 1 ≡ suc (i + 1) = omega arith in (
      ap (λ n. take n (y ∷ xs)) more ∙ ap (λ some. y ∷ some) less.0,
      ap (λ n. drop n (y ∷ xs)) more ∙ less.1,
      (let inside = less.2 in omega (arith, inside)),
    )

entries_some : (below : List Decision → Option Choice → List Entry) (region : List Decision) (best : Option Choice)
    (entry : Entry) → 1 ≤ length (entries_by below region best entry)
entries_some below region best cut_off = omega arith
entries_some below region best (found choice) = omega arith
entries_some below region best (split change) = omega arith

some_come : (penalty : ℕ) (at : Between) → 1 ≤ length (to_come penalty at)
unfolding visits
some_come penalty at = grind (arith, visit_by, entries_some, length-append)

module _ (problem : DelayProblem) (penalty : ℕ) where
  abbrev entries : List Entry
  entries = listing problem penalty

  pub starts : (at : Between)
      → at ≡ record { path = record { problem = problem; decided = [] }; nodes = []; best = None }
      → IsBehind problem penalty 0 at
  unfolding listing visits region_of waiting
  starts at is = grind (arith, append-nil)

  module _ (i : ℕ) (at : Between) (behind : IsBehind problem penalty i at) where
    abbrev next : Entry
    next = next_entry penalty at

    pub inside : i < length entries
    inside =
        let some = some_come penalty at in grind (arith, length-drop)

    module _ (after : Between) where
      pub one_more : TakesEntry penalty at after true
          → IsBehind problem penalty (i + 1) after × (i + 1 ≤ length entries)
      one_more takes = grind (arith, at_drop, map-append, best_behind)

      pub last_one : TakesEntry penalty at after false
          → (after.nodes ≡ nodes_of entries) × (after.best ≡ best_after None entries) × (length entries ≡ i + 1)
          × (after.path.problem ≡ problem)
      last_one takes =
          let all = at_drop entries i next [] (sym behind.rest ∙ takes.rest) in
          let whole : take (i + 1) entries ≡ entries = take_all (i + 1) entries
          (omega (arith, ap length all.1, length-drop (i + 1) entries)) in
          let front = sym all.0 ∙ whole in (
            takes.nodes ∙ ap (λ nodes. nodes ++ node_of next ∷ []) behind.nodes
                ∙ sym (map-append node_of (take i entries) (next ∷ [])) ∙ ap nodes_of front,
            takes.best ∙ ap (λ best. best_after best (next ∷ [])) behind.best
                ∙ sym (best_behind None (take i entries) (next ∷ [])) ∙ ap (best_after None) front,
            omega (arith, all.2, ap length all.1, length-drop (i + 1) entries),
            takes.same ∙ behind.same,
          )

-- ---- what is found within a budget

pub whole_within : (budget : ℕ) (entries : List Entry) (nodes : List WaitNode) (best : Option Choice)
    → length entries ≤ budget → nodes ≡ nodes_of entries → best ≡ best_after None entries
    → option_map (with_tree (Some nodes)) best ≡ waits_within budget entries
unfolding waits_within
whole_within budget entries nodes best enough all last = grind arith

pub spent_within : (budget : ℕ) (entries : List Entry) (best : Option Choice) → budget < length entries
    → best ≡ best_after None (take budget entries)
    → option_map (with_tree None) best ≡ waits_within budget entries
unfolding waits_within
spent_within budget entries best short last = grind arith

-- behind as many entries as the budget has, where one is still to come
pub spent_found : (problem : DelayProblem) (penalty budget i : ℕ) (at : Between)
    → IsBehind problem penalty i at → i ≡ budget
    → option_map (with_tree None) at.best ≡ waits_within budget (listing problem penalty)
spent_found problem penalty budget i at behind same = grind (arith, spent_within, inside)

pub on_err : {A E : Type 0} (P : Type 0) (result : Result A E) → P → OnErr result P
on_err P (Ok value) is = tt
on_err P (Err error) is = is

pub on_ok : {A E : Type 0} (P : Type 0) (result : Result A E) → P → OnOk result P
on_ok P (Ok value) is = is
on_ok P (Err error) is = tt

pub few_listed : (budget count i : ℕ) → i < budget → i < count → i + 1 ≤ min budget count
few_listed budget count i one two = omega (arith, one, two)

pub all_listed : (budget count i : ℕ) → i < budget → count ≡ i + 1 → i + 1 ≡ min budget count
all_listed budget count i one two = omega (arith, one, two)

-- Inner words: a search between two entries of its listing.
use Rattle.std.specs.Prelude.{ℕ, ◌≡◌, Bool, true, List, [], ◌∷◌, ◌++◌, take, drop, Option, None, option_map, IfSome}
use Rattle.std.specs.Prelude.{MatchBool}
use Rattle.propagation.specs.Problems.{DelayProblem}
use Rattle.delay_trials.specs.Trials.{TrialParts}
use Rattle.waiting_decisions.specs.declared.best.Best.{Best}
use Rattle.waiting_decisions.specs.declared.decision.Decision.{Decision}
use Rattle.waiting_decisions.specs.declared.node.WaitNode.{WaitNode}
use Rattle.waiting_decisions.specs.declared.node.WaitNode.TheVariants as node
use Rattle.waiting_decisions.specs.declared.next_entry.NextEntry.{NextEntry}
use Rattle.waiting_decisions.specs.declared.next_entry.NextEntry.TheVariants as next
use Rattle.waiting_decisions.specs.Listings.{Choice, Entry, best_after, cut_off, entry_at, found, listing, node_of}
use Rattle.waiting_decisions.specs.Listings.{nodes_of, split, visit}
use Rattle.waiting_decisions.specs.RightChoices.{IsWritable}
use Rattle.waiting_decisions.specs.Paths.{GoesOn, all_but, region_in, regions_in}

-- the choice that a search holds, of so many changes
abbrev pub choice_of : ℕ → Best → Choice
choice_of count best = record { kept = all_but count best.dropped.items; cost = best.cost }

abbrev pub best_in : ℕ → Option Best → Option Choice
best_in count best = option_map (choice_of count) best

-- the entries of some regions, one after the other, with the best so far
unfoldable pub visits : DelayProblem → ℕ → List (List Decision) → Option Choice → List Entry
visits problem penalty [] best = []
visits problem penalty (region ∷ regions) best =
    let entries = visit problem penalty region best in
    entries ++ visits problem penalty regions (best_after best entries)

-- a search: where it has come to, the nodes of the entries so far, and the best choice of them
pub record Between : Type 0 where
  pub path : TrialParts
  pub nodes : List WaitNode
  pub best : Option Choice

-- a choice whose cost can be written, where there is one
abbrev pub IsCheap : Option Choice → Type 0
IsCheap best = IfSome best (λ choice. IsWritable choice.cost)

-- what is found to come next, as an entry
abbrev pub entry_of : ℕ → NextEntry → Entry
entry_of count next.CutOff = cut_off
entry_of count (next.Found best) = found (choice_of count best)
entry_of count (next.Split change) = split change

-- the entries that are still to come
abbrev pub to_come : ℕ → Between → List Entry
to_come penalty at = visits at.path.problem penalty (regions_in at.path) at.best

-- the entry that comes next
abbrev pub next_entry : ℕ → Between → Entry
next_entry penalty at = entry_at at.path.problem penalty (region_in at.path) at.best

-- what taking an entry leaves, and whether another one is to come
pub record TakesEntry (penalty : ℕ) (before after : Between) (more : Bool) : Type 0 where
  pub same : after.path.problem ≡ before.path.problem
  pub nodes : after.nodes ≡ before.nodes ++ node_of (next_entry penalty before) ∷ []
  pub best : after.best ≡ best_after before.best (next_entry penalty before ∷ [])
  pub rest : MatchBool more
      (to_come penalty before ≡ next_entry penalty before ∷ to_come penalty after)
      (to_come penalty before ≡ next_entry penalty before ∷ [])

-- what a split leaves: the region in hand is the part that keeps a change
abbrev pub Splits : Between → Between → ℕ → Type 0
Splits before after change = after ≡ record before {
  path = record before.path {
    decided = record { change = change; kept = true } ∷ before.path.decided;
  };
  nodes = before.nodes ++ node.Split change ∷ [];
}

-- what a leaf leaves: the next part that waits, where there is one
pub record Leaves (before after : Between) (more : Bool) : Type 0 where
  pub nodes : after.nodes ≡ before.nodes ++ node.Leaf ∷ []
  pub best : after.best ≡ before.best
  pub path : GoesOn before.path after.path more

-- a search of a problem behind so many entries
pub record IsBehind (problem : DelayProblem) (penalty entries : ℕ) (at : Between) : Type 0 where
  pub same : at.path.problem ≡ problem
  pub nodes : at.nodes ≡ nodes_of (take entries (listing problem penalty))
  pub best : at.best ≡ best_after None (take entries (listing problem penalty))
  pub rest : to_come penalty at ≡ drop entries (listing problem penalty)

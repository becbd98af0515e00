-- The listing of a search for the best waiting decision: what it says of each region that it
-- comes to.
use Rattle.std.specs.Prelude.{ℕ, ℤ, zero, suc, ◌+◌, int_le, if◌then◌else◌, Bool, false, List, [], ◌∷◌, ◌++◌, map}
use Rattle.std.specs.Prelude.{filter_map, count_by, Option, Some, None}
use Rattle.std.specs.List.{last_or}
use Rattle.propagation.specs.Problems.{DelayProblem}
use Rattle.waiting_decisions.specs.declared.decision.Decision.{Decision}
use Rattle.waiting_decisions.specs.declared.decision.Decision.TheVariants as decision
use Rattle.waiting_decisions.specs.declared.node.WaitNode.{WaitNode}
use Rattle.waiting_decisions.specs.declared.node.WaitNode.TheVariants as node
use Rattle.waiting_decisions.specs.Regions.{bound_of, decided, first_broken, greatest_set, is_free, open_region}

-- a set of kept changes, with what it costs
pub record Choice : Type 0 where
  pub kept : List Bool
  pub cost : ℤ

-- an entry of the listing. A region is cut off by its bound; or a choice is found there; or it is
-- split by a change.
pub data Entry : Type 0 where
  cut_off : Entry
  found : Choice → Entry
  split : ℕ → Entry

-- a best choice is held, and a bound is at least what it costs
abbrev pub holds_off : Option Choice → ℤ → Bool
holds_off None bound = false
holds_off (Some best) bound = int_le best.cost bound

-- what is found in a region whose times break no free change: it keeps all that is free, at the
-- cost of the bound
abbrev pub choice_in : DelayProblem → ℕ → List Decision → Choice
choice_in problem penalty region =
    record { kept = greatest_set region; cost = bound_of problem penalty region }

-- a region is split by the free change that its times break, or a choice is found
abbrev pub entry_by : Choice → Option ℕ → Entry
entry_by choice None = found choice
entry_by choice (Some change) = split change

-- the entry of a region beside the best choice so far: the first of the three that applies
abbrev pub entry_at : DelayProblem → ℕ → List Decision → Option Choice → Entry
entry_at problem penalty region best =
    if holds_off best (bound_of problem penalty region) then cut_off
    else entry_by (choice_in problem penalty region) (first_broken problem region)

-- the choice that an entry finds, and the best one behind some entries: the last that they found,
-- or else the one before them
abbrev pub found_by : Entry → Option Choice
found_by (found choice) = Some choice
found_by _ = None

abbrev pub best_after : Option Choice → List Entry → Option Choice
best_after best entries = last_or best (filter_map found_by entries)

-- the entries of a region by its own one: behind a split those of the part that keeps the change,
-- and then those of the part that drops it, with the best so far
abbrev pub entries_by : (List Decision → Option Choice → List Entry)
    → List Decision → Option Choice → Entry → List Entry
entries_by below region best (split change) =
    let keeping = below (decided region change decision.Kept) best in
    split change ∷ keeping
    ++ below (decided region change decision.Dropped) (best_after best keeping)
entries_by below region best entry = entry ∷ []

-- the entries of a region, where it is split so many levels deep at most
unfoldable pub entries_within : DelayProblem → ℕ → ℕ → List Decision → Option Choice → List Entry
entries_within problem penalty zero region best = []
entries_within problem penalty (suc levels) region best =
    entries_by (entries_within problem penalty levels) region best
    (entry_at problem penalty region best)

-- how many levels are enough: each split decides a change that was free
abbrev pub levels_of : List Decision → ℕ
levels_of region = count_by is_free region + 1

-- the entries of a region beside the best choice so far
abbrev pub visit : DelayProblem → ℕ → List Decision → Option Choice → List Entry
visit problem penalty region best = entries_within problem penalty (levels_of region) region best

-- the listing: that of the region in which no change is decided, without a best choice
unfoldable pub listing : DelayProblem → ℕ → List Entry
listing problem penalty = visit problem penalty (open_region problem) None

-- the node of an entry, and those of some entries
abbrev pub node_of : Entry → WaitNode
node_of (split change) = node.Split change
node_of _ = node.Leaf

abbrev pub nodes_of : List Entry → List WaitNode
nodes_of entries = map node_of entries

-- Inner words: a search between two entries, and what it has found. A reader of the contracts of this crate
-- needs none of them.
use Rattle.std.specs.Prelude.{◌≡◌, ℕ, ℤ, pos, ◌≤◌, int_le, nat_le, if◌then◌else◌, Bool, true, false}
use Rattle.std.specs.Prelude.{List, [], ◌∷◌, ◌++◌, length, take, All, Option, Some, None}
use Rattle.std.specs.Prelude.{option_map, IfSome}
use Rattle.std.specs.List.{AllByRecursion}
use Rattle.line_cost_model.specs.declared.range.LineRange.{LineRange}
use Rattle.line_cost_model.specs.Problems.{ProblemParts}
use Rattle.line_cost_model.specs.Concepts.{cost_of}
use Rattle.line_cost_model.specs.Regions.{least_in}
use Rattle.line_concepts.specs.declared.node.Node.{Node}
use Rattle.line_concepts.specs.declared.node.Node.TheVariants as node
use Rattle.line_concepts.specs.Nodes.{IsInLimits, NamesWhatIs}
use Rattle.line_concepts.specs.Walks.{behind_node}
use Rattle.line_concepts.specs.declared.best.BestConcept.{BestConcept}
use Rattle.line_concepts.specs.declared.search.Search.{Search}
use Rattle.line_concepts.specs.declared.search.Searched.{Searched}
use Rattle.line_concepts.specs.Listings.{Entry, best_after, listing, node_at, visit}
use Rattle.line_concepts.specs.Budgets.{entries_listed, nodes_in}

-- the dearer one of the open line so far and a line, where that is open
abbrev pub dearer : Option (ℕ × ℤ) → ℕ → ℤ → Bool → Option (ℕ × ℤ)
dearer first line cost false = first
dearer None line cost true = Some (line, cost)
dearer (Some first) line cost true = if int_le cost first.1 then Some first else Some (line, cost)

-- a concept has a frequency for each line, and costs what stands beside it
pub record IsPriced (problem : ProblemParts) (best : BestConcept) : Type 0 where
  pub each : length best.frequencies.items ≡ length problem.lines
  pub few : All (λ frequency. frequency ≤ 1000) best.frequencies.items
  pub cost : best.cost ≡ pos (cost_of problem best.frequencies.items)

abbrev pub ArePriced : ProblemParts → Option BestConcept → Type 0
ArePriced problem best = IfSome best (IsPriced problem)

-- the frequencies of a concept, where there is one
abbrev pub concept_in : Option BestConcept → Option (List ℕ)
concept_in best = option_map (λ best. best.frequencies.items) best

-- the concept that is found at a region by what is said of it
abbrev pub found_in : List LineRange → Node → Option (List ℕ)
found_in region node.Point = Some (least_in region)
found_in region _ = None

-- the entry of a region by what is said of it
abbrev pub entry_of : List LineRange → Node → Entry
entry_of region node = record { node = node; found = found_in region node }

-- the entries of the regions that wait, one after the other, each beside the best concept so far
unfoldable pub visits : ProblemParts → List (List LineRange) → Option (List ℕ) → List Entry
visits problem [] best = []
visits problem (region ∷ waiting) best =
    let entries = visit problem region best in
    entries ++ visits problem waiting (best_after best entries)

-- the ranges of a region are in order, and there is one for each line
pub record IsVisited (problem : ProblemParts) (region : List LineRange) : Type 0 where
  pub ordered : AllByRecursion (λ range. range.lo ≤ range.hi) region
  pub each : length region ≡ length problem.lines

-- nodes name lines and edges that are there, and are in their limits
pub record AreSound (problem : ProblemParts) (nodes : List Node) : Type 0 where
  pub names : All (NamesWhatIs problem) nodes
  pub limits : All IsInLimits nodes

-- a search behind some entries: the entries so far, and those of the regions that wait, are the listing
pub record IsSearchedBy (problem : ProblemParts) (regions : List (List LineRange)) (nodes : List Node)
    (best : Option BestConcept) (count : ℕ) : Type 0 where
  pub done : List Entry
  pub whole : done ++ visits problem regions (concept_in best) ≡ listing problem
  pub nodes_are : nodes ≡ nodes_in done
  pub best_is : concept_in best ≡ best_after None done
  pub count_is : length done ≡ count
  pub visited : AllByRecursion (IsVisited problem) regions
  pub sound : AreSound problem nodes
  pub priced : ArePriced problem best

-- the same, where a region is to come
abbrev pub IsSearched : ProblemParts → Search → ℕ → Type 0
IsSearched problem search count =
    IsSearchedBy problem (search.walk.region ∷ search.walk.waiting) search.tree search.best count

-- and where none may be
abbrev pub IsSearchedOn : ProblemParts → Search → Bool → ℕ → Type 0
IsSearchedOn problem search more count =
    IsSearchedBy problem (if more then search.walk.region ∷ search.walk.waiting else []) search.tree search.best
    count

-- what a search says of its region
abbrev pub node_here : ProblemParts → Search → Node
node_here problem search = node_at problem search.walk.region (concept_in search.best)

-- a search takes one entry more, and another one is to come or not
pub record TakesEntry (problem : ProblemParts) (before after : Search) (more : Bool) : Type 0 where
  pub regions : (if more then after.walk.region ∷ after.walk.waiting else [])
      ≡ behind_node before.walk.region before.walk.waiting (node_here problem before)
  pub tree : after.tree ≡ before.tree ++ node_here problem before ∷ []
  pub best : concept_in after.best
      ≡ best_after (concept_in before.best) (entry_of before.walk.region (node_here problem before) ∷ [])
  pub names : NamesWhatIs problem (node_here problem before)
  pub limits : IsInLimits (node_here problem before)
  pub priced : ArePriced problem after.best
  pub same_problem : after.walk.problem ≡ before.walk.problem

-- what a search within a budget found
pub record IsResult (problem : ProblemParts) (budget : ℕ) (found : Searched) : Type 0 where
  pub best_is : concept_in found.best ≡ best_after None (take budget (listing problem))
  pub tree_is : found.tree
      ≡ (if nat_le (length (listing problem)) budget then Some (nodes_in (listing problem)) else None)
  pub entries_are : found.entries ≡ entries_listed budget (listing problem)
  pub sound : IfSome found.tree (AreSound problem)
  pub priced : ArePriced problem found.best

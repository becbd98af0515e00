-- The line concept that a listing gives within a budget of entries, or why it gives none.
use Rattle.std.specs.Prelude.{ℕ, nat_le, if◌then◌else◌, List, length, take, Option, Some, None}
use Rattle.std.specs.Prelude.{option_map, ok_or, Result, Ok, Err}
use Rattle.tables.specs.declared.refusal.Refusal.{Refusal}
use Rattle.tables.specs.declared.refusal.Refusal.TheVariants as refusal
use Rattle.line_concepts.specs.declared.node.Node.{Node}
use Rattle.line_concepts.specs.declared.best.BestConcept.{BestConcept}
use Rattle.line_concepts.specs.declared.search.Searched.{Searched}
use Rattle.line_concepts.specs.Budgets.{nodes_in}
use Rattle.line_concepts.specs.Listings.{Entry, best_after}

-- a concept that was found: its frequencies, the tree that marks it, and how many entries were listed
pub record FoundConcept : Type 0 where
  pub frequencies : List ℕ
  pub tree : Option (List Node)
  pub entries : ℕ

-- the last concept that entries find, with a mark or without
abbrev pub last_found : Option (List Node) → List Entry → Option FoundConcept
last_found tree entries =
    option_map (λ found. record { frequencies = found; tree = tree; entries = length entries })
    (best_after None entries)

-- the concept of a whole listing: the last that it finds, marked by its nodes
abbrev pub whole_result : List Entry → Result FoundConcept Refusal
whole_result entries = ok_or (last_found (Some (nodes_in entries)) entries) refusal.NoSolution

-- the concept of a listing that is longer than a budget: the last that so many entries find, without a mark
abbrev pub spent_result : ℕ → List Entry → Result FoundConcept Refusal
spent_result budget entries = ok_or (last_found None (take budget entries)) (refusal.Spent budget)

-- the concept of a listing within a budget, or why there is none
unfoldable pub result_within : ℕ → List Entry → Result FoundConcept Refusal
result_within budget entries =
    if nat_le (length entries) budget then whole_result entries else spent_result budget entries

-- the concept that was found, with the tree that marks it
abbrev pub concept_of : BestConcept → Option (List Node) → ℕ → FoundConcept
concept_of best tree entries =
    record { frequencies = best.frequencies.items; tree = tree; entries = entries }

-- why none was found
abbrev pub why_none : Option (List Node) → ℕ → Refusal
why_none None entries = refusal.Spent entries
why_none (Some nodes) entries = refusal.NoSolution

abbrev pub result_by : Option BestConcept → Option (List Node) → ℕ → Result FoundConcept Refusal
result_by None tree entries = Err (why_none tree entries)
result_by (Some best) tree entries = Ok (concept_of best tree entries)

-- the concept that a search found, or why it found none
abbrev pub result_of : Searched → Result FoundConcept Refusal
result_of found = result_by found.best found.tree found.entries

-- A search entry by entry, and what it found at its end.
use Rattle.plan_num.proofs.Common.{◌≡◌, ℕ, ◌+◌, ◌≤◌, ◌<◌, ◌∙◌, Bool, List, [], ◌∷◌, ◌++◌, length}
use Rattle.plan_num.proofs.Common.{arith, ap, sym, subst, Option, Some, None, All, Result, Ok, Err}
use Rattle.plan_num.proofs.Common.{OnErr, true, false, le-leb, lt-leb, append_assoc, append-nil}
use Rattle.plan_num.proofs.Common.{length-append, map-append, take_all, All-nil, All-push, le-min}
use Rattle.plan_num.proofs.Common.{min-eq_left, min-eq_right, take-append_seam, AllByRecursion}
use Rattle.line_cost_model.specs.declared.range.LineRange.{LineRange}
use Rattle.line_cost_model.proofs.Common.{ProblemParts, root_of}
use Rattle.line_concepts.specs.declared.node.Node.{Node}
use Rattle.line_concepts.specs.Nodes.{IsInLimits, NamesWhatIs}
use Rattle.line_concepts.specs.Walks.{WalkedRegions}
use Rattle.line_concepts.specs.declared.best.BestConcept.{BestConcept}
use Rattle.line_concepts.specs.declared.search.Search.{Search}
use Rattle.line_concepts.specs.Budgets.{entries_listed}
use Rattle.line_concepts.specs.Listings.{best_after, listing}
use Rattle.line_concepts.specs.Searches.{IsResult, IsSearched, IsSearchedBy, IsSearchedOn}
use Rattle.line_concepts.specs.Searches.{IsVisited}
use Rattle.line_concepts.specs.Searches.{TakesEntry, concept_in, entry_of, node_here, visits}
use Rattle.line_concepts.proofs.VisitsInTurn.{best_behind, root_visited, root_visits, visit_turn}
use Rattle.line_concepts.proofs.VisitsInTurn.{visited_behind}

-- ---- before the first entry

pub search_begun : (problem : ProblemParts) (walk : WalkedRegions) (nodes : List Node)
    → walk ≡ record { problem = problem; region = root_of problem; waiting = [] } → nodes ≡ []
    → IsSearchedBy problem (walk.region ∷ walk.waiting) nodes None 0
unfolding visits
search_begun problem walk nodes walk_is none = grind (arith, root_visits, root_visited, All-nil)

-- ---- one entry more

pub entry_taken : (problem : ProblemParts) (before after : Search) (more : Bool) (count : ℕ)
    → IsSearched problem before count → TakesEntry problem before after more
    → IsSearchedOn problem after more (count + 1)
entry_taken problem before after more count so taken =
    let region : List LineRange = before.walk.region in
    let waiting = before.walk.waiting in
    let best = concept_in before.best in
    let at = node_here problem before in
    let here = entry_of region at in
    record {
      done = so.done ++ here ∷ [];
      whole = (λ i. (so.done ++ here ∷ []) ++ visits problem (taken.regions i) (taken.best i))
          ∙ append_assoc so.done (here ∷ []) _
          ∙ ap (λ rest. so.done ++ rest) (sym (visit_turn problem waiting best region so.visited.0))
          ∙ so.whole;
      nodes_are = taken.tree ∙ ap (λ nodes. nodes ++ at ∷ []) so.nodes_are
          ∙ sym (map-append (λ entry. entry.node) so.done (here ∷ []));
      best_is = taken.best ∙ ap (λ best. best_after best (here ∷ [])) so.best_is
          ∙ sym (best_behind None so.done (here ∷ []));
      count_is = length-append so.done (here ∷ []) ∙ ap (λ n. n + 1) so.count_is;
      visited = subst (AllByRecursion (IsVisited problem)) (sym taken.regions)
          (visited_behind problem region waiting best so.visited);
      sound = record {
        names = subst (All (NamesWhatIs problem)) (sym taken.tree)
            (All-push (NamesWhatIs problem) before.tree at so.sound.names taken.names);
        limits = subst (All IsInLimits) (sym taken.tree)
            (All-push IsInLimits before.tree at so.sound.limits taken.limits);
      };
      priced = taken.priced;
    }

-- ---- at the end

-- no region waits: the listing is done
pub search_done : (problem : ProblemParts) (nodes : List Node) (best : Option BestConcept)
    (count budget : ℕ) → IsSearchedBy problem [] nodes best count → count ≤ budget
    → IsResult problem budget (record { best = best; tree = Some nodes; entries = count })
unfolding visits
search_done problem nodes best count budget so few =
    grind (arith, append-nil, take_all, le-leb, min-eq_right)

-- a region is to come: the listing is longer than what is done
pub longer : (problem : ProblemParts) (region : List LineRange) (waiting : List (List LineRange))
    (nodes : List Node) (best : Option BestConcept) (count : ℕ)
    → IsSearchedBy problem (region ∷ waiting) nodes best count
    → count + 1 ≤ length (listing problem)
longer problem region waiting nodes best count so = grind (arith, visit_turn, length-append)

pub search_spent : (problem : ProblemParts) (region : List LineRange)
    (waiting : List (List LineRange)) (nodes : List Node) (best : Option BestConcept) (budget : ℕ)
    → IsSearchedBy problem (region ∷ waiting) nodes best budget
    → IsResult problem budget (record { best = best; tree = None; entries = budget })
search_spent problem region waiting nodes best budget so =
    let over = longer problem region waiting nodes best budget so in grind (
      arith,
      take-append_seam,
      lt-leb,
      min-eq_left,
    )

-- another entry is within the budget and the listing
pub one_within : (problem : ProblemParts) (region : List LineRange)
    (waiting : List (List LineRange)) (nodes : List Node) (best : Option BestConcept)
    (count budget : ℕ) → IsSearchedBy problem (region ∷ waiting) nodes best count → count < budget
    → count + 1 ≤ entries_listed budget (listing problem)
one_within problem region waiting nodes best count budget so few =
    le-min (omega (arith, few)) (longer problem region waiting nodes best count so)

-- the last entry: no region is to come
pub last_taken : (problem : ProblemParts) (before after : Search) (more : Bool) (count budget : ℕ)
    → IsSearched problem before count → TakesEntry problem before after more → more ≡ false
    → count < budget
    → IsResult problem budget (record { best = after.best; tree = Some after.tree; entries = count + 1 })
last_taken problem before after more count budget so taken is few =
    search_done problem after.tree after.best (count + 1) budget
    (subst (λ more. IsSearchedOn problem after more (count + 1)) is
    (entry_taken problem before after more count so taken)) (omega (arith, few))

-- another one is to come
pub next_taken : (problem : ProblemParts) (before after : Search) (more : Bool) (count : ℕ)
    → IsSearched problem before count → TakesEntry problem before after more → more ≡ true
    → IsSearched problem after (count + 1)
next_taken problem before after more count so taken is = grind (arith, entry_taken)

-- where a call fails
pub on_error : {X E : Type 0} (result : Result X E) (Left : Type 0) → Left → OnErr result Left
on_error (Ok value) Left left = tt
on_error (Err error) Left left = left

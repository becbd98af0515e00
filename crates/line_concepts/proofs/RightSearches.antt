-- What a search finds is right, and its listing is whole.
use Rattle.plan_num.proofs.Common.{◌≡◌, ℕ, pos, ◌∙◌, Bool, true, false, nat_le, List, length, take}
use Rattle.plan_num.proofs.Common.{Option, Some, None, IfSome, IfOk, Result, Ok, Err, if◌then◌else◌}
use Rattle.plan_num.proofs.Common.{refl, arith, ap, sym, subst, le-leb, leb-true, take_all}
use Rattle.line_cost_model.proofs.Common.{IsChosen, IsFeasible, cost_of, IsProblem, ProblemParts}
use Rattle.line_concepts.specs.Certified.{Certifies}
use Rattle.line_concepts.specs.Budgets.{nodes_in}
use Rattle.line_concepts.specs.Listings.{Entry, listing}
use Rattle.line_concepts.specs.RightSearches.{FoundIsRight, ListingIsWhole, SearchIsRight, found_by}
use Rattle.line_concepts.specs.Searches.{ArePriced, IsResult, concept_in}
use Rattle.line_concepts.specs.declared.best.BestConcept.{BestConcept}
use Rattle.line_concepts.specs.declared.node.Node.{Node}
use Rattle.line_concepts.specs.declared.search.Searched.{Searched}
use Rattle.line_concepts.proofs.ChosenFound.{best_feasible, found_is_chosen, listing_finds}
use Rattle.line_concepts.proofs.ChosenFound.{nodes_certify, none_is_feasible, some_find}
use Rattle.line_concepts.proofs.ConceptsListed.{concepts_listed}
use Rattle.line_concepts.proofs.Lengths.{listing_bound, root_ordered}
use Rattle.line_concepts.proofs.Levels.{visit_unrolls}

where_found : {X : Type 0} (P : X → Type 0) (found : Option X) → ((x : X) → found ≡ Some x → P x)
    → IfSome found P
where_found P None h = tt
where_found P (Some x) h = h x refl

pub listing_whole : (problem : ProblemParts) → ListingIsWhole problem
listing_whole problem = record {
  ordered = root_ordered problem.edges problem.lines;
  enough_levels = visit_unrolls problem;
  feasible = λ count. grind (arith, best_feasible, some_find, listing_finds);
  counted = concepts_listed;
}

pub search_right : (problem : ProblemParts) → IsProblem problem → SearchIsRight problem
search_right problem sound = grind (
  arith,
  where_found,
  found_is_chosen,
  nodes_certify,
  none_is_feasible,
)

-- ---- within a budget

-- what holds of the concept that was found, by its frequencies
in_concept : (P : List ℕ → Type 0) (best : Option BestConcept) → IfSome (concept_in best) P
    → IfSome best (λ best. P best.frequencies.items)
in_concept P None h = tt
in_concept P (Some best) h = h

in_price : (problem : ProblemParts) (nodes : List Node) (best : Option BestConcept)
    → ArePriced problem best
    → IfSome (concept_in best) (λ concept. Certifies problem (pos (cost_of problem concept)) nodes)
    → IfSome best (λ best. Certifies problem best.cost nodes)
in_price problem nodes None priced h = tt
in_price problem nodes (Some best) priced h = grind arith

-- what holds of a tree holds where the listing is within the budget
where_whole : (P : List Node → Type 0) (budget : ℕ) (all : List Entry) (b : Bool)
    → nat_le (length all) budget ≡ b → (take budget all ≡ all → P (nodes_in all))
    → IfSome (if b then Some (nodes_in all) else None) P
where_whole P budget all true is h = h (grind (arith, leb-true, take_all))
where_whole P budget all false is h = tt

module _ (problem : ProblemParts) (budget : ℕ) (found : Searched) (sound : IsProblem problem)
    (is : IsResult problem budget found) where
  right : SearchIsRight problem
  right = search_right problem sound

  -- where there is a tree
  with_tree : (P : List Node → Type 0)
      → (concept_in found.best ≡ found_by problem → P (nodes_in (listing problem)))
      → IfSome found.tree P
  with_tree P h = grind (arith, where_whole, nat_le)

  pub found_right : FoundIsRight problem budget found
  found_right = record {
    feasible = in_concept (IsFeasible problem) found.best
        (subst (λ concept. IfSome concept (IsFeasible problem)) (sym is.best_is)
        ((listing_whole problem).feasible budget));
    chosen = with_tree (λ _. IfSome found.best (λ best. IsChosen problem best.frequencies.items))
        (λ same. in_concept (IsChosen problem) found.best
        (subst (λ concept. IfSome concept (IsChosen problem)) (sym same) right.chosen));
    certified = grind (arith, with_tree, in_price, right);
    none = with_tree (λ _. found.best ≡ None → (concept : List ℕ) → ¬ IsFeasible problem concept)
        (λ same none. right.none (sym same ∙ ap concept_in none));
    whole = λ enough. grind (arith, le-leb, listing_bound);
  }

pub result_right : {E : Type 0} (problem : ProblemParts) (budget : ℕ) → IsProblem problem
    → (result : Result Searched E) → IfOk result (IsResult problem budget)
    → IfOk result (FoundIsRight problem budget)
result_right problem budget sound (Ok found) is = found_right problem budget found sound is
result_right problem budget sound (Err error) is = tt

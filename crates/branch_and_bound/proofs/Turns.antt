-- A search entry by entry, and what it found at its end.
use Rattle.plan_num.proofs.Common.{◌≡◌, ℕ, zero, suc, ◌+◌, ◌≤◌, ◌<◌, ◌∙◌, List, [], ◌∷◌, ◌++◌}
use Rattle.plan_num.proofs.Common.{length, take, arith, ap, sym, subst, refl, Option, Some, None}
use Rattle.plan_num.proofs.Common.{IfSome, cond, nat_le, Bool, true, false, ℤ, le-leb, leb-true}
use Rattle.plan_num.proofs.Common.{lt-leb, append_assoc, append-nil, length-append, map-append}
use Rattle.plan_num.proofs.Common.{take_all, min-eq_left, min-eq_right, take-append_seam}
use Rattle.plan_num.proofs.Common.{AllByRecursion}
use Rattle.branch_and_bound.specs.Branchings.{BranchingParts, Entry, IsBranching, best_after}
use Rattle.branch_and_bound.specs.Branchings.{nodes_in}
use Rattle.branch_and_bound.specs.Listings.{entries_by, entries_within, found_within, listing}
use Rattle.branch_and_bound.specs.Listings.{visit, visits}
use Rattle.branch_and_bound.specs.declared.found.Found.{Found}
use Rattle.branch_and_bound.specs.Right.{IsRight}
use Rattle.branch_and_bound.specs.Searches.{IsSearched, Pops, SearchParts, TakesEntry, behind}
use Rattle.branch_and_bound.proofs.Visited.{best_behind, best_past, listing_right}

module _ {R N S : Type 0} (problem : BranchingParts R N S) (LiesIn : R → S → Type 0)
    (Shows : R → N → ℤ → Type 0) (Fits : R → Type 0)
    (laws : IsBranching problem LiesIn Shows Fits) where
  abbrev seen : R → Option S → Entry N S
  seen region best = problem.look region best

  abbrev split_at : R → Option S → Option (R × R)
  split_at region best = problem.parts region (problem.look region best).0

  -- a search, and what it found where no region waits
  abbrev state : List R → List N → Option S → SearchParts R N S
  state waiting nodes best = record { waiting = waiting; nodes = nodes; best = best }

  abbrev whole : ℕ → SearchParts R N S → Found N S
  whole count search = record { best = search.best; tree = Some search.nodes; entries = count }

  -- ---- how deep a region is split

  same_step : (below above : R → Option S → List (Entry N S)) (region : R) (best : Option S)
      → Fits region → ((part : R) (best : Option S) → Fits part
      → problem.levels part < problem.levels region → below part best ≡ above part best)
      → entries_by below best (seen region best) (split_at region best)
      ≡ entries_by above best (seen region best) (split_at region best)
  same_step below above region best fits same = grind arith

  stable : (some more : ℕ) (region : R) (best : Option S) → Fits region
      → problem.levels region + 1 ≤ some → problem.levels region + 1 ≤ more
      → entries_within problem some region best ≡ entries_within problem more region best
  unfolding entries_within
  stable zero more region best fits enough also = absurd (omega (arith, enough))
  stable (suc some) zero region best fits enough also = absurd (omega (arith, also))
  stable (suc some) (suc more) region best fits enough also =
      same_step (entries_within problem some) (entries_within problem more) region best fits
      (λ part best fit less. stable some more part best fit (omega (arith, less, enough))
      (omega (arith, less, also)))

  unrolled : (region : R) (best : Option S) → Fits region → visit problem region best
      ≡ entries_by (visit problem) best (seen region best) (split_at region best)
  unfolding entries_within
  unrolled region best fits = grind (arith, same_step, stable)

  -- ---- one entry more

  visit_turn : (region : R) (waiting : List R) (best : Option S) → Fits region
      → visits problem (region ∷ waiting) best
      ≡ seen region best
      ∷ visits problem (behind (split_at region best) waiting)
      (best_after best (seen region best ∷ []))
  unfolding visits
  visit_turn region waiting best fits = grind (
    arith,
    unrolled,
    best_past,
    best_behind,
    append_assoc,
  )

  fit_behind : (region : R) (node : N) (waiting : List R) → Fits region
      → AllByRecursion Fits waiting
      → AllByRecursion Fits (behind (problem.parts region node) waiting)
  fit_behind region node waiting fits all = by (problem.parts region node) refl
    where
      by : (parts : Option (R × R)) → problem.parts region node ≡ parts
          → AllByRecursion Fits (behind parts waiting)
      by None is = all
      by (Some two) is =
          let parts = laws.splits region fits node two.0 two.1 is in
          (parts.lower_fits, (parts.upper_fits, all))

  pub entry_taken : (region : R) (waiting : List R) (nodes : List N) (best : Option S)
      (after : SearchParts R N S) (count : ℕ)
      → IsSearched problem Fits (state (region ∷ waiting) nodes best) count
      → TakesEntry problem region (state waiting nodes best) after
      → IsSearched problem Fits after (count + 1)
  entry_taken region waiting nodes best after count so taken =
      let here = seen region best in
      record {
        done = so.done ++ here ∷ [];
        whole = (λ i. (so.done ++ here ∷ []) ++ visits problem (taken.waiting i) (taken.best i))
            ∙ append_assoc so.done (here ∷ []) _
            ∙ ap (λ rest. so.done ++ rest) (sym (visit_turn region waiting best so.fit.0))
            ∙ so.whole;
        nodes_are = taken.nodes ∙ ap (λ nodes. nodes ++ here.0 ∷ []) so.nodes_are
            ∙ sym (map-append (λ entry. entry.0) so.done (here ∷ []));
        best_is = taken.best ∙ ap (λ best. best_after best (here ∷ [])) so.best_is
            ∙ sym (best_behind None so.done (here ∷ []));
        count_is = length-append so.done (here ∷ []) ∙ ap (λ n. n + 1) so.count_is;
        fit = subst (AllByRecursion Fits) (sym taken.waiting)
            (fit_behind region here.0 waiting so.fit.0 so.fit.1);
      }

  -- before the first entry
  pub search_begun : IsSearched problem Fits
      (state (problem.root ∷ []) [] None) 0
  unfolding visits listing
  search_begun = grind (arith, append-nil)

  -- no region waits: the listing is done
  pub search_done : (nodes : List N) (best : Option S) (count budget : ℕ)
      → IsSearched problem Fits (state [] nodes best) count
      → count ≤ budget
      → record { best = best; tree = Some nodes; entries = count } ≡ found_within problem budget
  unfolding visits
  search_done nodes best count budget so few = grind (
    arith,
    append-nil,
    le-leb,
    take_all,
    min-eq_right,
  )

  -- a region waits: the listing is longer
  pub search_spent : (region : R) (waiting : List R) (nodes : List N) (best : Option S) (budget : ℕ)
      → IsSearched problem Fits (state (region ∷ waiting) nodes best) budget
      → record { best = best; tree = None; entries = budget } ≡ found_within problem budget
  search_spent region waiting nodes best budget so = grind (
    arith,
    visit_turn,
    length-append,
    take-append_seam,
    lt-leb,
    min-eq_left,
  )

  -- ---- the same as a search tells it

  pub begins : (search : SearchParts R N S) (root : R) → root ≡ problem.root
      → search ≡ record { waiting = root ∷ []; nodes = []; best = None }
      → IsSearched problem Fits search 0
  begins search root root_is is = grind (arith, search_begun)

  pub region_fits : (before after : SearchParts R N S) (region : R) (count : ℕ)
      → IsSearched problem Fits before count → Pops before after (Some region) → Fits region
  region_fits before after region count so pops = grind arith

  pub next_taken : (before middle after : SearchParts R N S) (region : R) (count : ℕ)
      → IsSearched problem Fits before count → Pops before middle (Some region)
      → TakesEntry problem region middle after → IsSearched problem Fits after (count + 1)
  next_taken before middle after region count so pops taken = grind (arith, entry_taken)

  found_none : (waiting : List R) (nodes : List N) (best : Option S) (count budget : ℕ)
      → IsSearched problem Fits (state waiting nodes best) count
      → waiting ≡ [] → count ≤ budget
      → record { best = best; tree = Some nodes; entries = count } ≡ found_within problem budget
  found_none waiting nodes best count budget so none few =
      search_done nodes best count budget
      (subst (λ waiting. IsSearched problem Fits (state waiting nodes best) count) none so) few

  pub ended : (before after : SearchParts R N S) (found : Found N S) (count budget : ℕ)
      → IsSearched problem Fits before count → Pops before after None → count ≤ budget
      → found ≡ record { best = after.best; tree = Some after.nodes; entries = count }
      → found ≡ found_within problem budget
  ended before after found count budget so pops few is =
      is
      ∙ ap (whole count) pops.1
      ∙ found_none before.waiting before.nodes before.best count budget so pops.0 few

  cons_some : (region : R) (waiting : List R) → region ∷ waiting ≡ [] → ⊥
  cons_some region waiting is = cc

  pub at_end : (search : SearchParts R N S) (found : Found N S) (budget : ℕ)
      → IsSearched problem Fits search budget
      → (search.waiting ≡ []
      → found ≡ record { best = search.best; tree = Some search.nodes; entries = budget })
      → ((search.waiting ≡ [] → ⊥)
      → found ≡ record { best = search.best; tree = None; entries = budget })
      → found ≡ found_within problem budget
  at_end search found budget so done spent =
      by search.waiting so done spent
    where
      by : (waiting : List R)
          → IsSearched problem Fits (state waiting search.nodes search.best) budget
          → (waiting ≡ [] → found ≡ whole budget search)
          → ((waiting ≡ [] → ⊥)
          → found ≡ record { best = search.best; tree = None; entries = budget })
          → found ≡ found_within problem budget
      by [] so done spent =
          done refl ∙ search_done search.nodes search.best budget budget so (omega arith)
      by (region ∷ waiting) so done spent =
          spent (cons_some region waiting)
          ∙ search_spent region waiting search.nodes search.best budget so

  pub found_right : (found : Found N S) (budget : ℕ) → found ≡ found_within problem budget
      → IfSome found.tree (IsRight problem LiesIn Shows found.best)
  found_right found budget is =
      subst (λ (found : Found N S). IfSome found.tree (IsRight problem LiesIn Shows found.best))
      (sym is) (by (nat_le (length (listing problem)) budget) refl)
    where
      by : (within : Bool) → nat_le (length (listing problem)) budget ≡ within
          → IfSome (cond within (Some (nodes_in (listing problem))) None)
          (IsRight problem LiesIn Shows (best_after None (take budget (listing problem))))
      by true is =
          subst (λ entries. IsRight problem LiesIn Shows (best_after None entries)
          (nodes_in (listing problem)))
          (sym (take_all budget (listing problem) (leb-true (length (listing problem)) budget is)))
          (listing_right problem LiesIn Shows Fits laws)
      by false is = tt

-- What the entries of a region come to: a tree that shows each cost up to that of the best one.
use Rattle.plan_num.proofs.Common.{◌≡◌, ℕ, ℤ, pos, zero, suc, ◌≤◌, ◌+◌, ◌+ℤ◌, ◌≤ℤ◌, List, [], ◌∷◌}
use Rattle.plan_num.proofs.Common.{◌++◌, Option, Some, None, IfSome, ap, sym, ◌∙◌, refl, arith}
use Rattle.plan_num.proofs.Common.{subst, ⊎_elim, last_or, ints, map-append, filter_map-append}
use Rattle.plan_num.proofs.Common.{none-some}
use Rattle.branch_and_bound.specs.Branchings.{BranchingParts, Entry, AtMost, CostsAtLeastIn}
use Rattle.branch_and_bound.specs.Branchings.{IsBranching, best_after, nodes_in}
use Rattle.branch_and_bound.specs.Listings.{entries_by, entries_within, listing}
use Rattle.branch_and_bound.specs.Right.{AreParts, Certifies, IsRight, TreeShows}
use Rattle.branch_and_bound.specs.Trees.{NodeTree, leaf, fork, preorder}

last_behind : {X : Type 0} (first : Option X) (xs ys : List X)
    → last_or first (xs ++ ys) ≡ last_or (last_or first xs) ys
last_behind first [] ys = refl
last_behind first (x ∷ xs) ys = last_behind (Some x) xs ys

-- the best behind two lists of entries in a row
pub best_behind : {N S : Type 0} (best : Option S) (entries more : List (Entry N S))
    → best_after best (entries ++ more) ≡ best_after (best_after best entries) more
best_behind best entries more = grind (arith, filter_map-append, last_behind)

-- an entry that finds none
pub best_past : {N S : Type 0} (best : Option S) (node : N) (found : Option S)
    (more : List (Entry N S)) → found ≡ None
    → best_after best ((node, found) ∷ more) ≡ best_after best more
best_past best node None more is = refl
best_past best node (Some found) more is = absurd (none-some found (sym is))

-- an entry that finds one of some kind
one_lies : {N S : Type 0} (P : S → Type 0) (best : Option S) (node : N) (found : Option S)
    → IfSome found P → IfSome best P → IfSome (best_after best ((node, found) ∷ [])) P
one_lies P best node None there was = was
one_lies P best node (Some found) there was = there

-- what entries of a region come to
pub record Visited {R N S : Type 0} (problem : BranchingParts R N S) (LiesIn : R → S → Type 0)
    (Shows : R → N → ℤ → Type 0) (region : R) (best : Option S) (entries : List (Entry N S)) :
    Type 0 where
  pub tree : NodeTree N
  pub whole : preorder tree ≡ nodes_in entries
  pub shows : (cost : ℤ) → AtMost problem.cost cost (best_after best entries)
      → TreeShows problem Shows cost tree region
  pub falls : (cost : ℤ) → AtMost problem.cost cost (best_after best entries)
      → AtMost problem.cost cost best
  pub lies : IfSome best (LiesIn problem.root)
      → IfSome (best_after best entries) (LiesIn problem.root)

module _ {R N S : Type 0} (problem : BranchingParts R N S) (LiesIn : R → S → Type 0)
    (Shows : R → N → ℤ → Type 0) (Fits : R → Type 0)
    (laws : IsBranching problem LiesIn Shows Fits) where
  -- the entries below a split come to what they should
  abbrev Below : ℕ → (R → Option S → List (Entry N S)) → Type 0
  Below levels below = (region : R) (best : Option S) → Fits region
      → problem.levels region + 1 ≤ levels
      → Visited problem LiesIn Shows region best (below region best)

  step : (levels : ℕ) (below : R → Option S → List (Entry N S)) → Below levels below
      → (region : R) (best : Option S) → Fits region → problem.levels region + 1 ≤ suc levels
      → Visited problem LiesIn Shows region best (entries_by below best (problem.look region best)
      (problem.parts region (problem.look region best).0))
  unfolding TreeShows preorder
  step levels below rec region best fits enough =
      by (problem.parts region (problem.look region best).0) refl
    where
      by : (parts : Option (R × R)) → problem.parts region (problem.look region best).0 ≡ parts
          → Visited problem LiesIn Shows region best
          (entries_by below best (problem.look region best) parts)
      by None is =
          let one = laws.leaves region fits best is in
          record {
            tree = leaf (problem.look region best).0;
            whole = refl;
            shows = one.shows;
            falls = one.falls;
            lies = λ was. one_lies (LiesIn problem.root) best (problem.look region best).0
                (problem.look region best).1 one.lies was;
          }
      by (Some two) is =
          let parts = laws.splits region fits (problem.look region best).0 two.0 two.1 is in
          let lower = below two.0 best in
          let middle = best_after best lower in
          let upper = below two.1 middle in
          let lower_less = parts.lower_less in
          let upper_less = parts.upper_less in
          let one = rec two.0 best parts.lower_fits (omega (arith, lower_less, enough)) in
          let other = rec two.1 middle parts.upper_fits (omega (arith, upper_less, enough)) in
          let end : best_after best (problem.look region best ∷ lower ++ upper)
          ≡ best_after middle upper =
          best_past best (problem.look region best).0 (problem.look region best).1 (lower ++ upper)
          (laws.passes region fits best two.0 two.1 is)
          ∙ best_behind best lower upper in
          record {
            tree = fork (problem.look region best).0 one.tree other.tree;
            whole = ap (λ nodes. (problem.look region best).0 ∷ nodes)
                (ap (λ nodes. nodes ++ preorder other.tree) one.whole
                ∙ ap (λ nodes. nodes_in lower ++ nodes) other.whole
                ∙ sym (map-append (λ at. at.0) lower upper));
            shows = λ cost most. let last : AtMost problem.cost cost (best_after middle upper) =
                subst (λ b. AtMost problem.cost cost b) end most in
                subst (AreParts (λ a b. TreeShows problem Shows cost one.tree a
                × TreeShows problem Shows cost other.tree b)) (sym is)
                (one.shows cost (other.falls cost last), other.shows cost last);
            falls = λ cost most. one.falls cost
                (other.falls cost (subst (λ b. AtMost problem.cost cost b) end most));
            lies = λ was. subst (λ b. IfSome b (LiesIn problem.root)) (sym end)
                (other.lies (one.lies was));
          }

  visited : (levels : ℕ) (region : R) (best : Option S) → Fits region
      → problem.levels region + 1 ≤ levels
      → Visited problem LiesIn Shows region best (entries_within problem levels region best)
  unfolding entries_within
  visited zero region best fits enough = absurd (omega (arith, enough))
  visited (suc levels) region best fits enough =
      step levels (entries_within problem levels) (visited levels) region best fits enough

  -- what holds of both parts of a region bounds the costs of its solutions
  parts_sound : (cost : ℤ) (node : N) (One Two : R → Type 0)
      → ((part : R) → Fits part → One part → CostsAtLeastIn LiesIn problem.cost part cost)
      → ((part : R) → Fits part → Two part → CostsAtLeastIn LiesIn problem.cost part cost)
      → (region : R) → Fits region → (parts : Option (R × R)) → problem.parts region node ≡ parts
      → AreParts (λ lower upper. One lower × Two upper) parts
      → CostsAtLeastIn LiesIn problem.cost region cost
  parts_sound cost node One Two one two region fits None is shows = absurd shows
  parts_sound cost node One Two one two region fits (Some at) is shows = λ solution lies.
      let parts = laws.splits region fits node at.0 at.1 is in
      ⊎_elim (λ there. one at.0 parts.lower_fits shows.0 solution there)
      (λ there. two at.1 parts.upper_fits shows.1 solution there) (parts.cover solution lies)

  -- a tree that shows a cost over a region, from any hand, bounds the costs of its solutions
  pub tree_sound : (cost : ℤ) (tree : NodeTree N) (region : R) → Fits region
      → TreeShows problem Shows cost tree region → CostsAtLeastIn LiesIn problem.cost region cost
  unfolding TreeShows
  tree_sound cost (leaf node) region fits shows = laws.sound region fits node cost shows
  tree_sound cost (fork node one two) region fits shows =
      parts_sound cost node (TreeShows problem Shows cost one) (TreeShows problem Shows cost two)
      (λ part fits shows. tree_sound cost one part fits shows)
      (λ part fits shows. tree_sound cost two part fits shows) region fits
      (problem.parts region node) refl shows

  -- nodes that certify a cost, from any hand, do
  pub certified_sound : (cost : ℤ) (nodes : List N) → Certifies problem Shows cost nodes
      → CostsAtLeastIn LiesIn problem.cost problem.root cost
  certified_sound cost nodes is = tree_sound cost is.tree problem.root laws.starts is.shows

  least_at : (price : S → ℤ) (s : S) → AtMost price (price s) (Some s)
  least_at price s = let h : price s ≤ℤ price s = omega (arith, ints) in h

  -- a whole listing is right
  pub listing_right : IsRight problem LiesIn Shows (best_after None (listing problem))
      (nodes_in (listing problem))
  unfolding listing
  listing_right = by (best_after None (listing problem)) refl
    where
      all : Visited problem LiesIn Shows problem.root None (listing problem)
      all = visited (problem.levels problem.root + 1) problem.root None laws.starts (omega arith)

      certified : (best : Option S) → best_after None (listing problem) ≡ best → (cost : ℤ)
          → AtMost problem.cost cost best
          → Certifies problem Shows cost (nodes_in (listing problem))
      certified best is cost most = record {
        tree = all.tree;
        whole = all.whole;
        shows = all.shows cost (subst (λ b. AtMost problem.cost cost b) (sym is) most);
      }

      by : (best : Option S) → best_after None (listing problem) ≡ best
          → IsRight problem LiesIn Shows best (nodes_in (listing problem))
      by None is = record {
        best_is = tt;
        none_is = λ _ solution lies.
            let low = certified_sound (problem.cost solution +ℤ pos 1) (nodes_in (listing problem))
            (certified None is (problem.cost solution +ℤ pos 1) tt) solution lies in
            omega (arith, ints, low);
        certified = certified None is;
      }
      by (Some best) is = record {
        best_is = record {
          lies = subst (λ b. IfSome b (LiesIn problem.root)) is (all.lies tt);
          least = certified_sound (problem.cost best) (nodes_in (listing problem))
              (certified (Some best) is (problem.cost best) (least_at problem.cost best));
        };
        none_is = λ none. absurd (none-some best (sym none));
        certified = certified (Some best) is;
      }

-- What holds of the entries of a region: their nodes are a tree that certifies each cost which the best
-- concept behind them has at least, and no feasible concept of the region is better than that one.
use Rattle.plan_num.proofs.Common.{◌≡◌, ℕ, zero, suc, ℤ, pos, ◌+◌, ◌<◌, ◌≤◌, ◌≤ℤ◌, List, [], ◌∷◌}
use Rattle.plan_num.proofs.Common.{◌++◌, Option, Some, None, IfSome, ◌⊎◌, inl, inr, ⊎_elim, refl}
use Rattle.plan_num.proofs.Common.{sym, subst, ◌∙◌, arith, ints}
use Rattle.line_cost_model.specs.declared.range.LineRange.{LineRange}
use Rattle.line_cost_model.proofs.Common.{ComesBefore, IsFeasible, cost_of, ProblemParts, LiesIn}
use Rattle.line_cost_model.proofs.Common.{least_in, part_from, part_up_to, range_of, split_covers}
use Rattle.line_concepts.specs.declared.node.Node.{Node}
use Rattle.line_concepts.specs.declared.node.Node.TheVariants as node
use Rattle.line_concepts.specs.Certified.{TreeCertifies}
use Rattle.line_concepts.specs.Trees.{NodeTree, fork, preorder}
use Rattle.line_concepts.proofs.Lengths.{AreOrdered}

-- a concept is no better than the best one: that one costs no more, and of equal cost it comes not before
pub record IsNoBetter (problem : ProblemParts) (best : Option (List ℕ)) (concept : List ℕ) : Type 0 where
  pub chosen : List ℕ
  pub is : best ≡ Some chosen
  pub cheap : cost_of problem chosen ≤ cost_of problem concept
  pub first : cost_of problem concept ≡ cost_of problem chosen → ¬ ComesBefore problem concept chosen

-- a concept that was found in a region: it is feasible, and costs less than the best one before it
pub record IsFoundIn (problem : ProblemParts) (region : List LineRange) (best : Option (List ℕ))
    (concept : List ℕ) : Type 0 where
  pub inside : LiesIn region concept
  pub feasible : IsFeasible problem concept
  pub cheaper : IfSome best (λ other. cost_of problem concept < cost_of problem other)

abbrev pub CostsUpTo : ProblemParts → ℤ → Option (List ℕ) → Type 0
CostsUpTo problem cost best = IfSome best (λ concept. cost ≤ℤ pos (cost_of problem concept))

pub record IsVisited (problem : ProblemParts) (region : List LineRange) (best behind : Option (List ℕ))
    (nodes : List Node) : Type 0 where
  pub tree : NodeTree
  pub whole : preorder tree ≡ nodes
  pub certifies : (cost : ℤ) → CostsUpTo problem cost behind → TreeCertifies problem cost region tree
  pub kept : behind ≡ None → best ≡ None
  pub found : (concept : List ℕ) → behind ≡ Some concept → (best ≡ Some concept) ⊎ IsFoundIn problem region best concept
  pub least : (concept : List ℕ) → IsFeasible problem concept → LiesIn region concept
      → IsNoBetter problem behind concept

-- no concept of a region comes before the best one
abbrev pub StandsFirst : ProblemParts → List LineRange → Option (List ℕ) → Type 0
StandsFirst problem region best =
    (chosen : List ℕ) → best ≡ Some chosen → (concept : List ℕ) → LiesIn region concept
    → ¬ ComesBefore problem concept chosen

pub never_before_self : (problem : ProblemParts) (concept : List ℕ) → ¬ ComesBefore problem concept concept
never_before_self problem concept h = omega (arith, h.less)

-- ---- parts lie inside

pub lower_inside : (region : List LineRange) (line at : ℕ) (x : List ℕ) → at ≤ (range_of region line).hi
    → LiesIn (part_up_to region line at) x → LiesIn region x
lower_inside [] line at x high inside = inside
lower_inside (range ∷ region) zero at [] high inside = absurd inside
lower_inside (range ∷ region) (suc line) at [] high inside = absurd inside
lower_inside (range ∷ region) zero at (f ∷ x) high inside =
    (record { low = inside.0.low; high = omega (arith, inside.0.high, high) }, inside.1)
lower_inside (range ∷ region) (suc line) at (f ∷ x) high inside =
    (inside.0, lower_inside region line at x high inside.1)

pub upper_inside : (region : List LineRange) (line from : ℕ) (x : List ℕ) → (range_of region line).lo ≤ from
    → LiesIn (part_from region line from) x → LiesIn region x
upper_inside [] line from x low inside = inside
upper_inside (range ∷ region) zero from [] low inside = absurd inside
upper_inside (range ∷ region) (suc line) from [] low inside = absurd inside
upper_inside (range ∷ region) zero from (f ∷ x) low inside =
    (record { low = omega (arith, inside.0.low, low); high = inside.0.high }, inside.1)
upper_inside (range ∷ region) (suc line) from (f ∷ x) low inside =
    (inside.0, upper_inside region line from x low inside.1)

pub least_inside : (region : List LineRange) → AreOrdered region → LiesIn region (least_in region)
least_inside [] ordered = tt
least_inside (range ∷ region) ordered =
    (record { low = omega arith; high = ordered.0 }, least_inside region ordered.1)

-- ---- a split

module _ (problem : ProblemParts) (region : List LineRange) (line at : ℕ) (best mid behind : Option (List ℕ))
    (lower upper : List Node) (inside_low : (range_of region line).lo ≤ at)
    (inside_high : at < (range_of region line).hi)
    (below : IsVisited problem (part_up_to region line at) best mid lower)
    (above : IsVisited problem (part_from region line (at + 1)) mid behind upper) where
  -- the best behind both parts is no dearer than that behind the first
  no_dearer : (first : List ℕ) → mid ≡ Some first
      → (last : List ℕ) × (behind ≡ Some last) × ((last ≡ first) ⊎ (cost_of problem last < cost_of problem first))
  no_dearer first is = by behind refl
    where
      by : (o : Option (List ℕ)) → behind ≡ o
          → (last : List ℕ) × (behind ≡ Some last) × ((last ≡ first) ⊎ (cost_of problem last < cost_of problem first))
      by None none = let gone : Some first ≡ None = sym is ∙ above.kept none in absurd (cc)
      by (Some last) some = (
        last,
        some,
        ⊎_elim
            (λ same. let equal : Some last ≡ Some first = sym same ∙ is in inl (cc))
            (λ found. inr (subst
            (λ o. IfSome o (λ other. cost_of problem last < cost_of problem other)) is
            found.cheaper))
            (above.found last some),
      )

  up_to : (cost : ℤ) (a b : ℕ) → cost ≤ℤ pos a → a ≤ b → cost ≤ℤ pos b
  up_to cost a b h k = omega (arith, ints, h, k)

  mid_costs : (cost : ℤ) → CostsUpTo problem cost behind → CostsUpTo problem cost mid
  mid_costs cost h = grind (arith, no_dearer, ⊎_elim, up_to)

  cheaper_still : (concept : List ℕ) → IfSome mid (λ other. cost_of problem concept < cost_of problem other)
      → IfSome best (λ other. cost_of problem concept < cost_of problem other)
  cheaper_still concept h = by best refl mid refl
    where
      by : (o : Option (List ℕ)) → best ≡ o → (m : Option (List ℕ)) → mid ≡ m
          → IfSome o (λ other. cost_of problem concept < cost_of problem other)
      by None is m same = tt
      by (Some b) is None same = let gone : Some b ≡ None = sym is ∙ below.kept same in absurd (cc)
      by (Some b) is (Some first) same =
          let less : cost_of problem concept < cost_of problem first = subst
          (λ o. IfSome o (λ other. cost_of problem concept < cost_of problem other)) same h in
          ⊎_elim (λ old. let equal : Some b ≡ Some first = sym is ∙ old in let own : b ≡ first = cc in rw own less)
          (λ found. let lower_still : cost_of problem first < cost_of problem b = grind arith in
          omega (arith, less, lower_still))
          (below.found first same)

  pub both_visited : IsVisited problem region best behind (node.Split line at ∷ lower ++ upper)
  unfolding preorder TreeCertifies
  both_visited = record {
    tree = fork line at below.tree above.tree;
    whole = grind arith;
    certifies = λ cost h. ((inside_low, inside_high), below.certifies cost (mid_costs cost h), above.certifies cost h);
    kept = λ none. below.kept (above.kept none);
    found = λ concept is. grind (arith, ⊎_elim, lower_inside, upper_inside, cheaper_still);
    least = λ concept feasible inside. ⊎_elim
        (λ low. in_lower concept (below.least concept feasible low))
        (λ high. above.least concept feasible high)
        (split_covers region concept line at inside);
  }
    where
      in_lower : (concept : List ℕ) → IsNoBetter problem mid concept → IsNoBetter problem behind concept
      in_lower concept h = grind (arith, no_dearer, ⊎_elim)

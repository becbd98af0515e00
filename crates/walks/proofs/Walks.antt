-- Walks: how they begin and go on, their sums, and the list of all walks of so many edges.
use Rattle.plan_num.proofs.Common.{◌≡◌, ℕ, zero, suc, ◌+◌, ◌*◌, ◌≤◌, min, List, [], ◌∷◌, ◌++◌}
use Rattle.plan_num.proofs.Common.{length, map, sum, fold, refl, ap, sym, subst, ◌∙◌, Option, Some}
use Rattle.plan_num.proofs.Common.{None, ◌⊎◌, option_map, option_and_then, All, Contains, arith}
use Rattle.plan_num.proofs.Common.{flat_map, nat_tests, map-append, All-nil, All-cons, All-head}
use Rattle.plan_num.proofs.Common.{All-tail, All-append, All-push, All-map, All-contains}
use Rattle.plan_num.proofs.Common.{All-contains_itself, All-weaker, Contains-append_right}
use Rattle.plan_num.proofs.Common.{sum_by-cons, sum_by-append, fold_push}
use Rattle.plan_num.proofs.Members.{Contains-head, Contains-cons, Contains-map, Contains-flat_map, All-flat_map}
use Rattle.walks.specs.declared.edge.Edge.{Edge}
use Rattle.walks.specs.Walks.{across, IsWalk, walk_sum, staying, behind, walks_within, or_less, least_of}

-- ---- one walk

abbrev onward : Option ℕ → Edge → Option ℕ
onward end edge = option_and_then (across edge) end

nowhere : (walk : List Edge) → fold onward None walk ≡ None
nowhere [] = refl
nowhere (edge ∷ walk) = nowhere walk

-- a walk without an edge ends where it began
pub staying_end : (edges : List Edge) (from to : ℕ) → IsWalk edges from to [] → from ≡ to
staying_end edges from to walk = let joined : Some from ≡ Some to = walk.joined in cc

pub no_edge : (edges : List Edge) (from : ℕ) → IsWalk edges from from []
no_edge edges from = record { there = All-nil (Contains edges); joined = refl }

-- a walk with an edge at its head goes over that edge, and on from there
pub record Begins (edges : List Edge) (from to : ℕ) (edge : Edge) (rest : List Edge) : Type 0 where
  pub there : Contains edges edge
  pub next : ℕ
  pub over : across edge from ≡ Some next
  pub on : IsWalk edges next to rest

pub begins : (edges : List Edge) (from to : ℕ) (edge : Edge) (rest : List Edge)
    → IsWalk edges from to (edge ∷ rest) → Begins edges from to edge rest
begins edges from to edge rest walk = go (across edge from) refl
  where
    go : (next : Option ℕ) → across edge from ≡ next → Begins edges from to edge rest
    go None is = grind (arith, nowhere)
    go (Some next) is = record {
      there = All-head (Contains edges) edge rest walk.there;
      next = next;
      over = is;
      on = record {
        there = All-tail (Contains edges) edge rest walk.there;
        joined = sym (ap (λ end. fold onward end rest) is) ∙ walk.joined;
      };
    }

-- a walk behind an edge
pub edge_first : (edges : List Edge) (from next to : ℕ) (edge : Edge) (walk : List Edge)
    → Contains edges edge → across edge from ≡ Some next → IsWalk edges next to walk
    → IsWalk edges from to (edge ∷ walk)
edge_first edges from next to edge walk there over rest = record {
  there = All-cons (Contains edges) edge walk there rest.there;
  joined = ap (λ end. fold onward end walk) over ∙ rest.joined;
}

-- a walk that goes on over an edge
pub edge_last : (edges : List Edge) (from to next : ℕ) (walk : List Edge) (edge : Edge)
    → IsWalk edges from to walk → Contains edges edge → across edge to ≡ Some next
    → IsWalk edges from next (walk ++ edge ∷ [])
edge_last edges from to next walk edge before there over = record {
  there = All-push (Contains edges) walk edge before.there there;
  joined = fold_push onward (Some from) walk edge ∙ ap (λ end. onward end edge) before.joined
      ∙ over;
}

-- ---- sums

pub walk_sum-cons : (weight : Edge → ℕ) (edge : Edge) (walk : List Edge)
    → walk_sum weight (edge ∷ walk) ≡ weight edge + walk_sum weight walk
walk_sum-cons weight edge walk = sum_by-cons (λ n. n) (weight edge) (map weight walk)

pub walk_sum-append : (weight : Edge → ℕ) (first last : List Edge)
    → walk_sum weight (first ++ last) ≡ walk_sum weight first + walk_sum weight last
walk_sum-append weight first last = ap sum (map-append weight first last)
    ∙ sum_by-append (λ n. n) (map weight first) (map weight last)

pub walk_sum-push : (weight : Edge → ℕ) (walk : List Edge) (edge : Edge)
    → walk_sum weight (walk ++ edge ∷ []) ≡ walk_sum weight walk + weight edge
walk_sum-push weight walk edge =
    omega (arith, walk_sum-append weight walk (edge ∷ []), walk_sum-cons weight edge [])

-- a walk of few edges has a small sum
pub walk_sum-small : (weight : Edge → ℕ) (edges : List Edge) (most : ℕ) (walk : List Edge)
    → All (λ edge. weight edge ≤ most) edges → All (Contains edges) walk
    → walk_sum weight walk ≤ most * length walk
walk_sum-small weight edges most [] small there = omega arith
walk_sum-small weight edges most (edge ∷ walk) small there =
    grind (
      arith,
      All-tail,
      All-contains,
      All-head,
      walk_sum-cons,
      walk_sum-small weight edges most walk small (All-tail (Contains edges) edge walk there),
    )

-- ---- all walks of so many edges

staying_all : (edges : List Edge) (from to : ℕ) → All (IsWalk edges from to) (staying from to)
staying_all edges from to = grind (arith, All-nil, nat_tests, All-cons, no_edge)

behind_all : (edges : List Edge) (from to : ℕ) (edge : Edge) (walks_from : ℕ → List (List Edge))
    → Contains edges edge → ((next : ℕ) → All (IsWalk edges next to) (walks_from next))
    → All (IsWalk edges from to) (behind edge (option_map walks_from (across edge from)))
behind_all edges from to edge walks_from there walks = go (across edge from) refl
  where
    go : (next : Option ℕ) → across edge from ≡ next
        → All (IsWalk edges from to) (behind edge (option_map walks_from next))
    go None over = All-nil (IsWalk edges from to)
    go (Some next) over = All-map (IsWalk edges from to) (λ walk. edge ∷ walk) (walks_from next)
        (All-weaker (IsWalk edges next to) (λ walk. IsWalk edges from to (edge ∷ walk))
        (λ walk is. edge_first edges from next to edge walk there over is) (walks_from next)
        (walks next))

-- each of them is a walk
pub within_all : (edges : List Edge) (most from to : ℕ)
    → All (IsWalk edges from to) (walks_within edges most from to)
unfolding walks_within
within_all edges zero from to = staying_all edges from to
within_all edges (suc most) from to =
    let over : Edge → List (List Edge) = λ edge. behind edge
    (option_map (λ next. walks_within edges most next to) (across edge from)) in
    All-append (IsWalk edges from to) (staying from to) (flat_map over edges)
    (staying_all edges from to)
    (All-flat_map (IsWalk edges from to) over edges (All-weaker (Contains edges)
    (λ edge. All (IsWalk edges from to) (over edge))
    (λ edge there. behind_all edges from to edge (λ next. walks_within edges most next to) there
    (λ next. within_all edges most next to)) edges (All-contains_itself edges)))

staying_there : (from to : ℕ) → from ≡ to → Contains (staying from to) []
staying_there from to same = grind (arith, Contains-head, nat_tests)

-- each walk of at most so many edges is one of them
pub within_there : (edges : List Edge) (most from to : ℕ) (walk : List Edge) → length walk ≤ most
    → IsWalk edges from to walk → Contains (walks_within edges most from to) walk
unfolding walks_within
within_there edges zero from to [] short is = staying_there from to (staying_end edges from to is)
within_there edges zero from to (edge ∷ walk) short is = absurd (omega arith)
within_there edges (suc most) from to [] short is = grind arith
within_there edges (suc most) from to (edge ∷ walk) short is =
    let start = begins edges from to edge walk is in
    let over : Edge → List (List Edge) = λ edge. behind edge
    (option_map (λ next. walks_within edges most next to) (across edge from)) in
    let rest = within_there edges most start.next to walk (omega arith) start.on in
    let own : Contains (over edge) (edge ∷ walk) =
    subst (λ some. Contains (behind edge
    (option_map (λ next. walks_within edges most next to) some)) (edge ∷ walk)) (sym start.over)
    (Contains-map (λ walk. edge ∷ walk) (walks_within edges most start.next to) walk rest) in
    Contains-append_right (staying from to) (flat_map over edges) (edge ∷ walk)
    (Contains-flat_map over edges edge (edge ∷ walk) start.there own)

-- ---- the least of numbers

-- a sum that is there and not above a number
abbrev pub IsUpTo : ℕ → Option ℕ → Type 0
IsUpTo number None = ⊥
IsUpTo number (Some least) = least ≤ number

-- none of some numbers is below the least of them
pub least_of_all : (numbers : List ℕ) → All (λ number. IsUpTo number (least_of numbers)) numbers
unfolding least_of
least_of_all [] = All-nil (λ number. IsUpTo number None)
least_of_all (number ∷ numbers) = All-cons (λ some. IsUpTo some
    (or_less number (least_of numbers))) number numbers (own (least_of numbers))
    (All-weaker (λ some. IsUpTo some (least_of numbers))
    (λ some. IsUpTo some (or_less number (least_of numbers)))
    (λ some. more (least_of numbers) some) numbers (least_of_all numbers))
  where
    own : (rest : Option ℕ) → IsUpTo number (or_less number rest)
    own None = omega arith
    own (Some other) = omega arith

    more : (rest : Option ℕ) (some : ℕ) → IsUpTo some rest → IsUpTo some (or_less number rest)
    more None some h = absurd h
    more (Some other) some h = omega arith

min_is : (m n : ℕ) → (min m n ≡ m) ⊎ (min m n ≡ n)
min_is m n = grind arith

or_less_there : (number : ℕ) (numbers : List ℕ) (rest : Option ℕ) (least : ℕ)
    → ((other : ℕ) → rest ≡ Some other → Contains numbers other) → or_less number rest ≡ Some least
    → Contains (number ∷ numbers) least
or_less_there number numbers None least later is = let same : number ≡ least =
    cc in subst (Contains (number ∷ numbers)) same (Contains-head number numbers)
or_less_there number numbers (Some other) least later is =
    grind (arith, min_is, Contains-head, Contains-cons)

-- the least of some numbers is one of them
pub least_of_there : (numbers : List ℕ) (least : ℕ) → least_of numbers ≡ Some least
    → Contains numbers least
unfolding least_of
least_of_there [] least is = cc
least_of_there (number ∷ numbers) least is =
    or_less_there number numbers (least_of numbers) least
    (λ other from. least_of_there numbers other from) is

-- a number that is one of some numbers and not above any of them is the least of them
pub least_of_is : (numbers : List ℕ) (least : Option ℕ)
    → All (λ number. IsUpTo number least) numbers
    → ((number : ℕ) → least ≡ Some number → Contains numbers number) → least ≡ least_of numbers
least_of_is numbers least lower there = go least (least_of numbers) refl refl
  where
    go : (o r : Option ℕ) → least ≡ o → least_of numbers ≡ r → o ≡ r
    go None None is rest = refl
    go None (Some other) is rest = absurd (subst (IsUpTo other) is
        (All-contains (λ number. IsUpTo number least) numbers other lower
        (least_of_there numbers other rest)))
    go (Some own) None is rest = absurd (subst (IsUpTo own) rest
        (All-contains (λ number. IsUpTo number (least_of numbers)) numbers own
        (least_of_all numbers) (there own is)))
    go (Some own) (Some other) is rest =
        let below : own ≤ other = subst (IsUpTo other) is
        (All-contains (λ number. IsUpTo number least) numbers other lower
        (least_of_there numbers other rest)) in
        let above : other ≤ own = subst (IsUpTo own) rest
        (All-contains (λ number. IsUpTo number (least_of numbers)) numbers own
        (least_of_all numbers) (there own is)) in
        let same : own ≡ other = omega arith in
        ap Some same

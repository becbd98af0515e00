-- What always holds of a line problem with the lines over its edges, with one edge or line more.
use Rattle.plan_num.proofs.Common.{◌≡◌, get_or-set_same, get_or-set_other, set, ℕ, ◌<◌, ◌<ℤ◌, Bool}
use Rattle.plan_num.proofs.Common.{true, false, cond, nat_eq, List, [], ◌∷◌, ◌++◌, length, get_or}
use Rattle.plan_num.proofs.Common.{map, refl, ap, subst, sym, ◌∙◌, arith, ◌||◌, All, list_any}
use Rattle.plan_num.proofs.Common.{map_push, length-map, get_or-map, same_lists, All-push}
use Rattle.plan_num.proofs.Common.{slice_get-get_or, slice_get_within, get_or_from_slice_get}
use Rattle.plan_num.proofs.Common.{cases_eq, eq-eqb, ne_eqb}
use Rattle.line_cost_model.specs.declared.edge.BoundedEdge.{BoundedEdge}
use Rattle.line_cost_model.specs.declared.problem.Longer.{Longer}
use Rattle.line_cost_model.specs.Concepts.{goes_over}
use Rattle.line_cost_model.specs.Crossings.{CrossedEdge, AreCrossed, AreLonger, AreTaken, no_edge}
use Rattle.line_cost_model.specs.Crossings.{edge_at, crossed_at}
use Rattle.line_cost_model.specs.Problems.{CostedLine, ProblemParts, IsBoundedEdge, IsCostedLine, IsProblem}
use Rattle.line_cost_model.proofs.Pushed.{edge_push, line_push, over_push, crossed_by_none}
use Rattle.plan_num.proofs.Tests.{or_false, or_true}
use Rattle.plan_num.proofs.Lists.{any_push}

-- ---- a line more over its edges

all_over : (longer : List Longer) (edge : ℕ)
    → list_any (λ one. nat_eq edge one.edge) longer ≡ list_any (nat_eq edge)
    (map (λ one. one.edge) longer)
all_over [] edge = refl
all_over (one ∷ longer) edge = ap (λ b. nat_eq edge one.edge || b) (all_over longer edge)

module _ (edges after : List CrossedEdge) (lines : List CostedLine) (line : CostedLine) (longer : List Longer)
    (own : map (λ one. one.edge) longer ≡ line.edges)
    (taken : AreTaken edges (length lines) longer after) (size : length after ≡ length edges)
  where
    -- an edge is over the lines, and over the new one where it is an edge of it
    taken_over : (edge : ℕ) → edge < length edges
        → edge_at after edge ≡ cond (goes_over edge line) (crossed_at edges (length lines) edge)
        (edge_at edges edge)
    taken_over edge h = taken edge h
        ∙ ap (λ b. cond b (crossed_at edges (length lines) edge) (edge_at edges edge))
        (all_over longer edge ∙ ap (list_any (nat_eq edge)) own)

    -- its bounds stay
    pub bounds_stay : map (λ at. at.bounds) after ≡ map (λ at. at.bounds) edges
    bounds_stay = same_lists _ _
        (length-map after (λ (at : CrossedEdge). at.bounds) ∙ size
        ∙ sym (length-map edges (λ (at : CrossedEdge). at.bounds))) (λ k d h.
        let within : k < length edges = omega (arith, length-map after (λ (at : CrossedEdge). at.bounds)) in
        get_or-map (λ (at : CrossedEdge). at.bounds) after k no_edge d (omega arith)
        ∙ ap (λ (at : CrossedEdge). at.bounds) (taken_over k within) ∙ either (goes_over k line) k
        ∙ sym (get_or-map (λ (at : CrossedEdge). at.bounds) edges k no_edge d within))
      where
        either : (b : Bool) (k : ℕ)
            → (cond b (crossed_at edges (length lines) k) (edge_at edges k)).bounds
            ≡ (edge_at edges k).bounds
        either true k = refl
        either false k = refl

    pub crossed_more : AreCrossed lines edges → AreCrossed (lines ++ line ∷ []) after
    crossed_more are edge at there =
        let within : edge < length edges = omega (arith, slice_get_within after edge at there) in
        let here : edge_at after edge ≡ at = get_or_from_slice_get after edge at no_edge there in
        grind (arith, slice_get-get_or, taken_over, over_push)

-- lists of the lines over edges, one after the other
pub longer_more : (edges : List CrossedEdge) (line : ℕ) (longer : List Longer) (one : Longer)
    → AreLonger edges line longer → one.edge < length edges
    → one.lines.items ≡ (edge_at edges one.edge).lines ++ line ∷ []
    → AreLonger edges line (longer ++ one ∷ [])
longer_more edges line longer one are within is = All-push
    (λ (one : Longer). (one.edge < length edges) ×
    (one.lines.items ≡ (edge_at edges one.edge).lines ++ line ∷ [])) longer one are (within, is)

pub taken_more : (edges : List CrossedEdge) (line : ℕ) (before : List Longer) (one : Longer)
    (now after : List CrossedEdge) → length now ≡ length edges → AreTaken edges line before now
    → one.edge < length edges → one.lines.items ≡ (edge_at edges one.edge).lines ++ line ∷ []
    → after ≡ set now one.edge (record (edge_at now one.edge) { lines = one.lines.items })
    → AreTaken edges line (before ++ one ∷ []) after
taken_more edges line before one now after size taken there is put edge h = grind (
  arith,
  cases_eq,
  nat_eq,
  get_or,
  get_or-set_same,
  any_push,
  eq-eqb,
  or_true,
  get_or-set_other,
  ne_eqb,
  or_false,
)

-- ---- whole problems

abbrev pub bounds_of : List CrossedEdge → List BoundedEdge
bounds_of edges = map (λ at. at.bounds) edges

pub edge_pushed : (edges after : List CrossedEdge) (lines : List CostedLine)
    (bounds : BoundedEdge)
    → IsProblem (record { edges = bounds_of edges; lines = lines }) × AreCrossed lines edges
    → lines ≡ [] → IsBoundedEdge bounds → All (λ other. other.id <ℤ bounds.id) (bounds_of edges)
    → after ≡ edges ++ record { bounds = bounds; lines = [] } ∷ []
    → IsProblem (record { edges = bounds_of after; lines = lines }) × AreCrossed lines after
edge_pushed edges after lines bounds sound none is rising put =
    let sound_none : IsProblem (record { edges = bounds_of edges; lines = [] }) × AreCrossed []
    edges = subst (λ some. IsProblem (record { edges = bounds_of edges; lines = some }) ×
    AreCrossed some edges) none sound in
    let all = bounds_of edges ++ bounds ∷ [] in
    let same : bounds_of after ≡ all = ap bounds_of put
    ∙ map_push (λ (at : CrossedEdge). at.bounds) edges
    (record { bounds = bounds; lines = [] }) in
    subst (λ some. IsProblem (record { edges = bounds_of after; lines = some }) × AreCrossed some after) (sym none) (
      subst (λ some. IsProblem (record { edges = some; lines = [] })) (sym same)
          (edge_push (bounds_of edges) bounds sound_none.0 is rising),
      subst (AreCrossed []) (sym put) (crossed_by_none edges bounds sound_none.1),
    )

pub line_pushed : (edges after : List CrossedEdge) (lines more : List CostedLine)
    (line : CostedLine) (longer : List Longer)
    → IsProblem (record { edges = bounds_of edges; lines = lines }) × AreCrossed lines edges
    → IsCostedLine (length (bounds_of edges)) line → All (λ other. other.id <ℤ line.id) lines
    → map (λ one. one.edge) longer ≡ line.edges → AreTaken edges (length lines) longer after
    → length after ≡ length edges → more ≡ lines ++ line ∷ []
    → (IsProblem (record { edges = bounds_of after; lines = more }) × AreCrossed more after) ×
    (bounds_of after ≡ bounds_of edges)
line_pushed edges after lines more line longer sound is rising own taken size put =
    let same = bounds_stay edges after lines line longer own taken size in
    subst (λ some. (IsProblem (record { edges = bounds_of after; lines = some }) × AreCrossed some
    after) × (bounds_of after ≡ bounds_of edges)) (sym put) (
      (
        subst (λ some. IsProblem (record { edges = some; lines = lines ++ line ∷ [] })) (sym same)
            (line_push (bounds_of edges) lines line sound.0 is rising),
        crossed_more edges after lines line longer own taken size sound.1,
      ),
      same,
    )

abbrev pub parts : List BoundedEdge → List CostedLine → ProblemParts
parts edges lines = record { edges = edges; lines = lines }

pub view_pushed : (edges after : List CrossedEdge) (lines more : List CostedLine)
    (line : CostedLine) (before : ProblemParts) → bounds_of after ≡ bounds_of edges
    → more ≡ lines ++ line ∷ [] → parts (bounds_of edges) lines ≡ before
    → parts (bounds_of after) more ≡ parts before.edges (before.lines ++ line ∷ [])
view_pushed edges after lines more line before same put is =
    ap (λ some. parts some more) same ∙ ap (parts (bounds_of edges)) put
    ∙ ap (λ (p : ProblemParts). parts p.edges (p.lines ++ line ∷ [])) is

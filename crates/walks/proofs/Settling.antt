-- Labels of stops: what settling the nearest stop keeps.
use Rattle.plan_num.proofs.Common.{◌≡◌, ◌≢◌, ℕ, ◌+◌, ◌<◌, ◌≤◌, Bool, true, false, List, [], ◌∷◌}
use Rattle.plan_num.proofs.Common.{◌++◌, length, map, take, fold, set, get_or, slice_get, refl, ap}
use Rattle.plan_num.proofs.Common.{sym, subst, ◌∙◌, Option, Some, None, Contains, ◌⊎◌, inl, inr}
use Rattle.plan_num.proofs.Common.{arith, count_by, cases_lt, nat_tests, length-set}
use Rattle.plan_num.proofs.Common.{get_or-set_same, get_or-set_other, take_more, map-append}
use Rattle.plan_num.proofs.Common.{get_or_default, fold_push, sum_by-set, get_or_from_slice_get}
use Rattle.plan_num.proofs.Common.{slice_get-get_or, slice_get_within, All-contains}
use Rattle.plan_num.proofs.Common.{All-contains_itself, All-map, All-weaker}
use Rattle.std.proofs.lemmas.List.{set_past}
use Rattle.walks.specs.declared.edge.Edge.{Edge}
use Rattle.walks.specs.declared.label.Label.{Label}
use Rattle.walks.specs.declared.label.Label.TheVariants.{Unseen, Reached, Settled}
use Rattle.walks.specs.Walks.{across}
use Rattle.walks.specs.Labels.{sum_of, label_at, reached, reach, reach_over, WentOn}
use Rattle.walks.specs.StopEdges.{CanLeave, AreEdgesAt}
use Rattle.walks.proofs.PathSteps.{no_edge}
use Rattle.plan_num.proofs.Members.{Contains-cons, Contains-rec, Contains-map}
use Rattle.walks.proofs.Walks.{IsUpTo}

-- the edge of an index among those at a stop, one more of which the walk goes on over
abbrev pub edge_of_index : List Edge → ℕ → Edge
edge_of_index edges index = get_or edges index no_edge

pub over_more : (weight : Edge → ℕ) (stop sum : ℕ) (edges : List Edge) (near : List ℕ) (i index : ℕ)
    (edge : Edge) (next : Option ℕ) (initial labels after : List Label)
    → i < length near → index ≡ get_or near i index → slice_get edges index ≡ Some edge
    → next ≡ across edge stop
    → labels ≡ fold (reach_over weight stop sum) initial (map (edge_of_index edges) (take i near))
    → after ≡ reach (sum + weight edge) labels next
    → after ≡ fold (reach_over weight stop sum) initial
    (map (edge_of_index edges) (take (i + 1) near))
over_more weight stop sum edges near i index edge next initial labels after early at found over
    so_far now =
    let go = reach_over weight stop sum in
    let each = edge_of_index edges in
    now ∙ ap (reach (sum + weight edge) labels) over ∙ ap (λ some. go some edge) so_far
    ∙ sym (ap (λ some. fold go initial (map each some))
    (take_more near i index early ∙ ap (λ some. take i near ++ some ∷ []) (sym at))
    ∙ ap (fold go initial) (map-append each (take i near) (index ∷ []))
    ∙ fold_push go initial (map each (take i near)) (each index)
    ∙ ap (λ some. go (fold go initial (map each (take i near))) some)
    (get_or_from_slice_get edges index edge no_edge found))

-- the walk went on over all edges at the stop
pub went_on : (weight : Edge → ℕ) (edges : List Edge) (stop sum : ℕ) (near : List ℕ)
    (initial labels : List Label) → AreEdgesAt edges stop near
    → labels ≡ fold (reach_over weight stop sum) initial (map (edge_of_index edges) near)
    → WentOn weight edges stop sum initial labels
went_on weight edges stop sum near initial labels at is = record {
  order = map (edge_of_index edges) near;
  own = λ edge there. All-contains (Contains edges) (map (edge_of_index edges) near) edge
      (All-map (Contains edges) (edge_of_index edges) near
      (All-weaker (Contains near) (λ index. Contains edges (edge_of_index edges index))
      (λ index there. of_index index (at.own index there)) near (All-contains_itself near)))
      there;
  all = λ edge next there over.
      let found : slice_get edges there.0 ≡ Some edge =
      slice_get-get_or edges there.0 edge there.1 ∙ ap Some there.2 in
      let leave : CanLeave edges stop there.0 =
      record { edge = edge; is = found; next = next; over = over } in
      subst (Contains (map (edge_of_index edges) near))
      (get_or_from_slice_get edges there.0 edge no_edge found)
      (Contains-map (edge_of_index edges) near there.0 (at.all there.0 leave));
  is = is;
}
  where
    of_index : (index : ℕ) → CanLeave edges stop index → Contains edges (edge_of_index edges index)
    of_index index leave =
        let within = slice_get_within edges index leave.edge leave.is in
        (index, within, get_or_default edges index (edge_of_index edges index) no_edge within)

-- ---- one label

pub some_same : (m n : ℕ) → Some m ≡ Some n → m ≡ n
some_same m n e = cc

pub reached_same : (m n : ℕ) → Reached m ≡ Reached n → m ≡ n
reached_same m n e = cc

pub settled_same : (m n : ℕ) → Settled m ≡ Settled n → m ≡ n
settled_same m n e = cc

-- the sum of a label that is reached is the new one or the one that it had
pub sum_cases : (sum least : ℕ) (label : Label) → sum_of (reached sum label) ≡ Some least
    → (sum ≡ least) ⊎ (sum_of label ≡ Some least)
sum_cases sum least Unseen is = inl (some_same sum least is)
sum_cases sum least (Settled other) is = inr is
sum_cases sum least (Reached other) is = grind arith

-- so it is where it is not settled
pub reached_cases : (sum least : ℕ) (label : Label) → reached sum label ≡ Reached least
    → (sum ≡ least) ⊎ (label ≡ Reached least)
reached_cases sum least Unseen is = inl (reached_same sum least is)
reached_cases sum least (Settled other) is = cc
reached_cases sum least (Reached other) is = grind arith

pub settled_before : (sum least : ℕ) (label : Label) → reached sum label ≡ Settled least
    → label ≡ Settled least
settled_before sum least Unseen is = cc
settled_before sum least (Reached other) is = cc
settled_before sum least (Settled other) is = is

pub lowers : (sum number : ℕ) (label : Label) → IsUpTo number (sum_of label)
    → IsUpTo number (sum_of (reached sum label))
lowers sum number Unseen h = absurd h
lowers sum number (Reached other) h = omega arith
lowers sum number (Settled other) h = h

-- a label whose sum, where it is settled, is not above a number
abbrev pub SettledUpTo : ℕ → Label → Type 0
SettledUpTo number Unseen = Unit {0}
SettledUpTo number (Reached sum) = Unit {0}
SettledUpTo number (Settled sum) = sum ≤ number

pub settled_up_to : (number : ℕ) (label : Label) → ((sum : ℕ) → label ≡ Settled sum → sum ≤ number)
    → SettledUpTo number label
settled_up_to number Unseen h = tt
settled_up_to number (Reached sum) h = tt
settled_up_to number (Settled sum) h = h sum refl

stays_up_to : (number sum : ℕ) (label : Label) → SettledUpTo number label
    → SettledUpTo number (reached sum label)
stays_up_to number sum Unseen h = tt
stays_up_to number sum (Reached other) h = tt
stays_up_to number sum (Settled other) h = h

comes_down : (sum number : ℕ) (label : Label) → SettledUpTo sum label → sum ≤ number
    → IsUpTo number (sum_of (reached number label))
comes_down sum number Unseen h le = omega arith
comes_down sum number (Reached other) h le = omega arith
comes_down sum number (Settled other) h le = omega arith

abbrev pub is_settled : Label → Bool
is_settled Unseen = false
is_settled (Reached sum) = false
is_settled (Settled sum) = true

settled_kept : (sum : ℕ) (label : Label) → is_settled (reached sum label) ≡ is_settled label
settled_kept sum Unseen = refl
settled_kept sum (Reached other) = refl
settled_kept sum (Settled other) = refl

-- ---- a write of one label

-- what a write leaves at a stop
pub at_set : (P : Label → Type 0) (labels : List Label) (stop : ℕ) (label : Label) (other : ℕ)
    → stop < length labels → (other ≡ stop → P label) → (other ≢ stop → P (label_at labels other))
    → P (label_at (set labels stop label) other)
at_set P labels stop label other within own rest = grind (
  arith,
  nat_tests,
  get_or-set_same,
  get_or-set_other,
)

-- how many stops are settled
abbrev pub settled_count : List Label → ℕ
settled_count labels = count_by is_settled labels

-- ---- a walk that goes on over edges

module _ (weight : Edge → ℕ) (stop sum : ℕ) where
  abbrev pub over : List Label → Edge → List Label
  over = reach_over weight stop sum

  reach_size : (number : ℕ) (labels : List Label) (next : Option ℕ)
      → length (reach number labels next) ≡ length labels
  reach_size number labels None = refl
  reach_size number labels (Some next) =
      length-set labels next (reached number (label_at labels next))

  pub over_size : (labels : List Label) (edges : List Edge)
      → length (fold over labels edges) ≡ length labels
  over_size labels [] = refl
  over_size labels (edge ∷ edges) =
      over_size (over labels edge) edges ∙ reach_size (sum + weight edge) labels (across edge stop)

  reach_count : (number : ℕ) (labels : List Label) (next : Option ℕ)
      → settled_count (reach number labels next) ≡ settled_count labels
  reach_count number labels None = refl
  reach_count number labels (Some next) =
      grind (arith, cases_lt, sum_by-set, settled_kept, set_past)

  pub over_count : (labels : List Label) (edges : List Edge)
      → settled_count (fold over labels edges) ≡ settled_count labels
  over_count labels [] = refl
  over_count labels (edge ∷ edges) = over_count (over labels edge) edges
      ∙ reach_count (sum + weight edge) labels (across edge stop)

  -- what holds of the label of a stop, and stays where a walk comes to it, holds after all
  module _ (P : Label → Type 0) (to : ℕ) where
    reach_keeps : (number : ℕ) (labels : List Label) (next : Option ℕ)
        → (next ≡ Some to → (label : Label) → P label → P (reached number label))
        → P (label_at labels to) → P (label_at (reach number labels next) to)
    reach_keeps number labels None step now = now
    reach_keeps number labels (Some next) step now = elim (cases_lt next (length labels)) as (λ h. P
        (label_at (reach number labels (Some next)) to)) [
          | inl h ↦ at_set P labels next (reached number (label_at labels next)) to h
              (λ same. step (ap Some (sym same)) (label_at labels next)
              (subst (λ some. P (label_at labels some)) same now)) (λ apart. now)
          | inr h ↦ grind (arith, set_past)
        ]

    pub keeps : (labels : List Label) (edges : List Edge)
        → ((edge : Edge) → Contains edges edge → across edge stop ≡ Some to → (label : Label)
        → P label → P (reached (sum + weight edge) label)) → P (label_at labels to)
        → P (label_at (fold over labels edges) to)
    keeps labels [] step now = now
    keeps labels (edge ∷ edges) step now =
        keeps (over labels edge) edges (λ other there. step other
        (Contains-cons edge other edges there))
        (reach_keeps (sum + weight edge) labels (across edge stop)
        (step edge (0, omega arith, refl)) now)

  -- a walk that goes on over one of the edges comes to the stop across it
  pub meets : (labels : List Label) (edges : List Edge) (edge : Edge) (to : ℕ) → to < length labels
      → Contains edges edge → across edge stop ≡ Some to → SettledUpTo sum (label_at labels to)
      → IsUpTo (sum + weight edge) (sum_of (label_at (fold over labels edges) to))
  meets labels [] edge to within there is settled = absurd (omega (arith, there.1))
  meets labels (first ∷ edges) edge to within there is settled =
      Contains-rec (λ edge. across edge stop ≡ Some to
      → IsUpTo (sum + weight edge) (sum_of (label_at (fold over labels (first ∷ edges)) to)))
      first edge edges there
      (λ is. keeps (λ label. IsUpTo (sum + weight first) (sum_of label)) to
      (over labels first) edges (λ other there to_it label h. lowers (sum + weight other)
      (sum + weight first) label h) (own is))
      (λ edge there is. meets (over labels first) edges edge to
      (omega (arith, reach_size (sum + weight first) labels (across first stop))) there is
      (reach_keeps (SettledUpTo sum) to (sum + weight first) labels (across first stop)
      (λ to_it label h. stays_up_to sum (sum + weight first) label h) settled))
      is
    where
      own : across first stop ≡ Some to
          → IsUpTo (sum + weight first) (sum_of (label_at (over labels first) to))
      own is = grind (arith, IsUpTo, get_or-set_same, comes_down)

-- A journey that is built backward along the ways.
use Rattle.plan_num.proofs.Common.{◌≡◌, ◌∙◌, ℕ, zero, suc, ◌+◌, ◌<◌, ◌≤◌, true, List, [], ◌∷◌, ◌++◌}
use Rattle.plan_num.proofs.Common.{length, reverse, get_or, slice_get, All, Some, ap, sym, arith}
use Rattle.plan_num.proofs.Common.{both_ways, cases_lt, cond_both, get_or_past, reverse-append}
use Rattle.plan_num.proofs.Common.{All-cons, get_or_from_slice_get}
use Rattle.connections.specs.declared.connection.Connection.{Connection}
use Rattle.connections.specs.declared.links.Link.{Link}
use Rattle.connections.specs.declared.way.Way.{Way}
use Rattle.connections.specs.declared.way.Way.TheVariants as way
use Rattle.connections.specs.Ends.{AreLed, IsStep, IsWayBack}
use Rattle.connections.specs.Journeys.{last_of, neighbours}
use Rattle.connections.specs.Links.{AreLinks, IsInTurn, links_behind}
use Rattle.connections.specs.Ways.{is_reached, way_at}
use Rattle.connections.proofs.FollowedRides.{turn_tail}

-- ---- going back along a link more links stand behind

pub most_behind : (links : List Link) (event : ℕ) → links_behind links event ≤ length links
most_behind [] event = omega arith
most_behind (link ∷ links) event = grind (arith, cond_both, most_behind links event)

-- behind one link more
behind_more : (link : Link) (links : List Link) (event : ℕ)
    → links_behind links event ≤ links_behind (link ∷ links) event
behind_more link links event = grind (arith, cond_both, most_behind)

-- behind an event that is not the tail of the first link
behind_other : (link : Link) (links : List Link) (event : ℕ) → (link.from ≡ event → ⊥)
    → links_behind (link ∷ links) event ≡ links_behind links event
behind_other link links event apart = grind arith

behind_own : (link : Link) (links : List Link)
    → links_behind (link ∷ links) link.from ≡ length links + 1
behind_own link links = grind arith

-- behind a head stands no link that is first
behind_head : (link : Link) (links : List Link) → IsInTurn (link ∷ links) → (k : ℕ) (d : Link)
    → k < length (link ∷ links) → links_behind (link ∷ links) (get_or (link ∷ links) k d).to
    ≡ links_behind links (get_or (link ∷ links) k d).to
behind_head link links turn k d inside =
    behind_other link links (get_or (link ∷ links) k d).to
    (λ same. turn 0 k d (omega arith) inside (sym same))

pub behind_rises : (links : List Link) → IsInTurn links → (k : ℕ) (d : Link) → k < length links
    → links_behind links (get_or links k d).to < links_behind links (get_or links k d).from
behind_rises [] turn k d inside = absurd (omega (arith, inside))
behind_rises (link ∷ links) turn zero d inside =
    let to = behind_head link links turn zero d inside in grind (arith, behind_own, most_behind)
behind_rises (link ∷ links) turn (suc k) d inside =
    let to = behind_head link links turn (suc k) d inside in grind (
      arith,
      turn_tail,
      behind_more,
      get_or,
      behind_rises links (turn_tail link links turn) k d (omega (arith, inside)),
    )

-- the same of a connection
pub behind_tail : (connections : List Connection) (links : List Link) → AreLinks connections links
    → (place : ℕ) (connection : Connection) → slice_get connections place ≡ Some connection
    → links_behind links connection.to < links_behind links connection.from
behind_tail connections links are place connection is = grind (arith, behind_rises)

-- ---- the events so far

-- an event that can be reached is there
pub reached_inside : (ways : List Way) (event : ℕ) → is_reached (way_at ways event) ≡ true
    → event < length ways
reached_inside ways event is = grind (arith, cases_lt, both_ways, get_or_past)

-- events that were met on the way back from an end, the last of them first
pub record IsBackSoFar (connections : List Connection) (ways : List Way) (end event : ℕ)
    (events : List ℕ) : Type 0 where
  pub rest : List ℕ
  pub is : reverse events ≡ event ∷ rest
  pub last : last_of (event ∷ rest) ≡ Some end
  pub steps : All (λ pair. IsStep connections ways pair.0 pair.1) (neighbours (event ∷ rest))
  pub reached : is_reached (way_at ways event) ≡ true

module _ (connections : List Connection) (ways : List Way) (end : ℕ) where
  pub back_more : (event tail place : ℕ) (events : List ℕ)
      → IsBackSoFar connections ways end event events → way_at ways event ≡ way.By place
      → slice_get connections place ≡ Some (record { from = tail; to = event })
      → is_reached (way_at ways tail) ≡ true
      → IsBackSoFar connections ways end tail (events ++ tail ∷ [])
  back_more event tail place events so_far by is reached = record {
    rest = event ∷ so_far.rest;
    is = reverse-append events (tail ∷ []) ∙ ap (λ some. tail ∷ some) so_far.is;
    last = so_far.last;
    steps = All-cons (λ (pair : ℕ × ℕ). IsStep connections ways pair.0 pair.1) (tail, event)
        (neighbours (event ∷ so_far.rest)) (place, by, is) so_far.steps;
    reached = reached;
  }

  -- at a start the way back ends
  pub back_all : (event : ℕ) (events : List ℕ) → IsBackSoFar connections ways end event events
      → ((place : ℕ) → way_at ways event ≡ way.By place → ⊥)
      → IsWayBack connections ways end (reverse events)
  back_all event events so_far none = grind (arith, both_ways)

-- the connection by which an event is reached
pub taken : (connections : List Connection) (ways : List Way) (event place : ℕ) (at : Connection)
    → AreLed connections ways → way_at ways event ≡ way.By place
    → at ≡ get_or connections place at
    → (slice_get connections place ≡ Some (record { from = at.from; to = event }))
    × (is_reached (way_at ways at.from) ≡ true)
taken connections ways event place at led by read = grind (arith, get_or_from_slice_get, slice_get)

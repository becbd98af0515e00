-- Inner words: the connections by the ranks of their tails.
use Rattle.std.specs.Prelude.{ℕ, ◌≡◌, ◌<◌, ◌≤◌, ◌+◌, ◌==◌, ◌&&◌, if◌then◌else◌, Bool, false, List, [], ◌∷◌, length, map}
use Rattle.std.specs.Prelude.{drop, slice_get, slice_index_or, All, Contains, Some}
use Rattle.std.specs.List.{enumerate_from}
use Rattle.connections.specs.declared.connection.Connection.{Connection}
use Rattle.connections.specs.declared.links.Link.{Link}
use Rattle.connections.specs.Nets.{IsNet, JourneyParts}
use Rattle.connections.specs.RankedNets.{rank_at}

-- the link of a connection, with its index
abbrev pub link_of : List ℕ → ℕ × Connection → Link
link_of ranks at =
    record { rank = rank_at ranks at.1.from; from = at.1.from; to = at.1.to; index = at.0 }

-- the links of connections, whose indexes begin with a number
abbrev pub links_of : List ℕ → ℕ → List Connection → List Link
links_of ranks first connections = map (link_of ranks) (enumerate_from first connections)

-- no link leads to the tail of one before it, or to its own
abbrev pub IsInTurn : List Link → Type 0
IsInTurn links = (i j : ℕ) (d : Link) → i ≤ j → j < length links
    → (slice_index_or links j d).to ≡ (slice_index_or links i d).from → ⊥

-- links are those of some connections, in turn
pub record AreLinks (connections : List Connection) (links : List Link) : Type 0 where
  pub few : length connections ≤ 500000
  pub of : All (λ link. slice_get connections link.index
      ≡ Some (record { from = link.from; to = link.to })) links
  pub each : (place : ℕ) (connection : Connection) → slice_get connections place ≡ Some connection
      → (rank : ℕ) × Contains links
      (record { rank = rank; from = connection.from; to = connection.to; index = place })
  pub in_turn : IsInTurn links

-- a day with its links
pub record IsLinked (net : JourneyParts) (links : List Link) : Type 0 where
  pub is_net : IsNet net
  pub are_links : AreLinks net.connections links

-- how many links stand from the first one on that leads from an event
abbrev pub links_behind : List Link → ℕ → ℕ
links_behind [] event = 0
links_behind (link ∷ links) event =
    if link.from == event then length links + 1 else links_behind links event

-- a link leads from the first of some events to the second one
abbrev pub leads_on : Link → List ℕ → Bool
leads_on link [] = false
leads_on link (event ∷ []) = false
leads_on link (event ∷ next ∷ events) = (link.from == event) && (link.to == next)

-- the events that are left where links are followed from the first one on
abbrev pub followed : List Link → List ℕ → List ℕ
followed [] events = events
followed (link ∷ links) events =
    followed links (if leads_on link events then drop 1 events else events)

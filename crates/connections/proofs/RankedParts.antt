-- Events and connections with ranks are a net, with its links; and so are those that pass the test.
use Rattle.plan_num.proofs.Common.{◌≡◌, ◌∙◌, ℕ, ◌+◌, ◌<◌, ◌&&◌, nat_eq, nat_le, nat_lt, true, List}
use Rattle.plan_num.proofs.Common.{length, get_or, slice_get, All, Some, refl, ap, sym, subst}
use Rattle.plan_num.proofs.Common.{arith, enumerate_from, list_all, IsNonDecreasingBy}
use Rattle.plan_num.proofs.Common.{IsPermutation, and_parts, eqb-true, leb-true, ltb-true}
use Rattle.plan_num.proofs.Common.{get_or-map, length-map, All-map, get_or-enumerate_from}
use Rattle.plan_num.proofs.Common.{length-enumerate_from, All-permutation, Contains-permutation}
use Rattle.plan_num.proofs.Common.{AllPass-from_list_all, get_or_from_slice_get, slice_get-get_or}
use Rattle.plan_num.proofs.Common.{slice_get_within}
use Rattle.connections.specs.declared.connection.Connection.{Connection}
use Rattle.connections.specs.declared.links.Link.{Link}
use Rattle.connections.specs.Links.{IsInTurn, IsLinked, link_of, links_of}
use Rattle.connections.specs.Nets.{IsConnection, IsNet, JourneyParts}
use Rattle.connections.specs.RankedNets.{IsRanked, are_few, is_later, is_onward, is_ranked, is_soon, joins, rank_at}

module _ (net : JourneyParts) (ranks : List ℕ) (are : IsRanked net ranks) where
  pub parts_net : IsNet net
  parts_net = record {
    few = are.few;
    soon = are.soon;
    connections = are.connections;
    rank = rank_at ranks;
    forward = are.forward;
  }

  pub tails : All (λ connection. connection.from < length ranks) net.connections
  tails k d inside = omega (arith, are.each, (are.connections k d inside).from)

  -- ---- their links

  module _ (links : List Link)
      (all : IsPermutation (links_of ranks 0 net.connections) links)
      (in_order : IsNonDecreasingBy (λ link. link.rank) links) where
    -- what holds of the link of each connection holds of the links
    of_links : (P : Link → Type 0)
        → ((k : ℕ) (d : Connection) → k < length net.connections
        → P (link_of ranks (k, get_or net.connections k d))) → All P links
    of_links P each_one =
        All-permutation P (links_of ranks 0 net.connections) links all
        (All-map P (link_of ranks) (enumerate_from 0 net.connections)
        (λ k d inside.
        let low : k < length net.connections
        = omega (arith, inside, length-enumerate_from 0 net.connections) in
        let place : 0 + k ≡ k = omega arith in
        subst (λ at. P (link_of ranks at))
        (sym (get_or-enumerate_from 0 net.connections k d low
        ∙ ap (λ n. (n, get_or net.connections k d.1)) place)) (each_one k d.1 low)))

    ranked : All (λ link. (link.rank ≡ rank_at ranks link.from)
        × (rank_at ranks link.from < rank_at ranks link.to)) links
    ranked = of_links (λ link. (link.rank ≡ rank_at ranks link.from)
        × (rank_at ranks link.from < rank_at ranks link.to))
        (λ k d inside. (refl, are.forward k d inside))

    turn : IsInTurn links
    turn i j d low high same = grind (arith, ranked)

    pub parts_linked : IsLinked net links
    parts_linked = record {
      is_net = parts_net;
      are_links = record {
        few = are.few_connections;
        of = of_links (λ link. slice_get net.connections link.index
            ≡ Some (record { from = link.from; to = link.to }))
            (λ k d inside. slice_get-get_or net.connections k d inside);
        each = λ place connection is.
            let low = slice_get_within net.connections place connection is in
            let link = link_of ranks (place, connection) in
            let at : 0 + place ≡ place = omega arith in (
              link.rank,
              Contains-permutation (links_of ranks 0 net.connections) links link all (
                place,
                (let long = length-map (enumerate_from 0 net.connections) (link_of ranks) in
                    let size = length-enumerate_from 0 net.connections in
                    omega (arith, low, long, size)),
                get_or-map (link_of ranks) (enumerate_from 0 net.connections) place
                    (place, connection)
                    link (let size = length-enumerate_from 0 net.connections in
                    omega (arith, low, size))
                    ∙ ap (link_of ranks)
                    (get_or-enumerate_from 0 net.connections place (place, connection) low
                    ∙ ap (λ n. (n, get_or net.connections place connection)) at
                    ∙ ap (λ (x : Connection). (place, x))
                    (get_or_from_slice_get net.connections place connection connection is)),
              ),
            );
        in_turn = turn;
      };
    }

-- ---- those that pass the test

module _ (net : JourneyParts) (ranks : List ℕ) (passes : is_ranked net ranks ≡ true) where
  both : (are_few net ranks ≡ true)
      × ((list_all is_soon net.events && list_all (is_onward net ranks) net.connections) ≡ true)
  both = grind (arith, and_parts)

  sound : (list_all is_soon net.events ≡ true)
      × (list_all (is_onward net ranks) net.connections ≡ true)
  sound = grind (arith, and_parts, both)

  few : (nat_le (length net.events) 100000 ≡ true)
      × ((nat_le (length net.connections) 500000 && nat_eq (length ranks) (length net.events)) ≡ true)
  few = grind (arith, and_parts, nat_le, nat_eq, both)

  counts : (nat_le (length net.connections) 500000 ≡ true)
      × (nat_eq (length ranks) (length net.events) ≡ true)
  counts = grind (arith, and_parts, nat_le, nat_eq, few)

  one : (k : ℕ) (d : Connection) → k < length net.connections
      → is_onward net ranks (get_or net.connections k d) ≡ true
  one = AllPass-from_list_all (is_onward net ranks) net.connections sound.1

  ends : (at : Connection) → is_onward net ranks at ≡ true
      → (joins (length net.events) at ≡ true) × (is_later net ranks at ≡ true)
  ends at goes = and_parts (joins (length net.events) at) (is_later net ranks at) goes

  is_connection : (at : Connection) → is_onward net ranks at ≡ true → IsConnection net at
  is_connection at goes = grind (arith, and_parts, nat_lt, ends, nat_le, ltb-true, leb-true)

  rises : (at : Connection) → is_onward net ranks at ≡ true
      → rank_at ranks at.from < rank_at ranks at.to
  rises at goes = grind (arith, ltb-true, and_parts, nat_le, nat_lt, ends)

  pub passed_ranked : IsRanked net ranks
  passed_ranked = grind (
    arith,
    few,
    leb-true,
    counts,
    get_or,
    AllPass-from_list_all,
    sound,
    is_connection,
    one,
    eqb-true,
    rises,
  )

-- Links that are followed from the first one on get to the end of a list of events exactly where it is
-- a ride.
use Rattle.plan_num.proofs.Common.{◌≡◌, ℕ, suc, ◌≤◌, ◌&&◌, ◌==◌, nat_le, Bool, true, false, List}
use Rattle.plan_num.proofs.Common.{[], ◌∷◌, length, get_or, All, refl, sym, ap, ◌∙◌, arith, inl}
use Rattle.plan_num.proofs.Common.{inr, list_all, list_any, and_from, and_parts, both_ways, le-leb}
use Rattle.plan_num.proofs.Common.{leb-true, false_from_ne_true, cases_Bool, Decides-eqb, All-head}
use Rattle.plan_num.proofs.Common.{All-tail, Any-from_list_any, list_any_at, any_passes_from_place}
use Rattle.plan_num.proofs.Common.{slice_get_read}
use Rattle.connections.specs.declared.connection.Connection.{Connection}
use Rattle.connections.specs.declared.links.Link.{Link}
use Rattle.connections.specs.Journeys.{leads, neighbours}
use Rattle.connections.specs.Links.{AreLinks, IsInTurn, followed}
use Rattle.plan_num.proofs.Tests.{same_tests}

-- a link leads from one event to another
abbrev joins : ℕ → ℕ → Link → Bool
joins event next link = (link.from == event) && (link.to == next)

abbrev linked : List Link → ℕ → ℕ → Bool
linked links event next = list_any (joins event next) links

-- each of some events and the next one pass a test
abbrev all_pass : (ℕ → ℕ → Bool) → List ℕ → Bool
all_pass test events = list_all (λ pair. test pair.0 pair.1) (neighbours events)

all_weaker : (test other : ℕ → ℕ → Bool)
    → ((event next : ℕ) → test event next ≡ true → other event next ≡ true)
    → (events : List ℕ) → all_pass test events ≡ true → all_pass other events ≡ true
all_weaker test other weaker [] all = refl
all_weaker test other weaker (event ∷ []) all = refl
all_weaker test other weaker (event ∷ next ∷ more) all =
    let parts = and_parts (test event next) (all_pass test (next ∷ more)) all in grind (
      arith,
      and_from,
      all_weaker test other weaker (next ∷ more) parts.1,
    )

-- ---- events of which few are left are a ride

module _ (test : ℕ → ℕ → Bool) where
  pub few_left : (links : List Link) (events : List ℕ)
      → All (λ link. test link.from link.to ≡ true) links → length (followed links events) ≤ 1
      → all_pass test events ≡ true
  few_left [] [] pass few = refl
  few_left [] (event ∷ []) pass few = refl
  few_left [] (event ∷ next ∷ more) pass few = absurd (omega (arith, few))
  few_left (link ∷ links) [] pass few = refl
  few_left (link ∷ links) (event ∷ []) pass few = refl
  few_left (link ∷ links) (event ∷ next ∷ more) pass few =
      elim (cases_Bool (joins event next link)) [
        | inl is ↦ grind (
          arith,
          and_parts,
          Decides-eqb,
          and_from,
          All-head,
          All-tail,
          few_left
              links (next ∷ more) (All-tail (λ link. test link.from link.to ≡ true) link links pass)
              (rw is at few),
        )
        | inr is ↦ grind (
          arith,
          All-tail,
          few_left links (event ∷ next ∷ more) (All-tail (λ link.
              test link.from link.to ≡ true) link links pass) (rw is at few),
        )
      ]

-- ---- of a ride few events are left

pub turn_tail : (link : Link) (links : List Link) → IsInTurn (link ∷ links) → IsInTurn links
turn_tail link links turn i j d low high =
    turn (suc i) (suc j) d (omega (arith, low)) (omega (arith, high))

-- the tail of a first link is no head
no_head : (link : Link) (links : List Link) (event next : ℕ) → IsInTurn (link ∷ links)
    → linked (link ∷ links) event next ≡ true → (link.from == next) ≡ false
no_head link links event next turn some =
    let any = Any-from_list_any (joins event next) (link ∷ links) some in
    let parts = and_parts (any.1.from == event) (any.1.to == next) any.4 in
    let to = (Decides-eqb any.1.to next).0 parts.1 in
    false_from_ne_true (link.from == next)
    (λ from. turn 0 any.0 any.1 (omega arith) any.2
    (ap (λ (at : Link). at.to) any.3 ∙ to ∙ sym ((Decides-eqb link.from next).0 from)))

-- the links of later steps stand behind the first link
later : (link : Link) (links : List Link) (event next : ℕ) (more : List ℕ)
    → IsInTurn (link ∷ links) → linked (link ∷ links) event next ≡ true
    → all_pass (linked (link ∷ links)) (next ∷ more) ≡ true
    → all_pass (linked links) (next ∷ more) ≡ true
later link links event next [] turn some all = refl
later link links event next (third ∷ more) turn some all =
    let parts = and_parts (linked (link ∷ links) next third)
    (all_pass (linked (link ∷ links)) (third ∷ more)) all in grind (
      arith,
      no_head,
      and_from,
      later
          link links next third more turn parts.0 parts.1,
    )

pub ride_left : (links : List Link) (events : List ℕ) → IsInTurn links
    → all_pass (linked links) events ≡ true → length (followed links events) ≤ 1
ride_left [] [] turn all = omega arith
ride_left [] (event ∷ []) turn all = omega arith
ride_left [] (event ∷ next ∷ more) turn all = absurd (both_ways false refl all)
ride_left (link ∷ links) [] turn all = ride_left links [] (turn_tail link links turn) refl
ride_left (link ∷ links) (event ∷ []) turn all =
    ride_left links (event ∷ []) (turn_tail link links turn) refl
ride_left (link ∷ links) (event ∷ next ∷ more) turn all =
    let parts = and_parts (linked (link ∷ links) event next)
    (all_pass (linked (link ∷ links)) (next ∷ more)) all in
    let rest = later link links event next more turn parts.0 parts.1 in
    elim (cases_Bool (joins event next link)) [
      | inl is ↦ rw is (ride_left links (next ∷ more) (turn_tail link links turn) rest)
      | inr is ↦ rw is (ride_left links (event ∷ next ∷ more) (turn_tail link links turn)
          (and_from (linked links event next) (all_pass (linked links) (next ∷ more)) (rw is at parts.0) rest))
    ]

-- ---- both

module _ (connections : List Connection) (links : List Link)
    (are : AreLinks connections links) where
  -- a link between two events is a connection between them, and conversely
  linked_by : (event next : ℕ) → list_any (leads event next) connections ≡ true
      → linked links event next ≡ true
  linked_by event next some = grind (arith, Any-from_list_any, slice_get_read, list_any_at)

  joined : All (λ link. list_any (leads link.from link.to) connections ≡ true) links
  joined k d inside = grind (arith, get_or, any_passes_from_place, and_from, Decides-eqb)

  pub ride_by_links : (events : List ℕ)
      → nat_le (length (followed links events)) 1
      ≡ all_pass (λ event next. list_any (leads event next) connections) events
  ride_by_links events =
      same_tests (nat_le (length (followed links events)) 1)
      (all_pass (λ event next. list_any (leads event next) connections) events)
      (λ few. few_left (λ event next. list_any (leads event next) connections) links events joined
      (leb-true (length (followed links events)) 1 few))
      (λ all. le-leb (length (followed links events)) 1
      (ride_left links events are.in_turn
      (all_weaker (λ event next. list_any (leads event next) connections) (linked links) linked_by
      events all)))

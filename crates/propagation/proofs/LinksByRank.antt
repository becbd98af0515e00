-- Links event by event, in the forward order of their events: they are all links, by their ranks.
use Rattle.plan_num.proofs.Common.{◌≡◌, ◌∙◌, ℕ, ◌+◌, ◌*◌, ◌<◌, ◌≤◌, Bool, true, false, cond, eqb}
use Rattle.plan_num.proofs.Common.{List, [], length, map, filter, get_or, All, refl, ap, sym, subst}
use Rattle.plan_num.proofs.Common.{arith, IsDistinct, range_with_len, IsNonDecreasingBy}
use Rattle.plan_num.proofs.Common.{IsPermutation, eq-eqb, ne_eqb, get_or-map, length-map, map-id}
use Rattle.plan_num.proofs.Common.{map-map, All-map, flat_map-map, list_any_at}
use Rattle.plan_num.proofs.Common.{get_or-range_with_len, length-range_with_len, All-permutation}
use Rattle.plan_num.proofs.Common.{IsPermutation-map, list_any-IsPermutation, IsDistinct-from_apart}
use Rattle.plan_num.proofs.Common.{IsDistinct-IsPermutation, mod-mul-add}
use Rattle.std.specs.List.Sorted.{IsNonDecreasing}
use Rattle.propagation.specs.declared.day_event.DayEvent.{DayEvent}
use Rattle.propagation.specs.DayEvents.{forward_rank}
use Rattle.propagation.specs.declared.links.Link.{Link}
use Rattle.propagation.specs.declared.step.Activity.{Activity}
use Rattle.propagation.specs.declared.step.Step.{Step}
use Rattle.propagation.specs.Links.{links_of}
use Rattle.propagation.specs.Outgoing.{by_ranks, event_of}
use Rattle.propagation.specs.Problems.{DelayProblem}
use Rattle.bit_rows.proofs.Cases.{by_same}
use Rattle.propagation.proofs.ByKeys.{all_by_keys, by_keys_rise}
use Rattle.propagation.proofs.PassIsLeast.{links_all}
use Rattle.propagation.proofs.Places.{told_alike}

-- the event of a rank, whatever its time and its kind are
event_back_by : (arrives : Bool) (time event : ℕ) → event < 2147483648
    → event_of (time * 4294967296 + (cond arrives 0 2147483648 + event)) ≡ event
event_back_by true time event small =
    let parts : time * 4294967296 + (0 + event) ≡ (2 * time) * 2147483648 + event = omega arith in
    ap event_of parts ∙ mod-mul-add (2 * time) 2147483648 event small
event_back_by false time event small =
    let parts : time * 4294967296 + (2147483648 + event) ≡ (2 * time + 1) * 2147483648 + event = omega arith in
    ap event_of parts ∙ mod-mul-add (2 * time + 1) 2147483648 event small

event_back : (events : List DayEvent) (event : ℕ) → event < 2147483648
    → event_of (forward_rank events event) ≡ event
event_back events event small = grind (arith, event_back_by, get_or)

eqb_flips : (a b : ℕ) → eqb a b ≡ eqb b a
eqb_flips a b =
    by_same a b
    (λ same. eq-eqb a b same ∙ sym (eq-eqb b a (sym same)))
    (λ other. ne_eqb a b other ∙ sym (ne_eqb b a (λ same. other (sym same))))

-- the first numbers differ
apart_range : (n : ℕ) → IsDistinct eqb (range_with_len 0 n)
apart_range n = grind (
  arith,
  IsDistinct-from_apart,
  length-range_with_len,
  get_or-range_with_len,
  ne_eqb,
  get_or,
)

module _ (events : List DayEvent) (ranks : List ℕ) (few : length events ≤ 100000)
    (are : IsPermutation (map (forward_rank events) (range_with_len 0 (length events))) ranks) where
  abbrev n : ℕ
  n = length events

  abbrev all_ranks : List ℕ
  all_ranks = map (forward_rank events) (range_with_len 0 n)

  -- what holds of the rank of each event
  ranks_all : (P : ℕ → Type 0) → ((event : ℕ) → event < n → P (forward_rank events event))
      → All P ranks
  ranks_all P each =
      All-permutation P all_ranks ranks are
      (All-map P (forward_rank events) (range_with_len 0 n) (λ k d inside.
      let within : k < n = omega (arith, inside, length-range_with_len 0 n) in grind (
        arith,
        get_or,
        get_or-range_with_len,
      )))

  pub events_there : All (λ rank. event_of rank < n) ranks
  events_there =
      ranks_all (λ rank. event_of rank < n)
      (λ event there. subst (λ k. k < n) (sym (event_back events event (omega (arith, there, few)))) there)

  -- each event once
  events_are : IsPermutation (range_with_len 0 n) (map event_of ranks)
  events_are =
      let back : map event_of all_ranks ≡ range_with_len 0 n =
      map-map event_of (forward_rank events) (range_with_len 0 n)
      ∙ told_alike (λ event. event_of (forward_rank events event)) (λ event. event) n
      (λ event there. event_back events event (omega (arith, there, few)))
      ∙ map-id (range_with_len 0 n)
      in grind (arith, IsPermutation-map)

  events_rise : IsNonDecreasing ranks → IsNonDecreasingBy (forward_rank events) (map event_of ranks)
  events_rise rise i j d le inside =
      let back = ranks_all (λ rank. forward_rank events (event_of rank) ≡ rank)
      (λ event there. ap (forward_rank events) (event_back events event (omega (arith, there, few)))) in
      let within : j < length ranks = omega (arith, inside, length-map ranks event_of) in
      let first = ap (forward_rank events) (get_or-map event_of ranks i 0 d (omega (arith, le, within))) in
      let second = ap (forward_rank events) (get_or-map event_of ranks j 0 d within) in
      omega (arith, first, second, back i 0 (omega (arith, le, within)), back j 0 within, rise i j 0 le within)

  module _ (links : List Link) (ends : All (λ link. link.step.from < n) links)
      (ranked : All (λ link. link.rank ≡ forward_rank events link.step.from) links) where
    links_there : IsPermutation links (by_ranks links ranks)
    links_there =
        subst (IsPermutation links) (flat_map-map (λ event. filter
        (λ link. eqb link.step.from event) links) event_of ranks)
        (all_by_keys (λ (link : Link). link.step.from) (map event_of ranks) links
        (IsDistinct-IsPermutation eqb eqb_flips (range_with_len 0 n) (map event_of ranks) events_are (apart_range n))
        (λ k d inside.
        let event = (get_or links k d).step.from in
        let there : event < n = ends k d inside in
        sym (list_any-IsPermutation (eqb event) (range_with_len 0 n) (map event_of ranks) events_are)
        ∙ list_any_at (eqb event) (range_with_len 0 n) event 0
        (omega (arith, there, length-range_with_len 0 n))
        (eq-eqb event (get_or (range_with_len 0 n) event 0)
        (omega (arith, get_or-range_with_len 0 n event 0 there)))))

    links_rise : IsNonDecreasing ranks
        → IsNonDecreasingBy (λ link. link.rank) (by_ranks links ranks)
    links_rise rise =
        subst (IsNonDecreasingBy (λ (link : Link). link.rank))
        (flat_map-map (λ event. filter (λ link. eqb link.step.from event) links) event_of ranks)
        (by_keys_rise (λ (link : Link). link.step.from) (λ (link : Link). link.rank) (forward_rank events) links ranked
        (map event_of ranks) (events_rise rise))

-- the links of rides, turns and changes
module _ (events : List DayEvent) (rides : List Activity) (turns : List Step)
    (changes : List Activity) where
  abbrev problem : DelayProblem
  problem = record { events = events; earliest = []; rides = rides; changes = changes; turns = turns }

  pub links_start : All (λ ride. ride.step.from < length events) rides
      → All (λ turn. turn.from < length events) turns
      → All (λ change. change.step.from < length events) changes
      → All (λ link. link.step.from < length events) (links_of problem)
  links_start = links_all problem (λ link. link.step.from < length events)

  pub links_ranked : All (λ link. link.rank ≡ forward_rank events link.step.from) (links_of problem)
  links_ranked =
      links_all problem (λ link. link.rank ≡ forward_rank events link.step.from)
      (λ k d inside. refl) (λ k d inside. refl) (λ k d inside. refl)

  -- what was made of their ranks and of them is they, in the order of these
  module _ (few : length events ≤ 100000)
      (ends : All (λ link. link.step.from < length events) (links_of problem))
      (ranks seen : List ℕ) (made links : List Link)
      (are : IsPermutation (map (forward_rank events) (range_with_len 0 (length events))) ranks)
      (told : made ≡ links_of problem) (same : seen ≡ ranks) (is : links ≡ by_ranks made seen) where
    all_is : by_ranks (links_of problem) ranks ≡ links
    all_is = sym (is ∙ (λ i. by_ranks (told i) (same i)))

    pub made_there : IsPermutation (links_of problem) links
    made_there =
        subst (IsPermutation (links_of problem)) all_is
        (links_there events ranks few are (links_of problem) ends links_ranked)

    pub made_rise : IsNonDecreasing ranks → IsNonDecreasingBy (λ link. link.rank) links
    made_rise rise =
        subst (IsNonDecreasingBy (λ (link : Link). link.rank)) all_is
        (links_rise events ranks few are (links_of problem) ends links_ranked rise)

-- What is found breaks no rule.
use Rattle.plan_num.proofs.Common.{◌≡◌, ℕ, ℤ, suc, ◌<◌, ◌&&◌, ◌||◌, nat_lt, not, Bool, true, false}
use Rattle.plan_num.proofs.Common.{List, [], ◌∷◌, ◌++◌, length, get_or, Some, None, ap, sym, ◌∙◌}
use Rattle.plan_num.proofs.Common.{refl, arith, inl, inr, subst, nat_eq_equiv, both_true, All}
use Rattle.plan_num.proofs.Common.{Contains, slice_get, list_any, range_with_len, option_map_or}
use Rattle.plan_num.proofs.Common.{both_ways, lt-ltb, ltb-true, or_from, Decides-eqb, All-cons}
use Rattle.plan_num.proofs.Common.{All-contains_itself, list_any_none, any_passes_from_place}
use Rattle.plan_num.proofs.Common.{list_any-from_Contains, slice_get-get_or}
use Rattle.std.proofs.lemmas.Bool.{false_from_ne_true as false_from}
use Rattle.std.proofs.lemmas.Bool.{and_right as false_right, and_parts as both}
use Rattle.std.proofs.lemmas.Map.Views.{Contains-from_any}
use Rattle.connections.specs.declared.found.Found.{Found}
use Rattle.connections.specs.declared.rule.JourneyRule.TheVariants as rule
use Rattle.connections.specs.Earliest.{IsAnswer, IsNoLater, IsToldJourney, is_before, is_rising}
use Rattle.connections.specs.Nets.{IsConnection, JourneyParts, time_at}
use Rattle.connections.specs.Journeys.{IsReached, arrives_at, begins, ends, is_journey, is_ride, last_of, leads}
use Rattle.connections.specs.Journeys.{passes_at, starts}
use Rattle.connections.specs.Judged.{broken_where, first_broken_rule, has_arrival, is_astray, is_in, is_missed}
use Rattle.connections.specs.Judged.{is_no_journey, misses_start, misses_step}
use Rattle.connections.specs.Laws.{AnswersPass}
use Rattle.connections.proofs.Passing.{last_some, there, way}

none_broken : (a b c d : Bool) → a ≡ false → b ≡ false → c ≡ false → d ≡ false
    → slice_get (broken_where a rule.Journey ++ broken_where b rule.Start
    ++ broken_where c rule.Step ++ broken_where d rule.Early) 0 ≡ None
none_broken false false false false one two three four = refl
none_broken true b c d one two three four = absurd (both_ways true one refl)
none_broken false true c d one two three four = absurd (both_ways true two refl)
none_broken false false true d one two three four = absurd (both_ways true three refl)
none_broken false false false true one two three four = absurd (both_ways true four refl)

-- two tests that both pass only where a third one does
gate : (a b c : Bool) → (a ≡ true → b ≡ true → c ≡ true) → (a && (b && not c)) ≡ false
gate false b c h = refl
gate true false c h = refl
gate true true true h = refl
gate true true false h = absurd (both_ways false refl (h refl refl))

held_in : (events : List ℕ) (event : ℕ) → Contains events event → is_in events event ≡ true
held_in events event is = list_any-from_Contains nat_eq_equiv event events is

from_in : (events : List ℕ) (event : ℕ) → is_in events event ≡ true → Contains events event
from_in events event is = Contains-from_any (λ x y h. (Decides-eqb x y).0 h) event events is

module _ (net : JourneyParts) (sound : All (IsConnection net) net.connections) where
  -- all events of a ride are there, where its first one is
  inside : (event : ℕ) (rest : List ℕ) → event < length net.events → is_ride net (event ∷ rest)
      ≡ true
      → All (λ at. at < length net.events) (event ∷ rest)
  inside event [] first joined =
      All-cons (λ at. at < length net.events) event [] first (λ k d h. absurd (omega (arith, h)))
  inside event (next ∷ rest) first joined =
      let parts = both (list_any (leads event next) net.connections)
      (is_ride net (next ∷ rest)) joined in
      All-cons (λ at. at < length net.events) event (next ∷ rest) first
      (inside next rest (way net sound event next parts.0).inside parts.1)

  -- an event that can be reached is there
  pub reached_there : (from start : ℤ) (event : ℕ) → IsReached net from start event
      → event < length net.events
  reached_there from start event reach = by reach.ride reach.begin reach.joined reach.end
    where
      last_inside : (P : ℕ → Type 0) (first : ℕ) (rest : List ℕ) (end : ℕ) → All P (first ∷ rest)
          → last_of (first ∷ rest) ≡ Some end → P end
      last_inside P first [] end all last =
          let same : first ≡ end = cc in subst P same (all 0 first (omega arith))
      last_inside P first (next ∷ rest) end all last =
          last_inside P next rest end (λ k d h. all (suc k) d (omega (arith, h))) last

      by : (ride : List ℕ) → begins net from start ride ≡ true → is_ride net ride ≡ true
          → last_of ride ≡ Some event → event < length net.events
      by [] begin joined last = absurd (both_ways false refl begin)
      by (first ∷ rest) begin joined last =
          last_inside (λ at. at < length net.events) first rest event
          (inside first rest (there (starts from start) net first begin) joined) last

  -- a ride that goes on by a connection
  longer : (first : ℕ) (rest : List ℕ) (event next : ℕ) → is_ride net (first ∷ rest) ≡ true
      → last_of (first ∷ rest) ≡ Some event → list_any (leads event next) net.connections ≡ true
      → (is_ride net (first ∷ rest ++ next ∷ []) ≡ true)
      × (last_of (first ∷ rest ++ next ∷ []) ≡ Some next)
  longer first [] event next joined last step =
      let same : first ≡ event = cc in grind arith
  longer first (second ∷ rest) event next joined last step =
      let parts = both (list_any (leads first second) net.connections)
      (is_ride net (second ∷ rest)) joined in grind (
        arith,
        longer second rest event next parts.1
            last step,
      )

  pub goes_on : (from start : ℤ) (event next : ℕ) → IsReached net from start event
      → list_any (leads event next) net.connections ≡ true → IsReached net from start next
  goes_on from start event next reach step = by reach.ride reach.begin reach.joined reach.end
    where
      by : (ride : List ℕ) → begins net from start ride ≡ true → is_ride net ride ≡ true
          → last_of ride ≡ Some event → IsReached net from start next
      by [] begin joined last = absurd (both_ways false refl begin)
      by (first ∷ rest) begin joined last =
          let more = longer first rest event next joined last step in
          record { ride = first ∷ rest ++ next ∷ []; begin = begin; joined = more.0; end = more.1 }

  module _ (from to start : ℤ) (found : Found) (answer : IsAnswer net from to start found) where
    reached_of : (event : ℕ) → is_in found.reached event ≡ true
        → IsReached net from start event × (is_before net found.journey event ≡ true)
    reached_of event is = (answer.reached.each event).0 (from_in found.reached event is)

    in_reached : (event : ℕ) → IsReached net from start event
        → is_before net found.journey event ≡ true → is_in found.reached event ≡ true
    in_reached event reach early =
        held_in found.reached event ((answer.reached.each event).1 (reach, early))

    no_start : misses_start net from start found ≡ false
    no_start = list_any_none
        (λ event. passes_at (starts from start) net event && is_missed net found event)
        (range_with_len 0 (length net.events))
        (λ k d h. let event = get_or (range_with_len 0 (length net.events)) k d in
        gate (passes_at (starts from start) net event) (is_before net found.journey event)
        (is_in found.reached event) (λ is early. in_reached event
        (record { ride = event ∷ []; begin = is; joined = refl; end = refl }) early))

    no_step : misses_step net found ≡ false
    no_step = list_any_none
        (λ connection. is_in found.reached connection.from && is_missed net found connection.to)
        net.connections
        (λ k d h. let connection = get_or net.connections k d in
        gate (is_in found.reached connection.from) (is_before net found.journey connection.to)
        (is_in found.reached connection.to) (λ is early. in_reached connection.to
        (goes_on from start connection.from connection.to (reached_of connection.from is).0
        (any_passes_from_place (leads connection.from connection.to) net.connections k connection
        (slice_get-get_or net.connections k d h)
        (both_true ((Decides-eqb connection.from connection.from).1 refl)
        ((Decides-eqb connection.to connection.to).1 refl)))) early))

    -- a reached arrival at the stop ends a journey, and so is not before the arrival
    no_end : (event : ℕ) → IsReached net from start event → is_before net found.journey event ≡ true
        → passes_at (arrives_at to) net event ≡ true → ⊥
    no_end event reach early arrives = by found.journey answer.journey early
      where
        journey : is_journey net from to start reach.ride ≡ true
        journey = both_true (both_true reach.begin reach.joined)
            (ap (λ o. option_map_or (passes_at (arrives_at to) net) o false) reach.end ∙ arrives)

        not_later : (end : ℕ) → time_at net event < time_at net end → IsNoLater net end event → ⊥
        not_later end less (inl more) = omega (arith, less, more)
        not_later end less (inr same) = let h = same.0 in omega (arith, less, h)

        by : (list : List ℕ) → IsToldJourney net from to start list → is_before net list event
            ≡ true → ⊥
        by [] told early =
            both_ways (is_journey net from to start reach.ride) (told reach.ride) journey
        by (first ∷ rest) told early =
            let last = last_some first rest in
            let less = ltb-true (time_at net event) (time_at net last.0)
            (ap (λ o. option_map_or (λ end. nat_lt (time_at net event) (time_at net end)) o true)
            (sym last.1)
            ∙ early) in
            not_later last.0 less (told.0.first reach.ride last.0 event journey last.1 reach.end)

    no_arrival : has_arrival net to found ≡ false
    no_arrival = list_any_none (passes_at (arrives_at to) net) found.reached
        (λ k d h. let event = get_or found.reached k d in
        false_from (passes_at (arrives_at to) net event) (λ arrives.
        let reach = (answer.reached.each event).0 (All-contains_itself found.reached k d h) in
        no_end event reach.0 reach.1 arrives))

    -- the journey and the set are in order
    no_stray : (events : List ℕ) → All (λ event. event < length net.events) events
        → is_astray net events ≡ false
    no_stray events all = list_any_none (λ event. not (nat_lt event (length net.events))) events
        (λ k d h. ap not (lt-ltb (get_or events k d) (length net.events) (all k d h)))

    set_there : All (λ event. event < length net.events) found.reached
    set_there = λ k d h. reached_there from start (get_or found.reached k d)
        ((answer.reached.each (get_or found.reached k d)).0
        (All-contains_itself found.reached k d h)).0

    journey_there : All (λ event. event < length net.events) found.journey
    journey_there = grind (arith, both, inside, there)

    is_one : is_no_journey net from to start found.journey ≡ false
    is_one = grind (arith, false_right)

    fine : (is_no_journey net from to start found.journey
        || is_astray net found.journey || is_astray net found.reached
        || not (is_rising found.reached)) ≡ false
    fine = or_from (is_no_journey net from to start found.journey || is_astray net found.journey
        || is_astray net found.reached) (not (is_rising found.reached))
        (or_from (is_no_journey net from to start found.journey || is_astray net found.journey)
        (is_astray net found.reached)
        (or_from (is_no_journey net from to start found.journey)
        (is_astray net found.journey) is_one
        (no_stray found.journey journey_there)) (no_stray found.reached set_there))
        (ap not answer.reached.rising)

pub answers_pass : AnswersPass
unfolding first_broken_rule
answers_pass net from to start found sound answer =
    none_broken (is_no_journey net from to start found.journey
    || is_astray net found.journey || is_astray net found.reached || not (is_rising found.reached))
    (misses_start net from start found) (misses_step net found) (has_arrival net to found)
    (fine net sound.connections from to start found answer)
    (no_start net sound.connections from to start found answer)
    (no_step net sound.connections from to start found answer)
    (no_arrival net sound.connections from to start found answer)

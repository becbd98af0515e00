-- A set of events that breaks no rule proves that no journey arrives earlier.
use Rattle.plan_num.proofs.Common.{◌≡◌, ℕ, ℤ, ◌<◌, ◌≤◌, ◌&&◌, ◌||◌, ◌==◌, nat_lt, nat_eq, not, Bool}
use Rattle.plan_num.proofs.Common.{true, false, List, [], ◌∷◌, ◌++◌, length, get_or, Option, Some}
use Rattle.plan_num.proofs.Common.{None, ap, sym, ◌∙◌, refl, arith, subst, All, IfNone, slice_get}
use Rattle.plan_num.proofs.Common.{list_any, range_with_len, option_map_or, both_ways, ltb-false}
use Rattle.plan_num.proofs.Common.{ltb-true, lt-ltb, true_from_ne_false, Decides-eqb, All-contains}
use Rattle.plan_num.proofs.Common.{Any-from_list_any, get_or-range_with_len, length-range_with_len}
use Rattle.plan_num.proofs.Common.{any_passes_from_place, slice_get_cases, slice_get_read}
use Rattle.std.proofs.lemmas.Bool.{and_parts as both}
use Rattle.connections.specs.declared.connection.Connection.{Connection}
use Rattle.connections.specs.declared.found.Found.{Found}
use Rattle.connections.specs.declared.rule.JourneyRule.{JourneyRule}
use Rattle.connections.specs.declared.rule.JourneyRule.TheVariants as rule
use Rattle.connections.specs.declared.timed_event.TimedEvent.{TimedEvent}
use Rattle.connections.specs.Earliest.{is_before, is_rising}
use Rattle.connections.specs.Nets.{IsConnection, JourneyParts, time_at}
use Rattle.connections.specs.Journeys.{IsReached, arrives_at, begins, ends, is_journey, is_ride, last_of, leads}
use Rattle.connections.specs.Journeys.{passes_at, starts}
use Rattle.connections.specs.Judged.{NoneEarlier, broken_where, first_broken_rule, has_arrival, is_astray, is_in}
use Rattle.connections.specs.Judged.{is_no_journey, misses_start, misses_step}
use Rattle.connections.specs.Laws.{PassingProves}

-- where no rule is broken, none of four tests passes
record NoneOf (a b c d : Bool) : Type 0 where
  one : a ≡ false
  two : b ≡ false
  three : c ≡ false
  four : d ≡ false

none_of : (a b c d : Bool) → slice_get (broken_where a rule.Journey ++ broken_where b rule.Start
    ++ broken_where c rule.Step ++ broken_where d rule.Early) 0 ≡ None → NoneOf a b c d
none_of false false false false h = record { one = refl; two = refl; three = refl; four = refl }
none_of true b c d h = cc
none_of false true c d h = cc
none_of false false true d h = cc
none_of false false false true h = cc

-- a test that no item of a list passes
no_item : {X : Type 0} (test : X → Bool) (xs : List X) (place : ℕ) (x : X) → list_any test xs
    ≡ false
    → slice_get xs place ≡ Some x → test x ≡ true → ⊥
no_item test xs place x none is passes =
    both_ways (list_any test xs) none (any_passes_from_place test xs place x is passes)

module _ (net : JourneyParts) (sound : All (IsConnection net) net.connections) where
  -- a connection that leads from one event to another
  pub record Way (event next : ℕ) : Type 0 where
    pub place : ℕ
    pub connection : Connection
    pub is : slice_get net.connections place ≡ Some connection
    pub from : connection.from ≡ event
    pub to : connection.to ≡ next
    pub in_time : time_at net event ≤ time_at net next
    pub inside : next < length net.events

  pub way : (event next : ℕ) → list_any (leads event next) net.connections ≡ true → Way event next
  way event next some =
      let any = Any-from_list_any (leads event next) net.connections some in
      let parts = both (any.1.from == event) (any.1.to == next) any.4 in
      let from = (Decides-eqb any.1.from event).0 parts.0 in
      let to = (Decides-eqb any.1.to next).0 parts.1 in
      let there : IsConnection net any.1 =
      All-contains (IsConnection net) net.connections any.1 sound (any.0, any.2, any.3) in
      record {
        place = any.0;
        connection = any.1;
        is = slice_get_read net.connections (length net.connections) any.0 any.1 refl any.2
            (sym any.3);
        from = from;
        to = to;
        in_time = subst (λ e. time_at net e ≤ time_at net next) from
            (subst (λ e. time_at net any.1.from ≤ time_at net e) to there.in_time);
        inside = subst (λ e. e < length net.events) to there.to;
      }

  -- no event of a ride is later than its last one
  rises : (event : ℕ) (rest : List ℕ) (end : ℕ) → is_ride net (event ∷ rest) ≡ true
      → last_of (event ∷ rest) ≡ Some end → time_at net event ≤ time_at net end
  rises event [] end joined last = let same : event ≡ end = cc in rw same (omega arith)
  rises event (next ∷ rest) end joined last =
      let parts =
      both (list_any (leads event next) net.connections) (is_ride net (next ∷ rest)) joined in
      let step = (way event next parts.0).in_time in
      let more = rises next rest end parts.1 last in
      omega (arith, step, more)

  module _ (journey reached : List ℕ) where
    abbrev answer : Found
    answer = record { journey = journey; reached = reached }

    -- an event no later than one before the arrival is before it too
    before : (event other : ℕ) → time_at net event ≤ time_at net other
        → is_before net journey other ≡ true → is_before net journey event ≡ true
    before event other no_later is = grind (arith, nat_lt, ltb-true, lt-ltb, no_later)

    module _ (closed : misses_step net answer ≡ false) where
      -- a connection leads on within the set
      leads_on : (event next : ℕ) → Way event next → is_in reached event ≡ true
          → is_before net journey next ≡ true → is_in reached next ≡ true
      leads_on event next step there early = grind (arith, true_from_ne_false, no_item, there)

      -- a ride from the set to an event before the arrival stays in it
      stays : (event : ℕ) (rest : List ℕ) (end : ℕ) → is_in reached event ≡ true
          → is_ride net (event ∷ rest) ≡ true → last_of (event ∷ rest) ≡ Some end
          → is_before net journey end ≡ true → is_in reached end ≡ true
      stays event [] end there joined last early =
          let same : event ≡ end = cc in subst (λ e. is_in reached e ≡ true) same there
      stays event (next ∷ rest) end there joined last early =
          let parts =
          both (list_any (leads event next) net.connections) (is_ride net (next ∷ rest)) joined in
          let sooner = before next end (rises next rest end parts.1 last) early in
          stays next rest end
          (leads_on event next (way event next parts.0) there sooner) parts.1 last
          early

-- the event at an index that passes a test is there
pub there : (test : TimedEvent → Bool) (net : JourneyParts) (event : ℕ)
    → passes_at test net event ≡ true → event < length net.events
there test net event passes = grind (arith, slice_get_cases, get_or, both_ways)

-- a journey has a last event
pub last_some : (event : ℕ) (rest : List ℕ) → (end : ℕ) × (last_of (event ∷ rest) ≡ Some end)
last_some event [] = (event, refl)
last_some event (next ∷ rest) = last_some next rest

pub ends_with : (net : JourneyParts) (from to start : ℤ) (journey : List ℕ)
    → is_journey net from to start journey ≡ true → (end : ℕ) × (last_of journey ≡ Some end)
ends_with net from to start [] is = absurd (both_ways false refl is)
ends_with net from to start (event ∷ rest) is = last_some event rest

-- the place of a number in a range from 0
at_range : (place size : ℕ) → place < size → slice_get (range_with_len 0 size) place ≡ Some place
at_range place size inside =
    slice_get_read (range_with_len 0 size) size place place
    (sym (length-range_with_len 0 size)) inside
    (let h = get_or-range_with_len 0 size place place inside in omega (arith, h))

no_later : (is : Bool) (time other : ℕ) → nat_lt time other ≡ is → (is ≡ true → ⊥) → other ≤ time
no_later true time other same not_true = absurd (not_true refl)
no_later false time other same not_true = ltb-false time other same

module _ (net : JourneyParts) (sound : All (IsConnection net) net.connections)
    (from to start : ℤ) (journey reached : List ℕ)
    (misses_none : misses_start net from start (answer net sound journey reached) ≡ false)
    (closed : misses_step net (answer net sound journey reached) ≡ false)
    (no_arrival : has_arrival net to (answer net sound journey reached) ≡ false) where
  -- a start before the arrival is in the set
  starts_in : (event : ℕ) → passes_at (starts from start) net event ≡ true
      → is_before net journey event ≡ true → is_in reached event ≡ true
  starts_in event is early = true_from_ne_false (is_in reached event) (λ out.
      no_item (λ event. passes_at (starts from start) net event
      && (is_before net journey event && not (is_in reached event)))
      (range_with_len 0 (length net.events)) event event misses_none
      (at_range event (length net.events) (there (starts from start) net event is))
      (rw (is, early, out) refl))

  -- an event before the arrival that can be reached is in the set
  reached_in : (event : ℕ) → IsReached net from start event → is_before net journey event ≡ true
      → is_in reached event ≡ true
  reached_in event reach early = by reach.ride reach.begin reach.joined reach.end
    where
      by : (ride : List ℕ) → begins net from start ride ≡ true → is_ride net ride ≡ true
          → last_of ride ≡ Some event → is_in reached event ≡ true
      by [] begin joined last = absurd (both_ways false refl begin)
      by (first ∷ rest) begin joined last =
          stays net sound journey reached closed first rest event
          (starts_in first begin (before net sound journey reached first event
          (rises net sound first rest event joined last) early)) joined last early

  -- no journey ends before the arrival
  none_before : (other : List ℕ) (end : ℕ) → is_journey net from to start other ≡ true
      → last_of other ≡ Some end → is_before net journey end ≡ true → ⊥
  none_before other end is last early =
      let front = both (begins net from start other && is_ride net other) (ends net to other) is in
      let parts = both (begins net from start other) (is_ride net other) front.0 in
      let held = reached_in end
      (record { ride = other; begin = parts.0; joined = parts.1; end = last }) early in
      let arrives : passes_at (arrives_at to) net end ≡ true =
      ap (λ o. option_map_or (passes_at (arrives_at to) net) o false) (sym last) ∙ front.1 in
      let any = Any-from_list_any (nat_eq end) reached held in
      let same : end ≡ any.1 = (Decides-eqb end any.1).0 any.4 in
      no_item (passes_at (arrives_at to) net) reached any.0 any.1 no_arrival
      (slice_get_read reached (length reached) any.0 any.1 refl any.2 (sym any.3))
      (subst (λ e. passes_at (arrives_at to) net e ≡ true) same arrives)

  none_earlier : NoneEarlier net from to start journey
  none_earlier = by journey refl
    where
      by : (list : List ℕ) → journey ≡ list → NoneEarlier net from to start list
      by [] same = λ other is. let last = ends_with net from to start other is in
          none_before other last.0 is last.1 (ap (λ list. is_before net list last.0) same)
      by (event ∷ more) same = λ other end other_end is last other_last.
          no_later (nat_lt (time_at net other_end) (time_at net end)) (time_at net other_end)
          (time_at net end) refl
          (λ early. none_before other other_end is other_last
          (ap (λ list. is_before net list other_end) same
          ∙ ap (λ o. option_map_or (λ end. nat_lt (time_at net other_end) (time_at net end)) o true)
          last ∙ early))

-- the same of connections that are sound, by whatever tells the first rule that is broken
pub proves_by : (net : JourneyParts) (from to start : ℤ) (found : Found)
    → All (IsConnection net) net.connections → (told : Option JourneyRule)
    → told ≡ first_broken_rule net from to start found
    → IfNone told (NoneEarlier net from to start found.journey)
unfolding first_broken_rule
proves_by net from to start found sound (Some rule) same = tt
proves_by net from to start found sound None same =
    let none = none_of (is_no_journey net from to start found.journey
    || is_astray net found.journey || is_astray net found.reached
    || not (is_rising found.reached))
    (misses_start net from start found) (misses_step net found) (has_arrival net to found)
    (sym same) in
    none_earlier net sound from to start found.journey found.reached none.two none.three none.four

pub passing_proves : PassingProves
passing_proves net from to start found sound passes =
    by (first_broken_rule net from to start found) refl passes
  where
    by : (told : Option JourneyRule) → told ≡ first_broken_rule net from to start found → told
        ≡ None
        → NoneEarlier net from to start found.journey
    by told same none = subst (λ o. IfNone o (NoneEarlier net from to start found.journey)) none
        (proves_by net from to start found sound.connections told same)

-- What is found along the ways is the answer.
use Rattle.plan_num.proofs.Common.{◌≡◌, ◌∙◌, ℕ, ℤ, ◌<◌, ◌&&◌, ◌==◌, Bool, true, false, List, []}
use Rattle.plan_num.proofs.Common.{◌∷◌, length, get_or, All, Option, Some, None, refl, ap, sym}
use Rattle.plan_num.proofs.Common.{subst, arith, list_any, option_map_or, and_from, and_parts}
use Rattle.plan_num.proofs.Common.{both_ways, leb-true, false_from_ne_true, Decides-eqb, All-tail}
use Rattle.plan_num.proofs.Common.{any_passes_from_place, same_Some}
use Rattle.std.proofs.lemmas.Bool.{and_parts as both}
use Rattle.connections.specs.declared.connection.Connection.{Connection}
use Rattle.connections.specs.declared.found.Found.{Found}
use Rattle.connections.specs.declared.way.Way.{Way}
use Rattle.connections.specs.declared.way.Way.TheVariants as way
use Rattle.connections.specs.Earliest.{AreReached, IsAnswer, IsFirstWay, IsNoLater, IsToldJourney}
use Rattle.connections.specs.Ends.{AreLed, IsFirstEnd, IsJourneyTo, IsStep, is_before_end, is_end}
use Rattle.connections.specs.Ends.{reached_before}
use Rattle.connections.specs.Nets.{IsConnection, IsNet, JourneyParts}
use Rattle.connections.specs.Journeys.{IsReached, arrives_at, begins, ends, is_journey, is_ride, last_of, leads}
use Rattle.connections.specs.Journeys.{neighbours, passes_at, starts}
use Rattle.connections.specs.Judged.{NoneEarlier, first_broken_rule}
use Rattle.connections.specs.Ways.{AreWays, IsBy, IsWay, is_by, is_reached, way_at}
use Rattle.connections.proofs.FilteredRanges.{filter_rises, in_filter}
use Rattle.connections.proofs.Answers.{answers_pass}
use Rattle.connections.proofs.Passing.{ends_with, passing_proves, way}
use Rattle.connections.proofs.WayBack.{reached_inside}
use Rattle.connections.proofs.WaysAlong.{by_reached, reached_by_way}

module _ (net : JourneyParts) (sound : All (IsConnection net) net.connections) (from start : ℤ)
    (ways : List Way) (are : AreWays net from start ways) where
  -- ---- the ways lead into the events that can be reached, and into no others

  leads_out : (event : ℕ) → is_reached (way_at ways event) ≡ true → IsReached net from start event
  leads_out event is =
      reached_by_way net sound from start event (way_at ways event) (are.lead event) is

  start_found : (event : ℕ) → passes_at (starts from start) net event ≡ true
      → is_reached (way_at ways event) ≡ true
  start_found event is = grind (arith, way, both_ways)

  ride_found : (event : ℕ) (rest : List ℕ) (end : ℕ) → is_reached (way_at ways event) ≡ true
      → is_ride net (event ∷ rest) ≡ true → last_of (event ∷ rest) ≡ Some end
      → is_reached (way_at ways end) ≡ true
  ride_found event [] end there joined last =
      let same : event ≡ end = cc in subst (λ e. is_reached (way_at ways e) ≡ true) same there
  ride_found event (next ∷ rest) end there joined last =
      let parts =
      both (list_any (leads event next) net.connections) (is_ride net (next ∷ rest)) joined in
      let step = way net sound event next parts.0 in
      let by = are.closed step.place step.connection step.is
      (subst (λ e. is_reached (way_at ways e) ≡ true) (sym step.from) there) in
      ride_found next rest end
      (subst (λ e. is_reached (way_at ways e) ≡ true) step.to
      (by_reached (way_at ways step.connection.to) step.place by)) parts.1 last

  leads_in : (event : ℕ) → IsReached net from start event → is_reached (way_at ways event) ≡ true
  leads_in event reach = by reach.ride reach.begin reach.joined reach.end
    where
      by : (ride : List ℕ) → begins net from start ride ≡ true → is_ride net ride ≡ true
          → last_of ride ≡ Some event → is_reached (way_at ways event) ≡ true
      by [] begin joined last = absurd (both_ways false refl begin)
      by (first ∷ rest) begin joined last =
          ride_found first rest event (start_found first begin) joined last

  -- each way by a connection is by one that leads from an event that can be reached
  pub all_led : AreLed net.connections ways
  all_led event = grind (arith, way, leads_in)

  module _ (to : ℤ) where
    -- the end of a journey is such an end
    is_end_of : (journey : List ℕ) (end : ℕ) → is_journey net from to start journey ≡ true
        → last_of journey ≡ Some end → is_end net ways to end ≡ true
    is_end_of journey end is last =
        let front =
        both (begins net from start journey && is_ride net journey) (ends net to journey) is in
        grind (arith, both, and_from, leads_in)

    end_inside : (end : ℕ) → is_end net ways to end ≡ true → end < length ways
    end_inside end is = reached_inside ways end
        (and_parts (passes_at (arrives_at to) net end) (is_reached (way_at ways end)) is).1

    none_told : IsFirstEnd net ways to (length ways) None → IsToldJourney net from to start []
    none_told none other = false_from_ne_true (is_journey net from to start other) (λ same.
        let last = ends_with net from to start other same in grind (
          arith,
          is_end_of,
          both_ways,
          end_inside,
        ))

    module _ (end : ℕ) (told : IsFirstEnd net ways to (length ways) (Some end))
        (first : ℕ) (rest : List ℕ) (begin : way_at ways first ≡ way.Start)
        (last : last_of (first ∷ rest) ≡ Some end)
        (steps : All (λ pair. IsStep net.connections ways pair.0 pair.1)
        (neighbours (first ∷ rest)))
      where
        is_start : passes_at (starts from start) net first ≡ true
        is_start = subst (IsWay net from start first) begin (are.lead first)

        rides : (event : ℕ) (more : List ℕ)
            → All (λ pair. IsStep net.connections ways pair.0 pair.1) (neighbours (event ∷ more))
            → is_ride net (event ∷ more) ≡ true
        rides event [] all = refl
        rides event (next ∷ more) all =
            let step : IsStep net.connections ways event next = all 0 (event, next) (omega arith) in
            and_from (list_any (leads event next) net.connections) (is_ride net (next ∷ more))
            (any_passes_from_place (leads event next) net.connections step.0
            (record { from = event; to = next }) step.2
            (and_from (event == event) (next == next) ((Decides-eqb event event).1 refl)
            ((Decides-eqb next next).1 refl)))
            (rides next more
            (All-tail (λ (pair : ℕ × ℕ). IsStep net.connections ways pair.0 pair.1) (event, next)
            (neighbours (next ∷ more)) all))

        arrives : passes_at (arrives_at to) net end ≡ true
        arrives = (and_parts (passes_at (arrives_at to) net end)
            (is_reached (way_at ways end)) told.1).0

        is_one : is_journey net from to start (first ∷ rest) ≡ true
        is_one =
            and_from (begins net from start (first ∷ rest) && is_ride net (first ∷ rest))
            (ends net to (first ∷ rest))
            (and_from (begins net from start (first ∷ rest)) (is_ride net (first ∷ rest)) is_start
            (rides first rest steps))
            (ap (λ o. option_map_or (passes_at (arrives_at to) net) o false) last ∙ arrives)

        no_later : (other : List ℕ) (own_end other_end : ℕ) → is_journey net from to start other
            ≡ true
            → last_of (first ∷ rest) ≡ Some own_end → last_of other ≡ Some other_end
            → IsNoLater net own_end other_end
        no_later other own_end other_end is own other_last =
            let same : end ≡ own_end = let h = sym last ∙ own in cc in
            let ends = is_end_of other other_end is other_last in
            subst (λ e. IsNoLater net e other_end) same
            (told.2 other_end (end_inside other_end ends) ends)

        first_way : (event next : ℕ) → IsStep net.connections ways event next
            → (passes_at (starts from start) net next ≡ false)
            × IsFirstWay net from start event next
        first_way event next step =
            let known : IsBy net from start next step.0
            = subst (IsWay net from start next) step.1 (are.lead next) in
            let same : known.tail ≡ event = ap (λ (at : Connection). at.from)
            (same_Some (record { from = known.tail; to = next })
            (record { from = event; to = next })
            (sym known.is ∙ step.2)) in (
              known.no_start,
              record {
                place = step.0;
                is = step.2;
                reached = subst (IsReached net from start) same known.reached;
                least = λ other connection low there leads_to reached.
                    let by = are.closed other connection there (leads_in connection.from reached) in
                    let sooner = leb-true step.0 other
                    (sym (ap (is_by other) (ap (way_at ways) leads_to ∙ step.1)) ∙ by) in
                    omega (arith, low, sooner);
              },
            )

        some_told : IsToldJourney net from to start (first ∷ rest)
        some_told = (
          record { is = is_one; first = no_later },
          λ k d inside. first_way (get_or (neighbours (first ∷ rest)) k d).0
              (get_or (neighbours (first ∷ rest)) k d).1 (steps k d inside),
        )

    told_journey : (end : Option ℕ) → IsFirstEnd net ways to (length ways) end → (journey : List ℕ)
        → IsJourneyTo net.connections ways end journey → IsToldJourney net from to start journey
    told_journey None told journey is =
        subst (IsToldJourney net from to start) (sym is) (none_told told)
    told_journey (Some end) told journey back =
        subst (IsToldJourney net from to start) (sym back.is)
        (some_told end told back.first back.rest back.start back.end back.steps)

    -- the end is the last event of the journey
    last_is : (end : Option ℕ) (journey : List ℕ) → IsJourneyTo net.connections ways end journey
        → last_of journey ≡ end
    last_is None journey is = ap last_of is
    last_is (Some end) journey back = ap last_of back.is ∙ back.end

    set_told : (end : Option ℕ) (journey : List ℕ) → last_of journey ≡ end
        → AreReached net from start journey (reached_before net ways end)
    set_told end journey last = record {
      rising = filter_rises test (length ways);
      each = λ event. (
        λ held. let is = in_filter test (length ways) event in
            let parts = and_parts (is_reached (way_at ways event)) (is_before_end net end event)
            (is.0 held).1 in
            (leads_out event parts.0, ap (λ o. is_before_end net o event) last ∙ parts.1),
        λ both. let is = in_filter test (length ways) event in
            let there = leads_in event both.0 in
            is.1 (
              reached_inside ways event there,
              and_from (is_reached (way_at ways event)) (is_before_end net end event) there
                  (ap (λ o. is_before_end net o event) (sym last) ∙ both.1),
            ),
      );
    }
      where
        test : ℕ → Bool
        test event = is_reached (way_at ways event) && is_before_end net end event

    pub is_answer : (end : Option ℕ) → IsFirstEnd net ways to (length ways) end
        → (journey reached : List ℕ) → IsJourneyTo net.connections ways end journey
        → reached ≡ reached_before net ways end
        → IsAnswer net from to start (record { journey = journey; reached = reached })
    is_answer end told journey reached is set = record {
      journey = told_journey end told journey is;
      reached = subst (AreReached net from start journey) (sym set)
          (set_told end journey (last_is end journey is));
    }

-- ---- what is told of it

-- what is promised of what is found
pub record IsPromised (net : JourneyParts) (from to start : ℤ) (told : Found) : Type 0 where
  pub found : IsAnswer net from to start told
  pub none_earlier : NoneEarlier net from to start told.journey
  pub passes : first_broken_rule net from to start told ≡ None

pub promised : (net : JourneyParts) → IsNet net → (from to start : ℤ) (told : Found)
    → IsAnswer net from to start told → IsPromised net from to start told
promised net sound from to start told answer =
    let passes = answers_pass net from to start told sound answer in grind (arith, passing_proves)

-- The net of the rows of a day.
use Rattle.plan_num.proofs.Common.{◌≡◌, ◌∙◌, ℕ, ◌+◌, ◌<◌, ◌≤◌, true, not, List, [], length, filter}
use Rattle.plan_num.proofs.Common.{get_or, map, zip, All, refl, ap, sym, subst, arith}
use Rattle.plan_num.proofs.Common.{range_with_len, leb-true, get_or-map, length-map, All-filter}
use Rattle.plan_num.proofs.Common.{All-map, filter_passes, length-filter_both}
use Rattle.plan_num.proofs.Common.{get_or-range_with_len, length-range_with_len, get_or-zip}
use Rattle.plan_num.proofs.Common.{length-zip}
use Rattle.connections.specs.declared.event_kind.EventKind.TheVariants as kind
use Rattle.event_tables.specs.declared.expanded_activity.ExpandedActivity.{ExpandedActivity}
use Rattle.event_tables.specs.declared.expanded_event.ExpandedEvent.{ExpandedEvent}
use Rattle.event_tables.proofs.Common.{expanded_event, AreExpandedActivities, AreExpandedEvents}
use Rattle.event_tables.proofs.Common.{IsExpandedActivity, forward_rank, at_places, rank_rises}
use Rattle.connections.specs.declared.connection.Connection.{Connection}
use Rattle.connections.specs.declared.timed_event.TimedEvent.{TimedEvent}
use Rattle.connections.specs.Nets.{IsConnection, JourneyParts, time_at}
use Rattle.journeys.specs.JourneyNets.{connection_of, index_of, is_usable, net_over, timed}
use Rattle.connections.specs.RankedNets.{IsRanked, rank_at}
use Rattle.connections.specs.declared.checked_net.TheConstants.{LATEST}

module _ (events : List ExpandedEvent) (activities : List ExpandedActivity) (times : List ℕ)
    (are : AreExpandedEvents events) (rows : AreExpandedActivities events activities)
    (each : length times ≡ length events)
    (soon : All (λ time. time ≤ LATEST) times) where
  abbrev net : JourneyParts
  net = net_over events times activities

  abbrev usable : List ExpandedActivity
  usable = filter (is_usable times) activities

  count : length net.events ≡ length events
  count = length-map (zip events times) timed
      ∙ (let long = length-zip events times in omega (arith, long, each))

  time_is : (event : ℕ) → event < length events → time_at net event ≡ get_or times event 0
  time_is event inside =
      ap (λ (at : TimedEvent). at.time)
      (get_or-map timed (zip events times) event (expanded_event [], 0)
      (record { kind = kind.Departure; stop = 0; time = 0 })
      (let long = length-zip events times in omega (arith, inside, long, each))
      ∙ ap timed (get_or-zip events times event (expanded_event [], 0) inside
      (omega (arith, inside, each))))

  -- what holds of the activities that can be used holds of the connections
  of_usable : (P : Connection → Type 0)
      → ((row : ExpandedActivity) → IsExpandedActivity events row → is_usable times row ≡ true
      → P (connection_of row)) → All P net.connections
  of_usable P all =
      All-map P connection_of usable
      (λ k d inside. all (get_or usable k d)
      (All-filter (is_usable times) (IsExpandedActivity events) activities rows.each k d inside)
      (filter_passes (is_usable times) activities k d inside))

  sound : All (IsConnection net) net.connections
  sound = of_usable (IsConnection net) (λ row is can.
      let from : index_of row.from < length events = omega (arith, is.from.0, is.from.1) in grind
      (arith, leb-true, get_or, time_is, count))

  forward : All
      (λ connection. forward_rank events connection.from < forward_rank events connection.to)
      net.connections
  forward = of_usable
      (λ connection. forward_rank events connection.from < forward_rank events connection.to)
      (λ row is can. rank_rises events (index_of row.from) (index_of row.to) are.numbered are.few
      (omega (arith, is.from.0, is.from.1)) (omega (arith, is.to.0, is.to.1))
      (at_places events row.from row.to are.numbered is.from is.to is.forward))

  -- the connections are no more than the activities
  few_connections : length net.connections ≤ 500000
  few_connections =
      let long = length-map usable connection_of in
      let both = length-filter_both (is_usable times) (λ row. not (is_usable times row))
      (λ row. refl)
      activities in
      let most = rows.few in
      omega (arith, long, both, most)

  -- with the ranks of all events they are a net
  module _ (ranks : List ℕ)
      (told : ranks ≡ map (forward_rank events) (range_with_len 0 (length events))) where
    rank_is : (event : ℕ) → event < length events → rank_at ranks event ≡ forward_rank events event
    rank_is event inside =
        let place : 0 + event ≡ event = omega arith in
        ap (λ all. get_or all event 0) told
        ∙ get_or-map (forward_rank events) (range_with_len 0 (length events)) event 0 0
        (let long = length-range_with_len 0 (length events) in omega (arith, inside, long))
        ∙ ap (forward_rank events)
        (get_or-range_with_len 0 (length events) event 0 inside ∙ place)

    rises : (connection : Connection) → IsConnection net connection
        → forward_rank events connection.from < forward_rank events connection.to
        → rank_at ranks connection.from < rank_at ranks connection.to
    rises connection is less = grind (arith, rank_is, count)

    pub rows_ranked : IsRanked net ranks
    rows_ranked = record {
      few = (let long = count in let most = are.few in omega (arith, long, most));
      few_connections = few_connections;
      soon = All-map (λ (event : TimedEvent). event.time ≤ LATEST) timed
          (zip events times)
          (λ k d inside.
          let long = length-zip events times in
          let low : k < length events = omega (arith, inside, long, each) in
          let here : k < length times = omega (arith, low, each) in
          subst (λ (at : ExpandedEvent × ℕ). at.1 ≤ LATEST)
          (sym (get_or-zip events times k d low here)) (soon k d.1 here));
      connections = sound;
      each = ap length told
          ∙ length-map (range_with_len 0 (length events)) (forward_rank events)
          ∙ length-range_with_len 0 (length events) ∙ sym count;
      forward = λ k d inside.
          rises (get_or net.connections k d) (sound k d inside) (forward k d inside);
    }

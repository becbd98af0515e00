-- The events and activities of a line concept keep the rules of runs, and each drive goes over an
-- edge.
use Rattle.plan_num.proofs.Common.{◌≡◌, ℕ, zero, suc, ◌+◌, ◌==◌, ◌%◌, ◌<◌, arith, Bool, ◌&&◌, true}
use Rattle.plan_num.proofs.Common.{false, not, Contains, List, [], ◌∷◌, length, get_or}
use Rattle.plan_num.proofs.Common.{unsigned_abs, refl, ap, subst, sym, ◌∙◌, eq-eqb, eqb-true}
use Rattle.plan_num.proofs.Common.{ne_eqb, and_parts, not-true, MatchBool-at_true, All-weaker}
use Rattle.plan_num.proofs.Common.{All-contains}
use Rattle.giv_files.specs.declared.setting.Setting.{Setting}
use Rattle.event_tables.specs.declared.periodic_activity.PeriodicActivity.{PeriodicActivity}
use Rattle.event_tables.specs.declared.periodic_event.PeriodicEvent.{PeriodicEvent}
use Rattle.event_tables.specs.declared.periodic_kind.PeriodicKind.{PeriodicKind}
use Rattle.event_tables.proofs.Common.{periodic_event, is_arrival, event_kind_at, is_next, joins}
use Rattle.event_tables.proofs.Common.{same_run, lacks_way, goes_between, is_placed, drives_at_once}
use Rattle.event_tables.proofs.Common.{is_stray, KeepRunRules}
use Rattle.event_tables.specs.declared.periodic_kind.PeriodicKind.TheVariants as kinds
use Rattle.line_walks.specs.Pools.{LineParts}
use Rattle.walks.proofs.Common.{NetworkParts, IsEdge}
use Rattle.plan_num.proofs.Members.{Contains-map as contains_map}
use Rattle.event_activity.specs.declared.run_event.RunEvent.{RunEvent}
use Rattle.event_activity.specs.Activities.{bounds_from, concept_activities}
use Rattle.event_activity.specs.ActivitiesOfRuns.{joins_events, bounds_of, IsActivityOf, IsDriveOver}
use Rattle.event_activity.specs.EanStage.{rows_of}
use Rattle.event_activity.specs.EventsOfRuns.{IsEventOf}
use Rattle.event_activity.specs.Fitting.{drive_bounds}
use Rattle.event_activity.specs.Runs.{AreServed, no_edge, concept_events}
use Rattle.event_activity.proofs.InTurn.{InTurn, BeginsRun, IsOfPlace, Onward, Follows, EndsRun, kinds_of}
use Rattle.event_activity.proofs.LinesInTurn.{events_turn, events_begin}
use Rattle.plan_num.proofs.Members.{any_of, none_pass}
use Rattle.event_activity.proofs.OneWay.{id_at, one_way}
use Rattle.event_activity.proofs.PlainActivities.{activities_sound}
use Rattle.event_activity.proofs.PlainEvents.{events_are, edge_there}
use Rattle.event_activity.proofs.RunsWhole.{Agree, runs_whole, runs_joined}
use Rattle.event_activity.proofs.StopsOfRuns.{unsigned_some}

none : RunEvent
none = record {
  row = periodic_event [];
  place = 0;
  edge = no_edge;
  frequency = 0;
}

-- neighbours by their places
agree_at : (network : NetworkParts) (test : PeriodicEvent × PeriodicEvent → Bool) (d : RunEvent)
    (events : List RunEvent) → ((i : ℕ) → suc i < length events
    → same_run (get_or events i d).row (get_or events (suc i) d).row ≡ true
    → test ((get_or events i d).row, (get_or events (suc i) d).row) ≡ false)
    → Agree network test events
agree_at network test d [] each = tt
agree_at network test d (event ∷ []) each = tt
agree_at network test d (event ∷ next ∷ events) each = (
  each 0 (omega arith),
  agree_at network test d (next ∷ events) (λ i h. each (suc i) (omega (arith, h))),
)

follows_at : (network : NetworkParts) (c d : RunEvent) (events : List RunEvent) (i : ℕ)
    → InTurn network events → suc i < length events
    → Follows network (get_or events i c) (get_or events (suc i) d)
follows_at network c d [] i turn h = absurd (omega (arith, h))
follows_at network c d (event ∷ []) i turn h = absurd (omega (arith, h))
follows_at network c d (event ∷ next ∷ events) zero turn h = turn.1
follows_at network c d (event ∷ next ∷ events) (suc i) turn h =
    follows_at network c d (next ∷ events) i turn.2 (omega (arith, h))

departs_even : (n : ℕ) → n < 2 → is_arrival (event_kind_at n) ≡ false → n ≡ 0
departs_even zero h is = refl
departs_even (suc zero) h is = absurd (cc)
departs_even (suc (suc n)) h is = absurd (omega (arith, h))

-- a kind joins the rows of the events that it joins
joins_rows : (settings : List Setting) (kind : PeriodicKind) (event next : RunEvent)
    → IsOfPlace event → IsOfPlace next → joins_events settings kind event next ≡ true
    → joins kind event.row next.row ≡ true
joins_rows settings kinds.Drive event next own other is = is
joins_rows settings kinds.Wait event next own other is = is
joins_rows settings kinds.Change event next own other is = is
joins_rows settings kinds.Headway event next own other is = grind arith
joins_rows settings kinds.Sync event next own other is = grind arith

module _ (network : NetworkParts) (lines : List LineParts) (served : AreServed network lines)
    (settings : List Setting) where
  abbrev events : List RunEvent
  events = concept_events network lines

  abbrev activities : List PeriodicActivity
  activities = concept_activities settings events

  edge_of : (event : RunEvent) → Contains events event → Contains network.edges event.edge
  edge_of event there =
      edge_there network lines served event
      (All-contains (IsEventOf network lines) events event (events_are network lines).sound there)

  of_place : (event : RunEvent) → Contains events event → IsOfPlace event
  of_place event there = grind (arith, All-contains, IsOfPlace, kinds_of, events_turn)

  placed_one : (activity : PeriodicActivity) → IsActivityOf settings events activity
      → is_placed (rows_of events) activity ≡ true
  placed_one activity is =
      let row = λ (event : RunEvent). event.row in
      any_of _ (rows_of events) is.event.row (contains_map row events is.event is.there)
      (any_of (goes_between activity is.event.row) (rows_of events) is.next.row
      (contains_map row events is.next is.also)
      (rw (
        eq-eqb activity.from is.event.row.id is.from,
        eq-eqb activity.to is.next.row.id is.to,
        joins_rows settings activity.kind is.event is.next (of_place is.event is.there)
            (of_place is.next is.also) is.joins,
      ) refl))

  -- a drive has the bounds of the edge of the event from which it goes
  drive_has : (activity : PeriodicActivity) (is : IsActivityOf settings events activity)
      → activity.kind ≡ kinds.Drive → bounds_of activity ≡ drive_bounds is.event.edge
  drive_has activity is drives =
      subst (λ kind. bounds_of activity ≡ bounds_from settings kind is.event) drives is.bounds

  takes_time : (kind : PeriodicKind) (activity : PeriodicActivity)
      → IsActivityOf settings events activity → activity.kind ≡ kind
      → drives_at_once activity ≡ false
  takes_time kinds.Drive activity is drives =
      let bounds = drive_has activity is drives in
      let lower : activity.lower ≡ unsigned_abs is.event.edge.lower =
      ap (λ some. some.lower) bounds in
      let edge = All-contains (IsEdge (length network.stops)) network.edges is.event.edge
      served.network_is.edges (edge_of is.event is.there) in
      let some = unsigned_some is.event.edge.lower edge.some_time in
      rw (drives, ne_eqb activity.lower 0 (λ e. omega (arith, e, lower, some))) refl
  takes_time kinds.Wait activity is other = rw other refl
  takes_time kinds.Change activity is other = rw other refl
  takes_time kinds.Sync activity is other = rw other refl
  takes_time kinds.Headway activity is other = rw other refl

  -- the three rules of runs are kept
  pub rules_kept : KeepRunRules (rows_of events) activities
  rules_kept =
      let turn = events_turn network lines served in
      let agree = agree_at network (lacks_way activities) none events
      (one_way settings events (events_are network lines).numbered none) in
      record {
        whole = runs_whole network (lacks_way activities) events turn
            (events_begin network lines) agree;
        joined = runs_joined network (lacks_way activities) events turn agree;
        placed = none_pass (is_stray (rows_of events)) activities
            (All-weaker (IsActivityOf settings events)
            (λ activity. is_stray (rows_of events) activity ≡ false)
            (λ activity is.
            rw (placed_one activity is, takes_time activity.kind activity is refl) refl)
            activities (activities_sound settings events));
      }

  -- each drive goes over an edge of the network
  pub drive_over : (activity : PeriodicActivity) → IsActivityOf settings events activity
      → activity.kind ≡ kinds.Drive → IsDriveOver network events activity
  drive_over activity is drives =
      let event = is.event in
      let next = is.next in
      let numbered = (events_are network lines).numbered in
      let joined : (not (is_arrival event.row.kind) && is_next event.row next.row) ≡ true =
      subst (λ kind. joins_events settings kind event next ≡ true) drives is.joins in
      let parts = and_parts (not (is_arrival event.row.kind)) (is_next event.row next.row) joined in
      let one = and_parts (same_run event.row next.row) (next.row.id == event.row.id + 1) parts.1 in
      let behind : next.row.id ≡ event.row.id + 1 = eqb-true _ _ one.1 in
      let at = is.there.0 in
      let first : event.row.id ≡ 1 + at =
      ap (λ (some : RunEvent). some.row.id) (sym is.there.2)
      ∙ id_at settings events numbered event at is.there.1 in
      let second : next.row.id ≡ 1 + is.also.0 =
      ap (λ (some : RunEvent). some.row.id) (sym is.also.2)
      ∙ id_at settings events numbered next is.also.0 is.also.1 in
      let place : is.also.0 ≡ suc at = omega (arith, behind, first, second) in
      let inside : suc at < length events = subst (λ k. k < length events) place is.also.1 in
      let follows : Follows network event next =
      subst (λ some. Follows network some next) is.there.2
      (subst (Follows network (get_or events at event))
      (ap (λ k. get_or events k next) (sym place) ∙ is.also.2)
      (follows_at network event next events at (events_turn network lines served) inside)) in
      let onward = MatchBool-at_true (Onward network event next) (EndsRun event × BeginsRun next)
      one.0 follows in
      let departs : is_arrival (event_kind_at (event.place % 2)) ≡ false =
      ap is_arrival (sym (of_place event is.there))
      ∙ not-true (is_arrival event.row.kind) parts.0 in
      record {
        edge = event.edge;
        event = event;
        next = next;
        there = edge_of event is.there;
        leaves = (is.there, is.from);
        comes = (is.also, is.to);
        crosses = onward.1 (departs_even (event.place % 2) (omega arith) departs);
        bounds = drive_has activity is drives;
      }

-- Exactly one activity leads from an event to the next one of its run.
use Rattle.plan_num.proofs.Common.{◌≡◌, ℕ, suc, ◌+◌, ◌<◌, arith, Bool, ◌&&◌, true, false, cond}
use Rattle.plan_num.proofs.Common.{List, [], ◌∷◌, length, map, filter, get_or, refl, ap, sym, ◌∙◌}
use Rattle.plan_num.proofs.Common.{flat_map, enumerate_from, count_by, eq-eqb, ne_eqb, get_or-map}
use Rattle.plan_num.proofs.Common.{get_or-range_with_len, length-filter}
use Rattle.giv_files.specs.declared.setting.Setting.{Setting}
use Rattle.event_tables.specs.declared.event_kind.EventKind.{EventKind}
use Rattle.event_tables.specs.declared.periodic_activity.PeriodicActivity.{PeriodicActivity}
use Rattle.event_tables.proofs.Common.{is_arrival, same_run, is_next, AreNumbered, way_on}
use Rattle.event_tables.proofs.Common.{same_kind, leads, lacks_way}
use Rattle.event_tables.specs.declared.event_kind.EventKind.TheVariants as kinds
use Rattle.event_tables.specs.declared.periodic_kind.PeriodicKind.TheVariants as activity
use Rattle.event_activity.specs.declared.joining.Joining.{Joining}
use Rattle.event_activity.specs.declared.joining.Joining.TheVariants as joining
use Rattle.event_activity.specs.declared.run_event.RunEvent.{RunEvent}
use Rattle.event_activity.specs.Activities.{joined, kind_from, activity_of, from_event, joined_events, joinings, joinings_with, keeps_headway, with_number, concept_activities}
use Rattle.plan_num.proofs.Parts.{filter_parts}
use Rattle.plan_num.proofs.Picked.{numbered_count, no_parts, none_mapped, both_tests, picked}

-- the kind of the way on is that of a drive or a wait
way_kind : (arrival : EventKind)
    → same_kind (cond (is_arrival arrival) activity.Wait activity.Drive) (way_on arrival) ≡ true
way_kind kinds.Departure = refl
way_kind kinds.Arrival = refl

no_sync : (arrival : EventKind) → same_kind activity.Sync (way_on arrival) ≡ false
no_sync kinds.Departure = refl
no_sync kinds.Arrival = refl

no_change : (arrival : EventKind) → same_kind activity.Change (way_on arrival) ≡ false
no_change kinds.Departure = refl
no_change kinds.Arrival = refl

no_headway : (arrival : EventKind) → same_kind activity.Headway (way_on arrival) ≡ false
no_headway kinds.Departure = refl
no_headway kinds.Arrival = refl

middle_false : (a b c : Bool) → b ≡ false → (a && b && c) ≡ false
middle_false true b c none = ap (λ d. d && c) none
middle_false false b c none = refl

module _ (settings : List Setting) (events : List RunEvent)
    (numbered : AreNumbered (λ (event : RunEvent). event.row.id) events) (d : RunEvent) where
  -- the id of an event is its place
  pub id_at : (i : ℕ) → i < length events → (get_or events i d).row.id ≡ 1 + i
  id_at i h =
      sym (get_or-map (λ (event : RunEvent). event.row.id) events i d 0 h)
      ∙ ap (λ ids. get_or ids i 0) numbered ∙ get_or-range_with_len 1 (length events) i 0 h

  module _ (i : ℕ) (inside : suc i < length events)
      (same : same_run (get_or events i d).row (get_or events (suc i) d).row ≡ true) where
    abbrev event : RunEvent
    event = get_or events i d

    abbrev next : RunEvent
    next = get_or events (suc i) d

    abbrev test : PeriodicActivity → Bool
    test = leads (event.row, next.row)

    event_id : event.row.id ≡ 1 + i
    event_id = id_at i (omega (arith, inside))

    next_id : next.row.id ≡ 1 + suc i
    next_id = id_at (suc i) inside

    comes : is_next event.row next.row ≡ true
    comes = rw (same, eq-eqb next.row.id (event.row.id + 1) (omega (arith, event_id, next_id))) refl

    -- no sync, no change and no headway leads there
    others_none : (by : Joining) → ((from : RunEvent) → same_kind (kind_from by from)
        (way_on event.row.kind) ≡ false)
        → filter test (joined_events settings events by) ≡ []
    others_none by other = grind (arith, filter_parts, no_parts, none_mapped)

    abbrev given : RunEvent → List PeriodicActivity
    given to = cond (joined joining.Run event to
        && test (activity_of settings (kind_from joining.Run event) event to))
        (activity_of settings (kind_from joining.Run event) event to ∷ []) []

    -- of the events that come next in their runs the activity of one alone does
    from_others : (from : RunEvent) → (from.row.id ≡ 1 + i → ⊥)
        → filter test (from_event settings joining.Run events from) ≡ []
    from_others from other = grind (arith, none_mapped, middle_false, ne_eqb, event_id)

    to_others : (to : RunEvent) → (to.row.id ≡ 1 + suc i → ⊥) → given to ≡ []
    to_others to other = rw (ne_eqb to.row.id (event.row.id + 1)
        (λ e. other (omega (arith, e, event_id)))) (by_test (same_run event.row to.row))
      where
        by_test : (b : Bool) → cond ((b && false)
            && test (activity_of settings (kind_from joining.Run event) event to))
            (activity_of settings (kind_from joining.Run event) event to ∷ []) [] ≡ []
        by_test true = refl
        by_test false = refl

    one_given : given next ≡ activity_of settings (kind_from joining.Run event) event next ∷ []
    one_given = grind (arith, comes, way_kind, eq-eqb)

    runs_one : filter test (joined_events settings events joining.Run)
        ≡ activity_of settings (kind_from joining.Run event) event next ∷ []
    runs_one =
        filter_parts test (from_event settings joining.Run events) events
        ∙ picked (λ (from : RunEvent). from.row.id)
        (λ from. filter test (from_event settings joining.Run events from)) 1 i events d numbered
        (omega (arith, inside)) from_others
        ∙ both_tests test (joined joining.Run event)
        (activity_of settings (kind_from joining.Run event) event) events
        ∙ picked (λ (to : RunEvent). to.row.id) given 1 (suc i) events d numbered inside to_others
        ∙ one_given

    all_one : filter test (flat_map (joined_events settings events) (joinings settings))
        ≡ activity_of settings (kind_from joining.Run event) event next ∷ []
    all_one =
        filter_parts test (joined_events settings events) (joinings settings)
        ∙ by (keeps_headway settings)
      where
        by : (b : Bool)
            → flat_map (λ one. filter test (joined_events settings events one)) (joinings_with b)
            ≡ activity_of settings (kind_from joining.Run event) event next ∷ []
        by true = rw (
          runs_one,
          others_none joining.Sync (λ from. no_sync event.row.kind),
          others_none joining.Change (λ from. no_change event.row.kind),
          others_none joining.Headway (λ from. no_headway event.row.kind),
        ) refl
        by false = rw (
          runs_one,
          others_none joining.Sync (λ from. no_sync event.row.kind),
          others_none joining.Change (λ from. no_change event.row.kind),
        ) refl

    -- so exactly one leads from the event to the next
    pub one_way : lacks_way (concept_activities settings events) (event.row, next.row) ≡ false
    unfolding concept_activities
    one_way =
        let activities = flat_map (joined_events settings events) (joinings settings) in
        let count : count_by test (map with_number (enumerate_from 1 activities)) ≡ 1 =
        numbered_count with_number test (λ n at. refl) 1 activities
        ∙ sym (length-filter test activities) ∙ ap length all_one in
        rw count refl

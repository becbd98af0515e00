-- The activities between events are those that the kinds join and no others.
use Rattle.plan_num.proofs.Common.{◌≡◌, ℕ, arith, true, All, Contains, List, map, filter, refl}
use Rattle.plan_num.proofs.Common.{subst, sym, flat_map, enumerate_from, and_parts, All-map}
use Rattle.plan_num.proofs.Common.{All-weaker, All-filter, All-contains, All-contains_itself}
use Rattle.plan_num.proofs.Common.{filter_passes}
use Rattle.giv_files.specs.declared.setting.Setting.{Setting}
use Rattle.event_tables.specs.declared.periodic_activity.PeriodicActivity.{PeriodicActivity}
use Rattle.event_tables.specs.declared.periodic_kind.PeriodicKind.{PeriodicKind}
use Rattle.event_tables.specs.declared.periodic_kind.PeriodicKind.TheVariants as kinds
use Rattle.event_activity.specs.declared.bounds.Bounds.{Bounds}
use Rattle.event_activity.specs.declared.joining.Joining.{Joining}
use Rattle.event_activity.specs.declared.joining.Joining.TheVariants as joining
use Rattle.event_activity.specs.declared.run_event.RunEvent.{RunEvent}
use Rattle.event_activity.specs.Activities.{joined, kind_from, activity_of, from_event, joined_events, joinings, joinings_with, keeps_headway, shares_edge, with_number, concept_activities}
use Rattle.event_activity.specs.ActivitiesOfRuns.{joins_events, IsActivityOf, AreActivitiesOf}
use Rattle.plan_num.proofs.Members.{Contains-filter as contains_filter}
use Rattle.plan_num.proofs.Members.{contains_numbered}
use Rattle.plan_num.proofs.Numbered.{all_numbered}
use Rattle.event_activity.proofs.ReadAgain.{activities_placed}
use Rattle.plan_num.proofs.Members.{Contains-flat_map as contains_part, Contains-map as contains_map, All-flat_map as all_parts}

module _ (settings : List Setting) where
  -- the joinings that are made
  abbrev IsMadeBy : Joining → Type 0
  IsMadeBy by = Contains (joinings settings) by

  -- what a joining joins, the kind of it joins
  joins_as : (by : Joining) → IsMadeBy by → (event next : RunEvent) → joined by event next ≡ true
      → joins_events settings (kind_from by event) event next ≡ true
  joins_as joining.Run made event next is = grind arith
  joins_as joining.Sync made event next is = is
  joins_as joining.Change made event next is = is
  joins_as joining.Headway made event next is = grind arith

  -- and what a kind joins, a joining of that kind
  record IsJoined (kind : PeriodicKind) (event next : RunEvent) : Type 0 where
    by : Joining
    made : IsMadeBy by
    joins : joined by event next ≡ true
    same : kind_from by event ≡ kind

  joined_as : (kind : PeriodicKind) (event next : RunEvent)
      → joins_events settings kind event next ≡ true → IsJoined kind event next
  joined_as kinds.Drive event next is = grind arith
  joined_as kinds.Wait event next is = grind arith
  joined_as kinds.Sync event next is =
      record { by = joining.Sync; made = (1, omega arith, refl); joins = is; same = refl }
  joined_as kinds.Change event next is =
      record { by = joining.Change; made = (2, omega arith, refl); joins = is; same = refl }
  joined_as kinds.Headway event next is =
      let parts = and_parts (keeps_headway settings) (shares_edge event next) is in
      record {
        by = joining.Headway;
        made = subst (λ b. Contains (joinings_with b) joining.Headway) (sym parts.0)
            (3, omega arith, refl);
        joins = parts.1;
        same = refl;
      }

module _ (settings : List Setting) (events : List RunEvent) where
  abbrev IsOne : PeriodicActivity → Type 0
  IsOne activity = IsActivityOf settings events activity

  from_are : (by : Joining) → IsMadeBy settings by → (event : RunEvent) → Contains events event
      → All IsOne (from_event settings by events event)
  from_are by made event there =
      let ends = filter (joined by event) events in
      let also = All-filter (joined by event) (Contains events) events
      (All-contains_itself events) in
      let passes = filter_passes (joined by event) events in
      All-map IsOne (activity_of settings (kind_from by event) event) ends
      (λ k d h. record {
        event = event;
        next = _;
        there = there;
        also = also k d h;
        from = refl;
        to = refl;
        joins = joins_as settings by made event _ (passes k d h);
        bounds = refl;
      })

  joined_are : (by : Joining) → IsMadeBy settings by → All IsOne (joined_events settings events by)
  joined_are by made =
      all_parts IsOne (from_event settings by events) events
      (All-weaker (Contains events) (λ event. All IsOne (from_event settings by events event))
      (from_are by made) events (All-contains_itself events))

  all_are : All IsOne (flat_map (joined_events settings events) (joinings settings))
  all_are =
      all_parts IsOne (joined_events settings events) (joinings settings)
      (All-weaker (IsMadeBy settings) (λ by. All IsOne (joined_events settings events by)) joined_are
      (joinings settings) (All-contains_itself (joinings settings)))

  numbered_one : (n : ℕ) (activity : PeriodicActivity) → IsOne activity
      → IsOne (with_number (n, activity))
  numbered_one n activity is = grind arith

  pub activities_sound : All IsOne (concept_activities settings events)
  unfolding concept_activities
  activities_sound =
      all_numbered IsOne IsOne with_number (flat_map (joined_events settings events) (joinings settings))
      (λ n activity low high is. numbered_one n activity is) all_are

  -- an activity by its parts
  abbrev made_of : ℕ → PeriodicKind → ℕ → ℕ → Bounds → PeriodicActivity
  made_of id kind from to bounds =
      record { id = id; kind = kind; from = from; to = to; lower = bounds.lower; upper = bounds.upper }

  same_activity : (n : ℕ) (activity : PeriodicActivity) (is : IsOne activity) (kind : PeriodicKind)
      → kind ≡ activity.kind → with_number (n, activity_of settings kind is.event is.next)
      ≡ with_number (n, activity)
  same_activity n activity is kind same = grind arith

  -- the activities between the events are those
  pub activities_are : AreActivitiesOf settings events (concept_activities settings events)
  unfolding concept_activities
  activities_are =
      let activities = flat_map (joined_events settings events) (joinings settings) in
      record {
        numbered = activities_placed settings events;
        sound = λ activity there. All-contains IsOne (concept_activities settings events) activity
            activities_sound there;
        whole = λ activity is.
            let way = joined_as settings activity.kind is.event is.next is.joins in
            let bare = activity_of settings (kind_from way.by is.event) is.event is.next in
            let found = contains_numbered with_number 1 activities bare
            (contains_part (joined_events settings events) (joinings settings) way.by bare
            way.made
            (contains_part (from_event settings way.by events) events is.event bare is.there
            (contains_map (activity_of settings (kind_from way.by is.event) is.event)
            (filter (joined way.by is.event) events) is.next
            (contains_filter (joined way.by is.event) events is.next is.also way.joins)))) in (
              found.0,
              subst (Contains (map with_number (enumerate_from 1 activities)))
                  (same_activity found.0 activity is (kind_from way.by is.event) way.same) found.1,
            );
      }

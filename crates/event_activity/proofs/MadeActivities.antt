-- What holds of the activities between events.
use Rattle.plan_num.proofs.Common.{◌≡◌, ℕ, ◌≤◌, arith, All, List, length, filter, subst, sym}
use Rattle.plan_num.proofs.Common.{flat_map, All-map, All-weaker, All-filter}
use Rattle.giv_files.specs.declared.key.Key.TheVariants as key
use Rattle.giv_files.specs.declared.setting.Setting.{Setting}
use Rattle.event_tables.specs.declared.periodic_activity.PeriodicActivity.{PeriodicActivity}
use Rattle.event_tables.specs.declared.periodic_kind.PeriodicKind.{PeriodicKind}
use Rattle.event_tables.proofs.Common.{IsPeriodicActivity}
use Rattle.event_tables.specs.declared.periodic_kind.PeriodicKind.TheVariants as activity
use Rattle.event_activity.specs.declared.joining.Joining.{Joining}
use Rattle.event_activity.specs.declared.run_event.RunEvent.{RunEvent}
use Rattle.event_activity.specs.Activities.{joined, kind_from, bounds_from, activity_of, from_event, joined_events, joinings, with_number, concept_activities}
use Rattle.event_activity.specs.Fitting.{AreBounds, AreTimely, IsDriven, IsNumbered}
use Rattle.event_activity.proofs.LineEvents.{numbered_size}
use Rattle.plan_num.proofs.Numbered.{all_numbered}
use Rattle.plan_num.proofs.Members.{All-flat_map as all_parts}

-- an activity between two of so many events, with bounds in order that are not too great
pub record IsMade (count : ℕ) (activity : PeriodicActivity) : Type 0 where
  pub sound : IsPeriodicActivity count activity
  pub soon : activity.upper ≤ 10000

-- the same with a number up to another
pub record IsNumberedOne (count many : ℕ) (activity : PeriodicActivity) : Type 0 where
  pub made : IsMade count activity
  pub first : 1 ≤ activity.id
  pub last : activity.id ≤ many

module _ (settings : List Setting) (timely : AreTimely settings) where
  -- bounds are in order
  bounds_good : (kind : PeriodicKind) (event : RunEvent) → IsDriven event
      → AreBounds (bounds_from settings kind event)
  bounds_good activity.Drive event is = is.edge
  bounds_good activity.Wait event is = timely.waits
  bounds_good activity.Change event is = timely.changes
  bounds_good activity.Headway event is = timely.headways
  bounds_good activity.Sync event is = grind arith

  module _ (events : List RunEvent) (count : ℕ) (numbered : All (IsNumbered count) events) where
    made_from : (joining : Joining) (event : RunEvent) → IsNumbered count event
        → All (IsMade count) (from_event settings joining events event)
    made_from joining event is =
        let kind = kind_from joining event in
        let good = bounds_good kind event is.driven in
        All-map (IsMade count) (activity_of settings kind event)
        (filter (joined joining event) events)
        (All-weaker (IsNumbered count)
        (λ next. IsMade count (activity_of settings kind event next))
        (λ next to. record {
          sound = record {
            from = (is.first, is.last);
            to = (to.first, to.last);
            in_order = good.in_order;
          };
          soon = good.soon;
        }) (filter (joined joining event) events)
        (All-filter (joined joining event) (IsNumbered count) events numbered))

    made_by : (joining : Joining) → All (IsMade count) (joined_events settings events joining)
    made_by joining =
        all_parts (IsMade count) (from_event settings joining events) events
        (All-weaker (IsNumbered count)
        (λ event. All (IsMade count) (from_event settings joining events event))
        (made_from joining) events numbered)

    all_made : All (IsMade count) (flat_map (joined_events settings events) (joinings settings))
    all_made =
        all_parts (IsMade count) (joined_events settings events) (joinings settings)
        (λ k d h. made_by _)

    with_a_number : (many n : ℕ) (activity : PeriodicActivity) → 1 ≤ n → n ≤ many
        → IsMade count activity → IsNumberedOne count many (with_number (n, activity))
    with_a_number many n activity low high is = grind arith

    -- all activities are so, and numbered up to their count
    pub activities_numbered : All (IsNumberedOne count
        (length (concept_activities settings events))) (concept_activities settings events)
    unfolding concept_activities
    activities_numbered =
        let activities = flat_map (joined_events settings events) (joinings settings) in
        let size = numbered_size with_number activities in
        all_numbered (IsMade count)
        (IsNumberedOne count (length (concept_activities settings events))) with_number activities
        (λ n activity low high is. with_a_number _ n activity low (omega (arith, high, size)) is)
        all_made

    -- the same of activities that are those between the events
    pub activities_given : (activities : List PeriodicActivity)
        → activities ≡ concept_activities settings events
        → All (IsNumberedOne count (length activities)) activities
    activities_given activities are =
        subst (λ some. All (IsNumberedOne count (length some)) some) (sym are) activities_numbered

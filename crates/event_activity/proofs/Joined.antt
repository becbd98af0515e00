-- The activities of all joinings, and how many there are.
use Rattle.plan_num.proofs.Common.{◌≡◌, ℕ, ◌≤◌, arith, List, length, take, ap, ◌∙◌, flat_map}
use Rattle.plan_num.proofs.Common.{take_all}
use Rattle.giv_files.specs.declared.setting.Setting.{Setting}
use Rattle.event_tables.specs.declared.periodic_activity.PeriodicActivity.{PeriodicActivity}
use Rattle.event_activity.specs.declared.joining.Joining.{Joining}
use Rattle.event_activity.specs.declared.run_event.RunEvent.{RunEvent}
use Rattle.event_activity.specs.Activities.{joined_events, joinings, with_numbers, concept_activities}
use Rattle.event_activity.proofs.LineEvents.{numbered_size}

module _ (settings : List Setting) (events : List RunEvent) (items : List Joining)
    (same : items ≡ joinings settings) (i : ℕ) (done : length items ≤ i) where
  whole : flat_map (joined_events settings events) (take i items)
      ≡ flat_map (joined_events settings events) (joinings settings)
  whole = ap (flat_map (joined_events settings events)) (take_all i items done ∙ same)

  pub activities_counted : (count : ℕ)
      → count ≡ length (flat_map (joined_events settings events) (take i items))
      → count ≡ length (concept_activities settings events)
  unfolding concept_activities
  activities_counted count told = grind (arith, whole, numbered_size)

  module _ (all : List PeriodicActivity)
      (told : all ≡ flat_map (joined_events settings events) (take i items)) where
    pub activities_few : length (concept_activities settings events) ≤ 200000
        → length all ≤ 200000
    activities_few few = omega (arith, few, activities_counted (length all) (ap length told))

    pub activities_told : (numbered : List PeriodicActivity) → numbered ≡ with_numbers all
        → numbered ≡ concept_activities settings events
    unfolding concept_activities
    activities_told numbered is = is ∙ ap with_numbers (told ∙ whole)

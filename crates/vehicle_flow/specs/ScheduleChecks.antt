-- The rules of a vehicle schedule from any hand and of the potentials beside it, in the order in
-- which they are looked for.
use Rattle.std.specs.Prelude.{ℕ, ◌≡◌, List, [], ◌∷◌, length, map, filter_map, slice_get, Option, Some, None}
use Rattle.vehicle_model.specs.declared.plan_fault.PlanFault.{PlanFault}
use Rattle.vehicle_model.specs.declared.plan_fault.PlanFault.TheVariants as plan
use Rattle.vehicle_model.specs.Plans.{IsCheapest}
use Rattle.link_plans.specs.Plans.{IsPlan}
use Rattle.vehicle_model.specs.ReadSchedules.{plan_faults, plan_of, or_others}
use Rattle.vehicle_model.specs.Trips.{TripsParts, links_of}
use Rattle.flow_potentials.specs.declared.potential_fault.PotentialFault.{PotentialFault}
use Rattle.flow_potentials.specs.declared.potential_fault.PotentialFault.TheVariants as potential
use Rattle.flow_potentials.specs.PotentialTables.{table_faults, potentials_of}
use Rattle.flow_potentials.specs.PotentialFaults.{potential_faults}
use Rattle.link_plans.specs.Potentials.{AreValid}
use Rattle.vehicle_flow.specs.declared.schedule_fault.ScheduleFault.{ScheduleFault}
use Rattle.vehicle_flow.specs.declared.schedule_fault.ScheduleFault.TheVariants as rule

-- the rule that a fault of a plan breaks; want of memory breaks none
abbrev pub plan_rule : PlanFault → Option ScheduleFault
plan_rule (plan.Row first) = Some rule.Row
plan_rule (plan.Trips row) = Some rule.Trips
plan_rule (plan.Follow trip) = Some rule.Follow
plan_rule plan.NoMemory = None

-- the rule that a fault of potentials breaks
abbrev pub potential_rule : PotentialFault → ScheduleFault
potential_rule (potential.Pair i j) = rule.Pair
potential_rule potential.Sum = rule.Sum

-- the rules that the potentials of a plan break: that they are there, else that their text is a table
-- of one row for each trip, else that they are valid for the plan
abbrev pub certificate_rules : TripsParts → List (Option ℕ) → Option (List ℕ) → List ScheduleFault
certificate_rules trips plan None = rule.Certificate ∷ []
certificate_rules trips plan (Some text) =
    or_others (map (λ _. rule.Potentials) (table_faults (length trips.trips) text))
    (map potential_rule (potential_faults (links_of trips) plan (potentials_of text)))

-- the first rule that the text of a schedule breaks, or else potentials that may stand beside it
unfoldable pub schedule_fault : TripsParts → List ℕ → Option (List ℕ) → Option ScheduleFault
schedule_fault trips schedule potentials = slice_get
    (or_others (filter_map plan_rule (plan_faults trips schedule))
    (certificate_rules trips (plan_of trips schedule) potentials))
    0

-- the text of potentials marks a plan: it has one row for each trip in order, they are valid for the
-- plan, and so no plan costs less
pub record IsMark (trips : TripsParts) (plan : List (Option ℕ)) (text : List ℕ) : Type 0 where
  pub reads : table_faults (length trips.trips) text ≡ []
  pub valid : AreValid (links_of trips) plan (potentials_of text)
  pub cheapest : IsCheapest trips plan

-- potentials stand beside a plan, and mark it
abbrev pub IsMarked : TripsParts → List (Option ℕ) → Option (List ℕ) → Type 0
IsMarked trips plan None = ⊥
IsMarked trips plan (Some text) = IsMark trips plan text

-- a schedule passes: its text is that of a plan, and potentials mark it
pub record Passes (trips : TripsParts) (schedule : List ℕ) (potentials : Option (List ℕ)) : Type 0 where
  pub reads : plan_faults trips schedule ≡ []
  pub possible : IsPlan (links_of trips) (plan_of trips schedule)
  pub marked : IsMarked trips (plan_of trips schedule) potentials

-- What is known of a schedule of which no rule is broken but that of a certificate.
use Rattle.plan_num.proofs.Common.{arith, ◌≡◌, List, [], ◌∷◌, ℕ, map, slice_get, Option, Some, None}
use Rattle.plan_num.proofs.Common.{Result, Ok, Err, IfOk, IfNone, IfSome, sym, subst, ⊤, none-some}
use Rattle.tables.specs.declared.read_fault.RowFault.{RowFault}
use Rattle.giv_files.proofs.Common.{BundleParts}
use Rattle.vehicle_model.specs.declared.plan_fault.PlanFault.{PlanFault}
use Rattle.vehicle_model.specs.declared.plan_fault.PlanFault.TheVariants as plan_fault
use Rattle.link_plans.proofs.Common.{IsPlan}
use Rattle.vehicle_model.specs.ReadSchedules.{or_others, plan_faults, plan_of}
use Rattle.vehicle_model.specs.Trips.{TripsParts, links_of}
use Rattle.flow_potentials.specs.declared.potential_fault.PotentialFault.{PotentialFault}
use Rattle.flow_potentials.specs.declared.potential_fault.PotentialFault.TheVariants as potential
use Rattle.vehicle_flow.specs.declared.schedule_fault.ScheduleFault.{ScheduleFault}
use Rattle.vehicle_flow.specs.declared.schedule_fault.ScheduleFault.TheVariants as rule
use Rattle.vehicle_flow.specs.RightSchedules.{passed_over, PassesOver, ScheduleIsRight}
use Rattle.vehicle_flow.specs.RightVehicles.{files_of}
use Rattle.vehicle_flow.specs.ScheduleChecks.{certificate_rules, plan_rule, potential_rule, IsMark, IsMarked}
use Rattle.vehicle_flow.specs.VehicleStage.{trips_in, vehicles_faults}

-- potentials that stand there are not told to be missing
not_missing : (rows : List RowFault) (others : List PotentialFault)
    → slice_get (or_others (map (λ _. rule.Potentials) rows) (map potential_rule others)) 0 ≡ Some rule.Certificate → ⊥
not_missing (row ∷ rows) others is = absurd (cc)
not_missing [] [] is = absurd (cc)
not_missing [] (potential.Pair i j ∷ others) is = absurd (cc)
not_missing [] (potential.Sum ∷ others) is = absurd (cc)

if_none : {X : Type 0} {A B : Type 0} (found : Option X) → (A → B) → IfNone found A → IfNone found B
if_none None f told = f told
if_none (Some fault) f told = tt

-- a fault of the plan is none of its certificate
pub broken_over : (A : Type 0) (fault : PlanFault) (rule : ScheduleFault) → plan_rule fault ≡ Some rule
    → IfNone (passed_over (Some rule)) A
broken_over A (plan_fault.Row first) rule is = subst (λ found. IfNone (passed_over found) A) is tt
broken_over A (plan_fault.Trips row) rule is = subst (λ found. IfNone (passed_over found) A) is tt
broken_over A (plan_fault.Follow trip) rule is = subst (λ found. IfNone (passed_over found) A) is tt
broken_over A plan_fault.NoMemory rule is = absurd (none-some rule is)

module _ (trips : TripsParts) (schedule : List ℕ) where
  -- where potentials stand there they mark the plan
  marks_over : (plan : List (Option ℕ)) (potentials : Option (List ℕ)) (found : Option ScheduleFault)
      → found ≡ slice_get (certificate_rules trips plan potentials) 0
      → IfNone found (IsMarked trips plan potentials)
      → IfNone (passed_over found) (IfSome potentials (IsMark trips plan))
  marks_over plan None found first told = subst (λ some. IfNone (passed_over some) ⊤) (sym first) tt
  marks_over plan (Some text) None first told = told
  marks_over plan (Some text) (Some rule.Certificate) first told = absurd (not_missing _ _ (sym first))
  marks_over plan (Some text) (Some _) first told = tt

  pub plan_over : {E : Type 0} (potentials : Option (List ℕ)) (plan : List (Option ℕ))
      → plan_faults trips schedule ≡ [] → plan ≡ plan_of trips schedule → IsPlan (links_of trips) plan
      → (result : Result (Option ScheduleFault) E)
      → IfOk result (λ found. found ≡ slice_get (certificate_rules trips plan potentials) 0)
      → IfOk result (λ found. IfNone found (IsMarked trips plan potentials))
      → IfOk result (λ found. IfNone (passed_over found) (PassesOver trips schedule potentials))
  plan_over potentials plan none is possible (Err error) first told = tt
  plan_over potentials plan none is possible (Ok found) first told =
      if_none (passed_over found)
      (λ marked. (
        none,
        subst (IsPlan (links_of trips)) is possible,
        subst
            (λ some. IfSome potentials (IsMark trips some)) is marked,
      ))
      (marks_over plan potentials found first told)

-- over a bundle its files are right then
pub right_over_bundle : (bundle : BundleParts) → vehicles_faults bundle ≡ [] → (trips : TripsParts)
    → trips ≡ trips_in bundle → (schedule : List ℕ) (potentials : Option (List ℕ)) (found : Option ScheduleFault)
    → IfNone found (PassesOver trips schedule potentials)
    → IfNone found (ScheduleIsRight bundle (files_of schedule potentials))
right_over_bundle bundle none trips is schedule potentials found told = grind (arith, if_none)

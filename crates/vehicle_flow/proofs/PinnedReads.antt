-- What is made of a planner's schedule is right.
use Rattle.plan_num.proofs.Common.{◌≡◌, ℕ, List, [], ◌∷◌, length, map, slice_get, Option, Some}
use Rattle.plan_num.proofs.Common.{None, Ok, refl, ap, sym, subst, arith}
use Rattle.giv_files.specs.declared.made.Made.{Made}
use Rattle.giv_files.proofs.Common.{BundleParts, input_text, made_unless, none_unless}
use Rattle.tables.proofs.Common.{back_none, front_none}
use Rattle.link_plans.proofs.Common.{IsPlan, ArePotentials, AreOver, PotentialParts, AreValid}
use Rattle.vehicle_model.specs.ReadSchedules.{or_others, plan_faults, plan_of, IsReadBack}
use Rattle.vehicle_model.specs.Schedules.{plan_text}
use Rattle.vehicle_model.specs.Trips.{AreTrips, TripsParts, links_of}
use Rattle.vehicle_model.proofs.FaultlessPlans.{faultless_is_plan}
use Rattle.vehicle_model.proofs.PlanBack.{plan_text_back}
use Rattle.flow_potentials.specs.PotentialFaults.{potential_faults}
use Rattle.flow_potentials.specs.PotentialTables.{potentials_of, potentials_text, table_faults}
use Rattle.flow_potentials.specs.PotentialTables.{IsReadBack as IsPotentialBack}
use Rattle.flow_potentials.proofs.Checked.{told_cheapest, told_valid}
use Rattle.flow_potentials.proofs.FaultlessTables.{faultless_potentials}
use Rattle.flow_potentials.proofs.TablesBack.{text_back}
use Rattle.vehicle_flow.specs.declared.schedule_fault.ScheduleFault.{ScheduleFault}
use Rattle.vehicle_flow.specs.declared.schedule_fault.ScheduleFault.TheVariants as rule
use Rattle.vehicle_flow.specs.PinnedSchedules.{marking_potentials, pinned_vehicles_faults}
use Rattle.vehicle_flow.specs.PinnedSchedules.{pinned_vehicles_stage, plan_kept, plan_refusal}
use Rattle.vehicle_flow.specs.PinnedSchedules.{unless_broken}
use Rattle.vehicle_flow.specs.RightSchedules.{passed_over, PinnedScheduleIsRight}
use Rattle.vehicle_flow.specs.ScheduleChecks.{certificate_rules, potential_rule, IsMark}
use Rattle.vehicle_flow.specs.VehicleStage.{trips_in, vehicles_faults}
use Rattle.vehicle_flow.proofs.FirstRules.{certificate_left, passes_none}
use Rattle.vehicle_flow.proofs.ScheduleAccepted.{plan_accepted}
use Rattle.plan_num.proofs.Lists.{unmapped}

or_none : {X : Type 0} (some others : List X) → or_others some others ≡ [] → (some ≡ []) × (others ≡ [])
or_none [] others e = (refl, e)
or_none (x ∷ some) others e = absurd (cc)

module _ (bundle : BundleParts) (none : pinned_vehicles_faults bundle ≡ []) (are : AreTrips (trips_in bundle)) where
  abbrev trips : TripsParts
  trips = trips_in bundle

  abbrev plan : List (Option ℕ)
  plan = plan_of trips (input_text bundle 3)

  abbrev schedule : List ℕ
  schedule = plan_text trips plan

  given : plan_faults trips (input_text bundle 3) ≡ []
  given = unmapped plan_refusal _ (back_none (vehicles_faults bundle) _ none)

  possible : IsPlan (links_of trips) plan
  possible = faultless_is_plan trips (input_text bundle 3) given

  back : IsReadBack trips plan schedule
  back = plan_text_back trips plan are possible

  -- potentials that break no rule mark the plan once they are written again
  module _ (text : List ℕ) (kept : certificate_rules trips plan (Some text) ≡ []) where
    abbrev given_ones : PotentialParts
    given_ones = potentials_of text

    rules : (map (λ _. rule.Potentials) (table_faults (length trips.trips) text) ≡ [])
        × (map potential_rule (potential_faults (links_of trips) plan given_ones) ≡ [])
    rules = or_none _ _ kept

    sound : AreOver (length trips.trips) given_ones × ArePotentials given_ones
    sound = faultless_potentials (length trips.trips) text (unmapped (λ _. rule.Potentials) _ rules.0)

    free : None ≡ slice_get (potential_faults (links_of trips) plan given_ones) 0
    free = ap (λ all. slice_get all 0) (sym (unmapped potential_rule _ rules.1))

    again : IsPotentialBack given_ones (potentials_text given_ones)
    again = text_back given_ones sound.1 (omega (arith, sound.0.each_u, are.rows.few))

    marks : IsMark trips (plan_of trips schedule) (potentials_text given_ones)
    marks = record {
      reads = subst (λ n. table_faults n (potentials_text given_ones) ≡ []) sound.0.each_u again.faultless;
      valid = subst (λ some. AreValid (links_of trips) some (potentials_of (potentials_text given_ones)))
          (sym back.same)
          (subst (AreValid (links_of trips) plan) (sym again.same)
          ((told_valid trips plan given_ones sound.0 None free).0 refl));
      cheapest = grind (arith, back, told_cheapest, sound, free, possible);
    }

  abbrev Right : Option PotentialParts → Type 0
  Right potentials = PinnedScheduleIsRight bundle (plan_kept trips plan potentials).files

  alone : Right None
  alone = record {
    right = grind (arith, front_none, back, possible);
    passes = ap passed_over (certificate_left trips schedule None back.faultless);
    accepted = plan_accepted trips plan are possible;
  }

  beside : (text : List ℕ) → certificate_rules trips plan (Some text) ≡ [] → Right (Some (potentials_of text))
  beside text kept =
      let written = potentials_text (potentials_of text) in
      let is_plan = subst (IsPlan (links_of trips)) (sym back.same) possible in
      let mark = marks text kept in
      record {
        right = record {
          inputs = front_none (vehicles_faults bundle) _ none;
          schedule = schedule;
          potentials = Some written;
          each = refl;
          reads = back.faultless;
          possible = is_plan;
          marked = mark;
        };
        passes = ap passed_over (passes_none trips schedule (Some written)
            (record { reads = back.faultless; possible = is_plan; marked = mark }));
        accepted = plan_accepted trips plan are possible;
      }

  made_right : (text : List ℕ) → Right (marking_potentials trips plan text)
  made_right text = by (certificate_rules trips plan (Some text)) refl
    where
      by : (rules : List ScheduleFault) → certificate_rules trips plan (Some text) ≡ rules
          → Right (unless_broken rules (potentials_of text))
      by [] is = beside text is
      by (first ∷ more) is = alone

-- the law of the stage
pub pinned_right : (bundle : BundleParts) (made : Made) → AreTrips (trips_in bundle)
    → pinned_vehicles_stage bundle ≡ Ok made
    → PinnedScheduleIsRight bundle made.files
unfolding pinned_vehicles_stage
pinned_right bundle made are is =
    let faults = pinned_vehicles_faults bundle in
    let trips = trips_in bundle in
    let plan = plan_of trips (input_text bundle 3) in
    let kept = plan_kept trips plan (marking_potentials trips plan (input_text bundle 4)) in
    subst (λ (made : Made). PinnedScheduleIsRight bundle made.files) (made_unless faults kept made is)
    (made_right bundle (none_unless faults kept made is) are (input_text bundle 4))

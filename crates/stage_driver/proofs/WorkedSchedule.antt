-- One folder with a vehicle schedule and its potentials, and one with a schedule that costs more: the
-- promises on the schedule that stands in a folder.
use Rattle.plan_num.proofs.Common.{arith, ◌≡◌, ◌≤◌, ◌<◌, ℕ, pos, suc, List, [], ◌∷◌, ◌++◌, map}
use Rattle.plan_num.proofs.Common.{Option, Some, None, Ok, Result, is_some, refl, ap, subst}
use Rattle.plan_num.proofs.Common.{sym, ◌∙◌, codes, true, false, false≢true, nat_cmp, slice_cmp}
use Rattle.plan_num.proofs.Common.{nat_list_cmp_total, same_Some}
use Rattle.std.specs.Prelude.{zero}
use Rattle.std.specs.FinMap as files
use Rattle.std.specs.FinMap.Entries.{find}
use Rattle.plan_files.proofs.Common.{Folder}
use Rattle.tables.specs.declared.file_id.FileId.TheVariants as file
use Rattle.tables.proofs.Common.{file_name}
use Rattle.giv_files.specs.declared.key.Key.TheVariants as key
use Rattle.giv_files.specs.declared.stage.Stage.TheVariants as stage
use Rattle.giv_files.specs.Keys.{all_keys, key_default, stage_keys}
use Rattle.giv_files.proofs.Common.{BundleParts}
use Rattle.tables.specs.Reading.{faults, table_of, cells_from, cell_of, errors, values, row_whys}
use Rattle.tables.specs.Inputs.{input_faults, row_faults}
use Rattle.text_fields.specs.Rows.{rows, cleaned}
use Rattle.plan_num.specs.Number.{spelling_of, value_of, value_at, fixed_of, whole_of}
use Rattle.ptn_network.specs.Networks.{stops_of, network_of, network_faults}
use Rattle.walks.specs.RisingIds.{by_id}
use Rattle.walks.specs.Walks.{walks_within, least_of, least_sum}
use Rattle.config_keys.specs.Items.{config_name, expanded, first_fault, last_said, look_in}
use Rattle.config_keys.specs.Values.{good_value, own_value, settled, settings_of}
use Rattle.config_keys.proofs.Common.{effective_settings}
use Rattle.link_plans.specs.Plans.{IsPlan, next}
use Rattle.vehicle_model.specs.Plans.{plan_cost}
use Rattle.vehicle_model.specs.ReadSchedules.{form_faults, links_in, plan_faults, plan_of}
use Rattle.vehicle_model.specs.Trips.{AreTrips, links_of, trips_of, trips_faults}
use Rattle.vehicle_model.specs.DrivenSchedules.{ReadsWhatIsDriven}
use Rattle.vehicle_model.proofs.Driven.{reads_driven}
use Rattle.vehicle_model.proofs.TripLinks.{trips_links}
use Rattle.vehicle_flow.specs.VehicleStage.{trips_in, vehicles_faults}
use Rattle.vehicle_flow.proofs.VehicleLaws.{are_trips}
use Rattle.stage_chain.specs.Chain.{bundle_by}
use Rattle.stage_chain.specs.Right.{text_in}
use Rattle.stage_chain.proofs.MadeRight.{given_fits}
use Rattle.stage_driver.specs.BestPlans.{ScheduleIsCheapest}
use Rattle.stage_driver.specs.FeasiblePlans.{ScheduleIsFeasible}
use Rattle.stage_driver.specs.PlansThere.{IsGiven}

-- ---- two trips between two stops

-- The first trip goes from the first stop to the second one, from minute 0 to 4; the second one goes back,
-- from minute 20 to 24. So it may follow the first one, and not the other way round.
abbrev stops : List ℕ
stops = codes "1; A; A; 0; 0\n2; B; B; 0; 0\n"

abbrev edges : List ℕ
edges = codes "1; 1; 2; 2; 4; 5\n"

abbrev trips : List ℕ
trips = codes "1; 1; 1; 0; 2; 2; 2; 4; 1\n3; 3; 2; 20; 4; 4; 1; 24; 1\n"

-- one vehicle drives both trips, with an empty ride of no minutes between them
abbrev schedule : List ℕ
schedule = codes "1; 1; 1; TRIP; 1; 1; 1; 0; 2; 2; 2; 4; 1\n1; 1; 2; EMPTY; 2; 2; 2; 4; 3; 3; 2; 4; 0\n"
    ++ codes "1; 1; 3; TRIP; 3; 3; 2; 20; 4; 4; 1; 24; 1\n"

-- a vehicle for each trip
abbrev dear : List ℕ
dear = codes "1; 1; 1; TRIP; 1; 1; 1; 0; 2; 2; 2; 4; 1\n2; 2; 1; TRIP; 3; 3; 2; 20; 4; 4; 1; 24; 1\n"

-- a schedule with potentials beside it, whatever they say; the settings are the defaults
abbrev files_with : List ℕ → List (List ℕ × List ℕ)
files_with schedule = (file_name file.Stop, stops) ∷ (file_name file.Edge, edges)
    ∷ (file_name file.Trips, trips) ∷ (file_name file.Schedule, schedule)
    ∷ (file_name file.Potential, []) ∷ []

abbrev folder_with : List ℕ → Folder
folder_with schedule = files.from_entries (files_with schedule)

there : (schedule name : List ℕ) → files.get (folder_with schedule) name
    ≡ find (slice_cmp nat_cmp) name (files_with schedule)
there schedule name = files.get-from_entries nat_list_cmp_total (files_with schedule) name

-- what the stage of vehicles is given there: a turnover of 5 minutes, 100 for a vehicle, 1 for a dead minute
abbrev bundle : BundleParts
bundle = record {
  stage = stage.Vehicles;
  settings = record { key = key.VsTurnOverTime; value = pos 5 }
      ∷ record { key = key.VsVehicleCosts; value = pos 100000000 }
      ∷ record { key = key.VsEmptyCosts; value = pos 1000000 } ∷ [];
  inputs = stops ∷ edges ∷ trips ∷ [];
}

given : (schedule : List ℕ) → IsGiven (folder_with schedule) stage.Vehicles bundle
unfolding settings_of settled good_value own_value expanded first_fault last_said stage_keys
given it = record {
  values = map key_default all_keys;
  settled = rw (there it config_name) refl;
  given = rw (
    there it (file_name file.Stop),
    there it (file_name file.Edge),
    there it (file_name file.Trips),
  ) refl;
}

faultless : vehicles_faults bundle ≡ []
unfolding trips_faults network_faults input_faults row_faults faults errors row_whys network_of stops_of by_id
    table_of cells_from cell_of values rows cleaned spelling_of value_of value_at fixed_of whole_of
faultless = refl

are : AreTrips (trips_in bundle)
unfolding given
are = are_trips bundle refl (given_fits (text_in (folder_with [])) (map key_default all_keys) stage.Vehicles
    bundle (effective_settings (look_in (folder_with [])) (map key_default all_keys) (given []).settled)
    (given []).given) faultless

-- what is read of the two schedules, which of the links between the trips there are, and what plans cost
texts_read : (plan_faults (trips_in bundle) schedule ≡ [])
    × (plan_of (trips_in bundle) schedule ≡ Some 1 ∷ None ∷ [])
    × (plan_faults (trips_in bundle) dear ≡ [])
    × (plan_of (trips_in bundle) dear ≡ None ∷ None ∷ [])
    × (is_some ((links_of (trips_in bundle)).gain 0 0) ≡ false)
    × (is_some ((links_of (trips_in bundle)).gain 0 1) ≡ true)
    × (is_some ((links_of (trips_in bundle)).gain 1 0) ≡ false)
    × (is_some ((links_of (trips_in bundle)).gain 1 1) ≡ false)
    × ((links_of (trips_in bundle)).count ≡ 2)
    × (plan_cost (trips_in bundle) (Some 1 ∷ None ∷ []) ≡ 100000000)
    × (plan_cost (trips_in bundle) (None ∷ None ∷ []) ≡ 200000000)
unfolding trips_in trips_of network_of stops_of by_id least_sum walks_within least_of table_of cells_from cell_of
    values rows cleaned spelling_of value_of value_at fixed_of whole_of plan_faults plan_of form_faults links_in
    faults errors row_whys
texts_read = (refl, refl, refl, refl, refl, refl, refl, refl, refl, refl, refl)

-- ---- one vehicle for both trips is feasible, and no plan costs less

-- the links between the trips: the second one follows the first one, and no other
links_only : (i j : ℕ) → is_some ((links_of (trips_in bundle)).gain i j) ≡ true → (i ≡ 0) × (j ≡ 1)
links_only i j some =
    let within = (trips_links (trips_in bundle) are).within i j some in
    by_numbers i j (subst (λ count. i < count) texts_read.8 within.0)
    (subst (λ count. j < count) texts_read.8 within.1) some
  where
    by_numbers : (i j : ℕ) → i < 2 → j < 2
        → is_some ((links_of (trips_in bundle)).gain i j) ≡ true → (i ≡ 0) × (j ≡ 1)
    by_numbers zero zero a b some = absurd (false≢true (sym texts_read.4 ∙ some))
    by_numbers zero (suc zero) a b some = (refl, refl)
    by_numbers (suc zero) zero a b some = absurd (false≢true (sym texts_read.6 ∙ some))
    by_numbers (suc zero) (suc zero) a b some = absurd (false≢true (sym texts_read.7 ∙ some))
    by_numbers zero (suc (suc more)) a b some = absurd (omega (arith, b))
    by_numbers (suc zero) (suc (suc more)) a b some = absurd (omega (arith, b))
    by_numbers (suc (suc more)) j a b some = absurd (omega (arith, a))

one_vehicle : IsPlan (links_of (trips_in bundle)) (Some 1 ∷ None ∷ [])
one_vehicle = record { each = sym texts_read.8; follow = follow; once = once }
  where
    follow : (i j : ℕ) → next (Some 1 ∷ None ∷ []) i ≡ Some j
        → is_some ((links_of (trips_in bundle)).gain i j) ≡ true
    follow zero j is = subst (λ j. is_some ((links_of (trips_in bundle)).gain 0 j) ≡ true)
        (same_Some 1 j is) texts_read.5
    follow (suc zero) j is = grind (arith, is)
    follow (suc (suc more)) j is = grind (arith, is)

    once : (i other j : ℕ) → next (Some 1 ∷ None ∷ []) i ≡ Some j
        → next (Some 1 ∷ None ∷ []) other ≡ Some j → i ≡ other
    once zero zero j is also = refl
    once zero (suc zero) j is also = grind (arith, also)
    once zero (suc (suc more)) j is also = grind (arith, also)
    once (suc zero) other j is also = grind (arith, is)
    once (suc (suc more)) other j is also = grind (arith, is)

-- what vehicles drive, by the text
driven : (text : List ℕ) → plan_faults (trips_in bundle) text ≡ []
    → ReadsWhatIsDriven (trips_in bundle) text (Ok (plan_of (trips_in bundle) text))
driven text none = reads_driven (trips_in bundle) are text (Ok (plan_of (trips_in bundle) text)) (none, refl)

schedule_there : ScheduleIsFeasible (folder_with schedule)
schedule_there =
    let told = driven schedule texts_read.0 in
    record {
      there = record {
        bundle = bundle;
        given = given schedule;
        faultless = faultless;
        text = schedule;
        stands = there schedule (file_name file.Schedule);
        vehicles = told.0;
        reads = told.1;
        follows = told.2;
        plan = told.3;
      };
      feasible = subst (IsPlan (links_of (trips_in bundle))) (sym texts_read.1) one_vehicle;
    }

-- each plan costs at least one vehicle
no_cheaper : (other : List (Option ℕ)) → IsPlan (links_of (trips_in bundle)) other
    → 100000000 ≤ plan_cost (trips_in bundle) other
no_cheaper [] is = absurd (omega (arith, is.each, texts_read.8))
no_cheaper (a ∷ []) is = absurd (omega (arith, is.each, texts_read.8))
no_cheaper (None ∷ None ∷ []) is = omega (arith, texts_read.10)
no_cheaper (Some j ∷ None ∷ []) is =
    let link = links_only 0 j (is.follow 0 j refl) in
    subst (λ j. 100000000 ≤ plan_cost (trips_in bundle) (Some j ∷ None ∷ [])) (sym link.1)
    (omega (arith, texts_read.9))
no_cheaper (a ∷ Some k ∷ []) is =
    let link = links_only 1 k (is.follow 1 k refl) in absurd (omega (arith, link.0))
no_cheaper (a ∷ b ∷ c ∷ more) is = absurd (omega (arith, is.each, texts_read.8))

-- one vehicle for both trips, which costs 100
pub schedule_is_cheapest : ScheduleIsCheapest (folder_with schedule)
unfolding schedule_there
schedule_is_cheapest = record {
  own = schedule_there;
  cheapest = λ other is. subst (λ cost. cost ≤ plan_cost (trips_in bundle) other)
      (sym (ap (plan_cost (trips_in bundle)) texts_read.1 ∙ texts_read.9)) (no_cheaper other is);
}

-- ---- a vehicle for each trip costs more

same_ok : {A E : Type 0} (a b : A) (one other : Result A E) → one ≡ Ok a → other ≡ Ok b → one ≡ other
    → a ≡ b
same_ok a b one other is also same = cc

-- a vehicle for each trip, which costs 200
pub schedule_is_not_cheapest : ¬ ScheduleIsCheapest (folder_with dear)
unfolding given
schedule_is_not_cheapest is =
    let own = is.own.there in
    let values : own.given.values ≡ map key_default all_keys =
    same_ok _ _ _ _ own.given.settled (given dear).settled refl in
    let same : own.bundle ≡ bundle = same_ok _ _ _ _ own.given.given (given dear).given
    (ap (λ values. bundle_by (text_in (folder_with dear)) values stage.Vehicles) values) in
    let text : own.text ≡ dear =
    same_Some _ _ (sym own.stands ∙ there dear (file_name file.Schedule)) in
    let least = subst (λ bundle. plan_cost (trips_in bundle) (plan_of (trips_in bundle) own.text)
    ≤ plan_cost (trips_in bundle) (Some 1 ∷ None ∷ [])) same (is.cheapest (Some 1 ∷ None ∷ [])
    (subst (λ bundle. IsPlan (links_of (trips_in bundle)) (Some 1 ∷ None ∷ [])) (sym same) one_vehicle)) in
    let told = subst (λ text. plan_cost (trips_in bundle) (plan_of (trips_in bundle) text)
    ≤ plan_cost (trips_in bundle) (Some 1 ∷ None ∷ [])) text least in
    let costs : plan_cost (trips_in bundle) (plan_of (trips_in bundle) dear) ≡ 200000000 =
    ap (plan_cost (trips_in bundle)) texts_read.3 ∙ texts_read.10 in
    omega (arith, told, costs, texts_read.9)

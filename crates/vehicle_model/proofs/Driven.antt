-- What reading a schedule gives, told by vehicles.
use Rattle.plan_num.proofs.Common.{arith, ◌≡◌, ℕ, suc, not, is_some, Bool, true, false, cond, List}
use Rattle.plan_num.proofs.Common.{[], ◌∷◌, ◌++◌, length, map, filter, slice_get, Option, Some}
use Rattle.plan_num.proofs.Common.{None, ◌⊎◌, inl, inr, Result, Ok, Err, refl, ap, sym, ◌∙◌, subst}
use Rattle.plan_num.proofs.Common.{concat, All-weaker, none-some, same_Some, slice_get-map}
use Rattle.event_tables.specs.declared.schedule_row.ScheduleRow.{ScheduleRow}
use Rattle.event_tables.proofs.Common.{schedule_row}
use Rattle.tables.specs.declared.read_fault.RowFault.{RowFault}
use Rattle.tables.proofs.Common.{schedule_columns, Numbered, faults, table_of, records_by}
use Rattle.tables.proofs.Common.{numbered_by}
use Rattle.vehicle_model.specs.declared.plan_fault.PlanFault.{PlanFault}
use Rattle.vehicle_model.specs.declared.plan_fault.PlanFault.TheVariants as fault
use Rattle.vehicle_model.specs.DrivenSchedules.{IsScheduleOf, Drives, IsLateIn, IsPlanOf, ReadsWhatIsDriven}
use Rattle.vehicle_model.specs.ReadSchedules.{Reading, nothing_read, one_more, has_seen, has_form}
use Rattle.vehicle_model.specs.ReadSchedules.{first_row, all_come, form_faults, links_in, is_late}
use Rattle.vehicle_model.specs.ReadSchedules.{follow_faults, or_others, row_faults, plan_faults}
use Rattle.vehicle_model.specs.ReadSchedules.{plan_by, plan_of, PlanGives}
use Rattle.vehicle_model.specs.Trips.{TripsParts, AreTrips, link_minutes}
use Rattle.vehicle_model.proofs.BehindRows.{without_numbers}
use Rattle.vehicle_model.proofs.DrivenBack.{vehicles_read}
use Rattle.vehicle_model.proofs.DrivenForms.{vehicles_of, driven_links}
use Rattle.vehicle_model.proofs.DrivenNext.{plan_is, none_driven, link_driven}
use Rattle.vehicle_model.proofs.DrivenPlans.{each_once, all_fresh}
use Rattle.vehicle_model.proofs.PlanBack.{formed_faultless}
use Rattle.vehicle_model.proofs.PlanRead.{AreFormed}
use Rattle.plan_num.proofs.Lists.{unmapped}

-- ---- rows without a fault of form

none_here : (b : Bool) (why : PlanFault) (rest : List PlanFault) → cond b [] (why ∷ []) ++ rest ≡ []
    → (b ≡ true) × (rest ≡ [])
none_here true why rest e = (refl, e)
none_here false why rest e = cc

all_true : (b : Bool) (why : PlanFault) → cond b [] (why ∷ []) ≡ [] → b ≡ true
all_true true why e = refl
all_true false why e = cc

faultless_formed : (trips : TripsParts) (read : Reading) (rows : List (Numbered ScheduleRow))
    → form_faults trips read rows ≡ [] → AreFormed trips read (map (λ at. at.row) rows)
unfolding form_faults
faultless_formed trips read [] e = all_true (all_come trips (has_seen read)) (fault.Trips 0) e
faultless_formed trips read (at ∷ rows) e =
    let parts = none_here (has_form trips read at.row (first_row rows)) (fault.Trips at.number)
    (form_faults trips (one_more trips read at.row) rows) e in grind (
      arith,
      slice_get-map,
      faultless_formed trips (one_more trips read at.row) rows parts.1,
    )

-- the first fault of form is one of form
form_first : (trips : TripsParts) (read : Reading) (rows : List (Numbered ScheduleRow)) (why : PlanFault)
    → slice_get (form_faults trips read rows) 0 ≡ Some why → (row : ℕ) × (why ≡ fault.Trips row)
unfolding form_faults
form_first trips read [] why e = grind (arith, slice_get, none-some, same_Some)
form_first trips read (at ∷ rows) why e = split (has_form trips read at.row (first_row rows)) e
    (form_first trips (one_more trips read at.row) rows why)
  where
    split : (b : Bool) → slice_get (cond b [] (fault.Trips at.number ∷ [])
        ++ form_faults trips (one_more trips read at.row) rows) 0 ≡ Some why
        → (slice_get (form_faults trips (one_more trips read at.row) rows) 0 ≡ Some why
        → (row : ℕ) × (why ≡ fault.Trips row)) → (row : ℕ) × (why ≡ fault.Trips row)
    split true f rest = rest f
    split false f rest = (at.number, sym (same_Some (fault.Trips at.number) why f))

-- the first of the links that may not follow
record IsFirstLate (trips : TripsParts) (links : List (ℕ × ℕ)) (why : PlanFault) : Type 0 where
  i : ℕ
  j : ℕ
  at : ℕ
  is : slice_get links at ≡ Some (i, j)
  late : is_late trips (i, j) ≡ true
  told : why ≡ fault.Follow j

follow_first : (trips : TripsParts) (links : List (ℕ × ℕ)) (why : PlanFault)
    → slice_get (follow_faults trips links) 0 ≡ Some why → IsFirstLate trips links why
follow_first trips [] why e = absurd (none-some why e)
follow_first trips (link ∷ links) why e = split (is_late trips link) refl e (follow_first trips links why)
  where
    later : IsFirstLate trips links why → IsFirstLate trips (link ∷ links) why
    later it = record { i = it.i; j = it.j; at = suc it.at; is = it.is; late = it.late; told = it.told }

    split : (b : Bool) → is_late trips link ≡ b
        → slice_get (map (λ (at : ℕ × ℕ). fault.Follow at.1) (cond b (link ∷ filter (is_late trips) links)
        (filter (is_late trips) links))) 0 ≡ Some why
        → (slice_get (follow_faults trips links) 0 ≡ Some why → IsFirstLate trips links why)
        → IsFirstLate trips (link ∷ links) why
    split true is f rest = record {
      i = link.0;
      j = link.1;
      at = 0;
      is = refl;
      late = is;
      told = sym (same_Some (fault.Follow link.1) why f);
    }
    split false is f rest = later (rest f)

-- ---- faults by parts

or_none : {X : Type 0} (xs ys : List X) → or_others xs ys ≡ [] → (xs ≡ []) × (ys ≡ [])
or_none [] ys e = (refl, e)
or_none (x ∷ xs) ys e = cc

or_first : {X : Type 0} (xs ys : List X) (x : X) → slice_get (or_others xs ys) 0 ≡ Some x
    → (slice_get xs 0 ≡ Some x) ⊎ ((xs ≡ []) × (slice_get ys 0 ≡ Some x))
or_first [] ys x e = inr (refl, e)
or_first (y ∷ xs) ys x e = inl e

row_first : (all : List RowFault) (why : PlanFault)
    → slice_get (map (λ first. fault.Row first) all) 0 ≡ Some why
    → (first : RowFault) × ((slice_get all 0 ≡ Some first) × (why ≡ fault.Row first))
row_first [] why e = absurd (none-some why e)
row_first (first ∷ all) why e = (first, (refl, sym (same_Some (fault.Row first) why e)))

row_same : (first other : RowFault) → fault.Row first ≡ fault.Row other → first ≡ other
row_same first other e = cc

follow_same : (i j : ℕ) → fault.Follow i ≡ fault.Follow j → i ≡ j
follow_same i j e = cc

row_no_trips : (first : RowFault) (row : ℕ) → fault.Row first ≡ fault.Trips row → ⊥
row_no_trips first row e = cc

row_no_follow : (first : RowFault) (j : ℕ) → fault.Row first ≡ fault.Follow j → ⊥
row_no_follow first j e = cc

trips_no_follow : (row j : ℕ) → fault.Trips row ≡ fault.Follow j → ⊥
trips_no_follow row j e = cc

in_time : {X : Type 0} (at : Option X) → not (is_some at) ≡ false → is_some at ≡ true
in_time None h = cc
in_time (Some x) h = refl

late_none : {X : Type 0} (at : Option X) → not (is_some at) ≡ true → at ≡ None
late_none None h = refl
late_none (Some x) h = cc

module _ (trips : TripsParts) (are : AreTrips trips) (text : List ℕ) where
  abbrev rows : List ScheduleRow
  rows = records_by schedule_row (table_of schedule_columns text)

  abbrev numbered : List (Numbered ScheduleRow)
  numbered = numbered_by schedule_row (table_of schedule_columns text)

  -- rows without a fault of form are the schedule of vehicles
  schedule_is : form_faults trips nothing_read numbered ≡ []
      → (vehicles : List (List ℕ)) × IsScheduleOf trips vehicles rows
  schedule_is none =
      let it = vehicles_of trips rows (subst (AreFormed trips nothing_read)
      (without_numbers (table_of schedule_columns text)) (faultless_formed trips nothing_read numbered none)) in
      grind (arith, each_once)

  -- and the schedule of vehicles has no fault of form, and has their links
  module _ (vehicles : List (List ℕ)) (is : IsScheduleOf trips vehicles rows) where
    they_read : AreFormed trips nothing_read rows × (links_in trips nothing_read rows ≡ driven_links vehicles)
    they_read = vehicles_read trips are rows vehicles is.busy
        (all_fresh (length trips.trips) (concat vehicles) is.once) is.written

    no_fault : form_faults trips nothing_read numbered ≡ []
    no_fault = grind (arith, formed_faultless, AreFormed, without_numbers, they_read)

    links_are : links_in trips nothing_read (map (λ at. at.row) numbered) ≡ driven_links vehicles
    links_are = ap (links_in trips nothing_read) (without_numbers (table_of schedule_columns text)) ∙ they_read.1

  taken : (plan : List (Option ℕ)) → plan_faults trips text ≡ [] → plan ≡ plan_of trips text
      → ReadsWhatIsDriven trips text (Ok plan)
  unfolding plan_faults plan_of
  taken plan none same =
      let parts = or_none (map (λ first. fault.Row first) (faults schedule_columns text))
      (row_faults trips numbered) none in
      let rows_none = or_none (form_faults trips nothing_read numbered)
      (follow_faults trips (links_in trips nothing_read (map (λ at. at.row) numbered))) parts.1 in
      let it = schedule_is rows_none.0 in
      let links = links_are it.0 it.1 in
      let in_times = unmapped (λ (link : ℕ × ℕ). fault.Follow link.1) (filter (is_late trips) (driven_links it.0))
      (ap (follow_faults trips) (sym links) ∙ rows_none.1) in (
        it.0,
        record { table = unmapped (λ first. fault.Row first) (faults schedule_columns text) parts.0; schedule = it.1 },
        All-weaker (λ driven. (i j : ℕ) → Drives driven i j → is_late trips (i, j) ≡ false)
            (λ driven. (i j : ℕ) → Drives driven i j → is_some (link_minutes trips i j) ≡ true)
            (λ driven none_late i j drives. in_time (link_minutes trips i j) (none_late i j drives))
            it.0 (none_driven (is_late trips) it.0 in_times),
        subst (IsPlanOf (length trips.trips) it.0)
            (sym (same ∙ ap (plan_by (length trips.trips)) (they_read it.0 it.1).1))
            (plan_is (length trips.trips) it.0 it.1.busy
            (all_fresh (length trips.trips) (concat it.0) it.1.once)),
      )

  -- the parts of a first fault
  record IsFault (why : PlanFault) : Type 0 where
    told : (slice_get (map (λ first. fault.Row first) (faults schedule_columns text)) 0 ≡ Some why)
        ⊎ ((faults schedule_columns text ≡ []) × ((slice_get (form_faults trips nothing_read numbered) 0 ≡ Some why)
        ⊎ ((form_faults trips nothing_read numbered ≡ [])
        × (slice_get (follow_faults trips (links_in trips nothing_read (map (λ at. at.row) numbered))) 0 ≡ Some why))))

  is_fault : (why : PlanFault) → slice_get (plan_faults trips text) 0 ≡ Some why → IsFault why
  unfolding plan_faults
  is_fault why e = grind (arith, or_first, unmapped)

  no_table : (first : RowFault) → IsFault (fault.Row first) → ReadsWhatIsDriven trips text (Err (fault.Row first))
  no_table first it = elim it.told [
    | inl at ↦ grind (arith, row_first, row_same)
    | inr rest ↦ elim rest.1 [
      | inl form ↦
          let found = form_first trips nothing_read numbered (fault.Row first) form in
          absurd (row_no_trips first found.0 found.1)
      | inr follow ↦
          let found = follow_first trips (links_in trips nothing_read (map (λ at. at.row) numbered))
          (fault.Row first) follow.1 in
          absurd (row_no_follow first found.j found.told)
    ]
  ]

  no_vehicles : (row : ℕ) → IsFault (fault.Trips row) → ReadsWhatIsDriven trips text (Err (fault.Trips row))
  no_vehicles row it = λ vehicles is. elim it.told [
    | inl at ↦ absurd (none_at (faults schedule_columns text) is.table at)
    | inr rest ↦ elim rest.1 [
      | inl form ↦ grind (arith, no_fault)
      | inr follow ↦
          let found = follow_first trips (links_in trips nothing_read (map (λ at. at.row) numbered))
          (fault.Trips row) follow.1 in
          absurd (trips_no_follow row found.j found.told)
    ]
  ]
    where
      none_at : (all : List RowFault) → all ≡ []
          → slice_get (map (λ first. fault.Row first) all) 0 ≡ Some (fault.Trips row) → ⊥
      none_at [] none e = none-some (fault.Trips row) e
      none_at (first ∷ all) none e = cc

  late : (j : ℕ) → IsFault (fault.Follow j) → ReadsWhatIsDriven trips text (Err (fault.Follow j))
  late j it = elim it.told [
    | inl at ↦ grind (arith, row_first, row_no_follow)
    | inr rest ↦ elim rest.1 [
      | inl form ↦
          let found = form_first trips nothing_read numbered (fault.Follow j) form in
          absurd (trips_no_follow found.0 j (sym found.1))
      | inr follow ↦ (
        (let all = schedule_is follow.0 in (all.0, record { table = rest.0; schedule = all.1 })),
        λ vehicles is. late_in vehicles is.schedule (follow_first trips
            (links_in trips nothing_read (map (λ at. at.row) numbered)) (fault.Follow j) follow.1),
      )
    ]
  ]
    where
      late_in : (vehicles : List (List ℕ)) → IsScheduleOf trips vehicles rows
          → IsFirstLate trips (links_in trips nothing_read (map (λ at. at.row) numbered)) (fault.Follow j)
          → IsLateIn trips vehicles j
      late_in vehicles is found =
          let same : found.j ≡ j = sym (follow_same j found.j found.told) in
          let it = link_driven vehicles found.at found.i found.j
          (sym (ap (λ links. slice_get links found.at) (links_are vehicles is)) ∙ found.is) in record {
            vehicle = it.vehicle;
            driven = it.driven;
            is = it.is;
            i = found.i;
            drives = subst (Drives it.driven found.i) same it.drives;
            late = sym (ap (link_minutes trips found.i) same)
                ∙ late_none (link_minutes trips found.i found.j) found.late;
          }

  pub reads_driven : (result : Result (List (Option ℕ)) PlanFault)
      → PlanGives (plan_faults trips text) (plan_of trips text) result → ReadsWhatIsDriven trips text result
  reads_driven (Ok plan) gives = taken plan gives.0 gives.1
  reads_driven (Err (fault.Row first)) gives = no_table first (is_fault (fault.Row first) gives)
  reads_driven (Err (fault.Trips row)) gives = no_vehicles row (is_fault (fault.Trips row) gives)
  reads_driven (Err (fault.Follow j)) gives = late j (is_fault (fault.Follow j) gives)
  reads_driven (Err fault.NoMemory) gives = tt

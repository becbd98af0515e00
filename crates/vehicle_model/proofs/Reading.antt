-- What a reader of a schedule knows behind each row.
use Rattle.plan_num.proofs.Common.{◌≡◌, ◌≢◌, ℕ, zero, suc, ◌<◌, ◌==◌, ◌||◌, nat_eq, not, is_some}
use Rattle.plan_num.proofs.Common.{Bool, true, false, cond, List, [], ◌∷◌, ◌++◌, length, get_or}
use Rattle.plan_num.proofs.Common.{slice_get, slice_set, replicate, position, Option, Some, None}
use Rattle.plan_num.proofs.Common.{IfSome, option_map, refl, ap, sym, ◌∙◌, subst, arith, eq-eqb}
use Rattle.plan_num.proofs.Common.{inl, inr, get_or-set_same, get_or-set_other, list_any}
use Rattle.plan_num.proofs.Common.{option_to_list, false≢true, ne_eqb, or_parts}
use Rattle.plan_num.proofs.Common.{length-set, length-replicate, append-nil, fold_push}
use Rattle.plan_num.proofs.Common.{position-Some, none-some, same_Some}
use Rattle.event_tables.specs.declared.schedule_row.ScheduleRow.{ScheduleRow}
use Rattle.event_tables.proofs.Common.{is_empty_row}
use Rattle.link_plans.proofs.Common.{next, is_next, AreSuccessors, by_number, none_next}
use Rattle.link_plans.proofs.Common.{none_linked, next_in, next_before, not_linked, linked}
use Rattle.link_plans.proofs.Common.{never_next}
use Rattle.vehicle_model.specs.ReadSchedules.{Reading, nothing_read, one_more, trip_in, begins}
use Rattle.vehicle_model.specs.ReadSchedules.{last_seen, has_seen, row_fits, has_form}
use Rattle.vehicle_model.specs.ReadSchedules.{same_run, link_of, link_to, plan_by}
use Rattle.vehicle_model.specs.Readers.{ReaderParts, late_after, after_link, after_trip, after_row}
use Rattle.vehicle_model.specs.Readers.{late_of, CanLink, Knows}
use Rattle.vehicle_model.specs.Trips.{TripsParts, link_minutes}

-- ---- before all rows

none_come : (n i : ℕ) → get_or (replicate n false) i false ≡ false
none_come zero i = refl
none_come (suc n) zero = refl
none_come (suc n) (suc i) = none_come n i

pub knows_nothing : (trips : TripsParts) (n : ℕ) (come : List Bool) (plan : List (Option ℕ))
    → n ≡ length trips.trips → come ≡ replicate n false → plan ≡ replicate n None
    → Knows trips nothing_read [] (record { before = None; last = None; come = come; plan = plan; late = None })
knows_nothing trips n come plan counted come_is plan_is = record {
  over = grind (arith, length-replicate);
  before = refl;
  last = refl;
  come = λ i. ap (λ some. get_or some i false) come_is ∙ none_come n i;
  plan = plan_is ∙ ap (λ k. replicate k None) counted;
  late = refl;
  successors = subst AreSuccessors (sym plan_is) (none_linked n);
  free = λ i e. absurd (none-some i e);
  unseen = λ k h. (
    ap (λ some. next some k) plan_is ∙ none_next n k,
    ap (λ some. is_next some k) plan_is
        ∙ never_next (replicate n None) k (λ i e. none-some k (sym (none_next n i) ∙ e)),
  );
  follow = λ h i j e. absurd (none-some j (sym (none_next n i) ∙ sym (ap (λ some. next some i) plan_is) ∙ e));
}

-- ---- a link more

first_late : (trips : TripsParts) (link : ℕ × ℕ) (links : List (ℕ × ℕ))
    → late_of trips (links ++ link ∷ []) ≡ late_after trips link.0 link.1 (late_of trips links)
first_late trips link [] = grind (arith, is_some, option_map, slice_get)
first_late trips link (first ∷ links) = grind (
  arith,
  option_map,
  slice_get,
  first_late trips link
      links,
)

plan_more : (n : ℕ) (links : List (ℕ × ℕ)) (i j : ℕ)
    → plan_by n (links ++ (i, j) ∷ []) ≡ slice_set (plan_by n links) i (Some j)
plan_more n links i j = fold_push (λ plan link. slice_set plan link.0 (Some link.1)) (replicate n None) links (i, j)

none_late : (trips : TripsParts) (i j : ℕ) (late : Option ℕ) → late_after trips i j late ≡ None
    → (late ≡ None) × (is_some (link_minutes trips i j) ≡ true)
none_late trips i j (Some late) e = absurd (none-some late (sym e))
none_late trips i j None e = grind (arith, is_some, none-some)

-- ---- what a row that has its form tells

-- the trip of such a row has not come before
pub new_trip : (trips : TripsParts) (before : Option ScheduleRow) (last : Option ℕ) (come : ℕ → Bool)
    (row : ScheduleRow) (after : Option ScheduleRow) (j : ℕ)
    → row_fits trips before last come row after ≡ true → trip_in trips row ≡ Some j → come j ≡ false
new_trip trips before last come row after j fits is = split (is_empty_row row) refl
  where
    split : (b : Bool) → is_empty_row row ≡ b → come j ≡ false
    split true e = absurd (none-some j (sym (ap (λ b. cond b None (position (same_run row.run) trips.trips)) e) ∙ is))
    split false e = grind arith

-- a trip is one of the trips
pub trip_within : (trips : TripsParts) (row : ScheduleRow) (j : ℕ) → trip_in trips row ≡ Some j
    → j < length trips.trips
trip_within trips row j is = grind (arith, none-some, position-Some)

-- the last trip has come
last_come : (seen : List ℕ) (i : ℕ) → slice_get seen 0 ≡ Some i → list_any (nat_eq i) seen ≡ true
last_come [] i e = absurd (none-some i e)
last_come (first ∷ seen) i e = ap (λ b. b || list_any (nat_eq i) seen) (eq-eqb i first (sym (same_Some first i e)))

-- without a trip there is no link
pub no_link : (b : Bool) (last : Option ℕ) → link_of b last None ≡ None
no_link true last = refl
no_link false None = refl
no_link false (Some i) = refl

-- ---- a row more

module _ (trips : TripsParts) (read : Reading) (links : List (ℕ × ℕ)) (reader : ReaderParts)
    (knows : Knows trips read links reader) where
  count : ℕ
  count = length trips.trips

  seen_apart : (i k : ℕ) → reader.last ≡ Some i → has_seen read k ≡ false → k ≢ i
  seen_apart i k last unseen same = false≢true (sym unseen ∙ ap (has_seen read) same
      ∙ last_come read.seen i (sym knows.last ∙ last))

  last_within : (i : ℕ) → reader.last ≡ Some i → i < length trips.trips
  last_within i e = subst (λ at. IfSome at (λ k. k < length trips.trips)) e knows.over.last

  -- what is known of a trip that has not come
  module _ (row : ScheduleRow) (j : ℕ) (is : trip_in trips row ≡ Some j) (new : has_seen read j ≡ false) where
    come_more : (k : ℕ) → get_or (slice_set reader.come j true) k false ≡ ((k == j) || has_seen read k)
    come_more k =
        grind (
          arith,
          by_number,
          get_or,
          slice_set,
          get_or-set_same,
          trip_within,
          eq-eqb,
          get_or-set_other,
          ne_eqb,
        )

    -- it comes without a link, or with one
    pub comes : (links_after : List (ℕ × ℕ)) (plan : List (Option ℕ)) (late : Option ℕ)
        → length plan ≡ length trips.trips → plan ≡ plan_by (length trips.trips) links_after
        → late ≡ late_of trips links_after → AreSuccessors plan → next plan j ≡ None
        → ((k : ℕ) → k ≢ j → has_seen read k ≡ false → (next plan k ≡ None) × (is_next plan k ≡ false))
        → (late ≡ None → (i k : ℕ) → next plan i ≡ Some k → is_some (link_minutes trips i k) ≡ true)
        → Knows trips (record { before = Some row; seen = j ∷ read.seen }) links_after
        (record { before = Some row; last = Some j; come = slice_set reader.come j true; plan = plan; late = late })
    comes links_after plan late size plan_is late_is are free unseen follow =
        grind (arith, length-set, trip_within, come_more, same_Some, or_parts, false≢true, eq-eqb)

    pub alone : Knows trips (record { before = Some row; seen = j ∷ read.seen }) (links ++ [])
        (record {
          before = Some row;
          last = Some j;
          come = slice_set reader.come j true;
          plan =
              reader.plan;
          late = reader.late;
        })
    alone = grind (arith, comes, append-nil)

    module _ (i : ℕ) (last : reader.last ≡ Some i) where
      within : i < length reader.plan
      within = omega (arith, knows.over.plan, last_within i last)

      pub can_link : CanLink reader.plan (i, j)
      can_link = grind arith

      pub behind_link : Knows trips (record { before = Some row; seen = j ∷ read.seen }) (links ++ (i, j) ∷ [])
          (record {
            before = Some row;
            last = Some j;
            come = slice_set reader.come j true;
            plan = slice_set reader.plan i (Some j);
            late = late_after trips i j reader.late;
          })
      behind_link = comes (links ++ (i, j) ∷ []) (slice_set reader.plan i (Some j)) (late_after trips i j reader.late)
          (length-set reader.plan i (Some j) ∙ knows.over.plan)
          (ap (λ plan. slice_set plan i (Some j)) knows.plan ∙ sym (plan_more (length trips.trips) links i j))
          (ap (late_after trips i j) knows.late ∙ sym (first_late trips (i, j) links))
          (linked reader.plan i j within knows.successors can_link.to can_link.apart)
          (next_in reader.plan i j within j (seen_apart i j last new) ∙ (knows.unseen j new).0)
          (λ k apart h. (
            next_in reader.plan i j within k (seen_apart i k last h) ∙ (knows.unseen k h).0,
            not_linked reader.plan i j within k apart (knows.unseen k h).1,
          ))
          (λ none one k e.
          let parts = none_late trips i j reader.late none in
          elim (next_before reader.plan i j within one k e) as (λ _. is_some (link_minutes trips one k) ≡ true) [
            | inl at ↦ grind (arith, is_some)
            | inr was ↦ knows.follow parts.0 one k was
          ])

  -- a row without a trip
  pub passed : (row : ScheduleRow) → Knows trips (record { before = Some row; seen = read.seen }) (links ++ [])
      (after_row row reader)
  passed row = grind (arith, append-nil)

  -- ---- by cases

  module _ (row : ScheduleRow) (after : Option ScheduleRow) (form : has_form trips read row after ≡ true) where
    -- the link of a row can be added
    pub links_can : IfSome (link_of (begins reader.before row) reader.last (trip_in trips row)) (CanLink reader.plan)
    links_can = split (begins reader.before row) reader.last (trip_in trips row) refl refl
      where
        split : (b : Bool) (last trip : Option ℕ) → reader.last ≡ last → trip_in trips row ≡ trip
            → IfSome (link_of b last trip) (CanLink reader.plan)
        split true last trip e f = tt
        split false None trip e f = tt
        split false (Some i) None e f = tt
        split false (Some i) (Some j) e f = can_link row j f
            (new_trip trips read.before (last_seen read) (has_seen read) row after j form f) i e

    -- and behind the row it is known what was read
    pub knows_more : Knows trips (one_more trips read row) (links ++ option_to_list (link_to trips read row))
        (after_row row (after_trip (trip_in trips row) (after_link trips
        (link_of (begins reader.before row) reader.last (trip_in trips row)) reader)))
    knows_more = subst
        (λ link. Knows trips (one_more trips read row) (links ++ option_to_list link)
        (after_row row (after_trip (trip_in trips row) (after_link trips
        (link_of (begins reader.before row) reader.last (trip_in trips row)) reader))))
        (ap (λ before. link_of (begins before row) reader.last (trip_in trips row)) knows.before
        ∙ ap (λ last. link_of (begins read.before row) last (trip_in trips row)) knows.last)
        (split (begins reader.before row) reader.last (trip_in trips row) refl refl)
      where
        After : Option (ℕ × ℕ) → Option ℕ → Type 0
        After link trip = Knows trips (record { before = Some row; seen = option_to_list trip ++ read.seen })
            (links ++ option_to_list link) (after_row row (after_trip trip (after_link trips link reader)))

        split : (b : Bool) (last trip : Option ℕ) → reader.last ≡ last → trip_in trips row ≡ trip
            → After (link_of b last trip) trip
        split true last None e f = passed row
        split false None None e f = passed row
        split false (Some i) None e f = passed row
        split true last (Some j) e f = alone row j f
            (new_trip trips read.before (last_seen read) (has_seen read) row after j form f)
        split false None (Some j) e f = alone row j f
            (new_trip trips read.before (last_seen read) (has_seen read) row after j form f)
        split false (Some i) (Some j) e f = behind_link row j f
            (new_trip trips read.before (last_seen read) (has_seen read) row after j form f) i e

-- The stops of trips, one after the other, and looking up dead minutes by them.
use Rattle.plan_num.proofs.Common.{◌≡◌, ℕ, ℤ, pos, ◌+◌, ◌<◌, List, [], ◌∷◌, ◌++◌, length, map, take}
use Rattle.plan_num.proofs.Common.{get_or, slice_get, unsigned_abs, All, Option, Some, None}
use Rattle.plan_num.proofs.Common.{option_map, refl, ap, sym, ◌∙◌, subst, arith, range_with_len}
use Rattle.plan_num.proofs.Common.{take_more, map-append, length-map, get_or-map, get_or_default}
use Rattle.plan_num.proofs.Common.{All-push, get_or-range_with_len, length-range_with_len}
use Rattle.plan_num.proofs.Common.{slice_get-map, slice_get-get_or, get_or_from_slice_get}
use Rattle.plan_num.proofs.Common.{same_Some}
use Rattle.event_tables.specs.declared.trip.Trip.{Trip}
use Rattle.walks.proofs.Common.{NetworkParts, edge_time, least_sum, IsLeastSum}
use Rattle.vehicle_model.specs.DeadTables.{DeadTable, AreTimesFrom, HasTimesFrom, IsDeadTable, AreDeadMinutes}
use Rattle.vehicle_model.specs.Schedules.{no_trip}
use Rattle.vehicle_model.specs.Trips.{start_stop, end_stop}
use Rattle.plan_num.proofs.Lists.{back_again}

-- the stop of one trip more
pub stops_more : {X : Type 0} (f : X → ℕ) (xs : List X) (i : ℕ) (d : X) (stops : List ℕ) (stop : ℕ)
    (new : List ℕ) → i < length xs → stops ≡ map f (take i xs) → stop ≡ f (get_or xs i d)
    → new ≡ stops ++ stop ∷ [] → new ≡ map f (take (i + 1) xs)
stops_more f xs i d stops stop new within so_far here added =
    added ∙ ap (λ some. some ++ stop ∷ []) so_far ∙ ap (λ one. map f (take i xs) ++ one ∷ []) here
    ∙ sym (map-append f (take i xs) (get_or xs i d ∷ []))
    ∙ ap (map f) (sym (take_more xs i d within))

-- it is within the network like those before it
pub within_more : (n : ℕ) (stops : List ℕ) (stop : ℕ) (new : List ℕ) → All (λ at. at < n) stops
    → stop < n → new ≡ stops ++ stop ∷ [] → All (λ at. at < n) new
within_more n stops stop new before here added =
    subst (All (λ at. at < n)) (sym added) (All-push (λ at. at < n) stops stop before here)

-- ---- looking up

pub time_at : (network : NetworkParts) (from to : ℕ) (times : List (Option ℤ)) (at : Option ℤ)
    → AreTimesFrom network from times → to < length network.stops → slice_get times to ≡ Some at
    → (option_map unsigned_abs at ≡ least_sum network edge_time from to)
    × IsLeastSum network.edges edge_time from to (option_map unsigned_abs at)
time_at network from to times at are within here =
    let stops = range_with_len 0 (length network.stops) in
    let told : ℕ → Option ℤ = λ stop. option_map pos (least_sum network edge_time from stop) in
    let place : slice_get stops to ≡ Some to =
    slice_get-get_or stops to 0 (subst (λ n. to < n) (sym (length-range_with_len 0 (length network.stops))) within)
    ∙ ap Some (get_or-range_with_len 0 (length network.stops) to 0 within ∙ omega arith) in
    let is : Some at ≡ Some (told to) =
    sym here ∙ ap (λ some. slice_get some to) are.sums ∙ slice_get-map told stops to ∙ ap (option_map told) place in (
      ap (option_map unsigned_abs) (same_Some at (told to) is) ∙ back_again (least_sum network edge_time from to),
      subst (λ some. IsLeastSum network.edges edge_time from to (option_map unsigned_abs some))
          (get_or_from_slice_get times to at None here) (are.least to within),
    )

-- what is found in a table for two trips
pub record IsFound (network : NetworkParts) (trips : List Trip) (i j from to : ℕ) (times : List (Option ℤ)) :
    Type 0 where
  pub from_is : from ≡ end_stop network (get_or trips i no_trip)
  pub to_is : to ≡ start_stop network (get_or trips j no_trip)
  pub within : to < length network.stops
  pub are : AreTimesFrom network from times

stop_at : (f : Trip → ℕ) (trips : List Trip) (stops : List ℕ) (i stop : ℕ) → stops ≡ map f trips
    → i < length stops → stop ≡ get_or stops i stop → stop ≡ f (get_or trips i no_trip)
stop_at f trips stops i stop are within is = grind (arith, get_or, get_or-map, length-map)

pub found : (network : NetworkParts) (trips : List Trip) (table : DeadTable) (i j : ℕ)
    → IsDeadTable network trips table → i < length table.ends → j < length table.starts
    → (from to : ℕ) → from ≡ get_or table.ends i from → to ≡ get_or table.starts j to
    → (at : Option (List (Option ℤ))) → at ≡ get_or table.times from at
    → (times : List (Option ℤ)) → at ≡ Some times → IsFound network trips i j from to times
found network trips table i j is in_ends in_starts from to from_is to_is at at_is times has = record {
  from_is = stop_at (end_stop network) trips table.ends i from is.ends in_ends from_is;
  to_is = stop_at (start_stop network) trips table.starts j to is.starts in_starts to_is;
  within = subst (λ stop. stop < length network.stops) (sym to_is) (is.starts_within j to in_starts);
  are = subst (HasTimesFrom network from) (same ∙ has)
      (subst (λ stop. HasTimesFrom network stop (get_or table.times stop None)) (sym from_is)
      (is.times i from in_ends));
}
  where
    inside : from < length table.times
    inside = grind arith

    same : get_or table.times from None ≡ at
    same = get_or_default table.times from None at inside ∙ sym at_is

-- the dead minutes that are told
pub told : (network : NetworkParts) (trips : List Trip) (i j from to : ℕ) (times : List (Option ℤ))
    (at : Option ℤ) (minutes : Option ℕ) → IsFound network trips i j from to times
    → slice_get times to ≡ Some at → minutes ≡ option_map unsigned_abs at
    → AreDeadMinutes network trips i j minutes
told network trips i j from to times at minutes is here told_as =
    let found_at = time_at network from to times at is.are is.within here in grind (arith, get_or)

-- there are times to each stop
pub times_size : (network : NetworkParts) (from : ℕ) (times : List (Option ℤ)) (to : ℕ)
    → AreTimesFrom network from times → to < length network.stops → to < length times
times_size network from times to are within =
    grind (arith, length-range_with_len, length-map, option_map)

-- Which trip may follow which, by the numbers of trips; what links gain at most.
use Rattle.plan_num.proofs.Common.{◌≡◌, ◌↔◌, ℕ, ℤ, pos, ◌+◌, ◌<◌, ◌≤◌, ◌≤ℤ◌, nat_le, Bool, true}
use Rattle.plan_num.proofs.Common.{List, length, slice_get, is_some, Option, Some, None, option_map}
use Rattle.plan_num.proofs.Common.{option_and_then, IfSome, ap, sym, ◌∙◌, arith, false≢true}
use Rattle.plan_num.proofs.Common.{leb-true, le-leb, ints, none-some, same_Some, slice_get-get_or}
use Rattle.plan_num.proofs.Common.{slice_get_within, get_or_from_slice_get}
use Rattle.event_tables.specs.declared.trip.Trip.{Trip}
use Rattle.walks.specs.declared.edge.Edge.{Edge}
use Rattle.walks.proofs.Common.{edge_time, IsLeastSum}
use Rattle.link_plans.proofs.Common.{some_of}
use Rattle.vehicle_model.specs.Schedules.{trip_of, no_trip, dead_between}
use Rattle.vehicle_model.specs.Trips.{TripsParts, AreTrips, MayFollow, start_stop, end_stop}
use Rattle.vehicle_model.specs.Trips.{if_in_time, link_between, link_minutes, gain_of, links_of}

-- the trip of a number
pub trip_at : (trips : TripsParts) (i : ℕ) → i < length trips.trips
    → slice_get trips.trips i ≡ Some (trip_of trips i)
trip_at trips i within = slice_get-get_or trips.trips i no_trip within

-- the link between two trips, by what they are
pub link_is : (trips : TripsParts) (i j : ℕ) → i < length trips.trips → j < length trips.trips
    → link_minutes trips i j ≡ link_between trips (trip_of trips i) (trip_of trips j)
link_is trips i j from to = grind (arith, option_and_then, slice_get, trip_at)

-- the same by the dead minutes between them
pub link_some : (trips : TripsParts) (i j minutes : ℕ) → i < length trips.trips
    → j < length trips.trips → dead_between trips i j ≡ Some minutes
    → link_minutes trips i j ≡ if_in_time trips (trip_of trips i) (trip_of trips j) minutes
link_some trips i j minutes from to dead = link_is trips i j from to
    ∙ ap (option_and_then (if_in_time trips (trip_of trips i) (trip_of trips j))) dead

pub link_none : (trips : TripsParts) (i j : ℕ) → i < length trips.trips → j < length trips.trips
    → dead_between trips i j ≡ None → link_minutes trips i j ≡ None
link_none trips i j from to dead = link_is trips i j from to
    ∙ ap (option_and_then (if_in_time trips (trip_of trips i) (trip_of trips j))) dead

-- what is known of a link: both trips are there, and there is time between them
pub record IsLink (trips : TripsParts) (i j minutes : ℕ) : Type 0 where
  pub from : i < length trips.trips
  pub to : j < length trips.trips
  pub dead : dead_between trips i j ≡ Some minutes
  pub in_time : (trip_of trips i).end.time + trips.turnover + minutes
      ≤ (trip_of trips j).start.time

in_time_is : (trips : TripsParts) (before after : Trip) (dead : Option ℕ) (minutes : ℕ)
    → option_and_then (if_in_time trips before after) dead ≡ Some minutes
    → (dead ≡ Some minutes) × (before.end.time + trips.turnover + minutes ≤ after.start.time)
in_time_is trips before after None minutes e = absurd (none-some minutes e)
in_time_is trips before after (Some dead) minutes e = grind (
  arith,
  nat_le,
  none-some,
  same_Some,
  leb-true,
)

both_there : (trips : TripsParts) (i j minutes : ℕ) → link_minutes trips i j ≡ Some minutes
    → (i < length trips.trips) × (j < length trips.trips)
both_there trips i j minutes e = grind (
  arith,
  slice_get,
  option_and_then,
  none-some,
  slice_get_within,
)

pub is_link : (trips : TripsParts) (i j minutes : ℕ) → link_minutes trips i j ≡ Some minutes
    → IsLink trips i j minutes
is_link trips i j minutes e =
    let there = both_there trips i j minutes e in
    let parts = in_time_is trips (trip_of trips i) (trip_of trips j) (dead_between trips i j) minutes
    (sym (link_is trips i j there.0 there.1) ∙ e) in grind arith

-- what a link gains
pub gain_is : (trips : TripsParts) (i j : ℕ) (gain : ℤ) → (links_of trips).gain i j ≡ Some gain
    → (minutes : ℕ) × ((link_minutes trips i j ≡ Some minutes) × (gain ≡ gain_of trips minutes))
gain_is trips i j gain e = grind (arith, option_map, none-some, same_Some)

-- no link gains more than a vehicle costs
pub gain_most : (trips : TripsParts) (minutes : ℕ) → gain_of trips minutes ≤ℤ pos trips.vehicle
gain_most trips minutes = omega (arith, ints)

pub links_most : (trips : TripsParts) (i j : ℕ)
    → IfSome ((links_of trips).gain i j) (λ gain. gain ≤ℤ pos trips.vehicle)
links_most trips i j = grind (arith, option_map, gain_most)

-- links are between trips that are there
pub links_within : (trips : TripsParts) (i j : ℕ) → is_some ((links_of trips).gain i j) ≡ true
    → (i < length trips.trips) × (j < length trips.trips)
links_within trips i j h = grind (arith, some_of, gain_is, both_there)

-- a link has a gain where it has minutes
pub gain_there : (trips : TripsParts) (i j : ℕ)
    → is_some ((links_of trips).gain i j) ≡ is_some (link_minutes trips i j)
gain_there trips i j = grind (arith, is_some, option_map)

-- ---- by walks

-- two least sums of all walks are one
pub one_least : (edges : List Edge) (weight : Edge → ℕ) (from to : ℕ) (at : Option ℕ) (least : ℕ)
    → IsLeastSum edges weight from to at → IsLeastSum edges weight from to (Some least)
    → at ≡ Some least
one_least edges weight from to None least none is = absurd (none is.0.0 is.0.1)
one_least edges weight from to (Some other) least has is =
    ap Some (omega (arith, has.1 is.0.0 is.0.1, is.1 has.0.0 has.0.1, is.0.2, has.0.2))

module _ (trips : TripsParts) (i j : ℕ) (from : i < length trips.trips) (to : j < length trips.trips)
    (least : IsLeastSum trips.network.edges edge_time
    (end_stop trips.network (trip_of trips i)) (start_stop trips.network (trip_of trips j))
    (dead_between trips i j)) where
  -- a link that has minutes may follow
  pub may_follow : (minutes : ℕ) → link_minutes trips i j ≡ Some minutes → MayFollow trips i j minutes
  may_follow minutes e = grind (arith, is_link, trip_at)

  -- and the other way round
  pub may_minutes : (minutes : ℕ) → MayFollow trips i j minutes → link_minutes trips i j ≡ Some minutes
  may_minutes minutes may =
      let before = get_or_from_slice_get trips.trips i may.before no_trip may.before_at in
      let after = get_or_from_slice_get trips.trips j may.after no_trip may.after_at in grind
      (arith, one_least, link_is, option_and_then, le-leb)

  -- an option that is the minutes of the link
  pub all_follow : (at : Option ℕ) → at ≡ link_minutes trips i j → IfSome at (MayFollow trips i j)
  all_follow None is = tt
  all_follow (Some minutes) is = may_follow minutes (sym is)

-- whether there is a link, by what is known of its minutes
pub follow_of : (trips : TripsParts) (i j : ℕ) (at : Option ℕ) (is : Bool) → is ≡ is_some at
    → IfSome at (MayFollow trips i j)
    → ((minutes : ℕ) → MayFollow trips i j minutes → at ≡ Some minutes)
    → (is ≡ true) ↔ ((minutes : ℕ) × MayFollow trips i j minutes)
follow_of trips i j None is same may all = (
  (λ h. absurd (false≢true (sym same ∙ h))),
  (λ found. absurd (none-some found.0 (all found.0 found.1))),
)
follow_of trips i j (Some minutes) is same may all = ((λ h. (minutes, may)), (λ found. same))

-- a trip that may follow starts later
pub starts_later : (trips : TripsParts) → AreTrips trips → (i j minutes : ℕ)
    → link_minutes trips i j ≡ Some minutes
    → (trip_of trips i).start.time < (trip_of trips j).start.time
starts_later trips are i j minutes e = grind (arith, is_link)

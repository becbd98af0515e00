-- A trip that starts before another one has ended does not follow it.
use Rattle.plan_num.proofs.Common.{◌≡◌, ℕ, ◌<◌, None, option_map, arith}
use Rattle.vehicle_model.specs.Schedules.{trip_of}
use Rattle.vehicle_model.specs.Trips.{TripsParts, links_of}
use Rattle.vehicle_model.proofs.Following.{is_link}

pub late_gain : (trips : TripsParts) (i j : ℕ) → (trip_of trips j).start.time < (trip_of trips i).end.time
    → (links_of trips).gain i j ≡ None
late_gain trips i j late = grind (arith, option_map, is_link)

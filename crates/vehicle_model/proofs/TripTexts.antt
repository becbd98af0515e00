-- The trips of three texts, from what each of them gives.
use Rattle.plan_num.proofs.Common.{◌≡◌, ℕ, ℤ, pos, negsuc, ◌+◌, ◌≤◌, ◌≤ℤ◌, List, [], ◌∷◌, ◌++◌}
use Rattle.plan_num.proofs.Common.{take, slice_get, unsigned_abs, Some, ap, sym, ◌∙◌, arith, ints}
use Rattle.plan_num.proofs.Common.{take_more, get_or_from_slice_get, slice_get_within}
use Rattle.event_tables.specs.declared.trip.Trip.{Trip}
use Rattle.event_tables.proofs.Common.{trip_input}
use Rattle.tables.proofs.Common.{records_of, input_faults}
use Rattle.walks.proofs.Common.{NetworkParts}
use Rattle.ptn_network.specs.Networks.{stops_of, network_of, network_faults}
use Rattle.vehicle_model.specs.Trips.{trips_of, trips_faults}

module _ (stops_text edges_text trips_text : List ℕ) (network : NetworkParts)
    (none : network_faults stops_text edges_text ≡ [])
    (is : network ≡ network_of stops_text edges_text) (ids : List ℤ) (same : ids ≡ network.stops) where
  ids_are : ids ≡ stops_of stops_text
  unfolding network_of
  ids_are = same ∙ ap (λ (some : NetworkParts). some.stops) is

  -- the faults of the trips are all, where the network has none
  pub rows_faults : input_faults (trip_input (Some ids)) trips_text ≡ trips_faults stops_text edges_text trips_text
  unfolding trips_faults
  rows_faults = grind (arith, ids_are)

  -- the trips of the network and of the rows
  pub trips_are : (rows : List Trip) (turnover vehicle empty : ℕ)
      → rows ≡ records_of (trip_input (Some ids)) trips_text
      → record { network = network; trips = rows; turnover = turnover; vehicle = vehicle; empty = empty }
      ≡ trips_of stops_text edges_text trips_text turnover vehicle empty
  unfolding trips_of
  trips_are rows turnover vehicle empty read = grind arith

-- one id of a stop more
pub ids_more : (stops ids new : List ℤ) (i : ℕ) (id got : ℤ) → slice_get stops i ≡ Some id
    → ids ≡ take i stops → got ≡ id → new ≡ ids ++ got ∷ [] → new ≡ take (i + 1) stops
ids_more stops ids new i id got here so_far same added =
    added ∙ ap (λ some. some ++ got ∷ []) so_far
    ∙ ap (λ one. take i stops ++ one ∷ []) (same ∙ sym (get_or_from_slice_get stops i id id here))
    ∙ sym (take_more stops i id (slice_get_within stops i id here))

-- a setting in its range, without its sign
pub abs_small : (amount : ℤ) (most got : ℕ) → pos 0 ≤ℤ amount → amount ≤ℤ pos most
    → got ≡ unsigned_abs amount → got ≤ most
abs_small (pos n) most got low high is = omega (arith, ints, is)
abs_small (negsuc n) most got low high is = absurd (omega (arith, ints, low))

-- trips under equal settings
pub settings_are : (stops_text edges_text trips_text : List ℕ) {t t' v v' e e' : ℕ} → t ≡ t' → v ≡ v' → e ≡ e'
    → trips_of stops_text edges_text trips_text t v e ≡ trips_of stops_text edges_text trips_text t' v' e'
settings_are stops_text edges_text trips_text {t} {t'} {v} {v'} {e} {e'} p q r = grind arith

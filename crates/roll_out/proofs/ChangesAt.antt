-- Changes from a copy of their tail.
use Rattle.plan_num.proofs.Common.{◌≡◌, ℕ, ◌+◌, arith, List, [], ◌∷◌, ◌++◌, length, map, ap, ◌∙◌}
use Rattle.plan_num.proofs.Common.{flat_map, range_with_len, length-append, length-map, append-nil}
use Rattle.plan_num.proofs.Common.{flat_map-append}
use Rattle.event_tables.specs.declared.periodic_activity.PeriodicActivity.{PeriodicActivity}
use Rattle.roll_out.specs.declared.copies.Copies.{Copies}
use Rattle.roll_out.specs.DayActivities.{change_copy}
use Rattle.roll_out.specs.Plans.{changes_at, copies_with, copy_id, copy_time, ids_at}
use Rattle.roll_out.specs.TimedRuns.{TimedParts, minutes_of}
use Rattle.roll_out.proofs.Added.{range_more}

module _ (network : TimedParts) (copies : List Copies) (activity : PeriodicActivity) (n : ℕ)
    (ids : List ℕ) (period time minutes : ℕ) (p : period ≡ network.period)
    (m : minutes ≡ minutes_of network activity)
    (t : time ≡ copy_time period (copies_with copies activity.from) n)
    (found : ids ≡ ids_at period (copies_with copies activity.to) (time + minutes)) where
  ids_are : ids ≡ ids_at network.period (copies_with copies activity.to)
      (copy_time network.period (copies_with copies activity.from) n + minutes_of network activity)
  ids_are = grind arith

  pub change_is : (id : ℕ) → id ≡ copy_id (copies_with copies activity.from) n
      → map (change_copy activity id) ids ≡ changes_at network copies activity n
  change_is id is = grind arith

  pub change_size : length ids ≡ length (changes_at network copies activity n)
  change_size = grind (arith, ids_are, length-map)

-- the parts of one number more
pub parts_counted : {X : Type 0} (f : ℕ → List X) (n count more : ℕ)
    → count ≡ length (flat_map f (range_with_len 0 n)) → more ≡ length (f n)
    → count + more ≡ length (flat_map f (range_with_len 0 (n + 1)))
parts_counted f n count more so_far is =
    let last : length (flat_map f (range_with_len 0 (n + 1)))
    ≡ length (flat_map f (range_with_len 0 n)) + length (f n) =
    ap (λ xs. length (flat_map f xs)) (range_more 0 n n (omega arith))
    ∙ ap length (flat_map-append f (range_with_len 0 n) (n ∷ []))
    ∙ length-append (flat_map f (range_with_len 0 n)) (f n ++ [])
    ∙ ap (λ ys. length (flat_map f (range_with_len 0 n)) + length ys) (append-nil (f n)) in
    omega (arith, so_far, is, last)

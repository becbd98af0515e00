-- Lists to which parts are added one by one.
use Rattle.std.proofs.Common.{◌≡◌, ℕ, ◌+◌, ◌<◌, ◌≤◌, arith, Bool, true, false, cond, List, [], ◌∷◌}
use Rattle.std.proofs.Common.{◌++◌, length, map, filter, take, get_or, ap, sym, ◌∙◌}
use Rattle.std.specs.List.{flat_map, range_with_len, enumerate_from}
use Rattle.std.proofs.lemmas.List.{append_assoc, append-nil, map-append, map-id, flat_map_more, take_more, take_all, length-take-le}
use Rattle.std.proofs.lemmas.List.Elements.{filter-append}
use Rattle.std.proofs.lemmas.List.FromFn.{map-range_with_len_more, get_or-enumerate_from, length-enumerate_from}
use Rattle.event_tables.specs.declared.periodic_event.PeriodicEvent.{PeriodicEvent}
use Rattle.plan_num.proofs.Added.{added_numbered}

-- the ids of the events of the things that pass a test
abbrev pub ids_where : {X : Type 0} → (X → Bool) → (X → PeriodicEvent) → List X → List ℕ
ids_where test event xs = map (λ (one : PeriodicEvent). one.id) (map event (filter test xs))

-- one number more
pub range_more : (a n j : ℕ) → a + n ≡ j → range_with_len a (n + 1) ≡ range_with_len a n ++ j ∷ []
range_more a n j e =
    sym (map-id (range_with_len a (n + 1))) ∙ map-range_with_len_more (λ (x : ℕ). x) a n j e
    ∙ ap (λ xs. xs ++ j ∷ []) (map-id (range_with_len a n))

-- one thing with its number more
pub enumerated_more : {X : Type 0} (a : ℕ) (xs : List X) (i : ℕ) (d : X) → i < length xs
    → take (i + 1) (enumerate_from a xs) ≡ take i (enumerate_from a xs) ++ (a + i, get_or xs i d)
    ∷ []
enumerated_more a xs i d h =
    take_more (enumerate_from a xs) i (0, d) (omega (arith, h, length-enumerate_from a xs))
    ∙ ap (λ x. take i (enumerate_from a xs) ++ x ∷ []) (get_or-enumerate_from a xs i (0, d) h)

-- and all of them
pub enumerated_all : {X : Type 0} (a : ℕ) (xs : List X) (i : ℕ) → length xs ≤ i
    → take i (enumerate_from a xs) ≡ enumerate_from a xs
enumerated_all a xs i h = take_all i (enumerate_from a xs)
    (omega (arith, h, length-enumerate_from a xs))

module _ {X Y : Type 0} (old now after : List Y) where
  -- what a thing stands for is added
  pub added_one : (f : X → Y) (xs : List X) (x : X) (y : Y) → now ≡ old ++ map f xs → y ≡ f x
      → after ≡ now ++ y ∷ [] → after ≡ old ++ map f (xs ++ x ∷ [])
  added_one f xs x y so_far is more = grind (arith, append_assoc, map-append)

  -- what belongs to a thing is added
  pub added_part : (f : X → List Y) (xs : List X) (x : X) → now ≡ old ++ flat_map f xs
      → after ≡ now ++ f x → after ≡ old ++ flat_map f (xs ++ x ∷ [])
  added_part f xs x so_far more = more ∙ ap (λ ys. ys ++ f x) so_far ∙ flat_map_more f old xs x

module _ {X : Type 0} (old now after : List ℕ) (test : X → Bool) (event : X → PeriodicEvent)
    (xs : List X)
    (x : X) (so_far : now ≡ old ++ ids_where test event xs) where
  where_more : (b : Bool) → test x ≡ b
      → ids_where test event (xs ++ x ∷ [])
      ≡ ids_where test event xs ++ cond b ((event x).id ∷ []) []
  where_more b is = grind (arith, filter-append, map-append)

  -- the id of the event of a thing that passes is added
  pub added_where : test x ≡ true → after ≡ now ++ (event x).id ∷ []
      → after ≡ old ++ ids_where test event (xs ++ x ∷ [])
  added_where is more =
      more ∙ ap (λ ys. ys ++ (event x).id ∷ []) so_far
      ∙ append_assoc old (ids_where test event xs) ((event x).id ∷ [])
      ∙ ap (λ ys. old ++ ys) (sym (where_more true is))

  -- and that of one that does not, is not
  pub passed_over : test x ≡ false → after ≡ now → after ≡ old
      ++ ids_where test event (xs ++ x ∷ [])
  passed_over is same =
      same ∙ so_far ∙ ap (λ ys. old ++ ys) (sym (append-nil (ids_where test event xs)))
      ∙ ap (λ ys. old ++ ys) (sym (where_more false is))

  -- both in one
  pub added_test : (passed : Bool) → passed ≡ test x → after ≡ now
      ++ cond passed ((event x).id ∷ []) []
      → after ≡ old ++ ids_where test event (xs ++ x ∷ [])
  added_test true is more = added_where (sym is) more
  added_test false is more = passed_over (sym is) (more ∙ append-nil now)

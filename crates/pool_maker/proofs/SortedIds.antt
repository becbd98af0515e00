-- Ids that are sorted, and whether all of some ids are different or are known.
use Rattle.plan_num.proofs.Common.{arith, ◌≡◌, ℕ, ℤ, pos, ◌+◌, ◌-◌, ◌<◌, ◌≤◌, Bool, true, false}
use Rattle.plan_num.proofs.Common.{not, ◌||◌, inl, inr, ◌&&◌, List, [], ◌∷◌, ◌++◌, cond, length}
use Rattle.plan_num.proofs.Common.{map, take, drop, get_or, slice_get, position, is_some, unwrap_or}
use Rattle.plan_num.proofs.Common.{Option, Some, None, option_map, refl, ap, subst, sym, ◌∙◌}
use Rattle.plan_num.proofs.Common.{AllByRecursion, list_all, list_any, IsPermutation, IsSorted}
use Rattle.plan_num.proofs.Common.{int_cmp, int_eq, int_eq_equiv, drop_all, drop_more, map_push}
use Rattle.plan_num.proofs.Common.{take_all, take_more, take_rest, same_Some}
use Rattle.plan_num.proofs.Common.{list_any-IsPermutation, IsDistinct-IsPermutation, cases_Bool}
use Rattle.std.specs.List.{IsDistinct}
use Rattle.std.proofs.lemmas.List.Folds.{list_all_at, list_all_more}
use Rattle.tables.specs.declared.file_id.FileId.TheVariants as file
use Rattle.tables.specs.declared.refusal.Refusal.{Refusal}
use Rattle.tables.specs.declared.refusal.Refusal.TheVariants as refusal
use Rattle.tables.specs.declared.row_why.RowWhy.TheVariants as why
use Rattle.plan_num.proofs.Found.{any_is}
use Rattle.walks.proofs.Common.{rising, sorted_ids}
use Rattle.terminal_lines.specs.declared.terminal.Terminal.{Terminal}
use Rattle.pool_maker.specs.PoolTexts.{unknown_terminals}
use Rattle.terminal_lines.specs.TerminalPaths.{are_stops}
use Rattle.terminal_lines.specs.Terminals.{terminal_of}

-- ---- sorted ids

-- different ids that were sorted are those ids, rising
pub sorted_rise : (ids sorted : List ℤ) → IsDistinct int_eq ids → IsPermutation ids sorted
    → IsSorted int_cmp sorted → sorted ≡ rising ids
sorted_rise ids sorted apart same up =
    sorted_ids sorted ids up
    (IsDistinct-IsPermutation int_eq (λ x y. int_eq_equiv.symm x y) ids sorted same apart)
    (λ q. sym (list_any-IsPermutation (int_eq q) ids sorted same))

-- ---- all of some ids are different

module _ (ids : List ℤ) where
  -- ids are different where those from a place on are, and the other way round
  pub record AreDecided (place : ℕ) : Type 0 where
    pub rest : IsDistinct int_eq (drop place ids) → IsDistinct int_eq ids
    pub whole : IsDistinct int_eq ids → IsDistinct int_eq (drop place ids)

  none_alike : (id : ℤ) (rest : List ℤ) → list_any (λ other. int_eq other id) rest ≡ false
      → AllByRecursion (λ other. int_eq id other ≡ false) rest
  none_alike id [] none = tt
  none_alike id (other ∷ rest) none = elim (cases_Bool (int_eq other id)) [
    | inl is ↦ absurd (let e = rw is at none in cc)
    | inr is ↦ (int_eq_equiv.symm id other ∙ is, none_alike id rest (rw is at none))
  ]

  not_apart : (id : ℤ) (rest : List ℤ) → list_any (λ other. int_eq other id) rest ≡ true
      → AllByRecursion (λ other. int_eq id other ≡ false) rest → ⊥
  not_apart id [] some apart = absurd (cc)
  not_apart id (other ∷ rest) some apart =
      not_apart id rest (ap (λ b. b || list_any (λ other. int_eq other id) rest)
      (sym (int_eq_equiv.symm other id ∙ apart.0)) ∙ some) apart.1

  module _ (place : ℕ) (within : place < length ids) (decided : AreDecided place) where
    abbrev id : ℤ
    id = get_or ids place (pos 0)

    abbrev behind : List ℤ
    behind = take (length ids - (place + 1)) (drop (place + 1) ids)

    here : drop place ids ≡ id ∷ drop (place + 1) ids
    here = drop_more ids place (pos 0) within

    -- the id at the place is none of those behind it
    pub one_more : list_any (λ other. int_eq other id) behind ≡ false → AreDecided (place + 1)
    unfolding IsDistinct
    one_more none = record {
      rest = λ apart. decided.rest (subst (IsDistinct int_eq) (sym here) (
        none_alike id (drop (place + 1) ids)
            (ap (list_any (λ other. int_eq other id)) (sym (take_rest ids (place + 1))) ∙ none),
        apart,
      ));
      whole = λ apart. (subst (IsDistinct int_eq) here (decided.whole apart)).1;
    }

    -- it is one of them
    pub found_again : list_any (λ other. int_eq other id) behind ≡ true → IsDistinct int_eq ids → ⊥
    unfolding IsDistinct
    found_again some apart =
        not_apart id (drop (place + 1) ids)
        (ap (list_any (λ other. int_eq other id)) (sym (take_rest ids (place + 1))) ∙ some)
        (subst (IsDistinct int_eq) here (decided.whole apart)).0

-- where none is left
pub all_done : (ids : List ℤ) (place : ℕ) → length ids ≤ place → AreDecided ids place
    → IsDistinct int_eq ids
unfolding IsDistinct
all_done ids place past decided =
    decided.rest (subst (IsDistinct int_eq) (sym (drop_all place ids past)) tt)

-- ---- all of some ids are known

-- a test of all is one of any
all_by_any : {X : Type 0} (p : X → Bool) (xs : List X)
    → list_all p xs ≡ not (list_any (λ x. not (p x)) xs)
all_by_any p [] = refl
all_by_any p (x ∷ xs) = grind (arith, cases_Bool, all_by_any p xs)

pub same_all : (p : ℤ → Bool) (some others : List ℤ)
    → ((q : ℤ → Bool) → list_any q some ≡ list_any q others) → list_all p some ≡ list_all p others
same_all p some others same =
    all_by_any p some ∙ ap not (same (λ x. not (p x))) ∙ sym (all_by_any p others)

-- ---- terminals

module _ (stops : List ℤ) where
  abbrev known : ℤ → Bool
  known id = list_any (int_eq id) stops

  known_there : (id : ℤ) (stop : ℕ) → position (int_eq id) stops ≡ Some stop → known id ≡ true
  known_there id stop at = any_is (int_eq id) stops ∙ ap is_some at

  module _ (ids : List ℤ) (i : ℕ) (within : i < length ids) where
    abbrev pub own_id : ℤ
    own_id = get_or ids i (pos 0)

    -- one terminal more
    pub terminal_more : (stop : ℕ) (old new : List Terminal) → position (int_eq own_id) stops
        ≡ Some stop
        → old ≡ map (terminal_of stops) (take i ids)
        → new ≡ old ++ record { id = own_id; stop = stop } ∷ []
        → new ≡ map (terminal_of stops) (take (i + 1) ids)
    terminal_more stop old new at so_far put =
        put ∙ ap (λ some. some ++ record { id = own_id; stop = stop } ∷ []) so_far
        ∙ ap (λ found. map (terminal_of stops) (take i ids)
        ++ record { id = own_id; stop = unwrap_or found 0 } ∷ []) (sym at)
        ∙ sym (map_push (terminal_of stops) (take i ids) own_id)
        ∙ ap (map (terminal_of stops)) (sym (take_more ids i (pos 0) within))

    pub known_more : (stop : ℕ) → position (int_eq own_id) stops ≡ Some stop
        → list_all known (take i ids) ≡ true → list_all known (take (i + 1) ids) ≡ true
    known_more stop at so_far =
        list_all_more known ids i (pos 0) within
        ∙ ap (λ b. b && known own_id) so_far ∙ known_there own_id stop at

    -- a terminal that is no stop
    pub unknown_here : (others : List ℤ) → position (int_eq own_id) stops ≡ None
        → ((q : ℤ → Bool) → list_any q ids ≡ list_any q others)
        → slice_get (unknown_terminals stops others) 0
        ≡ Some (refusal.BadRow file.Stop 0 why.UnknownStop)
    unknown_here others none same =
        let unknown : known own_id ≡ false = any_is (int_eq own_id) stops ∙ ap is_some none in
        let some : list_all known others ≡ false =
        sym (same_all known ids others same) ∙ list_all_at known ids i (pos 0) within unknown in
        ap (λ b. slice_get (cond b [] (refusal.BadRow file.Stop 0 why.UnknownStop ∷ [])) 0) some

  -- the stop of a terminal that was found, and that there is none where none was found
  abbrev pub terminal_there : ℤ → Option ℕ → Option Terminal
  terminal_there id found = option_map (λ stop. record { id = id; stop = stop }) found

  pub found_at : (id : ℤ) (terminal : Terminal)
      → Some terminal ≡ terminal_there id (position (int_eq id) stops)
      → (position (int_eq id) stops ≡ Some terminal.stop)
      × (terminal ≡ record { id = id; stop = terminal.stop })
  found_at id terminal is = grind (arith, same_Some)

  pub found_nowhere : (id : ℤ) → None ≡ terminal_there id (position (int_eq id) stops)
      → position (int_eq id) stops ≡ None
  found_nowhere id is = grind arith

  -- all are stops
  pub all_known : (ids others : List ℤ) (i : ℕ) → length ids ≤ i
      → list_all known (take i ids) ≡ true → ((q : ℤ → Bool) → list_any q ids ≡ list_any q others)
      → unknown_terminals stops others ≡ []
  all_known ids others i past so_far same = grind (arith, same_all, take_all)

-- ---- without a fault all are

known_by : (b : Bool) (fault : Refusal) → cond b [] (fault ∷ []) ≡ [] → b ≡ true
known_by true fault none = refl
known_by false fault none = cc

pub all_stops : (stops terminals : List ℤ) → unknown_terminals stops terminals ≡ []
    → are_stops stops terminals ≡ true
all_stops stops terminals none = known_by _ _ none

-- Lists that pass the test are those of the links of all trips.
use Rattle.plan_num.proofs.Common.{◌≡◌, ℕ, zero, suc, ◌<◌, ◌≤◌, ◌+◌, ◌&&◌, nat_le, nat_lt, Bool}
use Rattle.plan_num.proofs.Common.{true, is_some, List, [], ◌∷◌, length, map, drop, slice_get}
use Rattle.plan_num.proofs.Common.{get_or, Some, refl, ap, sym, ◌∙◌, subst, arith, list_all}
use Rattle.plan_num.proofs.Common.{get_or-eq_default, and_parts, leb-true, ltb-true, none-some}
use Rattle.plan_num.proofs.Common.{same_Some}
use Rattle.std.proofs.Math.Seq.{drop-cons}
use Rattle.link_plans.specs.declared.link_table.Link.{Link}
use Rattle.link_plans.specs.CheckedLists.{are_lists, is_list, is_next_link}
use Rattle.link_plans.specs.LinkRows.{link_to, AreLinkRows, IsRising}
use Rattle.link_plans.proofs.LinkLists.{by_count, gain_at, gain_found, none_in, worth_again}

-- ---- a list, link by link

pub list_step : (count from k : ℕ) (row : List Link) (link : Link) → k < length row
    → link ≡ get_or row k (link_to 0 0)
    → is_list count from (drop k row)
    ≡ (is_next_link count from link && is_list count (link.to + 1) (drop (k + 1) row))
unfolding is_list
list_step count from k row link within is =
    ap (is_list count from) (rest_is row k within ∙ ap (λ it. it ∷ drop (k + 1) row) (sym is))
  where
    rest_is : (row : List Link) (k : ℕ) → k < length row
        → drop k row ≡ get_or row k (link_to 0 0) ∷ drop (k + 1) row
    rest_is row k within = grind (arith, drop-cons)

pub list_end : (count from k : ℕ) (row : List Link) → length row ≤ k
    → is_list count from (drop k row) ≡ true
unfolding is_list
list_end count from k [] past = nothing k
  where
    nothing : (k : ℕ) → is_list count from (drop k []) ≡ true
    nothing zero = refl
    nothing (suc k) = refl
list_end count from zero (link ∷ row) past = absurd (omega (arith, past))
list_end count from (suc k) (link ∷ row) past = list_end count from k row (omega (arith, past))

-- ---- lists, one by one

rest_next : {X : Type 0} (rows : List X) (k : ℕ) (x : X) → k < length rows → x ≡ get_or rows k x
    → drop k rows ≡ x ∷ drop (suc k) rows
rest_next [] k x within is = absurd (omega (arith, within))
rest_next (y ∷ rows) zero x within is = ap (λ it. it ∷ rows) (sym is)
rest_next (y ∷ rows) (suc k) x within is = rest_next rows k x (omega (arith, within)) is

rest_at : {X : Type 0} (rows : List X) (k : ℕ) (x : X) → k < length rows → x ≡ get_or rows k x
    → drop k rows ≡ x ∷ drop (k + 1) rows
rest_at rows k x within is = grind (arith, rest_next)

module _ {X : Type 0} (p : List Link → Bool) (list : X → List Link) where
  pub lists_step : (rows : List X) (k : ℕ) (x : X) → k < length rows → x ≡ get_or rows k x
      → list_all p (map list (drop k rows)) ≡ (p (list x) && list_all p (map list (drop (k + 1)
      rows)))
  lists_step rows k x within is = ap (λ it. list_all p (map list it)) (rest_at rows k x within is)

  pub lists_end : (rows : List X) (k : ℕ) → length rows ≤ k
      → list_all p (map list (drop k rows)) ≡ true
  lists_end [] zero past = refl
  lists_end [] (suc k) past = refl
  lists_end (x ∷ rows) zero past = absurd (omega (arith, past))
  lists_end (x ∷ rows) (suc k) past = lists_end rows k (omega (arith, past))

-- ---- what the test says

record IsListFrom (count from : ℕ) (row : List Link) : Type 0 where
  low : (k : ℕ) (link : Link) → slice_get row k ≡ Some link → from ≤ link.to
  rising : IsRising row
  within : (k : ℕ) (link : Link) → slice_get row k ≡ Some link → link.to < count
  small : (k : ℕ) (link : Link) → slice_get row k ≡ Some link → link.gain ≤ 1000000000000

list_is : (count from : ℕ) (row : List Link) → is_list count from row ≡ true
    → IsListFrom count from row
unfolding is_list
list_is count from [] e = grind (arith, none-some)
list_is count from (first ∷ row) e =
    let both = and_parts (is_next_link count from first) (is_list count (first.to + 1) row) e in
    let one = and_parts (nat_le from first.to) (nat_lt first.to count && nat_le first.gain
    1000000000000) both.0 in
    let more = and_parts (nat_lt first.to count) (nat_le first.gain 1000000000000) one.1 in
    joined (leb-true from first.to one.0) (ltb-true first.to count more.0)
    (leb-true first.gain 1000000000000 more.1) (list_is count (first.to + 1) row both.1)
  where
    joined : from ≤ first.to → first.to < count → first.gain ≤ 1000000000000
        → IsListFrom count (first.to + 1) row
        → IsListFrom count from (first ∷ row)
    joined low inside little rest = record {
      low = low_at;
      rising = rising_at;
      within = within_at;
      small = small_at;
    }
      where
        low_at : (k : ℕ) (link : Link) → slice_get (first ∷ row) k ≡ Some link → from ≤ link.to
        low_at zero link f = subst (λ it. from ≤ it.to) (same_Some first link f) low
        low_at (suc k) link f = omega (arith, low, rest.low k link f)

        rising_at : IsRising (first ∷ row)
        rising_at zero zero one other less f g = absurd (omega (arith, less))
        rising_at zero (suc m) one other less f g = grind (arith, same_Some)
        rising_at (suc k) zero one other less f g = absurd (omega (arith, less))
        rising_at (suc k) (suc m) one other less f g = grind arith

        within_at : (k : ℕ) (link : Link) → slice_get (first ∷ row) k ≡ Some link → link.to < count
        within_at zero link f = subst (λ it. it.to < count) (same_Some first link f) inside
        within_at (suc k) link f = rest.within k link f

        small_at : (k : ℕ) (link : Link) → slice_get (first ∷ row) k ≡ Some link
            → link.gain ≤ 1000000000000
        small_at zero link f = subst (λ it. it.gain ≤ 1000000000000) (same_Some first link f) little
        small_at (suc k) link f = rest.small k link f

all_at : (p : List Link → Bool) (rows : List (List Link)) → list_all p rows ≡ true → (i : ℕ)
    → i < length rows
    → p (get_or rows i []) ≡ true
all_at p [] all i within = absurd (omega (arith, within))
all_at p (row ∷ rows) all zero within = (and_parts (p row) (list_all p rows) all).0
all_at p (row ∷ rows) all (suc i) within =
    all_at p rows (and_parts (p row) (list_all p rows) all).1 i (omega (arith, within))

-- ---- all lists

pub lists_checked : (rows : List (List Link)) → are_lists rows ≡ true → AreLinkRows rows
lists_checked rows e =
    grind (
      arith,
      worth_again,
      get_or,
      gain_at,
      gain_found,
      leb-true,
      nat_le,
      and_parts,
      list_is,
      all_at,
      by_count,
      none-some,
      none_in,
      get_or-eq_default,
      is_some,
    )

-- At which places a trip is tight, by its links.
use Rattle.plan_num.proofs.Common.{◌≡◌, ◌≢◌, ℕ, pos, ◌<◌, ◌≤◌, ◌+◌, ◌-◌, nat_eq, true, false}
use Rattle.plan_num.proofs.Common.{MatchBool, List, length, slice_get, Option, Some, None, IfSome}
use Rattle.plan_num.proofs.Common.{ap, sym, ◌∙◌, subst, arith, false≢true, none-some}
use Rattle.bit_rows.specs.Bits.{Bits, has}
use Rattle.link_plans.specs.declared.link_table.Link.{Link}
use Rattle.link_plans.proofs.Common.{by_number, Links, PotentialParts, at, end_of, reached, IsRow}
use Rattle.link_plans.proofs.Common.{worth, Covers, gap_first, gap_next, reached_last, reached_next}
use Rattle.link_plans.proofs.Common.{reached_within, link_covered, place_of}
use Rattle.assignment.specs.ClaimablePlaces.{AreTies, IsInRow, IsPut, IsRowOf}
use Rattle.plan_search.specs.Searches.{IsTightBy}
use Rattle.plan_search.proofs.ShiftedTrees.{pos_worth}
use Rattle.assignment.proofs.BitsOfPlaces.{row_step, row_up}

module _ (links : Links) (potentials : PotentialParts) (i : ℕ) (row : List Link)
    (is : IsRow links i links.count row) (covers : Covers links potentials i) where
  abbrev Tight : ℕ → Type 0
  Tight place = IsTightBy links potentials place (Some i)

  -- where no link leads
  tight_gap : (j : ℕ) → j < links.count → worth (links.gain i j) ≡ None → Tight j → ⊥
  tight_gap j within none tight = none-some (at potentials.u i + at potentials.v j)
      (sym none ∙ ap worth (tight.linked within))

  -- where one leads
  tight_yes : (k : ℕ) (link : Link) → slice_get row k ≡ Some link
      → at potentials.u i + at potentials.v link.to - link.gain ≡ 0 → Tight link.to
  tight_yes k link e exact =
      let gain_is : link.gain ≡ at potentials.u i + at potentials.v link.to =
      omega (arith, exact, link_covered links i row is potentials covers k link e) in
      record {
        linked = λ _. pos_worth (links.gain i link.to) link.gain (is.right k link e).is
            ∙ ap (λ n. Some (pos n)) gain_is;
        last = λ past. absurd (omega (arith, past, (is.right k link e).within));
      }

  tight_no : (k : ℕ) (link : Link) → slice_get row k ≡ Some link → Tight link.to
      → at potentials.u i + at potentials.v link.to - link.gain ≡ 0
  tight_no k link e tight = grind arith

  -- no place before the first link
  pub ties_start : (ties : Bits) → ((place : ℕ) → has ties i place ≡ false)
      → IsRowOf Tight (reached links.count row 0) ties i
  ties_start ties none = record {
    right = λ place h. absurd (false≢true (sym (none place) ∙ h));
    all = λ place below tight. absurd (tight_gap place
        (omega (arith, below, reached_within links i row is 0))
        (gap_first links i row is place below) tight);
  }

  -- a link more
  pub ties_more : (before after : Bits) (k : ℕ) (link : Link) (slack : ℕ) → i < before.rows
      → IsRowOf Tight (reached links.count row k) before i → slice_get row k ≡ Some link
      → slack ≡ at potentials.u i + at potentials.v link.to - link.gain
      → MatchBool (nat_eq slack 0) (IsPut before after i link.to true) (after ≡ before)
      → IsRowOf Tight (reached links.count row (k + 1)) after i
  ties_more before after k link slack inside are e slack_is marked =
      row_up Tight (link.to + 1) i (reached links.count row (k + 1)) after
      (row_step Tight link.to i before after slack inside
      (subst (λ n. IsRowOf Tight n before i) (ap (end_of links.count) e) are) marked
      (λ none. tight_yes k link e (sym slack_is ∙ none))
      (λ tight. slack_is ∙ tight_no k link e tight))
      (reached_next links i row is k link e)
      (λ j low high tight. tight_gap j (omega (arith, high, reached_within links i row is (k + 1)))
      (gap_next links i row is k link e j (omega (arith, low)) high) tight)

  -- and the place behind all trips
  pub ties_last : (before after : Bits) (k last : ℕ) → i < before.rows
      → IsRowOf Tight (reached links.count row k) before i → length row ≤ k → last ≡ links.count
      → MatchBool (nat_eq (at potentials.u i) 0) (IsPut before after i last true) (after ≡ before)
      → IsRowOf Tight (links.count + 1) after i
  ties_last before after k last inside are past last_is marked =
      row_step Tight links.count i before after (at potentials.u i) inside
      (subst (λ n. IsRowOf Tight n before i) (reached_last links i row is k past) are)
      (subst (λ n. MatchBool (nat_eq (at potentials.u i) 0) (IsPut before after i n true)
      (after ≡ before)) last_is marked)
      (λ none. record {
        linked = λ within. absurd (omega (arith, within));
        last = λ _. none;
      })
      (λ tight. tight.last (omega arith))

-- the ties of the trips so far, and no others
pub record AreTiesSo (links : Links) (potentials : PotentialParts) (ties : Bits)
    (trip : ℕ) : Type 0 where
  pub rows : ties.rows ≡ links.count + 1
  pub columns : ties.columns ≡ links.count + 1
  pub row : (i : ℕ) → i < trip
      → IsRowOf (λ place. IsTightBy links potentials place (Some i)) (links.count + 1) ties i
  pub none : (r c : ℕ) → trip ≤ r → r < links.count + 1 → has ties r c ≡ false

module _ (links : Links) (potentials : PotentialParts) (before after : Bits) (trip : ℕ)
    (are : AreTiesSo links potentials before trip) where
  -- the row of another trip
  row_kept : (row i : ℕ) → IsInRow before after row → i ≢ row → i < trip → i < links.count + 1
      → IsRowOf (λ place. IsTightBy links potentials place (Some i)) (links.count + 1) after i
  row_kept row i change apart sooner within =
      let kept : (c : ℕ) → has after i c ≡ has before i c =
      λ c. change.others i c (omega (arith, within, are.rows)) apart in
      record {
        right = λ place h. (are.row i sooner).right place (sym (kept place) ∙ h);
        all = λ place bound h. kept place ∙ (are.row i sooner).all place bound h;
      }

  -- one trip more
  pub ties_so : IsInRow before after trip → trip < links.count
      → IsRowOf (λ place. IsTightBy links potentials place (Some trip)) (links.count + 1) after trip
      → AreTiesSo links potentials after (trip + 1)
  ties_so change within own = record {
    rows = change.rows ∙ are.rows;
    columns = change.columns ∙ are.columns;
    row = λ i bound. by_number i trip
        (λ same. subst (λ k. IsRowOf (λ place. IsTightBy links potentials place (Some k))
        (links.count + 1) after k) (sym same) own)
        (λ apart. row_kept trip i change apart (omega (arith, bound, apart))
        (omega (arith, bound, within)));
    none = λ r c low high. change.others r c (omega (arith, high, are.rows)) (past r low)
        ∙ are.none r c (omega (arith, low)) high;
  }
    where
      past : (r : ℕ) → trip + 1 ≤ r → r ≢ trip
      past r low same = omega (arith, low, same)

  -- all trips, and none
  pub ties_all : IsInRow before after links.count → links.count ≤ trip
      → IsRowOf (λ place. IsTightBy links potentials place None) (links.count + 1) after
      links.count
      → AreTies links potentials after
  ties_all change all alone = record {
    rows = change.rows ∙ are.rows;
    columns = change.columns ∙ are.columns;
    row = by;
  }
    where
      less : (i : ℕ) → i < links.count → i ≢ links.count
      less i within same = omega (arith, within, same)

      by : (by : Option ℕ) → IfSome by (λ i. i < links.count)
          → IsRowOf (λ place. IsTightBy links potentials place by) (links.count + 1) after
          (place_of links.count by)
      by None _ = alone
      by (Some i) within = row_kept links.count i change (less i within)
          (omega (arith, within, all)) (omega (arith, within))

-- What a list of links says of the link to a trip, and that such lists are the links that are worth
-- something.
use Rattle.plan_num.proofs.Common.{◌≡◌, ◌≢◌, ℕ, zero, suc, pos, ◌<◌, ◌≤◌, ◌==◌, Bool, true, false}
use Rattle.plan_num.proofs.Common.{cond, List, [], ◌∷◌, length, slice_get, get_or, Option, Some}
use Rattle.plan_num.proofs.Common.{None, is_some, option_map, refl, ap, sym, ◌∙◌, subst, arith}
use Rattle.plan_num.proofs.Common.{eq-eqb, false≢true, eqb-true, ne_eqb, none-some, same_Some}
use Rattle.plan_num.proofs.Common.{slice_get-get_or, slice_get_within, get_or-eq_default}
use Rattle.link_plans.proofs.LinkRows.{worth_is}
use Rattle.link_plans.specs.declared.link_table.Link.{Link}
use Rattle.link_plans.specs.Links.{Links, AreLinks, gain_in, links_in}
use Rattle.link_plans.specs.LinkRows.{link_to, worth, worthy, AreBefore, AreFrom, AreLinkRows, AreRows, IsRising, IsRow}

-- a list without its first link
rest_rising : (first : Link) (row : List Link) → IsRising (first ∷ row) → IsRising row
rest_rising first row rising k m one other before e f =
    rising (suc k) (suc m) one other (omega (arith, before)) e f

-- a link of a list is found
pub gain_at : (row : List Link) (to k : ℕ) (link : Link) → IsRising row
    → slice_get row k ≡ Some link
    → link.to ≡ to → gain_in row to ≡ Some link.gain
unfolding gain_in
gain_at [] to k link rising e same = absurd (none-some link e)
gain_at (first ∷ row) to zero link rising e same = grind (arith, same_Some, eq-eqb)
gain_at (first ∷ row) to (suc k) link rising e same =
    let low : first.to < link.to = rising 0 (suc k) first link (omega arith) refl e in grind (
      arith,
      ne_eqb,
      rest_rising,
      gain_at row to k link (rest_rising first row rising) e same,
    )

-- none is found that is not there
pub gain_none : (row : List Link) (to : ℕ)
    → ((k : ℕ) (link : Link) → slice_get row k ≡ Some link → link.to ≢ to) → gain_in row to ≡ None
unfolding gain_in
gain_none [] to apart = refl
gain_none (first ∷ row) to apart =
    ap (λ b. cond b (Some first.gain) (gain_in row to)) (ne_eqb first.to to (apart 0 first refl))
    ∙ gain_none row to (λ k link e. apart (suc k) link e)

pub none_in : (to : ℕ) → gain_in [] to ≡ None
unfolding gain_in
none_in to = refl

-- what is found is there
pub gain_found : (row : List Link) (to gain : ℕ) → gain_in row to ≡ Some gain
    → (k : ℕ) × (slice_get row k ≡ Some (link_to to gain))
unfolding gain_in
gain_found [] to gain e = absurd (none-some gain e)
gain_found (first ∷ row) to gain e = split (first.to == to) refl e (gain_found row to gain)
  where
    split : (b : Bool) → (first.to == to) ≡ b
        → cond b (Some first.gain) (gain_in row to) ≡ Some gain
        → (gain_in row to ≡ Some gain → (k : ℕ) × (slice_get row k ≡ Some (link_to to gain)))
        → (k : ℕ) × (slice_get (first ∷ row) k ≡ Some (link_to to gain))
    split true is f more = grind (arith, eqb-true, same_Some)
    split false is f more = let rest = more f in (suc rest.0, rest.1)

-- what a look by halves finds
module _ (row : List Link) (to place : ℕ) (rising : IsRising row) (before : AreBefore row to place)
    (after : AreFrom row to place) where
  looked_there : (link : Link) → slice_get row place ≡ Some link → (link.to == to) ≡ true
      → Some link.gain ≡ gain_in row to
  looked_there link e is = sym (gain_at row to place link rising e (eqb-true link.to to is))

  -- a place before or from there on
  by_place : {P : Type 0} (k : ℕ) → (k < place → P) → (place ≤ k → P) → P
  by_place {P} k low high = grind arith

  looked_past : (link : Link) → slice_get row place ≡ Some link → (link.to == to) ≡ false
      → None ≡ gain_in row to
  looked_past link e not_it =
      grind (arith, gain_none, slice_get, by_place, same_Some, eqb-true, false≢true, eq-eqb)

  pub looked : (link : Link) → place < length row → ((d : Link) → link ≡ get_or row place d)
      → (found : Option ℕ) → found ≡ cond (link.to == to) (Some link.gain) None
      → found ≡ gain_in row to
  looked link within is found found_is = found_is ∙ split (link.to == to) refl
    where
      there : slice_get row place ≡ Some link
      there = slice_get-get_or row place link within ∙ ap Some (sym (is link))

      split : (b : Bool) → (link.to == to) ≡ b
          → cond (link.to == to) (Some link.gain) None ≡ gain_in row to
      split true e = ap (λ b. cond b (Some link.gain) None) e ∙ looked_there link there e
      split false e = ap (λ b. cond b (Some link.gain) None) e ∙ looked_past link there e

  pub looked_end : length row ≤ place → None ≡ gain_in row to
  looked_end past = grind (arith, gain_none, by_place, slice_get_within)

-- ---- the lists of all trips

-- a number below another one, or not
pub by_count : {P : Type 0} (i n : ℕ) → (i < n → P) → (n ≤ i → P) → P
by_count {P} i n within past = grind arith

module _ (links : Links) (sound : AreLinks links) (rows : List (List Link)) (are : AreRows links
    rows) where
  -- a link that is worth something is in the list of its trip, and no other is
  gain_is : (i j : ℕ) → gain_in (get_or rows i []) j ≡ worth (links.gain i j)
  gain_is i j = by_count i links.count (λ within. inside (are.row i within) (worth (links.gain i
      j)) refl) outside
    where
      inside : IsRow links i links.count (get_or rows i []) → (it : Option ℕ)
          → worth (links.gain i j) ≡ it
          → gain_in (get_or rows i []) j ≡ worth (links.gain i j)
      inside row (Some gain) e = grind (arith, is_some, worth_is, gain_at, get_or)
      inside row None e = grind (arith, gain_none, get_or, none-some)

      outside : links.count ≤ i → gain_in (get_or rows i []) j ≡ worth (links.gain i j)
      outside past = grind (arith, get_or-eq_default, none_in, is_some)

  -- so the lists are the links that are worth something
  pub lists_are : links_in rows ≡ worthy links
  lists_are = grind (arith, option_map, gain_is)

-- what is worth something is so again
pub worth_again : (it : Option ℕ) → worth (option_map pos it) ≡ it
worth_again None = refl
worth_again (Some gain) = refl

-- links that are worth something are links
pub worthy_links : (links : Links) → AreLinks links → AreLinks (worthy links)
worthy_links links sound = grind (arith, is_some, option_map)

worthy_row : (links : Links) (i : ℕ) (row : List Link) → IsRow links i links.count row
    → IsRow (worthy links) i links.count row
worthy_row links i row is = record {
  rising = is.rising;
  right = λ k link e.
      let it = is.right k link e in grind (arith, worth_again);
  all = λ j gain within e. is.all j gain within (sym (worth_again (worth (links.gain i j))) ∙ e);
}

pub lists_sound : (links : Links) → AreLinks links → (rows : List (List Link)) → AreRows links rows
    → AreLinkRows rows
lists_sound links sound rows are =
    let same = lists_are links sound rows are in
    record {
      rows_are = subst (λ it. AreRows it rows) (sym same) (record {
        each = are.each;
        row = λ i within. worthy_row links i (get_or rows i []) (are.row i within);
      });
      links = subst AreLinks (sym same) (worthy_links links sound);
    }

-- What bids leave: the trips that have places are taken in.
use Rattle.plan_num.proofs.Common.{◌≡◌, ◌≢◌, ◌⊎◌, inl, inr, ℕ, pos, ◌<◌, ◌≤◌, ◌+◌, ◌-◌, Bool, true}
use Rattle.plan_num.proofs.Common.{false, cond, List, length, slice_get, slice_set, Option, Some}
use Rattle.plan_num.proofs.Common.{None, IfSome, refl, ap, sym, ◌∙◌, subst, arith, get_or-set_same}
use Rattle.plan_num.proofs.Common.{get_or-set_other, lt-ltb, length-set, none-some, same_Some}
use Rattle.plan_num.proofs.Common.{slice_get_within}
use Rattle.link_plans.specs.declared.link_table.Link.{Link}
use Rattle.link_plans.proofs.Common.{next, is_next, Links, by_number, never_next, not_next}
use Rattle.link_plans.proofs.Common.{by_bound, PotentialParts, at, link_to, IsLinkOf, IsRow}
use Rattle.link_plans.proofs.Common.{successor_at, worth, Covers, has_next}
use Rattle.plan_search.specs.declared.bid.Offer.{Offer}
use Rattle.plan_search.specs.Bids.{next_offer, AreOthersBelow, IsBid, IsTakenBut}
use Rattle.plan_search.specs.Growing.{IsTaken}
use Rattle.plan_search.proofs.ShiftedTrees.{pos_worth}

-- ---- the best link

-- an offer after the first links of a list
pub record IsOffer (row : List Link) (potentials : PotentialParts) (done : ℕ) (offer : Offer) : Type 0 where
  pub low : offer.rest ≤ offer.most
  pub small : offer.most ≤ 1000000000000
  pub best : IfSome offer.best (λ link. (k : ℕ) × ((slice_get row k ≡ Some link)
      × (link.gain ≡ offer.most + at potentials.v link.to)))
  pub others : (k : ℕ) (link : Link) → k < done → slice_get row k ≡ Some link
      → (offer.best ≡ Some link) ⊎ (link.gain ≤ offer.rest + at potentials.v link.to)

module _ (links : Links) (potentials : PotentialParts) (i : ℕ) (row : List Link)
    (is : IsRow links i links.count row) where
  module _ (done : ℕ) (offer : Offer) (are : IsOffer row potentials done offer) (link : Link)
      (here : slice_get row done ≡ Some link) (rest : ℕ) (rest_is : rest ≡ link.gain - at potentials.v link.to) where
    same_link : (k : ℕ) (other : Link) → k ≡ done → slice_get row k ≡ Some other → link ≡ other
    same_link k other same e = same_Some link other (sym here ∙ ap (slice_get row) (sym same) ∙ e)

    abbrev Below : ℕ → Link → Type 0
    Below most other = other.gain ≤ most + at potentials.v other.to

    offer_won : 0 < rest → offer.most ≤ rest → IsOffer row potentials (done + 1) (next_offer offer link rest true)
    offer_won some high = record {
      low = high;
      small = omega (arith, rest_is, (is.right done link here).small);
      best = (done, (here, omega (arith, rest_is, some)));
      others = λ k other before e. grind (arith, by_number, same_link);
    }

    offer_lost : rest ≤ offer.most → IsOffer row potentials (done + 1) (next_offer offer link rest false)
    offer_lost low = grind arith

    pub offer_more : (wins : Bool) (new : Offer) → (wins ≡ true → (0 < rest) × (offer.most ≤ rest))
        → (wins ≡ false → rest ≤ offer.most) → new ≡ next_offer offer link rest wins
        → IsOffer row potentials (done + 1) new
    offer_more true new won lost new_is = subst (IsOffer row potentials (done + 1)) (sym new_is)
        (offer_won (won refl).0 (won refl).1)
    offer_more false new won lost new_is = subst (IsOffer row potentials (done + 1)) (sym new_is)
        (offer_lost (lost refl))

  -- all links were looked at
  pub offer_all : ((j : ℕ) → links.count ≤ j → worth (links.gain i j) ≡ None) → (done : ℕ) (offer : Offer)
      → IsOffer row potentials done offer → length row ≤ done → IsBid links potentials i offer
  offer_all none done offer are past = record {
    low = are.low;
    small = are.small;
    link = at_best offer.best are.best;
    best = at_gain offer.best are.best;
    others = at_others offer.best refl;
  }
    where
      at_best : (it : Option Link) → IfSome it (λ link. (k : ℕ) × ((slice_get row k ≡ Some link)
          × (link.gain ≡ offer.most + at potentials.v link.to))) → IfSome it (IsLinkOf links i links.count)
      at_best None h = tt
      at_best (Some link) h = is.right h.0 link h.1.0

      at_gain : (it : Option Link) → IfSome it (λ link. (k : ℕ) × ((slice_get row k ≡ Some link)
          × (link.gain ≡ offer.most + at potentials.v link.to)))
          → IfSome it (λ link. link.gain ≡ offer.most + at potentials.v link.to)
      at_gain None h = tt
      at_gain (Some link) h = h.1.1

      below : (link : Link) → offer.best ≡ Some link → (j gain : ℕ) → worth (links.gain i j) ≡ Some gain
          → j ≢ link.to → j < links.count → gain ≤ offer.rest + at potentials.v j
      below link best j gain e apart inside =
          let found = is.all j gain inside e in
          let there : found.0 < length row = slice_get_within row found.0 (link_to j gain) found.1 in
          elim (are.others found.0 (link_to j gain) (omega (arith, there, past)) found.1)
          as (λ _. gain ≤ offer.rest + at potentials.v j) [
            | inl was ↦ absurd (apart (ap (λ x. x.to) (same_Some (link_to j gain) link (sym was ∙ best))))
            | inr low ↦ low
          ]

      at_others : (it : Option Link) → offer.best ≡ it
          → IfSome it (λ link. AreOthersBelow links potentials i link.to offer.rest)
      at_others None e = tt
      at_others (Some link) e = λ j gain gain_is apart. by_bound j links.count
          (below link e j gain gain_is apart)
          (λ behind. absurd (none-some gain (sym (none j behind) ∙ gain_is)))

-- ---- a place is taken away

pub taken_but : (links : Links) (potentials : PotentialParts) (plan : List (Option ℕ)) (place : ℕ)
    → IsTaken links potentials plan → IsTakenBut links potentials place plan
taken_but links potentials plan place is = grind arith

module _ (links : Links) (before : PotentialParts) (plan : List (Option ℕ)) (is : IsTaken links before plan)
    (place other : ℕ) (inside : place < links.count) (has : next plan other ≡ Some place)
    (now : PotentialParts) (now_is : now ≡ record { u = slice_set before.u other 0; v = before.v })
    (after : List (Option ℕ)) (after_is : after ≡ slice_set plan other None) where
  abbrev no_place : Option ℕ
  no_place = None

  there : other < links.count
  there = omega (arith, has_next plan other place has, is.tight.each)

  after_same : next after other ≡ None
  after_same = ap (λ p. next p other) after_is
      ∙ get_or-set_same plan other no_place no_place (omega (arith, there, is.tight.each))

  after_other : (i : ℕ) → i ≢ other → next after i ≡ next plan i
  after_other i apart = ap (λ p. next p i) after_is ∙ get_or-set_other plan other i no_place no_place apart

  old : (i j : ℕ) → next after i ≡ Some j → (i ≢ other) × (next plan i ≡ Some j)
  old i j e = grind (arith, after_other, none-some, after_same)

  u_same : at now.u other ≡ 0
  u_same = ap (λ p. at p.u other) now_is
      ∙ get_or-set_same before.u other 0 0 (omega (arith, there, is.over.each_u))

  u_other : (i : ℕ) → i ≢ other → at now.u i ≡ at before.u i
  u_other i apart = ap (λ p. at p.u i) now_is ∙ get_or-set_other before.u other i 0 0 apart

  v_same : (j : ℕ) → at now.v j ≡ at before.v j
  v_same j = ap (λ p. at p.v j) now_is

  pub released_free : is_next after place ≡ false
  released_free = never_next after place (λ i e. (old i place e).0 (is.tight.once i other place (old i place e).1 has))

  pub released_waits : (i : ℕ) → next plan i ≡ None → next after i ≡ None
  released_waits i none = after_other i (λ same. none-some place (sym none ∙ ap (next plan) same ∙ has)) ∙ none

  both_same : (i j : ℕ) → next after i ≡ Some j → at before.u i + at before.v j ≡ at now.u i + at now.v j
  both_same i j e = omega (arith, u_other i (old i j e).0, v_same j)

  pub released : IsTakenBut links now place after
  released = record {
    over = grind (arith, length-set);
    tight = record {
      each = ap length after_is ∙ length-set plan other no_place ∙ is.tight.each;
      within = λ i j e. is.tight.within i j (old i j e).1;
      linked = λ i j e. is.tight.linked i j (old i j e).1 ∙ ap (λ n. Some (pos n)) (both_same i j e);
      once = λ i one j e f. is.tight.once i one j (old i j e).1 (old one j f).1;
      last = λ i apart e. by_number i other
          (λ same. ap (at now.u) same ∙ u_same)
          (λ other_one. u_other i other_one ∙ is.tight.last i apart (sym (after_other i other_one) ∙ e));
      first = λ j within apart free. v_same j
          ∙ is.tight.first j within (λ same. omega (arith, within, same)) (still_free j apart free);
    };
    covered = λ i j e k. subst (λ n. IfSome (worth (links.gain i k)) (λ gain. gain ≤ n))
        (omega (arith, u_other i (old i j e).0, v_same k)) (is.covered i j (old i j e).1 k);
  }
    where
      still_free : (j : ℕ) → j ≢ place → is_next after j ≡ false → is_next plan j ≡ false
      still_free j apart free = never_next plan j (λ i e. not_next after i j free
          (after_other i (λ same. apart (same_Some j place (sym e ∙ ap (next plan) same ∙ has))) ∙ e))

-- ---- and given to the trip that bids

module _ (links : Links) (before : PotentialParts) (plan : List (Option ℕ)) (trip : ℕ) (link : Link) (rest : ℕ)
    (is : IsTakenBut links before link.to plan) (within : trip < links.count)
    (waits : next plan trip ≡ None) (free : is_next plan link.to ≡ false)
    (link_is : IsLinkOf links trip links.count link) (low : rest + at before.v link.to ≤ link.gain)
    (others : AreOthersBelow links before trip link.to rest)
    (now : PotentialParts) (now_is : now ≡ record {
      u = slice_set before.u trip rest;
      v = slice_set before.v link.to (link.gain - rest);
    })
    (after : List (Option ℕ)) (after_is : after ≡ slice_set plan trip (successor_at (length plan) link.to)) where
  own_place : successor_at (length plan) link.to ≡ Some link.to
  own_place = ap (λ b. cond b (Some link.to) None)
      (lt-ltb link.to (length plan) (omega (arith, link_is.within, is.tight.each)))

  own_next : next after trip ≡ Some link.to
  own_next = grind (arith, get_or-set_same, own_place)

  other_next : (i : ℕ) → i ≢ trip → next after i ≡ next plan i
  other_next i apart = ap (λ p. next p i) after_is
      ∙ get_or-set_other plan trip i (successor_at (length plan) link.to) None apart

  own_u : at now.u trip ≡ rest
  own_u = ap (λ p. at p.u trip) now_is
      ∙ get_or-set_same before.u trip rest 0 (omega (arith, within, is.over.each_u))

  other_u : (i : ℕ) → i ≢ trip → at now.u i ≡ at before.u i
  other_u i apart = ap (λ p. at p.u i) now_is ∙ get_or-set_other before.u trip i rest 0 apart

  own_v : at now.v link.to ≡ link.gain - rest
  own_v = ap (λ p. at p.v link.to) now_is
      ∙ get_or-set_same before.v link.to (link.gain - rest) 0 (omega (arith, link_is.within, is.over.each_v))

  other_v : (j : ℕ) → j ≢ link.to → at now.v j ≡ at before.v j
  other_v j apart = ap (λ p. at p.v j) now_is ∙ get_or-set_other before.v link.to j (link.gain - rest) 0 apart

  v_no_less : (j : ℕ) → at before.v j ≤ at now.v j
  v_no_less j = grind (arith, by_number, own_v, other_v)

  -- who has a place, and which
  has : (i j : ℕ) → next after i ≡ Some j
      → ((i ≡ trip) × (j ≡ link.to)) ⊎ ((i ≢ trip) × ((j ≢ link.to) × (next plan i ≡ Some j)))
  has i j e = grind (arith, by_number, same_Some, own_next, other_next, not_next)

  both_own : at now.u trip + at now.v link.to ≡ link.gain
  both_own = omega (arith, own_u, own_v, low)

  covers_own : Covers links now trip
  covers_own k = grind (arith, by_number, same_Some, both_own, own_u, other_v)

  covers_other : (i : ℕ) → i ≢ trip → Covers links before i → Covers links now i
  covers_other i apart was k = grind (arith, other_u, v_no_less)

  pub engaged : IsTaken links now after
  engaged = record {
    over = grind (arith, length-set);
    tight = record {
      each = ap length after_is ∙ length-set plan trip (successor_at (length plan) link.to) ∙ is.tight.each;
      within = λ i j e. elim (has i j e) as (λ _. j < links.count) [
        | inl own ↦ omega (arith, own.1, link_is.within)
        | inr old ↦ is.tight.within i j old.1.1
      ];
      linked = λ i j e. elim (has i j e) as (λ _. links.gain i j ≡ Some (pos (at now.u i + at now.v j))) [
        | inl own ↦ ap (λ k. links.gain k j) own.0 ∙ ap (links.gain trip) own.1
            ∙ pos_worth (links.gain trip link.to) link.gain link_is.is
            ∙ ap (λ n. Some (pos n)) (sym both_own)
            ∙ ap (λ k. Some (pos (at now.u k + at now.v link.to))) (sym own.0)
            ∙ ap (λ k. Some (pos (at now.u i + at now.v k))) (sym own.1)
        | inr old ↦ is.tight.linked i j old.1.1
            ∙ ap (λ n. Some (pos n)) (both_old i j old.0 old.1.0)
      ];
      once = λ i one j e f. elim (has i j e) as (λ _. i ≡ one) [
        | inl own ↦ elim (has one j f) as (λ _. i ≡ one) [
          | inl also ↦ own.0 ∙ sym also.0
          | inr old ↦ absurd (old.1.0 own.1)
        ]
        | inr was ↦ elim (has one j f) as (λ _. i ≡ one) [
          | inl also ↦ absurd (was.1.0 also.1)
          | inr old ↦ is.tight.once i one j was.1.1 old.1.1
        ]
      ];
      last = λ i apart e. by_number i trip
          (λ same. absurd (none-some link.to (sym e ∙ ap (next after) same ∙ own_next)))
          (λ other. other_u i other ∙ is.tight.last i apart (sym (other_next i other) ∙ e));
      first = λ j inside apart none. by_number j link.to
          (λ same. absurd (not_next after trip j none (own_next ∙ ap Some (sym same))))
          (λ other. other_v j other ∙ is.tight.first j inside other (was_free j none));
    };
    covered = λ i j e. elim (has i j e) as (λ _. Covers links now i) [
      | inl own ↦ subst (Covers links now) (sym own.0) covers_own
      | inr old ↦ covers_other i old.0 (is.covered i j old.1.1)
    ];
  }
    where
      both_old : (i j : ℕ) → i ≢ trip → j ≢ link.to
          → at before.u i + at before.v j ≡ at now.u i + at now.v j
      both_old i j i_apart j_apart = omega (arith, other_u i i_apart, other_v j j_apart)

      was_free : (j : ℕ) → is_next after j ≡ false → is_next plan j ≡ false
      was_free j none = never_next plan j (λ i e. not_next after i j none
          (other_next i (λ same. none-some j (sym waits ∙ ap (next plan) (sym same) ∙ e)) ∙ e))

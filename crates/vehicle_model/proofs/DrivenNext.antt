-- The links of vehicles make the plan of the vehicles, and each of them is between two trips that one
-- vehicle drives one after the other.
use Rattle.plan_num.proofs.Common.{◌≡◌, ◌≢◌, ◌⊎◌, inl, inr, ℕ, zero, suc, ◌+◌, ◌<◌, Bool, true}
use Rattle.plan_num.proofs.Common.{false, cond, List, [], ◌∷◌, ◌++◌, length, filter, fold}
use Rattle.plan_num.proofs.Common.{slice_get, slice_set, All, Option, Some, None, refl, ap, sym}
use Rattle.plan_num.proofs.Common.{◌∙◌, subst, arith, get_or-set_same, get_or-set_other, concat}
use Rattle.plan_num.proofs.Common.{length-set, length-replicate, All-cons, All-tail, filter-append}
use Rattle.plan_num.proofs.Common.{none-some, same_Some}
use Rattle.std.proofs.lemmas.List.Sums.{fold-append}
use Rattle.std.proofs.lemmas.Option.{some_pair_parts}
use Rattle.vehicle_model.specs.DrivenSchedules.{Drives, IsPlanOf}
use Rattle.link_plans.proofs.Common.{next, none_next}
use Rattle.vehicle_model.specs.ReadSchedules.{plan_by}
use Rattle.vehicle_model.proofs.DrivenForms.{AreFresh, AreBusy, links_behind, driven_links}
use Rattle.vehicle_model.proofs.DrivenPlans.{after, fresh_after, after_none, after_seen, after_at}
use Rattle.vehicle_model.proofs.DrivenPlans.{has_first, has_more, apart_from, seen_apart}
use Rattle.vehicle_model.proofs.DrivenPlans.{front_apart}
use Rattle.vehicle_model.proofs.Tours.{has}
use Rattle.plan_num.proofs.Tests.{not_both}

-- a plan with some links more
abbrev linked : List (Option ℕ) → List (ℕ × ℕ) → List (Option ℕ)
linked plan links = fold (λ plan link. slice_set plan link.0 (Some link.1)) plan links

linked_size : (links : List (ℕ × ℕ)) (plan : List (Option ℕ)) → length (linked plan links) ≡ length plan
linked_size [] plan = refl
linked_size (link ∷ links) plan = linked_size links (slice_set plan link.0 (Some link.1))
    ∙ length-set plan link.0 (Some link.1)

in_turn : (plan : List (Option ℕ)) (some more : List (ℕ × ℕ))
    → linked plan (some ++ more) ≡ linked (linked plan some) more
in_turn plan some more = fold-append (λ plan link. slice_set plan link.0 (Some link.1)) plan some more

-- the links of a vehicle leave the other trips what they have
behind_other : (more : List ℕ) (i : ℕ) (plan : List (Option ℕ)) (p : ℕ) → p ≢ i → has more p ≡ false
    → next (linked plan (links_behind i more)) p ≡ next plan p
behind_other [] i plan p ne none = refl
behind_other (j ∷ more) i plan p ne none =
    let apart = apart_from j p more none in grind (
      arith,
      slice_set,
      get_or-set_other,
      behind_other
          more j (slice_set plan i (Some j)) p apart.0 apart.1,
    )

other_than : (seen : List ℕ) (i p : ℕ) → has seen p ≡ true → has seen i ≡ false → p ≢ i
other_than seen i p h e same = not_both (sym (ap (has seen) same) ∙ h) e

module _ (n : ℕ) where
  -- behind a trip of a vehicle
  behind_next : (more rest : List ℕ) (i : ℕ) (seen : List ℕ) (plan : List (Option ℕ)) → length plan ≡ n → i < n
      → has seen i ≡ false → AreFresh n (i ∷ seen) (more ++ rest)
      → ((p : ℕ) → has seen p ≡ false → next plan p ≡ None)
      → (at p : ℕ) → slice_get (i ∷ more) at ≡ Some p
      → next (linked plan (links_behind i more)) p ≡ slice_get (i ∷ more) (at + 1)
  behind_next [] rest i seen plan size within new fresh none zero p e =
      none p (ap (has seen) (sym (same_Some i p e)) ∙ new)
  behind_next [] rest i seen plan size within new fresh none (suc at) p e = absurd (none-some p e)
  behind_next (j ∷ more) rest i seen plan size within new fresh none zero p e =
      let apart = seen_apart n (more ++ rest) (j ∷ i ∷ seen) i fresh.2
      (has_more (i ∷ seen) j i (has_first seen i)) in grind (
        arith,
        slice_set,
        links_behind,
        same_Some,
        behind_other,
        other_than,
        has_first,
        front_apart,
        get_or-set_same,
      )
  behind_next (j ∷ more) rest i seen plan size within new fresh none (suc at) p e = grind (
    arith,
    slice_set,
    length-set,
    apart_from,
    get_or-set_other,
    slice_get,
    behind_next more rest j (i ∷
        seen) (slice_set plan i (Some j)) (length-set plan i (Some j) ∙ size) fresh.0 fresh.1 fresh.2
        (λ q h. let apart = apart_from i q seen h in get_or-set_other plan i q (Some j) None apart.0 ∙
        none q apart.1) at p e,
  )

  -- all vehicles: those before keep what they have
  kept_next : (vehicles : List (List ℕ)) (seen : List ℕ) (plan : List (Option ℕ)) → AreBusy vehicles
      → AreFresh n seen (concat vehicles) → (p : ℕ) → has seen p ≡ true
      → next (linked plan (driven_links vehicles)) p ≡ next plan p
  kept_next [] seen plan busy fresh p h = refl
  kept_next ([] ∷ vehicles) seen plan busy fresh p h = absurd (omega (arith, busy 0 [] (omega arith)))
  kept_next ((i ∷ more) ∷ vehicles) seen plan busy fresh p h =
      ap (λ some. next some p) (in_turn plan (links_behind i more) (driven_links vehicles))
      ∙ kept_next vehicles (after (i ∷ seen) more) (linked plan (links_behind i more))
      (All-tail (λ driven. 0 < length driven) (i ∷ more) vehicles busy)
      (fresh_after n (i ∷ more) (concat vehicles) seen fresh) p (after_seen (i ∷ more) seen p h)
      ∙ behind_other more i plan p (other_than seen i p h fresh.1) (front_apart more (concat vehicles) p
      (seen_apart n (more ++ concat vehicles) (i ∷ seen) p fresh.2 (has_more seen i p h)))

  all_next : (vehicles : List (List ℕ)) (seen : List ℕ) (plan : List (Option ℕ)) → AreBusy vehicles
      → length plan ≡ n → AreFresh n seen (concat vehicles)
      → ((p : ℕ) → has seen p ≡ false → next plan p ≡ None)
      → All (λ driven. (at i : ℕ) → slice_get driven at ≡ Some i
      → next (linked plan (driven_links vehicles)) i ≡ slice_get driven (at + 1)) vehicles
  all_next [] seen plan busy size fresh none = λ k d h. absurd (omega (arith, h))
  all_next ([] ∷ vehicles) seen plan busy size fresh none = absurd (omega (arith, busy 0 [] (omega arith)))
  all_next ((i ∷ more) ∷ vehicles) seen plan busy size fresh none =
      let first = linked plan (links_behind i more) in
      let turn = in_turn plan (links_behind i more) (driven_links vehicles) in
      let busy_more = All-tail (λ driven. 0 < length driven) (i ∷ more) vehicles busy in
      let fresh_more = fresh_after n (i ∷ more) (concat vehicles) seen fresh in
      All-cons (λ driven. (at p : ℕ) → slice_get driven at ≡ Some p
      → next (linked plan (links_behind i more ++ driven_links vehicles)) p ≡ slice_get driven (at + 1))
      (i ∷ more) vehicles
      (λ at p e. ap (λ some. next some p) turn
      ∙ kept_next vehicles (after (i ∷ seen) more) first busy_more fresh_more p (after_at (i ∷ more) seen at p e)
      ∙ behind_next more (concat vehicles) i seen plan size fresh.0 fresh.1 fresh.2 none at p e)
      (subst (λ some. All (λ driven. (at i : ℕ) → slice_get driven at ≡ Some i
      → next some i ≡ slice_get driven (at + 1)) vehicles) (sym turn)
      (all_next vehicles (after (i ∷ seen) more) first busy_more
      (linked_size (links_behind i more) plan ∙ size) fresh_more
      (λ q h. let parts = after_none (i ∷ more) seen q h in
      let apart = apart_from i q more parts.1 in
      behind_other more i plan q apart.0 apart.1 ∙ none q parts.0)))

  -- the plan of the links
  pub plan_is : (vehicles : List (List ℕ)) → AreBusy vehicles → AreFresh n [] (concat vehicles)
      → IsPlanOf n vehicles (plan_by n (driven_links vehicles))
  plan_is vehicles busy fresh = grind (
    arith,
    linked_size,
    driven_links,
    length-replicate,
    all_next,
    none_next,
  )

-- ---- which links there are

none_first : (b : Bool) (x : ℕ × ℕ) (xs : List (ℕ × ℕ)) → cond b (x ∷ xs) xs ≡ [] → (b ≡ false) × (xs ≡ [])
none_first true x xs e = cc
none_first false x xs e = (refl, e)

none_both : {X : Type 0} (xs ys : List X) → xs ++ ys ≡ [] → (xs ≡ []) × (ys ≡ [])
none_both [] ys e = (refl, e)
none_both (x ∷ xs) ys e = cc

-- no link of which this holds
none_behind : (p : ℕ × ℕ → Bool) (more : List ℕ) (i : ℕ) → filter p (links_behind i more) ≡ [] → (at a b : ℕ)
    → slice_get (i ∷ more) at ≡ Some a → slice_get (i ∷ more) (at + 1) ≡ Some b → p (a, b) ≡ false
none_behind p [] i none zero a b first second = absurd (none-some b second)
none_behind p [] i none (suc at) a b first second = absurd (none-some a first)
none_behind p (j ∷ more) i none zero a b first second = grind (
  arith,
  same_Some,
  none_first,
  links_behind,
)
none_behind p (j ∷ more) i none (suc at) a b first second =
    let more_on : suc at + 1 ≡ suc (at + 1) = omega arith in
    none_behind p more j (none_first (p (i, j)) (i, j) (filter p (links_behind j more)) none).1 at a b first
    (sym (ap (slice_get (i ∷ j ∷ more)) more_on) ∙ second)

pub none_driven : (p : ℕ × ℕ → Bool) (vehicles : List (List ℕ)) → filter p (driven_links vehicles) ≡ []
    → All (λ driven. (i j : ℕ) → Drives driven i j → p (i, j) ≡ false) vehicles
none_driven p [] none = λ k d h. absurd (omega (arith, h))
none_driven p ([] ∷ vehicles) none = All-cons (λ driven. (i j : ℕ) → Drives driven i j → p (i, j) ≡ false)
    [] vehicles (λ i j it. absurd (none-some i it.first)) (none_driven p vehicles none)
none_driven p ((i ∷ more) ∷ vehicles) none =
    let parts = none_both (filter p (links_behind i more)) (filter p (driven_links vehicles))
    (sym (filter-append p (links_behind i more) (driven_links vehicles)) ∙ none) in
    All-cons (λ driven. (i j : ℕ) → Drives driven i j → p (i, j) ≡ false) (i ∷ more) vehicles
    (λ a b it. none_behind p more i parts.0 it.at a b it.first it.second) (none_driven p vehicles parts.1)

append_at : {X : Type 0} (xs ys : List X) (k : ℕ) (x : X) → slice_get (xs ++ ys) k ≡ Some x
    → ((m : ℕ) × (slice_get xs m ≡ Some x)) ⊎ ((m : ℕ) × (slice_get ys m ≡ Some x))
append_at [] ys k x e = inr (k, e)
append_at (y ∷ xs) ys zero x e = inl (zero, e)
append_at {X} (y ∷ xs) ys (suc k) x e = later (append_at xs ys k x e)
  where
    later : ((m : ℕ) × (slice_get xs m ≡ Some x)) ⊎ ((m : ℕ) × (slice_get ys m ≡ Some x))
        → ((m : ℕ) × (slice_get (y ∷ xs) m ≡ Some x)) ⊎ ((m : ℕ) × (slice_get ys m ≡ Some x))
    later (inl at) = inl (suc at.0, at.1)
    later (inr at) = inr at

-- a link of a vehicle is driven by it
behind_drives : (more : List ℕ) (i k a b : ℕ) → slice_get (links_behind i more) k ≡ Some (a, b)
    → Drives (i ∷ more) a b
behind_drives [] i k a b e = absurd (none-some (a, b) e)
behind_drives (j ∷ more) i zero a b e = grind (arith, some_pair_parts)
behind_drives (j ∷ more) i (suc k) a b e =
    let it = behind_drives more j k a b e in
    let more_on : suc it.at + 1 ≡ suc (it.at + 1) = omega arith in record {
      at = suc it.at;
      first = it.first;
      second = ap (slice_get (i ∷ j ∷ more)) more_on ∙ it.second;
    }

-- and each link is driven by a vehicle
pub record IsDriven (vehicles : List (List ℕ)) (i j : ℕ) : Type 0 where
  pub vehicle : ℕ
  pub driven : List ℕ
  pub is : slice_get vehicles vehicle ≡ Some driven
  pub drives : Drives driven i j

pub link_driven : (vehicles : List (List ℕ)) (k i j : ℕ) → slice_get (driven_links vehicles) k ≡ Some (i, j)
    → IsDriven vehicles i j
link_driven [] k i j e = absurd (none-some (i, j) e)
link_driven ([] ∷ vehicles) k i j e =
    let it = link_driven vehicles k i j e in
    record { vehicle = suc it.vehicle; driven = it.driven; is = it.is; drives = it.drives }
link_driven ((first ∷ more) ∷ vehicles) k i j e =
    elim (append_at (links_behind first more) (driven_links vehicles) k (i, j) e) [
      | inl at ↦ record {
        vehicle = 0;
        driven = first ∷ more;
        is = refl;
        drives = behind_drives more first at.0 i j at.1;
      }
      | inr at ↦
          let it = link_driven vehicles at.0 i j at.1 in
          record { vehicle = suc it.vehicle; driven = it.driven; is = it.is; drives = it.drives }
    ]

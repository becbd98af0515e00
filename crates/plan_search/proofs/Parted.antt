-- Other potentials that meet the plan of a search.
use Rattle.plan_num.proofs.Common.{◌≡◌, ℕ, ◌<◌, ◌≤◌, ◌+◌, List, length, slice_get, Option, Some}
use Rattle.plan_num.proofs.Common.{None, IfSome, refl, sym, subst, arith, get_or-eq_default}
use Rattle.plan_num.proofs.Common.{none-some, slice_get_within}
use Rattle.link_plans.specs.declared.link_table.Link.{Link}
use Rattle.link_plans.proofs.Common.{Links, PotentialParts, at, link_to, worth, IsRow, by_bound}
use Rattle.link_plans.proofs.Common.{Covers}
use Rattle.plan_search.specs.Growing.{IsTaken}
use Rattle.plan_search.specs.Parting.{AreMet}

abbrev no_next : Option ℕ
no_next = None

-- the first links of a row are covered
abbrev pub AreCovered : List Link → PotentialParts → ℕ → ℕ → Type 0
AreCovered row potentials i done = (k : ℕ) (link : Link) → k < done → slice_get row k ≡ Some link
    → link.gain ≤ at potentials.u i + at potentials.v link.to

-- and one more
pub covered_more : (row : List Link) (potentials : PotentialParts) (i done : ℕ)
    → AreCovered row potentials i done → (link : Link) → slice_get row done ≡ Some link
    → link.gain ≤ at potentials.u i + at potentials.v link.to
    → AreCovered row potentials i (done + 1)
covered_more row potentials i done are link here low k other before e = grind arith

-- where all are, so are all links of the trip
pub row_covers : (links : Links) (potentials : PotentialParts) (i done : ℕ) (row : List Link)
    → IsRow links i links.count row → AreCovered row potentials i done → length row ≤ done
    → ((j : ℕ) → links.count ≤ j → worth (links.gain i j) ≡ None) → Covers links potentials i
row_covers links potentials i done row is are past none j = by_bound j links.count
    (λ within. split within (worth (links.gain i j)) refl)
    (λ behind. subst (λ it. IfSome it (λ gain. gain ≤ at potentials.u i + at potentials.v j))
    (sym (none j behind)) tt)
  where
    split : j < links.count → (it : Option ℕ) → worth (links.gain i j) ≡ it
        → IfSome (worth (links.gain i j)) (λ gain. gain ≤ at potentials.u i + at potentials.v j)
    split within None e = grind arith
    split within (Some gain) e =
        let found = is.all j gain within e in
        let there : found.0 < length row = slice_get_within row found.0 (link_to j gain) found.1 in
        subst (λ it. IfSome it (λ gain. gain ≤ at potentials.u i + at potentials.v j)) (sym e)
        (are found.0 (link_to j gain) (omega (arith, there, past)) found.1)

-- potentials that meet the plan take the place of those of the search
pub met_taken : (links : Links) (before after : PotentialParts) (plan : List (Option ℕ))
    → IsTaken links before plan → AreMet links after plan → IsTaken links after plan
met_taken links before after plan is met = grind (arith, by_bound, get_or-eq_default, none-some)

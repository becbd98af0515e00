-- A potential that covers what the links of a trip gain.
use Rattle.plan_num.proofs.Common.{◌≡◌, ℕ, ◌<◌, ◌≤◌, ◌+◌, ◌-◌, max, List, length, slice_get}
use Rattle.plan_num.proofs.Common.{slice_set, is_some, Option, Some, None, IfSome, refl, sym}
use Rattle.plan_num.proofs.Common.{subst, arith, get_or-set_same, slice_get_within}
use Rattle.link_plans.specs.Links.{Links, AreLinks}
use Rattle.link_plans.proofs.Linking.{by_number}
use Rattle.link_plans.proofs.Certified.{by_bound}
use Rattle.link_plans.specs.Potentials.{PotentialParts, at}
use Rattle.link_plans.specs.declared.link_table.Link.{Link}
use Rattle.link_plans.specs.LinkRows.{link_to, IsRow}
use Rattle.link_plans.specs.LinkRows.{worth}
use Rattle.link_plans.specs.Slacks.{Covers}

-- a number covers the first links of a list
pub record CoversLinks (row : List Link) (potentials : PotentialParts) (most done : ℕ) : Type 0 where
  pub small : most ≤ 1000000000000
  pub covers : (k : ℕ) (link : Link) → k < done → slice_get row k ≡ Some link
      → link.gain ≤ most + at potentials.v link.to

module _ (links : Links) (potentials : PotentialParts) (i most done : ℕ) (row : List Link)
    (is : IsRow links i links.count row) (are : CoversLinks row potentials most done) where
  -- a link more
  pub covers_more : (link : Link) (more : ℕ) → slice_get row done ≡ Some link
      → more ≡ max most (link.gain - at potentials.v link.to) → CoversLinks row potentials more (done + 1)
  covers_more link more here most_is = record {
    small = omega (arith, are.small, (is.right done link here).small, most_is);
    covers = λ k other before e. grind (arith, by_number);
  }

  -- the potential of the trip covers all its links, where none is to a trip that is not there
  pub covers_all : ((j : ℕ) → links.count ≤ j → worth (links.gain i j) ≡ None) → length row ≤ done
      → i < length potentials.u → Covers links (record { u = slice_set potentials.u i most; v = potentials.v }) i
  covers_all none past inside j =
      subst (λ own. IfSome (worth (links.gain i j)) (λ gain. gain ≤ own + at potentials.v j))
      (sym (get_or-set_same potentials.u i most 0 inside)) (by_bound j links.count
      (λ within. split within (worth (links.gain i j)) refl)
      (λ behind. subst (λ it. IfSome it (λ gain. gain ≤ most + at potentials.v j)) (sym (none j behind)) tt))
    where
      split : j < links.count → (it : Option ℕ) → worth (links.gain i j) ≡ it
          → IfSome (worth (links.gain i j)) (λ gain. gain ≤ most + at potentials.v j)
      split within None e = subst (λ it. IfSome it (λ gain. gain ≤ most + at potentials.v j)) (sym e) tt
      split within (Some gain) e =
          let found = is.all j gain within e in
          let there : found.0 < length row = slice_get_within row found.0 (link_to j gain) found.1 in
          let low : gain ≤ most + at potentials.v j =
          are.covers found.0 (link_to j gain) (omega (arith, there, past)) found.1 in
          subst (λ it. IfSome it (λ gain. gain ≤ most + at potentials.v j)) (sym e) low

-- no link is to a trip that is not there
pub none_past : (links : Links) → AreLinks links → (i j : ℕ) → links.count ≤ j
    → worth (links.gain i j) ≡ None
none_past links sound i j past = grind (arith, is_some)

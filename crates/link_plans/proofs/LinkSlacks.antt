-- The slacks of the links of a trip in a list.
use Rattle.plan_num.proofs.Common.{arith, ◌≡◌, ℕ, ◌<◌, ◌≤◌, ◌+◌, ◌-◌, List, slice_get, Some, None}
use Rattle.plan_num.proofs.Common.{IfSome, ap, ◌∙◌, subst, lt-ltb}
use Rattle.link_plans.specs.Links.{Links}
use Rattle.link_plans.specs.declared.link_table.Link.{Link}
use Rattle.link_plans.specs.LinkRows.{worth, IsRow}
use Rattle.link_plans.specs.Potentials.{PotentialParts, at}
use Rattle.link_plans.specs.Slacks.{slack_of, slack_to, Covers}

module _ (links : Links) (i : ℕ) (row : List Link) (is : IsRow links i links.count row) where
  module _ (potentials : PotentialParts) where
    inside_slack : (j : ℕ) → j < links.count → slack_to links potentials i j
        ≡ slack_of (at potentials.u i + at potentials.v j) (worth (links.gain i j))
    inside_slack j within = grind (arith, lt-ltb)

    -- the slack of a trip at a place to which no link leads
    pub gap_slack : (j : ℕ) → j < links.count → worth (links.gain i j) ≡ None
        → slack_to links potentials i j ≡ None
    gap_slack j within none = inside_slack j within ∙ ap (slack_of (at potentials.u i + at potentials.v j)) none

    -- and at one to which a link leads
    pub link_slack : (k : ℕ) (link : Link) → slice_get row k ≡ Some link
        → slack_to links potentials i link.to
        ≡ Some (at potentials.u i + at potentials.v link.to - link.gain)
    link_slack k link e = grind (arith, inside_slack)

    -- a link that is covered
    pub link_covered : Covers links potentials i → (k : ℕ) (link : Link) → slice_get row k ≡ Some link
        → link.gain ≤ at potentials.u i + at potentials.v link.to
    link_covered covers k link e = subst (λ it. IfSome it
        (λ gain. gain ≤ at potentials.u i + at potentials.v link.to)) (is.right k link e).is
        (covers link.to)

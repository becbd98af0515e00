-- How much the potentials of a trip and of a place are more than what the link gains.
use Rattle.std.specs.Prelude.{ℕ, ◌+◌, ◌-◌, ◌≤◌, nat_lt, if◌then◌else◌, Option, Some, None, IfSome}
use Rattle.link_plans.specs.Links.{Links}
use Rattle.link_plans.specs.LinkRows.{worth}
use Rattle.link_plans.specs.Potentials.{PotentialParts, at}

-- what two potentials are more than a gain
abbrev pub slack_of : ℕ → Option ℕ → Option ℕ
slack_of both None = None
slack_of both (Some gain) = Some (both - gain)

-- the slack of a trip at a place: to the trip there, or that of its own potential behind all trips
abbrev pub slack_to : Links → PotentialParts → ℕ → ℕ → Option ℕ
slack_to links potentials i place =
    if nat_lt place links.count
    then slack_of (at potentials.u i + at potentials.v place) (worth (links.gain i place))
    else Some (at potentials.u i)

-- the potentials cover what the links of a trip gain
abbrev pub Covers : Links → PotentialParts → ℕ → Type 0
Covers links potentials i = (j : ℕ) → IfSome (worth (links.gain i j))
    (λ gain. gain ≤ at potentials.u i + at potentials.v j)

-- What holds of journeys, whatever the day is.
use Rattle.std.specs.Prelude.{ℤ, ◌≡◌, None}
use Rattle.connections.specs.declared.found.Found.{Found}
use Rattle.connections.specs.Earliest.{IsAnswer}
use Rattle.connections.specs.Nets.{IsNet, JourneyParts}
use Rattle.connections.specs.Judged.{NoneEarlier, first_broken_rule}

-- a set that breaks no rule proves that no journey arrives earlier
abbrev pub PassingProves : Type 0
PassingProves = (net : JourneyParts) (from to start : ℤ) (found : Found) → IsNet net
    → first_broken_rule net from to start found ≡ None
    → NoneEarlier net from to start found.journey

-- what is found breaks no rule
abbrev pub AnswersPass : Type 0
AnswersPass = (net : JourneyParts) (from to start : ℤ) (found : Found) → IsNet net
    → IsAnswer net from to start found → first_broken_rule net from to start found ≡ None

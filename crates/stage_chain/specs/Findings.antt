-- The rules of a check, and what it finds where an input is not there or is refused.
use Rattle.std.specs.Prelude.{ℕ, if◌then◌else◌, Bool, true, false, List, codes}
use Rattle.tables.specs.declared.refusal.Refusal.{Refusal}
use Rattle.tables.specs.declared.refusal.Refusal.TheVariants as refusal
use Rattle.giv_files.specs.declared.stage.Stage.{Stage}
use Rattle.stage_chain.specs.declared.cause.Cause.{Cause}
use Rattle.stage_chain.specs.declared.cause.Cause.TheVariants as cause
use Rattle.stage_chain.specs.declared.finding.Finding.{Finding}
use Rattle.stage_chain.specs.declared.finding.Finding.TheVariants.{BadInput, Broken}
use Rattle.stage_chain.specs.declared.origin.Origin.{Origin}
use Rattle.stage_chain.specs.declared.origin.Origin.TheVariants as origin
use Rattle.stage_chain.specs.declared.rule.Rule.{Rule}
use Rattle.stage_chain.specs.declared.rule.Rule.TheVariants as rule
use Rattle.stage_chain.specs.Hand.{is_hand_file}

-- the words for the rules
abbrev pub rule_name : Rule → List ℕ
rule_name rule.Missing = codes "missing"
rule_name rule.Input = codes "input"
rule_name rule.Content = codes "content"
rule_name rule.Row = codes "row"
rule_name rule.Lines = codes "lines"
rule_name rule.Bounds = codes "bounds"
rule_name rule.Tree = codes "tree"
rule_name rule.Split = codes "split"
rule_name rule.Empty = codes "empty"
rule_name rule.Multiplier = codes "multiplier"
rule_name rule.Bound = codes "bound"
rule_name rule.Point = codes "point"
rule_name rule.Events = codes "events"
rule_name rule.Tension = codes "tension"
rule_name rule.Trips = codes "trips"
rule_name rule.Follow = codes "follow"
rule_name rule.Certificate = codes "certificate"
rule_name rule.Potentials = codes "potentials"
rule_name rule.Pair = codes "pair"
rule_name rule.Sum = codes "sum"
rule_name rule.Early = codes "early"
rule_name rule.Reasons = codes "reasons"
rule_name rule.Reason = codes "reason"

-- people write the files of an origin
abbrev pub is_of_people : Origin → Bool
is_of_people origin.Earlier = false
is_of_people _ = true

-- a refusal names a row of a file that people write
abbrev pub names_hand : Refusal → Bool
names_hand (refusal.BadRow file row why) = is_hand_file file
names_hand _ = false

-- what is found where a stage is not given its inputs, or refuses them: what people write is refused,
-- or else a rule is broken
unfoldable pub finding_of : Stage → Cause → Finding
finding_of stage (cause.BadConfig reason) = BadInput (cause.BadConfig reason)
finding_of stage (cause.Missing file) =
    if is_hand_file file then BadInput (cause.Missing file) else Broken stage rule.Missing
finding_of stage (cause.TooLong file) =
    if is_hand_file file then BadInput (cause.TooLong file) else Broken stage rule.Missing
finding_of stage (cause.Refused at reason) =
    if names_hand reason then BadInput (cause.Refused at reason) else Broken stage rule.Input

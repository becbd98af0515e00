-- The rules of a check, and what it finds where an input is not there or is refused.
use Rattle.std.specs.Prelude.{Option, Some}
use Rattle.line_search.specs.declared.fault.ConceptFault.{ConceptFault}
use Rattle.line_search.specs.declared.fault.ConceptFault.TheVariants as concept
use Rattle.pesp_search.specs.declared.fault.TimetableFault.{TimetableFault}
use Rattle.pesp_search.specs.declared.fault.TimetableFault.TheVariants as timetable
use Rattle.vehicle_flow.specs.declared.schedule_fault.ScheduleFault.{ScheduleFault}
use Rattle.vehicle_flow.specs.declared.schedule_fault.ScheduleFault.TheVariants as schedule
use Rattle.delay_management.specs.declared.fault.ReasonFault.{ReasonFault}
use Rattle.delay_management.specs.declared.fault.ReasonFault.TheVariants as reason
use Rattle.stage_chain.specs.declared.rule.Rule.{Rule}
use Rattle.stage_chain.specs.declared.rule.Rule.TheVariants as rule

-- the rule that a concept or the tree beside it breaks
abbrev pub concept_rule : ConceptFault → Rule
concept_rule concept.Row = rule.Row
concept_rule concept.Lines = rule.Lines
concept_rule concept.Bounds = rule.Bounds
concept_rule concept.Tree = rule.Tree
concept_rule concept.Split = rule.Split
concept_rule concept.Empty = rule.Empty
concept_rule concept.Multiplier = rule.Multiplier
concept_rule concept.Bound = rule.Bound
concept_rule concept.Point = rule.Point

-- the rule that a timetable breaks
abbrev pub timetable_rule : TimetableFault → Rule
timetable_rule timetable.Row = rule.Row
timetable_rule timetable.Events = rule.Events
timetable_rule timetable.Tension = rule.Tension

-- the rule that a vehicle schedule or the potentials beside it break
abbrev pub schedule_rule : ScheduleFault → Rule
schedule_rule schedule.Row = rule.Row
schedule_rule schedule.Trips = rule.Trips
schedule_rule schedule.Follow = rule.Follow
schedule_rule schedule.Certificate = rule.Certificate
schedule_rule schedule.Potentials = rule.Potentials
schedule_rule schedule.Pair = rule.Pair
schedule_rule schedule.Sum = rule.Sum

-- the rule that a disposition or the reasons beside it break
abbrev pub reason_rule : ReasonFault → Rule
reason_rule reason.TimesRow = rule.Row
reason_rule reason.Events = rule.Events
reason_rule (reason.Early event) = rule.Early
reason_rule reason.ReasonsRow = rule.Reasons
reason_rule (reason.Reason event) = rule.Reason

-- the rule that a disposition breaks without reasons beside it, by what it breaks with an empty text
-- of reasons: those on times come first, and then that reasons are there
abbrev pub bare_rule : Option ReasonFault → Rule
bare_rule (Some reason.TimesRow) = rule.Row
bare_rule (Some reason.Events) = rule.Events
bare_rule (Some (reason.Early event)) = rule.Early
bare_rule _ = rule.Certificate

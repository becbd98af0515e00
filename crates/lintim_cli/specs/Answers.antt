-- How a run ends.
use Rattle.std.specs.Prelude.{Option, Some, None}
use Rattle.stage_chain.specs.declared.checked.CheckEnd.{CheckEnd}
use Rattle.stage_chain.specs.declared.checked.CheckEnd.TheVariants as check
use Rattle.stage_chain.specs.declared.state.StatesEnd.{StatesEnd}
use Rattle.stage_chain.specs.declared.state.StatesEnd.TheVariants as states
use Rattle.command_line.specs.declared.form.Form.{Form}
use Rattle.command_line.specs.declared.form.Form.TheVariants as forms
use Rattle.command_line.specs.declared.status.Status.{Status}
use Rattle.command_line.specs.declared.command.Command.{Command}
use Rattle.command_line.specs.declared.command.Command.TheVariants as command
use Rattle.command_line.specs.declared.status.Status.TheVariants.{Done, Usage, BadInput, NoSolution}
use Rattle.command_line.specs.declared.status.Status.TheVariants.{Spent, FileFault, SinkFault}
use Rattle.command_line.specs.declared.status.Status.TheVariants.{NoMemory, Uncertified}

-- the answer to a check
abbrev pub status_of_check : CheckEnd → Status
status_of_check check.Passed = Done
status_of_check check.BadInput = BadInput
status_of_check (check.Failed stage rule) = Uncertified

-- the answer where the states of stages are asked for
abbrev pub status_of_states : StatesEnd → Status
status_of_states states.Told = Done
status_of_states states.BadInput = BadInput

-- the answers that a question has: only waiting decisions spend a budget, and only one that was saved
-- breaks a rule
abbrev pub AnswersForm : Form → Status → Type 0
AnswersForm form Done = Unit {0}
AnswersForm form BadInput = Unit {0}
AnswersForm (forms.Waits penalty budget) Spent = Unit {0}
AnswersForm (forms.CheckWaits penalty) Uncertified = Unit {0}
AnswersForm form FileFault = Unit {0}
AnswersForm form SinkFault = Unit {0}
AnswersForm form NoMemory = Unit {0}
AnswersForm form _ = ⊥

-- the answers that a command has, by which one the words ask for, if they ask for one
abbrev pub AnswersTo : Option Command → Status → Type 0
AnswersTo (Some (command.Run by)) Done = Unit {0}
AnswersTo (Some (command.Run by)) BadInput = Unit {0}
AnswersTo (Some (command.Run by)) NoSolution = Unit {0}
AnswersTo (Some (command.Run by)) Spent = Unit {0}
AnswersTo (Some (command.Run by)) FileFault = Unit {0}
AnswersTo (Some (command.Run by)) SinkFault = Unit {0}
AnswersTo (Some (command.Run by)) NoMemory = Unit {0}
AnswersTo (Some (command.Run by)) _ = ⊥
AnswersTo (Some command.Check) Done = Unit {0}
AnswersTo (Some command.Check) BadInput = Unit {0}
AnswersTo (Some command.Check) Uncertified = Unit {0}
AnswersTo (Some command.Check) FileFault = Unit {0}
AnswersTo (Some command.Check) SinkFault = Unit {0}
AnswersTo (Some command.Check) NoMemory = Unit {0}
AnswersTo (Some command.Check) _ = ⊥
AnswersTo (Some command.Status) Done = Unit {0}
AnswersTo (Some command.Status) BadInput = Unit {0}
AnswersTo (Some command.Status) FileFault = Unit {0}
AnswersTo (Some command.Status) SinkFault = Unit {0}
AnswersTo (Some command.Status) NoMemory = Unit {0}
AnswersTo (Some command.Status) _ = ⊥
AnswersTo (Some (command.Demo number)) Done = Unit {0}
AnswersTo (Some (command.Demo number)) BadInput = Unit {0}
AnswersTo (Some (command.Demo number)) NoSolution = Unit {0}
AnswersTo (Some (command.Demo number)) Spent = Unit {0}
AnswersTo (Some (command.Demo number)) SinkFault = Unit {0}
AnswersTo (Some (command.Demo number)) NoMemory = Unit {0}
AnswersTo (Some (command.Demo number)) _ = ⊥
AnswersTo (Some (command.Ask form)) status = AnswersForm form status
AnswersTo None Usage = Unit {0}
AnswersTo None SinkFault = Unit {0}
AnswersTo None NoMemory = Unit {0}
AnswersTo None _ = ⊥

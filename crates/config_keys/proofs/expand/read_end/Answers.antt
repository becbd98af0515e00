use Rattle.config_keys.proofs.Expanding.{end_refused}
use Rattle.config_keys.proofs.expand.read_end.Goals as goal

pub returns-in_ok-fault_of-in-Some-clause-read : goal.returns-in_ok-fault_of-in-Some-clause-read
returns-in_ok-fault_of-in-Some-clause-read c =
    end_refused c.args.file.now.told.rest c.args.name.now c.args.reading.now
    c.read_said.new.reading c.args.file.now.fault c.in-Some.fault _ c.in_ok-read_said.ensures
    c.in-Some.is c.in_ok-fault_of-in-Some.ensures

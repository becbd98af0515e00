use Rattle.demo_dataset.proofs.Numbered.{numbered_network}
use Rattle.demo_dataset.proofs.demo.demo_files.Goals as goal

pub returns-clause-numbered : goal.returns-clause-numbered
returns-clause-numbered c = numbered_network c.args.n c.requires.some c.requires.few

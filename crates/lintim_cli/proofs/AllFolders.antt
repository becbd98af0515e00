-- What holds over all folders.
use Rattle.stage_driver.proofs.Planned.{chain_laws}
use Rattle.stage_driver.proofs.SolvedEnds.{ends_as_solved, ends_as_solved_over}
use Rattle.lintim_cli.specs.Says.{Laws}

pub laws : Laws
laws = record { chain = chain_laws; ends = ends_as_solved; ends_over = ends_as_solved_over }

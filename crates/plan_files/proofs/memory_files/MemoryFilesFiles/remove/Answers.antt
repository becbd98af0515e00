use Rattle.plan_files.proofs.OtherFiles.{absent_left}
use Rattle.plan_files.proofs.memory_files.MemoryFilesFiles.remove.Goals as goal

pub returns-in_ok-name-in-None-clause-absent : goal.returns-in_ok-name-in-None-clause-absent
returns-in_ok-name-in-None-clause-absent c =
    rw (← c.self.view_is, ← c.in_ok-name-in-None.ensures)
    (absent_left c.make.result _ _ _ c.make.ensures.steady c.make.ensures.contents)

use Rattle.plan_files.proofs.Failing.{front_appended}
use Rattle.plan_files.proofs.memory_sink.MemorySinkSink.write.Goals as goal

pub returns-in-Some-clause-written : goal.returns-in-Some-clause-written
returns-in-Some-clause-written c =
    rw (← c.self.view_is) (front_appended _ _ _ _ _ _ c.keep_front.ensures)

-- Files in memory.
use Rattle.std.specs.Prelude.{List, []}
use Rattle.plan_files.specs.declared.write.Write.{Write}
use Rattle.plan_files.specs.Planned.{Planned, no_plan}

-- the changes that files saw, from no files at all, which are the writes that answered Ok and what
-- failed puts left; those writes alone; and the calls
pub record Stored : Type 0 where
  pub changes : List Write
  pub writes : List Write
  pub plan : Planned

-- no changes, no writes, and no call that is to fail
abbrev pub nothing_stored : Stored
nothing_stored = record { changes = []; writes = []; plan = no_plan }

-- Calls that only read, one after the other.
use Rattle.plan_num.proofs.Common.{ℕ, Bool, false, List, Option, refl, arith}
use Rattle.plan_files.specs.declared.write.Write.{Write}
use Rattle.plan_files.specs.Folder.{Folder}
use Rattle.plan_files.specs.Reads.{OnlyReads}

module _ {S : Type 0} (contents : S → Option Folder) (writes : S → Option (List Write))
    (faults : S → ℕ) where
  -- no call reads nothing
  pub nothing_read : (files : S) → OnlyReads contents writes faults files files false
  nothing_read files = record { contents = refl; writes = refl; faults = refl }

  -- one call after another that did not fail
  pub both_read : (old mid new : S) (failed : Bool) → OnlyReads contents writes faults old mid false
      → OnlyReads contents writes faults mid new failed
      → OnlyReads contents writes faults old new failed
  both_read old mid new failed first then = grind arith

-- The texts of reports, and what writing one leaves.
use Rattle.std.specs.Prelude.{ℕ, ◌≡◌, ◌⊎◌, List, ◌++◌, take, codes, Option}
use Rattle.std.specs.Option.{option_map}
use Rattle.plan_files.specs.Counts.{Raised}
use Rattle.command_line.specs.declared.status.Status.{Status}
use Rattle.command_line.specs.declared.status.Status.TheVariants.{FileFault, SinkFault, NoMemory}

abbrev pub usage_report : List ℕ
usage_report =
    codes "usage: lintim make | fresh | check | status | demo N | waits P B | check-waits P | "
    ++ codes "journey A B T planned | journey A B T disposed | pool S1 S2 ..\n"

abbrev pub fault_report : List ℕ
fault_report = codes "file fault\n"

-- the report is out, whole, and the count of faults is as before
pub record Whole (report : List ℕ) (old new : Option (List ℕ)) (before now : ℕ) : Type 0 where
  pub out : new ≡ option_map (λ bytes. bytes ++ report) old
  pub fault_free : now ≡ before

-- a front part of the report is out, and the count of faults rose
pub record Broken (report : List ℕ) (old new : Option (List ℕ)) (before now : ℕ) : Type 0 where
  pub out : (kept : ℕ) × (new ≡ option_map (λ bytes. bytes ++ take kept report) old)
  pub raised : Raised before now

-- nothing is out, and the count of faults is as before
pub record Nothing (old new : Option (List ℕ)) (before now : ℕ) : Type 0 where
  pub out : new ≡ old
  pub fault_free : now ≡ before

-- what a report's writing leaves, by the answer: the status where all of it is out
abbrev pub Reported : List ℕ → Status → Option (List ℕ) → Option (List ℕ) → ℕ → ℕ → Status → Type 0
Reported report status old new before now SinkFault = Broken report old new before now
Reported report status old new before now NoMemory = Nothing old new before now
Reported report status old new before now result =
    (result ≡ status) × Whole report old new before now

-- what the writing of a fault's report leaves: the answer stays the fault where only a front part
-- is out
abbrev pub FaultReported : Option (List ℕ) → Option (List ℕ) → ℕ → ℕ → Status → Type 0
FaultReported old new before now NoMemory = Nothing old new before now
FaultReported old new before now FileFault =
    Whole fault_report old new before now ⊎ Broken fault_report old new before now
FaultReported old new before now _ = ⊥

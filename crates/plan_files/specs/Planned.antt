-- Calls that are listed to fail, and what a failing call leaves.
use Rattle.std.specs.Prelude.{ℕ, ◌≡◌, ◌⊎◌, List, [], ◌∷◌, Option, Some, None, is_some, find}
use Rattle.std.specs.Prelude.{nat_eq, if◌then◌else◌}
use Rattle.plan_files.specs.declared.fault_plan.ListedFault.{ListedFault}
use Rattle.plan_files.specs.Counts.{next_count}

-- the calls so far, those that are to fail, the newest entry first, how many failed, and how many
-- of these kept nothing for want of memory
pub record Planned : Type 0 where
  pub calls : ℕ
  pub listed : List ListedFault
  pub failed : ℕ
  pub unkept : ℕ

-- no call was made, and none is to fail
abbrev pub no_plan : Planned
no_plan = record { calls = 0; listed = []; failed = 0; unkept = 0 }

-- one fault more is listed
abbrev pub with_fault : Planned → ℕ → Option ℕ → Planned
with_fault plan number keeps =
    record plan { listed = record { call = number; kept = keeps } ∷ plan.listed }

-- the fault that is listed for a call, if there is one: where there are several the newest one
abbrev pub fault_of : List ListedFault → ℕ → Option ListedFault
fault_of listed number = find (λ fault. nat_eq fault.call number) listed

-- the fault that is due for the next call, whose number is the count of calls after it
abbrev pub due : Planned → Option ListedFault
due plan = fault_of plan.listed (next_count plan.calls)

-- the call is counted, and as a failed one where a fault was due
abbrev pub after_call : Planned → Planned
after_call plan = record plan {
  calls = next_count plan.calls;
  failed = if is_some (due plan) then next_count plan.failed else plan.failed;
}

-- one failed call more kept nothing for want of memory
abbrev pub with_unkept : Planned → Planned
with_unkept plan = record plan { unkept = next_count plan.unkept }

-- What a failed call leaves, by how many bytes it was to keep: with None all is as before. Where it
-- was to keep bytes it did; or memory for them was refused, all is as before, and that is counted.
abbrev pub LeavesFront :
    {X : Type 0} → (ℕ → X) → Option ℕ → X → X → Planned → Planned → Type 0
LeavesFront keeping None old new called now = (new ≡ old) × (now ≡ called)
LeavesFront keeping (Some kept) old new called now =
    ((new ≡ keeping kept) × (now ≡ called)) ⊎ ((new ≡ old) × (now ≡ with_unkept called))

-- what a call that writes leaves by the fault that was due, beside what its answer says
abbrev pub FaultLeaves :
    {X : Type 0} → (ℕ → X) → Option ListedFault → X → X → Planned → Planned → Type 0
FaultLeaves keeping None old new before now = now ≡ after_call before
FaultLeaves keeping (Some fault) old new before now =
    LeavesFront keeping fault.kept old new (after_call before) now

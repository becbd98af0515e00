-- What holds of entries, whatever is kept in them.
use Rattle.plan_num.proofs.Common.{◌≡◌, ◌≢◌, ◌<◌, ◌^◌, length, ℕ, List, [], ◌++◌, Option, Some}
use Rattle.plan_num.proofs.Common.{None, Result, Ok}
use Rattle.giv_files.specs.declared.made.Made.{Made}
use Rattle.giv_files.specs.declared.stage.Stage.{Stage}
use Rattle.giv_files.proofs.Common.{BundleParts, Fits}
use Rattle.tables.specs.declared.refusal.Refusal.{Refusal}
use Rattle.stage_keep.specs.Entries.{EntryParts, IsEntryOf, entry_bytes}
use Rattle.stage_keep.specs.EntryReading.{ReadsEntry, read_entry}
use Rattle.stage_keep.specs.Honest.{IsHonest, IsHonestKeep, kept_for}

-- where entries of one stage stand at the front of the same bytes, they are the same entry
abbrev pub EntriesStandApart : Type 0
EntriesStandApart = (stage : Stage) (entry other : EntryParts) (more rest : List ℕ)
    → IsEntryOf stage entry → IsEntryOf stage other
    → entry_bytes stage entry ++ more ≡ entry_bytes stage other ++ rest → (entry ≡ other) × (more ≡ rest)

-- an entry is read back
abbrev pub EntriesAreReadBack : Type 0
EntriesAreReadBack = (stage : Stage) (entry : EntryParts)
    → IsEntryOf stage entry → read_entry stage (entry_bytes stage entry) ≡ Some entry

-- bytes that are read are the bytes of an entry, and bytes that are not read are no entry's
abbrev pub ReadingIsExact : Type 0
ReadingIsExact = (stage : Stage) (bytes : List ℕ)
    → length bytes < 2 ^ 64 → ReadsEntry stage bytes (read_entry stage bytes)

-- a front part of an entry is no entry, unless it is the whole
abbrev pub FrontsAreNone : Type 0
FrontsAreNone = (stage : Stage) (entry : EntryParts) (front behind : List ℕ) → IsEntryOf stage entry
    → entry_bytes stage entry ≡ front ++ behind → behind ≢ [] → read_entry stage front ≡ None

-- a front part of an entry is honest
abbrev pub FrontsAreHonest : Type 0
FrontsAreHonest = (makes : BundleParts → Result Made Refusal) (stage : Stage) (entry : EntryParts)
    (front behind : List ℕ) → IsEntryOf stage entry
    → entry_bytes stage entry ≡ front ++ behind → behind ≢ [] → IsHonest makes stage front

-- what an honest keep holds for a fitting bundle is what its stage makes
abbrev pub HonestIsMade : Type 0
HonestIsMade = (makes : BundleParts → Result Made Refusal) (kept : Stage → Option (List ℕ))
    → IsHonestKeep makes kept → (bundle : BundleParts) (made : Made) → Fits bundle
    → kept_for bundle (kept bundle.stage) ≡ Some made → makes bundle ≡ Ok made

-- What calls on files find, and whether they failed.
use Rattle.std.specs.Prelude.{ℕ, ◌≤◌, ◌<◌, ⊤, Bool, true, false, if◌then◌else◌, nat_le}
use Rattle.std.specs.Prelude.{List, length, Option, Some, None, Result, Ok, Err}
use Rattle.std.specs.Cmp.Lexicographic.{slice_cmp}
use Rattle.std.specs.Ordering.{nat_cmp}
use Rattle.std.specs.Str.{bytes_eq}
use Rattle.std.specs.FinMap as map
use Rattle.plan_files.specs.declared.file_fault.FileFault.{FileFault}
use Rattle.plan_files.specs.declared.file_fault.FileFault.TheVariants.{Failed, NoMemory}
use Rattle.plan_files.specs.declared.store.Got.{Got}
use Rattle.plan_files.specs.declared.store.Got.TheVariants.{Bytes, Absent, TooLong}

-- which bytes stand under each name
abbrev pub Folder : Type 0
Folder = map.FinMap (slice_cmp nat_cmp) (List ℕ)

-- what a read with a limit finds
abbrev pub found : Option (List ℕ) → ℕ → Got
found None limit = Absent
found (Some bytes) limit = if nat_le (length bytes) limit then Bytes bytes else TooLong

-- what a read with a limit finds under a name
abbrev pub got_of : Folder → List ℕ → ℕ → Got
got_of folder name limit = found (map.get folder name) limit

-- the same bytes, or no file both times
abbrev pub same_bytes : Option (List ℕ) → Option (List ℕ) → Bool
same_bytes None None = true
same_bytes (Some there) (Some bytes) = bytes_eq there bytes
same_bytes _ _ = false

-- the most bytes that a file can have, as a number of 64 bits
abbrev pub last_length : ℕ
last_length = 18446744073709551615

-- What is found keeps to a limit: bytes are at most so many, and no file is too long for the
-- greatest limit.
abbrev pub KeepsLimit : ℕ → Got → Type 0
KeepsLimit limit (Bytes bytes) = length bytes ≤ limit
KeepsLimit limit Absent = ⊤
KeepsLimit limit TooLong = limit < last_length

-- the call failed, and not for want of memory
abbrev pub has_failed : {T : Type 0} → Result T FileFault → Bool
has_failed (Ok _) = false
has_failed (Err Failed) = true
has_failed (Err NoMemory) = false

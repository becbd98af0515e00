-- Calls that only read.
use Rattle.std.specs.Prelude.{ℕ, ◌≡◌, ◌≢◌, ◌≤◌, ◌++◌, Bool, List, length, Option, Some, None, IfSome}
use Rattle.plan_files.specs.declared.write.Write.{Write}
use Rattle.plan_files.specs.Counts.{Counts}
use Rattle.plan_files.specs.Folder.{Folder, last_length}

-- Of what files tell, the contents and the writes are as before. The count of faults rises where
-- the call failed, and only there.
pub record OnlyReads {S : Type 0} (contents_of : S → Option Folder)
    (writes_of : S → Option (List Write))
    (faults_of : S → ℕ) (old new : S) (failed : Bool) : Type 0 where
  pub contents : contents_of new ≡ contents_of old
  pub writes : writes_of new ≡ writes_of old
  pub faults : Counts failed (faults_of old) (faults_of new)

-- bytes are a file's, and do not both begin with some bytes and end with others behind these
pub record LacksEnds (front back bytes : List ℕ) : Type 0 where
  pub counted : length bytes ≤ last_length
  pub lacks : (middle : List ℕ) → bytes ≢ front ++ middle ++ back

-- bytes are a file's, and do not begin with some bytes
pub record LacksFront (front bytes : List ℕ) : Type 0 where
  pub counted : length bytes ≤ last_length
  pub lacks : (behind : List ℕ) → bytes ≢ front ++ behind

-- some bytes are what stands behind a front in those of a file
pub record IsBehind (front behind : List ℕ) (there : Option (List ℕ)) : Type 0 where
  pub counted : length (front ++ behind) ≤ last_length
  pub whole : there ≡ Some (front ++ behind)

-- What is found behind a front: what stands there, and nothing where there is no file or it does not
-- begin with the front.
abbrev pub FoundBehind : List ℕ → Option (List ℕ) → Option (List ℕ) → Type 0
FoundBehind front there (Some behind) = IsBehind front behind there
FoundBehind front there None = IfSome there (LacksFront front)

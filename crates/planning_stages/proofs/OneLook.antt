-- Files over one look of texts, in which each file has one.
use Rattle.plan_num.proofs.Common.{◌≡◌, ℕ, List, [], ◌∷◌, ap, arith}
use Rattle.tables.specs.declared.file_id.FileId.{FileId}
use Rattle.giv_files.specs.declared.made.MadeFile.{MadeFile}
use Rattle.giv_files.proofs.Common.{ids_of}
use Rattle.stage_chain.specs.Laws.{files_over}

-- the first of files with their texts there has its own
pub first_own : (look : FileId → List ℕ) (file : FileId) (ids : List FileId) (text : List ℕ)
    (more : List MadeFile) → files_over look ids ≡ record { file = file; text = text } ∷ more
    → text ≡ look file
first_own look file [] text more is =
    let none : [] ≡ file ∷ ids_of more = ap ids_of is in absurd (cc)
first_own look file (id ∷ ids) text more is = grind arith

-- files without the first one
abbrev behind_first : List MadeFile → List MadeFile
behind_first [] = []
behind_first (file ∷ files) = files

-- both of two do
pub both_own : (look : FileId → List ℕ) (first second : FileId) (ids : List FileId) (text other : List ℕ)
    → files_over look ids
    ≡ record { file = first; text = text } ∷ record { file = second; text = other } ∷ []
    → (text ≡ look first) × (other ≡ look second)
both_own look first second [] text other is = absurd (let none = ap ids_of is in cc)
both_own look first second (id ∷ ids) text other is = grind (arith, first_own)

-- Which file a refusal names.
use Rattle.std.specs.Prelude.{◌≡◌, Bool, true, ⊤}
use Rattle.tables.specs.declared.file_id.FileId.{FileId}
use Rattle.tables.specs.declared.refusal.Refusal.{Refusal}
use Rattle.tables.specs.declared.refusal.Refusal.TheVariants as refusal

-- a refusal names no file but those that pass a test
abbrev pub NamesOnly : (FileId → Bool) → Refusal → Type 0
NamesOnly test (refusal.BadRow file row why) = test file ≡ true
NamesOnly test (refusal.TooMany what count) = ⊤
NamesOnly test refusal.NoSolution = ⊤
NamesOnly test (refusal.Spent entries) = ⊤

-- a refusal is that of an input: by a row of a file that passes a test, or by a limit
abbrev pub NamesInput : (FileId → Bool) → Refusal → Type 0
NamesInput test (refusal.BadRow file row why) = test file ≡ true
NamesInput test (refusal.TooMany what count) = ⊤
NamesInput test refusal.NoSolution = ⊥
NamesInput test (refusal.Spent entries) = ⊥

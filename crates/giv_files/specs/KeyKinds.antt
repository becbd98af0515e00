-- What the values of keys may be, and how a field spells them.
use Rattle.std.specs.Prelude.{ℕ, ℤ, pos, negsuc, int_le, ◌-◌, if◌then◌else◌, Bool, List, [], ◌∷◌, codes, length, map, Option, Some, None, option_map}
use Rattle.std.specs.Str.{bytes_eq}
use Rattle.plan_num.specs.Number.{whole_of, fixed_of}
use Rattle.giv_files.specs.declared.key_kind.KeyKind.{KeyKind}
use Rattle.giv_files.specs.declared.key_kind.KeyKind.TheVariants as kind
use Rattle.giv_files.specs.declared.key_words.KeyWords.{KeyWords}
use Rattle.giv_files.specs.declared.key_words.KeyWords.TheVariants as words
use Rattle.tables.specs.Reading.{place_of}
use Rattle.giv_files.specs.Stages.{places, stage_name}

-- the words that a value may be, by their places from 0
abbrev pub key_words : KeyWords → List (List ℕ)
key_words words.Stages = map stage_name places
key_words words.LoadSources = codes "od" ∷ codes "file" ∷ []
key_words words.NoOrYes = codes "no" ∷ codes "yes" ∷ []

-- the words for a waiting time without end, and for none
abbrev pub all_word : List ℕ
all_word = codes "all"

abbrev pub none_word : List ℕ
none_word = codes "none"

-- the least value of a kind; -2 is the word for no waiting
abbrev pub least : KeyKind → ℤ
least (kind.Whole min max) = min
least (kind.Fixed min max) = min
least (kind.Word words) = pos 0
least (kind.Wait max) = negsuc 1

-- the greatest value of a kind
abbrev pub greatest : KeyKind → ℤ
greatest (kind.Whole min max) = max
greatest (kind.Fixed min max) = max
greatest (kind.Word words) = pos (length (key_words words) - 1)
greatest (kind.Wait max) = max

-- a value that passes a test
abbrev pub kept_if : (ℤ → Bool) → Option ℤ → Option ℤ
kept_if test None = None
kept_if test (Some value) = if test value then Some value else None

-- how long a field says that a change waits: a whole number from 0 on, or one of two words
abbrev pub wait_of : List ℕ → Option ℤ
wait_of field =
    if bytes_eq field all_word then Some (negsuc 0) else
    if bytes_eq field none_word then Some (negsuc 1) else
    kept_if (int_le (pos 0)) (whole_of field)

-- the value of a kind that a field spells, apart from the range of the kind
abbrev pub spelled_as : KeyKind → List ℕ → Option ℤ
spelled_as (kind.Whole min max) field = whole_of field
spelled_as (kind.Fixed min max) field = fixed_of field
spelled_as (kind.Word words) field = option_map pos (place_of (key_words words) field)
spelled_as (kind.Wait max) field = wait_of field

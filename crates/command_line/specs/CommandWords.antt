-- The words that ask for a command.
use Rattle.std.specs.Prelude.{map, ℕ, ◌≡◌, ◌≤◌, ◌-◌, ◌&&◌, nat_le, if◌then◌else◌, List, [], ◌∷◌, codes, Option}
use Rattle.std.specs.Prelude.{Some, None, string_bytes, ⊤}
use Rattle.std.specs.Str.{bytes_eq}
use Rattle.std.specs.Option.{option_map, option_or}
use Rattle.std.specs.declared.string.String.{String}
use Rattle.std.specs.declared.alloc.Global.{Global}
use Rattle.command_line.specs.declared.command.Command.{Command}
use Rattle.command_line.specs.declared.command.Command.TheVariants as command
use Rattle.command_line.specs.declared.mode.Mode.TheVariants as mode
use Rattle.command_line.specs.FormWords.{IsInRange, form_of}

-- the command of a word
abbrev pub command_word : List ℕ → Option Command
command_word word =
    if bytes_eq word (codes "make") then Some (command.Run mode.Make)
    else (if bytes_eq word (codes "fresh") then Some (command.Run mode.Fresh)
    else (if bytes_eq word (codes "check") then Some command.Check
    else (if bytes_eq word (codes "status") then Some command.Status else None)))

-- the number of a demo dataset: one digit from 1 to 8
abbrev pub demo_number : List ℕ → Option ℕ
demo_number (digit ∷ []) = if nat_le 49 digit && nat_le digit 56 then Some (digit - 48) else None
demo_number _ = None

-- the command of two words: the first one is that of the demo
abbrev pub command_words : List ℕ → List ℕ → Option Command
command_words word number =
    if bytes_eq word (codes "demo") then option_map command.Demo (demo_number number) else None

-- the command that words ask for which is about the stages: they are one word, which is a command's, or
-- that of the demo with its number
abbrev pub plain_command : List (String Global) → Option Command
plain_command (word ∷ []) = command_word (string_bytes word)
plain_command (word ∷ number ∷ []) = command_words (string_bytes word) (string_bytes number)
plain_command _ = None

-- the command that words ask for: one about the stages, or a question beside them
abbrev pub command_of : List (String Global) → Option Command
command_of words =
    option_or (plain_command words) (option_map command.Ask (form_of (map string_bytes words)))

-- a demo has a number from 1 to 8
abbrev pub HasDemo : Command → Type 0
HasDemo (command.Demo number) = (1 ≤ number) × (number ≤ 8)
HasDemo _ = ⊤

-- the numbers of a question lie in their ranges
abbrev pub HasRanges : Command → Type 0
HasRanges (command.Ask form) = IsInRange form
HasRanges _ = ⊤

abbrev pub Asks : Command → List (String Global) → Type 0
Asks command words = command_of words ≡ Some command

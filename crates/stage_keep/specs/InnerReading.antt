-- Inner words of reading a block: the line that tells its length.
use Rattle.std.specs.Prelude.{ℕ, ◌==◌, List, Option, codes, option_and_then, option_map, take}
use Rattle.std.specs.List.{position}
use Rattle.stage_keep.specs.EntryReading.{behind}

-- the first line of a text, where that ends at a line feed
unfoldable pub line_of : List ℕ → Option (List ℕ)
line_of text = option_map (λ end. take end text) (position (λ byte. byte == 10) text)

-- the first line behind a head and a space
unfoldable pub line_behind : List ℕ → List ℕ → Option (List ℕ)
line_behind head bytes =
    option_and_then line_of (option_and_then (behind (codes " ")) (behind head bytes))

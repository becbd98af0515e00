-- Names of included files.
use Rattle.std.specs.Prelude.{ℕ, ◌==◌, ◌&&◌, ◌||◌, nat_eq, not, Bool, List, ◌++◌, codes, drop, zip}
use Rattle.std.specs.List.{list_all, list_any, ends_with}
use Rattle.std.specs.Char.{is_ascii_alphanumeric}

-- an ASCII letter or digit, or one of the three signs _ - and .
abbrev pub is_name_byte : ℕ → Bool
is_name_byte byte = is_ascii_alphanumeric byte || byte == 95 || byte == 45 || byte == 46

-- two points stand side by side
abbrev pub has_two_points : List ℕ → Bool
has_two_points name = list_any (λ pair. pair.0 == 46 && pair.1 == 46) (zip name (drop 1 name))

-- a name of a config file in the same folder
abbrev pub is_inside : List ℕ → Bool
is_inside name = list_all is_name_byte name && not (has_two_points name) && ends_with nat_eq name (codes ".cnf")

-- the path of an included file below the dataset's folder
abbrev pub path_of : List ℕ → List ℕ
path_of name = codes "basis/" ++ name

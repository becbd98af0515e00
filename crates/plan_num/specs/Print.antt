-- How numbers of millionths are printed.
use Rattle.std.specs.Prelude.{ℕ, ℤ, pos, negsuc, ◌+◌, ◌/◌, ◌%◌, ◌==◌, if◌then◌else◌, List, [], ◌∷◌}
use Rattle.std.specs.Prelude.{◌++◌, codes, decimal}

-- the values of the six digits after a point, in millionths
abbrev pub places : List ℕ
places = 100000 ∷ 10000 ∷ 1000 ∷ 100 ∷ 10 ∷ 1 ∷ []

-- the digits of a rest at these places, up to the last one that is not 0
unfoldable pub digits_at : List ℕ → ℕ → List ℕ
digits_at [] rest = []
digits_at (place ∷ places) rest =
    if rest == 0 then [] else (48 + rest / place) ∷ digits_at places (rest % place)

-- a point and the digits of a fraction below one, or nothing where it is 0
abbrev pub fraction_text : ℕ → List ℕ
fraction_text millionths = if millionths == 0 then [] else codes "." ++ digits_at places millionths

-- the whole part, and then the fraction
abbrev pub magnitude_text : ℕ → List ℕ
magnitude_text millionths = decimal (millionths / 1000000) ++ fraction_text (millionths % 1000000)

-- the text of a number of millionths: a minus for negatives, and then the magnitude
abbrev pub fixed_text : ℤ → List ℕ
fixed_text (pos millionths) = magnitude_text millionths
fixed_text (negsuc less) = codes "-" ++ magnitude_text (less + 1)

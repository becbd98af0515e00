-- The fields of a line, from the pieces between its semicolons.
use Rattle.plan_num.proofs.Common.{◌≡◌, ℕ, ◌-◌, ◌<◌, ◌≤◌, zero, suc, List, [], ◌∷◌, length, map}
use Rattle.plan_num.proofs.Common.{take, drop, get_or, refl, ap, sym, ◌∙◌, Bool, true, false, eqb}
use Rattle.plan_num.proofs.Common.{leb, Some, None, Option, arith, Bor, one-add, option_map}
use Rattle.plan_num.proofs.Common.{unwrap_or, prefix_len, take_all, length-map, get_or-map}
use Rattle.plan_num.proofs.Common.{length-take-le, get_or-take, le-leb, lt-leb}
use Rattle.csv.specs.Records.{field_at}
use Rattle.text_fields.specs.Rows.{is_blank, without_blanks, without_quotes, ends_empty, cleaned}

-- a field that may be there, and nothing where it is not
pub field_or_nothing : (fields : List (List ℕ)) (i : ℕ) → unwrap_or (field_at fields i) [] ≡ get_or fields i []
unfolding field_at
field_or_nothing [] i = refl
field_or_nothing (field ∷ fields) zero = refl
field_or_nothing (field ∷ fields) (suc i) = field_or_nothing fields i

value_or : (found : Option (Bor (List ℕ))) (other : Bor (List ℕ)) → (unwrap_or found other).now ≡ unwrap_or (option_map (λ s. s.now) found) other.now
value_or None other = refl
value_or (Some field) other = refl

-- the field at a place, and nothing past the last
pub piece_is : (found : Option (Bor (List ℕ))) (other : Bor (List ℕ)) (fields : List (List ℕ)) (i : ℕ) → option_map (λ s. s.now) found ≡ field_at fields i → other.now ≡ []
    → (unwrap_or found other).now ≡ get_or fields i []
piece_is found other fields i e none = value_or found other ∙ rw (e, none) (field_or_nothing fields i)

-- the last of two pieces or more is empty
ends_empty_is : (parts : List (List ℕ)) → 2 ≤ length parts → ends_empty (map without_blanks parts) ≡ eqb (length (without_blanks (get_or parts (length parts - 1) []))) 0
ends_empty_is parts h = grind (arith, get_or-map, le-leb, length-map)

-- one piece has no empty one behind it
ends_short : (parts : List (List ℕ)) → length parts < 2 → ends_empty (map without_blanks parts) ≡ false
ends_short parts h = let short : leb 2 (length parts) ≡ false = lt-leb 2 (length parts) h in rw (length-map parts without_blanks, short) refl

length_all : (parts : List (List ℕ)) → ends_empty (map without_blanks parts) ≡ false → length (cleaned parts) ≡ length parts
unfolding cleaned
length_all parts e = rw (e, length-map _ without_quotes, length-map parts without_blanks) refl

length_less : (parts : List (List ℕ)) → ends_empty (map without_blanks parts) ≡ true → length (cleaned parts) ≡ length parts - 1
unfolding cleaned
length_less parts e = grind (arith, length-map, length-take-le)

-- how many fields there are: as many as pieces, or one less where the last of two or more is empty
pub counts_less : (parts : List (List ℕ)) (count : ℕ) → count ≡ length parts → 2 ≤ count → eqb (length (without_blanks (get_or parts (count - 1) []))) 0 ≡ true → count - 1 ≡ length (cleaned parts)
counts_less parts count e h empty = grind (arith, length_less, ends_empty_is)

pub counts_all : (parts : List (List ℕ)) (count : ℕ) → count ≡ length parts → 2 ≤ count → eqb (length (without_blanks (get_or parts (count - 1) []))) 0 ≡ false → count ≡ length (cleaned parts)
counts_all parts count e h more = grind (arith, length_all, ends_empty_is)

pub counts_one : (parts : List (List ℕ)) (count : ℕ) → count ≡ length parts → count < 2 → count ≡ length (cleaned parts)
counts_one parts count e h = let short : length parts < 2 = omega arith in e ∙ sym (length_all parts (ends_short parts short))

get_all : (parts : List (List ℕ)) (i : ℕ) → i < length parts → get_or (map without_quotes (map without_blanks parts)) i [] ≡ without_quotes (without_blanks (get_or parts i []))
get_all parts i h =
    get_or-map without_quotes (map without_blanks parts) i [] [] (rw (length-map parts without_blanks) h) ∙ ap without_quotes (get_or-map without_blanks parts i [] [] h)

get_if : (t : Bool) (parts : List (List ℕ)) (i : ℕ) → ends_empty (map without_blanks parts) ≡ t → i < length (cleaned parts)
    → get_or (cleaned parts) i [] ≡ without_quotes (without_blanks (get_or parts i []))
unfolding cleaned
get_if false parts i e h = let within : i < length parts = rw (length_all parts e) at h in rw e (get_all parts i within)
get_if true parts i e h =
    let within : i < length parts - 1 = rw (length_less parts e) at h in
    let size = length-map parts without_blanks in
    let inside : i < length (map without_blanks parts) - 1 = omega arith in
    let short = length-take-le (length (map without_blanks parts) - 1) (map without_blanks parts) (omega arith) in
    rw e (
    get_or-map without_quotes (take (length (map without_blanks parts) - 1) (map without_blanks parts)) i [] [] (omega arith)
    ∙ ap without_quotes (get_or-take (length (map without_blanks parts) - 1) (map without_blanks parts) i [] inside ∙ get_or-map without_blanks parts i [] [] (omega arith)))

-- a field is a piece without the blanks round it and then without its quotes
pub get_cleaned : (parts : List (List ℕ)) (i : ℕ) → i < length (cleaned parts) → get_or (cleaned parts) i [] ≡ without_quotes (without_blanks (get_or parts i []))
get_cleaned parts i h = get_if (ends_empty (map without_blanks parts)) parts i refl h

-- a space before a line changes no field
pub space_first : (field : List ℕ) → without_blanks (32 ∷ field) ≡ without_blanks field
space_first field = rw (one-add (prefix_len is_blank field)) refl

-- nor does one that is cut off
pub space_cut : (field : List ℕ) → 0 < length field → get_or field 0 0 ≡ 32
    → without_blanks (take (length field - 1) (drop 1 field)) ≡ without_blanks field
space_cut [] some is = absurd (omega arith)
space_cut (byte ∷ field) some is = grind (arith, take_all, space_first)

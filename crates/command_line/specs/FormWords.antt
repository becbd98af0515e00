-- The words that ask for waiting decisions, journeys and pools.
use Rattle.std.specs.Prelude.{ℕ, ℤ, ◌≤◌, ⊤, pos, ◌&&◌, not, nat_le, int_le, if◌then◌else◌, Bool, true, false, List, [], ◌∷◌, length, codes, unsigned_abs, Option, Some, None, option_map, option_and_then}
use Rattle.std.specs.Fmt.{signed_decimal}
use Rattle.std.specs.List.{list_any}
use Rattle.std.specs.Ordering.{int_eq}
use Rattle.std.specs.Str.{bytes_eq}
use Rattle.plan_num.specs.Number.{whole_of}
use Rattle.plan_num.specs.Terminals.{AreTerminals}
use Rattle.command_line.specs.declared.form.Form.{Form}
use Rattle.command_line.specs.declared.form.Form.TheVariants.{CheckWaits, Journey, Pool, Waits}

-- a number that is spelled in its shortest way and lies in a range
abbrev pub spelled_in : ℤ → ℤ → List ℕ → ℤ → Option ℤ
spelled_in least most word number =
    if bytes_eq (signed_decimal number) word && (int_le least number && int_le number most)
    then Some number else None

abbrev pub number_in : ℤ → ℤ → List ℕ → Option ℤ
number_in least most word = option_and_then (spelled_in least most word) (whole_of word)

-- the number of a word in a range from 0, and the id that a word is
abbrev pub amount_in : ℕ → ℕ → List ℕ → Option ℕ
amount_in least most word = option_map unsigned_abs (number_in (pos least) (pos most) word)

abbrev pub id_in : List ℕ → Option ℤ
id_in word = number_in (pos 1) (pos 1000000000) word

-- the ids of some words, where each is one
abbrev pub with_id : Option ℤ → Option (List ℤ) → Option (List ℤ)
with_id None ids = None
with_id (Some id) ids = option_map (λ ids. id ∷ ids) ids

abbrev pub ids_in : List (List ℕ) → Option (List ℤ)
ids_in [] = Some []
ids_in (word ∷ words) = with_id (id_in word) (ids_in words)

-- different ids
abbrev pub are_apart : List ℤ → Bool
are_apart [] = true
are_apart (id ∷ ids) = not (list_any (int_eq id) ids) && are_apart ids

-- waits at a penalty of 0 to 1,000,000 within a budget of 1 to 20,000
abbrev pub waits_form : List ℕ → List ℕ → Option Form
waits_form penalty budget =
    option_and_then (λ penalty. option_map (Waits penalty) (amount_in 1 20000 budget))
    (amount_in 0 1000000 penalty)

-- whether times are disposed, by the last word
abbrev pub is_disposed : List ℕ → Option Bool
is_disposed word =
    if bytes_eq word (codes "planned") then Some false
    else (if bytes_eq word (codes "disposed") then Some true else None)

-- a journey between two different stops
abbrev pub journey_between : ℤ → ℤ → ℤ → Bool → Option Form
journey_between from to start disposed =
    if int_eq from to then None else Some (Journey from to start disposed)

abbrev pub journey_form : List ℕ → List ℕ → List ℕ → List ℕ → Option Form
journey_form from to start times =
    option_and_then (λ from. option_and_then (λ to. option_and_then (λ start.
    option_and_then (journey_between from to start) (is_disposed times))
    (number_in (pos 0) (pos 1000000000) start)) (id_in to)) (id_in from)

-- a pool of 2 to 20 different stops
abbrev pub pool_of_ids : List ℤ → Option Form
pool_of_ids ids =
    if nat_le 2 (length ids) && (nat_le (length ids) 20 && are_apart ids) then Some (Pool ids)
    else None

abbrev pub pool_form : List (List ℕ) → Option Form
pool_form words = option_and_then pool_of_ids (ids_in words)

-- a test of a waiting decision at a penalty of 0 to 1,000,000
abbrev pub check_form : List ℕ → Option Form
check_form penalty = option_map CheckWaits (amount_in 0 1000000 penalty)

-- the form of a first word and the words after it
abbrev pub two_words : List ℕ → List ℕ → Option Form
two_words first word =
    if bytes_eq first (codes "check-waits")
    then check_form word else None

abbrev pub three_words : List ℕ → List ℕ → List ℕ → Option Form
three_words first word next =
    if bytes_eq first (codes "waits") then waits_form word next else None

abbrev pub five_words : List ℕ → List ℕ → List ℕ → List ℕ → List ℕ → Option Form
five_words first from to start times =
    if bytes_eq first (codes "journey") then journey_form from to start times else None

abbrev pub sized_form : List ℕ → List (List ℕ) → Option Form
sized_form first (word ∷ []) = two_words first word
sized_form first (word ∷ next ∷ []) = three_words first word next
sized_form first (from ∷ to ∷ start ∷ times ∷ []) = five_words first from to start times
sized_form first _ = None

-- the form that words ask for, if they ask for one of these
abbrev pub form_of : List (List ℕ) → Option Form
form_of [] = None
form_of (first ∷ words) =
    if bytes_eq first (codes "pool") then pool_form words else sized_form first words

-- the numbers of a question lie in their ranges, and the terminals of a pool are 2 to 20 different ones
abbrev pub IsInRange : Form → Type 0
IsInRange (Waits penalty budget) = (penalty ≤ 1000000) × (1 ≤ budget) × (budget ≤ 20000)
IsInRange (CheckWaits penalty) = penalty ≤ 1000000
IsInRange (Journey from to start disposed) = ⊤
IsInRange (Pool ids) = AreTerminals ids

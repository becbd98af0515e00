-- Lines that are read one by one.
use Rattle.plan_num.proofs.Common.{◌≡◌, ℕ, ◌+◌, ◌<◌, ◌≤◌, List, [], ◌∷◌, length, drop, get_or, refl}
use Rattle.plan_num.proofs.Common.{ap, sym, ◌∙◌, arith, filter, Bool, true, false, length-drop}
use Rattle.plan_num.proofs.Common.{add-one, drop-cons, suc, Bor, Option, Some, None}
use Rattle.plan_num.proofs.Common.{length-slice_split, count_by-le-length, slice_get-get_or}
use Rattle.plan_num.proofs.Common.{slice_get_past, slice_get, MatchBool, MatchOption, option_copied}
use Rattle.plan_num.proofs.Common.{unwrap_or}
use Rattle.std.proofs.Common.{drop_of_length-le}
use Rattle.csv.specs.declared.reader.Reader.{Reader}
use Rattle.text_fields.specs.declared.handed.Handed.{Handed}
use Rattle.text_fields.specs.Rows.{has_byte, parts_of}
use Rattle.text_fields.specs.Rows.{pieces}
use Rattle.text_fields.specs.Told.{HasPieces, begins, given, given_after, handed}
use Rattle.text_fields.specs.Handed.{Awaits, ReadsLine}
use Rattle.text_fields.proofs.GivenFacts.{given_first, given_none}
use Rattle.text_fields.proofs.HandedLines.{handed_signed}
use Rattle.plan_num.proofs.Lists.{filter_few}

-- csv gives the pieces of the line after so many, and awaits what is given after it
pub record ReadsNext (lines : List (List ℕ)) (passed : ℕ) (reader : Reader Handed)
    (found : List (List ℕ)) : Type 0 where
  pub line : List ℕ
  pub within : passed < length lines
  pub next : drop passed lines ≡ line ∷ drop (passed + 1) lines
  pub pieces : found ≡ pieces (handed line)
  pub awaits : Awaits reader (given (begins line) (drop (passed + 1) lines))

reads_if : (lines : List (List ℕ)) (passed : ℕ) (reader : Reader Handed)
    (found : List (List ℕ)) (left : List (List ℕ)) → drop passed lines ≡ left
    → ReadsLine (given false left) reader found → ReadsNext lines passed reader found
reads_if lines passed reader found [] left reads = absurd (rw given_none at reads)
reads_if lines passed reader found (line ∷ more) left reads =
    let within : passed < length lines = omega (arith, length-drop passed lines, ap length left) in
    let cut = drop-cons lines passed [] within in
    let after : drop (passed + 1) lines ≡ more = rw add-one (let after = cut in cc) in
    let given = rw given_first at reads in
    record {
      line = line;
      within = within;
      next = rw after left;
      pieces = given.0;
      awaits = rw after given.1;
    }

pub reads_next : (lines : List (List ℕ)) (passed : ℕ) (reader : Reader Handed)
    (fields : List (List ℕ)) (found : Bool)
    → MatchBool found (ReadsLine (given false (drop passed lines)) reader fields)
    (given false (drop passed lines) ≡ [])
    → found ≡ true → ReadsNext lines passed reader fields
reads_next lines passed reader fields found reads is = grind (arith, reads_if)

-- the sign of a comment is one piece
one_sign : (line : List ℕ) (t : Bool) (found : List (List ℕ)) → begins line ≡ t
    → found ≡ pieces (handed line) → 2 ≤ length found → begins line ≡ false
one_sign line false found e is long = e
one_sign line true found e is long = grind (arith, handed_signed)

-- so a line of two pieces at least does not begin with it, and csv gives the line after it next
pub apart_next : (lines : List (List ℕ)) (passed : ℕ) (reader : Reader Handed)
    (found : List (List ℕ)) → ReadsNext lines passed reader found → 2 ≤ length found
    → HasPieces (drop passed lines) (drop (passed + 1) lines) found
    × Awaits reader (given false (drop (passed + 1) lines))
apart_next lines passed reader found reads long = grind (arith, one_sign)

-- and any other is looked up
pub after_next : (lines left : List (List ℕ)) (passed : ℕ) (reader : Reader Handed)
    (found : List (List ℕ)) → ReadsNext lines passed reader found
    → given_after (drop passed lines) ≡ given false left → Awaits reader (given false left)
after_next lines left passed reader found reads same = grind arith

-- a text has no more lines with a byte than bytes, and one
pub lines_few : (text : List ℕ) → length (filter has_byte (parts_of text)) ≤ length text + 1
lines_few text = grind (arith, filter_few, length-slice_split, count_by-le-length)

none_given : (lines : List (List ℕ)) → given false lines ≡ [] → lines ≡ []
none_given [] none = refl
none_given (line ∷ lines) none = let first = given_first line lines in cc

-- where csv gives nothing more, no line is left
pub none_next : (lines : List (List ℕ)) (found : Bool) (Reads : Type 0)
    → MatchBool found Reads (given false lines ≡ []) → found ≡ false → lines ≡ []
none_next lines found Reads reads is = none_given lines (rw is at reads)

-- the line after so many is looked up
pub looked_up : (lines left : List (List ℕ)) (count : ℕ) (next : Option (Bor (List ℕ)))
    (line other : Bor (List ℕ)) → count < length lines
    → option_copied next ≡ slice_get lines count → left ≡ drop (count + 1) lines
    → line ≡ unwrap_or next other → drop count lines ≡ line.now ∷ left
looked_up lines left count None line other within is after found =
    let some = slice_get-get_or lines count [] within in cc
looked_up lines left count (Some next) line other within is after found =
    let some = slice_get-get_or lines count [] within in grind (arith, drop-cons, add-one, get_or)

-- and what csv is given after that
pub given_next : (lines left : List (List ℕ)) (line : List ℕ) (signed : Bool)
    → lines ≡ line ∷ left → begins line ≡ signed → given_after lines ≡ given signed left
given_next lines left line signed is e = rw (is, e) refl

-- the next line after so many
pub next_dropped : (lines old new : List (List ℕ)) (k : ℕ) (next : Option (Bor (List ℕ)))
    → old ≡ drop k lines
    → MatchOption next ((old ≡ []) × (new ≡ [])) (λ line. old ≡ line.now ∷ new)
    → (new ≡ drop (k + 1) lines) × (option_copied next ≡ slice_get lines k)
next_dropped lines old new k None left over =
    let past : length lines ≤ k =
    omega (arith, length-drop k lines, ap length (sym left ∙ over.0)) in
    (over.1 ∙ sym (drop_of_length-le lines (omega arith)), sym (slice_get_past lines k past))
next_dropped lines old new k (Some line) left first =
    let is : drop k lines ≡ line.now ∷ new = sym left ∙ first in
    let within : k < length lines = omega (arith, length-drop k lines, ap length is) in
    let cut = drop-cons lines k [] within in
    let after : drop (suc k) lines ≡ new = cc (cut, is) in
    let here : get_or lines k [] ≡ line.now = cc (cut, is) in (
      sym (rw add-one after),
      ap (λ (line : List ℕ). Some line) (sym here) ∙ sym (slice_get-get_or lines k [] within),
    )

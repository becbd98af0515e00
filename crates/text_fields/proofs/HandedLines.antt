-- What csv is given of one line.
use Rattle.plan_num.proofs.Common.{◌≡◌, ◌≢◌, ℕ, ◌<◌, ◌≤◌, List, [], ◌∷◌, ◌++◌, length, refl, Bool}
use Rattle.plan_num.proofs.Common.{true, false, eqb, All, arith, zero, suc, ne_eqb, ap, sym, ◌-◌}
use Rattle.plan_num.proofs.Common.{get_or, length-append, not, one-add, position_or_len, eqb-true}
use Rattle.plan_num.proofs.Common.{false≢true, le-ltb, lt-leb, lt-ltb, All-head, All-tail, All-take}
use Rattle.text_fields.specs.Rows.{before_comment}
use Rattle.text_fields.specs.Told.{begins, handed, is_odd, is_told, returns}
use Rattle.text_fields.proofs.Lines.{not_commented}

-- a line that is neither long nor has a comment is handed out as it stands
pub handed_plain : (line : List ℕ) → All (λ byte. byte ≢ 35) line → length line < 4096
    → handed line ≡ line
unfolding handed is_odd
handed_plain line bare short = grind (arith, not_commented, lt-leb, le-ltb)

pub handed_none : handed [] ≡ []
unfolding handed is_odd
handed_none = refl

-- where something stands for a line that is not odd, something stands before its comment
not_nothing : (line : List ℕ) → 0 < length line → is_odd line ≡ false
    → (n : ℕ) → length (before_comment line) ≡ n → 0 < n
unfolding is_odd
not_nothing line some e zero none = grind (arith, lt-ltb)
not_nothing line some e (suc n) is = omega arith

pub told_some : (line : List ℕ) → 0 < length line → is_odd line ≡ false
    → 0 < length (before_comment line)
told_some line some e = not_nothing line some e (length (before_comment line)) refl

pub some_bytes : (line : List ℕ) → eqb (length line) 0 ≡ false → 0 < length line
some_bytes [] some = absurd (false≢true (sym some))
some_bytes (byte ∷ line) some = omega arith

-- what is given of a line that is not odd, and of one that is
pub handed_even : (line : List ℕ) → is_odd line ≡ false → handed line ≡ before_comment line
unfolding handed
handed_even line e = rw e refl

pub handed_odd : (line : List ℕ) → is_odd line ≡ true → handed line ≡ 35 ∷ []
unfolding handed
handed_odd line e = rw e refl

-- a line that begins with the sign of a comment is odd
pub handed_signed : (line : List ℕ) → begins line ≡ true → handed line ≡ 35 ∷ []
unfolding handed is_odd begins
handed_signed [] e = absurd (false≢true e)
handed_signed (byte ∷ line) e = grind (arith, lt-ltb)

-- one without a comment does not
pub not_signed : (line : List ℕ) → All (λ byte. byte ≢ 35) line → begins line ≡ false
unfolding begins
not_signed [] bare = refl
not_signed (byte ∷ line) bare = ne_eqb byte 35 (All-head (λ byte. byte ≢ 35) byte line bare)

pub line_plain : (line : List ℕ) (t : Bool) → is_odd line ≡ t → All (λ byte. byte ≢ 10) line
    → All (λ byte. byte ≢ 10) (handed line)
unfolding handed
line_plain line true e plain = grind arith
line_plain line false e plain =
    rw e (All-take (λ byte. byte ≢ 10) (position_or_len (λ byte. eqb byte 35) line) line plain)

-- ---- a line that goes on with a comment

told_before : (line comment : List ℕ) → All (λ byte. byte ≢ 35) line
    → before_comment (line ++ 35 ∷ comment) ≡ line
told_before [] comment bare = refl
told_before (byte ∷ line) comment bare =
    rw (ne_eqb byte 35 (All-head (λ byte. byte ≢ 35) byte line bare), one-add _)
    (ap (λ (line : List ℕ). byte ∷ line)
    (told_before line comment (All-tail (λ byte. byte ≢ 35) byte line bare)))

told_last : (line : List ℕ) → is_told line ≡ true
    → (eqb (length line) 0 ≡ false) × (returns line ≡ false)
unfolding is_told
told_last line told = grind (arith, get_or, false≢true, lt-ltb, ne_eqb)

not_signed_front : (line comment : List ℕ) → All (λ byte. byte ≢ 35) line
    → eqb (length line) 0 ≡ false → begins (line ++ comment) ≡ false
unfolding begins
not_signed_front [] comment bare some = absurd (false≢true (sym some))
not_signed_front (byte ∷ line) comment bare some = grind (arith, ne_eqb, All-head)

even_front : (line comment : List ℕ) → All (λ byte. byte ≢ 35) line → length line < 4096
    → (eqb (length line) 0 ≡ false) × (returns line ≡ false)
    → is_odd (line ++ 35 ∷ comment) ≡ false
unfolding is_odd
even_front line comment bare short told = grind (arith, told_before, lt-leb, lt-ltb, length-append)

-- where something is told last before a comment, that is handed out as it stands
pub handed_front : (line comment : List ℕ) → All (λ byte. byte ≢ 35) line → length line < 4096
    → is_told line ≡ true → begins comment ≡ true
    → (handed (line ++ comment) ≡ line) × (begins (line ++ comment) ≡ false)
unfolding begins
handed_front line [] bare short told sign = absurd (false≢true sign)
handed_front line (byte ∷ comment) bare short told sign = grind (
  arith,
  told_last,
  eqb-true,
  handed_even,
  even_front,
  told_before,
  not_signed_front,
)

-- ---- the last byte of a front

pub told_nothing : (front : List ℕ) → length front < 1 → is_told front ≡ false
unfolding is_told
told_nothing [] none = refl
told_nothing (byte ∷ front) none = absurd (omega arith)

pub told_other : (front : List ℕ) → 1 ≤ length front
    → eqb (get_or front (length front - 1) 0) 10 ≡ false
    → is_told front ≡ not (eqb (get_or front (length front - 1) 0) 13)
unfolding is_told
told_other front some other = rw (other, lt-ltb 0 (length front) (omega arith)) refl

pub told_feed : (front : List ℕ) → 1 ≤ length front
    → get_or front (length front - 1) 0 ≡ 10 → is_told front ≡ false
unfolding is_told
told_feed front some feed = rw (feed, lt-ltb 0 (length front) (omega arith)) refl

pub some_told : (front : List ℕ) → is_told front ≡ true → 0 < length front
some_told front told = some_bytes front (told_last front told).0

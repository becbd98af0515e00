-- Names of included files are text.
use Rattle.plan_num.proofs.Common.{◌≡◌, ℕ, ◌<◌, true, false, List, length, get_or, ⊎_elim}
use Rattle.plan_num.proofs.Common.{arith, Bor, Option, Result, Ok, Err, MatchResult, MatchOption}
use Rattle.plan_num.proofs.Common.{◌&&◌, not, nat_eq, codes, list_all, result_ok, IsUtf8}
use Rattle.plan_num.proofs.Common.{IsUtf8-from_ascii, get_or_past, AllPass-from_list_all, cases_lt}
use Rattle.plan_num.proofs.Common.{nat_tests}
use Rattle.std.specs.List.{ends_with}
use Rattle.config_keys.specs.Includes.{is_name_byte, has_two_points, is_inside}
use Rattle.plan_num.proofs.Tests.{first_true}

name_byte_low : (byte : ℕ) → is_name_byte byte ≡ true → byte < 128
name_byte_low byte e = grind (arith, nat_tests)

ascii_at : (name : List ℕ) (i : ℕ) → list_all is_name_byte name ≡ true → get_or name i 0 < 128
ascii_at name i e =
    ⊎_elim (λ h. name_byte_low _ (AllPass-from_list_all is_name_byte name e i 0 h))
    (λ h. rw (get_or_past name i 0 h) (omega arith)) (cases_lt i (length name))

-- the name of a config file of the same folder is text
inside_text : (name : List ℕ) → is_inside name ≡ true → IsUtf8 name
inside_text name e =
    IsUtf8-from_ascii name
    (λ i. ascii_at name i
    (first_true _ _
    (first_true (list_all is_name_byte name && not (has_two_points name)) (ends_with nat_eq name (codes ".cnf")) e)))

-- so reading it as text gives it
pub inside_read : {E : Type 0} (Q : E → Type 0) (name : List ℕ) (read : Result (Bor (List ℕ)) E)
    (text : Option (Bor (List ℕ))) → is_inside name ≡ true
    → MatchResult read (λ s. (s.now ≡ name) × IsUtf8 name) (λ e. ¬ (IsUtf8 name) × Q e) → text ≡ result_ok read
    → MatchOption text (is_inside name ≡ false) (λ text. (is_inside name ≡ true) × (text.now ≡ name))
inside_read Q name (Ok read) text e h t = rw t (e, h.0)
inside_read Q name (Err error) text e h t = absurd (h.0 (inside_text name e))

-- Headers of tables.
use Rattle.plan_num.proofs.Common.{arith, ◌≡◌, ◌≢◌, ◌==◌, ℕ, true, not, List, [], ◌∷◌, All}
use Rattle.plan_num.proofs.Common.{list_all, and_parts, eqb-false, not-true, All-nil, All-cons}

-- no byte of a header ends its line, by a test that computes
pub plain_header : (bytes : List ℕ) → list_all (λ byte. not (byte == 10)) bytes ≡ true → All (λ byte. byte ≢ 10) bytes
plain_header [] e = All-nil (λ (byte : ℕ). byte ≢ 10)
plain_header (byte ∷ bytes) e =
    let parts = and_parts (not (byte == 10)) (list_all (λ byte. not (byte == 10)) bytes) e in grind
    (arith, All-cons, eqb-false, not-true, plain_header bytes parts.1)

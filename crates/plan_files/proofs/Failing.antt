-- What a failed write to a sink leaves, as the trait says it.
use Rattle.plan_num.proofs.Common.{◌≡◌, ℕ, List, ◌++◌, Option, Some, None, ap, sym, ◌∙◌, take}
use Rattle.plan_num.proofs.Common.{arith, append-nil, ⊎_elim}
use Rattle.plan_files.specs.Planned.{Planned, LeavesFront}

-- it appends a front part of the piece
pub front_appended : (kept : Option ℕ) (old new piece : List ℕ) (called now : Planned)
    → LeavesFront (λ count. old ++ take count piece) kept old new called now
    → (count : ℕ) × (Some new ≡ Some (old ++ take count piece))
front_appended None old new piece called now h = (0, ap Some (h.0 ∙ sym (append-nil old)))
front_appended (Some kept) old new piece called now h = grind (arith, ⊎_elim, append-nil)

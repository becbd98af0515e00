-- The first row of each key.
use Rattle.std.specs.Prelude.{ℤ, not, List, [], ◌∷◌, filter}
use Rattle.std.specs.Ordering.{int_eq}

-- of all rows with one key the first one, in their order
unfoldable pub firsts : {X : Type 0} → (X → ℤ) → List X → List X
firsts key [] = []
firsts key (row ∷ rows) =
    row ∷ filter (λ other. not (int_eq (key row) (key other))) (firsts key rows)

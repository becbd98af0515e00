-- What holds of each record of a text that has no fault.
use Rattle.plan_num.proofs.Common.{arith, ◌≡◌, ℕ, ℤ, List, [], All, All-map}
use Rattle.tables.proofs.Common.{Input, broken_whys, records_of, input_faults, table_of, TableRow}
use Rattle.tables.proofs.Common.{InColumns, sound_rows}

module _ {X : Type 0} (input : Input X) (text : List ℕ) (none : input_faults input text ≡ []) where
  -- each breaks no rule after some rows
  pub sound_records : (P : X → Type 0)
      → ((some : List X) (row : X) → broken_whys input.row_rules some row ≡ [] → P row) → All P
      (records_of input text)
  sound_records P each =
      All-map P (λ (row : TableRow). input.read row.cells) (table_of input.columns text)
      (λ k d h. let at = sound_rows input text none k d h in each at.0 _ at.1)

  -- the cells of each are in their columns
  pub fitting_records : (cells_of : X → List ℤ)
      → ((cells : List ℤ) → InColumns input.columns cells → cells_of (input.read cells) ≡ cells)
      → All (λ row. InColumns input.columns (cells_of row)) (records_of input text)
  fitting_records cells_of back =
      All-map (λ (row : X). InColumns input.columns (cells_of row))
      (λ (row : TableRow). input.read row.cells) (table_of input.columns text)
      (λ k d h. let at = sound_rows input text none k d h in grind arith)

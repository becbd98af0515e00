-- Parts of what the rows of a table stand for, one after the other.
use Rattle.plan_num.proofs.Common.{◌≡◌, ◌∙◌, ℕ, ℤ, ◌+◌, ◌<◌, List, [], ◌∷◌, ◌++◌, get_or, length}
use Rattle.plan_num.proofs.Common.{map, take, ap, sym, arith, get_or-map, length-map, take_more}
use Rattle.plan_num.proofs.Common.{map-map}
use Rattle.tables.proofs.Common.{TableRow, no_row, records_by}

module _ {X Y : Type 0} (of : List ℤ → X) (part : X → Y) (table : List TableRow) (i : ℕ) where
  abbrev whole : TableRow → Y
  whole row = part (of row.cells)

  abbrev parts : List Y
  parts = map part (records_by of table)

  at_once : parts ≡ map whole table
  at_once = map-map part (λ (row : TableRow). of row.cells) table

  pub part_more : i < length table → take (i + 1) parts ≡ take i parts ++ whole (get_or table i no_row) ∷ []
  part_more inside =
      ap (take (i + 1)) at_once
      ∙ take_more (map whole table) i (whole no_row) (omega (arith, inside, length-map table whole))
      ∙ ap (λ one. take i (map whole table) ++ one ∷ []) (get_or-map whole table i no_row (whole no_row) inside)
      ∙ ap (λ some. take i some ++ whole (get_or table i no_row) ∷ []) (sym at_once)

  -- what is pushed behind the first parts
  pub part_pushed : (old new : List Y) (one : Y) → i < length table → new ≡ old ++ one ∷ []
      → old ≡ take i parts → one ≡ whole (get_or table i no_row) → new ≡ take (i + 1) parts
  part_pushed old new one inside is told same =
      is ∙ (λ j. told j ++ same j ∷ []) ∙ sym (part_more inside)

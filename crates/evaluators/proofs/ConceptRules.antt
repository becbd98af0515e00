-- The rules of the file of the line concept, row by row.
use Rattle.plan_num.proofs.Common.{◌≡◌, ℕ, ℤ, ◌+◌, ◌<◌, Bool, true, false, cond, List, []}
use Rattle.plan_num.proofs.Common.{◌∷◌, length, map, take, drop, get_or, slice_get, refl, ap}
use Rattle.plan_num.proofs.Common.{sym, ◌∙◌, Option, Some, None, option_map, arith, find}
use Rattle.plan_num.proofs.Common.{option_or, int_eq, Decides-int_eq, int_eq_equiv, drop_more}
use Rattle.plan_num.proofs.Common.{get_or-map, length-map, take-append-drop, find-append}
use Rattle.std.proofs.lemmas.List.{take-map}
use Rattle.tables.proofs.Common.{broken_whys, records, TableRow, no_row}
use Rattle.evaluators.specs.declared.costed_line.CostedLine.{CostedLine}
use Rattle.evaluators.specs.declared.rows.CostRow.{CostRow}
use Rattle.evaluators.specs.declared.rows.LineRow.{LineRow}
use Rattle.evaluators.specs.CostedLines.{broken_by, costed}
use Rattle.evaluators.specs.StatisticInputs.{concept_input, first_row, line_row, lines_of}
use Rattle.evaluators.proofs.FirstRowFacts.{find_firsts}

-- the first row of the line of a row among rows that have it is before it, or it is that row
first_of_all : (rows : List LineRow) (i : ℕ) (d : LineRow) → i < length rows
    → first_row rows (get_or rows i d).line
    ≡ option_or (first_row (take i rows) (get_or rows i d).line) (Some (get_or rows i d))
first_of_all rows i d inside =
    let row = get_or rows i d in
    let p : LineRow → Bool = λ other. int_eq row.line other.line in
    let behind : find p (drop i rows) ≡ Some row =
    ap (find p) (drop_more rows i d inside)
    ∙ ap (λ b. cond b (Some row) (find p (drop (i + 1) rows))) (int_eq_equiv.refl row.line) in
    ap (find p) (sym (take-append-drop i rows)) ∙ find-append p (take i rows) (drop i rows)
    ∙ ap (option_or (find p (take i rows))) behind

-- a line with its cost is found where its first row is
find_costed : (costs : List CostRow) (line : ℤ) (rows : List LineRow)
    → find (λ costed. int_eq line costed.line) (map (costed costs) rows)
    ≡ option_map (costed costs) (first_row rows line)
find_costed costs line [] = refl
find_costed costs line (row ∷ rows) = grind (arith, option_map, find_costed costs line rows)

-- a row that is found is of the line
found_line : (line : ℤ) (rows : List LineRow) (row : LineRow) → first_row rows line ≡ Some row
    → line ≡ row.line
found_line line [] row e = cc
found_line line (first ∷ rows) row e = by (int_eq line first.line) refl e (found_line line rows row)
  where
    by : (b : Bool) → int_eq line first.line ≡ b
        → cond b (Some first) (first_row rows line) ≡ Some row
        → (first_row rows line ≡ Some row → line ≡ row.line) → line ≡ row.line
    by true is e rest = let same : first ≡ row = cc in
        (Decides-int_eq line first.line).0 is ∙ ap (λ (row : LineRow). row.line) same
    by false is e rest = rest e

module _ (costs : List CostRow) (rows : List LineRow) (i : ℕ) (d : LineRow)
    (inside : i < length rows) (lines : List CostedLine)
    (are : lines ≡ map (costed costs) (lines_of rows)) where
  abbrev row : LineRow
  row = get_or rows i d

  -- what is found among the lines of all rows
  line_found : find (λ costed. int_eq row.line costed.line) lines
      ≡ option_map (costed costs) (option_or (first_row (take i rows) row.line) (Some row))
  line_found =
      ap (find (λ costed. int_eq row.line costed.line)) are
      ∙ find_costed costs row.line (lines_of rows)
      ∙ ap (option_map (costed costs)) (find_firsts (λ (row : LineRow). row.line) row.line rows
      ∙ first_of_all rows i d inside)

  -- the line of a row is there
  pub line_there : find (λ costed. int_eq row.line costed.line) lines ≡ None → ⊥
  line_there none = by (first_row (take i rows) row.line) (sym none ∙ line_found)
    where
      by : (o : Option LineRow) → None ≡ option_map (costed costs) (option_or o (Some row)) → ⊥
      by None e = cc
      by (Some first) e = cc

  -- the first rule that a row breaks, by the line that is found
  pub line_tells : (line : CostedLine)
      → find (λ costed. int_eq row.line costed.line) lines ≡ Some line
      → broken_by line row.frequency
      ≡ slice_get (broken_whys (concept_input costs).row_rules (take i rows) row) 0
  line_tells line is = by (first_row (take i rows) row.line) refl
    where
      by : (o : Option LineRow) → first_row (take i rows) row.line ≡ o
          → broken_by line row.frequency
          ≡ slice_get (broken_whys (concept_input costs).row_rules (take i rows) row) 0
      by None e = grind (arith, line_found, option_map)
      by (Some found) e = grind (arith, found_line, line_found, option_map)

-- ---- the same of the rows of a table

module _ (costs : List CostRow) (table : List TableRow) (i : ℕ) (inside : i < length table)
    (lines : List CostedLine)
    (are : lines ≡ map (costed costs) (lines_of (records (concept_input costs) table)))
    (row : LineRow) (is : row ≡ line_row (get_or table i no_row).cells) where
  abbrev of : TableRow → LineRow
  of row = line_row row.cells

  within : i < length (map of table)
  within = omega (arith, inside, length-map table of)

  here : get_or (map of table) i (of no_row) ≡ row
  here = get_or-map of table i no_row (of no_row) inside ∙ sym is

  pub row_there : find (λ costed. int_eq row.line costed.line) lines ≡ None → ⊥
  row_there none =
      line_there costs (map of table) i (of no_row) within lines are
      (ap (λ (row : LineRow). find (λ costed. int_eq row.line costed.line) lines) here ∙ none)

  pub row_tells : (line : CostedLine)
      → find (λ costed. int_eq row.line costed.line) lines ≡ Some line
      → broken_by line row.frequency
      ≡ slice_get (broken_whys (concept_input costs).row_rules
      (records (concept_input costs) (take i table)) (line_row (get_or table i no_row).cells)) 0
  row_tells line found =
      ap (λ (row : LineRow). broken_by line row.frequency) (sym here)
      ∙ line_tells costs (map of table) i (of no_row) within lines are line
      (ap (λ (row : LineRow). find (λ costed. int_eq row.line costed.line) lines) here ∙ found)
      ∙ ap (λ (rows : List LineRow). slice_get (broken_whys (concept_input costs).row_rules rows
      (get_or (map of table) i (of no_row))) 0) (take-map of i table)
      ∙ ap (λ (row : LineRow). slice_get (broken_whys (concept_input costs).row_rules
      (map of (take i table)) row) 0) (here ∙ is)

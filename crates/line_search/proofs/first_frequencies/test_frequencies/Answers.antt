use Rattle.plan_num.proofs.Common.{[], take, get_or, Some, ap, sym, ◌∙◌, arith, w64, int_eq, get}
use Rattle.std.proofs.lemmas.Int.{to_z-of_z}
use Rattle.tables.specs.declared.file_id.FileId.TheVariants as file
use Rattle.tables.specs.declared.refusal.Refusal.TheVariants as refusal
use Rattle.tables.specs.declared.row_why.RowWhy.TheVariants as why
use Rattle.tables.proofs.Common.{TableRow, no_row, row_met, row_refused, rows_met, rule_broken}
use Rattle.tables.proofs.Common.{rule_kept}
use Rattle.line_search.specs.PinnedConcepts.{pinned_input, same_frequency}
use Rattle.line_search.specs.PoolPlaces.{plain_rows}
use Rattle.line_search.proofs.FirstKnown.{is_other, known_more}
use Rattle.line_search.proofs.first_frequencies.test_frequencies.Goals as goal

pub returns-then-branch : goal.returns-then-branch
returns-then-branch c =
    let table = c.args.table.now in
    let i = c.loop-row.row in
    let before = plain_rows (take i table) in
    let row : TableRow = record { number = 0; cells = (get_or table i no_row).cells } in
    let line = to_z-of_z w64 c.cell.result (record { sfits = c.cell.type_inv }) ∙ c.cell.ensures in
    let frequency = to_z-of_z w64 c.cell-in-loop-row.result
    (record { sfits = c.cell-in-loop-row.type_inv }) ∙ c.cell-in-loop-row.ensures in
    let broken = sym (is_other before row (λ line. get int_eq c.loop-row.first line)
    c.loop-row.invariant.knows _ _ line frequency)
    ∙ sym c.in_ok-differs_from_first.ensures.tells ∙ c.if-branch.true in
    λ problem. row_refused (pinned_input problem) table i why.FrequencyDiffers (omega arith)
    (rule_broken same_frequency [] before row broken) (c.loop-row.invariant.sound problem)
    ∙ ap (λ number. Some (refusal.BadRow file.PinnedConcept number why.FrequencyDiffers))
    (sym c.number.ensures)

pub loop-row-preserved : goal.loop-row-preserved
loop-row-preserved c =
    let table = c.args.table.now in
    let i = c.loop-row.row in
    let before = plain_rows (take i table) in
    let row : TableRow = record { number = 0; cells = (get_or table i no_row).cells } in
    let line = to_z-of_z w64 c.cell.result (record { sfits = c.cell.type_inv }) ∙ c.cell.ensures in
    let frequency = to_z-of_z w64 c.cell-in-loop-row.result
    (record { sfits = c.cell-in-loop-row.type_inv }) ∙ c.cell-in-loop-row.ensures in
    let kept = sym (is_other before row (λ line. get int_eq c.loop-row.first line)
    c.loop-row.invariant.knows _ _ line frequency)
    ∙ sym c.in_ok-differs_from_first.ensures.tells ∙ c.if-branch.false in
    record {
      sound = λ problem. row_met (pinned_input problem) table i (omega arith)
          (rule_kept same_frequency [] before row kept) (c.loop-row.invariant.sound problem);
      knows = known_more table i (omega arith) (λ line. get int_eq c.loop-row.first line)
          (λ line. get int_eq c.differs_from_first.new.first line) c.loop-row.invariant.knows _ _
          line frequency c.in_ok-differs_from_first.ensures.knows;
    }

pub returns : goal.returns
returns c = λ problem. (
  rows_met (pinned_input problem) c.args.table.now c.loop-row.row (omega arith)
      (c.loop-row.invariant.sound problem),
  tt,
)

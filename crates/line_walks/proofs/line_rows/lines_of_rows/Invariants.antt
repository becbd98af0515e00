-- The lines and the pairs are those of the rows so far, and none of these rows breaks a rule.
use Rattle.plan_num.proofs.Common.{◌≡◌, ℤ, ◌&&◌, map, take, list_any, contains, int_eq}
use Rattle.tables.proofs.Common.{records, SoundBefore}
use Rattle.line_walks.specs.Pools.{line_input, rows_of}
use Rattle.line_walks.specs.LinesSoFar.{line_so_far}
use Rattle.line_walks.proofs.line_rows.lines_of_rows.Given as goal

abbrev pub invariant-loop-i : goal.invariant-loop-i
invariant-loop-i g l =
    let edges = l.network.edges in
    let input = line_input l.kind edges in
    record {
      sound : SoundBefore input l.table l.i;
      lines : l.lines.items ≡ map (line_so_far edges (records input (take l.i l.table))) l.ids.keys;
      pairs : (line edge : ℤ)
          → contains (λ x y. int_eq x.0 y.0 && int_eq x.1 y.1) l.pairs (line, edge)
          ≡ list_any (λ other. int_eq edge other.edge)
          (rows_of line (records input (take l.i l.table)));
    }

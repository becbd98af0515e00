-- The terminals are those of the ids so far, each of which is a stop.
use Rattle.plan_num.proofs.Common.{◌≡◌, true, map, take, list_all, list_any, int_eq}
use Rattle.terminal_lines.specs.Terminals.{terminal_of}
use Rattle.pool_maker.proofs.terminals.find_terminals.Given as goal

abbrev pub invariant-loop-id : goal.invariant-loop-id
invariant-loop-id l =
    record {
      made : l.terminals.items ≡ map (terminal_of l.network.stops) (take l.id-index l.id-items);
      known : list_all (λ id. list_any (int_eq id) l.network.stops) (take l.id-index l.id-items)
          ≡ true;
    }

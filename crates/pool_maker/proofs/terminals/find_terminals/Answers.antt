use Rattle.plan_num.proofs.Common.{◌++◌, ◌∷◌, [], ap, get_or, map, pos, sym, ◌∙◌, take_all}
use Rattle.terminal_lines.specs.Terminals.{terminal_of}
use Rattle.pool_maker.proofs.SortedIds.{all_known, found_at, found_nowhere, known_more}
use Rattle.pool_maker.proofs.SortedIds.{terminal_more, unknown_here}
use Rattle.pool_maker.proofs.terminals.find_terminals.Goals as goal

pub returns-in-None : goal.returns-in-None
returns-in-None c =
    let ids = c.deref-id-items.result.now in
    let stops = c.args.network.now.stops in
    let id = get_or ids c.loop-id.id-index (pos 0) in
    unknown_here stops ids c.loop-id.id-index c.loop-id-test.true c.args.ids.now
    (found_nowhere stops id (sym c.in-None.is ∙ c.terminal_at.ensures))
    (rw c.deref-id-items.ensures.value c.in_ok-sorted.ensures.same)

pub loop-id-preserved : goal.loop-id-preserved
loop-id-preserved c =
    let ids = c.deref-id-items.result.now in
    let stops = c.args.network.now.stops in
    let i = c.loop-id.id-index in
    let old = c.loop-id.terminals.items in
    let terminal = c.in-Some.terminal in
    let at = found_at stops (get_or ids i (pos 0)) terminal
    (sym c.in-Some.is ∙ c.terminal_at.ensures) in
    record {
      made = terminal_more stops ids i c.loop-id-test.true terminal.stop old
          c.push.new.self.items at.0 c.loop-id.invariant.made
          (c.in_ok-push-in-Some.ensures.items ∙ ap (λ one. old ++ one ∷ []) at.1);
      known = known_more stops ids i c.loop-id-test.true terminal.stop at.0
          c.loop-id.invariant.known;
    }

pub returns : goal.returns
returns c =
    let ids = c.deref-id-items.result.now in
    let stops = c.args.network.now.stops in (
      all_known stops ids c.args.ids.now c.loop-id.id-index c.loop-id-test.false
          c.loop-id.invariant.known
          (rw c.deref-id-items.ensures.value c.in_ok-sorted.ensures.same),
      c.loop-id.invariant.made
          ∙ ap (map (terminal_of stops)) (take_all c.loop-id.id-index ids c.loop-id-test.false
          ∙ c.deref-id-items.ensures.value ∙ c.in_ok-sorted.ensures.rising),
    )

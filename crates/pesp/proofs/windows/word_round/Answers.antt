use Rattle.pesp.proofs.WordTurns.{round_bit, round_whole}
use Rattle.pesp.proofs.windows.word_round.Goals as goal

pub returns-then-rest-lt64 : goal.returns-then-rest-lt64
returns-then-rest-lt64 c bit low small =
    round_bit c.args.period c.args.from c.in_period-start.result bit c.args.times.now
    c.word_from-word.result
    c.in_period-start.ensures.shown c.in_period-start.ensures.within small
    (c.word_from-word.ensures bit low) low
    c.requires.clear

pub returns-else-rest-lt64 : goal.returns-else-rest-lt64
returns-else-rest-lt64 c bit low small =
    round_whole c.args.period c.args.from c.in_period-start.result bit c.args.times.now
    c.word_from-word.result
    c.in_period-start.ensures.shown c.in_period-start.ensures.within small
    (c.word_from-word.ensures bit low)
    c.if-rest-lt64.false low

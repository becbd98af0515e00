-- The parts of a written number, as the code holds them.
use Rattle.plan_num.specs.declared.number.Written.{Written}
use Rattle.plan_num.specs.Number.{Spelling}

-- the parts, without where they lie in memory
abbrev pub spelled : Written → Spelling
spelled w = record { minus = w.minus; whole = w.whole.now; fraction = w.fraction.now }

-- A text that may be lent.
use Rattle.std.specs.Prelude.{ℕ, List}
use Rattle.stage_keep.specs.declared.lent.Held.{Held}
use Rattle.stage_keep.specs.declared.lent.Held.TheVariants.{Own, Lent}

-- its bytes, wherever they stand
abbrev pub held_bytes : Held → List ℕ
held_bytes (Own text) = text
held_bytes (Lent bytes) = bytes.now

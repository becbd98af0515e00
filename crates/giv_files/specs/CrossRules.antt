-- Rules that bind the value of a key to that of another key.
use Rattle.std.specs.Prelude.{ℤ, pos, int_le, ◌*ℤ◌, Bool, true, Option, Some, None}
use Rattle.std.specs.Option.{option_map_or}
use Rattle.giv_files.specs.declared.cross_rule.Bound.{Bound}
use Rattle.giv_files.specs.declared.cross_rule.Bound.TheVariants as bound
use Rattle.giv_files.specs.declared.cross_rule.CrossRule.{CrossRule}
use Rattle.giv_files.specs.declared.key.Key.{Key}
use Rattle.giv_files.specs.declared.key.Key.TheVariants as key

-- a value keeps to a bound by another value
abbrev pub keeps_bound : Bound → ℤ → ℤ → Bool
keeps_bound bound.NotBelow other value = int_le other value
keeps_bound bound.TwiceAtMost other value = int_le (pos 2 *ℤ value) other

-- a rule: the value of its key is not below that of another
abbrev pub not_below : Key → Option CrossRule
not_below other = Some (record { bound = bound.NotBelow; other = other })

-- a rule: twice the value of its key is at most that of another
abbrev pub at_most_half : Key → Option CrossRule
at_most_half other = Some (record { bound = bound.TwiceAtMost; other = other })

-- the rule of a key, where it has one
abbrev pub cross_rule : Key → Option CrossRule
cross_rule key.EanDefaultMaximalWaitingTime = not_below key.EanDefaultMinimalWaitingTime
cross_rule key.EanDefaultMaximalChangeTime = not_below key.EanDefaultMinimalChangeTime
cross_rule key.DmLatestTime = not_below key.DmEarliestTime
cross_rule key.EanHeadway = at_most_half key.PeriodLength
cross_rule _ = None

-- a value keeps a rule by the values of keys, also where the other key has none
abbrev pub keeps : (Key → Option ℤ) → Option CrossRule → ℤ → Bool
keeps values None value = true
keeps values (Some rule) value =
    option_map_or (λ other. keeps_bound rule.bound other value) (values rule.other) true

-- the value of a key keeps the rule of the key by the values of keys
abbrev pub keeps_rule : (Key → Option ℤ) → Key → ℤ → Bool
keeps_rule values key value = keeps values (cross_rule key) value

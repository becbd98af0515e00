-- The settings of a bundle that fits are in order and within their ranges.
use Rattle.plan_num.proofs.Common.{◌≡◌, ℤ, pos, negsuc, ◌*◌, ◌≤◌, ◌≤ℤ◌, int_le, arith, Bool}
use Rattle.plan_num.proofs.Common.{eqb-true, true, List, [], ◌∷◌, unsigned_abs, refl, ap, subst}
use Rattle.plan_num.proofs.Common.{sym, ◌∙◌, Option, Some, unwrap_or, inl, inr, option_map_or}
use Rattle.plan_num.proofs.Common.{le_z_yes, list_all, and_parts, cases_Bool, T_from_true, ints}
use Rattle.plan_num.proofs.Common.{same_Some}
use Rattle.std.proofs.Common.{◌*ℤ◌}
use Rattle.giv_files.specs.declared.key.Key.{Key}
use Rattle.giv_files.specs.declared.setting.Setting.{Setting}
use Rattle.giv_files.proofs.Common.{keeps_rule, keeps, cross_rule, not_below, least, greatest}
use Rattle.giv_files.proofs.Common.{is_key, key_kind, has_key, BundleParts, Fits, SettingsFit}
use Rattle.giv_files.proofs.Common.{value_of, amount, is_uncrossed, same_key, amount_within}
use Rattle.giv_files.specs.declared.key.Key.TheVariants as key
use Rattle.giv_files.specs.declared.stage.Stage.TheVariants as stage
use Rattle.giv_files.proofs.SettingFacts.{key_there}
use Rattle.event_activity.specs.Fitting.{AreTimely}

-- the value of a key keeps the rule of the key
value_uncrossed : (all settings : List Setting) (k : Key) (value : ℤ)
    → list_all (is_uncrossed all) settings ≡ true → value_of settings k ≡ Some value
    → keeps_rule (value_of all) k value ≡ true
value_uncrossed all [] k value kept is = cc
value_uncrossed all (first ∷ settings) k value kept is =
    let parts = and_parts (is_uncrossed all first) (list_all (is_uncrossed all) settings) kept in
    elim (cases_Bool (is_key k first.key)) [
      | inl own ↦
          let same : first.value ≡ value = same_Some _ _ (rw own at is) in
          subst (λ j. keeps_rule (value_of all) j value ≡ true)
          (same_key first.key k (eqb-true _ _ own))
          (ap (keeps_rule (value_of all) first.key) (sym same) ∙ parts.0)
      | inr other ↦ value_uncrossed all settings k value parts.1 (rw other at is)
    ]

order : (low high : ℤ) → pos 0 ≤ℤ low → low ≤ℤ high → unsigned_abs low ≤ unsigned_abs high
order (pos m) (pos n) some goes = omega (arith, ints)
order (pos m) (negsuc n) some goes = absurd (omega (arith, ints))
order (negsuc m) high some goes = absurd (omega (arith, ints))

twice : (half whole : ℤ) → pos 0 ≤ℤ half → (pos 2 *ℤ half) ≤ℤ whole
    → 2 * unsigned_abs half ≤ unsigned_abs whole
twice (pos m) (pos n) some goes = omega (arith, ints, goes)
twice (pos m) (negsuc n) some goes = absurd (omega (arith, ints, goes))
twice (negsuc m) whole some goes = absurd (omega (arith, ints, some))

module _ (settings : List Setting) (fits : SettingsFit stage.Ean settings) where
  -- the amount of a key that is not below another is not below that one's
  in_order : (lower upper : Key) → has_key stage.Ean lower ≡ true → has_key stage.Ean upper ≡ true
      → least (key_kind lower) ≡ pos 0 → cross_rule upper ≡ not_below lower
      → amount settings lower ≤ amount settings upper
  in_order lower upper first second from rule =
      let low = key_there stage.Ean settings lower fits first in
      let high = key_there stage.Ean settings upper fits second in
      let kept : keeps (value_of settings) (cross_rule upper) high.0 ≡ true =
      value_uncrossed settings settings upper high.0 fits.uncrossed high.1 in
      let below : keeps (value_of settings) (not_below lower) high.0 ≡ true =
      ap (λ some. keeps (value_of settings) some high.0) (sym rule) ∙ kept in
      let goes : int_le low.0 high.0 ≡ true =
      sym (ap (λ found. at_other found high.0) low.1) ∙ below in
      let within = and_parts (int_le (least (key_kind lower)) low.0)
      (int_le low.0 (greatest (key_kind lower))) low.2 in
      let some : pos 0 ≤ℤ low.0 =
      subst (λ z. z ≤ℤ low.0) from (le_z_yes (T_from_true _ within.0)) in
      let less = order low.0 high.0 some (le_z_yes (T_from_true _ goes)) in
      omega (
        arith,
        less,
        ap (λ found. unsigned_abs (unwrap_or found (pos 0))) low.1,
        ap (λ found. unsigned_abs (unwrap_or found (pos 0))) high.1,
      )
    where
      at_other : Option ℤ → ℤ → Bool
      at_other found value = option_map_or (λ other. int_le other value) found true

  -- a headway is at most half of the period
  halved : 2 * amount settings key.EanHeadway ≤ amount settings key.PeriodLength
  halved =
      let headway = key_there stage.Ean settings key.EanHeadway fits refl in
      let period = key_there stage.Ean settings key.PeriodLength fits refl in
      let kept : keeps (value_of settings) (cross_rule key.EanHeadway) headway.0 ≡ true =
      value_uncrossed settings settings key.EanHeadway headway.0 fits.uncrossed headway.1 in
      let goes : int_le (pos 2 *ℤ headway.0) period.0 ≡ true =
      sym (ap (λ found. at_other found headway.0) period.1) ∙ kept in
      let within = and_parts (int_le (pos 0) headway.0) (int_le headway.0 (pos 360)) headway.2 in
      let less = twice headway.0 period.0 (le_z_yes (T_from_true _ within.0))
      (le_z_yes (T_from_true _ goes)) in
      omega (
        arith,
        less,
        ap (λ found. unsigned_abs (unwrap_or found (pos 0))) headway.1,
        ap (λ found. unsigned_abs (unwrap_or found (pos 0))) period.1,
      )
    where
      at_other : Option ℤ → ℤ → Bool
      at_other found value =
          option_map_or (λ other. int_le (pos 2 *ℤ value) other) found true

  short : amount settings key.PeriodLength ≤ 720
  short = (amount_within stage.Ean settings key.PeriodLength _ _ fits refl refl refl).1

  pub timely : AreTimely settings
  timely = record {
    period = short;
    waits = record {
      in_order = in_order key.EanDefaultMinimalWaitingTime key.EanDefaultMaximalWaitingTime
          refl refl refl refl;
      soon = (amount_within stage.Ean settings key.EanDefaultMaximalWaitingTime _ _ fits refl refl
          refl).1;
    };
    changes = record {
      in_order = in_order key.EanDefaultMinimalChangeTime key.EanDefaultMaximalChangeTime
          refl refl refl refl;
      soon = (amount_within stage.Ean settings key.EanDefaultMaximalChangeTime _ _ fits refl refl
          refl).1;
    };
    headways = grind (arith, in_order, halved, short);
  }

-- the settings of a bundle of the stage
pub bundle_timely : (bundle : BundleParts) → bundle.stage ≡ stage.Ean → Fits bundle
    → AreTimely bundle.settings
bundle_timely bundle is fits =
    timely bundle.settings (subst (λ of. SettingsFit of bundle.settings) is fits.settings)

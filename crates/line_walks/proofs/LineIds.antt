-- The lines of a pool by their ids.
use Rattle.plan_num.proofs.Common.{◌≡◌, ℕ, ℤ, pos, ◌+◌, ◌<◌, Bool, true, false, List, [], length}
use Rattle.plan_num.proofs.Common.{take, get_or, slice_get, refl, ap, sym, ◌∙◌, Some, option_map}
use Rattle.plan_num.proofs.Common.{list_any, int_eq, list_any_at, list_any_more, slice_get-get_or}
use Rattle.plan_num.proofs.Common.{same_Some}
use Rattle.line_walks.specs.Pools.{LineParts}

abbrev pub no_parts : LineParts
no_parts = record { id = pos 0; edges = []; stops = []; frequency = 0 }

module _ (lines : List LineParts) (id : ℤ) where
  -- the test of the line at a place
  tested : (i : ℕ) (own : Bool) → i < length lines
      → option_map (λ (line : LineParts). int_eq id line.id) (slice_get lines i) ≡ Some own
      → int_eq id (get_or lines i no_parts).id ≡ own
  tested i own lt is = same_Some _ _ (sym (ap (option_map (λ (line : LineParts). int_eq id line.id))
      (slice_get-get_or lines i no_parts lt)) ∙ is)

  pub is_there : (i : ℕ) → i < length lines
      → option_map (λ (line : LineParts). int_eq id line.id) (slice_get lines i) ≡ Some true
      → list_any (λ (line : LineParts). int_eq id line.id) lines ≡ true
  is_there i lt is = list_any_at (λ (line : LineParts). int_eq id line.id) lines i no_parts lt
      (tested i true lt is)

  pub not_yet : (i : ℕ) → i < length lines
      → list_any (λ (line : LineParts). int_eq id line.id) (take i lines) ≡ false
      → option_map (λ (line : LineParts). int_eq id line.id) (slice_get lines i) ≡ Some false
      → list_any (λ (line : LineParts). int_eq id line.id) (take (i + 1) lines) ≡ false
  not_yet i lt none is =
      list_any_more (λ (line : LineParts). int_eq id line.id) lines i no_parts lt
      ∙ rw (none, tested i false lt is) refl

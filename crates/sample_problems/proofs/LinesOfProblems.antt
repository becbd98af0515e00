-- Lines over one edge or two.
use Rattle.plan_num.proofs.Common.{◌≡◌, ◌<◌, ◌≤◌, ◌+◌, ◌++◌, ◌∷◌, [], ◌∙◌, ℕ, zero, suc, List}
use Rattle.plan_num.proofs.Common.{length, take, nat_eq, get_or, slice_get, Some, None, option_map}
use Rattle.plan_num.proofs.Common.{ℤ, pos, refl, arith, ap, sym, subst, All, ◌<ℤ◌, ints, take_all}
use Rattle.plan_num.proofs.Common.{take_more, All-push, get_or_from_slice_get, none-some}
use Rattle.plan_num.proofs.Common.{slice_get_within}
use Rattle.std.specs.List.{IsDistinct}
use Rattle.line_cost_model.specs.declared.multipliers.Multiplier.{Multiplier}
use Rattle.line_cost_model.proofs.Common.{CostedLine, IsCostedLine, ProblemParts}

pub two_apart : IsDistinct nat_eq (0 ∷ 1 ∷ [])
unfolding IsDistinct
two_apart = ((refl, tt), (tt, tt))

pub one_apart : IsDistinct nat_eq (0 ∷ [])
unfolding IsDistinct
one_apart = (tt, tt)

pub two_there : (edges : ℕ) → 1 < edges → All (λ edge. edge < edges) (0 ∷ 1 ∷ [])
two_there edges h zero d within = omega (arith, h)
two_there edges h (suc zero) d within = h
two_there edges h (suc (suc k)) d within = absurd (omega (arith, within))

pub one_there : (edges : ℕ) → 0 < edges → All (λ edge. edge < edges) (0 ∷ [])
one_there edges h zero d within = h
one_there edges h (suc k) d within = absurd (omega (arith, within))

-- ---- lines over one edge, each with the next id

pub line_over : (edges id : ℕ) (told : ℤ) → edges ≡ 1 → told ≡ pos (id + 1) → id < 1000
    → IsCostedLine edges (record { id = told; cost = 1000000; edges = 0 ∷ [] })
line_over edges id told one is few = record {
  id = record { low = omega (arith, ints, is); high = omega (arith, ints, is, few) };
  cheap = omega arith;
  some = omega arith;
  distinct = one_apart;
  there = one_there edges (omega (arith, one));
}

pub ids_rise : (id : ℕ) (told : ℤ) (before after : ProblemParts)
    → All (λ line. line.id <ℤ pos (id + 1)) before.lines → told ≡ pos (id + 1)
    → after ≡ record before {
      lines = before.lines ++ record { id = told; cost = 1000000; edges = 0 ∷ [] } ∷ [];
    }
    → All (λ line. line.id <ℤ pos (id + 1 + 1)) after.lines
ids_rise id told before after all is after_is =
    subst (λ (problem : ProblemParts). All (λ line. line.id <ℤ pos (id + 1 + 1)) problem.lines)
    (sym after_is)
    (All-push (λ (line : CostedLine). line.id <ℤ pos (id + 1 + 1)) before.lines
    (record { id = told; cost = 1000000; edges = 0 ∷ [] })
    (λ k d within. let own : (get_or before.lines k d).id <ℤ pos (id + 1) = all k d within in
    omega (arith, ints, own))
    (omega (arith, ints, is)))

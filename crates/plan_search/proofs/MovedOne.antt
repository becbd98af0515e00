-- One trip more is moved, and its place.
use Rattle.plan_num.proofs.Common.{◌≡◌, ℕ, ◌+◌, ◌<◌, List, length, get_or, slice_set, Option, ap}
use Rattle.plan_num.proofs.Common.{sym, ◌∙◌, arith, get_or-set_same, get_or-set_other, subst}
use Rattle.link_plans.proofs.Common.{by_number, PotentialParts, at}
use Rattle.plan_search.specs.Moved.{between, IsNodeAt, AreMoved}

pub between_is : {number a b c x y z : ℕ} → number ≡ between a b c → a ≡ x → b ≡ y → c ≡ z
    → number ≡ between x y z
between_is {number} {a} {b} {c} {x} {y} {z} is p q r = grind arith

module _ (numbers : List ℕ) (plan : List (Option ℕ)) (before after : PotentialParts) (i : ℕ) where
  pub moved_more : AreMoved numbers plan before after i → (last : PotentialParts) → (u v node : ℕ)
      → i < length after.u → i < length after.v
      → last ≡ record { u = slice_set after.u i u; v = slice_set after.v i v }
      → u ≡ between (at before.u i) (get_or numbers i 0) (get_or numbers (length plan) 0)
      → IsNodeAt plan i node
      → v ≡ between (at before.v i) (get_or numbers (length plan) 0) (get_or numbers node 0)
      → AreMoved numbers plan before last (i + 1)
  moved_more are last u v node in_u in_v is u_is node_is v_is = record {
    trips = λ k h. grind (arith, by_number, slice_set, get_or-set_same, get_or, get_or-set_other);
    places = λ k h. by_number k i
        (λ same. (
          node,
          (
            subst (λ n. IsNodeAt plan n node) (sym same) node_is,
            ap (λ (some : PotentialParts). at some.v k) is
                ∙ ap (at (slice_set after.v i v)) same ∙ get_or-set_same after.v i v 0 in_v ∙ v_is
                ∙ ap (λ n. between (at before.v n) (get_or numbers (length plan) 0) (get_or numbers node 0))
                (sym same),
          ),
        ))
        (λ apart.
        let other = are.places k (omega (arith, h, apart)) in (
          other.0,
          (
            other.1.0,
            ap (λ (some : PotentialParts). at some.v k) is
                ∙ get_or-set_other after.v i k v 0 apart ∙ other.1.1,
          ),
        ));
  }

  pub moved_none : AreMoved numbers plan before after 0
  moved_none = grind arith

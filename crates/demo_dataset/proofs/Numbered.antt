-- The network of each demo dataset, tried size by size.
use Rattle.plan_num.proofs.Common.{ℕ, zero, suc, ◌≤◌, refl, arith}
use Rattle.demo_dataset.specs.Square.{IsNumbered}

pub numbered_network : (size : ℕ) → 1 ≤ size → size ≤ 8 → IsNumbered size
numbered_network zero some few = absurd (omega arith)
numbered_network (suc zero) _ _ =
    record { stops = refl; edges = refl; lines = refl; ends = refl; walks = refl }
numbered_network (suc (suc zero)) _ _ =
    record { stops = refl; edges = refl; lines = refl; ends = refl; walks = refl }
numbered_network (suc (suc (suc zero))) _ _ =
    record { stops = refl; edges = refl; lines = refl; ends = refl; walks = refl }
numbered_network (suc (suc (suc (suc zero)))) _ _ =
    record { stops = refl; edges = refl; lines = refl; ends = refl; walks = refl }
numbered_network (suc (suc (suc (suc (suc zero))))) _ _ =
    record { stops = refl; edges = refl; lines = refl; ends = refl; walks = refl }
numbered_network (suc (suc (suc (suc (suc (suc zero)))))) _ _ =
    record { stops = refl; edges = refl; lines = refl; ends = refl; walks = refl }
numbered_network (suc (suc (suc (suc (suc (suc (suc zero))))))) _ _ =
    record { stops = refl; edges = refl; lines = refl; ends = refl; walks = refl }
numbered_network (suc (suc (suc (suc (suc (suc (suc (suc zero)))))))) _ _ =
    record { stops = refl; edges = refl; lines = refl; ends = refl; walks = refl }
numbered_network (suc (suc (suc (suc (suc (suc (suc (suc (suc rest))))))))) some few =
    absurd (omega arith)

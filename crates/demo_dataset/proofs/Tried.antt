-- The texts of the two smallest datasets, written out.
use Rattle.plan_num.proofs.Common.{◌≡◌, [], ◌++◌, refl, codes}
use Rattle.std.specs.Fmt.{digits}
use Rattle.demo_dataset.specs.Demo.{stop_text, edge_text, pool_text, demand_text}

small_demos :
    -- one stop has neither edges nor lines
    (stop_text 1 ≡ codes "1; s; s; 0; 0\n")
    -- one without edges
    × (edge_text 1 ++ pool_text 1 ++ demand_text 1 ≡ [])
    -- four stops with two rows and two columns
    × (stop_text 2 ≡ codes "1; s; s; 0; 0\n2; s; s; 0; 0\n3; s; s; 0; 0\n4; s; s; 0; 0\n")
    -- four edges
    × (edge_text 2
    ≡ codes "1; 1; 2; 1; 4; 5\n2; 3; 4; 1; 5; 6\n3; 1; 3; 1; 3; 4\n4; 2; 4; 1; 4; 5\n")
    -- six lines
    × (pool_text 2 ≡ codes "1; 1; 1\n2; 1; 2\n3; 1; 3\n4; 1; 4\n"
    ++ codes "5; 1; 1\n5; 2; 4\n6; 1; 3\n6; 2; 2\n")
    -- their demand
    × (demand_text 2 ≡ codes "1; 2; 67\n2; 1; 67\n3; 4; 63\n4; 3; 63\n"
    ++ codes "1; 3; 59\n3; 1; 59\n2; 4; 55\n4; 2; 55\n")
unfolding digits
small_demos = (refl, refl, refl, refl, refl, refl)

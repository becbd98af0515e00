-- The loads that are made are accepted by the rules of their kind.
use Rattle.plan_num.proofs.Common.{◌≡◌, ℕ, ℤ, int_lt, ◌≤ℤ◌, Bool, true, false, not, is_some, Option}
use Rattle.plan_num.proofs.Common.{Some, None, option_map, List, [], ◌∷◌, length, map, refl, ap}
use Rattle.plan_num.proofs.Common.{subst, sym, ◌∙◌, arith, All, AllByRecursion, list_any}
use Rattle.plan_num.proofs.Common.{IsStrictlySortedBy, int_eq, int_cmp, All-head, All-tail}
use Rattle.tables.specs.declared.file_id.FileId.TheVariants as file
use Rattle.tables.specs.declared.row_why.RowWhy.TheVariants as why
use Rattle.tables.proofs.Common.{load_columns, records, input_faults, ReadsBack, accepted}
use Rattle.tables.proofs.Common.{whole_accepted, all_keep, each_known, none_missing}
use Rattle.plan_num.proofs.Found.{any_mapped, any_found}
use Rattle.walks.specs.declared.edge.Edge.{Edge}
use Rattle.ptn_network.specs.declared.edge_load.EdgeLoad.{EdgeLoad}
use Rattle.ptn_network.specs.Ids.{edge_with}
use Rattle.ptn_network.specs.Loads.{load_input, load_rules, given_for, IsBounded}
use Rattle.ptn_network.proofs.LoadRows.{fits}
use Rattle.demand_load.specs.LoadTables.{load_rows}

not_below : (least most : ℤ) → least ≤ℤ most → int_lt most least ≡ false
not_below least most order = grind arith

-- an edge that is there is found
is_known : (edges : List Edge) (id : ℤ) → list_any (λ edge. int_eq id edge.id) edges ≡ true
    → is_some (edge_with edges id) ≡ true
is_known edges id there =
    some_as (edge_with edges id) ∙ any_found (λ edge. int_eq id edge.id) (λ edge. edge.id) edges ∙ there
  where
    some_as : (found : Option Edge) → is_some found ≡ is_some (option_map (λ edge. edge.id) found)
    some_as None = refl
    some_as (Some edge) = refl

-- the rows of edges have the ids of the edges
ids_are : (edges all : List Edge) (loads : List EdgeLoad) → length loads ≡ length edges → map (λ row. row.edge) (records (load_input file.Load all) (load_rows edges loads)) ≡ map (λ (edge : Edge). edge.id) edges
ids_are [] all loads same = refl
ids_are (edge ∷ edges) all [] same = absurd (omega (arith, same))
ids_are (edge ∷ edges) all (load ∷ loads) same = ap (λ ids. edge.id ∷ ids) (ids_are edges all loads (omega (arith, same)))

-- each is of an edge that is there, with bounds in order
good : (edges all : List Edge) (loads : List EdgeLoad) → AllByRecursion (λ id. list_any (int_eq id) (map (λ (edge : Edge). edge.id) all) ≡ true) (map (λ (edge : Edge). edge.id) edges) → All IsBounded loads
    → AllByRecursion (λ row. (list_any (λ edge. int_eq row.edge edge.id) all ≡ true) × (int_lt row.load.most row.load.least ≡ false)) (records (load_input file.Load all) (load_rows edges loads))
good [] all loads known bounded = tt
good (edge ∷ edges) all [] known bounded = tt
good (edge ∷ edges) all (load ∷ loads) known bounded =
    grind (
      arith,
      any_mapped,
      not_below,
      All-head,
      All-tail,
      good edges all loads known.1 (All-tail IsBounded load loads bounded),
    )

module _ (edges : List Edge) (loads : List EdgeLoad) (same : length loads ≡ length edges) where
  has_load : (edge : Edge) → is_some (given_for (records (load_input file.Load edges) (load_rows edges loads)) edge) ≡ list_any (int_eq edge.id) (map (λ (edge : Edge). edge.id) edges)
  has_load edge = grind (arith, any_found, any_mapped, ids_are)

  all_have : list_any (λ edge. not (is_some (given_for (records (load_input file.Load edges) (load_rows edges loads)) edge))) edges ≡ false
  all_have =
      ap (λ (missing : Edge → Bool). list_any missing edges) (λ i edge. not (has_load edge i))
      ∙ none_missing (λ (edge : Edge). edge.id) (map (λ (edge : Edge). edge.id) edges) edges (λ p h. h)

-- a text of the loads of edges, whose ids rise, has no fault as a file of loads
pub loads_accepted : (edges : List Edge) (loads : List EdgeLoad) (text : List ℕ) → IsStrictlySortedBy int_cmp (map (λ (edge : Edge). edge.id) edges) → length loads ≡ length edges → All IsBounded loads
    → ReadsBack load_columns (load_rows edges loads) text → input_faults (load_input file.Load edges) text ≡ []
loads_accepted edges loads text rise same bounded back =
    let ids = map (λ (edge : Edge). edge.id) edges in
    let rows = records (load_input file.Load edges) (load_rows edges loads) in
    accepted (load_input file.Load edges) (load_rows edges loads) text back refl
    (all_keep (load_rules edges) (λ row. row.edge) (λ row. (list_any (λ edge. int_eq row.edge edge.id) edges ≡ true) × (int_lt row.load.most row.load.least ≡ false))
    (λ before row new good. fits edges before row (is_known edges row.edge good.0) new good.1) rows
    (subst (IsStrictlySortedBy int_cmp) (sym (ids_are edges edges loads same)) rise) (good edges edges loads (each_known ids ids (λ p h. h)) bounded))
    (whole_accepted file.Load (λ rows. list_any (λ edge. not (is_some (given_for rows edge))) edges) why.MissingEdge rows (all_have edges loads same))

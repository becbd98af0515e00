-- Rows of given loads, one after the other.
use Rattle.plan_num.proofs.Common.{◌≡◌, ◌≢◌, ℕ, ℤ, pos, ◌<◌, int_lt, Bool, true, false, not, cond}
use Rattle.plan_num.proofs.Common.{List, [], ◌∷◌, ◌++◌, length, map, get_or, set, slice_get, refl}
use Rattle.plan_num.proofs.Common.{ap, subst, sym, ◌∙◌, arith, Option, Some, None, option_map}
use Rattle.plan_num.proofs.Common.{is_some, unwrap_or, inl, inr, get_or-set_other, get_or-set_same}
use Rattle.plan_num.proofs.Common.{All, list_any, find, All-head, All-tail, All-map}
use Rattle.plan_num.proofs.Common.{IsStrictlySortedBy, option_or, int_eq, int_cmp, cases_eq}
use Rattle.plan_num.proofs.Common.{cases_Bool, cases_order, Decides-int_eq, length-map, get_or-map}
use Rattle.plan_num.proofs.Common.{length-set, same_lists, find-append, Less-from_sorted, same_Some}
use Rattle.plan_num.proofs.Common.{map-map}
use Rattle.std.specs.declared.cmp.Ordering.TheVariants.{Less}
use Rattle.tables.specs.declared.row_why.RowWhy.TheVariants as why
use Rattle.tables.specs.declared.file_id.FileId.{FileId}
use Rattle.tables.proofs.Common.{load_columns, Input, records_of, broken_whys, input_faults}
use Rattle.tables.proofs.Common.{table_of, InColumns, sound_rows, without_whole, refused_as_whole}
use Rattle.tables.proofs.Common.{sound_as_whole, TableRow}
use Rattle.tables.specs.declared.refusal.Refusal.TheVariants as refusal
use Rattle.plan_num.proofs.Found.{any_mapped, any_found}
use Rattle.walks.specs.declared.edge.Edge.{Edge}
use Rattle.walks.proofs.Common.{no_edge}
use Rattle.ptn_network.specs.declared.edge_load.EdgeLoad.{EdgeLoad}
use Rattle.ptn_network.specs.declared.load_row.LoadRow.{LoadRow}
use Rattle.ptn_network.specs.Ids.{edge_with, StandsAt}
use Rattle.ptn_network.specs.Loads.{load_input, load_row_of, load_rules, given_for, loads_of, no_load, IsLoad}
use Rattle.ptn_network.proofs.EdgeIds.{stands_within, own_id_at}

same_ids : (x y : ℤ) → int_eq x y ≡ true → x ≡ y
same_ids x y e = (Decides-int_eq x y).0 e

-- ---- the rules of a row

module _ (edges : List Edge) (before : List LoadRow) (row : LoadRow) where
  pub unknown : edge_with edges row.edge ≡ None
      → slice_get (broken_whys (load_rules edges) before row) 0 ≡ Some why.UnknownEdge
  unknown none = rw none refl

  pub repeated : is_some (edge_with edges row.edge) ≡ true
      → list_any (λ other. int_eq row.edge other.edge) before ≡ true
      → slice_get (broken_whys (load_rules edges) before row) 0 ≡ Some why.RepeatedId
  repeated there twice = rw (there, twice) refl

  pub crossed : is_some (edge_with edges row.edge) ≡ true
      → list_any (λ other. int_eq row.edge other.edge) before ≡ false
      → int_lt row.load.most row.load.least ≡ true
      → slice_get (broken_whys (load_rules edges) before row) 0 ≡ Some why.BoundsCrossed
  crossed there new cross = rw (there, new, cross) refl

  pub fits : is_some (edge_with edges row.edge) ≡ true
      → list_any (λ other. int_eq row.edge other.edge) before ≡ false
      → int_lt row.load.most row.load.least ≡ false → broken_whys (load_rules edges) before row ≡ []
  fits there new order = rw (there, new, order) refl

  -- a row that breaks no rule is the first of its edge
  pub own_row : broken_whys (load_rules edges) before row ≡ []
      → (list_any (λ other. int_eq row.edge other.edge) before ≡ false)
      × (int_lt row.load.most row.load.least ≡ false)
  own_row none = grind (arith, is_some, int_lt, repeated)

  module _ (given : List (Option EdgeLoad)) (index : ℕ) (are : given ≡ map (given_for before) edges)
      (at : StandsAt edges row.edge index) where
    pub place_within : index < length given
    place_within = grind (arith, length-map, stands_within)

    -- a load is given where a row before has the same edge
    pub is_given : is_some (get_or given index None)
        ≡ list_any (λ other. int_eq row.edge other.edge) before
    is_given =
        ap (λ (some : List (Option EdgeLoad)). is_some (get_or some index None)) are
        ∙ ap is_some (get_or-map (given_for before) edges index no_edge None
        (stands_within edges row.edge index at))
        ∙ any_found (λ other. int_eq (get_or edges index no_edge).id other.edge)
        (λ other. other.load) before
        ∙ ap (λ id. list_any (λ other. int_eq id other.edge) before)
        (own_id_at edges row.edge index at)

-- ---- one row more

module _ (before : List LoadRow) (row : LoadRow) (edge : Edge) where
  found_more : given_for (before ++ row ∷ []) edge ≡ option_map (λ row. row.load) (option_or
      (find (λ other. int_eq edge.id other.edge) before)
      (cond (int_eq edge.id row.edge) (Some row) None))
  found_more = ap (option_map (λ row. row.load)) (find-append
      (λ other. int_eq edge.id other.edge) before (row ∷ []))

  nothing : (found : Option LoadRow) → is_some (option_map (λ row. row.load) found) ≡ false
      → found ≡ None
  nothing None e = refl
  nothing (Some x) e = cc

  no_more : (found : Option LoadRow) → option_or found None ≡ found
  no_more None = refl
  no_more (Some x) = refl

  -- the load of its edge
  given_now : edge.id ≡ row.edge → list_any (λ other. int_eq row.edge other.edge) before ≡ false
      → given_for (before ++ row ∷ []) edge ≡ Some row.load
  given_now own new =
      let first : find (λ other. int_eq edge.id other.edge) before
      ≡ None = nothing _ (any_found (λ other. int_eq edge.id other.edge)
      (λ other. other.load) before ∙ ap (λ id. list_any (λ other. int_eq id other.edge) before)
      own ∙ new) in
      let here : int_eq edge.id row.edge ≡ true = (Decides-int_eq edge.id row.edge).1 own in
      found_more ∙ ap (λ found. option_map (λ row. row.load)
      (option_or found (cond (int_eq edge.id row.edge) (Some row) None))) first
      ∙ ap (λ b. option_map (λ row. row.load) (cond b (Some row) None)) here

  -- and of no other
  given_before : edge.id ≢ row.edge → given_for (before ++ row ∷ []) edge ≡ given_for before edge
  given_before other = grind (arith, cases_Bool, same_ids, found_more, option_map, no_more)

not_less : (x : ℤ) → int_cmp x x ≡ Less → ⊥
not_less x e = grind arith

-- of two places of rising ids each has its own
ids_apart : (edges : List Edge) (i j : ℕ) → IsStrictlySortedBy int_cmp (map (λ edge. edge.id) edges)
    → i < length edges → j < length edges → i ≢ j
    → (get_or edges i no_edge).id ≢ (get_or edges j no_edge).id
ids_apart edges i j rise h k apart same =
    elim (cases_order i j) [
      | inl e ↦ apart e
      | inr (inl lt) ↦ never i j h k lt same
      | inr (inr gt) ↦ never j i k h gt (sym same)
    ]
  where
    never : (a b : ℕ) → a < length edges → b < length edges → a < b
        → (get_or edges a no_edge).id ≡ (get_or edges b no_edge).id → ⊥
    never a b p q lt e =
        let ids = map (λ (edge : Edge). edge.id) edges in
        let less : int_cmp (get_or ids a (pos 0)) (get_or ids b (pos 0))
        ≡ Less = Less-from_sorted int_cmp ids a b (pos 0) rise lt
        (omega (arith, length-map edges (λ (edge : Edge). edge.id))) in
        let here = get_or-map (λ (edge : Edge). edge.id) edges a no_edge (pos 0) p in
        let there = get_or-map (λ (edge : Edge). edge.id) edges b no_edge (pos 0) q in
        let tied : int_cmp (get_or ids a (pos 0)) (get_or ids a (pos 0)) ≡ Less =
        ap (int_cmp (get_or ids a (pos 0))) (here ∙ e ∙ sym there) ∙ less in
        not_less (get_or ids a (pos 0)) tied

-- the given loads with that of one row more
pub given_more : (edges : List Edge) (before : List LoadRow) (row : LoadRow)
    (given : List (Option EdgeLoad)) (index : ℕ)
    → IsStrictlySortedBy int_cmp (map (λ edge. edge.id) edges)
    → given ≡ map (given_for before) edges → StandsAt edges row.edge index
    → list_any (λ other. int_eq row.edge other.edge) before ≡ false
    → set given index (Some row.load) ≡ map (given_for (before ++ row ∷ [])) edges
given_more edges before row given index rise are at new =
    let size : length given ≡ length edges = ap length are ∙ length-map edges (given_for before) in
    let long : length (set given index (Some row.load)) ≡ length edges =
    length-set given index (Some row.load) ∙ size in
    same_lists _ _ (long ∙ sym (length-map edges (given_for (before ++ row ∷ [])))) (λ k d h.
    let within : k < length edges = omega arith in
    let now : get_or (map (given_for (before ++ row ∷ [])) edges) k d
    ≡ given_for (before ++ row ∷ []) (get_or edges k no_edge) =
    get_or-map (given_for (before ++ row ∷ [])) edges k no_edge d within in
    elim (cases_eq k index) [
      | inl e ↦
          subst (λ n. get_or (set given index (Some row.load)) n d
          ≡ given_for (before ++ row ∷ []) (get_or edges n no_edge)) (sym e)
          (get_or-set_same given index (Some row.load) d
          (omega (arith, stands_within edges row.edge index at))
          ∙ sym (given_now before row (get_or edges index no_edge)
          (own_id_at edges row.edge index at) new))
          ∙ sym now
      | inr apart ↦
          get_or-set_other given index k (Some row.load) d apart
          ∙ ap (λ (some : List (Option EdgeLoad)). get_or some k d) are
          ∙ get_or-map (given_for before) edges k no_edge d within
          ∙ sym (given_before before row (get_or edges k no_edge)
          (λ same. ids_apart edges k index rise within
          (stands_within edges row.edge index at) apart
          (same ∙ sym (own_id_at edges row.edge index at))))
          ∙ sym now
    ])

-- ---- the whole file

-- loads are not all given where none are handed on
not_all : (missing : Bool) (all : List EdgeLoad) → None ≡ cond missing None (Some all)
    → missing ≡ true
not_all true all e = refl
not_all false all e = cc

all_are : (missing : Bool) (all loads : List EdgeLoad)
    → Some loads ≡ cond missing None (Some all) → (missing ≡ false) × (loads ≡ all)
all_are true all loads e = cc
all_are false all loads e = (refl, same_Some loads all e)

module _ (file : FileId) (edges : List Edge) (text : List ℕ) (given : List (Option EdgeLoad))
    (none : input_faults (without_whole (load_input file edges)) text ≡ [])
    (are : given ≡ map (given_for (records_of (load_input file edges) text)) edges) where
  abbrev input : Input LoadRow
  input = load_input file edges

  -- an edge has no row
  abbrev lacks : List LoadRow → Bool
  lacks rows = list_any (λ edge. not (is_some (given_for rows edge))) edges

  abbrev pub missing : Bool
  missing = list_any (λ load. not (is_some load)) given

  abbrev pub all : List EdgeLoad
  all = map (λ load. unwrap_or load no_load) given

  -- so it is where a load is not given
  is_missing : lacks (records_of input text) ≡ missing
  is_missing = sym (ap (list_any (λ load. not (is_some load))) are
      ∙ any_mapped (λ load. not (is_some load)) (given_for (records_of input text)) edges)

  -- then the text is refused by that
  pub edge_missing : None ≡ cond missing None (Some all)
      → slice_get (input_faults (load_input file edges) text) 0
      ≡ Some (refusal.BadRow file 0 why.MissingEdge)
  edge_missing e = refused_as_whole input text lacks why.MissingEdge refl none
      (is_missing ∙ not_all missing all e)

  -- and else has no fault, and the loads are those of all edges
  pub loads_given : (loads : List EdgeLoad) → Some loads ≡ cond missing None (Some all)
      → (input_faults (load_input file edges) text ≡ []) × (loads ≡ loads_of file edges text)
  unfolding loads_of
  loads_given loads e = grind (arith, all_are, sound_as_whole, is_missing, unwrap_or, map-map)

-- ---- what holds of the loads of a text without a fault

row_is_load : (edges : List Edge) (before : List LoadRow) (cells : List ℤ)
    → broken_whys (load_rules edges) before (load_row_of cells) ≡ [] → InColumns load_columns cells
    → IsLoad (load_row_of cells).load
row_is_load edges before cells none within = grind arith

found_is_load : (p : LoadRow → Bool) (rows : List LoadRow) → All (λ row. IsLoad row.load) rows
    → IsLoad (unwrap_or (option_map (λ row. row.load) (find p rows)) no_load)
found_is_load p [] all = grind arith
found_is_load p (row ∷ rows) all =
    elim (p row) as (λ b. IsLoad
    (unwrap_or (option_map (λ row. row.load) (cond b (Some row) (find p rows))) no_load)) [
      | true ↦ All-head (λ row. IsLoad row.load) row rows all
      | false ↦ found_is_load p rows (All-tail (λ row. IsLoad row.load) row rows all)
    ]

pub loads_sound : (file : FileId) (edges : List Edge) (text : List ℕ)
    → input_faults (load_input file edges) text ≡ [] → All IsLoad (loads_of file edges text)
unfolding loads_of
loads_sound file edges text none =
    let input = load_input file edges in
    let rows = records_of input text in
    let sound = sound_rows input text none in
    let all = All-map (λ (row : LoadRow). IsLoad row.load)
    (λ (row : TableRow). load_row_of row.cells) (table_of input.columns text)
    (λ k d h. row_is_load edges (sound k d h).0 _ (sound k d h).1 (sound k d h).2) in
    All-map IsLoad (λ edge. unwrap_or (given_for rows edge) no_load) edges
    (λ k d h. found_is_load (λ row. int_eq (get_or edges k d).id row.edge) rows all)

-- there is one for each edge
pub loads_count : (file : FileId) (edges : List Edge) (text : List ℕ)
    → length (loads_of file edges text) ≡ length edges
unfolding loads_of
loads_count file edges text = length-map edges (λ edge. unwrap_or
    (given_for (records_of (load_input file edges) text) edge) no_load)

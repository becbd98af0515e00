-- The text of the lines between terminals is right as a pool.
use Rattle.plan_num.proofs.Common.{◌≡◌, ◌≢◌, ℕ, ℤ, pos, ◌<◌, ◌≤◌, true, not, List, [], ◌∷◌, ◌++◌}
use Rattle.plan_num.proofs.Common.{length, map, get_or, All, Any, codes, refl, ap, subst, sym, ◌∙◌}
use Rattle.plan_num.proofs.Common.{arith, append_assoc, signed_decimal, flat_map, range_with_len}
use Rattle.plan_num.proofs.Common.{ints, get_or-map, get_or_default, length-map, All-append}
use Rattle.plan_num.proofs.Common.{All-filter, All-head, All-tail, All-weaker}
use Rattle.plan_num.proofs.Common.{get_or-range_with_len, length-range_with_len}
use Rattle.plan_num.proofs.Common.{AllPass-from_list_all}
use Rattle.plan_num.specs.Number.{is_number_byte}
use Rattle.plan_num.proofs.ReadBack.{whole_bytes}
use Rattle.tables.proofs.Common.{pool_columns, ReadsBack, plain_header, back_none, front_none}
use Rattle.tables.proofs.Common.{written_back, columns_written}
use Rattle.walks.proofs.Common.{IsNetwork, NetworkParts}
use Rattle.ptn_network.specs.Networks.{network_faults, network_of}
use Rattle.ptn_network.proofs.Sound.{network_sound}
use Rattle.line_walks.specs.Pools.{LineParts, pool_of}
use Rattle.line_walks.proofs.EdgesOfTexts.{HasId, edge_ids}
use Rattle.pool_maker.specs.PoolTexts.{edge_id, pool_header, pool_rows, pool_text, terminal_faults}
use Rattle.pool_maker.specs.PoolTexts.{text_of, uncovered_line, unknown_terminals}
use Rattle.plan_num.specs.Terminals.{AreTerminals}
use Rattle.pool_maker.specs.RightPools.{IsRightPool}
use Rattle.pool_maker.specs.Tellable.{AreTellable, IsRowId}
use Rattle.terminal_lines.specs.TerminalPaths.{IsShort, IsShortestLine}
use Rattle.terminal_lines.specs.TerminalPaths.{is_covered, lies_in, lines_between, paths_of}
use Rattle.terminal_lines.specs.TerminalPaths.{uncontained, uncovered}
use Rattle.pool_maker.proofs.Comments.{AreComments, back_with_comments, comment_more, no_comments}
use Rattle.pool_maker.proofs.PoolsRead.{lines_are, no_pool_faults, numbers_back}
use Rattle.pool_maker.proofs.RowsInside.{header_plain, own_id, rows_inside}
use Rattle.pool_maker.proofs.SortedIds.{all_stops}
use Rattle.terminal_lines.proofs.TerminalWays.{IsTerminalPath, few_lines, few_paths}
use Rattle.terminal_lines.proofs.TerminalWays.{lines_too, path_short, paths_right}
use Rattle.terminal_lines.proofs.ServedPaths.{each_path_is_served}

-- ---- the comments are comments

number_no_feed : (byte : ℕ) → is_number_byte byte ≡ true → byte ≢ 10
number_no_feed byte is same = let feed : is_number_byte 10 ≡ true = grind arith in cc

id_plain : (id : ℤ) → IsRowId id → All (λ byte. byte ≢ 10) (signed_decimal id)
id_plain id own =
    let numbers = AllPass-from_list_all is_number_byte (signed_decimal id)
    (whole_bytes id (omega (arith, ints, own.low)) (omega (arith, ints, own.high))) in grind (
      arith,
      All-weaker,
      number_no_feed,
    )

module _ (network : NetworkParts) (ids : All (λ edge. IsRowId edge.id) network.edges) where
  comments_are : (edges : List ℕ) → All (λ edge. edge < length network.edges) edges
      → AreComments (flat_map (uncovered_line network) edges)
  comments_are [] there = no_comments
  comments_are (edge ∷ edges) there =
      let id = edge_id network edge in
      let told = codes "# uncovered; " ++ signed_decimal id in
      let rest = flat_map (uncovered_line network) edges in
      let own = own_id network ids edge (All-head (λ edge. edge < length network.edges) edge edges
      there) in
      let plain = All-append (λ byte. byte ≢ 10) (codes "# uncovered; ") (signed_decimal id)
      (plain_header (codes "# uncovered; ") refl) (id_plain id own) in
      subst AreComments (sym (append_assoc told (10 ∷ []) rest))
      (comment_more (codes " uncovered; " ++ signed_decimal id) rest plain
      (comments_are edges (All-tail (λ edge. edge < length network.edges) edge edges there)))

  -- the text of lines is read back as their rows
  text_back : (lines : List (List ℕ)) → AreTellable network lines
      → ReadsBack pool_columns (pool_rows network lines) (text_of network lines)
  text_back lines tellable =
      back_with_comments pool_header pool_columns (pool_rows network lines)
      (flat_map (uncovered_line network) (uncovered network lines)) header_plain
      (comments_are (uncovered network lines)
      (All-filter (λ edge. not (is_covered lines edge)) (λ edge. edge < length network.edges)
      (range_with_len 0 (length network.edges)) (range_below (length network.edges))))
      (written_back pool_header pool_columns (pool_rows network lines) (omega arith) (columns_written pool_columns refl)
      (rows_inside network lines tellable) header_plain)
    where
      range_below : (n : ℕ) → All (λ edge. edge < n) (range_with_len 0 n)
      range_below n k d h =
          let within : k < n = omega (arith, h, length-range_with_len 0 n) in
          omega (arith, within, get_or-range_with_len 0 n k d within)

-- ---- lines between terminals can be told

module _ (network : NetworkParts) (sound : IsNetwork network) (terminals : List ℤ) where
  pub lines_tellable : (lines : List (List ℕ)) → All (λ edge. IsRowId edge.id) network.edges
      → length lines ≤ 190 → All (IsTerminalPath network terminals) lines
      → AreTellable network lines
  lines_tellable lines ids few right = record {
    ids = ids;
    few = few;
    short = All-weaker (IsTerminalPath network terminals) (IsShort network)
        (path_short network sound terminals) lines right;
  }

-- ---- paths lie in lines of the pool

any_unmapped : {X Y : Type 0} (P : Y → Type 0) (f : X → Y) (xs : List X) → Any P (map f xs)
    → Any (λ x. P (f x)) xs
any_unmapped P f [] there = absurd (omega (arith, there.2))
any_unmapped P f (x ∷ xs) there =
    let all = x ∷ xs in
    let k = there.0 in
    let within : k < length all = omega (arith, there.2, length-map all f) in (
      k,
      get_or all k x,
      within,
      get_or_default all k (get_or all k x) x within,
      subst P (sym there.3 ∙ get_or-map f all k x there.1 within) there.4,
    )

served_back : (paths : List (List ℕ)) (lines : List LineParts)
    → All (λ path. Any (λ line. lies_in path line ≡ true) (map (λ line. line.edges) lines)) paths
    → All (λ path. Any (λ line. lies_in path line.edges ≡ true) lines) paths
served_back paths lines all =
    All-weaker (λ path. Any (λ line. lies_in path line ≡ true)
    (map (λ (line : LineParts). line.edges) lines))
    (λ path. Any (λ (line : LineParts). lies_in path line.edges ≡ true) lines)
    (λ path there. any_unmapped (λ line. lies_in path line ≡ true)
    (λ (line : LineParts). line.edges) lines there)
    paths all

-- ---- the pool

module _ (stops edges : List ℕ) (terminals : List ℤ) (none : terminal_faults stops edges terminals
    ≡ [])
    (are : AreTerminals terminals) where
  abbrev network : NetworkParts
  network = network_of stops edges

  abbrev lines : List (List ℕ)
  lines = uncontained (paths_of network terminals)

  no_network_faults : network_faults stops edges ≡ []
  unfolding terminal_faults
  no_network_faults =
      front_none (network_faults stops edges) (unknown_terminals network.stops terminals) none

  none_unknown : unknown_terminals network.stops terminals ≡ []
  unfolding terminal_faults
  none_unknown = back_none (network_faults stops edges) (unknown_terminals network.stops terminals)
      none

  sound : IsNetwork network
  sound = network_sound stops edges no_network_faults

  row_ids : All (λ edge. IsRowId edge.id) network.edges
  row_ids = All-weaker HasId (λ edge. IsRowId edge.id)
      (λ edge own. record { low = own.0; high = own.1 }) network.edges
      (edge_ids stops edges no_network_faults)

  right : All (IsTerminalPath network terminals) lines
  right = lines_too (IsTerminalPath network terminals) (paths_of network terminals)
      (paths_right network sound terminals (all_stops network.stops terminals none_unknown))

  few : length lines ≤ 190
  few = grind (arith, few_lines, few_paths)

  pub tellable : AreTellable network lines
  tellable = lines_tellable network sound terminals lines row_ids few right

  pub pool_is_right : IsRightPool network terminals (pool_text network terminals)
  unfolding pool_text lines_between
  pool_is_right =
      let text = text_of network lines in
      let back = text_back network row_ids lines tellable in
      let rise = sound.edges_rise in
      let same = lines_are network terminals lines right few rise text back in
      let count : length (pool_of network text) ≡ length lines =
      sym (length-map (pool_of network text) (λ (line : LineParts). line.edges)) ∙ ap length same in
      let shortest : All (IsShortestLine network terminals) lines =
      All-weaker (IsTerminalPath network terminals) (IsShortestLine network terminals)
      (λ path is. is.line) lines right in
      record {
        accepted = no_pool_faults network terminals lines right few rise text back;
        few = omega (arith, count, few);
        numbered = numbers_back network terminals lines right few rise text back
            ∙ ap (λ n. map pos (range_with_len 1 n)) (sym count);
        lines = same;
        shortest = unmapped_all (IsShortestLine network terminals)
            (λ (line : LineParts). line.edges)
            (pool_of network text)
            (subst (All (IsShortestLine network terminals)) (sym same) shortest);
        served = served_back (paths_of network terminals) (pool_of network text)
            (subst (λ lines. All (λ path. Any (λ line. lies_in path line ≡ true) lines)
            (paths_of network terminals)) (sym same)
            (each_path_is_served network terminals sound
            (all_stops network.stops terminals none_unknown)));
        told = ap (text_of network) (sym same);
      }
    where
      unmapped_all : {X Y : Type 0} (P : Y → Type 0) (f : X → Y) (xs : List X) → All P (map f xs)
          → All (λ x. P (f x)) xs
      unmapped_all P f xs all k d h =
          subst P (get_or-map f xs k d (f d) h)
          (all k (f d) (omega (arith, h, length-map xs f)))

-- a text that was made is right
pub pool_right : (stops edges : List ℕ) (terminals : List ℤ) → AreTerminals terminals
    → (text : List ℕ) → terminal_faults stops edges terminals ≡ []
    → text ≡ pool_text (network_of stops edges) terminals
    → IsRightPool (network_of stops edges) terminals text
pool_right stops edges terminals are text none made =
    subst (IsRightPool (network_of stops edges) terminals) (sym made)
    (pool_is_right stops edges terminals none are)

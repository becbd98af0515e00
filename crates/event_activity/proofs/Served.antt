-- The network and the lines of texts without a fault.
use Rattle.plan_num.proofs.Common.{◌≡◌, ℕ, ℤ, pos, ◌≤◌, ◌≤ℤ◌, lit<, All, List, [], length, subst}
use Rattle.plan_num.proofs.Common.{sym, All-map, All-weaker}
use Rattle.tables.specs.declared.column.ColumnKind.TheVariants as column
use Rattle.tables.proofs.Common.{stop_columns, records_of, input_faults, table_of, TableRow}
use Rattle.tables.proofs.Common.{sound_rows, front_none, in_column}
use Rattle.line_walks.specs.LineLengths.{IsModest}
use Rattle.line_walks.specs.Pools.{LineParts, AreLines, concept_of, concept_faults}
use Rattle.line_walks.proofs.SoundLines.{pool_sound}
use Rattle.walks.proofs.Common.{all_rising, NetworkParts, IsNetwork}
use Rattle.line_walks.proofs.WholeLines.{whole_lines}
use Rattle.ptn_network.specs.Inputs.{stop_input, stop_row}
use Rattle.ptn_network.specs.Networks.{stops_of, network_of, network_faults}
use Rattle.ptn_network.proofs.Sound.{network_sound}
use Rattle.event_activity.specs.Runs.{AreServed}

abbrev IsStopId : ℤ → Type 0
IsStopId id = (pos 1 ≤ℤ id) × (id ≤ℤ pos 1000000000)

-- the ids of stops are in their range
stop_ids : (stops edges : List ℕ) → network_faults stops edges ≡ []
    → All IsStopId (network_of stops edges).stops
unfolding network_of network_faults stops_of
stop_ids stops edges none =
    let fine : input_faults stop_input stops ≡ [] = front_none _ _ none in
    let rows = sound_rows stop_input stops fine in
    all_rising IsStopId (records_of stop_input stops)
    (All-map IsStopId (λ (row : TableRow). stop_row row.cells) (table_of stop_columns stops)
    (λ k d h. in_column stop_columns _ 0 column.Skip (pos 0) (rows k d h).2 (lit< tt)))

-- the lines of a concept are served by the network
pub served : (stops edges concept : List ℕ) (network : NetworkParts) (lines : List LineParts)
    → network_faults stops edges ≡ [] → network ≡ network_of stops edges
    → concept_faults network concept ≡ [] → lines ≡ concept_of network concept
    → AreServed network lines
served stops edges concept network lines none is faultless read =
    let sound : IsNetwork network =
    subst IsNetwork (sym is) (network_sound stops edges none) in
    let short = All-weaker (IsModest network.edges) (λ line. length line.edges ≤ 1000)
    (λ line modest. modest.few) (concept_of network concept)
    (pool_sound _ network concept sound faultless) in
    record {
      network_is = sound;
      stop_ids = subst (λ (some : NetworkParts). All IsStopId some.stops) (sym is)
          (stop_ids stops edges none);
      lines_are = subst (AreLines network.edges) (sym read)
          (whole_lines _ network concept sound faultless);
      short = subst (All (λ line. length line.edges ≤ 1000)) (sym read) short;
    }

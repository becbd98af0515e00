-- The definitions on a small dataset.
use Rattle.std.proofs.Common.{◌≡◌, ℕ, List, [], ◌∷◌, ◌++◌, refl, pos, codes, Ok}
use Rattle.std.specs.Fmt.{digits}
use Rattle.tables.specs.declared.file_id.FileId.TheVariants as file
use Rattle.giv_files.specs.declared.key.Key.TheVariants as key
use Rattle.giv_files.specs.declared.made.Made.{Made}
use Rattle.giv_files.proofs.Common.{BundleParts}
use Rattle.tables.specs.declared.row_why.RowWhy.TheVariants as why
use Rattle.tables.specs.declared.refusal.Refusal.TheVariants as refusal
use Rattle.giv_files.specs.declared.stage.Stage.TheVariants as stage
use Rattle.tables.specs.Inputs.{input_faults, row_faults}
use Rattle.tables.specs.Reading.{faults, table_of, cells_from, cell_of, errors, values, row_whys}
use Rattle.text_fields.specs.Rows.{rows, cleaned}
use Rattle.plan_num.specs.Number.{spelling_of, value_of, value_at, fixed_of, whole_of}
use Rattle.plan_num.specs.Print.{digits_at}
use Rattle.delay_management.specs.InputProblems.{delay_of}
use Rattle.evaluators.specs.FirstRows.{firsts}
use Rattle.evaluators.specs.Statistic.{day_values, line_values, periodic_values}
use Rattle.evaluators.specs.StatisticStage.{statistic_faults, statistic_in, statistic_stage, statistic_text}

-- ---- a day of four vehicles and eight trips, of two lines with changes between them

abbrev costs : List ℕ
costs = codes "# line-id; length; cost\n1; 5; 15\n2; 2; 12\n"

abbrev concept : List ℕ
concept = codes "# line-id; edge-order; edge-id; frequency\n1; 1; 1; 1\n1; 2; 2; 1\n2; 1; 1; 1\n"

abbrev events : List ℕ
events = (codes "# event-id; type; stop-id; line-id; direction; repetition\n1; departure; 1; 1; >; 1\n"
    ++ codes "2; arrival; 2; 1; >; 1\n3; departure; 2; 1; >; 1\n4; arrival; 3; 1; >; 1\n"
    ++ codes "5; departure; 3; 1; <; 1\n6; arrival; 2; 1; <; 1\n7; departure; 2; 1; <; 1\n"
    ++ codes "8; arrival; 1; 1; <; 1\n9; departure; 1; 2; >; 1\n10; arrival; 2; 2; >; 1\n"
    ++ codes "11; departure; 2; 2; <; 1\n12; arrival; 1; 2; <; 1\n")

abbrev activities : List ℕ
activities = (codes "# activity-id; type; from-event; to-event; lower-bound; upper-bound\n"
    ++ codes "1; drive; 1; 2; 4; 5\n2; wait; 2; 3; 1; 3\n3; drive; 3; 4; 6; 6\n"
    ++ codes "4; drive; 5; 6; 6; 6\n5; wait; 6; 7; 1; 3\n6; drive; 7; 8; 4; 5\n"
    ++ codes "7; drive; 9; 10; 4; 5\n8; drive; 11; 12; 4; 5\n9; change; 2; 11; 2; 62\n"
    ++ codes "10; change; 6; 11; 2; 62\n11; change; 8; 9; 2; 62\n12; change; 10; 3; 2; 62\n"
    ++ codes "13; change; 10; 7; 2; 62\n14; change; 12; 1; 2; 62\n")

abbrev times : List ℕ
times = (codes "# event-id; time\n1; 0\n2; 4\n3; 5\n4; 11\n5; 0\n6; 6\n7; 7\n8; 11\n9; 0\n10; 4\n"
    ++ codes "11; 0\n12; 4\n")

abbrev trips : List ℕ
trips = (codes "# start-id; periodic-start-id; start-stop; start-time; "
    ++ codes "end-id; periodic-end-id; end-stop; end-time; line\n"
    ++ codes "1; 1; 1; 0; 4; 4; 3; 11; 1\n5; 1; 1; 20; 8; 4; 3; 31; 1\n9; 5; 3; 0; 12; 8; 1; 11; 1\n"
    ++ codes "13; 5; 3; 20; 16; 8; 1; 31; 1\n17; 9; 1; 0; 18; 10; 2; 4; 2\n"
    ++ codes "19; 9; 1; 20; 20; 10; 2; 24; 2\n21; 11; 2; 0; 22; 12; 1; 4; 2\n"
    ++ codes "23; 11; 2; 20; 24; 12; 1; 24; 2\n")

abbrev expanded_events : List ℕ
expanded_events = (codes "# event-id; periodic-id; type; time; stop-id\n1; 1; departure; 0; 1\n"
    ++ codes "2; 2; arrival; 4; 2\n3; 3; departure; 5; 2\n4; 4; arrival; 11; 3\n"
    ++ codes "5; 1; departure; 20; 1\n6; 2; arrival; 24; 2\n7; 3; departure; 25; 2\n"
    ++ codes "8; 4; arrival; 31; 3\n9; 5; departure; 0; 3\n10; 6; arrival; 6; 2\n"
    ++ codes "11; 7; departure; 7; 2\n12; 8; arrival; 11; 1\n13; 5; departure; 20; 3\n"
    ++ codes "14; 6; arrival; 26; 2\n15; 7; departure; 27; 2\n16; 8; arrival; 31; 1\n"
    ++ codes "17; 9; departure; 0; 1\n18; 10; arrival; 4; 2\n19; 9; departure; 20; 1\n"
    ++ codes "20; 10; arrival; 24; 2\n21; 11; departure; 0; 2\n22; 12; arrival; 4; 1\n"
    ++ codes "23; 11; departure; 20; 2\n24; 12; arrival; 24; 1\n")

abbrev expanded_activities : List ℕ
expanded_activities =
    (codes "# activity-id; periodic-id; type; from-event; to-event; lower-bound; upper-bound\n"
    ++ codes "1; 1; drive; 1; 2; 4; 5\n2; 2; wait; 2; 3; 1; 3\n3; 3; drive; 3; 4; 6; 6\n"
    ++ codes "4; 1; drive; 5; 6; 4; 5\n5; 2; wait; 6; 7; 1; 3\n6; 3; drive; 7; 8; 6; 6\n"
    ++ codes "7; 4; drive; 9; 10; 6; 6\n8; 5; wait; 10; 11; 1; 3\n9; 6; drive; 11; 12; 4; 5\n"
    ++ codes "10; 4; drive; 13; 14; 6; 6\n11; 5; wait; 14; 15; 1; 3\n12; 6; drive; 15; 16; 4; 5\n"
    ++ codes "13; 7; drive; 17; 18; 4; 5\n14; 7; drive; 19; 20; 4; 5\n15; 8; drive; 21; 22; 4; 5\n"
    ++ codes "16; 8; drive; 23; 24; 4; 5\n17; 9; change; 2; 23; 2; 62\n"
    ++ codes "18; 10; change; 10; 23; 2; 62\n19; 11; change; 12; 19; 2; 62\n"
    ++ codes "20; 12; change; 18; 7; 2; 62\n21; 13; change; 18; 11; 2; 62\n"
    ++ codes "22; 13; change; 20; 15; 2; 62\n23; 14; change; 22; 5; 2; 62\n")

abbrev schedule : List ℕ
schedule =
    (codes "# circulation; vehicle; number; type; start-id; periodic-start-id; start-stop; start-time; "
    ++ codes "end-id; periodic-end-id; end-stop; end-time; line\n"
    ++ codes "1; 1; 1; TRIP; 1; 1; 1; 0; 4; 4; 3; 11; 1\n"
    ++ codes "1; 1; 2; EMPTY; 4; 4; 3; 11; 13; 5; 3; 11; 0\n"
    ++ codes "1; 1; 3; TRIP; 13; 5; 3; 20; 16; 8; 1; 31; 1\n"
    ++ codes "2; 2; 1; TRIP; 9; 5; 3; 0; 12; 8; 1; 11; 1\n"
    ++ codes "2; 2; 2; EMPTY; 12; 8; 1; 11; 5; 1; 1; 11; 0\n"
    ++ codes "2; 2; 3; TRIP; 5; 1; 1; 20; 8; 4; 3; 31; 1\n"
    ++ codes "3; 3; 1; TRIP; 17; 9; 1; 0; 18; 10; 2; 4; 2\n"
    ++ codes "3; 3; 2; EMPTY; 18; 10; 2; 4; 23; 11; 2; 4; 0\n"
    ++ codes "3; 3; 3; TRIP; 23; 11; 2; 20; 24; 12; 1; 24; 2\n"
    ++ codes "4; 4; 1; TRIP; 21; 11; 2; 0; 22; 12; 1; 4; 2\n"
    ++ codes "4; 4; 2; EMPTY; 22; 12; 1; 4; 19; 9; 1; 4; 0\n"
    ++ codes "4; 4; 3; TRIP; 19; 9; 1; 20; 20; 10; 2; 24; 2\n")

abbrev disposed : List ℕ
disposed = (codes "# event-id; time\n1; 0\n2; 4\n3; 5\n4; 11\n5; 20\n6; 24\n7; 25\n8; 31\n9; 0\n10; 6\n"
    ++ codes "11; 7\n12; 11\n13; 20\n14; 26\n15; 27\n16; 31\n17; 0\n18; 4\n19; 20\n20; 24\n21; 0\n"
    ++ codes "22; 4\n23; 20\n24; 24\n")

abbrev bundle_of : List (List ℕ) → BundleParts
bundle_of inputs = record {
  stage = stage.Statistic;
  settings = record { key = key.PeriodLength; value = pos 20 }
      ∷ record { key = key.VsVehicleCosts; value = pos 100000000 }
      ∷ record { key = key.VsEmptyCosts; value = pos 500000 } ∷ [];
  inputs = inputs;
}

-- what is made where the rows are these
abbrev made : List ℕ → Made
made rows =
    record {
      files = record { file = file.Statistic; text = codes "# key; value\n" ++ rows } ∷ [];
      report = codes "statistic: 14 values";
    }

values_told :
    -- as planned
    (statistic_stage (bundle_of
    (costs ∷ concept ∷ events ∷ activities ∷ times ∷ trips ∷ expanded_events ∷ expanded_activities ∷ schedule
    ∷ disposed
    ∷ [])) ≡ Ok
    (made ((codes "lc_cost; 27\nlc_lines; 2\nean_events; 12\nean_activities; 14\ntim_drive_time; 28\n"
    ++ codes "tim_wait_time; 2\ntim_change_time; 79\nro_trips; 8\nvs_vehicles; 4\n"
    ++ codes "vs_empty_minutes; 0\nvs_cost; 400\ndm_total_delay; 0\ndm_max_delay; 0\n"
    ++ codes "dm_missed_changes; 0\n"))))
    -- nothing at all
    × (statistic_stage (bundle_of ([] ∷ [] ∷ [] ∷ [] ∷ [] ∷ [] ∷ [] ∷ [] ∷ [] ∷ [] ∷ [])) ≡ Ok
    (made ((codes "lc_cost; 0\nlc_lines; 0\nean_events; 0\nean_activities; 0\ntim_drive_time; 0\n"
    ++ codes "tim_wait_time; 0\ntim_change_time; 0\nro_trips; 0\nvs_vehicles; 0\n"
    ++ codes "vs_empty_minutes; 0\nvs_cost; 0\ndm_total_delay; 0\ndm_max_delay; 0\n"
    ++ codes "dm_missed_changes; 0\n"))))
    -- some events are late, and the last arrival is earlier than planned
    × (statistic_stage
    (bundle_of (costs ∷ concept ∷ events ∷ activities ∷ times ∷ trips ∷ expanded_events ∷ expanded_activities
    ∷ schedule
    ∷ ((codes "1; 10\n2; 14\n3; 15\n4; 21\n5; 22\n6; 26\n7; 27\n8; 33\n9; 0\n10; 6\n11; 7\n12; 19\n"
    ++ codes "13; 20\n14; 26\n15; 27\n16; 31\n17; 1\n18; 5\n19; 20\n20; 24\n21; 0\n22; 4\n23; 19\n"
    ++ codes "24; 21\n")) ∷ [])) ≡ Ok
    (made ((codes "lc_cost; 27\nlc_lines; 2\nean_events; 12\nean_activities; 14\ntim_drive_time; 28\n"
    ++ codes "tim_wait_time; 2\ntim_change_time; 79\nro_trips; 8\nvs_vehicles; 4\n"
    ++ codes "vs_empty_minutes; 0\nvs_cost; 400\ndm_total_delay; 30\ndm_max_delay; 10\n"
    ++ codes "dm_missed_changes; 1\n"))))
    -- the rows of a line need not stand together, and a line without a row counts nothing
    × (statistic_stage (bundle_of
    ((codes "3; 1; 1\n2; 2; 12.5\n1; 5; 15\n4; 1; 7\n")
    ∷ (codes "1; 1; 1; 2\n2; 1; 1; 3\n1; 2; 2; 2\n3; 1; 1; 0\n") ∷ events ∷ activities ∷ times ∷ trips
    ∷ expanded_events ∷ expanded_activities ∷ schedule ∷ disposed
    ∷ [])) ≡ Ok
    (made ((codes "lc_cost; 67.5\nlc_lines; 2\nean_events; 12\nean_activities; 14\ntim_drive_time; 28\n"
    ++ codes "tim_wait_time; 2\ntim_change_time; 79\nro_trips; 8\nvs_vehicles; 4\n"
    ++ codes "vs_empty_minutes; 0\nvs_cost; 400\ndm_total_delay; 0\ndm_max_delay; 0\n"
    ++ codes "dm_missed_changes; 0\n"))))
    -- unknown line
    × (statistic_faults
    (bundle_of (costs ∷ (codes "3; 1; 1; 2\n") ∷ events ∷ activities ∷ times ∷ trips ∷ expanded_events
    ∷ expanded_activities ∷ schedule ∷ disposed ∷ [])) ≡ refusal.BadRow file.Concept 1 why.UnknownLine ∷ [])
    -- two frequencies
    × (statistic_faults
    (bundle_of (costs ∷ (codes "1; 1; 1; 2\n2; 1; 1; 3\n1; 2; 2; 1\n") ∷ events ∷ activities ∷ times ∷ trips
    ∷ expanded_events ∷ expanded_activities ∷ schedule ∷ disposed
    ∷ [])) ≡ refusal.BadRow file.Concept 3 why.FrequencyDiffers ∷ [])
unfolding digits digits_at delay_of firsts line_values periodic_values day_values statistic_in
    statistic_faults statistic_text statistic_stage input_faults row_faults faults table_of cells_from cell_of
    values errors row_whys rows cleaned spelling_of value_of value_at fixed_of whole_of
values_told = (refl, refl, refl, refl, refl, refl)

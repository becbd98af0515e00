-- The definitions on small datasets.
use Rattle.plan_num.proofs.Common.{◌≡◌, ℕ, List, [], ◌∷◌, refl, pos, codes, Ok, Err}
use Rattle.std.specs.Fmt.{digits}
use Rattle.tables.specs.declared.counted.Counted.TheVariants as counted
use Rattle.tables.specs.declared.file_id.FileId.TheVariants as file
use Rattle.giv_files.specs.declared.key.Key.TheVariants as key
use Rattle.giv_files.specs.declared.made.Made.{Made}
use Rattle.giv_files.proofs.Common.{BundleParts}
use Rattle.tables.specs.declared.row_why.RowWhy.TheVariants as why
use Rattle.tables.specs.declared.refusal.Refusal.TheVariants as refusal
use Rattle.giv_files.specs.declared.stage.Stage.TheVariants as stage
use Rattle.tables.specs.Inputs.{input_faults, row_faults}
use Rattle.tables.specs.Reading.{faults, table_of, cells_from, cell_of, errors, values, row_whys}
use Rattle.text_fields.specs.Rows.{rows, cleaned}
use Rattle.tables.specs.Writing.{cell_text, cell_texts, joined, table_text}
use Rattle.plan_num.specs.Number.{spelling_of, value_of, value_at, fixed_of, whole_of}
use Rattle.ptn_network.specs.Networks.{stops_of, network_of, network_faults}
use Rattle.walks.specs.RisingIds.{by_id}
use Rattle.line_walks.specs.Pools.{lines_of, line_faults, walk_from}
use Rattle.event_activity.specs.Activities.{concept_activities}
use Rattle.event_activity.specs.EanStage.{ean_stage, events_in, too_many}
use Rattle.event_activity.specs.Runs.{concept_events}

-- a period, the bounds of waits and those of changes, and the texts of stops, of edges and of a concept
abbrev bundle : ℕ → ℕ → List (List ℕ) → BundleParts
bundle period change inputs = record {
  stage = stage.Ean;
  settings = record { key = key.PeriodLength; value = pos period }
      ∷ record { key = key.EanDefaultMinimalWaitingTime; value = pos 1 }
      ∷ record { key = key.EanDefaultMaximalWaitingTime; value = pos 3 }
      ∷ record { key = key.EanDefaultMinimalChangeTime; value = pos change }
      ∷ record { key = key.EanDefaultMaximalChangeTime; value = pos 62 }
      ∷ [];
  inputs = inputs;
}

-- three stops in a row
abbrev stops : List ℕ
stops = codes "1; A; A; 0; 0\n2; B; B; 0; 0\n3; C; C; 0; 0\n"

abbrev edges : List ℕ
edges = codes "1; 1; 2; 2; 4; 5\n2; 2; 3; 3; 6; 6\n"

-- one line over both edges and one over the first, each once in a period
abbrev two_lines : BundleParts
two_lines = bundle 20 2 (stops ∷ edges ∷ codes "# c\n1; 1; 1; 1\n1; 2; 2; 1\n2; 1; 1; 1\n" ∷ [])

abbrev events : List ℕ
events =
    codes
    "# event-id; type; stop-id; line-id; direction; repetition\n1; departure; 1; 1; >; 1\n2; arrival; 2; 1; >; 1\n3; departure; 2; 1; >; 1\n4; arrival; 3; 1; >; 1\n5; departure; 3; 1; <; 1\n6; arrival; 2; 1; <; 1\n7; departure; 2; 1; <; 1\n8; arrival; 1; 1; <; 1\n9; departure; 1; 2; >; 1\n10; arrival; 2; 2; >; 1\n11; departure; 2; 2; <; 1\n12; arrival; 1; 2; <; 1\n"

abbrev activities : List ℕ
activities =
    codes
    "# activity-id; type; from-event; to-event; lower-bound; upper-bound\n1; drive; 1; 2; 4; 5\n2; wait; 2; 3; 1; 3\n3; drive; 3; 4; 6; 6\n4; drive; 5; 6; 6; 6\n5; wait; 6; 7; 1; 3\n6; drive; 7; 8; 4; 5\n7; drive; 9; 10; 4; 5\n8; drive; 11; 12; 4; 5\n9; change; 2; 11; 2; 62\n10; change; 6; 11; 2; 62\n11; change; 8; 9; 2; 62\n12; change; 10; 3; 2; 62\n13; change; 10; 7; 2; 62\n14; change; 12; 1; 2; 62\n"

-- what is made where the tables are texts
abbrev made : List ℕ → List ℕ → List ℕ → Made
made events activities report = record {
  files = record { file = file.EventsP; text = events }
      ∷ record { file = file.ActivitiesP; text = activities } ∷ [];
  report = report;
}

twelve : ean_stage two_lines ≡ Ok (made events activities (codes "ean: 12 events, 14 activities"))
unfolding digits ean_stage concept_events concept_activities lines_of line_faults network_of network_faults stops_of input_faults row_faults faults by_id walk_from table_of cells_from cell_of values errors row_whys rows cleaned spelling_of value_of value_at fixed_of whole_of cell_text cell_texts joined table_text
twelve = refl

-- ---- one line over one edge, three times in a period of ten minutes

abbrev one_line : BundleParts
one_line =
    bundle 10 2
    (codes "1; A; A; 0; 0\n2; B; B; 0; 0\n" ∷ codes "7; 1; 2; 1; 4; 5\n" ∷ codes "3; 1; 7; 3\n" ∷ [])

faults_of_concepts :
    (ean_stage one_line ≡ Ok
    (made
    (codes
    "# event-id; type; stop-id; line-id; direction; repetition\n1; departure; 1; 3; >; 1\n2; arrival; 2; 3; >; 1\n3; departure; 1; 3; >; 2\n4; arrival; 2; 3; >; 2\n5; departure; 1; 3; >; 3\n6; arrival; 2; 3; >; 3\n7; departure; 2; 3; <; 1\n8; arrival; 1; 3; <; 1\n9; departure; 2; 3; <; 2\n10; arrival; 1; 3; <; 2\n11; departure; 2; 3; <; 3\n12; arrival; 1; 3; <; 3\n") (codes "# activity-id; type; from-event; to-event; lower-bound; upper-bound\n1; drive; 1; 2; 4; 5\n2; drive; 3; 4; 4; 5\n3; drive; 5; 6; 4; 5\n4; drive; 7; 8; 4; 5\n5; drive; 9; 10; 4; 5\n6; drive; 11; 12; 4; 5\n7; sync; 1; 3; 3; 4\n8; sync; 3; 5; 3; 4\n9; sync; 7; 9; 3; 4\n10; sync; 9; 11; 3; 4\n") (codes "ean: 12 events, 10 activities")))
    -- no line runs: nothing is made
    × (ean_stage (bundle 20 2 (stops ∷ edges ∷ codes "1; 1; 1; 0\n1; 2; 2; 0\n" ∷ [])) ≡ Ok
    (made (codes "# event-id; type; stop-id; line-id; direction; repetition\n")
    (codes "# activity-id; type; from-event; to-event; lower-bound; upper-bound\n")
    (codes "ean: 0 events, 0 activities")))
    -- too many events
    × (too_many
    (events_in
    (bundle 60 2
    (stops ∷ edges ∷ codes "1; 1; 1; 501\n1; 2; 2; 501\n"
    ∷ []))) [] ≡ refusal.TooMany counted.PeriodicEvents 4008 ∷ [])
    -- frequencies that differ from that of the line's first row
    × (ean_stage
    (bundle 20 2 (stops ∷ edges ∷ codes "# c\n1; 1; 1; 1\n2; 1; 1; 2\n1; 2; 2; 2\n" ∷ [])) ≡ Err
    (refusal.BadRow file.Concept 4 why.FrequencyDiffers))
unfolding digits ean_stage concept_events concept_activities lines_of line_faults network_of network_faults
    stops_of input_faults row_faults faults by_id walk_from table_of cells_from cell_of values errors row_whys
    rows cleaned spelling_of value_of value_at fixed_of whole_of cell_text cell_texts joined table_text
faults_of_concepts = (refl, refl, refl, refl)

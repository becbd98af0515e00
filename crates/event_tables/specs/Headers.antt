-- The headers of the files that are made.
use Rattle.std.specs.Prelude.{ℕ, List, ◌++◌, codes}

abbrev pub periodic_event_header : List ℕ
periodic_event_header = codes "# event-id; type; stop-id; line-id; direction; repetition"

abbrev pub periodic_activity_header : List ℕ
periodic_activity_header =
    codes "# activity-id; type; from-event; to-event; lower-bound; upper-bound"

abbrev pub periodic_time_header : List ℕ
periodic_time_header = codes "# event-id; time"

abbrev pub expanded_event_header : List ℕ
expanded_event_header = codes "# event-id; periodic-id; type; time; stop-id"

abbrev pub expanded_activity_header : List ℕ
expanded_activity_header =
    codes "# activity-id; periodic-id; type; from-event; to-event; lower-bound; upper-bound"

abbrev pub trip_header : List ℕ
trip_header = codes "# start-id; periodic-start-id; start-stop; start-time; "
    ++ codes "end-id; periodic-end-id; end-stop; end-time; line"

abbrev pub schedule_header : List ℕ
schedule_header = codes "# circulation; vehicle; number; type; "
    ++ codes "start-id; periodic-start-id; start-stop; start-time; "
    ++ codes "end-id; periodic-end-id; end-stop; end-time; line"

abbrev pub disposed_time_header : List ℕ
disposed_time_header = codes "# event-id; time"

-- What holds of periodic and of disposed times, where their texts have no fault.
use Rattle.plan_num.proofs.Common.{◌≡◌, ℕ, ◌<◌, List, [], refl, arith, range_with_len, leb-false}
use Rattle.tables.specs.declared.file_id.FileId.{FileId}
use Rattle.tables.proofs.Common.{input_faults, records_of, broken_whys, rules_sound}
use Rattle.event_tables.specs.declared.disposed_time.DisposedTime.{DisposedTime}
use Rattle.event_tables.specs.declared.periodic_time.PeriodicTime.{PeriodicTime}
use Rattle.event_tables.specs.Cells.{periodic_time_cells, disposed_time_cells}
use Rattle.event_tables.specs.DisposedTimes.{disposed_time_input, disposed_time_rules, AreDisposedTimes}
use Rattle.event_tables.specs.PeriodicFiles.{periodic_time_input, periodic_time_rules, ArePeriodicTimes}
use Rattle.event_tables.specs.Places.{IsOneOf}
use Rattle.event_tables.proofs.CellsBack.{periodic_time_back, disposed_time_back}
use Rattle.event_tables.proofs.Fitting.{fitting_records, sound_records}
use Rattle.event_tables.proofs.Numbering.{numbered_rows, is_place}
use Rattle.event_tables.proofs.WholeFiles.{one_each}

module _ (file : FileId) (period count : ℕ) (text : List ℕ) (none : input_faults
    (periodic_time_input file period (range_with_len 1 count)) text ≡ []) where
  time_sound : (some : List PeriodicTime) (row : PeriodicTime)
      → broken_whys (periodic_time_rules period (range_with_len 1 count)) some row ≡ []
      → IsOneOf count row.event × (row.time < period)
  time_sound some row kept = grind (arith, rules_sound, is_place, leb-false)

  pub periodic_times_sound : ArePeriodicTimes period count
      (records_of (periodic_time_input file period (range_with_len 1 count)) text)
  periodic_times_sound =
      let input = periodic_time_input file period (range_with_len 1 count) in
      let are = numbered_rows input (λ row. row.event) _ text refl none in
      record {
        numbered = are;
        each_event = one_each input text
            (λ row. row.event) count refl none are (sound_records input text none
            (λ row. IsOneOf count row.event) (λ some row kept. (time_sound some row kept).0));
        in_period = sound_records input text none (λ row. row.time < period)
            (λ some row kept. (time_sound some row kept).1);
        fit = fitting_records input text none periodic_time_cells periodic_time_back;
      }

module _ (count : ℕ) (text : List ℕ) (none : input_faults (disposed_time_input (range_with_len 1 count)) text
    ≡ []) where
  disposed_sound : (some : List DisposedTime) (row : DisposedTime)
      → broken_whys (disposed_time_rules (range_with_len 1 count)) some row ≡ []
      → IsOneOf count row.event
  disposed_sound some row kept = grind (arith, rules_sound, is_place)

  pub disposed_times_sound : AreDisposedTimes count
      (records_of (disposed_time_input (range_with_len 1 count)) text)
  disposed_times_sound =
      let input = disposed_time_input (range_with_len 1 count) in
      let are = numbered_rows input (λ row. row.event) _ text refl none in
      record {
        numbered = are;
        each_event = one_each input text
            (λ row. row.event) count refl none are (sound_records input text none
            (λ row. IsOneOf count row.event) disposed_sound);
        fit = fitting_records input text none disposed_time_cells disposed_time_back;
      }

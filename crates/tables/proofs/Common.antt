-- What proofs of the crates above cite of this one, passed on from one place. Declares nothing.
pub use Rattle.tables.specs.Columns.{activities_p_columns, activities_x_columns, concept_columns}
pub use Rattle.tables.specs.Columns.{delays_columns, disposed_columns, edge_columns}
pub use Rattle.tables.specs.Columns.{events_p_columns, events_x_columns, load_columns, od_columns}
pub use Rattle.tables.specs.Columns.{pool_columns, pool_cost_columns, potential_columns}
pub use Rattle.tables.specs.Columns.{reasons_columns, schedule_columns, stop_columns}
pub use Rattle.tables.specs.Columns.{times_p_columns, tree_columns, trips_columns}
pub use Rattle.tables.specs.CountedTexts.{counted_text}
pub use Rattle.tables.specs.FileNames.{file_name}
pub use Rattle.tables.specs.Inputs.{Input, Numbered, Refuses, RowRule, TableRule, UnlessFault}
pub use Rattle.tables.specs.Inputs.{broken_whys, cell_faults, fault_at, input_faults, limit_faults}
pub use Rattle.tables.specs.Inputs.{numbered, or_else, own_id, records, records_of, row_faults}
pub use Rattle.tables.specs.Inputs.{row_limit, table_faults, table_row_faults, whole_faults}
pub use Rattle.tables.specs.Inputs.{whole_rule}
pub use Rattle.tables.specs.NamedFiles.{NamesInput, NamesOnly}
pub use Rattle.tables.specs.Names.{table_words}
pub use Rattle.tables.specs.Reading.{ReadGives, cell_of, cells_from, errors, faults, row_whys}
pub use Rattle.tables.specs.Reading.{table_of, table_row, values}
pub use Rattle.tables.specs.RowsOfTables.{ReadsAs, ReadsFile, file_text, numbered_by, records_by}
pub use Rattle.tables.specs.RowsOfTables.{rows_by, too_many_rows}
pub use Rattle.tables.specs.Tables.{TableRow, Wide, cell_at, no_row, row_number}
pub use Rattle.tables.specs.Writing.{CanWrite, InColumn, InColumns, IsHeader, IsSmall, ReadsBack}
pub use Rattle.tables.specs.Writing.{cell_text, cell_texts, joined, line_text, table_text}
pub use Rattle.tables.proofs.Accepted.{KeepRules, accepted, all_keep, each_known, none_missing}
pub use Rattle.tables.proofs.Accepted.{whole_accepted}
pub use Rattle.tables.proofs.CellFacts.{position-map}
pub use Rattle.tables.proofs.CellTexts.{number_plain, plain_word}
pub use Rattle.tables.proofs.FileFaults.{limits_refuse, rows_read}
pub use Rattle.tables.proofs.FirstFaults.{first_stays, mark_first, no_mark, row_ends, table_is}
pub use Rattle.tables.proofs.Headers.{plain_header}
pub use Rattle.tables.proofs.InTurn.{after_none, none_after, none_first, over_limit, refused_before}
pub use Rattle.tables.proofs.InTurn.{under_limit}
pub use Rattle.tables.proofs.Inputs.{SoundBefore, UnlessFault-weaker, faults_of_table, few_rows}
pub use Rattle.tables.proofs.Inputs.{first_append, limit_kept, limits_sound, no_faults, none_breaks}
pub use Rattle.tables.proofs.Inputs.{parts_sound, records_all, records_more, refused_append}
pub use Rattle.tables.proofs.Inputs.{refused_cells, refused_rows, refused_whole, row_met}
pub use Rattle.tables.proofs.Inputs.{row_refused, rows_met, rule_broken, rule_kept, rules_sound}
pub use Rattle.tables.proofs.Inputs.{sound_rows, table_sound, whole_rule_broken, whole_rule_kept}
pub use Rattle.tables.proofs.Inputs.{whole_rule_sound}
pub use Rattle.tables.proofs.Named.{AllName, input_names, names_both, names_only, names_or_else}
pub use Rattle.tables.proofs.Named.{names_where, none_names}
pub use Rattle.tables.proofs.PlainBytes.{AreCells, IsCell, all_weaker, cells_quiet, cells_row}
pub use Rattle.tables.proofs.PlainBytes.{is_plain, line_cut, line_some, plain_is, quiet_line}
pub use Rattle.tables.proofs.PlainBytes.{quiet_stripped}
pub use Rattle.tables.proofs.Ranges.{back_none, front_none, row_in_columns, table_in_columns}
pub use Rattle.tables.proofs.WholeRules.{refused_as_whole, refused_without, sound_as_whole}
pub use Rattle.tables.proofs.WholeRules.{without_whole}
pub use Rattle.tables.proofs.WriteFacts.{in_column}
pub use Rattle.tables.proofs.WrittenBack.{written_back}
pub use Rattle.tables.proofs.WrittenColumns.{columns_written}

-- What proofs of the crates above cite of this one, passed on from one place. Declares nothing.
pub use Rattle.giv_files.specs.CrossRules.{cross_rule, keeps, keeps_bound, keeps_rule, not_below}
pub use Rattle.giv_files.specs.KeyKinds.{greatest, kept_if, least, spelled_as}
pub use Rattle.giv_files.specs.Keys.{all_keys, allows, has_key, is_key, key_default, key_kind}
pub use Rattle.giv_files.specs.Keys.{key_name, key_place}
pub use Rattle.giv_files.specs.MadeLists.{MakesAs, ids_of, made_lists}
pub use Rattle.giv_files.specs.ReportLines.{count_text, report_line}
pub use Rattle.giv_files.specs.Settings.{BundleParts, Fits, SettingsFit, amount, is_uncrossed}
pub use Rattle.giv_files.specs.Settings.{value_of}
pub use Rattle.giv_files.specs.SettingsText.{settings_text}
pub use Rattle.giv_files.specs.StageCalls.{StageGives, TakesSteps, input_text}
pub use Rattle.giv_files.specs.Stages.{all_stages, places, stage_inputs, stage_makes, stage_name}
pub use Rattle.giv_files.proofs.KeyPlaces.{key_there, same_key}
pub use Rattle.giv_files.proofs.SettingFacts.{amount_within}
pub use Rattle.giv_files.proofs.SettingsTold.{text_tells}
pub use Rattle.giv_files.proofs.StageCalls.{fine_after, gives_always, gives_only, made_after}
pub use Rattle.giv_files.proofs.StageCalls.{made_unless, names_after, none_unless, refused_after}
pub use Rattle.giv_files.proofs.StageCalls.{refused_names, refused_steps, right_given}
pub use Rattle.giv_files.proofs.StageCalls.{stage_refused}

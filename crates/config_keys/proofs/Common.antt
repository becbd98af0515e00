-- What proofs of the crates above cite of this one, passed on from one place. Declares nothing.
pub use Rattle.config_keys.specs.Config.{AreSettings, last_stage_of, part_of}
pub use Rattle.config_keys.specs.Effective.{ConfigGives}
pub use Rattle.config_keys.specs.Includes.{is_inside, path_of}
pub use Rattle.config_keys.specs.Items.{config_name, file_limit, look_in}
pub use Rattle.config_keys.specs.NamedConfigs.{ConfigNames}
pub use Rattle.config_keys.specs.Values.{effective}
pub use Rattle.config_keys.proofs.Looks.{effective_same}
pub use Rattle.config_keys.proofs.NamedConfigs.{config_names}
pub use Rattle.config_keys.proofs.Settling.{effective_settings, part_fits}

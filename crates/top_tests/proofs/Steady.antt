-- Over files and a sink whose counts of faults are 0, no fault is answered.
use Rattle.std.proofs.Common.{◌≡◌, ◌≢◌, inl, inr, ℕ, arith}
use Rattle.plan_files.proofs.Common.{Rose}
use Rattle.command_line.specs.declared.status.Status.{Status}
use Rattle.command_line.specs.declared.status.Status.TheVariants as status
use Rattle.lintim_cli.specs.Says.{SaysAlways}
use Rattle.lintim_cli.specs.Top.{Seen}

module _ (before after : Seen) (result : Status) (always : SaysAlways before after result) where
  pub no_file_fault : before.files.faults ≡ 0 → after.files.faults ≡ 0 → result ≢ status.FileFault
  no_file_fault first last is = by before.files.faults after.files.faults first last (always.file_fault is).raised.rose
    where
      by : (b a : ℕ) → b ≡ 0 → a ≡ 0 → Rose b a → ⊥
      by b a first last (inl less) = omega (arith, first, last, less)
      by b a first last (inr end) = omega (arith, last, end)

  pub no_sink_fault : before.sink_faults ≡ 0 → after.sink_faults ≡ 0 → result ≢ status.SinkFault
  no_sink_fault first last is = by before.sink_faults after.sink_faults first last (always.sink_fault is)
    where
      by : (b a : ℕ) → b ≡ 0 → a ≡ 0 → Rose b a → ⊥
      by b a first last (inl less) = omega (arith, first, last, less)
      by b a first last (inr end) = omega (arith, last, end)

use Rattle.plan_num.proofs.Common.{◌≡◌, ◌++◌, ℕ, Bool, false, List, IfSome}
use Rattle.plan_files.proofs.Common.{AreOutside, OnlyReads}
use Rattle.stage_chain.specs.Runs.{unmet}
use Rattle.stage_chain.proofs.settle.unmet.Given as goal

-- the writes so far and those of the wishes that are left make all of them, and no file has changed
abbrev pub invariant-loop-wish : goal.invariant-loop-wish
invariant-loop-wish g l = record {
  reads : OnlyReads g.F.Files.contents g.F.Files.writes g.F.Files.faults l.initial.files l.files false;
  told : IfSome (g.F.Files.contents l.initial.files)
      (λ folder. l.writes.items ++ unmet folder l.wish-iterator.rest.items ≡ unmet folder l.fn.wishes.items);
  outside : (test : List ℕ → Bool) → AreOutside test l.fn.wishes.items
      → AreOutside test (l.writes.items ++ l.wish-iterator.rest.items);
}

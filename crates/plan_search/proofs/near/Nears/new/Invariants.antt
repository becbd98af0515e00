-- So many places so far.
use Rattle.plan_num.proofs.Common.{◌≡◌, None, replicate}
use Rattle.plan_search.proofs.near.Nears.new.Given as goal

abbrev pub invariant-loop-place : goal.invariant-loop-place
invariant-loop-place l = record {
  nears : l.nears.items ≡ replicate l._place None;
  slacks : l.slacks.items ≡ replicate l._place 18446744073709551615;
}

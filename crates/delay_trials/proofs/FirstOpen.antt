-- The first change that is open and broken is the first one of a trial.
use Rattle.std.proofs.Common.{◌≡◌, ◌∙◌, ℕ, ◌&&◌, Bool, List, get_or, Option, None, Some, ap, sym, arith}
use Rattle.delay_trials.specs.declared.decided.Decided.{Decided}
use Rattle.propagation.specs.Lateness.{is_broken}
use Rattle.delay_trials.specs.OnTrial.{IsTrial, TellsBroken, TrialTimes}
use Rattle.delay_trials.specs.Trials.{first_broken}
use Rattle.delay_trials.proofs.TrialFacts.{none_open, one_open, open_flag}

pub tells_first : (all : TrialTimes) (decided : List Decided) (kept : List Bool)
    → IsTrial all.problem decided kept all.open_yet all.times → (result : Option ℕ) → TellsBroken all result
    → result ≡ first_broken (record { problem = all.problem; decided = decided })
tells_first all decided kept is None tells =
    none_open (record { problem = all.problem; decided = decided }) all.times is.told
    (λ k d inside. ap (λ b. b && is_broken all.times (get_or all.problem.changes k d))
    (sym (open_flag all.problem decided kept all.open_yet all.times is k inside)) ∙ tells k d inside)
tells_first all decided kept is (Some at) tells =
    one_open (record { problem = all.problem; decided = decided }) all.times is.told at tells.0
    (λ k d less. ap (λ b. b && is_broken all.times (get_or all.problem.changes k d))
    (sym (open_flag all.problem decided kept all.open_yet all.times is k (omega (arith, less, tells.0))))
    ∙ tells.1 k d less)
    (λ d. ap (λ b. b && is_broken all.times (get_or all.problem.changes at d))
    (sym (open_flag all.problem decided kept all.open_yet all.times is at tells.0)) ∙ tells.2 d)

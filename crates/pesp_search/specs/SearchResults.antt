-- What a search within a budget gives the stage.
use Rattle.std.specs.Prelude.{◌≡◌, ℕ, nat_lt, if◌then◌else◌, ⊤, List, Option, Some, None}
use Rattle.std.specs.Prelude.{Result, Ok, Err}
use Rattle.tables.specs.declared.refusal.Refusal.{Refusal}
use Rattle.tables.specs.declared.refusal.Refusal.TheVariants as refusal
use Rattle.tables.specs.declared.refusal.StageFault.{StageFault}
use Rattle.tables.specs.declared.refusal.StageFault.TheVariants as fault
use Rattle.pesp.specs.declared.search.FoundTimes.{FoundTimes}
use Rattle.pesp.specs.Listings.{Listing}

-- times that were found, and how many entries were listed
pub record TimesFound : Type 0 where
  pub times : List ℕ
  pub entries : ℕ

-- the times of a listing that is within the budget, where it finds some
abbrev pub whole_result : ℕ → Option (List ℕ) → Result TimesFound Refusal
whole_result entries None = Err refusal.NoSolution
whole_result entries (Some times) = Ok (record { times = times; entries = entries })

-- the times of a listing within a budget of entries, or why there are none
unfoldable pub result_within : ℕ → Listing → Result TimesFound Refusal
result_within budget listed =
    if nat_lt budget listed.entries then Err (refusal.Spent budget)
    else whole_result listed.entries listed.found

-- what the call gives: what is found, or why nothing is, exactly as a result says; want of memory
-- is free
abbrev pub SearchGives : Result TimesFound Refusal → Result FoundTimes StageFault → Type 0
SearchGives function (Ok found) =
    function ≡ Ok (record { times = found.times.items; entries = found.entries })
SearchGives function (Err (fault.Refused why)) = function ≡ Err why
SearchGives function (Err fault.NoMemory) = ⊤

-- Times that rows give, one row more.
use Rattle.plan_num.proofs.Common.{◌≡◌, ℕ, ℤ, ◌<◌, List, [], ◌∷◌, ◌++◌, length, get_or}
use Rattle.plan_num.proofs.Common.{refl, ap, sym, subst, ◌∙◌, append_assoc, append-nil}
use Rattle.plan_num.proofs.Common.{⊎_elim, length-set, get_or-set_other, replicate, All}
use Rattle.plan_num.proofs.Common.{get_or-replicate, All-from_get_or, cases_eq, get_or-set_at}
use Rattle.plan_num.proofs.Common.{length-replicate}
use Rattle.text_fields.specs.Rows.{Row, rows}
use Rattle.pesp_texts.specs.Texts.{AreTimed, GivesTime, IsTold, SaysTimes}
use Rattle.pesp_texts.proofs.Reading.{stays, stands_last}

-- a time that was told is told when more rows are read
still_told : (names : List ℤ) (rows more : List Row) (event time : ℕ) → IsTold names rows event time
    → IsTold names (rows ++ more) event time
still_told names rows more event time told =
    record {
      place = told.place;
      row = told.row;
      there = stays rows more told.place told.row told.there;
      is = told.is;
    }

pub timed_more : (names : List ℤ) (period none : ℕ) (all left : List Row) (row : Row)
    (old new : List ℕ) → AreTimed names period none all (row ∷ left) old
    → GivesTime names period row old new → AreTimed names period none all left new
timed_more names period none all left row old new timed gives =
    record {
      done = timed.done ++ row ∷ [];
      whole = append_assoc timed.done (row ∷ []) left ∙ timed.whole;
      told = λ event some has.
          ⊎_elim
          (λ own.
          let value : get_or new event 0 ≡ gives.time =
          ap (λ times. get_or times event 0) gives.new_is
          ∙ get_or-set_at old gives.event event gives.time 0 own (subst (λ n. n < length old) own
          (size event some)) in (
            subst (IsTold names (timed.done ++ row ∷ []) event) (sym value)
                (subst (λ event. IsTold names (timed.done ++ row ∷ []) event gives.time) (sym own)
                record {
                  place = length timed.done;
                  row = row;
                  there = stands_last timed.done row;
                  is = gives.is;
                }),
            subst (λ time. time < period) (sym value) gives.small,
          ))
          (λ other.
          let value : get_or new event 0 ≡ get_or old event 0 =
          ap (λ times. get_or times event 0) gives.new_is
          ∙ get_or-set_other old gives.event event gives.time 0 other in
          let before = timed.told event (size event some) (λ none_is. has (value ∙ none_is)) in (
            subst (IsTold names (timed.done ++ row ∷ []) event) (sym value)
                (still_told names timed.done (row ∷ []) event (get_or old event 0) before.0),
            subst (λ time. time < period) (sym value) before.1,
          ))
          (cases_eq event gives.event);
    }
  where
    size : (event : ℕ) → event < length new → event < length old
    size event some =
        subst (λ n. event < n) (ap length gives.new_is ∙ length-set old gives.event gives.time) some

-- before the first row no time stands
pub timed_none : (names : List ℤ) (period none count : ℕ) (all : List Row)
    → AreTimed names period none all all (replicate count none)
timed_none names period none count all =
    record {
      done = [];
      whole = refl;
      told = λ event some has. absurd (has (get_or-replicate count event none 0
          (subst (λ n. event < n) (length-replicate count none) some)));
    }

-- where each event has a time the text says them
pub timed_all : (names : List ℤ) (period none : ℕ) (text times : List ℕ)
    → AreTimed names period none (rows text) [] times → length times ≡ length names
    → All (λ time. ¬ (time ≡ none)) times → SaysTimes text period names times
timed_all names period none text times timed each has =
    let done : timed.done ≡ rows text = sym (append-nil timed.done) ∙ timed.whole in
    record {
      each = each;
      within = All-from_get_or (λ time. time < period) times 0
          (λ event some. (timed.told event some (has event 0 some)).1);
      told = λ event some.
          subst (λ rows. IsTold names rows event (get_or times event 0)) done
          (timed.told event some (has event 0 some)).0;
    }

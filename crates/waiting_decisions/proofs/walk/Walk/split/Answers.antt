use Rattle.plan_num.proofs.Common.{◌≡◌, ◌∷◌, true, false, sym, subst}
use Rattle.waiting_decisions.specs.Paths.{region_in}
use Rattle.waiting_decisions.specs.Regions.{is_free_at}
use Rattle.waiting_decisions.specs.Walks.{Walking}
use Rattle.waiting_decisions.proofs.Walked.{no_split, over_split}
use Rattle.waiting_decisions.proofs.walk.Walk.split.Goals as goal

pub returns-then-not-is_free : goal.returns-then-not-is_free
returns-then-not-is_free c penalty cost =
    no_split penalty cost c.args.self.now c.requires c.args.change
    (subst (λ (walk : Walking). is_free_at (region_in walk.path) c.args.change ≡ false) c.self.view_is
    (sym c.if-not-is_free.ensures))

pub returns : goal.returns
returns c penalty cost =
    over_split penalty cost c.args.self.now c.requires c.args.change
    (subst (λ (walk : Walking). is_free_at (region_in walk.path) c.args.change ≡ true) c.self.view_is
    (sym c.if-not-is_free.ensures))
    (record { path = c.keep.new.self; is_waiting = c.self.inside.is_waiting; is_low = c.self.inside.is_low })
    (subst (λ (walk : Walking). record {
      path = c.keep.new.self;
      is_waiting = c.self.inside.is_waiting;
      is_low = c.self.inside.is_low;
    }
    ≡ record walk {
      path = record walk.path {
        decided = record {
          change = c.args.change;
          kept = true;
        } ∷ walk.path.decided;
      };
    }) c.self.view_is
    (λ i. record {
      path = c.in_ok-keep.ensures i;
      is_waiting = c.self.inside.is_waiting;
      is_low = c.self.inside.is_low;
    }))

use Rattle.plan_num.proofs.Common.{◌+◌, ◌/◌, ◌≡◌, ◌⊎◌, ◌∙◌, [], ◌&&◌, All, ap, arith, false, get_or}
use Rattle.plan_num.proofs.Common.{length, subst, sym, true, replicate, reverse, length-replicate}
use Rattle.plan_num.proofs.Common.{All-nil}
use Rattle.std.proofs.lemmas.Int.{to_z-of_z}
use mir.Syntax.{w128}
use Rattle.propagation.specs.declared.links.Link.{Link}
use Rattle.propagation.proofs.Common.{forward_rank, delay_at}
use Rattle.delay_trials.specs.declared.ends.ChangeEnd.{ChangeEnd}
use Rattle.delay_trials.specs.ChangeEnds.{AreFirst, HasEnds}
use Rattle.delay_trials.specs.OnTrial.{AreTested}
use Rattle.delay_trials.specs.OpenChanges.{AreAllTested, OpenParts}
use Rattle.delay_trials.proofs.OnTrialFacts.{IsSound, day_is}
use Rattle.delay_trials.proofs.Turning.{limits_at_first}
use Rattle.delay_trials.proofs.on_trial.TimesOnTrial.new.Goals as goal

pub invariant_of-result-2 : goal.invariant_of-result-2
invariant_of-result-2 c =
    let count = c.change_count-count.ensures.count in
    let open_yet = c.in_ok-undecided.ensures.items_if_clones_equal (λ y is. is) in
    record {
      linked = c.links-links.ensures;
      all_ends = subst (λ changes. HasEnds changes c.in_ok-ends.ends.items) c.changes.ensures.value
          c.in_ok-ends.ensures.ends;
      in_order = c.in_ok-ends.ensures.in_order;
      each = c.in_ok-times.ensures.least.feasible.each;
      small = λ k d inside. let small = c.in_ok-times.ensures.small k d inside in omega (arith, small);
      late = to_z-of_z w128 c.delay_at.result (record { sfits = c.delay_at.type_inv }) ∙ c.delay_at.ensures
          ∙ (λ i. delay_at (c.events-events.ensures.value i) (c.deref-6.ensures.value i));
      flags = ap length open_yet ∙ length-replicate c.change_count-count.result true ∙ count;
      marks = ap length c.broken.view_is ∙ c.test_all.ensures.size ∙ ap length c.in_ok-broken.ensures
          ∙ length-replicate c.change_count-count.result false ∙ count;
      tested = subst (AreTested c.args.problem.now.changes c.in_ok-times.times.items c.in_ok-undecided.undecided.items)
          (sym c.broken.view_is)
          (subst (λ (day : OpenParts). AreAllTested day c.test_all.new.broken)
          (day_is c.new.ensures c.changes-2.ensures.value c.deref.ensures.value c.deref-2.ensures.value
          c.deref-3.ensures.value)
          c.test_all.ensures.tested);
      noted = subst (λ trail. All (IsSound (length c.args.problem.now.events)) (reverse trail))
          (sym c.new-2.ensures.items)
          (All-nil (IsSound (length c.args.problem.now.events)));
      waits = ap length c.in_ok-none.ensures ∙ length-replicate (length c.links-links.result.now) false;
      links_at = subst (λ events. AreFirst (λ (link : Link). link.rank) c.links-links.result.now (forward_rank events)
          (length events) c.in_ok-first_links.field-0.items)
          c.events-events.ensures.value c.in_ok-first_links.ensures;
      ends_at = subst (λ n. AreFirst (λ (end : ChangeEnd). end.event) c.in_ok-ends.ends.items
          (λ event. event) n c.in_ok-first_ends.field-0.items)
          (ap length c.events-events.ensures.value)
          (subst (λ ends. AreFirst (λ (end : ChangeEnd). end.event) ends (λ event. event)
          (length c.events-events.result.now) c.in_ok-first_ends.field-0.items)
          c.deref-5.ensures.value c.in_ok-first_ends.ensures);
      limits = limits_at_first c.args.problem.now.changes c.in_ok-times.times.items c.in_ok-ends.ends.items 0
          c.in_ok-until.until.items
          (subst (λ ends. (c.in_ok-until.until.items ≡ [])
          ⊎ (c.in_ok-until.until.items ≡ replicate (length ends / 64 + 1) 0))
          c.deref-4.ensures.value c.in_ok-until.ensures);
    }

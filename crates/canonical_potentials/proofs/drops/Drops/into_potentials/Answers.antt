use Rattle.plan_num.proofs.Common.{◌-◌, map, ap, sym, ◌∙◌, subst}
use Rattle.link_plans.proofs.Common.{links_in, ArePotentials, AreValid}
use Rattle.canonical_potentials.specs.Canonical.{AreCanonical}
use Rattle.canonical_potentials.specs.Drops.{DropParts, IsSearched, ArePassed}
use Rattle.canonical_potentials.proofs.PassedRows.{passed_valid, passed_canonical}
use Rattle.canonical_potentials.proofs.Settled.{made_is, settled_small}
use Rattle.canonical_potentials.proofs.drops.Drops.into_potentials.Goals as goal

pub of_numbers-requires : goal.of_numbers-requires
of_numbers-requires c =
    let links = links_in c.args.trips.now in
    let drops : DropParts = record {
      root = c.self.inside.root;
      left = c.self.inside.left.items;
      right = c.self.inside.right.items;
    } in
    let known = subst (IsSearched links c.args.plan.now) (sym c.self.view_is) c.requires.known in
    let same = made_is drops _ _
    (c.in_ok-u.ensures ∙ ap (map (λ number. c.self.inside.root - number)) c.deref.ensures.value)
    (c.in_ok-v.ensures ∙ ap (map (λ number. number - c.self.inside.root)) c.deref-2.ensures.value) in
    subst ArePotentials (sym same)
    (settled_small links c.args.plan.now drops known c.requires.known.sound)

pub returns-clause-least : goal.returns-clause-least
returns-clause-least c =
    let links = links_in c.args.trips.now in
    let drops : DropParts = record {
      root = c.self.inside.root;
      left = c.self.inside.left.items;
      right = c.self.inside.right.items;
    } in
    let known = subst (IsSearched links c.args.plan.now) (sym c.self.view_is) c.requires.known in
    let kept = subst (ArePassed links c.args.plan.now) (sym c.self.view_is) c.requires.kept in
    let same = made_is drops _ _
    (c.in_ok-u.ensures ∙ ap (map (λ number. c.self.inside.root - number)) c.deref.ensures.value)
    (c.in_ok-v.ensures ∙ ap (map (λ number. number - c.self.inside.root)) c.deref-2.ensures.value) in
    subst (AreCanonical links c.args.plan.now) (sym (c.of_numbers.ensures ∙ same))
    (passed_canonical links c.requires.known.sound c.args.plan.now drops known kept)

pub returns-clause-valid : goal.returns-clause-valid
returns-clause-valid c =
    let links = links_in c.args.trips.now in
    let drops : DropParts = record {
      root = c.self.inside.root;
      left = c.self.inside.left.items;
      right = c.self.inside.right.items;
    } in
    let known = subst (IsSearched links c.args.plan.now) (sym c.self.view_is) c.requires.known in
    let kept = subst (ArePassed links c.args.plan.now) (sym c.self.view_is) c.requires.kept in
    let same = made_is drops _ _
    (c.in_ok-u.ensures ∙ ap (map (λ number. c.self.inside.root - number)) c.deref.ensures.value)
    (c.in_ok-v.ensures ∙ ap (map (λ number. number - c.self.inside.root)) c.deref-2.ensures.value) in
    subst (AreValid links c.args.plan.now) (sym (c.of_numbers.ensures ∙ same))
    (passed_valid links c.requires.known.sound c.args.plan.now drops known kept)

use Rattle.plan_num.proofs.Common.{◌≡◌, ◌∙◌, List, ap, sym, subst, length}
use Rattle.std.proofs.lemmas.Int.{to_z-of_z}
use mir.Syntax.{w64}
use mir.Val.{of_z, to_z}
use Rattle.connections.specs.declared.found.Found.{Found}
use Rattle.connections.specs.declared.way.Way.{Way}
use Rattle.connections.specs.Ends.{AreLed, IsFirstEnd, IsJourneyTo, reached_before}
use Rattle.connections.specs.Ways.{AreWays}
use Rattle.connections.proofs.FoundAnswers.{all_led, is_answer, promised}
use Rattle.connections.proofs.net.JourneyNet.earliest.Goals as goal

pub journey_to-requires-clause-led : goal.journey_to-requires-clause-led
journey_to-requires-clause-led c =
    let net = c.args.self.now in
    subst (AreLed net.connections) (sym c.deref-2.ensures.value)
    (all_led net c.in_ok-ways.ensures.net.connections _ _ c.in_ok-ways.ways.items
    c.in_ok-ways.ensures.ways)

pub returns : goal.returns
returns c =
    let net = c.args.self.now in
    let sound = c.in_ok-ways.ensures.net in
    let ways = c.in_ok-ways.ways.items in
    let from = to_z-of_z w64 c.args.from c.ranges.from in
    let to = to_z-of_z w64 c.args.to c.ranges.to in
    let start = to_z-of_z w64 c.args.start c.ranges.start in
    let end = c.first_end-end.result in
    let found : Found = record {
      journey = c.in_ok-journey_to.field-0;
      reached = c.in_ok-reached_before.field-0;
    } in
    let are : AreWays net c.args.from c.args.start ways =
    subst (λ z. AreWays net z c.args.start ways) from
    (subst (λ z. AreWays net
    (to_z w64 (of_z w64 c.args.from)) z ways) start c.in_ok-ways.ensures.ways) in
    let first : IsFirstEnd net ways c.args.to (length ways) end =
    subst (λ z. IsFirstEnd net ways z (length ways) end) to
    (subst (λ (some : List Way). IsFirstEnd net some (to_z w64 (of_z w64 c.args.to))
    (length some) end) c.deref.ensures.value
    c.first_end-end.ensures) in
    let journey : IsJourneyTo net.connections ways end found.journey =
    subst (λ (some : List Way). IsJourneyTo net.connections some end found.journey)
    c.deref-2.ensures.value c.in_ok-journey_to.ensures in
    let reached : found.reached ≡ reached_before net ways end =
    c.in_ok-reached_before.ensures ∙ ap
    (λ some. reached_before net some end) c.deref-3.ensures.value in
    let all = promised net sound c.args.from c.args.to c.args.start found
    (is_answer net sound.connections c.args.from c.args.start ways are c.args.to end first
    found.journey found.reached journey reached) in
    record { found = all.found; none_earlier = all.none_earlier; passes = all.passes }

use Rattle.plan_num.proofs.Common.{◌≡◌, ◌++◌, ◌∷◌, ◌<ℤ◌, [], ℕ, ℤ, List, length, unsigned_abs, w64}
use Rattle.plan_num.proofs.Common.{sym, subst, ap, ◌∙◌, arith, All}
use Rattle.std.proofs.lemmas.Int.{to_z-of_z}
use Rattle.line_cost_model.specs.Crossings.{AreLonger, AreTaken}
use Rattle.line_cost_model.specs.Problems.{CostedLine, ProblemParts, IsCostedLine}
use Rattle.line_cost_model.proofs.WholeProblems.{line_pushed, view_pushed}
use Rattle.line_cost_model.proofs.problem.LineProblem.push_line.Goals as goal

pub invariant_of-self-2 : goal.invariant_of-self-2
invariant_of-self-2 c =
    let edges = c.self.inside.edges.items in
    let lines = c.self.inside.lines.items in
    let line : CostedLine = record { id = c.args.id; cost = unsigned_abs c.args.cost; edges = c.args.edges.now } in
    let after = c.take_longer.new.all.items in
    let longer = c.in_ok-longer.longer.items in
    let rising = subst (λ (p : ProblemParts). All (λ other. other.id <ℤ c.args.id) p.lines)
    (sym c.self.view_is) c.requires.rising in
    let is = subst (λ (p : ProblemParts). IsCostedLine (length p.edges) line) (sym c.self.view_is) c.requires.line in
    let count : c.len.result ≡ length lines = omega (arith, c.len.ensures, c.self.inside.lines.ok.0) in
    let lists = subst (λ some. AreLonger some c.len.result longer) c.deref.ensures.value c.in_ok-longer.ensures.lines in
    let taken : AreTaken edges (length lines) longer after = c.take_longer.ensures.taken
    (length lines) (subst (λ n. AreLonger edges n longer) count lists) in
    let size : length after ≡ length edges = omega
    (arith, c.take_longer.ensures.size, c.take_longer.new.all.ok.0, c.self.inside.edges.ok.0)
    in
    let own = to_z-of_z w64 c.args.id c.ranges.id in
    let made : ℤ → ℕ → List ℕ → CostedLine = λ id cost some. record { id = id; cost = cost; edges = some } in
    let cost : c.unsigned_abs.result ≡ unsigned_abs c.args.cost = c.unsigned_abs.ensures.value
    ∙ ap unsigned_abs (to_z-of_z w64 c.args.cost c.ranges.cost) in
    let new : c.new-line.result ≡ line = c.new-line.ensures
    ∙ ap (λ id. made id c.unsigned_abs.result c.in_ok-from_slice.field-0.items) own
    ∙ ap (λ n. made c.args.id n c.in_ok-from_slice.field-0.items) cost
    ∙ ap (made c.args.id (unsigned_abs c.args.cost)) c.in_ok-from_slice.ensures.items in
    let put : c.push.new.self.items ≡ lines ++ line ∷ [] = c.in_ok-push.ensures.items
    ∙ ap (λ some. lines ++ some ∷ []) new in
    let pushed = line_pushed edges after lines c.push.new.self.items line longer c.self.invariant
    is rising c.in_ok-longer.ensures.edges taken size put in
    pushed.0

pub returns-clause-ok : goal.returns-clause-ok
returns-clause-ok c =
    let edges = c.self.inside.edges.items in
    let lines = c.self.inside.lines.items in
    let line : CostedLine = record { id = c.args.id; cost = unsigned_abs c.args.cost; edges = c.args.edges.now } in
    let after = c.take_longer.new.all.items in
    let longer = c.in_ok-longer.longer.items in
    let rising = subst (λ (p : ProblemParts). All (λ other. other.id <ℤ c.args.id) p.lines)
    (sym c.self.view_is) c.requires.rising in
    let is = subst (λ (p : ProblemParts). IsCostedLine (length p.edges) line) (sym c.self.view_is) c.requires.line in
    let count : c.len.result ≡ length lines = omega (arith, c.len.ensures, c.self.inside.lines.ok.0) in
    let lists = subst (λ some. AreLonger some c.len.result longer) c.deref.ensures.value c.in_ok-longer.ensures.lines in
    let taken : AreTaken edges (length lines) longer after = c.take_longer.ensures.taken
    (length lines) (subst (λ n. AreLonger edges n longer) count lists) in
    let size : length after ≡ length edges = omega
    (arith, c.take_longer.ensures.size, c.take_longer.new.all.ok.0, c.self.inside.edges.ok.0)
    in
    let own = to_z-of_z w64 c.args.id c.ranges.id in
    let made : ℤ → ℕ → List ℕ → CostedLine = λ id cost some. record { id = id; cost = cost; edges = some } in
    let cost : c.unsigned_abs.result ≡ unsigned_abs c.args.cost = c.unsigned_abs.ensures.value
    ∙ ap unsigned_abs (to_z-of_z w64 c.args.cost c.ranges.cost) in
    let new : c.new-line.result ≡ line = c.new-line.ensures
    ∙ ap (λ id. made id c.unsigned_abs.result c.in_ok-from_slice.field-0.items) own
    ∙ ap (λ n. made c.args.id n c.in_ok-from_slice.field-0.items) cost
    ∙ ap (made c.args.id (unsigned_abs c.args.cost)) c.in_ok-from_slice.ensures.items in
    let put : c.push.new.self.items ≡ lines ++ line ∷ [] = c.in_ok-push.ensures.items
    ∙ ap (λ some. lines ++ some ∷ []) new in
    let pushed = line_pushed edges after lines c.push.new.self.items line longer c.self.invariant
    is rising c.in_ok-longer.ensures.edges taken size put in
    view_pushed edges after lines c.push.new.self.items line c.args.self.now pushed.1 put c.self.view_is

-- Any row that is taken behind others, and the end of the rows.
use Rattle.plan_num.proofs.Common.{◌≡◌, ℕ, ℤ, Bool, arith, true, false, cond, not, ◌||◌, ◌&&◌}
use Rattle.plan_num.proofs.Common.{nat_lt, List, [], ◌∷◌, ◌++◌, refl, ap, sym, ◌∙◌, append-nil}
use Rattle.plan_num.proofs.Common.{Option, Some, None, option_map, unwrap_or, All, All-push}
use Rattle.plan_num.proofs.Common.{not-true}
use Rattle.tables.specs.declared.row_why.RowWhy.{RowWhy}
use Rattle.tables.specs.declared.row_why.RowWhy.TheVariants as why
use Rattle.line_concepts.specs.declared.node.Node.{Node}
use Rattle.branch_certificate.specs.declared.open_bound.OpenBound.{OpenBound}
use Rattle.branch_certificate.specs.declared.read_so_far.ReadSoFar.{ReadSoFar}
use Rattle.branch_certificate.specs.declared.row_says.RowSays.{RowSays}
use Rattle.branch_certificate.specs.declared.row_says.RowSays.TheVariants as says
use Rattle.branch_certificate.specs.declared.tree_row.TreeRow.{TreeRow}
use Rattle.branch_certificate.specs.ReadRows.{AreRising, SaysMultiplier, Says, IsSoundNode}
use Rattle.branch_certificate.specs.ReadRows.{StandsBehind, IsReadSoFar, is_due_in, takes, taken_by}
use Rattle.branch_certificate.specs.ReadRows.{takes_row, closed, with_row, first_why}
use Rattle.branch_certificate.specs.TreeFiles.{NamedIds, is_due, falls_back, nodes_of}
use Rattle.branch_certificate.proofs.ReadSteps.{node_more, bound_more, multiplier_more, due_told}
use Rattle.branch_certificate.proofs.ReadSteps.{ended, ended_sound}

-- ---- any row

module _ (ids : NamedIds) (before : List TreeRow) (row : TreeRow) (so_far : ReadSoFar)
    (up : AreRising ids) (read : IsReadSoFar ids before so_far) where
  abbrev refused_unless : Bool → Option RowWhy
  refused_unless taken = cond taken None (Some why.OrderGap)

  -- a row of a node is taken where none is due
  placed : first_why ids before row ≡ cond (is_due before) (Some why.OrderGap) None
      → first_why ids before row ≡ refused_unless (not (is_due_in so_far.bound))
  placed place = grind (arith, due_told)

  abbrev Next : RowSays → Type 0
  Next said = (first_why ids before row ≡ refused_unless (takes_row so_far said))
      × (takes_row so_far said ≡ true → IsReadSoFar ids (before ++ row ∷ []) (with_row so_far said))

  goes_on : (a b : Bool) → (a && not b) ≡ true → b ≡ false
  goes_on true true e = cc
  goes_on true false e = refl
  goes_on false b e = cc

  either : (a b : Bool) → cond (not a || b) (Some why.OrderGap) None ≡ refused_unless (a && not b)
  either true true = refl
  either true false = refl
  either false b = refl

  -- a multiplier is taken in a bound that takes it
  in_bound : (nodes : List Node) (bound : Option OpenBound) → All (IsSoundNode ids) nodes
      → StandsBehind ids before nodes bound → (edge : ℕ) (millionths : ℤ)
      → SaysMultiplier ids row edge millionths
      → (first_why ids before row
      ≡ refused_unless (unwrap_or (option_map (λ bound. takes bound edge) bound) false))
      × (unwrap_or (option_map (λ bound. takes bound edge) bound) false ≡ true
      → IsReadSoFar ids (before ++ row ∷ []) (record {
        nodes = nodes;
        bound = option_map (λ bound. taken_by bound edge millionths) bound;
      }))
  in_bound nodes None sound h edge millionths said = grind arith
  in_bound nodes (Some bound) sound h edge millionths said = (
    said.place before
        ∙ ap (λ b. cond (not b || falls_back before row) (Some why.OrderGap) None)
        (due_told ids before nodes (Some bound) h)
        ∙ ap (λ b. cond (not (nat_lt 0 bound.due) || b) (Some why.OrderGap) None)
        (h.last row edge said.stands)
        ∙ either (nat_lt 0 bound.due) (nat_lt edge bound.next),
    λ goes. record {
      sound = sound;
      behind = multiplier_more ids before row nodes bound edge millionths h said up
          (goes_on (nat_lt 0 bound.due) (nat_lt edge bound.next) goes);
    },
  )

  pub taken : (said : RowSays) → Says ids row said → Next said
  taken (says.Whole one) said = (
    placed (said.place before),
    λ goes.
        let none = not-true _ goes in
        record {
          sound = All-push (IsSoundNode ids) _ one
              (ended_sound ids before so_far.nodes so_far.bound read.behind read.sound) said.sound;
          behind = node_more ids before row _ one
              (ended ids before so_far.nodes so_far.bound read.behind none) said;
        },
  )
  taken (says.Bound count) said = (
    placed (said.place before),
    λ goes.
        let none = not-true _ goes in
        record {
          sound = ended_sound ids before so_far.nodes so_far.bound read.behind read.sound;
          behind = bound_more ids before row _ count
              (ended ids before so_far.nodes so_far.bound read.behind none) said;
        },
  )
  taken (says.Multiplier edge millionths) said =
      in_bound so_far.nodes so_far.bound read.sound read.behind edge millionths said

-- ---- the end

pub all_read : (ids : NamedIds) (rows : List TreeRow) (so_far : ReadSoFar)
    → IsReadSoFar ids rows so_far
    → is_due_in so_far.bound ≡ false
    → (closed so_far.nodes so_far.bound ≡ nodes_of ids rows)
    × All (IsSoundNode ids) (closed so_far.nodes so_far.bound)
unfolding nodes_of
all_read ids rows so_far read none =
    let behind = ended ids rows so_far.nodes so_far.bound read.behind none in (
      sym (ap (nodes_of ids) (sym (append-nil rows)) ∙ behind.whole [] refl
          ∙ append-nil (closed so_far.nodes so_far.bound)),
      ended_sound ids rows so_far.nodes so_far.bound read.behind read.sound,
    )

-- What the parts of a pool give together.
use Rattle.plan_num.proofs.Common.{◌≡◌, ℕ, ℤ, List, [], map, ap, subst, sym, ◌∙◌, arith}
use Rattle.tables.specs.declared.refusal.StageFault.{StageFault}
use Rattle.tables.proofs.Common.{Refuses, first_stays}
use Rattle.tables.specs.declared.refusal.StageFault.TheVariants as stage
use Rattle.walks.proofs.Common.{NetworkParts, rising}
use Rattle.ptn_network.specs.Networks.{network_faults, network_of}
use Rattle.terminal_lines.specs.declared.terminal.Terminal.{Terminal}
use Rattle.pool_maker.specs.PoolTexts.{pool_text, terminal_faults, text_of, unknown_terminals}
use Rattle.plan_num.specs.Terminals.{AreTerminals}
use Rattle.pool_maker.specs.Tellable.{AreTellable}
use Rattle.terminal_lines.specs.TerminalPaths.{lines_between, paths_of, uncontained}
use Rattle.terminal_lines.specs.Terminals.{AreStops, paths_over, terminal_of}
use Rattle.terminal_lines.proofs.PathsOver.{paths_are, stops_there}
use Rattle.pool_maker.proofs.SortedIds.{all_stops}
use Rattle.pool_maker.proofs.PoolsAreRight.{tellable}

module _ (stops edges : List ℕ) (terminals : List ℤ) where
  -- a fault of the texts is the first one
  pub text_faults : (fault : StageFault) → Refuses (network_faults stops edges) fault
      → Refuses (terminal_faults stops edges terminals) fault
  unfolding terminal_faults
  text_faults (stage.Refused first) refuses = grind (arith, first_stays)
  text_faults stage.NoMemory refuses = tt

  module _ (network : NetworkParts) (none : network_faults stops edges ≡ [])
      (is : network ≡ network_of stops edges) where
    faults_are : unknown_terminals network.stops terminals ≡ terminal_faults stops edges terminals
    unfolding terminal_faults
    faults_are = grind arith

    -- without one, a terminal that is no stop is
    pub unknown_faults : (fault : StageFault)
        → Refuses (unknown_terminals network.stops terminals) fault
        → Refuses (terminal_faults stops edges terminals) fault
    unknown_faults fault refuses = subst (λ faults. Refuses faults fault) faults_are refuses

    module _ (all : List Terminal) (known : unknown_terminals network.stops terminals ≡ [])
        (are : all ≡ map (terminal_of network.stops) (rising terminals)) where
      pub stops_of_terminals : AreStops network all
      stops_of_terminals = grind (arith, stops_there, all_stops)

      pub no_faults : terminal_faults stops edges terminals ≡ []
      no_faults = sym faults_are ∙ known

      module _ (paths lines : List (List ℕ)) (found : paths ≡ paths_over network all)
          (kept : lines ≡ uncontained paths) where
        lines_are : lines ≡ uncontained (paths_of network terminals)
        lines_are = kept ∙ ap uncontained (found ∙ ap (paths_over network) are
            ∙ paths_are network terminals)

        pub tellable_lines : AreTerminals terminals → AreTellable network lines
        tellable_lines some =
            subst (AreTellable network) (sym lines_are)
            (subst (λ (at : NetworkParts). AreTellable at (uncontained (paths_of at terminals)))
            (sym is)
            (tellable stops edges terminals no_faults some))

        -- the text of the lines is the pool
        pub pool_of_text : (text : List ℕ) → text ≡ text_of network lines
            → text ≡ pool_text (network_of stops edges) terminals
        unfolding pool_text lines_between
        pool_of_text text told = grind (arith, lines_are)

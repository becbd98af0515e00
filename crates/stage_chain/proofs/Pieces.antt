-- Pieces that are put behind one another.
use Rattle.plan_num.proofs.Common.{◌≡◌, List, ◌++◌, ap, ◌∙◌, append_assoc}

pub two_pieces : {X : Type 0} (old a b first second : List X) → first ≡ old ++ a
    → second ≡ first ++ b → second ≡ old ++ (a ++ b)
two_pieces old a b first second h k = k ∙ ap (λ front. front ++ b) h ∙ append_assoc old a b

pub three_pieces : {X : Type 0} (old a b c first second third : List X) → first ≡ old ++ a
    → second ≡ first ++ b → third ≡ second ++ c → third ≡ old ++ (a ++ (b ++ c))
three_pieces old a b c first second third h k l =
    two_pieces old a (b ++ c) first third h (two_pieces first b c second third k l)

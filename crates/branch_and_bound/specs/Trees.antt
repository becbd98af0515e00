-- Trees of nodes: each is a leaf, or a split with a tree on either side.
use Rattle.std.specs.Prelude.{List, [], ◌∷◌, ◌++◌}

-- a leaf, or a split with the trees over its two parts
pub data NodeTree (N : Type 0) : Type 0 where
  leaf : N → NodeTree N
  fork : N → NodeTree N → NodeTree N → NodeTree N

-- the nodes of a tree in preorder
unfoldable pub preorder : {N : Type 0} → NodeTree N → List N
preorder (leaf node) = node ∷ []
preorder (fork node lower upper) = node ∷ preorder lower ++ preorder upper

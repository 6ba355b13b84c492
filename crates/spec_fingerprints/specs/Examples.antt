-- A worked example: ciphertexts under different keys are told apart, below the root of the message.
use Rattle.std.specs.Prelude.{ℕ, [], ◌∷◌}
use Rattle.spec_trees.specs.Tree.{Leaf, node}
use Rattle.spec_terms.specs.Term.{Ctor, Free, Term}
use Rattle.spec_clauses.specs.Fact.{Fact, Mess}

-- mess(c, enc(v0, k)), with the key of that number
abbrev pub encrypted : ℕ → Fact Term
encrypted key = Mess 0 (node (Free 0) []) (node (Ctor 1) (Leaf 0 ∷ node (Free key) [] ∷ []))

-- and with a variable for a key
abbrev pub encrypted_somehow : Fact Term
encrypted_somehow = Mess 0 (node (Free 0) []) (node (Ctor 1) (Leaf 0 ∷ Leaf 1 ∷ []))

-- Worked examples: clauses with a constraint, and a certificate of one.
use Rattle.std.specs.Prelude.{ℕ, [], ◌∷◌}
use Rattle.spec_trees.specs.Tree.{Leaf, node}
use Rattle.spec_terms.specs.Term.{Ctor, Term}
use Rattle.spec_clauses.specs.Diff.{Bound, Side, Diff, own}
use Rattle.spec_clauses.specs.Fact.{Att, Mess, Clause}
use Rattle.spec_certificates.specs.Certificate.{Certificate}
use Rattle.spec_certificate_text.specs.Examples.{v0, c, k}

-- a variable that the constraint binds
abbrev pub any : ℕ → Side
any i = Leaf (Bound i)

abbrev pub encrypted : Side → Side → Side
encrypted message under = node (Ctor 1) (message ∷ under ∷ [])

-- v0 isn't c
abbrev pub unequal : Diff
unequal = record { left = own v0 ∷ []; right = own c ∷ [] }

-- dec(v0,k) has no value, where dec(enc(x,y),y) is x: no terms ?0, ?1 and ?2 make v0 be enc(?0,?1), k be ?1, and ?0 be ?2
abbrev pub undecryptable : Diff
undecryptable = record { left = own v0 ∷ own k ∷ any 0 ∷ []; right = encrypted (any 0) (any 1) ∷ any 1 ∷ any 2 ∷ [] }

-- what is received and isn't c becomes known; and what is received and can't be decrypted is sent again

abbrev pub passed : Clause Term
passed = record { hypotheses = []; diffs = unequal ∷ []; conclusion = Att 0 v0 }

abbrev pub sent_again : Clause Term
sent_again = record { hypotheses = Att 0 v0 ∷ []; diffs = unequal ∷ undecryptable ∷ []; conclusion = Mess 0 c v0 }

abbrev pub constrained : Certificate
constrained = record { clauses = passed ∷ sent_again ∷ []; rows = []; goals = [] }

-- A worked example of why a clause that concludes `att` of a variable may rest only where it is solved: four clauses, of which the second
-- rests unsolved. All that their pairs give is covered, and yet the clauses that rest don't suffice: of an entry (c,d) the second knows c.
use Rattle.std.specs.Prelude.{List, [], ◌∷◌}
use Rattle.spec_trees.specs.Tree.{Leaf, node}
use Rattle.spec_terms.specs.Term.{Term, Free, Tuple}
use Rattle.spec_clauses.specs.Fact.{Fact, Att, Tab, Bad, Clause}
use Rattle.spec_derivations.specs.Choice.{Placed, clauses_in}

abbrev pub known : Term
known = node (Free 0) []

abbrev pub unknown : Term
unknown = node (Free 1) []

abbrev plain : List (Fact Term) → Fact Term → Clause Term
plain hypotheses conclusion = record { hypotheses = hypotheses; diffs = []; conclusion = conclusion }

-- `=> tab((c,d))`
abbrev pub enters : Placed
enters = record { clause = plain [] (Tab 0 (node (Tuple 2) (known ∷ unknown ∷ []) ∷ [])); number = 0 }

-- `tab(v0) => att(v0)`
abbrev pub reads : Placed
reads = record { clause = plain (Tab 0 (Leaf 0 ∷ []) ∷ []) (Att 0 (Leaf 0)); number = 0 }

-- `att(c) => bad()`, `tab(c) => bad()`
abbrev pub tells : Placed
tells = record { clause = plain (Att 0 known ∷ []) (Bad []); number = 1 }

abbrev pub entered : Placed
entered = record { clause = plain (Tab 0 (known ∷ []) ∷ []) (Bad []); number = 1 }

abbrev pub four_placed : List Placed
four_placed = enters ∷ reads ∷ tells ∷ entered ∷ []

abbrev pub four_clauses : List (Clause Term)
four_clauses = clauses_in four_placed

-- A worked example: five clauses that are closed over themselves, of a protocol with a public name c and a private name s
-- that never leaves it. The third resolves with the fourth alone, to a tautology.
use Rattle.std.specs.Prelude.{List, [], ◌∷◌}
use Rattle.spec_trees.specs.Tree.{Leaf, node}
use Rattle.spec_terms.specs.Term.{Term, Free, Attacker, Tuple}
use Rattle.spec_clauses.specs.Fact.{Att, Mess, Bad, Clause}

abbrev pub channel : Term
channel = node (Free 0) []

abbrev pub secret : Term
secret = node (Free 1) []

abbrev pub message : Term
message = node (Free 2) []

-- `=> att(c)`, `=> att(@[v0])`
abbrev pub knows_channel : Clause Term
knows_channel = record { hypotheses = []; diffs = []; conclusion = Att 0 channel }

abbrev pub makes_names : Clause Term
makes_names = record { hypotheses = []; diffs = []; conclusion = Att 0 (node Attacker (Leaf 0 ∷ [])) }

-- `mess(v1,v0), att(v1) => att(v0)`
abbrev pub listens : Clause Term
listens = record { hypotheses = Mess 0 (Leaf 1) (Leaf 0) ∷ Att 0 (Leaf 1) ∷ []; diffs = []; conclusion = Att 0 (Leaf 0) }

-- `att(v0), att(v1) => mess(v0,v1)`
abbrev pub sends : Clause Term
sends = record { hypotheses = Att 0 (Leaf 0) ∷ Att 0 (Leaf 1) ∷ []; diffs = []; conclusion = Mess 0 (Leaf 0) (Leaf 1) }

-- `att(s) => bad()`
abbrev pub tells_secret : Clause Term
tells_secret = record { hypotheses = Att 0 secret ∷ []; diffs = []; conclusion = Bad [] }

abbrev pub five_clauses : List (Clause Term)
five_clauses = knows_channel ∷ makes_names ∷ listens ∷ sends ∷ tells_secret ∷ []

-- `=> mess(c,(c,d))`, and what comes of it and the third: `att(c) => att(d)`
abbrev pub sends_pair : Clause Term
sends_pair = record { hypotheses = []; diffs = []; conclusion = Mess 0 channel (node (Tuple 2) (channel ∷ message ∷ [])) }

abbrev pub gives_message : Clause Term
gives_message = record { hypotheses = Att 0 channel ∷ []; diffs = []; conclusion = Att 0 message }

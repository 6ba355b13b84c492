-- Worked examples: the certificate of a name that nobody uses, and one with an event, a tuple and a restricted name.
use Rattle.std.specs.Prelude.{false, List, [], ◌∷◌, codes}
use Rattle.spec_trees.specs.Tree.{Leaf, node}
use Rattle.spec_calculus.specs.Syntax.{Nil, Secret, Protocol}
use Rattle.spec_calculus.specs.Syntax as calculus
use Rattle.spec_terms.specs.Term.{Tuple, Free, Attacker, Term}
use Rattle.spec_clauses.specs.Fact.{Att, Mess, Mev, Bad, Clause}
use Rattle.spec_certificates.specs.Certificate.{Certificate}
use Rattle.spec_certificate_text.specs.Examples.{channel, clause, v0, v1, c, k, enc, made}

-- free c. private free s. query attacker(s). process 0
abbrev pub silent : Protocol
silent = record {
  frees = channel ∷ record { word = codes "s"; arity = 0; public = false; is_data = false } ∷ [];
  constructors = [];
  destructors = [];
  events = [];
  tables = [];
  queries = Secret (Leaf (calculus.Free 2)) 0 ∷ [];
  main = Nil;
}

abbrev pub s : Term
s = node (Free 2) []

-- the clauses of its translation, which are closed as they stand
abbrev pub silent_clauses : List (Clause Term)
silent_clauses = clause [] (Att 0 c)
    ∷ clause [] (Att 0 (node Attacker (v0 ∷ [])))
    ∷ clause (Mess 0 v1 v0 ∷ Att 0 v1 ∷ []) (Att 0 v0)
    ∷ clause (Att 0 v0 ∷ Att 0 v1 ∷ []) (Mess 0 v0 v1)
    ∷ clause (Att 0 s ∷ []) (Bad []) ∷ []

abbrev pub silent_certificate : Certificate
silent_certificate = record {
  clauses = silent_clauses;
  rows = (1 ∷ []) ∷ (2 ∷ []) ∷ (3 ∷ 1 ∷ []) ∷ (4 ∷ []) ∷ (5 ∷ 1 ∷ []) ∷ [];
  goals = [];
}

-- a clause with an event, a restricted name that stands in it three times, and a tuple
abbrev pub paired : Certificate
paired = record {
  clauses = clause (Mev 1 (made 3 ∷ []) ∷ []) (Att 0 (node (Tuple 2) (made 3 ∷ enc (made 3) k ∷ []))) ∷ [];
  rows = (1 ∷ 1 ∷ []) ∷ [];
  goals = (1 ∷ 1 ∷ []) ∷ [];
}

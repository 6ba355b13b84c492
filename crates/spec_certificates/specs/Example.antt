-- Two worked examples: certificates that are accepted, one of a secret and one of a correspondence.
use Rattle.std.specs.Prelude.{ℕ, true, false, List, [], ◌∷◌, ◌++◌}
use Rattle.spec_trees.specs.Tree.{Leaf, node}
use Rattle.spec_calculus.specs.Syntax.{Variable, Constructor, Tuple, Bind, Rule, Nil, Output, Input, Replication, Query, Secret, Protocol}
use Rattle.spec_calculus.specs.Syntax as calculus
use Rattle.spec_calculus.specs.Runs.{Step, Build, Part, Copy, Hear, Say}
use Rattle.spec_terms.specs.Term.{Ctor, Free, Attacker, Term}
use Rattle.spec_clauses.specs.Fact.{Att, Mess, Bad, Clause}
use Rattle.spec_certificates.specs.Announcing.{clause, nine_clauses}
use Rattle.spec_certificates.specs.Certificate.{Certificate}

-- `dec(enc(x,y),y) -> x`
abbrev pub enc : calculus.Term → calculus.Term → calculus.Term
enc t u = node (Constructor 1) (t ∷ u ∷ [])

abbrev pub decryption : Rule
decryption = record { left = enc (Leaf (Variable 1)) (Leaf (Variable 2)) ∷ Leaf (Variable 2) ∷ []; right = Leaf (Variable 1) }

-- free c. private free k. fun enc/2. reduc dec(enc(x,y),y) -> x. query attacker(k).
-- process !in(c,(x,y)); out(c,(x,enc(y,k)))
abbrev pub kept_key : Query
kept_key = Secret (Leaf (calculus.Free 2)) 0

abbrev pub encrypting : Protocol
encrypting = record {
  frees = record { word = 99 ∷ []; arity = 0; public = true; is_data = false } ∷ record { word = 107 ∷ []; arity = 0; public = false; is_data = false } ∷ [];
  constructors = record { word = 101 ∷ 110 ∷ 99 ∷ []; arity = 2; public = true; is_data = false } ∷ [];
  destructors = record { word = 100 ∷ 101 ∷ 99 ∷ []; rules = decryption ∷ [] } ∷ [];
  events = [];
  tables = [];
  queries = kept_key ∷ [];
  main = Replication (Input (Leaf (calculus.Free 1)) (node Tuple (Leaf (Bind 1) ∷ Leaf (Bind 2) ∷ []))
      (Output (Leaf (calculus.Free 1)) (node Tuple (Leaf (Variable 1) ∷ enc (Leaf (Variable 2)) (Leaf (calculus.Free 2)) ∷ [])) Nil));
}

-- A run: the attacker sends the pair of c and c to a copy, and takes enc(c,k) out of the answer. So that isn't kept.
abbrev pub one_answer : List Step
one_answer = Copy 1 ∷ Build 0 (1 ∷ 1 ∷ []) ∷ Say 2 2 ∷ Hear 2 ∷ Part 3 2 ∷ []

abbrev pub told : Query
told = Secret (enc (Leaf (calculus.Free 1)) (Leaf (calculus.Free 2))) 0

-- the clauses of the translation, which are closed as they stand: what two of them give is a tautology
abbrev pub encrypted : Term → Term → Term
encrypted t u = node (Ctor 1) (t ∷ u ∷ [])

abbrev pub key : Term
key = node (Free 2) []

abbrev pub eight : List (Clause Term)
eight = clause [] (Att 0 (node (Free 1) []))
    ∷ clause [] (Att 0 (node Attacker (Leaf 0 ∷ [])))
    ∷ clause (Att 0 (Leaf 0) ∷ Att 0 (Leaf 1) ∷ []) (Att 0 (encrypted (Leaf 0) (Leaf 1)))
    ∷ clause (Att 0 (encrypted (Leaf 0) (Leaf 1)) ∷ Att 0 (Leaf 1) ∷ []) (Att 0 (Leaf 0))
    ∷ clause (Mess 0 (Leaf 1) (Leaf 0) ∷ Att 0 (Leaf 1) ∷ []) (Att 0 (Leaf 0))
    ∷ clause (Att 0 (Leaf 0) ∷ Att 0 (Leaf 1) ∷ []) (Mess 0 (Leaf 0) (Leaf 1))
    ∷ clause (Att 0 (Leaf 0) ∷ []) (Att 0 (encrypted (Leaf 0) key))
    ∷ clause (Att 0 key ∷ []) (Bad []) ∷ []

-- each clause covers itself
abbrev pub eight_rows : Certificate
eight_rows = record {
  clauses = eight;
  rows = (1 ∷ []) ∷ (2 ∷ []) ∷ (3 ∷ []) ∷ (4 ∷ 1 ∷ []) ∷ (5 ∷ 1 ∷ []) ∷ (6 ∷ []) ∷ (7 ∷ []) ∷ (8 ∷ 1 ∷ []) ∷ [];
  goals = [];
}

-- The certificate of the names that are announced: a row for each of eight clauses, and these further rows and goal rows.
abbrev pub announced_by : List (List ℕ) → List (List ℕ) → Certificate
announced_by more goals = record {
  clauses = nine_clauses;
  rows = ((1 ∷ []) ∷ (2 ∷ []) ∷ (3 ∷ 1 ∷ []) ∷ (4 ∷ []) ∷ (5 ∷ []) ∷ (6 ∷ 1 ∷ []) ∷ (7 ∷ 1 ∷ []) ∷ (8 ∷ 1 ∷ []) ∷ []) ++ more;
  goals = goals;
}

-- The seventh clause and the eighth give the ninth, which concludes `bad`: its one hypothesis is the event that is asked for.
abbrev pub nine_rows : Certificate
nine_rows = announced_by ((9 ∷ 1 ∷ []) ∷ []) ((1 ∷ 1 ∷ []) ∷ [])

-- It without the row of the resolvent, and without the goal row.
abbrev pub without_row : Certificate
without_row = announced_by [] ((1 ∷ 1 ∷ []) ∷ [])

abbrev pub without_goal : Certificate
without_goal = announced_by ((9 ∷ 1 ∷ []) ∷ []) []

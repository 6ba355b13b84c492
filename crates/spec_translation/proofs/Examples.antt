-- Translations worked out by hand.
use Rattle.std.proofs.Common.{ℕ, List, [], ◌∷◌, true, false, refl}
use Rattle.spec_trees.specs.Tree.{Leaf, Node, none, more, node}
use Rattle.spec_calculus.specs.Syntax.{Made, Constructor, Replication, New, Output, Nil, SecretNew, Protocol}
use Rattle.spec_calculus.specs.Syntax as calculus
use Rattle.spec_terms.specs.Term.{Ctor, Free, Point, Attacker, Term}
use Rattle.spec_clauses.specs.Fact.{Fact, Att, Mess, Bad, Clause}
use Rattle.spec_translation.specs.Course.{Done}
use Rattle.spec_translation.specs.Translation.{IsTranslation, Clauses}

-- free c. private free k. fun enc/2. query attacker(new n). process !new n; out(c,enc(n,k))
abbrev encrypted_names : Protocol
encrypted_names = record {
  frees = record { word = 99 ∷ []; arity = 0; public = true; is_data = false } ∷ record { word = 107 ∷ []; arity = 0; public = false; is_data = false } ∷ [];
  constructors = record { word = 101 ∷ 110 ∷ 99 ∷ []; arity = 2; public = true; is_data = false } ∷ [];
  destructors = [];
  events = [];
  tables = [];
  queries = SecretNew 2 0 ∷ [];
  main = Replication (New (110 ∷ []) (Output (Leaf (calculus.Free 1)) (Node (Constructor 1) (more (Leaf (Made 2)) (more (Leaf (calculus.Free 2)) none))) Nil));
}

abbrev fact_of : List (Fact Term) → Fact Term → Clause Term
fact_of hs c = record { hypotheses = hs; diffs = []; conclusion = c }

abbrev x0 : Term
x0 = Leaf 0

abbrev x1 : Term
x1 = Leaf 1

abbrev enc : Term → Term → Term
enc t u = node (Ctor 1) (t ∷ u ∷ [])

abbrev name : Term → Term
name t = node (Point 2) (t ∷ [])

abbrev free : ℕ → Term
free n = Node (Free n) none

-- its seven clauses
abbrev its_clauses : List (Clause Term)
its_clauses =
    fact_of [] (Att 0 (free 1))
    ∷ fact_of [] (Att 0 (node Attacker (x0 ∷ [])))
    ∷ fact_of (Att 0 x0 ∷ Att 0 x1 ∷ []) (Att 0 (enc x0 x1))
    ∷ fact_of (Mess 0 x1 x0 ∷ Att 0 x1 ∷ []) (Att 0 x0)
    ∷ fact_of (Att 0 x0 ∷ Att 0 x1 ∷ []) (Mess 0 x0 x1)
    ∷ fact_of [] (Att 0 (enc (name x0) (free 2)))
    ∷ fact_of (Att 0 (name x0) ∷ []) (Bad [])
    ∷ []

pub names_are_translated : IsTranslation encrypted_names (SecretNew 2 0) (Clauses its_clauses)
names_are_translated = (
  Done (fact_of [] (Att 0 (enc (name x0) (free 2))) ∷ []) 65532,
  (0, tt, (Done [] 65532, refl, refl)),
  refl,
)

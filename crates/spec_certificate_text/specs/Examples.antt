-- Worked examples: a protocol that sends a new name encrypted, one whose receiver decrypts what it gets, and one with a table that
-- waits for a phase.
use Rattle.std.specs.Prelude.{ℕ, true, false, List, [], ◌∷◌, codes}
use Rattle.spec_trees.specs.Tree.{Leaf, node}
use Rattle.spec_calculus.specs.Syntax.{Declared, Made, Variable, Constructor, Bind, Calls, EventTerm, Rule, Nil, Output, Input, Parallel, Replication, New, Let, Event, Phase, Insert, Secret, SecretNew, Correspondence, Protocol}
use Rattle.spec_calculus.specs.Syntax as calculus
use Rattle.spec_terms.specs.Term.{Ctor, Free, Point, Term}
use Rattle.spec_clauses.specs.Fact.{Fact, Att, Clause}
use Rattle.spec_certificates.specs.Certificate.{Certificate}

abbrev pub channel : Declared
channel = record { word = codes "c"; arity = 0; public = true; is_data = false }

abbrev pub key : Declared
key = record { word = codes "k"; arity = 0; public = false; is_data = false }

abbrev pub encryption : Declared
encryption = record { word = codes "enc"; arity = 2; public = true; is_data = false }

abbrev pub event_called : List ℕ → Declared
event_called word = record { word = word; arity = 1; public = true; is_data = false }

abbrev pub encrypted : calculus.Term → calculus.Term
encrypted message = node (Constructor 1) (message ∷ Leaf (calculus.Free 2) ∷ [])

-- free c. private free k. fun enc/2. query attacker(new n). process !new n; out(c,enc(n,k))
abbrev pub sending : Protocol
sending = record {
  frees = channel ∷ key ∷ [];
  constructors = encryption ∷ [];
  destructors = [];
  events = [];
  tables = [];
  queries = SecretNew 2 0 ∷ [];
  main = Replication (New (codes "n") (Output (Leaf (calculus.Free 1)) (encrypted (Leaf (Made 2))) Nil));
}

abbrev pub event : ℕ → calculus.Term → EventTerm
event number argument = record { event = number; arguments = argument ∷ [] }

abbrev pub x : calculus.Term
x = Leaf (Variable 1)

abbrev pub y : calculus.Term
y = Leaf (Variable 2)

-- reduc dec(enc(x,y),y) -> x
abbrev pub decryption : Rule
decryption = record { left = node (Constructor 1) (x ∷ y ∷ []) ∷ y ∷ []; right = x }

-- free c. private free k. fun enc/2. reduc dec(enc(x,y),y) -> x. event begin/1. event end/1.
-- query event end(x) ==> event begin(x).
-- process !new n; event begin(n); out(c,enc(n,k)) | !in(c,x); let y = dec(x,k) in event end(y)
abbrev pub answering : Protocol
answering = record {
  frees = channel ∷ key ∷ [];
  constructors = encryption ∷ [];
  destructors = record { word = codes "dec"; rules = decryption ∷ [] } ∷ [];
  events = event_called (codes "begin") ∷ event_called (codes "end") ∷ [];
  tables = [];
  queries = Correspondence (event 2 x) ((event 1 x ∷ []) ∷ []) ∷ [];
  main = Parallel
      (Replication (New (codes "n") (Event (event 1 (Leaf (Made 3))) (Output (Leaf (calculus.Free 1)) (encrypted (Leaf (Made 3))) Nil))))
      (Replication (Input (Leaf (calculus.Free 1)) (Leaf (Bind 1)) (Let (Leaf (Bind 2)) (node (Calls 1) (Leaf x ∷ Leaf (Leaf (calculus.Free 2)) ∷ [])) (Event (event 2 y) Nil) Nil)));
}

-- free c. private free k. table keys/1. query attacker(k). process insert keys(k); phase 1; out(c,k)
abbrev pub waiting : Protocol
waiting = record {
  frees = channel ∷ key ∷ [];
  constructors = [];
  destructors = [];
  events = [];
  tables = event_called (codes "keys") ∷ [];
  queries = Secret (Leaf (calculus.Free 2)) 1 ∷ [];
  main = Insert 1 (Leaf (calculus.Free 2) ∷ []) (Phase 1 (Output (Leaf (calculus.Free 1)) (Leaf (calculus.Free 2)) Nil));
}

abbrev pub clause : List (Fact Term) → Fact Term → Clause Term
clause hypotheses conclusion = record { hypotheses = hypotheses; diffs = []; conclusion = conclusion }

-- the terms of their clauses
abbrev pub v0 : Term
v0 = Leaf 0

abbrev pub v1 : Term
v1 = Leaf 1

abbrev pub c : Term
c = node (Free 1) []

abbrev pub k : Term
k = node (Free 2) []

abbrev pub enc : Term → Term → Term
enc t u = node (Ctor 1) (t ∷ u ∷ [])

abbrev pub made : ℕ → Term
made point = node (Point point) (v0 ∷ [])

-- a certificate of one clause and one row of each kind
abbrev pub small : Certificate
small = record { clauses = clause [] (Att 0 c) ∷ []; rows = (1 ∷ []) ∷ (3 ∷ 1 ∷ []) ∷ []; goals = (1 ∷ 1 ∷ []) ∷ [] }

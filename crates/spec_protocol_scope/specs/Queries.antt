-- Queries, in order.
use Rattle.std.specs.Prelude.{ℕ, ◌+◌, ◌-◌, nat_le, if◌then◌else◌, List, [], ◌∷◌, length, Ok}
use Rattle.std.specs.Str.{bytes_eq}
use Rattle.spec_trees.specs.Tree.{sizes, trees}
use Rattle.spec_calculus.specs.Bounds.{most_alternatives, most_events, most_queries, most_written_symbols}
use Rattle.spec_calculus.specs.Syntax as calculus
use Rattle.spec_calculus.specs.Points.{nodes}
use Rattle.spec_protocol_grammar.specs.Sketch.{AtomSketch, AlternativeSketch, QuerySketch, AttackerNew, Attacker, Correspondence, DeclarationSketch, Free, Fun, Data, Reduc, Event, Table, Query, Definition}
use Rattle.spec_protocol_scope.specs.Answers.{Answer, Unknown, AmbiguousNew, fault, within, ◌>>=◌}
use Rattle.spec_protocol_scope.specs.Names.{Scope}
use Rattle.spec_protocol_scope.specs.Terms.{Reading, InEvent, process_term, event}
use Rattle.spec_protocol_scope.specs.Phases.{asked_phase}

-- the points among these nodes, of which the first is this one, at which a name of that word is made
abbrev pub points_of : List ℕ → ℕ → List calculus.Process → List ℕ
points_of word point [] = []
points_of word point (calculus.New made next ∷ ps) =
    if bytes_eq made word then point ∷ points_of word (point + 1) ps else points_of word (point + 1) ps
points_of word point (p ∷ ps) = points_of word (point + 1) ps

-- the point of the one restriction of a name
abbrev pub only_point : ℕ → List ℕ → Answer ℕ
only_point x [] = fault Unknown x
only_point x (point ∷ []) = Ok point
only_point x (point ∷ further ∷ points) = fault AmbiguousNew x

-- an event of a query, of no more symbols, with its own, than may be written
abbrev pub asked_event : Scope → List ℕ → AtomSketch → Reading calculus.EventTerm
asked_event s variables a = do
  read ← event s InEvent variables a
  within (nat_le (1 + sizes (trees read.0.arguments)) most_written_symbols) a.first read

-- events in a row
abbrev pub asked_events : Scope → List ℕ → List AtomSketch → Reading (List calculus.EventTerm)
asked_events s variables [] = Ok ([], variables)
asked_events s variables (a ∷ as') = do
  first ← asked_event s variables a
  others ← asked_events s first.1 as'
  Ok (first.0 ∷ others.0, others.1)

-- an alternative within the limit of events; its first token is the word `event`, right before its first event
abbrev pub alternative : Scope → List ℕ → AlternativeSketch → Reading (List calculus.EventTerm)
alternative s variables a = do
  read ← asked_events s variables (a.atom ∷ a.others)
  within (nat_le (1 + length a.others) most_events) (a.atom.first - 1) read

-- alternatives in a row
abbrev pub alternatives : Scope → List ℕ → List AlternativeSketch → Reading (List (List calculus.EventTerm))
alternatives s variables [] = Ok ([], variables)
alternatives s variables (a ∷ as') = do
  first ← alternative s variables a
  others ← alternatives s first.1 as'
  Ok (first.0 ∷ others.0, others.1)

-- what a query asks, in a declaration that begins with this token; its variables are one space
abbrev pub question : Scope → calculus.Process → ℕ → QuerySketch → Answer calculus.Query
question s main n (AttackerNew attacker x o) = do
  point ← only_point x (points_of (s.text x) 1 (nodes main))
  phase ← asked_phase s.text main o
  Ok (calculus.SecretNew point phase)
question s main n (Attacker attacker t o) = do
  message ← process_term s [] t
  phase ← asked_phase s.text main o
  Ok (calculus.Secret message phase)
question s main n (Correspondence word a as') = do
  left ← asked_event s [] a
  read ← alternatives s left.1 as'
  within (nat_le (length as') most_alternatives) n (calculus.Correspondence left.0 read.0)

-- one query more, within the limit of queries
abbrev pub one_query : Scope → calculus.Process → ℕ → QuerySketch → ℕ → Answer calculus.Query
one_query s main n q before = do
  read ← question s main n q
  within (nat_le (before + 1) most_queries) n read

-- the queries among these declarations, behind so many others
abbrev pub queries : Scope → calculus.Process → ℕ → List DeclarationSketch → Answer (List calculus.Query)
queries s main before [] = Ok []
queries s main before (Query n q ∷ ds) = do
  first ← one_query s main n q before
  others ← queries s main (before + 1) ds
  Ok (first ∷ others)
queries s main before (Free n public x xs ∷ ds) = queries s main before ds
queries s main before (Fun n public x a ∷ ds) = queries s main before ds
queries s main before (Data n x a ∷ ds) = queries s main before ds
queries s main before (Reduc n r rs ∷ ds) = queries s main before ds
queries s main before (Event n x a ∷ ds) = queries s main before ds
queries s main before (Table n x a ∷ ds) = queries s main before ds
queries s main before (Definition n x body ∷ ds) = queries s main before ds

-- Worked examples: a secret that is sent on a public channel, and a role that ends before the other has begun, with the logs of their
-- translations.
use Rattle.std.specs.Prelude.{List, [], ◌∷◌}
use Rattle.spec_trees.specs.Tree.{Leaf, node}
use Rattle.spec_calculus.specs.Syntax.{Variable, Query, Secret, Correspondence}
use Rattle.spec_calculus.specs.Syntax as calculus
pub use Rattle.spec_calculus.proofs.Examples.{gives_away, ends_too_soon, eight_steps}
use Rattle.spec_terms.specs.Term.{Ctor, Point, Term}
use Rattle.spec_clauses.specs.Fact.{Att, Ev, Bad, Clause}
use Rattle.spec_translation.proofs.ExampleWords.{clause, x, free, own_names, hears, says}
use Rattle.spec_saturation.specs.Key.{Key, key, Entry}

abbrev pub entry : Key → Clause Term → Entry
entry k c = record { key = k; clause = c }

-- is the free name s, which `out(c,s)` gives away, secret?
abbrev pub secret : Query
secret = Secret (Leaf (calculus.Free 2)) 0

-- the given clauses, the goal `att(s) => bad()`, and what comes of it
abbrev pub given_away_log : List Entry
given_away_log = entry (key 0 0 1) (clause [] (Att 0 (free 1))) ∷ entry (key 0 0 2) own_names ∷ entry (key 0 0 3) hears
    ∷ entry (key 0 0 4) says ∷ entry (key 0 0 5) (clause [] (Att 0 (free 2)))
    ∷ entry (key 5 5 6) (clause (Att 0 (free 2) ∷ []) (Bad [])) ∷ entry (key 6 5 1) (clause [] (Bad [])) ∷ []

-- has each end, of a name, a beginning before it?
abbrev pub begun_before : Query
begun_before = Correspondence (record { event = 2; arguments = Leaf (Variable 1) ∷ [] })
    ((record { event = 1; arguments = Leaf (Variable 1) ∷ [] } ∷ []) ∷ [])

abbrev pub enc : Term → Term → Term
enc t u = node (Ctor 1) (t ∷ u ∷ [])

-- the name that the first role makes in the copy of that number
abbrev pub made : Term → Term
made session = node (Point 3) (session ∷ [])

-- the given clauses, what comes of them, the goal, and what comes of it
abbrev pub ends_too_soon_log : List Entry
ends_too_soon_log = entry (key 0 0 1) (clause [] (Att 0 (free 1))) ∷ entry (key 0 0 2) own_names
    ∷ entry (key 0 0 3) (clause (Att 0 (x 0) ∷ Att 0 (x 1) ∷ []) (Att 0 (enc (x 0) (x 1))))
    ∷ entry (key 0 0 4) (clause (Att 0 (enc (x 0) (x 1)) ∷ Att 0 (x 1) ∷ []) (Att 0 (x 0)))
    ∷ entry (key 0 0 5) hears ∷ entry (key 0 0 6) says
    ∷ entry (key 0 0 7) (clause [] (Att 0 (enc (made (x 0)) (free 2))))
    ∷ entry (key 0 0 8) (clause [] (Ev 1 (made (x 0) ∷ [])))
    ∷ entry (key 0 0 9) (clause (Att 0 (enc (x 0) (free 2)) ∷ []) (Ev 2 (x 0 ∷ [])))
    ∷ entry (key 7 4 1) (clause (Att 0 (free 2) ∷ []) (Att 0 (made (x 0))))
    ∷ entry (key 9 3 1) (clause (Att 0 (x 0) ∷ Att 0 (free 2) ∷ []) (Ev 2 (x 0 ∷ [])))
    ∷ entry (key 9 7 1) (clause [] (Ev 2 (made (x 0) ∷ [])))
    ∷ entry (key 12 12 10) (clause (Ev 2 (x 0 ∷ []) ∷ []) (Bad (x 0 ∷ [])))
    ∷ entry (key 13 12 1) (clause [] (Bad (made (x 0) ∷ []))) ∷ []

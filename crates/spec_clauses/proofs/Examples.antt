-- Worked examples of flat, selection and norm: each definition computes what is written here.
use Rattle.std.proofs.Common.{◌≡◌, ℕ, Some, None, List, [], ◌∷◌, refl}
use Rattle.std.specs.Prelude.{flat_map}
use Rattle.spec_trees.specs.Tree.{Leaf, Node, node, none}
use Rattle.spec_terms.specs.Term.{Ctor, Data, Tuple, Free, Point, Attacker, Term}
use Rattle.spec_clauses.specs.Fact.{Fact, Att, Mess, Ev, Mev, Bad, Clause, fact_size, clause_size}
use Rattle.spec_clauses.specs.Flat.{flat, flat_parts}
use Rattle.spec_clauses.specs.Selection.{select}
use Rattle.spec_clauses.specs.Norm.{norm, norms}

-- the clause with these hypotheses and this conclusion, and no constraints
abbrev pub clause : List (Fact Term) → Fact Term → Clause Term
clause hs f = record { hypotheses = hs; diffs = []; conclusion = f }

-- variables, a free name, two constructors, a data constructor and pairs
abbrev v : ℕ → Term
v x = Leaf x

abbrev name : Term
name = Node (Free 0) none

abbrev f : Term → Term
f t = node (Ctor 0) (t ∷ [])

abbrev g : Term → Term
g t = node (Ctor 1) (t ∷ [])

abbrev d : List Term → Term
d ts = node (Data 0) ts

abbrev pair : Term → Term → Term
pair t u = node (Tuple 2) (t ∷ u ∷ [])

-- Equal hypotheses: `mess(v0,v1), mess(v1,v0), mess(v0,v1) => att(f(v0))`. The first is kept.
repeated : norm (clause (Mess 0 (v 0) (v 1) ∷ Mess 0 (v 1) (v 0) ∷ Mess 0 (v 0) (v 1) ∷ []) (Att 0 (f (v 0)))) ≡ Some (clause (Mess 0 (v 0) (v 1) ∷ Mess 0 (v 1) (v 0) ∷ []) (Att 0 (f (v 0))))
repeated = refl

-- A tautology: `att(v0) => att(v0)`.
tautology : norm (clause (Att 0 (v 0) ∷ []) (Att 0 (v 0))) ≡ None
tautology = refl

-- A hypothesis `att` of a variable that occurs nowhere else: `att(v2) => att(c)`.
lonely : norm (clause (Att 0 (v 2) ∷ []) (Att 0 name)) ≡ Some (clause [] (Att 0 name))
lonely = refl

-- It stays where the variable occurs elsewhere: `att(v0) => att(f(v0))`.
not_lonely : norm (clause (Att 0 (v 0) ∷ []) (Att 0 (f (v 0)))) ≡ Some (clause (Att 0 (v 0) ∷ []) (Att 0 (f (v 0))))
not_lonely = refl

-- A solved clause that concludes `att` of a variable: `mev(e(v3)) => att(v3)`.
everything : norm (clause (Mev 0 (v 3 ∷ []) ∷ []) (Att 0 (v 3))) ≡ Some (clause [] (Att 0 (v 0)))
everything = refl

-- An unsolved one is only numbered, the conclusion first: `mess(v7,v3) => att(v3)`.
numbered_first : norm (clause (Mess 0 (v 7) (v 3) ∷ []) (Att 0 (v 3))) ≡ Some (clause (Mess 0 (v 1) (v 0) ∷ []) (Att 0 (v 0)))
numbered_first = refl

-- Of two equal hypotheses `att` of a variable one is kept, which is then lonely: `att(v2), att(v2) => att(c)`.
repeated_lonely : norm (clause (Att 0 (v 2) ∷ Att 0 (v 2) ∷ []) (Att 0 name)) ≡ Some (clause [] (Att 0 name))
repeated_lonely = refl

-- What is solved once lonely hypotheses are dropped: `att(v1) => att(v3)`.
lonely_everything : norm (clause (Att 0 (v 1) ∷ []) (Att 0 (v 3))) ≡ Some (clause [] (Att 0 (v 0)))
lonely_everything = refl

-- The first of the two largest: of `att(v0), att(f(v0)), att(g(v0))` the second, at index 1.
selected : select (Att 0 (v 0) ∷ Att 0 (f (v 0)) ∷ Att 0 (g (v 0)) ∷ []) ≡ Some (record { index = 1; fact = Att 0 (f (v 0)); others = Att 0 (v 0) ∷ Att 0 (g (v 0)) ∷ [] })
selected = refl

-- `mev` and `att` of a variable are never selected.
solved : select (Att 0 (v 0) ∷ Mev 0 (f (v 0) ∷ []) ∷ []) ≡ None
solved = refl

-- The flat parts of `att((v0,v1)) => att(c)`: one clause, `att(v0), att(v1) => att(c)`.
flat_hypothesis : flat_parts (clause (Att 0 (pair (v 0) (v 1)) ∷ []) (Att 0 name)) ≡ clause (Att 0 (v 0) ∷ Att 0 (v 1) ∷ []) (Att 0 name) ∷ []
flat_hypothesis = refl

-- Below a data constructor d and tuples, however deep, only d's and the tuples' parts are left, and d without parts leaves none.
flat_nested : flat (Att 0 (pair (pair (v 0) name) (d (f (pair (v 1) name) ∷ d [] ∷ [])))) ≡ Att 0 (v 0) ∷ Att 0 name ∷ Att 0 (f (pair (v 1) name)) ∷ []
flat_nested = refl

-- The names of restrictions and of the attacker are no data, whatever they are made of.
flat_names : flat_map flat (Att 0 (node (Point 3) (pair (v 0) name ∷ [])) ∷ Att 0 (node Attacker (pair (v 0) name ∷ [])) ∷ []) ≡ Att 0 (node (Point 3) (pair (v 0) name ∷ [])) ∷ Att 0 (node Attacker (pair (v 0) name ∷ [])) ∷ []
flat_names = refl

-- And of `att(v0) => att((v0,f(v0)))`, one for each part of the conclusion, of which the first is a tautology.
flat_conclusion : flat_parts (clause (Att 0 (v 0) ∷ []) (Att 0 (pair (v 0) (f (v 0))))) ≡ clause (Att 0 (v 0) ∷ []) (Att 0 (v 0)) ∷ clause (Att 0 (v 0) ∷ []) (Att 0 (f (v 0))) ∷ []
flat_conclusion = refl

one_norm : norms (clause (Att 0 (v 0) ∷ []) (Att 0 (pair (v 0) (f (v 0))))) ≡ clause (Att 0 (v 0) ∷ []) (Att 0 (f (v 0))) ∷ []
one_norm = refl

-- Sizes: `ev(e((v0,c)))` has a predicate, an event, a pair, a variable and a name.
size_of_event : fact_size (Ev 0 (pair (v 0) name ∷ [])) ≡ 5
size_of_event = refl

-- And `att(f(v0)), mess(c,v1), mev(e()) => bad(v1)` has 3, 3, 2 and 2.
size_of_clause : clause_size (clause (Att 0 (f (v 0)) ∷ Mess 0 name (v 1) ∷ Mev 0 [] ∷ []) (Bad (v 1 ∷ []))) ≡ 10
size_of_clause = refl

-- Worked examples of facts of phases and of tables: flat, selection and norm compute what is written here.
use Rattle.std.proofs.Common.{◌≡◌, false, Some, None, [], ◌∷◌, refl}
use Rattle.spec_trees.specs.Tree.{Leaf, node}
use Rattle.spec_terms.specs.Term.{Ctor, Tuple, Free, Term}
use Rattle.spec_clauses.specs.Fact.{Att, Mess, Tab, Mev, fact_size, same_fact}
use Rattle.spec_clauses.specs.Flat.{flat}
use Rattle.spec_clauses.specs.Selection.{select}
use Rattle.spec_clauses.specs.Norm.{norm}
use Rattle.spec_clauses.proofs.Examples.{clause}

abbrev c : Term
c = node (Free 0) []

abbrev f : Term → Term
f t = node (Ctor 0) (t ∷ [])

-- The parts of `att@1((v0,c))` are known in phase 1.
flat_in_phase : flat (Att 1 (node (Tuple 2) (Leaf 0 ∷ c ∷ []))) ≡ Att 1 (Leaf 0) ∷ Att 1 c ∷ []
flat_in_phase = refl

-- Facts of different phases, and entries of different tables, are never the same.
other_phase : same_fact (Mess 0 c (Leaf 0)) (Mess 1 c (Leaf 0)) ≡ false
other_phase = refl

other_table : same_fact (Tab 0 (c ∷ [])) (Tab 1 (c ∷ [])) ≡ false
other_table = refl

-- The name of a table counts in the size, as an event's does; a phase doesn't: `tab(t(c))` and `att@1(c)`.
size_of_entry : fact_size (Tab 0 (c ∷ [])) ≡ 3
size_of_entry = refl

size_in_phase : fact_size (Att 1 c) ≡ 2
size_in_phase = refl

-- `tab` can be selected: of `att@1(v0), tab(t(v0)), mev(e(f(v0)))` the second.
entry_selected : select (Att 1 (Leaf 0) ∷ Tab 0 (Leaf 0 ∷ []) ∷ Mev 0 (f (Leaf 0) ∷ []) ∷ []) ≡ Some (record { index = 1; fact = Tab 0 (Leaf 0 ∷ []); others = Att 1 (Leaf 0) ∷ Mev 0 (f (Leaf 0) ∷ []) ∷ [] })
entry_selected = refl

-- Hypotheses `att` of a variable that occurs in such hypotheses alone are dropped, of whatever phases they are:
-- `att(v0), att@1(v0) => att(c)`. If they stayed, no firm hypothesis would fix v0, and a row wouldn't say what it stands for.
lonely_in_phases : norm (clause (Att 0 (Leaf 0) ∷ Att 1 (Leaf 0) ∷ []) (Att 0 c)) ≡ Some (clause [] (Att 0 c))
lonely_in_phases = refl

-- They stay where it occurs elsewhere: `att(v0), att@1(v0) => mess@1(c,v0)`.
known_in_phases : norm (clause (Att 0 (Leaf 0) ∷ Att 1 (Leaf 0) ∷ []) (Mess 1 c (Leaf 0))) ≡ Some (clause (Att 0 (Leaf 0) ∷ Att 1 (Leaf 0) ∷ []) (Mess 1 c (Leaf 0)))
known_in_phases = refl

-- or in an entry: `att@1(v3), tab(t(v3)) => att@1(c)`.
known_entry : norm (clause (Att 1 (Leaf 3) ∷ Tab 0 (Leaf 3 ∷ []) ∷ []) (Att 1 c)) ≡ Some (clause (Att 1 (Leaf 0) ∷ Tab 0 (Leaf 0 ∷ []) ∷ []) (Att 1 c))
known_entry = refl

-- What the attacker has passes on to the next phase: `att(v1) => att@1(v1)` is left, and so with two such hypotheses.
passed_on : norm (clause (Att 0 (Leaf 1) ∷ []) (Att 1 (Leaf 1))) ≡ Some (clause (Att 0 (Leaf 0) ∷ []) (Att 1 (Leaf 0)))
passed_on = refl

passed_on_twice : norm (clause (Att 0 (Leaf 1) ∷ Att 1 (Leaf 1) ∷ []) (Att 2 (Leaf 1))) ≡ Some (clause (Att 0 (Leaf 0) ∷ Att 1 (Leaf 0) ∷ []) (Att 2 (Leaf 0)))
passed_on_twice = refl

-- Only where the variable stands in such hypotheses alone: `att(v0), mev(e(v0)) => att@1(v0)` says that the attacker has everything in
-- phase 1. If it were left, then from (c,d) for v0 would follow the part c, and `mev(e(c))` wouldn't be there.
not_alone : norm (clause (Att 0 (Leaf 0) ∷ Mev 0 (Leaf 0 ∷ []) ∷ []) (Att 1 (Leaf 0))) ≡ Some (clause [] (Att 1 (Leaf 0)))
not_alone = refl

-- And only where it stands in some: `att(v1) => att@1(v0)`, of which the hypothesis is lonely.
not_passed : norm (clause (Att 0 (Leaf 1) ∷ []) (Att 1 (Leaf 0))) ≡ Some (clause [] (Att 1 (Leaf 0)))
not_passed = refl

-- Everything is known in the phase of the conclusion: `=> att@2(v3)`.
everything_in_phase : norm (clause [] (Att 2 (Leaf 3))) ≡ Some (clause [] (Att 2 (Leaf 0)))
everything_in_phase = refl

-- The phase of a tautology's hypothesis is that of its conclusion: `att@1(v0) => att@1(v0)`.
tautology_in_phase : norm (clause (Att 1 (Leaf 0) ∷ []) (Att 1 (Leaf 0))) ≡ None
tautology_in_phase = refl

-- An unsolved clause is only numbered: `mess@1(c,v5), att(v5) => att@1(v5)`.
numbered_in_phase : norm (clause (Mess 1 c (Leaf 5) ∷ Att 0 (Leaf 5) ∷ []) (Att 1 (Leaf 5))) ≡ Some (clause (Mess 1 c (Leaf 0) ∷ Att 0 (Leaf 0) ∷ []) (Att 1 (Leaf 0)))
numbered_in_phase = refl

-- Of equal entries the first is kept: `tab(t(v1)), tab(t(v1)), tab(u(v1)) => att(v1)`.
repeated_entry : norm (clause (Tab 0 (Leaf 1 ∷ []) ∷ Tab 0 (Leaf 1 ∷ []) ∷ Tab 1 (Leaf 1 ∷ []) ∷ []) (Att 0 (Leaf 1))) ≡ Some (clause (Tab 0 (Leaf 0 ∷ []) ∷ Tab 1 (Leaf 0 ∷ []) ∷ []) (Att 0 (Leaf 0)))
repeated_entry = refl

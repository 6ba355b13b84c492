-- Worked examples of features.
use Rattle.std.specs.Prelude.{[], ◌∷◌}
use Rattle.spec_trees.specs.Tree.{Leaf, node}
use Rattle.spec_terms.specs.Term.{Ctor, Free, Term}
use Rattle.spec_clauses.specs.Fact.{Att, Mess, Tab, Clause}

-- att(v0), att(f(v0,c)) => mess(v0,c)
abbrev pub keyed_message : Clause Term
keyed_message =
    let c : Term = node (Free 1) [] in
    record { hypotheses = Att 0 (Leaf 0) ∷ Att 0 (node (Ctor 1) (Leaf 0 ∷ c ∷ [])) ∷ []; diffs = []; conclusion = Mess 0 (Leaf 0) c }

-- att@1(v0), tab(t(v0)), mess@1(c,v0) => tab(t(f(v0,c)))
abbrev pub next_entry : Clause Term
next_entry =
    let c : Term = node (Free 1) [] in
    record { hypotheses = Att 1 (Leaf 0) ∷ Tab 0 (Leaf 0 ∷ []) ∷ Mess 1 c (Leaf 0) ∷ []; diffs = []; conclusion = Tab 0 (node (Ctor 1) (Leaf 0 ∷ c ∷ []) ∷ []) }

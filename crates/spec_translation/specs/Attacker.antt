-- The attacker's clauses: what he has at first, what he makes, what he sends and receives, and what he keeps from phase to phase
-- (Blanchet 2016, sections 3.3.1 and 4.1.5).
use Rattle.std.specs.Prelude.{ℕ, zero, suc, ◌+◌, not, ◌&&◌, cond, Option, Some, None, List, [], ◌∷◌, ◌++◌, map, flat_map, filter_map}
use Rattle.std.specs.List.{enumerate_from}
use Rattle.spec_trees.specs.Tree.{Leaf, node}
use Rattle.spec_calculus.specs.Syntax.{Rule, Declared, Protocol}
use Rattle.spec_calculus.specs.Points.{greatest_phase}
use Rattle.spec_terms.specs.Term.{Ctor, Attacker, Term}
use Rattle.spec_clauses.specs.Fact.{Att, Mess, Clause}
use Rattle.spec_translation.specs.Conversion.{free_term, rule_term}

-- as many variables, from that number on
abbrev pub variables_from : ℕ → ℕ → List Term
variables_from n zero = []
variables_from n (suc count) = Leaf n ∷ variables_from (n + 1) count

-- that the attacker has a public free name
abbrev pub name_known : ℕ × Declared → Option (Clause Term)
name_known (number, declared) = cond declared.public (Some (record { hypotheses = []; diffs = []; conclusion = Att 0 (free_term number) })) None

-- that he has names of his own
abbrev pub fresh_known : Clause Term
fresh_known = record { hypotheses = []; diffs = []; conclusion = Att 0 (node Attacker (Leaf 0 ∷ [])) }

-- that he applies a public constructor in the phase; data constructors need no clause, since they are flat
abbrev pub constructor_applied : ℕ → ℕ × Declared → Option (Clause Term)
constructor_applied phase (number, declared) = let arguments = variables_from 0 declared.arity in
    cond (declared.public && not declared.is_data) (Some (record { hypotheses = map (Att phase) arguments; diffs = []; conclusion = Att phase (node (Ctor number) arguments) })) None

-- that he applies a rule of a destructor in the phase
abbrev pub rule_applied : Protocol → ℕ → Rule → Clause Term
rule_applied P phase rule = record { hypotheses = map (λ t. Att phase (rule_term P 0 t)) rule.left; diffs = []; conclusion = Att phase (rule_term P 0 rule.right) }

-- that in the phase he hears what is sent on a channel that he has, and sends there what he has
abbrev pub message_heard : ℕ → Clause Term
message_heard phase = record { hypotheses = Mess phase (Leaf 0) (Leaf 1) ∷ Att phase (Leaf 0) ∷ []; diffs = []; conclusion = Att phase (Leaf 1) }

abbrev pub message_sent : ℕ → Clause Term
message_sent phase = record { hypotheses = Att phase (Leaf 0) ∷ Att phase (Leaf 1) ∷ []; diffs = []; conclusion = Mess phase (Leaf 0) (Leaf 1) }

-- what he can do in the phase, in order
abbrev pub done_in : Protocol → ℕ → List (Clause Term)
done_in P phase = filter_map (constructor_applied phase) (enumerate_from 1 P.constructors)
    ++ (flat_map (λ destructor. map (rule_applied P phase) destructor.rules) P.destructors
    ++ (message_heard phase ∷ message_sent phase ∷ []))

-- that he keeps in the next phase what he has in the phase
abbrev pub kept_known : ℕ → Clause Term
kept_known phase = record { hypotheses = Att phase (Leaf 0) ∷ []; diffs = []; conclusion = Att (phase + 1) (Leaf 0) }

-- what he keeps and can do in each of so many phases after the phase
abbrev pub done_after : Protocol → ℕ → ℕ → List (Clause Term)
done_after P phase zero = []
done_after P phase (suc count) = kept_known phase ∷ (done_in P (phase + 1) ++ done_after P (phase + 1) count)

-- the attacker's raw clauses, in order: what he has at first, and what he can do in phase 0 and in each later one
abbrev pub attacker_raw : Protocol → List (Clause Term)
attacker_raw P = filter_map name_known (enumerate_from 1 P.frees)
    ++ (fresh_known ∷ (done_in P 0 ++ done_after P 0 (greatest_phase P.main)))

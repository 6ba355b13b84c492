-- The constraint of a choice, written in terms as a program has them: the variables of its rules, and behind them of the pattern, have the numbers
-- from one on that is above all variables of the scope.
use Rattle.std.specs.Prelude.{ℕ, ◌+◌, List, [], ◌∷◌, ◌++◌}
use Rattle.spec_calculus.specs.Syntax.{Pattern, Ruled, Protocol}
use Rattle.spec_terms.specs.Term.{Term}
use Rattle.spec_clauses.specs.Shown.{Shown}
use Rattle.spec_translation.specs.Applied.{width, ruled_term, ruled_arguments, ruled_sides}
use Rattle.spec_translation.specs.Conversion.{Scope, term_in, Fresh, pattern_term, rule_term}

-- each variable of a pattern as far behind the base as its own number says
abbrev pub numbered_behind : ℕ → Fresh
numbered_behind base = record { base = base; first = 0 }

-- the arguments of all destructors, the left sides of their rules, the value, and the pattern's term
abbrev pub arguments_in : Protocol → Scope → ℕ → Ruled → List Term
arguments_in P scope first ruled = ruled_arguments P (term_in P scope) (rule_term P) first ruled

abbrev pub lefts_in : Protocol → Scope → ℕ → Ruled → List Term
lefts_in P scope first ruled = ruled_sides P (term_in P scope) (rule_term P) first ruled

abbrev pub value_in : Protocol → Scope → ℕ → Ruled → Term
value_in P scope first ruled = ruled_term P (term_in P scope) (rule_term P) first ruled

abbrev pub target_in : Protocol → Scope → ℕ → Pattern → Ruled → Term
target_in P scope first pattern ruled = pattern_term P scope (numbered_behind (first + width ruled)) pattern

abbrev pub choice_in_terms : Protocol → Scope → ℕ → Pattern → Ruled → Shown
choice_in_terms P scope first pattern ruled = record {
  first = first;
  left = arguments_in P scope first ruled ++ value_in P scope first ruled ∷ [];
  right = lefts_in P scope first ruled ++ target_in P scope first pattern ruled ∷ [];
}

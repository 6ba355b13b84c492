-- The ways in which a `let` may go on: by each choice of rules for the destructors of its expression, whose arguments are unified with
-- the rules' left sides, and the value with the pattern. And the one in which a `get` may: the two terms of its condition are unified.
use Rattle.std.specs.Prelude.{◌≡◌, ℕ, Bool, Option, Some, None, List, [], ◌∷◌, ◌++◌, map}
use Rattle.std.specs.List.{list_any}
use Rattle.spec_trees.specs.Tree.{bind}
use Rattle.spec_calculus.specs.Syntax.{Pattern, Expression, Ruled, Condition, Protocol}
use Rattle.spec_calculus.specs.Tables.{row_pattern}
use Rattle.spec_calculus.specs.Choices.{choices}
use Rattle.spec_terms.specs.Term.{Term, Subst}
use Rattle.spec_clauses.specs.Variables.{AreBelow}
use Rattle.spec_clauses.specs.Unify.{MguGives}
use Rattle.spec_translation.specs.Conversion.{Scope, free_term, term_in, rule_term, Fresh, pattern_term, pattern_scope}
use Rattle.spec_translation.specs.Visit.{Visit, visit_terms, visit_under, is_large_term, IsFresh, after_entry}
use Rattle.spec_translation.specs.Applied.{ruled_term, ruled_arguments, ruled_sides}

-- The terms that have to become one, and the visit that goes on where they do.
pub record Choice : Type 0 where
  pub arguments : List Term
  pub sides : List Term
  pub value : Term
  pub target : Term
  pub visit : Visit

-- a choice under a substitution; it is unified where its arguments are the left sides, and its value the target
abbrev pub choice_under : Subst → Choice → Choice
choice_under s c = record {
  arguments = map (bind s) c.arguments;
  sides = map (bind s) c.sides;
  value = bind s c.value;
  target = bind s c.target;
  visit = visit_under s c.visit;
}

abbrev pub IsUnified : Choice → Type 0
IsUnified c = (c.arguments ≡ c.sides) × (c.value ≡ c.target)

-- the visit with what the pattern binds
abbrev pub with_pattern : Visit → Pattern → Fresh → Visit
with_pattern v pattern at = record v { scope = v.scope ++ pattern_scope at pattern }

-- the choice of a rule for each destructor of an expression; the variables of all rules are new from a base on
abbrev pub ruled_choice : Protocol → Visit → Pattern → Ruled → ℕ → Fresh → Choice
ruled_choice P v pattern ruled base at = record {
  arguments = ruled_arguments P (term_in P v.scope) (rule_term P) base ruled;
  sides = ruled_sides P (term_in P v.scope) (rule_term P) base ruled;
  value = ruled_term P (term_in P v.scope) (rule_term P) base ruled;
  target = pattern_term P v.scope at pattern;
  visit = with_pattern v pattern at;
}

-- The visit that goes on by the choice under a most general unifier, or None where there is none.
abbrev pub GoesOn : Choice → Option Visit → Type 0
GoesOn choice out = MguGives (λ s. IsUnified (choice_under s choice)) (λ s. visit_under s choice.visit) out

-- all terms of a choice but the pattern's
abbrev pub ruled_terms : Choice → List Term
ruled_terms c = c.value ∷ (c.arguments ++ c.sides)

-- by such a choice: the variables of its rules are new to the visit, and those of the pattern to the rules too
pub record ChoiceGoesOn (P : Protocol) (v : Visit) (pattern : Pattern) (ruled : Ruled) (out : Option Visit) : Type 0 where
  pub base : ℕ
  pub at : Fresh
  pub is_new : AreBelow base (visit_terms v)
  pub is_apart : AreBelow at.base (ruled_terms (ruled_choice P v pattern ruled base at))
  pub is_fresh : IsFresh v pattern at
  pub goes_on : GoesOn (ruled_choice P v pattern ruled base at) out

abbrev pub EachGoesOn : Protocol → Visit → Pattern → List Ruled → List (Option Visit) → Type 0
EachGoesOn P v pattern [] outs = outs ≡ []
EachGoesOn P v pattern (ruled ∷ others) outs =
    (out : Option Visit) × (rest : List (Option Visit)) × ChoiceGoesOn P v pattern ruled out × EachGoesOn P v pattern others rest × (outs ≡ out ∷ rest)

-- the visits that go on, for each choice of the expression in order
abbrev pub AllGoOn : Protocol → Visit → Pattern → Expression → List (Option Visit) → Type 0
AllGoOn P v pattern e outs = EachGoesOn P v pattern (map (λ c. c.ruled) (choices P e)) outs

-- the left term of a condition in the scope, and the right one
abbrev pub left_of : Protocol → Scope → Condition → List Term
left_of P scope None = []
left_of P scope (Some (left, right)) = term_in P scope left ∷ []

abbrev pub right_of : Protocol → Scope → Condition → List Term
right_of P scope None = []
right_of P scope (Some (left, right)) = term_in P scope right ∷ []

-- what has to become one where a `get` takes an entry: the terms of its condition, which see what the patterns bind
abbrev pub entry_choice : Protocol → Visit → ℕ → List Pattern → Condition → Fresh → Choice
entry_choice P v table patterns condition at = let w = after_entry P v table patterns at in record {
  arguments = left_of P w.scope condition;
  sides = right_of P w.scope condition;
  value = free_term 0;
  target = free_term 0;
  visit = w;
}

-- whether a term of the condition is over the limit of size
abbrev pub has_large_side : Choice → Bool
has_large_side c = list_any is_large_term (c.arguments ++ c.sides)

-- The visit that goes on below a `get`, if there is one, and whether its condition is too large, with new variables for the patterns.
pub record EntryGoesOn (P : Protocol) (v : Visit) (table : ℕ) (patterns : List Pattern) (condition : Condition) (large : Bool) (out : Option Visit) : Type 0 where
  pub at : Fresh
  pub is_fresh : IsFresh v (row_pattern patterns) at
  pub is_large : large ≡ has_large_side (entry_choice P v table patterns condition at)
  pub goes_on : GoesOn (entry_choice P v table patterns condition at) out

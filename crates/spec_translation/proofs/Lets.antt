-- What holds of the ways of a `let`, whatever new variables and most general unifiers are taken.
use Rattle.std.proofs.Common.{◌≡◌, ◌∙◌, ℕ, None, Option, List, ◌++◌, map, sym, subst}
use Rattle.spec_trees.specs.Tree.{Leaf, bind}
use Rattle.spec_calculus.specs.Syntax.{Pattern, Expression, Ruled, Protocol}
use Rattle.spec_terms.specs.Term.{Subst}
use Rattle.spec_clauses.specs.Variables.{IsBelow, AreBelow}
use Rattle.spec_clauses.proofs.Lists.{all_first, all_second}
use Rattle.spec_translation.specs.Conversion.{term_in, rule_term, Fresh, bound_numbers}
use Rattle.spec_translation.specs.Visit.{Visit, visit_terms, visit_under}
use Rattle.spec_translation.specs.Applied.{ruled_arguments, ruled_sides}
use Rattle.spec_translation.specs.Choice.{ruled_choice, ruled_terms, ChoiceGoesOn, AllGoOn}
use Rattle.spec_translation.specs.Visited.{some_large}
use Rattle.spec_translation.proofs.Choices.{all_go_alike}
use Rattle.spec_translation.proofs.Courses.{some_large_alike}
use Rattle.spec_translation.proofs.Existence.{above_terms, from_zero}
use Rattle.spec_translation.proofs.PlainLet.{visit_under-Leaf}

-- whether one of them is too large
pub large_alike : (P : Protocol) (v : Visit) (pattern : Pattern) (e : Expression) (os ps : List (Option Visit)) → AllGoOn P v pattern e os → AllGoOn P v pattern e ps → some_large os ≡ some_large ps
large_alike P v pattern e os ps a b =
    let same = visit_under-Leaf v in
    let back : visit_under Leaf (visit_under Leaf v) ≡ v = (λ i. visit_under Leaf (same i)) ∙ same in
    some_large_alike os ps (all_go_alike P Leaf Leaf v back pattern e os ps a (subst (λ w. AllGoOn P w pattern e ps) (sym same) b))

-- that a choice whose arguments can't be the left sides doesn't go on
pub goes_nowhere : (P : Protocol) (v : Visit) (pattern : Pattern) (ruled : Ruled) (base : ℕ) → AreBelow base (visit_terms v)
    → ((s : Subst) → map (bind s) (ruled_arguments P (term_in P v.scope) (rule_term P) base ruled) ≡ map (bind s) (ruled_sides P (term_in P v.scope) (rule_term P) base ruled) → ⊥) → ChoiceGoesOn P v pattern ruled None
goes_nowhere P v pattern ruled base new never =
    let terms = ruled_terms (ruled_choice P v pattern ruled base (record { base = 0; first = 0 })) in
    let (n, below) = above_terms (visit_terms v ++ terms) in
    let at : Fresh = record { base = n; first = 0 } in
    record {
      base = base;
      at = at;
      is_new = new;
      is_apart = all_second (IsBelow n) (visit_terms v) terms below;
      is_fresh = record { is_new = all_first (IsBelow n) (visit_terms v) terms below; from_first = from_zero (bound_numbers pattern) };
      goes_on = λ s e. never s e.0;
    }

-- Expressions that are fit: so are their instructions, and these leave few choices.
use Rattle.std.proofs.Common.{◌≡◌, ◌∙◌, ℕ, ◌+◌, ◌*◌, ◌≤◌, [], ◌∷◌, length, refl, ap, sym, subst, arith}
use Rattle.std.specs.List.{AllByRecursion}
use Rattle.std.proofs.lemmas.List.{length-map}
use Rattle.spec_trees.specs.Tree.{Trees, Leaf, Node, none, more, items_of}
use Rattle.spec_trees.specs.Leaves.{leaves, row_leaves}
use Rattle.spec_calculus.specs.Syntax.{Term, Head, Expression, Protocol}
use Rattle.spec_calculus.specs.Bounds.{most_applications, most_choices, most_written_symbols}
use Rattle.spec_calculus.specs.Choices.{Choice, choices}
use Rattle.spec_calculus.proofs.Choices.{choices_counted}
use Rattle.spec_well_formed.specs.Terms.{row_length, EachSymbol, EachSymbolInRow}
use Rattle.spec_clauses.proofs.Lists.{all_append, all_first, all_second}
use Rattle.spec_choice_walks.specs.Instructions.{Apply, instructions, row_instructions, choices_by}
use Rattle.spec_choice_walks.proofs.Completing.{all_completed}
use Rattle.spec_choice_walks.proofs.Counting.{counted, whole_becomes_one, applied_is}
use Rattle.clause_terms.specs.Conditions.{HasShortTuples}
use Rattle.unified_visits.specs.Room.{rule_base}
use Rattle.unified_visits.specs.Short.{IsFitHead, IsFitInstruction, IsFitExpression, AreFitInstructions}

row_length-items : (ts : Trees Term (Head ℕ)) → row_length ts ≡ length (items_of ts)
row_length-items none = refl
row_length-items (more t ts) = let others = row_length-items ts in omega (arith, others)

module _ (P : Protocol) where
  mutual
    each_fit : (e : Expression) → AllByRecursion HasShortTuples (leaves e) → EachSymbol (IsFitHead P) e → AllByRecursion (IsFitInstruction P) (instructions e)
    each_fit (Leaf t) terms heads = (terms.0, tt)
    each_fit (Node head es) terms heads =
        all_append (IsFitInstruction P) (row_instructions es) (Apply head (length (items_of es)) ∷ []) (row_fit es terms heads.1) (subst (λ n. IsFitHead P head n) (row_length-items es) heads.0, tt)

    row_fit : (es : Trees Term (Head ℕ)) → AllByRecursion HasShortTuples (row_leaves es) → EachSymbolInRow (IsFitHead P) es → AllByRecursion (IsFitInstruction P) (row_instructions es)
    row_fit none terms heads = tt
    row_fit (more e es) terms heads =
        all_append (IsFitInstruction P) (instructions e) (row_instructions es) (each_fit e (all_first HasShortTuples (leaves e) (row_leaves es) terms) heads.0) (row_fit es (all_second HasShortTuples (leaves e) (row_leaves es) terms) heads.1)

  pub instructions_fit : (e : Expression) (next : ℕ) → IsFitExpression P e → next + most_applications * most_written_symbols ≤ rule_base → AreFitInstructions P next 0 (instructions e)
  instructions_fit e next fit low = record {
    each = each_fit e fit.terms fit.heads;
    one = whole_becomes_one e;
    room = omega (arith, applied_is e, fit.few, low);
  }

  as_many : (e : Expression) → choices_by P (instructions e) ≡ length (choices P e)
  as_many e = sym (counted P (instructions e) [] (whole_becomes_one e)) ∙ (ap length (all_completed P e) ∙ length-map (choices P e) (λ (c : Choice). c.ruled))

  pub choices_few : (e : Expression) → IsFitExpression P e → choices_by P (instructions e) ≤ most_choices
  choices_few e fit = omega (arith, as_many e, choices_counted P e, fit.few_choices)

-- Instructions in a list, one expression after the other.
use Rattle.std.proofs.Common.{◌≡◌, ◌∙◌, ℕ, List, [], ◌∷◌, ◌++◌, map, length, sym, ap, append_assoc}
use Rattle.std.proofs.lemmas.List.{length-map}
use Rattle.spec_trees.specs.Tree.{Trees, Node, more, trees, items_of}
use Rattle.spec_trees.proofs.Rows.{items_of-trees}
use Rattle.spec_calculus.specs.Syntax.{Term, Head, Expression}
use Rattle.pi_tree.specs.declared.expressions.Expr.{Expr}
use Rattle.pi_tree.specs.Expressions.{expression_of}
use Rattle.spec_choice_walks.specs.Instructions.{Instruction, Apply, instructions, row_instructions}

-- those of a first expression, and then those of the others
pub listed_next : (old new : List Instruction) (part : Expression) (parts : Trees Term (Head ℕ)) → new ≡ old ++ instructions part → new ++ row_instructions parts ≡ old ++ row_instructions (more part parts)
listed_next old new part parts e = ap (λ l. l ++ row_instructions parts) e ∙ append_assoc old (instructions part) (row_instructions parts)

-- as many parts as there are expressions
pub parts_counted : (items : List Expr) → length (items_of (trees (map expression_of items))) ≡ length items
parts_counted items = ap length (items_of-trees (map expression_of items)) ∙ length-map items expression_of

-- those of the parts, and then their root
pub root_listed : (old new : List Instruction) (head : Head ℕ) (parts : Trees Term (Head ℕ)) (count : ℕ) → new ≡ old ++ row_instructions parts → length (items_of parts) ≡ count → new ++ Apply head count ∷ [] ≡ old ++ instructions (Node head parts)
root_listed old new head parts count listed counted =
    ap (λ l. l ++ Apply head count ∷ []) listed
    ∙ (append_assoc old (row_instructions parts) (Apply head count ∷ []) ∙ ap (λ n. old ++ (row_instructions parts ++ Apply head n ∷ [])) (sym counted))

pub ruleset of_postfix = (listed_next, parts_counted, root_listed)

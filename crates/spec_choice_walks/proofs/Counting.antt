-- How long rows are, and how many completions there are.
use Rattle.std.proofs.Common.{◌≡◌, ◌∙◌, ℕ, zero, suc, ◌+◌, ◌*◌, ◌-◌, ◌≤◌, List, [], ◌∷◌, ◌++◌, length, take, drop, refl, ap, sym, subst, arith}
use Rattle.std.specs.List.{flat_map}
use Rattle.std.proofs.lemmas.List.{append_assoc, append-nil, length-append}
use Rattle.spec_trees.specs.Tree.{Trees, Leaf, Node, none, more, items_of, node}
use Rattle.spec_calculus.specs.Syntax.{Term, Head, Builds, Calls, Expression, Rule, Ruled, Protocol}
use Rattle.spec_calculus.specs.Matching.{rules_of}
use Rattle.spec_calculus.specs.Choices.{applications, row_applications}
use Rattle.spec_choice_walks.specs.Instructions.{Instruction, Push, Apply, instructions, row_instructions, joined_last, completions, choices_by, BecomesOne, applied_by}

-- the length of a row with a root over its last parts
pub length-joined : (head : Head Rule) (count : ℕ) (row : List Ruled) → length (joined_last head count row) ≡ (length row - count) + 1
length-joined head count row =
    length-append (take (length row - count) row) (node head (drop (length row - count) row) ∷ [])
    ∙ ap (λ n. n + 1) (length_take (length row - count) row (omega arith)) where
      length_take : {A : Type 0} (n : ℕ) (xs : List A) → n ≤ length xs → length (take n xs) ≡ n
      length_take zero xs e = refl
      length_take (suc n) [] e = absurd (omega (arith, e))
      length_take (suc n) (x ∷ xs) e = ap suc (length_take n xs (omega (arith, e)))

-- lists of one length in a row
length-each : {A B : Type 0} (f : A → List B) (n : ℕ) → ((x : A) → length (f x) ≡ n) → (xs : List A) → length (flat_map f xs) ≡ length xs * n
length-each f n same [] = omega arith
length-each f n same (x ∷ xs) =
    let here = same x in
    let there = length-each f n same xs in
    length-append (f x) (flat_map f xs) ∙ ((λ i. here i + there i) ∙ grind (arith))

-- as many completions of a row as choices by the parts, where it becomes one
pub counted : (P : Protocol) (parts : List Instruction) (row : List Ruled) → BecomesOne (length row) parts → length (completions P parts row) ≡ choices_by P parts
counted P [] row one = one
counted P (Push term ∷ parts) row one = counted P parts (row ++ Leaf term ∷ []) (subst (λ n. BecomesOne n parts) (sym (length-append row (Leaf term ∷ []))) one)
counted P (Apply (Builds f) count ∷ parts) row one = counted P parts (joined_last (Builds f) count row) (subst (λ n. BecomesOne n parts) (sym (length-joined (Builds f) count row)) one.1)
counted P (Apply (Calls d) count ∷ parts) row one =
    length-each (λ rule. completions P parts (joined_last (Calls rule) count row)) (choices_by P parts)
    (λ rule. counted P parts (joined_last (Calls rule) count row) (subst (λ n. BecomesOne n parts) (sym (length-joined (Calls rule) count row)) one.1)) (rules_of P d)

-- an expression's parts become one
mutual
  pub becomes_one : (e : Expression) (height : ℕ) (parts : List Instruction) → BecomesOne (height + 1) parts → BecomesOne height (instructions e ++ parts)
  becomes_one (Leaf term) height parts one = one
  becomes_one (Node head es) height parts one =
      let n = length (items_of es) in
      subst (BecomesOne height) (sym (append_assoc (row_instructions es) (Apply head n ∷ []) parts))
      (row_stands es height (Apply head n ∷ parts) (omega arith, subst (λ k. BecomesOne k parts) (omega arith) one))

  row_stands : (es : Trees Term (Head ℕ)) (height : ℕ) (parts : List Instruction) → BecomesOne (height + length (items_of es)) parts → BecomesOne height (row_instructions es ++ parts)
  row_stands none height parts one = subst (λ k. BecomesOne k parts) (omega arith) one
  row_stands (more e es) height parts one =
      subst (BecomesOne height) (sym (append_assoc (instructions e) (row_instructions es) parts))
      (becomes_one e height (row_instructions es ++ parts) (row_stands es (height + 1) parts (subst (λ k. BecomesOne k parts) (omega arith) one)))

pub whole_becomes_one : (e : Expression) → BecomesOne 0 (instructions e)
whole_becomes_one e = subst (BecomesOne 0) (append-nil (instructions e)) (becomes_one e 0 [] refl)

-- as many destructors are applied
applied-append : (xs ys : List Instruction) → applied_by (xs ++ ys) ≡ applied_by xs + applied_by ys
applied-append [] ys = omega arith
applied-append (Push term ∷ xs) ys = applied-append xs ys
applied-append (Apply (Builds f) count ∷ xs) ys = applied-append xs ys
applied-append (Apply (Calls d) count ∷ xs) ys = let h = applied-append xs ys in omega (arith, h)

mutual
  pub applied_is : (e : Expression) → applied_by (instructions e) ≡ applications e
  applied_is (Leaf term) = refl
  applied_is (Node (Builds f) es) = let h = applied-append (row_instructions es) (Apply (Builds f) (length (items_of es)) ∷ []) in let k = row_applied_is es in omega (arith, h, k)
  applied_is (Node (Calls d) es) = let h = applied-append (row_instructions es) (Apply (Calls d) (length (items_of es)) ∷ []) in let k = row_applied_is es in omega (arith, h, k)

  row_applied_is : (es : Trees Term (Head ℕ)) → applied_by (row_instructions es) ≡ row_applications es
  row_applied_is none = refl
  row_applied_is (more e es) = let h = applied-append (instructions e) (row_instructions es) in let j = applied_is e in let k = row_applied_is es in omega (arith, h, j, k)

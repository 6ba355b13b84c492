-- Values that are taken off a stack and put back.
use Rattle.std.proofs.Common.{◌≡◌, ◌∙◌, ℕ, ◌-◌, Bool, false, List, ◌++◌, length, map, take, drop, sym, ap, subst, Result, IfOk}
use Rattle.std.specs.declared.alloc.AllocError.{AllocError}
use Rattle.std.proofs.lemmas.List.{length-map, drop-map, take-map, take-append-drop}
use Rattle.spec_calculus.specs.Values as values
use Rattle.pi_tree.specs.declared.value_trees.Value.{Value}
use Rattle.pi_tree.specs.Values.{value_of}

module _ (items : List Value) (stack : List values.Value) (count at : ℕ) (seen : map value_of items ≡ stack) (below : at ≡ length items - count) where
  same_height : at ≡ length stack - count
  same_height = below ∙ ap (λ n. n - count) (sym (length-map items value_of) ∙ ap length seen)

  pub top_taken : map value_of (drop at items) ≡ drop (length stack - count) stack
  top_taken = ap (λ n. map value_of (drop n items)) same_height ∙ (sym (drop-map value_of (length stack - count) items) ∙ ap (drop (length stack - count)) seen)

  pub rest_left : map value_of (take at items) ≡ take (length stack - count) stack
  rest_left = ap (λ n. map value_of (take n items)) same_height ∙ (sym (take-map value_of (length stack - count) items) ∙ ap (take (length stack - count)) seen)

-- put back, they are the stack that there was
pub put_back : (answer : Result Bool AllocError) (stack below top after : List values.Value) (k : ℕ) → below ≡ take k stack → top ≡ drop k stack
    → IfOk answer (λ b. b ≡ false → after ≡ below ++ top) → IfOk answer (λ b. b ≡ false → after ≡ stack)
put_back answer stack below top after k rest taken h =
    subst (λ s. IfOk answer (λ b. b ≡ false → after ≡ s)) ((λ i. rest i ++ taken i) ∙ take-append-drop k stack) h

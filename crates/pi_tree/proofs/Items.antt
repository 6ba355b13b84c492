-- Items by their number.
use Rattle.std.proofs.Common.{◌≡◌, ℕ, zero, suc, ◌-◌, ◌<◌, ◌≤◌, Some, List, length, map, get_or, slice_get, option_map, refl, ap, ◌∙◌, subst, arith}
use Rattle.std.proofs.lemmas.List.{length-map}
use Rattle.std.proofs.lemmas.Option.{slice_get-map, slice_get_read}
use Rattle.spec_calculus.specs.Points.{numbered}

-- the item of a number is that at the index before
pub numbered-index : {A B : Type 0} (f : A → B) (xs : List A) (number : ℕ) (x : A) → 0 < number → number ≤ length (map f xs) → x ≡ get_or xs (number - 1) x → numbered (map f xs) number ≡ Some (f x)
numbered-index f xs zero x some within at = absurd (omega (arith, some))
numbered-index f xs (suc index) x some within at =
    let before : suc index - 1 ≡ index = omega arith in
    let at_index : x ≡ get_or xs index x = subst (λ k. x ≡ get_or xs k x) before at in
    let read : slice_get xs index ≡ Some x = slice_get_read xs (length xs) index x refl (omega (arith, within, length-map xs f)) at_index in
    slice_get-map f xs index ∙ ap (option_map f) read

-- the item of a number, by what stands at the index before
pub numbered-before : {A : Type 0} (items : List A) (number : ℕ) (x : A) → 0 < number → slice_get items (number - 1) ≡ Some x → numbered items number ≡ Some x
numbered-before items zero x some at = absurd (omega (arith, some))
numbered-before items (suc index) x some at = let before : suc index - 1 ≡ index = omega arith in subst (λ k. slice_get items k ≡ Some x) before at

pub ruleset by_number = (numbered-index, numbered-before)

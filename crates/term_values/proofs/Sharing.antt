-- Bindings that a copy shares.
use Rattle.std.proofs.Common.{◌≡◌, ◌∙◌, ℕ, ◌+◌, ◌<◌, List, [], ◌∷◌, ◌++◌, length, map, drop, get_or, ap, sym, append_assoc}
use Rattle.std.proofs.lemmas.List.{drop_more, map-append}
use Rattle.spec_calculus.specs.Values as calculus
use Rattle.term_values.specs.declared.environments.Binding.{Binding}
use Rattle.term_values.specs.Bindings.{binding_of}

-- one more of a list is copied
pub copied_next : (xs : List Binding) (i : ℕ) (x : Binding) (before after : List Binding) (y : Binding) → map binding_of before ++ map binding_of (drop i xs) ≡ map binding_of xs → i < length xs → x ≡ get_or xs i x → after ≡ before ++ y ∷ [] → binding_of y ≡ binding_of x
    → map binding_of after ++ map binding_of (drop (i + 1) xs) ≡ map binding_of xs
copied_next xs i x before after y was within is more same =
    let rest : drop i xs ≡ x ∷ drop (i + 1) xs = drop_more xs i x within ∙ ap (λ (b : Binding). b ∷ drop (i + 1) xs) (sym is) in
    let behind = map binding_of (drop (i + 1) xs) in
    ap (λ (l : List Binding). map binding_of l ++ behind) more
    ∙ (ap (λ (l : List calculus.Binding). l ++ behind) (map-append binding_of before (y ∷ []))
    ∙ (append_assoc (map binding_of before) (binding_of y ∷ []) behind
    ∙ (ap (λ (b : calculus.Binding). map binding_of before ++ (b ∷ behind)) same
    ∙ (ap (λ (l : List Binding). map binding_of before ++ map binding_of l) (sym rest) ∙ was))))

-- The innermost symbol stands last.
use Rattle.std.proofs.Common.{◌≡◌, List, [], ◌∷◌, ◌++◌, length, map, reverse, ◌∙◌, ap}
use Rattle.std.proofs.lemmas.List.{reverse-append, map-append, length-reverse, length-map}

pub pushed : {A X : Type 0} (f : A → X) (before after : List A) (x : A) → after ≡ before ++ x ∷ [] → reverse (map f after) ≡ f x ∷ reverse (map f before)
pushed f before after x e = ap (λ xs. reverse (map f xs)) e ∙ (ap reverse (map-append f before (x ∷ [])) ∙ reverse-append (map f before) (f x ∷ []))

pub counted : {A X : Type 0} (f : A → X) (xs : List A) → length (reverse (map f xs)) ≡ length xs
counted f xs = length-reverse (map f xs) ∙ length-map xs f

pub ruleset stack = (pushed, counted)

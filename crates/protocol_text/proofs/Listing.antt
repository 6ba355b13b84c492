-- Points in a list: that of a process, and then those below it.
use Rattle.std.proofs.Common.{◌≡◌, ◌∙◌, List, [], ◌∷◌, ◌++◌, map, ap, append_assoc}
use Rattle.std.proofs.lemmas.List.{map-append}

-- one more item behind a list, seen by what it is mapped to
pub one_more : {A B : Type 0} (f : A → B) (old pushed : List A) (x : A) → pushed ≡ old ++ x ∷ [] → map f pushed ≡ map f old ++ f x ∷ []
one_more f old pushed x e = ap (map f) e ∙ map-append f old (x ∷ [])

-- an item, and then what is below it
pub listed_below : {A B : Type 0} (f : A → B) (old pushed new : List A) (x : A) (rest : List B) → pushed ≡ old ++ x ∷ [] → map f new ≡ map f pushed ++ rest → map f new ≡ map f old ++ f x ∷ rest
listed_below f old pushed new x rest e listed = listed ∙ (ap (λ l. l ++ rest) (one_more f old pushed x e) ∙ append_assoc (map f old) (f x ∷ []) rest)

-- an item, and then what is in its two branches
pub listed_branches : {A B : Type 0} (f : A → B) (old pushed between new : List A) (x : A) (first second : List B) → pushed ≡ old ++ x ∷ [] → map f between ≡ map f pushed ++ first → map f new ≡ map f between ++ second → map f new ≡ map f old ++ f x ∷ (first ++ second)
listed_branches f old pushed between new x first second e one other = other ∙ (ap (λ l. l ++ second) (listed_below f old pushed between x first e one) ∙ append_assoc (map f old) (f x ∷ first) second)

pub ruleset of_listing = (one_more, listed_below, listed_branches)

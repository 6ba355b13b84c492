-- Values by chosen rules, one part after the other.
use Rattle.std.proofs.Common.{◌≡◌, Bool, true, false, ◌||◌, List, [], ◌∷◌, ◌++◌, Option, None, Some, option_map, refl, append_assoc}
use Rattle.spec_calculus.specs.Values.{Value}
use Rattle.term_values.specs.Labelled.{Labelled, joined}

-- values that were made so far, before those of the other parts
abbrev pub behind : List Value → Bool → Labelled (List Value) → Labelled (List Value)
behind vs large others = record { value = vs ++ others.value; large = large || others.large; numbers = others.numbers }

or_assoc : (a b c : Bool) → ((a || b) || c) ≡ (a || (b || c))
or_assoc true b c = refl
or_assoc false b c = refl

pub behind_nothing : (o : Option (Labelled (List Value))) → option_map (behind [] false) o ≡ o
behind_nothing None = refl
behind_nothing (Some others) = refl

pub behind_next : (vs : List Value) (large : Bool) (first : Labelled Value) (o : Option (Labelled (List Value))) → option_map (behind (vs ++ first.value ∷ []) (large || first.large)) o ≡ option_map (behind vs large) (option_map (joined first) o)
behind_next vs large first None = refl
behind_next vs large first (Some others) =
    let values = append_assoc vs (first.value ∷ []) others.value in
    let larges = or_assoc large first.large others.large in
    λ i. Some (record { value = values i; large = larges i; numbers = others.numbers })

pub ruleset of_rows = (behind_nothing, behind_next)

-- What is added behind values, where it is told.
use Rattle.std.specs.Prelude.{◌≡◌, Bool, List, [], ◌∷◌, ◌++◌, cond, Option, None, Some, option_map}
use Rattle.spec_calculus.specs.Values.{Value}

-- behind the earlier values stands this one, where there is one, which is told
abbrev pub AddsValue : List Value → List Value → Bool → Option Value → Type 0
AddsValue before after told value = option_map (λ v. before ++ v ∷ []) value ≡ cond told (Some after) None

-- behind the earlier values stand these, where there are any, which is told
abbrev pub AddsValues : List Value → List Value → Bool → Option (List Value) → Type 0
AddsValues before after told values = option_map (λ vs. before ++ vs) values ≡ cond told (Some after) None

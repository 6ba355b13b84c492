-- What the types of this crate keep to has one proof at most.
use Rattle.std.specs.Prelude.{ℕ, List, [], ◌∷◌}
use Rattle.std.proofs.Props.{props}
use Rattle.spec_calculus.specs.Syntax.{Name}
use Rattle.spec_protocol_tokens.specs.Token.{Token}
use Rattle.spec_protocol_tokens.specs.Laws.{Ascend}
use Rattle.spec_protocol_scope.specs.Names.{Meaning}

pub Ascend-prop : (start : ℕ) (ts : List Token) (end : ℕ) → IsProp (Ascend start ts end)
Ascend-prop start [] end = Prim.hlevel props
Ascend-prop start (t ∷ ts) end = let later : IsProp (Ascend t.to ts end) = Ascend-prop t.to ts end in Prim.hlevel (later, props)

pub Meaning-set : IsSet Meaning
Meaning-set = Prim.hlevel props

pub Name-set : IsSet Name
Name-set = Prim.hlevel props

pub ruleset scope_props = (Ascend-prop, Meaning-set, Name-set, props)

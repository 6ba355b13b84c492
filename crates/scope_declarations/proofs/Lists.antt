-- Look-ups in lists that are put together.
use Rattle.std.proofs.Common.{◌≡◌, ℕ, List, [], ◌∷◌, ◌++◌, Bool, true, false, if◌then◌else◌, Option, Some, refl}
use Rattle.std.specs.Option.{option_or}
use Rattle.spec_calculus.specs.Syntax.{Name}
use Rattle.spec_protocol_scope.specs.Names.{Texts, Bound, bound_as, same_text}

choose : (b : Bool) (name : Name) (inner outer both : Option Name) → both ≡ option_or inner outer
    → (if b then Some name else both) ≡ option_or (if b then Some name else inner) outer
choose true name inner outer both e = refl
choose false name inner outer both e = e

-- what the inner ones do not bind, the outer ones may
pub outside : (text : Texts) (inner outer : List Bound) (n : ℕ) → bound_as text (inner ++ outer) n ≡ option_or (bound_as text inner n) (bound_as text outer n)
outside text [] outer n = refl
outside text (b ∷ inner) outer n = choose (same_text text b.token n) b.name (bound_as text inner n) (bound_as text outer n) (bound_as text (inner ++ outer) n) (outside text inner outer n)

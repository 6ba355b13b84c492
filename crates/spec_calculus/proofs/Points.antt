-- Items by their number.
use Rattle.std.proofs.Common.{◌≡◌, ℕ, zero, suc, ◌+◌, ◌<◌, ◌≤◌, List, [], ◌∷◌, length, Some, not, slice_get, refl, add-one, arith}
use Rattle.std.proofs.lemmas.Option.{slice_get_within}
use Rattle.spec_calculus.specs.Syntax.{Declared}
use Rattle.spec_calculus.specs.Points.{numbered}
use Rattle.spec_calculus.specs.Absence.{is_private}

-- the number is one more than the index
pub numbered-add-one : {A : Type 0} (items : List A) (index : ℕ) → numbered items (index + 1) ≡ slice_get items index
numbered-add-one items index = rw add-one refl

-- the free name at an index is private where it is declared so
pub is_private-add-one : (frees : List Declared) (index : ℕ) (declared : Declared) → slice_get frees index ≡ Some declared → is_private frees (index + 1) ≡ not declared.public
is_private-add-one frees index declared found = rw (numbered-add-one frees index, found) refl

-- there is an item of the number exactly where it is from 1 up to the length
pub numbered-there : {A : Type 0} (items : List A) (number : ℕ) (x : A) → numbered items number ≡ Some x → (0 < number) × (number ≤ length items)
numbered-there items zero x found = cc
numbered-there items (suc index) x found = let within : index < length items = slice_get_within items index x found in (omega arith, omega (arith, within))

pub there-numbered : {A : Type 0} (items : List A) (number : ℕ) → 0 < number → number ≤ length items → (x : A) × (numbered items number ≡ Some x)
there-numbered [] number some within = absurd (omega (arith, some, within))
there-numbered items zero some within = absurd (omega (arith, some))
there-numbered (x ∷ items) (suc zero) some within = (x, refl)
there-numbered (x ∷ items) (suc (suc index)) some within = there-numbered items (suc index) (omega arith) (omega (arith, within))

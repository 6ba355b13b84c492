-- A test that came out true, or false.
use Rattle.std.proofs.Common.{◌≡◌, Bool, true, false}
use Rattle.std.specs.Prelude.{MatchBool}

-- a test that came out true, or false
pub if_true : (b : Bool) (A B : Type 0) → b ≡ true → MatchBool b A B → A
if_true true A B e h = h
if_true false A B e h = absurd (let same = e in cc)

pub if_false : (b : Bool) (A B : Type 0) → b ≡ false → MatchBool b A B → B
if_false false A B e h = h
if_false true A B e h = absurd (let same = e in cc)

-- The steps of rounds.
use Rattle.std.proofs.Common.{◌≡◌, ℕ, suc, if◌then◌else◌, Bool, List, refl}
use Rattle.spec_certificate_text.specs.Terms.{Syntax}
use Rattle.spec_certificate_text.specs.Outcomes.{Outcome, Found, Faulty, next, Reader}
use Rattle.spec_certificate_text.specs.Rounds.{rounds}

abbrev pub behind_round : {S : Type 0} → (S → Reader (S × Bool)) → ℕ → S × Bool → ℕ → List ℕ → Outcome S
behind_round one most x place rest = if x.1 then rounds one most x.0 rest place else Found x.0 place rest

pub one_more : {S : Type 0} (one : S → Reader (S × Bool)) (m : ℕ) (s : S) (bytes : List ℕ) (at : ℕ) → rounds one (suc m) s bytes at ≡ next (one s bytes at) (behind_round one m)
unfolding rounds
one_more one m s bytes at = refl

pub none_left : {S : Type 0} (one : S → Reader (S × Bool)) (s : S) (bytes : List ℕ) (at : ℕ) → rounds one 0 s bytes at ≡ Faulty at Syntax
unfolding rounds
none_left one s bytes at = refl

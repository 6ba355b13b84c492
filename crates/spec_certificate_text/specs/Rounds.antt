-- Reading in rounds, each of which goes on from what the one before left.
use Rattle.std.specs.Prelude.{ℕ, zero, suc, if◌then◌else◌, Bool, List, [], ◌∷◌, ◌++◌}
use Rattle.spec_certificate_text.specs.Terms.{Syntax}
use Rattle.spec_certificate_text.specs.Outcomes.{Found, Faulty, next, Reader}

-- A round reads something from a state, and tells whether another comes: there are at most so many.
unfoldable pub rounds : {S : Type 0} → (S → Reader (S × Bool)) → ℕ → S → Reader S
rounds one zero s bytes at = Faulty at Syntax
rounds one (suc most) s bytes at = next (one s bytes at) (λ x place rest. if x.1 then rounds one most x.0 rest place else Found x.0 place rest)

-- a round that puts what it reads behind what was read
abbrev pub collects : {S A : Type 0} → (S → Reader ((A × Bool) × S)) → List A × S → Reader ((List A × S) × Bool)
collects one s bytes at = next (one s.1 bytes at) (λ x place rest. Found ((s.0 ++ x.0.0 ∷ [], x.1), x.0.1) place rest)

-- the same where nothing tells whether another comes
abbrev pub puts : {S A : Type 0} → (S → Reader (A × S)) → List A × S → Reader (List A × S)
puts one s bytes at = next (one s.1 bytes at) (λ x place rest. Found (s.0 ++ x.0 ∷ [], x.1) place rest)

-- Readers of lines and rows, in which what was read counts for what follows.
use Rattle.std.specs.Prelude.{ℕ, zero, suc, ◌==◌, if◌then◌else◌, List, [], ◌∷◌, ◌++◌}
use Rattle.spec_certificate_text.specs.Terms.{Syntax, Count}
use Rattle.spec_certificate_text.specs.Outcomes.{Found, Faulty, next, front, read_fixed, Reader}
use Rattle.spec_node_reading.specs.Walked.{Walked}

-- lines that begin with the letter, at most so many, each of which makes something of what there is: a further one is one too many
unfoldable pub lines_through : {A : Type 0} → ℕ → (A → Reader A) → ℕ → A → Reader A
lines_through letter one zero x bytes at = if front bytes == letter then Faulty at Count else Found x at bytes
lines_through letter one (suc most) x bytes at =
    if front bytes == letter then next (one x bytes at) (λ y place rest. lines_through letter one most y rest place) else Found x at bytes

-- something that was read, and how far the walk is behind it
pub record Behind (X : Type 0) : Type 0 where
  pub value : X
  pub walked : Walked

abbrev pub with : {X : Type 0} → X → Walked → Behind X
with x w = record { value = x; walked = w }

-- things behind these, at most so many: behind each but the last stands the byte and those bytes, and behind the last the others
unfoldable pub row_from : {X : Type 0} → (Walked → Reader (Behind X)) → ℕ → List ℕ → List ℕ → ℕ → Behind (List X) → Reader (Behind (List X))
row_from one c cs close zero xs bytes at = Faulty at Syntax
row_from one c cs close (suc most) xs bytes at =
    next (one xs.walked bytes at) (λ x p r.
    if front r == c then next (read_fixed (c ∷ cs) r p) (λ _ p r. row_from one c cs close most (with (xs.value ++ x.value ∷ []) x.walked) r p)
    else next (read_fixed close r p) (λ _ p r. Found (with (xs.value ++ x.value ∷ []) x.walked) p r))

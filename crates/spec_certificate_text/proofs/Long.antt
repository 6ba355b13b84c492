-- Texts are longer than what follows them.
use Rattle.std.proofs.Common.{ℕ, zero, suc, ◌+◌, ◌≤◌, Bool, true, false, List, [], ◌∷◌, ◌++◌, length, arith, length-append}
use Rattle.std.specs.Fmt.{decimal}
use Rattle.spec_trees.specs.Tree.{Leaf, Node, none, more}
use Rattle.spec_certificate_text.specs.Loose.{Head, Applied, Tupled, Made, Attackers, Loose, LooseRow, opening, closing, onto, row, behind}
use Rattle.spec_certificate_text.specs.Written.{LooseFact}
use Rattle.spec_certificate_text.specs.Text.{phase_text, fact_onto}
use Rattle.spec_certificate_text.proofs.Things.{things_text, lines_text}

opening_long : (h : Head) (k : List ℕ) → length k ≤ length (opening h k)
opening_long (Applied w) k = omega (arith, length-append w (40 ∷ k))
opening_long Tupled k = omega arith
opening_long (Made w ds) k = omega (arith, length-append w (64 ∷ (ds ++ (91 ∷ k))), length-append ds (91 ∷ k))
opening_long Attackers k = omega arith

mutual
  pub onto_long : (t : Loose) (k : List ℕ) → length k ≤ length (onto t k)
  onto_long (Leaf w) k = omega (arith, length-append w k)
  onto_long (Node h ts) k = omega (arith, opening_long h (row ts (closing h ∷ k)), row_long ts (closing h ∷ k))

  pub row_long : (ts : LooseRow) (k : List ℕ) → length k ≤ length (row ts k)
  row_long none k = omega arith
  row_long (more t ts) k = omega (arith, onto_long t (behind ts k), behind_long ts k)

  pub behind_long : (ts : LooseRow) (k : List ℕ) → length k ≤ length (behind ts k)
  behind_long none k = omega arith
  behind_long (more t ts) k = omega (arith, onto_long t (behind ts k), behind_long ts k)

phase_long : (n : ℕ) (k : List ℕ) → length k ≤ length (phase_text n k)
phase_long zero k = omega arith
phase_long (suc n) k = omega (arith, length-append (decimal (suc n)) k)

pub fact_long : (f : LooseFact) (k : List ℕ) → length k + 1 ≤ length (fact_onto f k)
fact_long f k = omega (arith, length-append f.predicate (phase_text f.phase (40 ∷ row f.arguments (41 ∷ k))), phase_long f.phase (40 ∷ row f.arguments (41 ∷ k)), row_long f.arguments (41 ∷ k))

-- where each thing is one byte longer at least, there are no more things than bytes
pub things_long : {A : Type 0} (one : A × Bool → List ℕ → List ℕ) → ((x : A × Bool) (k : List ℕ) → length k + 1 ≤ length (one x k)) → (x : A) (ys : List A) (rest : List ℕ) → length ys + 1 ≤ length (things_text one x ys rest)
things_long one long x [] rest = omega (arith, long (x, false) rest)
things_long one long x (y ∷ ys) rest = omega (arith, long (x, true) (things_text one y ys rest), things_long one long y ys rest)

pub lines_long : {A : Type 0} (one : A → List ℕ → List ℕ) → ((x : A) (k : List ℕ) → length k + 1 ≤ length (one x k)) → (xs : List A) (rest : List ℕ) → length xs ≤ length (lines_text one xs rest)
lines_long one long [] rest = omega arith
lines_long one long (x ∷ xs) rest = omega (arith, long x (lines_text one xs rest), lines_long one long xs rest)

-- Two readers of fixed bytes that begin alike, told apart by the byte behind what they share.
use Rattle.std.proofs.Common.{◌≡◌, ℕ, ◌+◌, ◌==◌, if◌then◌else◌, Bool, true, false, List, [], ◌∷◌, ◌++◌, length, drop, refl}
use Rattle.spec_certificate_text.specs.Terms.{Syntax}
use Rattle.spec_certificate_text.specs.Outcomes.{Faulty, next, front, Reader, read_fixed}
use Rattle.spec_reading_faults.proofs.Shared.{IsLocal, next_local, choice_local}
use Rattle.spec_reading_faults.proofs.Parts.{same_local, fixed_local}
use Rattle.spec_first_faults.proofs.Behind.{then_read}
use Rattle.spec_first_faults.proofs.OneOf.{chosen}

one_way : {X : Type 0} (t : Bool) (o : X) → (if t then o else o) ≡ o
one_way true o = refl
one_way false o = refl

-- Two readers of fixed bytes that begin alike, told apart by the byte behind what they share.
shared_as : {X : Type 0} (w a b : List ℕ) (test : ℕ → Bool) (f g : Reader X) (bytes : List ℕ) (at : ℕ)
    → chosen (λ bs. test (front (drop (length w) bs))) (then_read (read_fixed (w ++ a)) (λ _ _. f)) (then_read (read_fixed (w ++ b)) (λ _ _. g)) bytes at
    ≡ then_read (read_fixed w) (λ _ _. chosen (λ bs. test (front bs)) (then_read (read_fixed a) (λ _ _. f)) (then_read (read_fixed b) (λ _ _. g))) bytes at
unfolding read_fixed
shared_as [] a b test f g bytes at = refl
shared_as (c ∷ w) a b test f g [] at = one_way (test 0) (Faulty at Syntax)
shared_as {X} (c ∷ w) a b test f g (e ∷ bytes) at = by (e == c) (shared_as w a b test f g bytes (at + 1))
  where
    by : (t : Bool)
        → (if test (front (drop (length w) bytes)) then next (read_fixed (w ++ a) bytes (at + 1)) (λ _ p k. f k p) else next (read_fixed (w ++ b) bytes (at + 1)) (λ _ p k. g k p)) ≡ next (read_fixed w bytes (at + 1)) (λ _ p k. chosen (λ bs. test (front bs)) (then_read (read_fixed a) (λ _ _. f)) (then_read (read_fixed b) (λ _ _. g)) k p)
        → (if test (front (drop (length w) bytes)) then next {A = Unit {0}} {B = X} (if t then read_fixed (w ++ a) bytes (at + 1) else Faulty at Syntax) (λ _ p k. f k p) else next {A = Unit {0}} {B = X} (if t then read_fixed (w ++ b) bytes (at + 1) else Faulty at Syntax) (λ _ p k. g k p))
        ≡ next {A = Unit {0}} {B = X} (if t then read_fixed w bytes (at + 1) else Faulty at Syntax) (λ _ p k. chosen (λ bs. test (front bs)) (then_read (read_fixed a) (λ _ _. f)) (then_read (read_fixed b) (λ _ _. g)) k p)
    by true again = again
    by false again = one_way (test (front (drop (length w) bytes))) (Faulty at Syntax)

pub shared_local : {X : Type 0} (w a b : List ℕ) (test : ℕ → Bool) (f g : Reader X) → IsLocal f → IsLocal g → IsLocal (chosen (λ bs. test (front (drop (length w) bs))) (then_read (read_fixed (w ++ a)) (λ _ _. f)) (then_read (read_fixed (w ++ b)) (λ _ _. g)))
shared_local w a b test f g first second =
    let one = then_read (read_fixed a) (λ _ _. f) in
    let other = then_read (read_fixed b) (λ _ _. g) in
    same_local (chosen (λ bs. test (front (drop (length w) bs))) (then_read (read_fixed (w ++ a)) (λ _ _. f)) (then_read (read_fixed (w ++ b)) (λ _ _. g))) (then_read (read_fixed w) (λ _ _. chosen (λ bs. test (front bs)) one other)) (shared_as w a b test f g)
    (next_local (read_fixed w) (λ _ _. chosen (λ bs. test (front bs)) one other) (fixed_local w)
    (λ _ _. choice_local test one other (next_local (read_fixed a) (λ _ _. f) (fixed_local a) (λ _ _. first)) (next_local (read_fixed b) (λ _ _. g) (fixed_local b) (λ _ _. second))))

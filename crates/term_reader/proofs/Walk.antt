-- Bytes are read one by one.
use Rattle.std.proofs.Common.{◌≡◌, ℕ, zero, suc, ◌+◌, ◌<◌, ◌≤◌, Bool, List, [], ◌∷◌, length, drop, get_or, refl, sym, ◌∙◌, ap, arith, add-one}
use Rattle.spec_calculus.specs.Syntax as calculus
use Rattle.spec_terms.specs.Term.{Term}
use Rattle.spec_certificate_text.specs.Terms.{Code, Reading, Goes, Ends, Fault}
use Rattle.spec_certificate_text.specs.Steps.{step}
use Rattle.spec_certificate_text.specs.Runs.{Read, Done, Refused, followed, at_end, read_on}

pub next_byte : (bytes : List ℕ) (place : ℕ) → place < length bytes → drop place bytes ≡ get_or bytes place 0 ∷ drop (place + 1) bytes
next_byte [] place below = absurd (omega (arith, below))
next_byte (b ∷ bytes) zero below = refl
next_byte (b ∷ bytes) (suc place) below = rw add-one (rw add-one at (next_byte bytes place (omega (arith, below))))

pub all_dropped : (bytes : List ℕ) (place : ℕ) → length bytes ≤ place → drop place bytes ≡ []
all_dropped [] zero past = refl
all_dropped [] (suc place) past = refl
all_dropped (b ∷ bytes) zero past = absurd (omega (arith, past))
all_dropped (b ∷ bytes) (suc place) past = all_dropped bytes place (omega (arith, past))

one_step : (binds : Bool) (P : calculus.Protocol) (bytes : List ℕ) (place : ℕ) (r : Reading) → place < length bytes → read_on binds P (drop place bytes) place r ≡ followed (read_on binds P (drop (place + 1) bytes) (place + 1)) place (drop place bytes) (step binds P place r (get_or bytes place 0))
one_step binds P bytes place r below =
    ap (λ bs. read_on binds P bs place r) (next_byte bytes place below)
    ∙ ap (λ bs. followed (read_on binds P (drop (place + 1) bytes) (place + 1)) place bs (step binds P place r (get_or bytes place 0))) (sym (next_byte bytes place below))

pub went_on : (binds : Bool) (P : calculus.Protocol) (bytes : List ℕ) (place : ℕ) (r q : Reading) (x : Read) → read_on binds P (drop place bytes) place r ≡ x → place < length bytes → Goes q ≡ step binds P place r (get_or bytes place 0) → read_on binds P (drop (place + 1) bytes) (place + 1) q ≡ x
went_on binds P bytes place r q x so_far below is = ap (followed (read_on binds P (drop (place + 1) bytes) (place + 1)) place (drop place bytes)) is ∙ (sym (one_step binds P bytes place r below) ∙ so_far)

pub ended : (binds : Bool) (P : calculus.Protocol) (bytes : List ℕ) (place : ℕ) (r : Reading) (t : Term) (x : Read) → read_on binds P (drop place bytes) place r ≡ x → place < length bytes → Ends t ≡ step binds P place r (get_or bytes place 0) → Done t place (drop place bytes) ≡ x
ended binds P bytes place r t x so_far below is = ap (followed (read_on binds P (drop (place + 1) bytes) (place + 1)) place (drop place bytes)) is ∙ (sym (one_step binds P bytes place r below) ∙ so_far)

pub refused : (binds : Bool) (P : calculus.Protocol) (bytes : List ℕ) (place : ℕ) (r : Reading) (at : ℕ) (code : Code) (x : Read) → read_on binds P (drop place bytes) place r ≡ x → place < length bytes → Fault at code ≡ step binds P place r (get_or bytes place 0) → Refused at code ≡ x
refused binds P bytes place r at code x so_far below is = ap (followed (read_on binds P (drop (place + 1) bytes) (place + 1)) place (drop place bytes)) is ∙ (sym (one_step binds P bytes place r below) ∙ so_far)

pub at_last : (binds : Bool) (P : calculus.Protocol) (bytes : List ℕ) (place : ℕ) (r : Reading) (x : Read) → read_on binds P (drop place bytes) place r ≡ x → length bytes ≤ place → at_end place r.heads r.from r.mode ≡ x
at_last binds P bytes place r x so_far past = sym (ap (λ bs. read_on binds P bs place r) (all_dropped bytes place past)) ∙ so_far

pub ruleset walk = (all_dropped, went_on, ended, refused, at_last)

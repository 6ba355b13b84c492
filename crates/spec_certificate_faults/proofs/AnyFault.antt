-- Where a fault of a term stands, a fault is told that does not stand after it.
use Rattle.std.proofs.Common.{Bool, ℕ, suc, ◌≤◌, inl, inr, List, [], ◌∷◌, length, sym, ap, subst, arith, length-append}
use Rattle.spec_calculus.specs.Syntax.{Protocol}
use Rattle.spec_certificate_text.specs.OfProtocol.{HasNames}
use Rattle.spec_certificate_text.specs.Terms.{Code, Syntax, Number, Symbol, Arity, Count, NodeOrder, NodeLarge, Open, Begins}
use Rattle.spec_certificate_text.proofs.Complete.{reading}
use Rattle.spec_certificate_faults.specs.TermFaults.{TermFault, StandsInTerm}
use Rattle.spec_certificate_faults.proofs.Comes.{either, StandsBefore}
use Rattle.spec_certificate_faults.proofs.Fronts.{front_read}
use Rattle.spec_certificate_faults.proofs.Told.{IsTold, told_behind, told_sooner, number_told, symbol_told}
use Rattle.spec_certificate_faults.proofs.Deep.{count_told}
use Rattle.spec_certificate_faults.proofs.Misapplied.{misapplied_told}

-- there the term begins, or within it
there_within : (binds : Bool) (P : Protocol) (level : ℕ) (here : List ℕ) (code : Code) (there : List ℕ) → TermFault binds P level here code there → length there ≤ length here
there_within binds P level here Syntax there fault = absurd fault
there_within binds P level here Number there (inl fault) = omega (arith, ap length fault.text)
there_within binds P level here Number there (inr (inl fault)) = omega (arith, ap length fault.text)
there_within binds P level here Number there (inr (inr fault)) = omega (arith, ap length fault.text, length-append fault.word (64 ∷ there))
there_within binds P level here Symbol there fault = omega (arith, ap length fault.0)
there_within binds P level here Arity there fault = omega (arith, ap length fault.0)
there_within binds P level here Count there fault = omega (arith, ap length fault.0)
there_within binds P level here NodeOrder there fault = absurd fault
there_within binds P level here NodeLarge there fault = absurd fault

-- at this reading
told_here : (binds : Bool) (P : Protocol) → HasNames P → (here : List ℕ) (code : Code) (there : List ℕ) (heads : List Open) → TermFault binds P (suc (length heads)) here code there → (at from : ℕ) → StandsBefore heads at → IsTold binds P here at (reading heads Begins from) there code
told_here binds P names here Syntax there heads fault at from before = absurd fault
told_here binds P names here Number there heads fault at from before = number_told binds P here there fault at heads from before
told_here binds P names here Symbol there heads fault at from before = subst (λ k. IsTold binds P here at (reading heads Begins from) k Symbol) (sym fault.0) (symbol_told binds P here fault.1 at heads from before)
told_here binds P names here Arity there heads fault at from before = subst (λ k. IsTold binds P here at (reading heads Begins from) k Arity) (sym fault.0) (misapplied_told binds P names here heads fault.1 at from before)
told_here binds P names here Count there heads fault at from before = subst (λ k. IsTold binds P here at (reading heads Begins from) k Count) (sym fault.0) (count_told binds P here heads fault.1 at from before)
told_here binds P names here NodeOrder there heads fault at from before = absurd fault
told_here binds P names here NodeLarge there heads fault at from before = absurd fault

pub term_fault_told : (binds : Bool) (P : Protocol) → HasNames P → (bytes : List ℕ) (at : ℕ) (there : List ℕ) (code : Code) → StandsInTerm binds P code bytes there → IsTold binds P bytes at (reading [] Begins at) there code
term_fault_told binds P names bytes at there code is =
    either (front_read binds P bytes at is.level is.here is.may)
    (λ stopped. told_sooner binds P bytes at (reading [] Begins at) is.here there code (there_within binds P is.level is.here code there is.fault) stopped)
    (λ front. told_behind binds P bytes at (reading [] Begins at) is.here (reading front.heads Begins front.from) there code front.through
    (told_here binds P names is.here code there front.heads (subst (λ n. TermFault binds P n is.here code there) (sym front.above) is.fault) front.through.place front.from front.before))

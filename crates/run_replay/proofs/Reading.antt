-- What is read so far, and what is left.
use Rattle.std.proofs.Common.{◌≡◌, ℕ, ◌+◌, ◌<◌, ◌≤◌, Bool, true, false, List, [], ◌∷◌, ◌++◌, length, refl, sym, ◌∙◌, ap, arith, append_assoc, append-nil, Option, Some, None, Result, Ok, Err, Bor}
use Rattle.std.specs.Prelude.{◌==◌, unwrap_or, option_copied, IfSome}
use Rattle.std.specs.List.{before_first, position_or_len}
use Rattle.std.proofs.lemmas.Bool.{eqb-true}
use Rattle.std.proofs.lemmas.Bool.Decides.{nat_tests}
use Rattle.spec_calculus.specs.Runs.{Step}
use Rattle.spec_run_text.specs.Lines.{lines}
use Rattle.spec_run_text.specs.Faults.{Fault}
use Rattle.spec_run_text.specs.Text.{IsRefused}
use Rattle.spec_run_text.specs.Reading.{read_line, preceded, read_lines, reading}
use Rattle.run_replay.specs.Cut.{behind_first}
use Rattle.run_replay.proofs.Fields.{take_more}

-- these steps, and then the others, or their refusal
abbrev pub after_steps : List Step → Result (List Step) (Fault × ℕ) → Result (List Step) (Fault × ℕ)
after_steps steps (Ok more) = Ok (steps ++ more)
after_steps steps (Err refusal) = Err refusal

-- so far these steps are read, and the line that is next has that number
pub record IsSoFar (source : List ℕ) (number : ℕ) (steps : List Step) (rest : List ℕ) : Type 0 where
  pub reads : reading source ≡ after_steps steps (read_lines number (lines rest))
  pub counts : number + length rest ≤ 1 + length source

first_by : (b : ℕ) (bytes : List ℕ) (test : Bool) → (b == 10) ≡ test → (0 < length bytes → lines bytes ≡ before_first (λ x. x == 10) bytes ∷ lines (unwrap_or (behind_first (λ x. x == 10) bytes) [])) → lines (b ∷ bytes) ≡ before_first (λ x. x == 10) (b ∷ bytes) ∷ lines (unwrap_or (behind_first (λ x. x == 10) (b ∷ bytes)) [])
first_by b bytes true here later = rw here refl
first_by b [] false here later = rw here refl
first_by b (c ∷ bytes) false here later =
    rw (here, take_more (position_or_len (λ x. x == 10) (c ∷ bytes)) b (c ∷ bytes), later (omega arith)) refl

-- the first line stands before the first line feed, and the others behind it
pub lines-cut : (bytes : List ℕ) → 0 < length bytes → lines bytes ≡ before_first (λ x. x == 10) bytes ∷ lines (unwrap_or (behind_first (λ x. x == 10) bytes) [])
lines-cut [] some = absurd (omega arith)
lines-cut (b ∷ bytes) some = first_by b bytes (b == 10) refl (lines-cut bytes)

none_so_far : (r : Result (List Step) (Fault × ℕ)) → r ≡ after_steps [] r
none_so_far (Ok steps) = refl
none_so_far (Err refusal) = refl

-- nothing is read yet
pub IsSoFar-none : (source : List ℕ) → IsSoFar source 1 [] source
IsSoFar-none source = record { reads = none_so_far (reading source); counts = omega arith }

one_so_far : (steps : List Step) (number : ℕ) (step : Step) (r : Result (List Step) (Fault × ℕ)) → after_steps steps (preceded number (Ok step) r) ≡ after_steps (steps ++ step ∷ []) r
one_so_far steps number step (Ok more) = ap Ok (sym (append_assoc steps (step ∷ []) more))
one_so_far steps number step (Err refusal) = refl

-- one more line is read
pub IsSoFar-push : (source : List ℕ) (number : ℕ) (steps : List Step) (rest : List ℕ) (step : Step) → IsSoFar source number steps rest → 0 < length rest → read_line (before_first (λ x. x == 10) rest) ≡ Ok step → length (unwrap_or (behind_first (λ x. x == 10) rest) []) < length rest → IsSoFar source (number + 1) (steps ++ step ∷ []) (unwrap_or (behind_first (λ x. x == 10) rest) [])
IsSoFar-push source number steps rest step so_far some read shorter = record {
  reads = so_far.reads ∙ rw (lines-cut rest some, read) (one_so_far steps number step (read_lines (number + 1) (lines (unwrap_or (behind_first (λ x. x == 10) rest) []))));
  counts = omega (arith, so_far.counts, shorter);
}

-- all is read
pub IsSoFar-end : (source : List ℕ) (number : ℕ) (steps : List Step) (rest : List ℕ) → IsSoFar source number steps rest → length rest ≡ 0 → reading source ≡ Ok steps
IsSoFar-end source number steps [] so_far none = so_far.reads ∙ ap Ok (append-nil steps)
IsSoFar-end source number steps (b ∷ rest) so_far none = absurd (omega (arith, none))

-- the next line is refused
pub IsSoFar-stop : (source : List ℕ) (number : ℕ) (steps : List Step) (rest : List ℕ) (fault : Fault) → IsSoFar source number steps rest → 0 < length rest → read_line (before_first (λ x. x == 10) rest) ≡ Err fault → reading source ≡ Err (fault, number)
IsSoFar-stop source number steps rest fault so_far some read = so_far.reads ∙ rw (lines-cut rest some, read) refl

-- what stands behind a cut, or nothing, as a slice
pub behind_or_nothing : (behind : Option (Bor (List ℕ))) (nothing : Bor (List ℕ)) → (unwrap_or behind nothing).now ≡ unwrap_or (option_copied behind) nothing.now
behind_or_nothing None nothing = refl
behind_or_nothing (Some rest) nothing = refl

pub behind_is_shorter : (behind : Option (Bor (List ℕ))) (bytes : List ℕ) → IfSome behind (λ rest. length rest.now < length bytes) → 0 < length bytes → length (unwrap_or (option_copied behind) []) < length bytes
behind_is_shorter None bytes shorter some = some
behind_is_shorter (Some rest) bytes shorter some = shorter

-- the fault that is answered, if one is, is what is computed of the bytes
abbrev pub IsFaultOf : List ℕ → Option (Fault × ℕ) → Type 0
IsFaultOf source answered = IfSome answered (λ refusal. reading source ≡ Err refusal)

pub fault_from_line : (source : List ℕ) (number : ℕ) (steps : List Step) (rest line : List ℕ) (answered : Option (Fault × ℕ)) → IsSoFar source number steps rest → 0 < length rest → line ≡ before_first (λ x. x == 10) rest → IfSome answered (λ refusal. (read_line line ≡ Err refusal.0) × (refusal.1 ≡ number)) → IsFaultOf source answered
fault_from_line source number steps rest line None so_far some front read = tt
fault_from_line source number steps rest line (Some refusal) so_far some front read =
    IsSoFar-stop source number steps rest refusal.0 so_far some (ap read_line (sym front) ∙ read.0) ∙ ap (λ n. Err (refusal.0, n)) (sym read.1)

-- and so bytes that spell steps are answered no fault
pub no_fault : (source : List ℕ) (steps : List Step) (answered : Option (Fault × ℕ)) → IsFaultOf source answered → reading source ≡ Ok steps → answered ≡ None
no_fault source steps None is e = refl
no_fault source steps (Some refusal) is e = let f = sym e ∙ is in cc f

-- and those that are refused no other
pub that_fault : (source : List ℕ) (fault : Fault) (number : ℕ) (answered : Option (Fault × ℕ)) → IsFaultOf source answered → reading source ≡ Err (fault, number) → IfSome answered (λ refusal. (refusal.0 ≡ fault) × (refusal.1 ≡ number))
that_fault source fault number None is e = tt
that_fault source fault number (Some refusal) is e =
    let f : Err refusal ≡ Err (fault, number) = sym is ∙ e in
    let same : refusal ≡ (fault, number) = cc f in
    (ap (λ r. r.0) same, ap (λ r. r.1) same)

pub refused_at : (source : List ℕ) (answered : Option (Fault × ℕ)) → ((fault : Fault) (number : ℕ) → reading source ≡ Err (fault, number) → IsRefused source fault number) → IsFaultOf source answered → IfSome answered (λ refusal. IsRefused source refusal.0 refusal.1)
refused_at source None law is = tt
refused_at source (Some refusal) law is = law refusal.0 refusal.1 is

-- bytes that are not empty
pub some_left : (rest : List ℕ) (empty : Bool) → empty ≡ (length rest == 0) → empty ≡ false → 0 < length rest
some_left rest empty is false_is = let h : (length rest == 0) ≡ false = sym is ∙ false_is in grind (arith, nat_tests)

-- bytes that are
pub none_left : (rest : List ℕ) (empty : Bool) → empty ≡ (length rest == 0) → empty ≡ true → length rest ≡ 0
none_left rest empty is true_is = eqb-true (length rest) 0 (sym is ∙ true_is)

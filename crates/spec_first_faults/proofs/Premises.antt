-- Premises of clauses: a reader of them, and of `=> ` behind them, tells their first fault.
use Rattle.std.proofs.Common.{◌≡◌, ℕ, zero, suc, ◌+◌, ◌≤◌, ◌==◌, inl, inr, if◌then◌else◌, Bool, true, false, List, [], ◌∷◌, ◌++◌, length, codes, refl, sym, ◌∙◌, ap, arith}
use Rattle.spec_calculus.specs.Syntax.{Protocol}
use Rattle.spec_terms.specs.Term.{Term}
use Rattle.spec_clauses.specs.Fact.{Fact}
use Rattle.spec_certificate_text.specs.Sides.{SidesOf}
use Rattle.spec_certificate_text.specs.OfProtocol.{HasNames}
use Rattle.spec_certificate_text.specs.Terms.{Code, Syntax}
use Rattle.spec_certificate_text.specs.Outcomes.{Outcome, Found, Faulty, next, Reader, front, read_fixed, things_from, things}
use Rattle.spec_certificate_text.specs.Facts.{read_hypothesis, read_diff}
use Rattle.spec_certificate_text.specs.Clauses.{one_diff, Premises, some_premises, read_premises}
use Rattle.spec_reading_faults.proofs.Shared.{IsLocal, next_local, moves_first, choice_local}
use Rattle.spec_reading_faults.proofs.Parts.{same_local, things_local}
use Rattle.spec_reading_faults.proofs.Facts.{closing_local, diff_local, diff_moves}
use Rattle.spec_reading_faults.proofs.Premises.{made_of, spaced_diffs, no_diffs, diffs_or, behind_hypothesis, premises_from, premises_ahead, some_premises-local}
use Rattle.spec_certificate_faults.specs.First.{Kind}
use Rattle.spec_first_faults.specs.Kinds.{fixed, behind, one_of, last, further, in_last, in_one, later, many, TextOfMany, FaultAmong}
use Rattle.spec_first_faults.specs.Facts.{hypotheses, diffs}
use Rattle.spec_first_faults.specs.Clauses.{constraints, premises}
use Rattle.spec_first_faults.proofs.Tells.{Anything, Forms, Tells, IsSameKind, mapped, mapped_tells, same_tells, kind_tells, tells_of, each_length_tells, shorter}
use Rattle.spec_first_faults.proofs.Behind.{then_read, both_forms, both_tell}
use Rattle.spec_first_faults.proofs.OneOf.{chosen, IsToldBy, one_of_forms, one_of_tells, told_by_front, told_by_fixed, told_alone}
use Rattle.spec_first_faults.proofs.Small.{fixed_forms, fixed_tells}
use Rattle.spec_first_faults.proofs.Closed.{closed_by, closed_tells, behind_fixed-forms, closed_forms}
use Rattle.spec_first_faults.proofs.Many.{next_both, many_forms, behind_told}
use Rattle.spec_first_faults.proofs.Rows.{separated, none_tells, row_tells}
use Rattle.spec_first_faults.proofs.Facts.{front_tells, hypotheses_tell, hypothesis_front}
use Rattle.spec_first_faults.proofs.Diffs.{diffs_tell}

-- bytes behind bytes are read as all of them
pub fixed_joined : {B : Type 0} (v w bytes : List ℕ) (at : ℕ) (f : Unit {0} → ℕ → List ℕ → Outcome B) → next (read_fixed v bytes at) (λ _ p r. next (read_fixed w r p) f) ≡ next (read_fixed (v ++ w) bytes at) f
unfolding read_fixed
fixed_joined [] w bytes at f = refl
fixed_joined (b ∷ v) w [] at f = refl
fixed_joined {B} (b ∷ v) w (c ∷ bytes) at f = by (c == b) (fixed_joined v w bytes (at + 1) f)
  where
    by : (t : Bool) → next (read_fixed v bytes (at + 1)) (λ _ p r. next (read_fixed w r p) f) ≡ next (read_fixed (v ++ w) bytes (at + 1)) f
        → next {A = Unit {0}} {B = B} (if t then read_fixed v bytes (at + 1) else Faulty at Syntax) (λ _ p r. next (read_fixed w r p) f) ≡ next {A = Unit {0}} {B = B} (if t then read_fixed (v ++ w) bytes (at + 1) else Faulty at Syntax) f
    by true again = again
    by false again = refl

-- a space and `=> ` are one
arrow_as : {A : Type 0} (x : A) (k : List ℕ) (p : ℕ) → next (read_fixed (codes " ") k p) (λ _ q j. next (read_fixed (codes "=> ") j q) (λ _ z i. Found x z i)) ≡ next (read_fixed (codes " => ") k p) (λ _ q j. Found x q j)
arrow_as x k p = fixed_joined (codes " ") (codes "=> ") k p (λ _ q j. Found x q j)

-- Constraints in a row.

-- behind one: `, ` where another follows, or ` => `
abbrev behind_closed : SidesOf Term → Reader (SidesOf Term × Bool)
behind_closed d bytes at = if front bytes == 44 then next (read_fixed (44 ∷ 32 ∷ []) bytes at) (λ _ q r. Found (d, true) q r) else next (read_fixed (32 ∷ codes "=> ") bytes at) (λ _ q r. Found (d, false) q r)

abbrev one_closed : Protocol → Reader (SidesOf Term × Bool)
one_closed P = separated (read_diff P) 44 (32 ∷ []) (32 ∷ codes "=> ")

behind_closed-local : (d : SidesOf Term) → IsLocal (behind_closed d)
behind_closed-local d =
    choice_local (λ b. b == 44) (λ bytes p. next (read_fixed (44 ∷ 32 ∷ []) bytes p) (λ _ q r. Found (d, true) q r)) (λ bytes p. next (read_fixed (32 ∷ codes "=> ") bytes p) (λ _ q r. Found (d, false) q r))
    (closing_local (44 ∷ 32 ∷ []) (d, true)) (closing_local (32 ∷ codes "=> ") (d, false))

one_closed-local : (P : Protocol) → IsLocal (things (one_closed P))
one_closed-local P =
    things_local (one_closed P) (next_local (read_diff P) (λ at d. behind_closed d) (diff_local P) (λ at d. behind_closed-local d)) (moves_first (read_diff P) (λ at d. behind_closed d) (diff_moves P) (λ at d. behind_closed-local d))

constraints_tell : (P : Protocol) → HasNames P → Tells ⊥ (constraints P) Anything Anything (things (one_closed P))
constraints_tell P names =
    row_tells (diffs P) Anything 44 (32 ∷ []) 32 (codes "=> ") (read_diff P) (one_closed P) (λ bytes at. refl) (one_closed-local P) (diffs_tell P names) record { apart = refl; comma = λ rest. tt; close = λ rest. tt }

abbrev arrow_behind : {A : Type 0} → A → ℕ → List ℕ → Outcome A
arrow_behind x p k = next (read_fixed (codes " => ") k p) (λ _ q j. Found x q j)

-- what comes of a thing behind these
abbrev taken : {A : Type 0} → Reader (A × Bool) → ℕ → List A → A × Bool → ℕ → List ℕ → Outcome (List A)
taken r most xs x p k = if x.1 then things_from r most (xs ++ x.0 ∷ []) k p else Found (xs ++ x.0 ∷ []) p k

-- ` => ` behind all, or behind the last
abbrev IsClosedSo : Protocol → ℕ → List (SidesOf Term) → Type 0
IsClosedSo P most xs = (k : List ℕ) (p : ℕ) → next (things_from (one_diff P) most xs k p) (λ ds q j. arrow_behind ds q j) ≡ things_from (one_closed P) most xs k p

closed_another : (P : Protocol) (most : ℕ) (xs : List (SidesOf Term)) (d : SidesOf Term) → IsClosedSo P most (xs ++ d ∷ []) → (o : Outcome (Unit {0}))
    → next (next (next o (λ _ q j. Found (d, true) q j)) (taken (one_diff P) most xs)) (λ ds q j. arrow_behind ds q j) ≡ next (next o (λ _ q j. Found (d, true) q j)) (taken (one_closed P) most xs)
closed_another P most xs d again (Faulty p c) = refl
closed_another P most xs d again (Found u p k) = again k p

closed_none : (P : Protocol) (most : ℕ) (xs : List (SidesOf Term)) (d : SidesOf Term) (o : Outcome (Unit {0})) → next o (λ _ q j. Found (xs ++ d ∷ []) q j) ≡ next (next o (λ _ q j. Found (d, false) q j)) (taken (one_closed P) most xs)
closed_none P most xs d (Faulty p c) = refl
closed_none P most xs d (Found u p k) = refl

closed_either : (P : Protocol) (most : ℕ) (xs : List (SidesOf Term)) (d : SidesOf Term) → IsClosedSo P most (xs ++ d ∷ []) → (p : ℕ) (k : List ℕ) (t : Bool)
    → next (next (if t then next (read_fixed (codes ", ") k p) (λ _ q j. Found (d, true) q j) else Found (d, false) p k) (taken (one_diff P) most xs)) (λ ds q j. arrow_behind ds q j)
    ≡ next (if t then next (read_fixed (44 ∷ 32 ∷ []) k p) (λ _ q j. Found (d, true) q j) else next (read_fixed (32 ∷ codes "=> ") k p) (λ _ q j. Found (d, false) q j)) (taken (one_closed P) most xs)
closed_either P most xs d again p k true = closed_another P most xs d again (read_fixed (codes ", ") k p)
closed_either P most xs d again p k false = closed_none P most xs d (read_fixed (codes " => ") k p)

closed_one : (P : Protocol) (most : ℕ) (xs : List (SidesOf Term)) → ((d : SidesOf Term) → IsClosedSo P most (xs ++ d ∷ [])) → (o : Outcome (SidesOf Term))
    → next (next (next o (λ d p k. if front k == 44 then next (read_fixed (codes ", ") k p) (λ _ q j. Found (d, true) q j) else Found (d, false) p k)) (taken (one_diff P) most xs)) (λ ds q j. arrow_behind ds q j)
    ≡ next (next o (λ d p k. behind_closed d k p)) (taken (one_closed P) most xs)
closed_one P most xs again (Faulty p c) = refl
closed_one P most xs again (Found d p k) = closed_either P most xs d (again d) p k (front k == 44)

closed_row : (P : Protocol) (most : ℕ) (xs : List (SidesOf Term)) → IsClosedSo P most xs
unfolding things_from
closed_row P zero xs bytes at = refl
closed_row P (suc most) xs bytes at = closed_one P most xs (λ d. closed_row P most (xs ++ d ∷ [])) (read_diff P bytes at)

-- `=> ` behind premises
abbrev pub arrowed : Reader Premises → Reader Premises
arrowed r = then_read r (λ _ ps. closed_by (codes "=> ") ps)

-- constraints, and `=> ` behind them
arrowed_diffs : (P : Protocol) (hs : List (Fact Term)) (bytes : List ℕ) (at : ℕ) → arrowed (spaced_diffs P hs) bytes at ≡ mapped (λ ds. made_of hs ds) (things (one_closed P)) bytes at
unfolding spaced_diffs
arrowed_diffs P hs bytes at =
    by (things_from (one_diff P) (length bytes) [] bytes at) ∙ ap (λ o. next o (λ ds p k. Found (made_of hs ds) p k)) (closed_row P (length bytes) [] bytes at)
  where
    closes : (ds : List (SidesOf Term)) (o : Outcome (Unit {0}))
        → next (next o (λ _ q j. Found (made_of hs ds) q j)) (λ ps p k. next (read_fixed (codes "=> ") k p) (λ _ q j. Found ps q j)) ≡ next o (λ _ q j. next (read_fixed (codes "=> ") j q) (λ _ z i. Found (made_of hs ds) z i))
    closes ds (Faulty p c) = refl
    closes ds (Found u p k) = refl

    made : (ds : List (SidesOf Term)) (o : Outcome (Unit {0})) → next o (λ _ q j. Found (made_of hs ds) q j) ≡ next (next o (λ _ q j. Found ds q j)) (λ es p k. Found (made_of hs es) p k)
    made ds (Faulty p c) = refl
    made ds (Found u p k) = refl

    by : (o : Outcome (List (SidesOf Term)))
        → next (next o (λ ds p k. next (read_fixed (codes " ") k p) (λ _ q j. Found (made_of hs ds) q j))) (λ ps p k. next (read_fixed (codes "=> ") k p) (λ _ q j. Found ps q j))
        ≡ next (next o (λ ds p k. next (read_fixed (codes " => ") k p) (λ _ q j. Found ds q j))) (λ ds p k. Found (made_of hs ds) p k)
    by (Faulty p c) = refl
    by (Found ds p k) = closes ds (read_fixed (codes " ") k p) ∙ (arrow_as (made_of hs ds) k p ∙ made ds (read_fixed (codes " => ") k p))

diffs_read-tell : (P : Protocol) → HasNames P → (hs : List (Fact Term)) → Tells ⊥ (constraints P) Anything Anything (arrowed (spaced_diffs P hs))
diffs_read-tell P names hs =
    same_tells (constraints P) Anything Anything (arrowed (spaced_diffs P hs)) (mapped (λ ds. made_of hs ds) (things (one_closed P))) (arrowed_diffs P hs)
    (mapped_tells (constraints P) Anything Anything (things (one_closed P)) (λ ds. made_of hs ds) (constraints_tell P names))

-- Hypotheses, and then constraints.

abbrev last_one : Protocol → Kind
last_one P = one_of (behind (hypotheses P) (fixed (codes " => "))) (constraints P)

abbrev some_of : Protocol → Kind
some_of P = many (behind (hypotheses P) (fixed (codes ", "))) (last_one P)

-- what stands behind a hypothesis
abbrev behind_one : Protocol → Kind
behind_one P = one_of (behind (fixed (codes ", ")) (some_of P)) (fixed (codes " => "))

-- constraints, or a hypothesis and what stands behind it
abbrev in_order : Protocol → Kind
in_order P = one_of (constraints P) (behind (hypotheses P) (behind_one P))

order_text : (P : Protocol) (bytes rest : List ℕ) → (in_order P).Text bytes rest → TextOfMany (behind (hypotheses P) (fixed (codes ", "))) (last_one P) bytes rest
order_text P bytes rest (inl ds) = last (inr ds)
order_text P bytes rest (inr (mid, one, inl (inner, comma, more))) = further inner (mid, one, comma) more
order_text P bytes rest (inr (mid, one, inr arrow)) = last (inl (mid, one, arrow))

order_text-back : (P : Protocol) (bytes rest : List ℕ) → TextOfMany (behind (hypotheses P) (fixed (codes ", "))) (last_one P) bytes rest → (in_order P).Text bytes rest
order_text-back P bytes rest (last (inl (mid, one, arrow))) = inr (mid, one, inr arrow)
order_text-back P bytes rest (last (inr ds)) = inl ds
order_text-back P bytes rest (further inner (mid, one, comma) more) = inr (mid, one, inl (inner, comma, more))

order_fault : (P : Protocol) (code : Code) (bytes there : List ℕ) → (in_order P).Fault code bytes there → FaultAmong (behind (hypotheses P) (fixed (codes ", "))) (last_one P) code bytes there
order_fault P code bytes there (inl fault) = in_last (inr fault)
order_fault P code bytes there (inr (inl fault)) = in_one (inl fault)
order_fault P code bytes there (inr (inr (mid, one, inl (inl never)))) = absurd never
order_fault P code bytes there (inr (inr (mid, one, inl (inr (inner, comma, fault))))) = later inner (mid, one, comma) fault
order_fault P code bytes there (inr (inr (mid, one, inr never))) = absurd never

order_fault-back : (P : Protocol) (code : Code) (bytes there : List ℕ) → FaultAmong (behind (hypotheses P) (fixed (codes ", "))) (last_one P) code bytes there → (in_order P).Fault code bytes there
order_fault-back P code bytes there (in_last (inl (inl fault))) = inr (inl fault)
order_fault-back P code bytes there (in_last (inl (inr (mid, one, never)))) = absurd never
order_fault-back P code bytes there (in_last (inr fault)) = inl fault
order_fault-back P code bytes there (in_one (inl fault)) = inr (inl fault)
order_fault-back P code bytes there (in_one (inr (mid, one, never))) = absurd never
order_fault-back P code bytes there (later inner (mid, one, comma) fault) = inr (inr (mid, one, inl (inr (inner, comma, fault))))

order_is : (P : Protocol) → IsSameKind (in_order P) (some_of P)
order_is P = record { text = order_text P; text_back = order_text-back P; fault = order_fault P; fault_back = order_fault-back P }

some_forms : (P : Protocol) → HasNames P → Forms ⊥ (some_of P) Anything
some_forms P names =
    let forms = (hypotheses_tell P names).forms in
    many_forms (behind (hypotheses P) (fixed (codes ", "))) (last_one P) Anything Anything (closed_forms (hypotheses P) Anything (codes ", ") forms (λ rest. tt))
    (one_of_forms (behind (hypotheses P) (fixed (codes " => "))) (constraints P) Anything (closed_forms (hypotheses P) Anything (codes " => ") forms (λ rest. tt)) (constraints_tell P names).forms)
    record { one = λ bytes rest text. tt; other = λ bytes rest text. tt }

behind_one-forms : (P : Protocol) → HasNames P → Forms ⊥ (behind_one P) Anything
behind_one-forms P names = one_of_forms (behind (fixed (codes ", ")) (some_of P)) (fixed (codes " => ")) Anything (behind_fixed-forms (codes ", ") (some_of P) Anything (some_forms P names)) (fixed_forms (codes " => "))

-- How they begin.

constraints_front : (P : Protocol) (test : ℕ → Bool) (is : Bool) → test 100 ≡ is → (bytes rest : List ℕ) → (constraints P).Text bytes rest → test (front bytes) ≡ is
constraints_front P test is told bytes rest (last (mid, one, text)) = ap (λ bs. test (front bs)) one.1 ∙ told
constraints_front P test is told bytes rest (further inner (mid, one, text) more) = ap (λ bs. test (front bs)) one.1 ∙ told

some_front : (P : Protocol) (bytes rest : List ℕ) → (some_of P).Text bytes rest → (front bytes == 61) ≡ false
some_front P bytes rest (last (inl (mid, one, text))) = (hypothesis_front P 61 refl refl refl refl).texts bytes mid one
some_front P bytes rest (last (inr ds)) = constraints_front P (λ b. b == 61) false refl bytes rest ds
some_front P bytes rest (further inner (mid, one, text) more) = (hypothesis_front P 61 refl refl refl refl).texts bytes mid one

constraints_told : (P : Protocol) → HasNames P → IsToldBy (constraints P) (λ bs. front bs == 100) true
constraints_told P names = told_by_front (constraints P) Anything (λ b. b == 100) true (constraints_tell P names).forms (constraints_front P (λ b. b == 100) true refl)

hypothesis_told : (P : Protocol) → IsToldBy (behind (hypotheses P) (behind_one P)) (λ bs. front bs == 100) false
hypothesis_told P = behind_told (hypotheses P) (behind_one P) (λ bs. front bs == 100) false (hypothesis_front P 100 refl refl refl refl)

-- Behind hypotheses that were read.

abbrev behind_read : Protocol → (List (Fact Term) → Reader Premises) → List (Fact Term) → Reader Premises
behind_read P again hs = chosen (λ bs. front bs == 44) (then_read (read_fixed (codes ", ")) (λ _ _. arrowed (diffs_or P again hs))) (closed_by (codes " => ") (made_of hs []))

arrowed_behind : (P : Protocol) (again : List (Fact Term) → Reader Premises) (hs : List (Fact Term)) (k : List ℕ) (p : ℕ) → arrowed (behind_hypothesis P again hs) k p ≡ behind_read P again hs k p
unfolding behind_hypothesis no_diffs
arrowed_behind P again hs k p = by (front k == 44)
  where
    comma : (o : Outcome (Unit {0}))
        → next (next o (λ _ q j. diffs_or P again hs j q)) (λ ps q j. next (read_fixed (codes "=> ") j q) (λ _ z i. Found ps z i)) ≡ next o (λ _ q j. next (diffs_or P again hs j q) (λ ps z i. next (read_fixed (codes "=> ") i z) (λ _ y h. Found ps y h)))
    comma (Faulty q c) = refl
    comma (Found u q j) = refl

    space : (o : Outcome (Unit {0}))
        → next (next o (λ _ q j. Found (made_of hs []) q j)) (λ ps q j. next (read_fixed (codes "=> ") j q) (λ _ z i. Found ps z i)) ≡ next o (λ _ q j. next (read_fixed (codes "=> ") j q) (λ _ z i. Found (made_of hs []) z i))
    space (Faulty q c) = refl
    space (Found u q j) = refl

    by : (t : Bool)
        → next (if t then next (read_fixed (codes ", ") k p) (λ _ q j. diffs_or P again hs j q) else next (read_fixed (codes " ") k p) (λ _ q j. Found (made_of hs []) q j)) (λ ps q j. next (read_fixed (codes "=> ") j q) (λ _ z i. Found ps z i))
        ≡ (if t then next (read_fixed (codes ", ") k p) (λ _ q j. next (diffs_or P again hs j q) (λ ps z i. next (read_fixed (codes "=> ") i z) (λ _ y h. Found ps y h))) else next (read_fixed (codes " => ") k p) (λ _ q j. Found (made_of hs []) q j))
    by true = comma (read_fixed (codes ", ") k p)
    by false = space (read_fixed (codes " ") k p) ∙ arrow_as (made_of hs []) k p

arrowed_hypothesis : (P : Protocol) (most : ℕ) (hs : List (Fact Term)) (bytes : List ℕ) (at : ℕ)
    → arrowed (premises_from P (suc most) hs) bytes at ≡ then_read (read_hypothesis P) (λ _ h. behind_read P (premises_from P most) (hs ++ h ∷ [])) bytes at
unfolding premises_from
arrowed_hypothesis P most hs bytes at = by (read_hypothesis P bytes at)
  where
    by : (o : Outcome (Fact Term))
        → next (next o (λ h p k. behind_hypothesis P (premises_from P most) (hs ++ h ∷ []) k p)) (λ ps q j. next (read_fixed (codes "=> ") j q) (λ _ z i. Found ps z i))
        ≡ next o (λ h p k. behind_read P (premises_from P most) (hs ++ h ∷ []) k p)
    by (Faulty p c) = refl
    by (Found h p k) = arrowed_behind P (premises_from P most) (hs ++ h ∷ []) k p

-- the two ways on
abbrev or_constraints : Protocol → List (Fact Term) → Reader Premises → Reader Premises
or_constraints P hs r = chosen (λ bs. front bs == 100) (arrowed (spaced_diffs P hs)) r

arrowed_or : (P : Protocol) (again : List (Fact Term) → Reader Premises) (hs : List (Fact Term)) (bytes : List ℕ) (at : ℕ) → arrowed (diffs_or P again hs) bytes at ≡ or_constraints P hs (arrowed (again hs)) bytes at
unfolding diffs_or
arrowed_or P again hs bytes at = next_both (front bytes == 100) (spaced_diffs P hs bytes at) (again hs bytes at) (λ ps p k. closed_by (codes "=> ") ps k p)

or_tells : (P : Protocol) → HasNames P → (most : ℕ) (hs : List (Fact Term)) (r : Reader Premises) → Tells ⊥ (behind (hypotheses P) (behind_one P)) (λ bs. (length bs ≤ most) × ((front bs == 100) ≡ false)) Anything r
    → Tells ⊥ (some_of P) (λ bs. length bs ≤ most) Anything (or_constraints P hs r)
or_tells P names most hs r second =
    let is_d = λ (bs : List ℕ). front bs == 100 in
    let first = diffs_read-tell P names hs in
    kind_tells (in_order P) (some_of P) (λ bs. length bs ≤ most) Anything (or_constraints P hs r) (order_is P)
    (one_of_tells (constraints P) (behind (hypotheses P) (behind_one P)) (λ bs. length bs ≤ most) Anything is_d (arrowed (spaced_diffs P hs)) r
    (tells_of (constraints P) Anything (λ bs. (length bs ≤ most) × (is_d bs ≡ true)) Anything (arrowed (spaced_diffs P hs)) (λ bs of. tt) first) second
    (constraints_told P names) (hypothesis_told P) (choice_local (λ b. b == 100) (arrowed (spaced_diffs P hs)) r first.local second.local))

hypothesis_long : (P : Protocol) → HasNames P → (bytes rest : List ℕ) → (behind (hypotheses P) (behind_one P)).Text bytes rest → length rest + 1 ≤ length bytes
hypothesis_long P names bytes rest (mid, one, inl (inner, comma, more)) =
    let forms = (hypotheses_tell P names).forms in
    omega (arith, shorter (hypotheses P) Anything bytes mid (forms.moved bytes mid one), ap length comma, shorter (some_of P) Anything inner rest ((some_forms P names).moved inner rest more))
hypothesis_long P names bytes rest (mid, one, inr arrow) =
    let forms = (hypotheses_tell P names).forms in
    omega (arith, shorter (hypotheses P) Anything bytes mid (forms.moved bytes mid one), ap length arrow)

behind_read-tells : (P : Protocol) → HasNames P → (most : ℕ) (again : List (Fact Term) → Reader Premises) (hs : List (Fact Term)) → Tells ⊥ (some_of P) (λ bs. length bs ≤ most) Anything (arrowed (diffs_or P again hs))
    → Tells ⊥ (behind_one P) (λ bs. length bs ≤ suc most) Anything (behind_read P again hs)
behind_read-tells P names most again hs tells =
    let test = λ (bs : List ℕ). front bs == 44 in
    let goes = then_read (read_fixed (codes ", ")) (λ _ _. arrowed (diffs_or P again hs)) in
    let ends = closed_by (codes " => ") (made_of hs []) in
    let goes_tells = both_tell (fixed (codes ", ")) (some_of P) (λ bs. (length bs ≤ suc most) × (test bs ≡ true)) (λ bs. length bs ≤ most) Anything Anything (read_fixed (codes ", ")) (λ _ _. arrowed (diffs_or P again hs))
    (tells_of (fixed (codes ", ")) Anything (λ bs. (length bs ≤ suc most) × (test bs ≡ true)) Anything (read_fixed (codes ", ")) (λ bs of. tt) (fixed_tells (codes ", "))) (λ at u. tells) (some_forms P names) (λ bs rest text. tt)
    (λ bs mid of text. omega (arith, of.0, ap length text)) in
    one_of_tells (behind (fixed (codes ", ")) (some_of P)) (fixed (codes " => ")) (λ bs. length bs ≤ suc most) Anything test goes ends goes_tells
    (tells_of (fixed (codes " => ")) Anything (λ bs. (length bs ≤ suc most) × (test bs ≡ false)) Anything ends (λ bs of. tt) (closed_tells (codes " => ") (made_of hs [])))
    (told_by_fixed (codes ", ") (some_of P) test true (λ rest. refl)) (told_alone (codes " => ") test false (λ rest. refl))
    (choice_local (λ b. b == 44) goes ends goes_tells.local (closed_tells (codes " => ") (made_of hs [])).local)

from_tells : (P : Protocol) → HasNames P → (most : ℕ) (hs : List (Fact Term)) → Tells ⊥ (some_of P) (λ bs. length bs ≤ most) Anything (arrowed (diffs_or P (premises_from P most) hs))
unfolding premises_from
from_tells P names zero hs =
    let N = behind (hypotheses P) (behind_one P) in
    let forms = both_forms (hypotheses P) (behind_one P) Anything Anything (hypotheses_tell P names).forms (behind_one-forms P names) (λ bs rest text. tt) in
    let none = none_tells {A = Premises} N forms (hypothesis_long P names) in
    same_tells (some_of P) (λ bs. length bs ≤ 0) Anything (arrowed (diffs_or P (premises_from P 0) hs)) (or_constraints P hs (arrowed (premises_from P 0 hs))) (arrowed_or P (premises_from P 0) hs)
    (or_tells P names 0 hs (arrowed (premises_from P 0 hs))
    (tells_of N (λ bs. length bs ≤ 0) (λ bs. (length bs ≤ 0) × ((front bs == 100) ≡ false)) Anything (arrowed (premises_from P 0 hs)) (λ bs of. of.0) none))
from_tells P names (suc most) hs =
    let N = behind (hypotheses P) (behind_one P) in
    let first = hypotheses_tell P names in
    let on = λ (at : ℕ) (h : Fact Term). behind_read P (premises_from P most) (hs ++ h ∷ []) in
    same_tells (some_of P) (λ bs. length bs ≤ suc most) Anything (arrowed (diffs_or P (premises_from P (suc most)) hs)) (or_constraints P hs (arrowed (premises_from P (suc most) hs))) (arrowed_or P (premises_from P (suc most)) hs)
    (or_tells P names (suc most) hs (arrowed (premises_from P (suc most) hs))
    (same_tells N (λ bs. (length bs ≤ suc most) × ((front bs == 100) ≡ false)) Anything (arrowed (premises_from P (suc most) hs)) (then_read (read_hypothesis P) on) (arrowed_hypothesis P most hs)
    (both_tell (hypotheses P) (behind_one P) (λ bs. (length bs ≤ suc most) × ((front bs == 100) ≡ false)) (λ bs. length bs ≤ suc most) Anything Anything (read_hypothesis P) on
    (tells_of (hypotheses P) Anything (λ bs. (length bs ≤ suc most) × ((front bs == 100) ≡ false)) Anything (read_hypothesis P) (λ bs of. tt) first)
    (λ at h. behind_read-tells P names most (premises_from P most) (hs ++ h ∷ []) (from_tells P names most (hs ++ h ∷ [])))
    (behind_one-forms P names) (λ bs rest text. tt) (λ bs mid of text. omega (arith, of.0, shorter (hypotheses P) Anything bs mid (first.forms.moved bs mid text))))))

-- All of them.

some_as : (P : Protocol) (bytes : List ℕ) (at : ℕ) → some_premises P bytes at ≡ diffs_or P (premises_from P (length bytes)) [] bytes at
unfolding diffs_or spaced_diffs
some_as P bytes at = ap (λ o. if front bytes == 100 then spaced_diffs P [] bytes at else o) (premises_ahead P (length bytes) [] bytes at)

some_tell : (P : Protocol) → HasNames P → Tells ⊥ (some_of P) Anything Anything (arrowed (some_premises P))
some_tell P names =
    same_tells (some_of P) Anything Anything (arrowed (some_premises P)) each alike
    (each_length_tells (some_of P) Anything (λ most. arrowed (diffs_or P (premises_from P most) [])) (same_local each (arrowed (some_premises P)) (λ bytes at. sym (alike bytes at)) local) (λ most. from_tells P names most []))
  where
    each : Reader Premises
    each bytes at = arrowed (diffs_or P (premises_from P (length bytes)) []) bytes at

    alike : (bytes : List ℕ) (at : ℕ) → arrowed (some_premises P) bytes at ≡ each bytes at
    alike bytes at = ap (λ o. next o (λ ps p k. closed_by (codes "=> ") ps k p)) (some_as P bytes at)

    local : IsLocal (arrowed (some_premises P))
    local = next_local (some_premises P) (λ _ ps. closed_by (codes "=> ") ps) (some_premises-local P) (λ at ps. closing_local (codes "=> ") ps)

premises_as : (P : Protocol) (bytes : List ℕ) (at : ℕ) → arrowed (read_premises P) bytes at ≡ chosen (λ bs. front bs == 61) (closed_by (codes "=> ") (made_of [] [])) (arrowed (some_premises P)) bytes at
premises_as P bytes at = next_both (front bytes == 61) (Found (made_of [] []) at bytes) (some_premises P bytes at) (λ ps p k. closed_by (codes "=> ") ps k p)

pub premises_tell : (P : Protocol) → HasNames P → Tells ⊥ (premises P) Anything Anything (arrowed (read_premises P))
premises_tell P names =
    same_tells (premises P) Anything Anything (arrowed (read_premises P)) (chosen (λ bs. front bs == 61) (closed_by (codes "=> ") (made_of [] [])) (arrowed (some_premises P))) (premises_as P)
    (front_tells (fixed (codes "=> ")) (some_of P) 61 (closed_by (codes "=> ") (made_of [] [])) (arrowed (some_premises P)) (closed_tells (codes "=> ") (made_of [] [])) (some_tell P names)
    (told_alone (codes "=> ") (λ bs. front bs == 61) true (λ rest. refl)) (told_by_front (some_of P) Anything (λ b. b == 61) false (some_forms P names) (some_front P)))

-- Bytes are the text of one report at most.
use Rattle.std.proofs.Common.{◌≡◌, inl, inr, ℕ, ◌+◌, ◌==◌, true, false, List, [], ◌∷◌, ◌++◌, length, drop, codes, refl, sym, ◌∙◌, ap, subst, arith}
use Rattle.std.proofs.lemmas.List.{append_cancel_left}
use Rattle.std.specs.Fmt.{decimal}
use Rattle.std.specs.List.{AllByRecursion}
use Rattle.spec_calculus.specs.Syntax.{Protocol}
use Rattle.spec_certificates.specs.Certificate.{Certificate}
use Rattle.spec_certificate_text.specs.OfProtocol.{HasNames}
use Rattle.spec_certificate_text.proofs.Runs.{run_apart}
use Rattle.spec_certificate_text.specs.Outcomes.{front}
use Rattle.spec_certificate_text.specs.Reports.{Claim, Proved, Bare, Unknown}
use Rattle.spec_certificate_text.specs.ReportText.{query_text, in_line, IsReason, run_text, SpellsUnknown}
use Rattle.spec_node_reading.specs.Readable.{SpellsCertificate}
use Rattle.spec_node_reading.specs.Reports.{SpellsClaim, SpellsClaims, SpellsReport}
use Rattle.spec_node_reading.proofs.Spelled.{one_spelled}

behind_number : (number : ℕ) (k l : List ℕ) → query_text number k ≡ query_text number l → k ≡ l
behind_number number k l e = append_cancel_left (decimal number) k l (append_cancel_left (codes "query ") (decimal number ++ k) (decimal number ++ l) e)

behind_proved : (number : ℕ) (k l : List ℕ) → query_text number (codes " proved\n" ++ k) ≡ query_text number (codes " proved\n" ++ l) → k ≡ l
behind_proved number k l e = append_cancel_left (codes " proved\n") k l (behind_number number (codes " proved\n" ++ k) (codes " proved\n" ++ l) e)

not_unknown : (number : ℕ) (k l : List ℕ) → query_text number (codes " proved\n" ++ k) ≡ query_text number (codes " unknown " ++ l) → ⊥
not_unknown number k l e =
    let same = behind_number number (codes " proved\n" ++ k) (codes " unknown " ++ l) e in
    let second : 112 ≡ 117 = ap (λ bs. front (drop 1 bs)) same in omega (arith, second)

not_attack : (number : ℕ) (k l : List ℕ) → query_text number (codes " proved\n" ++ k) ≡ query_text number (codes " attack\n" ++ l) → ⊥
not_attack number k l e =
    let same = behind_number number (codes " proved\n" ++ k) (codes " attack\n" ++ l) e in
    let second : 112 ≡ 97 = ap (λ bs. front (drop 1 bs)) same in omega (arith, second)

no_reason : (number : ℕ) (k l : List ℕ) → query_text number (codes " unknown " ++ k) ≡ query_text number (codes " attack\n" ++ l) → ⊥
no_reason number k l e =
    let same = behind_number number (codes " unknown " ++ k) (codes " attack\n" ++ l) e in
    let second : 117 ≡ 97 = ap (λ bs. front (drop 1 bs)) same in omega (arith, second)

behind_attack : (number : ℕ) (k l : List ℕ) → query_text number (codes " attack\n" ++ k) ≡ query_text number (codes " attack\n" ++ l) → k ≡ l
behind_attack number k l e = append_cancel_left (codes " attack\n") k l (behind_number number (codes " attack\n" ++ k) (codes " attack\n" ++ l) e)

-- a run ends where it is spelled to end
runs_apart : (steps others : List (List ℕ)) (k l : List ℕ) → AllByRecursion IsReason steps → AllByRecursion IsReason others → run_text steps k ≡ run_text others l → k ≡ l
runs_apart [] [] k l are also e = append_cancel_left (codes "end\n") k l e
runs_apart [] (other ∷ others) k l are also e = let first : 101 ≡ 115 = ap front e in absurd (omega (arith, first))
runs_apart (step ∷ steps) [] k l are also e = let first : 115 ≡ 101 = ap front e in absurd (omega (arith, first))
runs_apart (step ∷ steps) (other ∷ others) k l are also e =
    let same = append_cancel_left (codes "s ") (step ++ 10 ∷ run_text steps k) (other ++ 10 ∷ run_text others l) e in
    let parts = run_apart in_line step other (10 ∷ run_text steps k) (10 ∷ run_text others l) are.0.one_line also.0.one_line refl refl same in
    runs_apart steps others k l are.1 also.1 (ap (drop 1) parts.rest)

-- a certificate begins with `c`
pub certificate_begins : (P : Protocol) (text : List ℕ) (c : Certificate) (rest : List ℕ) → SpellsCertificate P text c rest → (front text == 99) ≡ true
certificate_begins P text c rest (inl one) = ap (λ bs. front bs == 99) one.text
certificate_begins P text c rest (inr one) = ap (λ bs. front bs == 99) one.text

-- and what stands behind a claim does not
abbrev Others : List ℕ → Type 0
Others rest = (front rest == 99) ≡ false

not_bare : (P : Protocol) (text l : List ℕ) (c : Certificate) (rest : List ℕ) → SpellsCertificate P text c rest → Others l → text ≡ l → ⊥
not_bare P text l c rest is other same = let never : true ≡ false = sym (certificate_begins P text c rest is) ∙ (ap (λ bs. front bs == 99) same ∙ other) in cc

claim_one : (P : Protocol) → HasNames P → (number : ℕ) (c d : Claim) (k l bytes : List ℕ) → Others k → Others l → SpellsClaim P number c k bytes → SpellsClaim P number d l bytes → (c ≡ d) × (k ≡ l)
claim_one P names number (Proved c) (Proved d) k l bytes ends stops one two =
    let same = behind_proved number one.0 two.0 (sym one.2 ∙ two.2) in
    let both = one_spelled P names two.0 c d k l (subst (λ bs. SpellsCertificate P bs c k) same one.1) two.1 in
    (ap Proved both.0, both.1)
claim_one P names number (Proved c) Bare k l bytes ends stops one two = absurd (not_bare P one.0 l c k one.1 stops (behind_proved number one.0 l (sym one.2 ∙ two)))
claim_one P names number (Proved c) Unknown k l bytes ends stops one (inl two) = absurd (not_unknown number one.0 (two.0 ++ 10 ∷ l) (sym one.2 ∙ two.2))
claim_one P names number (Proved c) Unknown k l bytes ends stops one (inr two) = absurd (not_attack number one.0 (run_text two.0 l) (sym one.2 ∙ two.2))
claim_one P names number Bare (Proved d) k l bytes ends stops one two = absurd (not_bare P two.0 k d l two.1 ends (behind_proved number two.0 k (sym two.2 ∙ one)))
claim_one P names number Bare Bare k l bytes ends stops one two = (refl, behind_proved number k l (sym one ∙ two))
claim_one P names number Bare Unknown k l bytes ends stops one (inl two) = absurd (not_unknown number k (two.0 ++ 10 ∷ l) (sym one ∙ two.2))
claim_one P names number Bare Unknown k l bytes ends stops one (inr two) = absurd (not_attack number k (run_text two.0 l) (sym one ∙ two.2))
claim_one P names number Unknown (Proved d) k l bytes ends stops (inl one) two = absurd (not_unknown number two.0 (one.0 ++ 10 ∷ k) (sym two.2 ∙ one.2))
claim_one P names number Unknown (Proved d) k l bytes ends stops (inr one) two = absurd (not_attack number two.0 (run_text one.0 k) (sym two.2 ∙ one.2))
claim_one P names number Unknown Bare k l bytes ends stops (inl one) two = absurd (not_unknown number l (one.0 ++ 10 ∷ k) (sym two ∙ one.2))
claim_one P names number Unknown Bare k l bytes ends stops (inr one) two = absurd (not_attack number l (run_text one.0 k) (sym two ∙ one.2))
claim_one P names number Unknown Unknown k l bytes ends stops (inl one) (inr two) = absurd (no_reason number (one.0 ++ 10 ∷ k) (run_text two.0 l) (sym one.2 ∙ two.2))
claim_one P names number Unknown Unknown k l bytes ends stops (inr one) (inl two) = absurd (no_reason number (two.0 ++ 10 ∷ l) (run_text one.0 k) (sym two.2 ∙ one.2))
claim_one P names number Unknown Unknown k l bytes ends stops (inr one) (inr two) =
    (refl, runs_apart one.0 two.0 k l one.1 two.1 (behind_attack number (run_text one.0 k) (run_text two.0 l) (sym one.2 ∙ two.2)))
claim_one P names number Unknown Unknown k l bytes ends stops (inl one) (inl two) =
    let same = append_cancel_left (codes " unknown ") (one.0 ++ 10 ∷ k) (two.0 ++ 10 ∷ l) (behind_number number (codes " unknown " ++ (one.0 ++ 10 ∷ k)) (codes " unknown " ++ (two.0 ++ 10 ∷ l)) (sym one.2 ∙ two.2)) in
    let parts = run_apart in_line one.0 two.0 (10 ∷ k) (10 ∷ l) one.1.one_line two.1.one_line refl refl same in
    (refl, ap (drop 1) parts.rest)

unknown_begins : (number : ℕ) (rest bytes : List ℕ) → SpellsUnknown number rest bytes → Others bytes
unknown_begins number rest bytes (inl is) = ap (λ bs. front bs == 99) is.2
unknown_begins number rest bytes (inr is) = ap (λ bs. front bs == 99) is.2

-- what stands behind a claim is a further one, or nothing
claims_begin : (P : Protocol) (number : ℕ) (claims : List Claim) (bytes : List ℕ) → SpellsClaims P number claims bytes → Others bytes
claims_begin P number [] bytes is = ap (λ bs. front bs == 99) is
claims_begin P number (Proved c ∷ claims) bytes is = ap (λ bs. front bs == 99) is.1.2
claims_begin P number (Bare ∷ claims) bytes is = ap (λ bs. front bs == 99) is.1
claims_begin P number (Unknown ∷ claims) bytes is = unknown_begins number is.0 bytes is.1

claims_one : (P : Protocol) → HasNames P → (number : ℕ) (claims others : List Claim) (bytes : List ℕ) → length claims ≡ length others → SpellsClaims P number claims bytes → SpellsClaims P number others bytes → claims ≡ others
claims_one P names number [] [] bytes long one two = refl
claims_one P names number [] (d ∷ others) bytes long one two = absurd (omega (arith, long))
claims_one P names number (c ∷ claims) [] bytes long one two = absurd (omega (arith, long))
claims_one P names number (c ∷ claims) (d ∷ others) bytes long one two =
    let same = claim_one P names number c d one.0 two.0 bytes (claims_begin P (number + 1) claims one.0 one.2) (claims_begin P (number + 1) others two.0 two.2) one.1 two.1 in
    let later = claims_one P names (number + 1) claims others two.0 (omega (arith, long)) (subst (SpellsClaims P (number + 1) claims) same.1 one.2) two.2 in
    ap (λ x. x ∷ claims) same.0 ∙ ap (λ xs. d ∷ xs) later

pub one_report : (P : Protocol) → HasNames P → (bytes : List ℕ) (claims others : List Claim) → SpellsReport P bytes claims → SpellsReport P bytes others → claims ≡ others
one_report P names bytes claims others one two = claims_one P names 1 claims others bytes (one.all ∙ sym two.all) one.each two.each

-- Reports that were read are what all bytes spell, and texts of reports are read as their claims.
use Rattle.std.proofs.Common.{◌≡◌, inl, inr, ℕ, zero, suc, ◌+◌, ◌≤◌, ◌^◌, ◌==◌, if◌then◌else◌, cond, Bool, true, false, List, [], ◌∷◌, ◌++◌, length, length-append, map, take, drop, refl, sym, ◌∙◌, ap, subst, arith, codes, append_assoc}
use Rattle.std.proofs.lemmas.Grind.{common_steps}
use Rattle.std.proofs.lemmas.List.{take-append-drop, append-nil}
use Rattle.std.proofs.lemmas.List.Folds.{length-prefix_len}
use Rattle.std.proofs.Math.Seq.{drop-append_seam}
use Rattle.std.specs.Fmt.{decimal}
use Rattle.std.specs.List.{AllByRecursion, list_all, prefix_len}
use Rattle.spec_calculus.specs.Bounds.{most_digits}
use Rattle.spec_calculus.specs.Syntax.{Protocol}
use Rattle.spec_certificates.specs.Certificate.{Certificate}
use Rattle.spec_certificate_text.specs.Text.{certificate_text}
use Rattle.spec_certificate_text.specs.OfProtocol.{IsShort, HasNames}
use Rattle.spec_certificate_text.specs.Terms.{Code, Syntax, Count}
use Rattle.spec_certificate_text.specs.Outcomes.{Outcome, Found, Faulty, next, front, Reader, read_fixed, read_number, lines_from}
use Rattle.spec_certificate_text.specs.Certificates.{read_certificate}
use Rattle.spec_certificate_text.specs.Readable.{IsReadableCertificate}
use Rattle.spec_certificate_text.specs.Reports.{Claim, Proved, Bare, Unknown, query_number, read_text, proof_by, proved_by, read_unknown, read_step, read_run, read_attack, verdict_by, claim_by, behind_claims, claims_by, read_report}
use Rattle.spec_certificate_text.proofs.Parts.{Finds, parts, joined, chosen, when_true, when_false, equal_byte, same_byte, fixed_there, fixed_found, run_stops, number_there, number_found}
use Rattle.spec_certificate_text.proofs.Things.{behind_line, lines_full, line_more}
use Rattle.spec_certificate_text.proofs.CertificatesRead.{read_certificate-there, read_certificate-found}
use Rattle.spec_certificate_text.specs.ReportText.{query_text, in_line, IsReason, steps_text, run_text, SpellsClaimBy, SpellsClaimsBy, SpellsClaim, SpellsClaims, SpellsReport}

-- What was read is there.

abbrev when_number : ℕ → ℕ → ℕ → ℕ → List ℕ → Outcome (Unit {0})
when_number number from n p r = if n == number then Found tt p r else Faulty from Count

abbrev behind_query : ℕ → Unit {0} → ℕ → List ℕ → Outcome (Unit {0})
behind_query number u from r = next (read_number r from) (when_number number from)

query_there : (number : ℕ) (bytes : List ℕ) (at : ℕ) (u : Unit {0}) (p : ℕ) (r : List ℕ) → query_number number bytes at ≡ Found u p r → bytes ≡ query_text number r
query_there number bytes at u p r e =
    let cut = parts (read_fixed (codes "query ") bytes at) (behind_query number) u p r e in
    let words = fixed_there (codes "query ") bytes at cut.value cut.place cut.rest cut.first in
    let later = parts (read_number cut.rest cut.place) (when_number number cut.place) u p r cut.later in
    let digits = number_there cut.rest cut.place later.value later.place later.rest later.first in
    chosen (later.value == number) (Found tt later.place later.rest) (Faulty cut.place Count) u p r (bytes ≡ query_text number r) later.later
    (λ is found.
    let same = equal_byte later.value number is in
    let rests : later.rest ≡ r = cc in
    words ∙ ap (λ k. codes "query " ++ k) (digits.text ∙ (ap (λ n. decimal n ++ later.rest) same ∙ ap (λ k. decimal number ++ k) rests)))
    (λ isnt never. absurd (cc))

taken_by : (test : ℕ → Bool) (b : ℕ) (bytes : List ℕ) (is : Bool) → test b ≡ is → list_all test (take (prefix_len test bytes) bytes) ≡ true → list_all test (take (cond is (1 + prefix_len test bytes) 0) (b ∷ bytes)) ≡ true
taken_by test b bytes true e rest = grind (arith, common_steps, e, rest)
taken_by test b bytes false e rest = refl

all_taken : (test : ℕ → Bool) (bytes : List ℕ) → list_all test (take (prefix_len test bytes) bytes) ≡ true
all_taken test [] = refl
all_taken test (b ∷ bytes) = taken_by test b bytes (test b) refl (all_taken test bytes)

-- a reason, and the end of its line
record Reasoned (bytes rest : List ℕ) : Type 0 where
  pub reason : List ℕ
  pub is : IsReason reason
  pub text : bytes ≡ reason ++ 10 ∷ rest

text_there : (bytes : List ℕ) (at : ℕ) (u : Unit {0}) (p : ℕ) (r : List ℕ) → read_text bytes at ≡ Found u p r → Reasoned bytes r
text_there bytes at u p r e =
    let long = prefix_len in_line bytes in
    chosen (long == 0) (Faulty at Syntax) (read_fixed (codes "\n") (drop long bytes) (at + long)) u p r (Reasoned bytes r) e
    (λ is never. absurd (cc))
    (λ some found. record {
      reason = take long bytes;
      is = record { some = ap (λ n. n == 0) (length-prefix_len in_line bytes) ∙ some; one_line = all_taken in_line bytes };
      text = sym (take-append-drop long bytes) ∙ ap (λ k. take long bytes ++ k) (fixed_there (codes "\n") (drop long bytes) (at + long) u p r found);
    })

abbrev as_unknown : Unit {0} → ℕ → List ℕ → Outcome Claim
as_unknown u p r = Found Unknown p r

abbrev behind_unknown : Unit {0} → ℕ → List ℕ → Outcome Claim
behind_unknown u p r = next (read_text r p) as_unknown

-- Steps of a run, and `end`.

abbrev behind_letter : Unit {0} → ℕ → List ℕ → Outcome (Unit {0})
behind_letter u p r = read_text r p

abbrev step_text : List ℕ → List ℕ → List ℕ
step_text step rest = codes "s " ++ (step ++ 10 ∷ rest)

-- steps that were found
record Stepped (bytes rest : List ℕ) : Type 0 where
  pub steps : List (List ℕ)
  pub each : AllByRecursion IsReason steps
  pub text : bytes ≡ steps_text steps rest

no_step : (xs ys : List (Unit {0})) (bytes : List ℕ) (at p : ℕ) (r : List ℕ) → Found xs at bytes ≡ Found ys p r → Stepped bytes r
no_step xs ys bytes at p r e = let rests : bytes ≡ r = cc in record { steps = []; each = tt; text = rests }

one_step : (bytes : List ℕ) (at : ℕ) (u : Unit {0}) (p : ℕ) (k r : List ℕ) → read_step bytes at ≡ Found u p k → Stepped k r → Stepped bytes r
one_step bytes at u p k r e behind =
    let cut = parts (read_fixed (codes "s ") bytes at) behind_letter u p k e in
    let words = fixed_there (codes "s ") bytes at cut.value cut.place cut.rest cut.first in
    let line = text_there cut.rest cut.place u p k cut.later in
    record {
      steps = line.reason ∷ behind.steps;
      each = (line.is, behind.each);
      text = words ∙ ap (λ t. codes "s " ++ t) (line.text ∙ ap (λ t. line.reason ++ 10 ∷ t) behind.text);
    }

steps_there : (most : ℕ) (xs ys : List (Unit {0})) (bytes : List ℕ) (at p : ℕ) (r : List ℕ) → lines_from 115 read_step most xs bytes at ≡ Found ys p r → Stepped bytes r
steps_there zero xs ys bytes at p r e =
    chosen (front bytes == 115) (Faulty at Count) (Found xs at bytes) ys p r (Stepped bytes r) (sym (lines_full 115 read_step xs bytes at) ∙ e)
    (λ is never. absurd (cc))
    (λ isnt found. no_step xs ys bytes at p r found)
steps_there (suc most) xs ys bytes at p r e =
    chosen (front bytes == 115) (next (read_step bytes at) (behind_line 115 read_step most xs)) (Found xs at bytes) ys p r (Stepped bytes r) (sym (line_more 115 read_step most xs bytes at) ∙ e)
    (λ is found.
    let cut = parts (read_step bytes at) (behind_line 115 read_step most xs) ys p r found in
    one_step bytes at cut.value cut.place cut.rest r cut.first (steps_there most (xs ++ cut.value ∷ []) ys cut.rest cut.place p r cut.later))
    (λ isnt found. no_step xs ys bytes at p r found)

abbrev behind_steps : List (Unit {0}) → ℕ → List ℕ → Outcome (Unit {0})
behind_steps us p r = read_fixed (codes "end\n") r p

-- the run that was found
record Ran (bytes rest : List ℕ) : Type 0 where
  pub steps : List (List ℕ)
  pub each : AllByRecursion IsReason steps
  pub text : bytes ≡ run_text steps rest

run_there : (bytes : List ℕ) (at : ℕ) (u : Unit {0}) (p : ℕ) (r : List ℕ) → read_run bytes at ≡ Found u p r → Ran bytes r
run_there bytes at u p r e =
    let cut = parts (lines_from 115 read_step (length bytes) [] bytes at) behind_steps u p r e in
    let there = steps_there (length bytes) [] cut.value bytes at cut.place cut.rest cut.first in
    record { steps = there.steps; each = there.each; text = there.text ∙ ap (steps_text there.steps) (fixed_there (codes "end\n") cut.rest cut.place u p r cut.later) }

abbrev behind_attack : Unit {0} → ℕ → List ℕ → Outcome Claim
behind_attack u p r = next (read_run r p) as_unknown

abbrev none_further : List Claim → Unit {0} → ℕ → List ℕ → Outcome (List Claim)
none_further claims u from r = next (read_number r from) (λ n p k. Faulty from Count)

nothing_behind : (claims : List Claim) (at : ℕ) (bytes : List ℕ) (all : List Claim) (p : ℕ) (r : List ℕ) → behind_claims claims at bytes ≡ Found all p r → (claims ≡ all) × (bytes ≡ [])
nothing_behind claims at [] all p r e = (cc, refl)
nothing_behind claims at (b ∷ bytes) all p r e =
    let cut = parts (read_fixed (codes "query ") (b ∷ bytes) at) (none_further claims) all p r e in
    let later = parts (read_number cut.rest cut.place) (λ n p k. Faulty cut.place Count) all p r cut.later in
    let never : Faulty cut.place Count ≡ Found all p r = later.later in
    absurd (cc)

query_found : (number : ℕ) (rest : List ℕ) (at : ℕ) → IsShort number → Finds (query_number number (query_text number (32 ∷ rest)) at) tt (32 ∷ rest)
query_found number rest at short =
    joined (read_fixed (codes "query ") (query_text number (32 ∷ rest)) at) (behind_query number) tt (decimal number ++ 32 ∷ rest) tt (32 ∷ rest)
    (fixed_found (codes "query ") (decimal number ++ 32 ∷ rest) at)
    (λ from. joined (read_number (decimal number ++ 32 ∷ rest) from) (when_number number from) number (32 ∷ rest) tt (32 ∷ rest) (number_found number 32 rest from short refl)
    (λ p. when_true (number == number) (Found tt p (32 ∷ rest)) (Faulty from Count) tt (32 ∷ rest) (same_byte number) record { place = p; is = refl }))

text_found : (reason rest : List ℕ) (at : ℕ) → IsReason reason → Finds (read_text (reason ++ 10 ∷ rest) at) tt rest
text_found reason rest at is =
    let bytes = reason ++ 10 ∷ rest in
    let long = prefix_len in_line bytes in
    let so : long ≡ length reason = run_stops in_line reason (10 ∷ rest) is.one_line refl in
    let behind : drop long bytes ≡ 10 ∷ rest = ap (λ k. drop k bytes) so ∙ drop-append_seam reason (10 ∷ rest) in
    when_false (long == 0) (Faulty at Syntax) (read_fixed (codes "\n") (drop long bytes) (at + long)) tt rest (ap (λ n. n == 0) so ∙ is.some)
    (subst (λ bs. Finds (read_fixed (codes "\n") bs (at + long)) tt rest) (sym behind) (fixed_found (codes "\n") rest (at + long)))

step_found : (step rest : List ℕ) (at : ℕ) → IsReason step → Finds (read_step (step_text step rest) at) tt rest
step_found step rest at is =
    joined (read_fixed (codes "s ") (step_text step rest) at) behind_letter tt (step ++ 10 ∷ rest) tt rest (fixed_found (codes "s ") (step ++ 10 ∷ rest) at) (λ p. text_found step rest p is)

abbrev passed : List (List ℕ) → List (Unit {0})
passed steps = map (λ step. tt) steps

steps_found : (most : ℕ) (xs : List (Unit {0})) (steps : List (List ℕ)) (rest : List ℕ) (at : ℕ) → length steps ≤ most → AllByRecursion IsReason steps → (front rest == 115) ≡ false
    → Finds (lines_from 115 read_step most xs (steps_text steps rest) at) (xs ++ passed steps) rest
steps_found zero xs [] rest at room each other =
    let found = when_false (front rest == 115) (Faulty at Count) (Found xs at rest) xs rest other record { place = at; is = refl } in
    subst (λ zs. Finds (lines_from 115 read_step 0 xs rest at) zs rest) (sym (append-nil xs)) record { place = found.place; is = lines_full 115 read_step xs rest at ∙ found.is }
steps_found zero xs (step ∷ steps) rest at room each other = absurd (omega (arith, room))
steps_found (suc most) xs [] rest at room each other =
    let found = when_false (front rest == 115) (next (read_step rest at) (behind_line 115 read_step most xs)) (Found xs at rest) xs rest other record { place = at; is = refl } in
    subst (λ zs. Finds (lines_from 115 read_step (suc most) xs rest at) zs rest) (sym (append-nil xs)) record { place = found.place; is = line_more 115 read_step most xs rest at ∙ found.is }
steps_found (suc most) xs (step ∷ steps) rest at room each other =
    let later = steps_text steps rest in
    let text = step_text step later in
    let same : (xs ++ tt ∷ []) ++ passed steps ≡ xs ++ tt ∷ passed steps = append_assoc xs (tt ∷ []) (passed steps) in
    let found = when_true (front text == 115) (next (read_step text at) (behind_line 115 read_step most xs)) (Found xs at text) (xs ++ tt ∷ passed steps) rest refl
    (joined (read_step text at) (behind_line 115 read_step most xs) tt later (xs ++ tt ∷ passed steps) rest (step_found step later at each.0)
    (λ p. subst (λ zs. Finds (lines_from 115 read_step most (xs ++ tt ∷ []) later p) zs rest) same (steps_found most (xs ++ tt ∷ []) steps rest p (omega (arith, room)) each.1 other))) in
    record { place = found.place; is = line_more 115 read_step most xs text at ∙ found.is }

steps_long : (steps : List (List ℕ)) (rest : List ℕ) → length steps ≤ length (steps_text steps rest)
steps_long [] rest = omega arith
steps_long (step ∷ steps) rest = omega (arith, steps_long steps rest, length-append step (10 ∷ steps_text steps rest))

run_found : (steps : List (List ℕ)) (rest : List ℕ) (at : ℕ) → AllByRecursion IsReason steps → Finds (read_run (run_text steps rest) at) tt rest
run_found steps rest at each =
    let bytes = run_text steps rest in
    joined (lines_from 115 read_step (length bytes) [] bytes at) behind_steps (passed steps) (codes "end\n" ++ rest) tt rest
    (steps_found (length bytes) [] steps (codes "end\n" ++ rest) at (steps_long steps (codes "end\n" ++ rest)) each refl)
    (λ p. fixed_found (codes "end\n") rest p)

-- Where what is read of a certificate is spelled so.

-- what was found is spelled, and then the rest
abbrev pub ReadIsSpelled : (List ℕ → Certificate → List ℕ → Type 0) → Reader Certificate → Type 0
ReadIsSpelled Spells one = (bytes : List ℕ) (at place : ℕ) (c : Certificate) (rest : List ℕ) → one bytes at ≡ Found c place rest → Spells bytes c rest

-- what is spelled is found, and begins with the first letter of `cert`
pub record SpelledIsRead (Spells : List ℕ → Certificate → List ℕ → Type 0) (one : Reader Certificate) : Type 0 where
  pub found : (bytes : List ℕ) (c : Certificate) (rest : List ℕ) (at : ℕ) → Spells bytes c rest → Finds (one bytes at) c rest
  pub begins : (bytes : List ℕ) (c : Certificate) (rest : List ℕ) → Spells bytes c rest → (front bytes == 99) ≡ true

module _ (Spells : List ℕ → Certificate → List ℕ → Type 0) (one : Reader Certificate) where
  -- the certificate that was found
  abbrev as_proved : Certificate → ℕ → List ℕ → Outcome Claim
  as_proved c p r = Found (Proved c) p r

  proof_there : ReadIsSpelled Spells one → (number : ℕ) (whole bytes : List ℕ) (at : ℕ) (claim : Claim) (p : ℕ) (r : List ℕ) → whole ≡ query_text number (codes " proved\n" ++ bytes) → proof_by one bytes at ≡ Found claim p r → SpellsClaimBy Spells number claim r whole
  proof_there there number whole bytes at claim p r text e =
      chosen (front bytes == 99) (next (one bytes at) as_proved) (Found Bare at bytes) claim p r (SpellsClaimBy Spells number claim r whole) e
      (λ starts found.
      let cut = parts (one bytes at) as_proved claim p r found in
      let is = there bytes at cut.place cut.value cut.rest cut.first in
      let same : Proved cut.value ≡ claim = cc in
      let rests : cut.rest ≡ r = cc in
      subst (λ c. SpellsClaimBy Spells number c r whole) same
      (bytes, subst (Spells bytes cut.value) rests is, text))
      (λ isnt found.
      let same : Bare ≡ claim = cc in
      let rests : bytes ≡ r = cc in
      subst (λ c. SpellsClaimBy Spells number c r whole) same (text ∙ ap (λ k. query_text number (codes " proved\n" ++ k)) rests))

  abbrev behind_proved : Unit {0} → ℕ → List ℕ → Outcome Claim
  behind_proved u p r = proof_by one r p

  proved_there : ReadIsSpelled Spells one → (number : ℕ) (whole bytes : List ℕ) (at : ℕ) (claim : Claim) (p : ℕ) (r : List ℕ) → whole ≡ query_text number bytes → proved_by one bytes at ≡ Found claim p r → SpellsClaimBy Spells number claim r whole
  proved_there there number whole bytes at claim p r text e =
      let cut = parts (read_fixed (codes " proved\n") bytes at) (behind_proved) claim p r e in
      let words = fixed_there (codes " proved\n") bytes at cut.value cut.place cut.rest cut.first in
      proof_there there number whole cut.rest cut.place claim p r (text ∙ ap (query_text number) words) cut.later

  unknown_there : (number : ℕ) (whole bytes : List ℕ) (at : ℕ) (claim : Claim) (p : ℕ) (r : List ℕ) → whole ≡ query_text number bytes → read_unknown bytes at ≡ Found claim p r → SpellsClaimBy Spells number claim r whole
  unknown_there number whole bytes at claim p r text e =
      let cut = parts (read_fixed (codes " unknown ") bytes at) behind_unknown claim p r e in
      let words = fixed_there (codes " unknown ") bytes at cut.value cut.place cut.rest cut.first in
      let later = parts (read_text cut.rest cut.place) as_unknown claim p r cut.later in
      let why = text_there cut.rest cut.place later.value later.place later.rest later.first in
      let same : Unknown ≡ claim = cc in
      let rests : later.rest ≡ r = cc in
      subst (λ c. SpellsClaimBy Spells number c r whole) same
      (inl (why.reason, why.is, text ∙ ap (query_text number) (words ∙ ap (λ k. codes " unknown " ++ k) (why.text ∙ ap (λ k. why.reason ++ 10 ∷ k) rests))))

  attack_there : (number : ℕ) (whole bytes : List ℕ) (at : ℕ) (claim : Claim) (p : ℕ) (r : List ℕ) → whole ≡ query_text number bytes → read_attack bytes at ≡ Found claim p r → SpellsClaimBy Spells number claim r whole
  attack_there number whole bytes at claim p r text e =
      let cut = parts (read_fixed (codes " attack\n") bytes at) behind_attack claim p r e in
      let words = fixed_there (codes " attack\n") bytes at cut.value cut.place cut.rest cut.first in
      let later = parts (read_run cut.rest cut.place) as_unknown claim p r cut.later in
      let run = run_there cut.rest cut.place later.value later.place later.rest later.first in
      let same : Unknown ≡ claim = cc in
      let rests : later.rest ≡ r = cc in
      subst (λ c. SpellsClaimBy Spells number c r whole) same
      (inr (run.steps, run.each, text ∙ ap (query_text number) (words ∙ ap (λ k. codes " attack\n" ++ k) (run.text ∙ ap (run_text run.steps) rests))))

  verdict_there : ReadIsSpelled Spells one → (number : ℕ) (whole bytes : List ℕ) (at : ℕ) (claim : Claim) (p : ℕ) (r : List ℕ) → whole ≡ query_text number bytes → verdict_by one bytes at ≡ Found claim p r → SpellsClaimBy Spells number claim r whole
  verdict_there there number whole bytes at claim p r text e =
      chosen (front (drop 1 bytes) == 117) (read_unknown bytes at) (if front (drop 1 bytes) == 97 then read_attack bytes at else proved_by one bytes at) claim p r (SpellsClaimBy Spells number claim r whole) e
      (λ is found. unknown_there number whole bytes at claim p r text found)
      (λ isnt other. chosen (front (drop 1 bytes) == 97) (read_attack bytes at) (proved_by one bytes at) claim p r (SpellsClaimBy Spells number claim r whole) other
      (λ is found. attack_there number whole bytes at claim p r text found)
      (λ neither found. proved_there there number whole bytes at claim p r text found))

  abbrev behind_number : Unit {0} → ℕ → List ℕ → Outcome Claim
  behind_number u p r = verdict_by one r p

  claim_there : ReadIsSpelled Spells one → (number : ℕ) (bytes : List ℕ) (at : ℕ) (claim : Claim) (p : ℕ) (r : List ℕ) → claim_by one number bytes at ≡ Found claim p r → SpellsClaimBy Spells number claim r bytes
  claim_there there number bytes at claim p r e =
      let cut = parts (query_number number bytes at) (behind_number) claim p r e in
      verdict_there there number bytes cut.rest cut.place claim p r (query_there number bytes at cut.value cut.place cut.rest cut.first) cut.later

  claims_end : (number : ℕ) (claims : List Claim) (bytes : List ℕ) (at : ℕ) → claims_by one 0 number claims bytes at ≡ behind_claims claims at bytes
  unfolding claims_by
  claims_end number claims bytes at = refl

  claims_cut : (left number : ℕ) (claims : List Claim) (at : ℕ) → claims_by one (suc left) number claims [] at ≡ Faulty at Count
  unfolding claims_by
  claims_cut left number claims at = refl

  abbrev behind_claim : ℕ → ℕ → List Claim → Claim → ℕ → List ℕ → Outcome (List Claim)
  behind_claim left number claims c p r = claims_by one left (number + 1) (claims ++ c ∷ []) r p

  claims_more : (left number : ℕ) (claims : List Claim) (b : ℕ) (bytes : List ℕ) (at : ℕ) → claims_by one (suc left) number claims (b ∷ bytes) at ≡ next (claim_by one number (b ∷ bytes) at) (behind_claim left number claims)
  unfolding claims_by
  claims_more left number claims b bytes at = refl

  -- behind these claims others were found
  pub record ClaimsBehind (number left : ℕ) (bytes : List ℕ) (claims all : List Claim) : Type 0 where
    pub others : List Claim
    pub is : all ≡ claims ++ others
    pub each : SpellsClaimsBy Spells number others bytes
    pub so_many : length others ≡ left

  pub claims_there : ReadIsSpelled Spells one → (left number : ℕ) (claims : List Claim) (bytes : List ℕ) (at : ℕ) (all : List Claim) (p : ℕ) (r : List ℕ) → claims_by one left number claims bytes at ≡ Found all p r → ClaimsBehind number left bytes claims all
  claims_there there zero number claims bytes at all p r e =
      let none = nothing_behind claims at bytes all p r (sym (claims_end number claims bytes at) ∙ e) in
      record { others = []; is = sym none.0 ∙ sym (append-nil claims); each = none.1; so_many = refl }
  claims_there there (suc left) number claims [] at all p r e = let never : Faulty at Count ≡ Found all p r = sym (claims_cut left number claims at) ∙ e in absurd (cc)
  claims_there there (suc left) number claims (b ∷ bytes) at all p r e =
      let cut = parts (claim_by one number (b ∷ bytes) at) (behind_claim left number claims) all p r (sym (claims_more left number claims b bytes at) ∙ e) in
      let here = claim_there there number (b ∷ bytes) at cut.value cut.place cut.rest cut.first in
      let behind = claims_there there left (number + 1) (claims ++ cut.value ∷ []) cut.rest cut.place all p r cut.later in
      record {
        others = cut.value ∷ behind.others;
        is = behind.is ∙ append_assoc claims (cut.value ∷ []) behind.others;
        each = (cut.rest, here, behind.each);
        so_many = omega (arith, behind.so_many);
      }

  unknown_found : (reason rest : List ℕ) (at : ℕ) → IsReason reason → Finds (verdict_by one (codes " unknown " ++ (reason ++ 10 ∷ rest)) at) Unknown rest
  unknown_found reason rest at is =
      let bytes = codes " unknown " ++ (reason ++ 10 ∷ rest) in
      when_true (front (drop 1 bytes) == 117) (read_unknown bytes at) (if front (drop 1 bytes) == 97 then read_attack bytes at else proved_by one bytes at) Unknown rest refl
      (joined (read_fixed (codes " unknown ") bytes at) behind_unknown tt (reason ++ 10 ∷ rest) Unknown rest (fixed_found (codes " unknown ") (reason ++ 10 ∷ rest) at)
      (λ p. joined (read_text (reason ++ 10 ∷ rest) p) as_unknown tt rest Unknown rest (text_found reason rest p is) (λ q. record { place = q; is = refl })))

  attack_found : (steps : List (List ℕ)) (rest : List ℕ) (at : ℕ) → AllByRecursion IsReason steps → Finds (verdict_by one (codes " attack\n" ++ run_text steps rest) at) Unknown rest
  attack_found steps rest at each =
      let bytes = codes " attack\n" ++ run_text steps rest in
      when_false (front (drop 1 bytes) == 117) (read_unknown bytes at) (if front (drop 1 bytes) == 97 then read_attack bytes at else proved_by one bytes at) Unknown rest refl
      (when_true (front (drop 1 bytes) == 97) (read_attack bytes at) (proved_by one bytes at) Unknown rest refl
      (joined (read_fixed (codes " attack\n") bytes at) behind_attack tt (run_text steps rest) Unknown rest (fixed_found (codes " attack\n") (run_text steps rest) at)
      (λ p. joined (read_run (run_text steps rest) p) as_unknown tt rest Unknown rest (run_found steps rest p each) (λ q. record { place = q; is = refl }))))

  proved_found : (bytes : List ℕ) (claim : Claim) (rest : List ℕ) (at : ℕ) → ((p : ℕ) → Finds (proof_by one bytes p) claim rest) → Finds (verdict_by one (codes " proved\n" ++ bytes) at) claim rest
  proved_found bytes claim rest at found =
      let whole = codes " proved\n" ++ bytes in
      when_false (front (drop 1 whole) == 117) (read_unknown whole at) (if front (drop 1 whole) == 97 then read_attack whole at else proved_by one whole at) claim rest refl
      (when_false (front (drop 1 whole) == 97) (read_attack whole at) (proved_by one whole at) claim rest refl
      (joined (read_fixed (codes " proved\n") whole at) (behind_proved) tt bytes claim rest (fixed_found (codes " proved\n") bytes at) found))

  certificate_found : SpelledIsRead Spells one → (text : List ℕ) (c : Certificate) (rest : List ℕ) (at : ℕ) → Spells text c rest → Finds (proof_by one text at) (Proved c) rest
  certificate_found reads text c rest at is =
      when_true (front text == 99) (next (one text at) as_proved) (Found Bare at text) (Proved c) rest (reads.begins text c rest is)
      (joined (one text at) as_proved c rest (Proved c) rest (reads.found text c rest at is) (λ q. record { place = q; is = refl }))

  bare_found : (rest : List ℕ) (at : ℕ) → (front rest == 99) ≡ false → Finds (proof_by one rest at) Bare rest
  bare_found rest at other = when_false (front rest == 99) (next (one rest at) as_proved) (Found Bare at rest) Bare rest other record { place = at; is = refl }

  -- the claim of a query, whose verdict is read behind the number
  numbered_found : (number : ℕ) (k : List ℕ) (claim : Claim) (rest : List ℕ) (at : ℕ) → IsShort number → ((p : ℕ) → Finds (verdict_by one (32 ∷ k) p) claim rest) → Finds (claim_by one number (query_text number (32 ∷ k)) at) claim rest
  numbered_found number k claim rest at short found =
      joined (query_number number (query_text number (32 ∷ k)) at) (behind_number) tt (32 ∷ k) claim rest (query_found number k at short) found

  claim_found : SpelledIsRead Spells one → (number : ℕ) (claim : Claim) (rest bytes : List ℕ) (at : ℕ) → IsShort number → (front rest == 99) ≡ false → SpellsClaimBy Spells number claim rest bytes → Finds (claim_by one number bytes at) claim rest
  claim_found reads number (Proved c) rest bytes at short other is =
      subst (λ bs. Finds (claim_by one number bs at) (Proved c) rest) (sym is.2)
      (numbered_found number (codes "proved\n" ++ is.0) (Proved c) rest at short (λ p. proved_found is.0 (Proved c) rest p (λ q. certificate_found reads is.0 c rest q is.1)))
  claim_found reads number Bare rest bytes at short other is =
      subst (λ bs. Finds (claim_by one number bs at) Bare rest) (sym is)
      (numbered_found number (codes "proved\n" ++ rest) Bare rest at short (λ p. proved_found rest Bare rest p (λ q. bare_found rest q other)))
  claim_found reads number Unknown rest bytes at short other (inl is) =
      subst (λ bs. Finds (claim_by one number bs at) Unknown rest) (sym is.2)
      (numbered_found number (codes "unknown " ++ (is.0 ++ 10 ∷ rest)) Unknown rest at short (λ p. unknown_found is.0 rest p is.1))
  claim_found reads number Unknown rest bytes at short other (inr is) =
      subst (λ bs. Finds (claim_by one number bs at) Unknown rest) (sym is.2)
      (numbered_found number (codes "attack\n" ++ run_text is.0 rest) Unknown rest at short (λ p. attack_found is.0 rest p is.1))

  -- A claim begins with the first letter of `query`.

  claim_begins : (number : ℕ) (claim : Claim) (rest bytes : List ℕ) → SpellsClaimBy Spells number claim rest bytes → bytes ≡ 113 ∷ drop 1 bytes
  claim_begins number (Proved c) rest bytes is = subst (λ bs. bs ≡ 113 ∷ drop 1 bs) (sym is.2) refl
  claim_begins number Bare rest bytes is = subst (λ bs. bs ≡ 113 ∷ drop 1 bs) (sym is) refl
  claim_begins number Unknown rest bytes (inl is) = subst (λ bs. bs ≡ 113 ∷ drop 1 bs) (sym is.2) refl
  claim_begins number Unknown rest bytes (inr is) = subst (λ bs. bs ≡ 113 ∷ drop 1 bs) (sym is.2) refl

  no_certificate : (number : ℕ) (claims : List Claim) (bytes : List ℕ) → SpellsClaimsBy Spells number claims bytes → (front bytes == 99) ≡ false
  no_certificate number [] bytes is = ap (λ bs. front bs == 99) is
  no_certificate number (claim ∷ claims) bytes is = ap (λ bs. front bs == 99) (claim_begins number claim is.0 bytes is.1)

  pub claims_found : SpelledIsRead Spells one → (left number : ℕ) (claims others : List Claim) (bytes : List ℕ) (at : ℕ) → number + left ≤ 10 ^ most_digits → length others ≡ left → SpellsClaimsBy Spells number others bytes → Finds (claims_by one left number claims bytes at) (claims ++ others) []
  claims_found reads zero number claims [] bytes at short all is =
      subst (λ cs. Finds (claims_by one 0 number claims bytes at) cs []) (sym (append-nil claims))
      record { place = at; is = claims_end number claims bytes at ∙ ap (behind_claims claims at) is }
  claims_found reads zero number claims (claim ∷ others) bytes at short all is = absurd (omega (arith, all))
  claims_found reads (suc left) number claims [] bytes at short all is = absurd (omega (arith, all))
  claims_found reads (suc left) number claims (claim ∷ others) bytes at short all is =
      let rest = is.0 in
      let same : (claims ++ claim ∷ []) ++ others ≡ claims ++ claim ∷ others = append_assoc claims (claim ∷ []) others in
      let more : claims_by one (suc left) number claims bytes at ≡ next (claim_by one number bytes at) (behind_claim left number claims) =
      subst (λ bs. claims_by one (suc left) number claims bs at ≡ next (claim_by one number bs at) (behind_claim left number claims)) (sym (claim_begins number claim rest bytes is.1)) (claims_more left number claims 113 (drop 1 bytes) at) in
      let here = claim_found reads number claim rest bytes at (omega (arith, short)) (no_certificate (number + 1) others rest is.2) is.1 in
      let found = joined (claim_by one number bytes at) (behind_claim left number claims) claim rest (claims ++ claim ∷ others) [] here
      (λ p. subst (λ cs. Finds (behind_claim left number claims claim p rest) cs []) same (claims_found reads left (number + 1) (claims ++ claim ∷ []) others rest p (omega (arith, short)) (omega (arith, all)) is.2)) in
      record { place = found.place; is = more ∙ found.is }

-- Certificates without a table.

-- the bytes are the text of a certificate that may be read, and then the rest
abbrev SpellsPlain : Protocol → List ℕ → Certificate → List ℕ → Type 0
SpellsPlain P bytes c rest = IsReadableCertificate P c × (bytes ≡ certificate_text P c rest)

plain_read : (P : Protocol) → ReadIsSpelled (SpellsPlain P) (read_certificate P)
plain_read P bytes at place c rest e = let there = read_certificate-there P bytes at c place rest e in (there.is, there.text)

plain_found : (P : Protocol) → HasNames P → SpelledIsRead (SpellsPlain P) (read_certificate P)
plain_found P names = record {
  found = λ bytes c rest at is. let found = read_certificate-found P names c rest at is.0 in record { place = found.place; is = ap (λ bs. read_certificate P bs at) is.1 ∙ found.is };
  begins = λ bytes c rest is. ap (λ bs. front bs == 99) is.1;
}

plain_claim : (P : Protocol) (number : ℕ) (claim : Claim) (rest bytes : List ℕ) → SpellsClaimBy (SpellsPlain P) number claim rest bytes → SpellsClaim P number claim rest bytes
plain_claim P number (Proved c) rest bytes (text, is, whole) = (is.0, whole ∙ ap (λ k. query_text number (codes " proved\n" ++ k)) is.1)
plain_claim P number Bare rest bytes is = is
plain_claim P number Unknown rest bytes is = is

plain_claims : (P : Protocol) (number : ℕ) (claims : List Claim) (bytes : List ℕ) → SpellsClaimsBy (SpellsPlain P) number claims bytes → SpellsClaims P number claims bytes
plain_claims P number [] bytes is = is
plain_claims P number (claim ∷ claims) bytes (rest, one, more) = (rest, plain_claim P number claim rest bytes one, plain_claims P (number + 1) claims rest more)

claim_plain : (P : Protocol) (number : ℕ) (claim : Claim) (rest bytes : List ℕ) → SpellsClaim P number claim rest bytes → SpellsClaimBy (SpellsPlain P) number claim rest bytes
claim_plain P number (Proved c) rest bytes is = (certificate_text P c rest, (is.0, refl), is.1)
claim_plain P number Bare rest bytes is = is
claim_plain P number Unknown rest bytes is = is

claims_plain : (P : Protocol) (number : ℕ) (claims : List Claim) (bytes : List ℕ) → SpellsClaims P number claims bytes → SpellsClaimsBy (SpellsPlain P) number claims bytes
claims_plain P number [] bytes is = is
claims_plain P number (claim ∷ claims) bytes (rest, one, more) = (rest, claim_plain P number claim rest bytes one, claims_plain P (number + 1) claims rest more)

pub report_there : (P : Protocol) (bytes : List ℕ) (claims : List Claim) (place : ℕ) (rest : List ℕ) → read_report P bytes ≡ Found claims place rest → SpellsReport P bytes claims
report_there P bytes claims place rest e =
    let behind = claims_there (SpellsPlain P) (read_certificate P) (plain_read P) (length P.queries) 1 [] bytes 0 claims place rest e in
    record { each = plain_claims P 1 claims bytes (subst (λ cs. SpellsClaimsBy (SpellsPlain P) 1 cs bytes) (sym behind.is) behind.each); all = ap length behind.is ∙ behind.so_many }

pub report_found : (P : Protocol) → HasNames P → IsShort (length P.queries) → (bytes : List ℕ) (claims : List Claim) → SpellsReport P bytes claims → Finds (read_report P bytes) claims []
report_found P names short bytes claims is = claims_found (SpellsPlain P) (read_certificate P) (plain_found P names) (length P.queries) 1 [] claims bytes 0 (omega (arith, short)) is.all (claims_plain P 1 claims bytes is.each)

pub refused_is_none : (P : Protocol) → HasNames P → IsShort (length P.queries) → (bytes : List ℕ) (claims : List Claim) (place : ℕ) (code : Code) → read_report P bytes ≡ Faulty place code → SpellsReport P bytes claims → ⊥
refused_is_none P names short bytes claims place code e is =
    let found = report_found P names short bytes claims is in
    let never : Faulty place code ≡ Found claims found.place [] = sym e ∙ found.is in
    cc

pub one_report : (P : Protocol) → HasNames P → IsShort (length P.queries) → (bytes : List ℕ) (claims others : List Claim) → SpellsReport P bytes claims → SpellsReport P bytes others → claims ≡ others
one_report P names short bytes claims others is also =
    let first = report_found P names short bytes claims is in
    let second = report_found P names short bytes others also in
    let both : Found claims first.place [] ≡ Found others second.place [] = sym first.is ∙ second.is in
    cc

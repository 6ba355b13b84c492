-- Reports: a fault of syntax is told by the bytes up to its place, and so no report goes on with these.
use Rattle.std.proofs.Common.{◌≡◌, ℕ, zero, suc, ◌+◌, ◌≤◌, ◌==◌, if◌then◌else◌, cond, Bool, not, true, false, List, [], ◌∷◌, ◌++◌, length, drop, codes, refl, sym, ◌∙◌, ap, arith}
use Rattle.std.proofs.lemmas.Bool.Decides.{nat_tests}
use Rattle.std.specs.List.{prefix_len, position_or_len}
use Rattle.std.proofs.lemmas.List.Recursion.{is_position_or_len}
use Rattle.spec_calculus.specs.Syntax.{Protocol}
use Rattle.spec_certificates.specs.Certificate.{Certificate}
use Rattle.spec_certificate_text.specs.OfProtocol.{HasNames, IsShort}
use Rattle.spec_certificate_text.specs.Terms.{Syntax, Count}
use Rattle.spec_certificate_text.specs.Outcomes.{Outcome, Found, Faulty, next, front, read_fixed, read_number, Reader, lines_from}
use Rattle.spec_certificate_text.specs.Certificates.{read_certificate}
use Rattle.spec_certificate_text.specs.Reports.{Claim, Proved, Bare, Unknown, query_number, read_text, read_step, read_run, proof_by, proved_by, read_attack, verdict_by, claim_by, behind_claims, claims_by, read_report}
use Rattle.spec_certificate_text.specs.ReportText.{SpellsReport, in_line}
use Rattle.spec_certificate_text.proofs.ReportsRead.{refused_is_none}
use Rattle.spec_reading_faults.proofs.Shared.{Shares, shares_behind, Passed, IsLocal, Moves, next_local, moves_first, choice_local, found_local, never_local, other_local}
use Rattle.spec_reading_faults.proofs.Parts.{same_local, either_local, fixed_local, fixed_moves, number_local, run, run_local, all_lines_local}
use Rattle.spec_reading_faults.proofs.Facts.{behind_fixed}
use Rattle.spec_reading_faults.proofs.Certificates.{certificate_local}

-- The line of a query.

this_number : ℕ → ℕ → ℕ → Reader (Unit {0})
this_number number from n bytes at = if n == number then Found tt at bytes else Faulty from Count

this_number-local : (number from n : ℕ) → IsLocal (this_number number from n)
unfolding this_number
this_number-local number from n = either_local (n == number) (λ bytes at. Found tt at bytes) (λ bytes at. Faulty from Count) (found_local tt) (other_local from Count (λ e. cc))

numbered_so : ℕ → Reader (Unit {0})
numbered_so number bytes at = next (read_number bytes at) (λ n p r. this_number number at n r p)

numbered_so-local : (number : ℕ) → IsLocal (numbered_so number)
unfolding numbered_so
numbered_so-local number = next_local read_number (λ at n. this_number number at n) number_local (λ at n. this_number-local number at n)

query_number-local : (number : ℕ) → IsLocal (query_number number)
unfolding numbered_so this_number
query_number-local number = behind_fixed (codes "query ") (numbered_so number) (numbered_so-local number)

-- Some bytes on a line.

long_as : (bytes : List ℕ) → prefix_len in_line bytes ≡ position_or_len (λ b. b == 10) bytes
long_as bytes = is_position_or_len (prefix_len in_line) (λ b. b == 10) refl (λ b rest. by (b == 10) (1 + prefix_len in_line rest)) bytes
  where
    by : (t : Bool) (n : ℕ) → cond (not t) n 0 ≡ cond t 0 n
    by true n = refl
    by false n = refl

line : Reader (Unit {0})
line bytes at = next (run in_line bytes at) (λ w p k. read_fixed (codes "\n") k p)

line_local : IsLocal line
unfolding line
line_local = next_local (run in_line) (λ at w. read_fixed (codes "\n")) (run_local in_line) (λ at w. fixed_local (codes "\n"))

no_line : Reader (Unit {0})
no_line bytes at = Faulty at Syntax

no_line-local : IsLocal no_line
unfolding no_line
no_line-local = never_local

some_line : Reader (Unit {0})
some_line bytes at = if front bytes == 10 then no_line bytes at else line bytes at

read_so : List ℕ → ℕ → ℕ → Outcome (Unit {0})
read_so bytes at long = if long == 0 then Faulty at Syntax else read_fixed (codes "\n") (drop long bytes) (at + long)

text_as : (bytes : List ℕ) (at : ℕ) → read_text bytes at ≡ some_line bytes at
unfolding some_line line no_line run read_so read_fixed
text_as [] at = let same : at ≡ at + 0 = omega arith in ap (no_line []) same
text_as (b ∷ bytes) at = ap (read_so (b ∷ bytes) at) (sym (long_as (b ∷ bytes))) ∙ by (b == 10)
  where
    rest : ℕ
    rest = prefix_len in_line bytes

    by : (t : Bool) → read_so (b ∷ bytes) at (cond (not t) (1 + rest) 0) ≡ (if t then Faulty at Syntax else read_fixed (codes "\n") (drop (cond (not t) (1 + rest) 0) (b ∷ bytes)) (at + cond (not t) (1 + rest) 0))
    by true = refl
    by false = some rest
      where
        none : (k : ℕ) → (1 + k == 0) ≡ false
        none k = grind (arith, nat_tests)

        some : (k : ℕ) → read_so (b ∷ bytes) at (1 + k) ≡ read_fixed (codes "\n") (drop (1 + k) (b ∷ bytes)) (at + (1 + k))
        some k = ap (λ t. if t then Faulty at Syntax else read_fixed (codes "\n") (drop (1 + k) (b ∷ bytes)) (at + (1 + k))) (none k)

text_local : IsLocal read_text
unfolding some_line
text_local = same_local read_text some_line text_as (choice_local (λ b. b == 10) no_line line no_line-local line_local)

-- The steps of a run, and `end`.

pub step_local : IsLocal read_step
step_local = behind_fixed (codes "s ") read_text text_local

pub step_moves : Moves read_step
step_moves = moves_first (read_fixed (codes "s ")) (λ at u. read_text) (fixed_moves 115 (32 ∷ [])) (λ at u. text_local)

run_read-local : IsLocal read_run
run_read-local =
    next_local (λ bytes at. lines_from 115 read_step (length bytes) [] bytes at) (λ at us. read_fixed (codes "end\n"))
    (all_lines_local 115 read_step refl step_local step_moves) (λ at us. fixed_local (codes "end\n"))

-- What is claimed, where certificates are read so.

certified : Reader Certificate → Reader Claim
certified one bytes at = next (one bytes at) (λ c p r. Found (Proved c) p r)

certified_local : (one : Reader Certificate) → IsLocal one → IsLocal (certified one)
unfolding certified
certified_local one local = next_local one (λ at c bytes p. Found (Proved c) p bytes) local (λ at c. found_local (Proved c))

bare : Reader Claim
bare bytes at = Found Bare at bytes

bare_local : IsLocal bare
unfolding bare
bare_local = found_local Bare

proof_local : (one : Reader Certificate) → IsLocal one → IsLocal (proof_by one)
unfolding certified bare
proof_local one local = choice_local (λ b. b == 99) (certified one) bare (certified_local one local) bare_local

reason : Reader Claim
reason bytes at = next (read_text bytes at) (λ _ p r. Found Unknown p r)

reason_local : IsLocal reason
unfolding reason
reason_local = next_local read_text (λ at u bytes p. Found Unknown p bytes) text_local (λ at u. found_local Unknown)

attack : Reader Claim
attack bytes at = next (read_run bytes at) (λ _ p r. Found Unknown p r)

attack_local : IsLocal attack
unfolding attack
attack_local = next_local read_run (λ at u bytes p. Found Unknown p bytes) run_read-local (λ at u. found_local Unknown)

-- ` unknown `, ` attack` and ` proved` begin with the same byte, and the second tells them apart.

attacked : Reader Certificate → Reader Claim
attacked one bytes at =
    if front bytes == 97 then next (read_fixed (codes "attack\n") bytes at) (λ _ p k. attack k p)
    else next (read_fixed (codes "proved\n") bytes at) (λ _ p k. proof_by one k p)

attacked_local : (one : Reader Certificate) → IsLocal one → IsLocal (attacked one)
unfolding attacked
attacked_local one local =
    choice_local (λ b. b == 97) (λ bytes at. next (read_fixed (codes "attack\n") bytes at) (λ _ p k. attack k p)) (λ bytes at. next (read_fixed (codes "proved\n") bytes at) (λ _ p k. proof_by one k p))
    (behind_fixed (codes "attack\n") attack attack_local) (behind_fixed (codes "proved\n") (proof_by one) (proof_local one local))

second : Reader Certificate → Reader Claim
second one bytes at =
    if front bytes == 117 then next (read_fixed (codes "unknown ") bytes at) (λ _ p k. reason k p)
    else attacked one bytes at

second_local : (one : Reader Certificate) → IsLocal one → IsLocal (second one)
unfolding second
second_local one local =
    choice_local (λ b. b == 117) (λ bytes at. next (read_fixed (codes "unknown ") bytes at) (λ _ p k. reason k p)) (attacked one)
    (behind_fixed (codes "unknown ") reason reason_local) (attacked_local one local)

behind_space : Reader Certificate → Reader Claim
behind_space one bytes at = next (read_fixed (codes " ") bytes at) (λ _ p k. second one k p)

one_way : {A : Type 0} (t : Bool) (o : Outcome A) → (if t then o else o) ≡ o
one_way true o = refl
one_way false o = refl

verdict_as : (one : Reader Certificate) (bytes : List ℕ) (at : ℕ) → verdict_by one bytes at ≡ behind_space one bytes at
unfolding behind_space second attacked reason attack read_fixed
verdict_as one [] at = refl
verdict_as one (b ∷ bytes) at = by (b == 32)
  where
    by : (t : Bool) → (if front bytes == 117 then next (if t then read_fixed (codes "unknown ") bytes (at + 1) else Faulty at Syntax) (λ _ p k. reason k p)
        else if front bytes == 97 then next (if t then read_fixed (codes "attack\n") bytes (at + 1) else Faulty at Syntax) (λ _ p k. attack k p)
        else next (if t then read_fixed (codes "proved\n") bytes (at + 1) else Faulty at Syntax) (λ _ p k. proof_by one k p))
        ≡ next {A = Unit {0}} {B = Claim} (if t then Found tt (at + 1) bytes else Faulty at Syntax) (λ _ p k. second one k p)
    by true = refl
    by false = ap (λ o. if front bytes == 117 then Faulty at Syntax else o) (one_way (front bytes == 97) (Faulty at Syntax)) ∙ one_way (front bytes == 117) (Faulty at Syntax)

-- the same where none is told as unknown for a reason
attacked_as : (one : Reader Certificate) (bytes : List ℕ) (at : ℕ) → (if front (drop 1 bytes) == 97 then read_attack bytes at else proved_by one bytes at) ≡ next (read_fixed (codes " ") bytes at) (λ _ p k. attacked one k p)
unfolding attacked attack read_fixed
attacked_as one [] at = refl
attacked_as one (b ∷ bytes) at = by (b == 32)
  where
    by : (t : Bool) → (if front bytes == 97 then next (if t then read_fixed (codes "attack\n") bytes (at + 1) else Faulty at Syntax) (λ _ p k. attack k p)
        else next (if t then read_fixed (codes "proved\n") bytes (at + 1) else Faulty at Syntax) (λ _ p k. proof_by one k p))
        ≡ next {A = Unit {0}} {B = Claim} (if t then Found tt (at + 1) bytes else Faulty at Syntax) (λ _ p k. attacked one k p)
    by true = refl
    by false = one_way (front bytes == 97) (Faulty at Syntax)

pub attack_or_proof-local : (one : Reader Certificate) → IsLocal one → IsLocal (λ bytes at. if front (drop 1 bytes) == 97 then read_attack bytes at else proved_by one bytes at)
attack_or_proof-local one local =
    same_local (λ bytes at. if front (drop 1 bytes) == 97 then read_attack bytes at else proved_by one bytes at) (λ bytes at. next (read_fixed (codes " ") bytes at) (λ _ p k. attacked one k p)) (attacked_as one)
    (behind_fixed (codes " ") (attacked one) (attacked_local one local))

pub verdict_local : (one : Reader Certificate) → IsLocal one → IsLocal (verdict_by one)
unfolding behind_space
verdict_local one local = same_local (verdict_by one) (behind_space one) (verdict_as one) (behind_fixed (codes " ") (second one) (second_local one local))

claim_local : (one : Reader Certificate) → IsLocal one → (number : ℕ) → IsLocal (claim_by one number)
claim_local one local number = next_local (query_number number) (λ at u. verdict_by one) (query_number-local number) (λ at u. verdict_local one local)

-- A reader that looks first whether a byte is there.

some_local : {A : Type 0} (r s : Reader A) → ((b : ℕ) (bytes : List ℕ) (at : ℕ) → r (b ∷ bytes) at ≡ s (b ∷ bytes) at)
    → ((at place : ℕ) → r [] at ≡ Faulty place Syntax → at ≤ place) → ((at place : ℕ) (x : A) (rest : List ℕ) → r [] at ≡ Found x place rest → Passed [] at place rest) → IsLocal s → IsLocal r
unfolding Shares
some_local {A} r s same none_later none_passed of_s = record {
  fault = λ bytes others at n place shares there e. fault_by bytes others at n place shares there e;
  found = λ bytes others at n place x rest shares there e. found_by bytes others at n place x rest shares there e;
  passed = λ bytes at place x rest e. passed_by bytes at place x rest e;
  later = λ bytes at place e. later_by bytes at place e;
}
  where
    fault_by : (bytes others : List ℕ) (at n place : ℕ) → Shares n bytes others → place ≡ at + n → r bytes at ≡ Faulty place Syntax → r others at ≡ Faulty place Syntax
    fault_by [] others at n place shares there e = absurd shares
    fault_by (b ∷ bytes) [] at n place shares there e = absurd shares
    fault_by (b ∷ bytes) (c ∷ others) at n place shares there e = same c others at ∙ of_s.fault (b ∷ bytes) (c ∷ others) at n place shares there (sym (same b bytes at) ∙ e)

    found_by : (bytes others : List ℕ) (at n place : ℕ) (x : A) (rest : List ℕ) → Shares n bytes others → place ≡ at + n → r bytes at ≡ Found x place rest → r others at ≡ Found x place (drop n others)
    found_by [] others at n place x rest shares there e = absurd shares
    found_by (b ∷ bytes) [] at n place x rest shares there e = absurd shares
    found_by (b ∷ bytes) (c ∷ others) at n place x rest shares there e = same c others at ∙ of_s.found (b ∷ bytes) (c ∷ others) at n place x rest shares there (sym (same b bytes at) ∙ e)

    passed_by : (bytes : List ℕ) (at place : ℕ) (x : A) (rest : List ℕ) → r bytes at ≡ Found x place rest → Passed bytes at place rest
    passed_by [] at place x rest e = none_passed at place x rest e
    passed_by (b ∷ bytes) at place x rest e = of_s.passed (b ∷ bytes) at place x rest (sym (same b bytes at) ∙ e)

    later_by : (bytes : List ℕ) (at place : ℕ) → r bytes at ≡ Faulty place Syntax → at ≤ place
    later_by [] at place e = none_later at place e
    later_by (b ∷ bytes) at place e = of_s.later (b ∷ bytes) at place (sym (same b bytes at) ∙ e)

too_many : Reader (List Claim)
too_many bytes at = next (read_number bytes at) (λ n p r. Faulty at Count)

too_many-local : IsLocal too_many
unfolding too_many
too_many-local = next_local read_number (λ at n bytes p. Faulty at Count) number_local (λ at n. other_local at Count (λ e. cc))

further : Reader (List Claim)
further bytes at = next (read_fixed (codes "query ") bytes at) (λ _ p k. too_many k p)

further_local : IsLocal further
unfolding further
further_local = behind_fixed (codes "query ") too_many too_many-local

ends : List Claim → Reader (List Claim)
ends claims bytes at = behind_claims claims at bytes

ends_local : (claims : List Claim) → IsLocal (ends claims)
unfolding ends further too_many
ends_local claims = some_local (ends claims) further (λ b bytes at. refl)
    (λ at place e. absurd (cc))
    (λ at place x rest e. let places : at ≡ place = cc in let rests : [] ≡ rest = cc in record { count = 0; there = omega (arith, places); is = sym rests })
    further_local

claims_end : (one : Reader Certificate) (number : ℕ) (claims : List Claim) (bytes : List ℕ) (at : ℕ) → claims_by one 0 number claims bytes at ≡ ends claims bytes at
unfolding claims_by ends
claims_end one number claims bytes at = refl

claims_none : (one : Reader Certificate) (left number : ℕ) (claims : List Claim) (at : ℕ) → claims_by one (suc left) number claims [] at ≡ Faulty at Count
unfolding claims_by
claims_none one left number claims at = refl

one_claim : Reader Certificate → ℕ → ℕ → List Claim → Reader (List Claim)
one_claim one left number claims bytes at = next (claim_by one number bytes at) (λ c p r. claims_by one left (number + 1) (claims ++ c ∷ []) r p)

claims_more : (one : Reader Certificate) (left number : ℕ) (claims : List Claim) (b : ℕ) (bytes : List ℕ) (at : ℕ) → claims_by one (suc left) number claims (b ∷ bytes) at ≡ one_claim one left number claims (b ∷ bytes) at
unfolding claims_by one_claim
claims_more one left number claims b bytes at = refl

none_later : (one : Reader Certificate) (left number : ℕ) (claims : List Claim) (at place : ℕ) → claims_by one (suc left) number claims [] at ≡ Faulty place Syntax → at ≤ place
none_later one left number claims at place e = let never : Faulty at Count ≡ Faulty place Syntax = sym (claims_none one left number claims at) ∙ e in absurd (cc)

none_passed : (one : Reader Certificate) (left number : ℕ) (claims : List Claim) (at place : ℕ) (x : List Claim) (rest : List ℕ) → claims_by one (suc left) number claims [] at ≡ Found x place rest → Passed [] at place rest
none_passed one left number claims at place x rest e = let never : Faulty at Count ≡ Found x place rest = sym (claims_none one left number claims at) ∙ e in absurd (cc)

one_claim-local : (one : Reader Certificate) → IsLocal one → (left number : ℕ) (claims : List Claim) → ((more : List Claim) → IsLocal (claims_by one left (number + 1) more)) → IsLocal (one_claim one left number claims)
unfolding one_claim
one_claim-local one local left number claims again = next_local (claim_by one number) (λ at c. claims_by one left (number + 1) (claims ++ c ∷ [])) (claim_local one local number) (λ at c. again (claims ++ c ∷ []))

pub claims_local : (one : Reader Certificate) → IsLocal one → (left number : ℕ) (claims : List Claim) → IsLocal (claims_by one left number claims)
claims_local one local zero number claims = same_local (claims_by one 0 number claims) (ends claims) (claims_end one number claims) (ends_local claims)
claims_local one local (suc left) number claims =
    some_local (claims_by one (suc left) number claims) (one_claim one left number claims) (claims_more one left number claims) (none_later one left number claims) (none_passed one left number claims)
    (one_claim-local one local left number claims (λ more. claims_local one local left (number + 1) more))

pub report_told : (P : Protocol) (before : List ℕ) (b : ℕ) (rest other : List ℕ) → read_report P (before ++ b ∷ rest) ≡ Faulty (length before) Syntax → read_report P (before ++ b ∷ other) ≡ Faulty (length before) Syntax
report_told P before b rest other e =
    (claims_local (read_certificate P) (certificate_local P) (length P.queries) 1 []).fault (before ++ b ∷ rest) (before ++ b ∷ other) 0 (length before) (length before) (shares_behind before b rest other) (omega arith) e

pub no_report : (P : Protocol) (before : List ℕ) (b : ℕ) (rest other : List ℕ) (claims : List Claim) → HasNames P → IsShort (length P.queries) → read_report P (before ++ b ∷ rest) ≡ Faulty (length before) Syntax → SpellsReport P (before ++ b ∷ other) claims → ⊥
no_report P before b rest other claims names short e spells = refused_is_none P names short (before ++ b ∷ other) claims (length before) Syntax (report_told P before b rest other e) spells

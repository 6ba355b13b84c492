-- Reading reports.
use Rattle.std.specs.Prelude.{ℕ, zero, suc, ◌+◌, ◌==◌, if◌then◌else◌, List, [], ◌∷◌, ◌++◌, length, drop, codes}
use Rattle.std.specs.List.{position_or_len}
use Rattle.spec_calculus.specs.Syntax.{Protocol}
use Rattle.spec_certificates.specs.Certificate.{Certificate}
use Rattle.spec_certificate_text.specs.Terms.{Syntax, Count}
use Rattle.spec_certificate_text.specs.Outcomes.{Outcome, Found, Faulty, next, front, read_fixed, read_number, Reader, lines_from}
use Rattle.spec_certificate_text.specs.Certificates.{read_certificate}

-- what a report claims of a query: that it is proved, with a certificate or without one, or that this is unknown
pub data Claim : Type 0 where
  Proved : (certificate : Certificate) → Claim
  Bare : Claim
  Unknown : Claim

-- `query ` and the number of the query, which has to be this one
abbrev pub query_number : ℕ → List ℕ → ℕ → Outcome (Unit {0})
query_number number bytes at =
    next (read_fixed (codes "query ") bytes at) (λ _ from r.
    next (read_number r from) (λ n p r. if n == number then Found tt p r else Faulty from Count))

-- some bytes, one at least, and the end of their line
abbrev pub read_text : List ℕ → ℕ → Outcome (Unit {0})
read_text bytes at =
    if position_or_len (λ b. b == 10) bytes == 0 then Faulty at Syntax
    else read_fixed (codes "\n") (drop (position_or_len (λ b. b == 10) bytes) bytes) (at + position_or_len (λ b. b == 10) bytes)

abbrev pub read_unknown : List ℕ → ℕ → Outcome Claim
read_unknown bytes at =
    next (read_fixed (codes " unknown ") bytes at) (λ _ p r.
    next (read_text r p) (λ _ p r. Found Unknown p r))

-- a step of a run: `s ` and some bytes on a line, which are not looked at
abbrev pub read_step : Reader (Unit {0})
read_step bytes at = next (read_fixed (codes "s ") bytes at) (λ _ p r. read_text r p)

-- the steps of a run, of which there are no more than bytes, and `end`
abbrev pub read_run : Reader (Unit {0})
read_run bytes at = next (lines_from 115 read_step (length bytes) [] bytes at) (λ _ p r. read_fixed (codes "end\n") r p)

-- an attack shows no proof, and so its claim is read as unknown
abbrev pub read_attack : List ℕ → ℕ → Outcome Claim
read_attack bytes at =
    next (read_fixed (codes " attack\n") bytes at) (λ _ p r.
    next (read_run r p) (λ _ p r. Found Unknown p r))

-- behind the claim of the last query there is nothing: no number is that of a further query
abbrev pub behind_claims : List Claim → ℕ → List ℕ → Outcome (List Claim)
behind_claims claims at [] = Found claims at []
behind_claims claims at (b ∷ bytes) =
    next (read_fixed (codes "query ") (b ∷ bytes) at) (λ _ from r. next (read_number r from) (λ n p r. Faulty from Count))

-- Where one reader reads a certificate.
module _ (one : Reader Certificate) where
  -- a certificate, if one begins here
  abbrev pub proof_by : List ℕ → ℕ → Outcome Claim
  proof_by bytes at = if front bytes == 99 then next (one bytes at) (λ c p r. Found (Proved c) p r) else Found Bare at bytes

  abbrev pub proved_by : List ℕ → ℕ → Outcome Claim
  proved_by bytes at = next (read_fixed (codes " proved\n") bytes at) (λ _ p r. proof_by r p)

  -- what is claimed: the second byte tells ` unknown `, ` attack` and ` proved` apart
  abbrev pub verdict_by : List ℕ → ℕ → Outcome Claim
  verdict_by bytes at =
      if front (drop 1 bytes) == 117 then read_unknown bytes at
      else if front (drop 1 bytes) == 97 then read_attack bytes at
      else proved_by bytes at

  -- the claim of the query of this number
  abbrev pub claim_by : ℕ → List ℕ → ℕ → Outcome Claim
  claim_by number bytes at = next (query_number number bytes at) (λ _ p r. verdict_by r p)

  -- claims behind these, so many, the first of which is that of the query of this number
  unfoldable pub claims_by : ℕ → ℕ → List Claim → List ℕ → ℕ → Outcome (List Claim)
  claims_by zero number claims bytes at = behind_claims claims at bytes
  claims_by (suc left) number claims [] at = Faulty at Count
  claims_by (suc left) number claims (b ∷ bytes) at =
      next (claim_by number (b ∷ bytes) at) (λ c p r. claims_by left (number + 1) (claims ++ c ∷ []) r p)

-- Certificates without a table.

abbrev pub read_proof : Protocol → List ℕ → ℕ → Outcome Claim
read_proof P bytes at = proof_by (read_certificate P) bytes at

abbrev pub read_proved : Protocol → List ℕ → ℕ → Outcome Claim
read_proved P bytes at = proved_by (read_certificate P) bytes at

abbrev pub read_verdict : Protocol → List ℕ → ℕ → Outcome Claim
read_verdict P bytes at = verdict_by (read_certificate P) bytes at

abbrev pub read_claim : Protocol → ℕ → List ℕ → ℕ → Outcome Claim
read_claim P number bytes at = claim_by (read_certificate P) number bytes at

abbrev pub claims_from : Protocol → ℕ → ℕ → List Claim → List ℕ → ℕ → Outcome (List Claim)
claims_from P left number claims bytes at = claims_by (read_certificate P) left number claims bytes at

-- the claims of a report, one for each query of the protocol
abbrev pub read_report : Protocol → List ℕ → Outcome (List Claim)
read_report P bytes = claims_from P (length P.queries) 1 [] bytes 0

-- The texts of reports: what is claimed of each query, in order.
use Rattle.std.specs.Prelude.{◌≡◌, ℕ, ◌+◌, ◌==◌, ◌⊎◌, Bool, not, true, false, List, [], ◌∷◌, ◌++◌, length, codes}
use Rattle.std.specs.Fmt.{decimal}
use Rattle.std.specs.List.{AllByRecursion, list_all}
use Rattle.spec_calculus.specs.Syntax.{Protocol}
use Rattle.spec_certificates.specs.Certificate.{Certificate}
use Rattle.spec_certificate_text.specs.Text.{certificate_text}
use Rattle.spec_certificate_text.specs.Readable.{IsReadableCertificate}
use Rattle.spec_certificate_text.specs.Reports.{Claim, Proved, Bare, Unknown}

-- `query ` and a number
abbrev pub query_text : ℕ → List ℕ → List ℕ
query_text number rest = codes "query " ++ (decimal number ++ rest)

-- no byte that ends a line
abbrev pub in_line : ℕ → Bool
in_line b = not (b == 10)

-- a reason, or a step: some bytes, one at least, on one line
pub record IsReason (reason : List ℕ) : Type 0 where
  pub some : (length reason == 0) ≡ false
  pub one_line : list_all in_line reason ≡ true

-- the steps of a run, each behind `s ` on a line of its own
abbrev pub steps_text : List (List ℕ) → List ℕ → List ℕ
steps_text [] rest = rest
steps_text (step ∷ steps) rest = codes "s " ++ (step ++ 10 ∷ steps_text steps rest)

-- the steps of a run, and `end`
abbrev pub run_text : List (List ℕ) → List ℕ → List ℕ
run_text steps rest = steps_text steps (codes "end\n" ++ rest)

-- what is told of a query that is not proved: a reason, or the run of an attack; neither is looked at
abbrev pub SpellsUnknown : ℕ → List ℕ → List ℕ → Type 0
SpellsUnknown number rest bytes =
    ((reason : List ℕ) × IsReason reason × (bytes ≡ query_text number (codes " unknown " ++ (reason ++ 10 ∷ rest)))) ⊎
    ((steps : List (List ℕ)) × AllByRecursion IsReason steps × (bytes ≡ query_text number (codes " attack\n" ++ run_text steps rest)))

-- Where the bytes spell this certificate, and then the rest.
module _ (Spells : List ℕ → Certificate → List ℕ → Type 0) where
  -- the bytes begin with this claim of the query of that number, and the rest stands behind it
  abbrev pub SpellsClaimBy : ℕ → Claim → List ℕ → List ℕ → Type 0
  SpellsClaimBy number (Proved certificate) rest bytes =
      (text : List ℕ) × Spells text certificate rest × (bytes ≡ query_text number (codes " proved\n" ++ text))
  SpellsClaimBy number Bare rest bytes = bytes ≡ query_text number (codes " proved\n" ++ rest)
  SpellsClaimBy number Unknown rest bytes = SpellsUnknown number rest bytes

  -- the bytes are these claims, the first of which is of the query of that number
  abbrev pub SpellsClaimsBy : ℕ → List Claim → List ℕ → Type 0
  SpellsClaimsBy number [] bytes = bytes ≡ []
  SpellsClaimsBy number (claim ∷ claims) bytes =
      (rest : List ℕ) × SpellsClaimBy number claim rest bytes × SpellsClaimsBy (number + 1) claims rest

-- Certificates without a table.

-- the bytes begin with this claim of the query of that number, and the rest stands behind it
abbrev pub SpellsClaim : Protocol → ℕ → Claim → List ℕ → List ℕ → Type 0
SpellsClaim P number (Proved certificate) rest bytes =
    IsReadableCertificate P certificate ×
    (bytes ≡ query_text number (codes " proved\n" ++ certificate_text P certificate rest))
SpellsClaim P number Bare rest bytes = bytes ≡ query_text number (codes " proved\n" ++ rest)
SpellsClaim P number Unknown rest bytes = SpellsUnknown number rest bytes

-- the bytes are these claims, the first of which is of the query of that number
abbrev pub SpellsClaims : Protocol → ℕ → List Claim → List ℕ → Type 0
SpellsClaims P number [] bytes = bytes ≡ []
SpellsClaims P number (claim ∷ claims) bytes =
    (rest : List ℕ) × SpellsClaim P number claim rest bytes × SpellsClaims P (number + 1) claims rest

-- the bytes are a report that claims this of the queries of the protocol, of each of them
pub record SpellsReport (P : Protocol) (bytes : List ℕ) (claims : List Claim) : Type 0 where
  pub each : SpellsClaims P 1 claims bytes
  pub all : length claims ≡ length P.queries

-- What the words, the bytes of a file and the protocol that they spell have to do with the outcome.
use Rattle.std.specs.Prelude.{◌≡◌, ◌≤◌, ℕ, ◌⊎◌, List, Some, IfSome, slice_get}
use Rattle.spec_calculus.specs.Bounds.{most_budget, most_keys}
use Rattle.spec_calculus.specs.Syntax as syntax
use Rattle.spec_calculus.specs.Runs.{Step}
use Rattle.spec_calculus.specs.Secrecy.{Holds}
use Rattle.spec_protocol_scope.specs.Spells as spells
use Rattle.spec_protocol_scope.specs.Spells.{Spells, Refuses}
use Rattle.spec_certificates.specs.Certificate.{Certificate}
use Rattle.spec_saturation.specs.Key.{Entry}
use Rattle.spec_verdicts.specs.Verdict.{IsVerdict, Unmet}
use Rattle.spec_attack_runs.specs.Attack.{IsAttack, Violates}
use Rattle.hv_io.specs.Place.{line_at, column_at}
use Rattle.command_words.specs.Request.{Request, Verify, RingOf}
use Rattle.cert_checker.specs.declared.ruling.Ruling.TheVariants.{Accepted}
use Rattle.query_verify.specs.declared.answers.Verdict.TheVariants.{Proved, Attack}
use Rattle.call_outcomes.specs.declared.outcome.Finding.TheVariants.{Ruled}
use Rattle.call_outcomes.specs.Outcome.{Refusal, Protocol, Outcome, Usage, Verified, Checked, Listed, ListLarge, NoQuery, Replayed, Ring, Refused, ReadFault, Memory, Becomes}
use Rattle.call_outcomes.specs.Decided.{IsDecidedBy}

-- the numbers of a request are within their limits: the budget, the format of certificates, and the number of a ring's keys
abbrev pub IsAskable : Request → Type 0
IsAskable (Verify file budget format) = (budget ≤ most_budget) × ((1 ≤ format) × (format ≤ 2))
IsAskable (RingOf stages) = (2 ≤ stages) × (stages ≤ most_keys)
IsAskable _ = Unit {0}

-- the refusal of bytes at one of them, by its line and column
abbrev pub refusal_at : List ℕ → spells.Refusal → ℕ → Refusal
refusal_at bytes why place = Protocol (line_at bytes place) (column_at bytes place) why

-- the bytes are refused so, and there
pub record IsRefusalOf (bytes : List ℕ) (refusal : Refusal) : Type 0 where
  pub why : spells.Refusal
  pub place : ℕ
  pub refused : Refuses bytes why place
  pub shown : refusal ≡ refusal_at bytes why place

-- what the queries of a file with these bytes may come to
abbrev pub IsOutcomeOf : List ℕ → Outcome → Type 0
IsOutcomeOf bytes (Verified verdicts) = (P : syntax.Protocol) × Spells bytes P
IsOutcomeOf bytes (Refused refusal) = IsRefusalOf bytes refusal
IsOutcomeOf bytes Memory = Unit {0}
IsOutcomeOf bytes _ = ⊥

-- this query, counted from 0, is proved, or the certificate that claims so is accepted
abbrev pub IsShownAt : Outcome → ℕ → Type 0
IsShownAt (Verified verdicts) k = (certificate : Certificate) × (slice_get verdicts k ≡ Some (Proved certificate))
IsShownAt (Checked findings) k = slice_get findings k ≡ Some (Ruled Accepted)
IsShownAt (Ring ring) k = (k ≡ 0) × ((certificate : Certificate) × (ring.verdict ≡ Proved certificate))
IsShownAt (Refused refusal) k = ⊥
IsShownAt Memory k = ⊥
IsShownAt (Listed clauses) k = ⊥
IsShownAt (ListLarge point) k = ⊥
IsShownAt (NoQuery query) k = ⊥
IsShownAt (Replayed replay) k = ⊥
IsShownAt Usage k = ⊥
IsShownAt ReadFault k = ⊥

-- no run of the protocol that the bytes spell violates a query that is proved, or whose certificate is accepted
abbrev pub NoneViolated : List ℕ → Outcome → Type 0
NoneViolated bytes outcome =
    (P : syntax.Protocol) → Spells bytes P → (k : ℕ) → IsShownAt outcome k → IfSome (slice_get P.queries k) (λ query. Holds P query)

-- these steps are told as an attack on this query, counted from 0
abbrev pub IsAttackedBy : Outcome → ℕ → List Step → Type 0
IsAttackedBy (Verified verdicts) k steps = slice_get verdicts k ≡ Some (Attack steps)
IsAttackedBy (Ring ring) k steps = (k ≡ 0) × (ring.verdict ≡ Attack steps)
IsAttackedBy (Checked findings) k steps = ⊥
IsAttackedBy (Refused refusal) k steps = ⊥
IsAttackedBy Memory k steps = ⊥
IsAttackedBy (Listed clauses) k steps = ⊥
IsAttackedBy (ListLarge point) k steps = ⊥
IsAttackedBy (NoQuery query) k steps = ⊥
IsAttackedBy (Replayed replay) k steps = ⊥
IsAttackedBy Usage k steps = ⊥
IsAttackedBy ReadFault k steps = ⊥

-- what is told as an attack is a run of the protocol that the bytes spell, and a beginning of it ends in a violation of the query
abbrev pub AttacksViolate : List ℕ → Outcome → Type 0
AttacksViolate bytes outcome =
    (P : syntax.Protocol) → Spells bytes P → (k : ℕ) (steps : List Step) → IsAttackedBy outcome k steps → IfSome (slice_get P.queries k) (λ query. Violates P query steps)

-- the verdict of the query with the budget is an entry that isn't satisfied, and these steps are the attack that it tells
pub record HasAttack (P : syntax.Protocol) (budget : ℕ) (query : syntax.Query) (steps : List Step) : Type 0 where
  pub log : List Entry
  pub number : ℕ
  pub unmet : IsVerdict P query budget (Unmet log number)
  pub attack : IsAttack P query log number steps

-- of each query those steps are told as an attack, and those alone, that are its attack; or there was no memory
abbrev pub AttacksAreTold : List ℕ → ℕ → Outcome → Type 0
AttacksAreTold bytes budget outcome =
    (P : syntax.Protocol) → Spells bytes P → (k : ℕ) (query : syntax.Query) → slice_get P.queries k ≡ Some query → (steps : List Step)
    → (IsAttackedBy outcome k steps → HasAttack P budget query steps) × (HasAttack P budget query steps → IsAttackedBy outcome k steps ⊎ (outcome ≡ Memory))

-- what `verify` comes to where the file has these bytes
pub record Verifies (bytes : List ℕ) (budget : ℕ) (outcome : Outcome) : Type 0 where
  -- the outcome is a protocol's verdicts or a refusal, or want of memory, and nothing else
  pub answers : IsOutcomeOf bytes outcome
  -- where the bytes spell a protocol, they are that protocol's verdicts
  pub accepts : (P : syntax.Protocol) → Spells bytes P → IsDecidedBy P budget outcome
  -- and where they are refused, it is this refusal, at this place
  pub refuses : (why : spells.Refusal) (place : ℕ) → Refuses bytes why place → Becomes (Refused (refusal_at bytes why place)) outcome
  -- the headline
  pub none_violated : NoneViolated bytes outcome
  -- what is told as an attack is one, and attacks are told
  pub attacks_violate : AttacksViolate bytes outcome
  pub attacks_told : AttacksAreTold bytes budget outcome

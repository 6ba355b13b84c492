use Rattle.std.specs.Prelude.{ℕ, List}
use Rattle.spec_calculus.specs.Syntax.{Term as Message, EventTerm, Query, Secret, SecretNew, Correspondence, Protocol}
use Rattle.spec_calculus.specs.Secrecy.{Holds}
use Rattle.spec_terms.specs.Term.{Term}
use Rattle.spec_clauses.specs.Fact.{Clause}
use Rattle.spec_certificates.specs.Shown.{IsProper, IsShownBy}
use Rattle.spec_soundness.proofs.resting_queries_hold.Goals as goal

-- a query is of one of three kinds
module _ (P : Protocol) (all rules : List (Clause Term)) where
  of_kinds : ((message : Message) (phase : ℕ) → IsProper P (Secret message phase) → IsShownBy P (Secret message phase) all rules → Holds P (Secret message phase)) → ((point phase : ℕ) → IsProper P (SecretNew point phase) → IsShownBy P (SecretNew point phase) all rules → Holds P (SecretNew point phase)) → ((left : EventTerm) (alternatives : List (List EventTerm)) → IsProper P (Correspondence left alternatives) → IsShownBy P (Correspondence left alternatives) all rules → Holds P (Correspondence left alternatives)) → (q : Query) → IsProper P q → IsShownBy P q all rules → Holds P q
  of_kinds messages names events (Secret message phase) = messages message phase
  of_kinds messages names events (SecretNew point phase) = names point phase
  of_kinds messages names events (Correspondence left alternatives) = events left alternatives

pub returns : goal.returns
returns c = λ P q all rules.
    of_kinds P all rules (λ message phase. c.secrets_are_kept.ensures.messages P message phase all rules) (λ point phase. c.secrets_are_kept.ensures.names P point phase all rules)
    (λ left alternatives. c.correspondences_hold.ensures P left alternatives all rules) q

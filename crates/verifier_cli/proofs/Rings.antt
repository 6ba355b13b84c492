-- From the summary of a ring to what is said of the command `ring`.
use Rattle.std.proofs.Common.{◌≡◌, ◌≢◌, ◌∙◌, ℕ, ◌+◌, ◌<◌, ◌≤◌, List, [], ◌∷◌, length, Some, IfSome, slice_get, refl, sym, ap, subst, arith}
use Rattle.spec_trees.specs.Tree.{Leaf}
use Rattle.spec_calculus.specs.Syntax as syntax
use Rattle.spec_calculus.specs.Syntax.{Free, Query, Secret}
use Rattle.spec_calculus.specs.Points.{numbered}
use Rattle.spec_calculus.specs.Secrecy.{Holds}
use Rattle.spec_protocol_scope.specs.Spells.{Spells, Refusal, Refuses}
use Rattle.spec_ring_text.specs.Text.{ring_text}
use Rattle.spec_ring_text.specs.Meaning.{ring_protocol}
use Rattle.spec_terms.specs.Term.{Term}
use Rattle.spec_clauses.specs.Fact.{Clause}
use Rattle.spec_translation.specs.Translation.{Clauses, IsTranslation}
use Rattle.spec_attack_runs.specs.Attack.{Violates}
use Rattle.query_derive.specs.GoalRows.{OfQuery}
use Rattle.query_verify.specs.declared.answers.Verdict.{Verdict}
use Rattle.query_verify.specs.Told.{IsAnswer, AnswerQueries}
use Rattle.call_outcomes.specs.declared.outcome.Ring.{Ring as Summary}
use Rattle.call_outcomes.specs.Outcome.{Outcome, Ring, Refused, ReadFault, Memory}
use Rattle.verifier_cli.specs.Command.{NoneViolated, AttacksViolate}
use Rattle.verifier_cli.specs.Unread.{IsNoReading}
use Rattle.verifier_cli.specs.Ringing.{HasCount, IsSummaryOf, IsRingOf, IsRingOutcome, Rings}
use Rattle.verifier_cli.proofs.Verifying.{Soundness, Laws, none_violated, attacks_violate}

-- what a ring asks
abbrev secret : Query
secret = Secret (Leaf (Free 2)) 0

-- how many clauses the law says that it is translated into
abbrev pub Translates : ℕ → Type 0
Translates n = (all : List (Clause Term)) × IsTranslation (ring_protocol n) secret (Clauses all) × (length all ≡ n + 8)

-- what is said of the summary of a protocol that is the ring's
pub summary_said : (P : syntax.Protocol) (n : ℕ) (ring : Summary) → P ≡ ring_protocol n → Translates n → ring.stages ≡ n → ring.bytes ≡ length (ring_text n) → ring.clauses ≡ n + 8
    → OfQuery P 1 (λ q. IsAnswer P q 10000 ring.verdict) → IsSummaryOf P n ring
summary_said P n ring same translates stages bytes clauses answer =
    let only : P.queries ≡ secret ∷ [] = ap (λ (X : syntax.Protocol). X.queries) same in record {
      stages = stages;
      bytes = bytes;
      query = secret;
      only = only;
      clauses = subst (λ (X : syntax.Protocol). HasCount X secret ring.clauses) (sym same) (Clauses translates.0, translates.1, clauses ∙ sym translates.2);
      verdict = answer secret (ap (λ (qs : List Query). numbered qs 1) only);
    }

-- its query is there
pub only_there : (P : syntax.Protocol) (n : ℕ) → P ≡ ring_protocol n → (0 < 1) × (1 ≤ length P.queries)
only_there P n same = let one : length P.queries ≡ 1 = ap (λ (X : syntax.Protocol). length X.queries) same in (omega arith, omega (arith, one))

-- of want of memory
pub memory_rings : (n : ℕ) → Rings n Memory
memory_rings n = record { answers = tt; accepts = λ P spells. tt; none_violated = λ P spells k shown. absurd shown; attacks_violate = λ P spells k steps attacked. absurd attacked }

-- where a text that spells a protocol is not read, there was no memory
pub unread_is_memory : (bytes : List ℕ) → ((why : Refusal) (place : ℕ) → Refuses bytes why place → ⊥) → (outcome : Outcome) → IsNoReading bytes outcome → outcome ≡ Memory
unread_is_memory bytes never (Refused refusal) is = absurd (never is.why is.place is.refused)
unread_is_memory bytes never Memory is = refl
unread_is_memory bytes never _ is = absurd is

-- a ring comes to no fault of reading
pub rings_read : (n : ℕ) (outcome : Outcome) → Rings n outcome → outcome ≢ ReadFault
rings_read n Memory is = λ e. cc
rings_read n (Ring ring) is = λ e. cc
rings_read n _ is = absurd is.answers

-- the verdict is that of all queries, since there is one
summary_answers : (P : syntax.Protocol) (n : ℕ) (ring : Summary) → IsSummaryOf P n ring → AnswerQueries P 10000 P.queries (ring.verdict ∷ [])
summary_answers P n ring is = subst (λ (qs : List Query). AnswerQueries P 10000 qs (ring.verdict ∷ [])) (sym is.only) (is.verdict, tt)

-- a query that is proved is not violated
summary_violates_none : Soundness → Laws → (n : ℕ) (P : syntax.Protocol) (ring : Summary) → Spells (ring_text n) P → IsSummaryOf P n ring → NoneViolated (ring_text n) (Ring ring)
summary_violates_none sound laws n P ring spelled is = λ Q spells k shown.
    let holds = none_violated sound laws (ring_text n) P 10000 (ring.verdict ∷ []) spelled (summary_answers P n ring is) Q spells 0 (shown.1.0, ap (λ (v : Verdict). Some v) shown.1.1) in
    subst (λ (i : ℕ). IfSome (slice_get Q.queries i) (λ q. Holds Q q)) (sym shown.0) holds

-- and what is told as an attack violates it
summary_attacks_violate : Laws → (n : ℕ) (P : syntax.Protocol) (ring : Summary) → Spells (ring_text n) P → IsSummaryOf P n ring → AttacksViolate (ring_text n) (Ring ring)
summary_attacks_violate laws n P ring spelled is = λ Q spells k steps attacked.
    let violates = attacks_violate laws (ring_text n) P 10000 (ring.verdict ∷ []) spelled (summary_answers P n ring is) Q spells 0 steps (ap (λ (v : Verdict). Some v) attacked.1) in
    subst (λ (i : ℕ). IfSome (slice_get Q.queries i) (λ q. Violates Q q steps)) (sym attacked.0) violates

ring_violates_none : Soundness → Laws → (n : ℕ) (P : syntax.Protocol) (outcome : Outcome) → Spells (ring_text n) P → IsRingOf P n outcome → NoneViolated (ring_text n) outcome
ring_violates_none sound laws n P (Ring ring) spelled is = summary_violates_none sound laws n P ring spelled is
ring_violates_none sound laws n P Memory spelled is = λ Q spells k shown. absurd shown
ring_violates_none sound laws n P _ spelled is = absurd is

ring_attacks_violate : Laws → (n : ℕ) (P : syntax.Protocol) (outcome : Outcome) → Spells (ring_text n) P → IsRingOf P n outcome → AttacksViolate (ring_text n) outcome
ring_attacks_violate laws n P (Ring ring) spelled is = summary_attacks_violate laws n P ring spelled is
ring_attacks_violate laws n P Memory spelled is = λ Q spells k steps attacked. absurd attacked
ring_attacks_violate laws n P _ spelled is = absurd is

ring_outcome : (n : ℕ) (P : syntax.Protocol) (outcome : Outcome) → Spells (ring_text n) P → IsRingOf P n outcome → IsRingOutcome n outcome
ring_outcome n P (Ring ring) spelled is = (P, spelled)
ring_outcome n P Memory spelled is = tt
ring_outcome n P _ spelled is = absurd is

-- where the text was read
pub ring_said : Soundness → Laws → (n : ℕ) (P : syntax.Protocol) (outcome : Outcome) → IsRingOf P n outcome → Spells (ring_text n) P → Rings n outcome
ring_said sound laws n P outcome is spelled = record {
  answers = ring_outcome n P outcome spelled is;
  accepts = λ Q spells. subst (λ (X : syntax.Protocol). IsRingOf X n outcome) (laws.one_protocol (ring_text n) P Q spelled spells) is;
  none_violated = ring_violates_none sound laws n P outcome spelled is;
  attacks_violate = ring_attacks_violate laws n P outcome spelled is;
}

-- What the command `ring` comes to: the summary of a ring.
use Rattle.std.specs.Prelude.{◌≡◌, ℕ, [], ◌∷◌, length}
use Rattle.spec_calculus.specs.Syntax as syntax
use Rattle.spec_protocol_scope.specs.Spells.{Spells}
use Rattle.spec_ring_text.specs.Text.{ring_text}
use Rattle.spec_translation.specs.Translation.{Translated, Clauses, LargeAt, IsTranslation}
use Rattle.query_verify.specs.Told.{IsAnswer}
use Rattle.call_outcomes.specs.declared.outcome.Ring.{Ring as Summary}
use Rattle.call_outcomes.specs.Outcome.{Outcome, Ring, Memory}
use Rattle.verifier_cli.specs.Command.{NoneViolated, AttacksViolate}

-- how many clauses a translation has: none where it is large
abbrev pub clause_count : Translated → ℕ
clause_count (Clauses clauses) = length clauses
clause_count (LargeAt point) = 0

-- the protocol and the query are translated into so many clauses
abbrev pub HasCount : syntax.Protocol → syntax.Query → ℕ → Type 0
HasCount P q count = (translated : Translated) × IsTranslation P q translated × (count ≡ clause_count translated)

-- the summary of the ring of n keys, whose text spells the protocol: n, the bytes of the text, and of the protocol's only
-- query how many clauses it is translated into, and its verdict with the budget 10,000
pub record IsSummaryOf (P : syntax.Protocol) (n : ℕ) (ring : Summary) : Type 0 where
  pub stages : ring.stages ≡ n
  pub bytes : ring.bytes ≡ length (ring_text n)
  pub query : syntax.Query
  pub only : P.queries ≡ query ∷ []
  pub clauses : HasCount P query ring.clauses
  pub verdict : IsAnswer P query 10000 ring.verdict

-- the outcome is that summary, or want of memory in its place
abbrev pub IsRingOf : syntax.Protocol → ℕ → Outcome → Type 0
IsRingOf P n (Ring ring) = IsSummaryOf P n ring
IsRingOf P n Memory = Unit {0}
IsRingOf P n _ = ⊥

-- what `ring` may come to: the text always spells a protocol, so it is never refused, and no file is read
abbrev pub IsRingOutcome : ℕ → Outcome → Type 0
IsRingOutcome n (Ring ring) = (P : syntax.Protocol) × Spells (ring_text n) P
IsRingOutcome n Memory = Unit {0}
IsRingOutcome n _ = ⊥

-- what `ring` comes to for n keys
pub record Rings (n : ℕ) (outcome : Outcome) : Type 0 where
  -- the outcome is a summary, or want of memory, and nothing else
  pub answers : IsRingOutcome n outcome
  -- the summary is that of the protocol that the text spells
  pub accepts : (P : syntax.Protocol) → Spells (ring_text n) P → IsRingOf P n outcome
  -- the headline
  pub none_violated : NoneViolated (ring_text n) outcome
  -- and what is told as an attack is one
  pub attacks_violate : AttacksViolate (ring_text n) outcome

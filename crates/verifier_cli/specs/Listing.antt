-- What the command `list` comes to: the translation of a protocol and a query of it.
use Rattle.std.specs.Prelude.{◌≡◌, ℕ, List, Some, None}
use Rattle.spec_calculus.specs.Syntax as syntax
use Rattle.spec_calculus.specs.Points.{numbered}
use Rattle.spec_protocol_scope.specs.Spells as spells
use Rattle.spec_protocol_scope.specs.Spells.{Spells, Refuses}
use Rattle.spec_translation.specs.Translation.{Translated, Clauses, LargeAt, IsTranslation}
use Rattle.call_outcomes.specs.Outcome.{Outcome, Listed, ListLarge, NoQuery, Refused, Memory, Becomes}
use Rattle.verifier_cli.specs.Command.{IsRefusalOf, refusal_at}

-- the protocol's query of that number has this translation
abbrev pub IsTranslated : syntax.Protocol → ℕ → Translated → Type 0
IsTranslated P number translated = (q : syntax.Query) × (numbered P.queries number ≡ Some q) × IsTranslation P q translated

-- what is listed of the protocol's query of that number: its translation, or that there is none, or want of memory in its place
abbrev pub IsListOf : syntax.Protocol → ℕ → Outcome → Type 0
IsListOf P number (Listed clauses) = IsTranslated P number (Clauses clauses)
IsListOf P number (ListLarge point) = IsTranslated P number (LargeAt point)
IsListOf P number (NoQuery asked) = (asked ≡ number) × (numbered P.queries number ≡ None)
IsListOf P number Memory = Unit {0}
IsListOf P number _ = ⊥

-- what `list` may come to where the protocol's file has these bytes
abbrev pub IsListOutcome : List ℕ → Outcome → Type 0
IsListOutcome bytes (Refused refusal) = IsRefusalOf bytes refusal
IsListOutcome bytes (Listed clauses) = (P : syntax.Protocol) × Spells bytes P
IsListOutcome bytes (ListLarge point) = (P : syntax.Protocol) × Spells bytes P
IsListOutcome bytes (NoQuery asked) = (P : syntax.Protocol) × Spells bytes P
IsListOutcome bytes Memory = Unit {0}
IsListOutcome bytes _ = ⊥

-- what `list` comes to where the protocol's file has these bytes
pub record Lists (bytes : List ℕ) (number : ℕ) (outcome : Outcome) : Type 0 where
  -- the outcome is a list or a refusal, or want of memory, and nothing else
  pub answers : IsListOutcome bytes outcome
  -- where the bytes spell a protocol, it is that protocol's list
  pub accepts : (P : syntax.Protocol) → Spells bytes P → IsListOf P number outcome
  -- and where they are refused, it is this refusal, at this place
  pub refuses : (why : spells.Refusal) (place : ℕ) → Refuses bytes why place → Becomes (Refused (refusal_at bytes why place)) outcome

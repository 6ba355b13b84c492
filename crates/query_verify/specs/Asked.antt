-- What is asked: a query of a protocol, with a budget; and when an answer is the right one.
use Rattle.std.specs.Prelude.{◌<◌, ◌^◌, ℕ, List}
use Rattle.spec_calculus.specs.Syntax.{Protocol}
use Rattle.spec_terms.specs.Term.{Term}
use Rattle.spec_saturation.specs.Key.{Entry}
use Rattle.spec_verdicts.specs.Verdict.{Unmet}
use Rattle.spec_well_formed.specs.Limits.{IsWithinLimits}
use Rattle.spec_well_formed.specs.Rules.{HasProperRules}
use Rattle.spec_well_formed.specs.Queries.{HasProperQueries}
use Rattle.spec_well_formed.specs.WellFormed.{IsWellScoped}
use Rattle.pi_tree.specs.Protocols.{protocol_of}
use Rattle.pi_tree.specs.Accessors.{IsThere}
use Rattle.pi_tree.specs.declared.accessors.Kind.TheVariants as kinds
use Rattle.query_derive.specs.GoalRows.{OfQuery}
use Rattle.clause_translate.specs.Whole.{TranslatesTo, IsLargeAt}
use Rattle.log_entries.specs.declared.log.PlainEntry.{PlainEntry}
use Rattle.log_entries.specs.PlainLogs.{TellPlainLog}
use Rattle.query_verify.specs.declared.question.Question.{Question}
use Rattle.query_verify.specs.declared.answers.Verdict.{Verdict}
use Rattle.query_verify.specs.Told.{Tells, IsAnswer}
use Rattle.clause_form.specs.Seen.{IdClause}

-- the protocol that is asked about
abbrev pub protocol_at : Question → Protocol
protocol_at question = protocol_of question.protocol.now

-- the protocol is within the limits and well formed, the query is there, and the numbers of a log's entries fit 32 bits
pub record CanBeAsked (question : Question) : Type 0 where
  pub limits : IsWithinLimits (protocol_at question)
  pub rules : HasProperRules (protocol_at question)
  pub scoped : IsWellScoped (protocol_at question)
  pub queries : HasProperQueries (protocol_at question)
  pub there : IsThere (protocol_at question) kinds.Query question.query
  pub budget : question.budget < 2 ^ 32

-- the clauses are those that the protocol and the query are translated into
abbrev pub AreAskedOf : Question → List Term → List IdClause → Type 0
AreAskedOf question all given = TranslatesTo (protocol_at question) question.query all given

-- the verdict answers the question
abbrev pub Answers : Question → Verdict → Type 0
Answers question answer = OfQuery (protocol_at question) question.query (λ q. IsAnswer (protocol_at question) q question.budget answer)

-- no visit of the protocol is too large
abbrev pub IsNeverLarge : Protocol → Type 0
IsNeverLarge P = (point : ℕ) → IsLargeAt P point → ⊥

-- the verdict tells that the entry of this number isn't satisfied, of each log that the entries tell
abbrev pub TellsUnmet : Question → List PlainEntry → ℕ → Verdict → Type 0
TellsUnmet question entries number answer =
    (log : List Entry) → TellPlainLog entries log → OfQuery (protocol_at question) question.query (λ q. Tells (protocol_at question) q answer (Unmet log number))

-- What is told of the log of a query: that of the clauses that the protocol and the query are translated into.
use Rattle.std.specs.Prelude.{◌≡◌, ◌<◌, ◌^◌, ℕ, min, max, Option, None, Some, List, length}
use Rattle.spec_calculus.specs.Syntax.{Query, Protocol}
use Rattle.spec_terms.specs.Term.{Term}
use Rattle.spec_clauses.specs.Fact.{Clause}
use Rattle.spec_translation.specs.Translation.{Clauses, LargeAt, IsTranslation, attacker_clauses}
use Rattle.spec_certificates.specs.Certificate.{Certificate}
use Rattle.spec_saturation.specs.Key.{Entry}
use Rattle.spec_saturation.specs.End.{End, Closed, Spent, TooLarge, IsLog}
use Rattle.spec_verdicts.specs.Verdict as verdict
use Rattle.spec_verdicts.specs.Verdict.{IsVerdict}
use Rattle.spec_well_formed.specs.Limits.{IsWithinLimits}
use Rattle.pi_tree.specs.Protocols.{protocol_of}
use Rattle.pi_tree.specs.Accessors.{IsThere}
use Rattle.pi_tree.specs.declared.accessors.Kind.TheVariants as kinds
use Rattle.query_derive.specs.GoalRows.{OfQuery}
use Rattle.log_entries.specs.declared.log.Entry as saturated
use Rattle.log_entries.specs.declared.log.PlainEntry.{PlainEntry}
use Rattle.log_entries.specs.Logs.{IsSolvedAt, TellLog}
use Rattle.log_entries.specs.PlainLogs.{TellPlainLog, TellsDue}
use Rattle.clause_instances.specs.Derivations.{HasNormedLog}
use Rattle.query_verify.specs.Asked.{IsNeverLarge}
use Rattle.log_text.specs.declared.told.Told.{Told}
use Rattle.log_text.specs.declared.told.Told.TheVariants as told
use Rattle.log_text.specs.declared.told.LogEnd.{LogEnd}
use Rattle.log_text.specs.declared.told.QueryLog.{QueryLog}
use Rattle.log_text.specs.declared.told.LogEnd.TheVariants as ends
use Rattle.hx.specs.declared.logging.Asked.{Asked}

-- the protocol that is asked about
abbrev pub protocol_at : Asked → Protocol
protocol_at asked = protocol_of asked.protocol.now

-- the protocol is within the limits, the query is there, the numbers of a log's entries fit 32 bits, and the attacker's clauses are counted
pub record CanBeAsked (asked : Asked) : Type 0 where
  pub limits : IsWithinLimits (protocol_at asked)
  pub there : IsThere (protocol_at asked) kinds.Query asked.query
  pub budget : asked.budget < 2 ^ 32
  pub attackers : asked.attackers ≡ length (attacker_clauses (protocol_at asked))

-- how the log ends; of a pair that is too large it is told which entry is solved
abbrev pub TellsEnd : List Entry → LogEnd → End → Type 0
TellsEnd log ends.Closed end = end ≡ Closed
TellsEnd log (ends.Spent entry) end = (due : Entry) × TellsDue log entry due × (end ≡ Spent due)
TellsEnd log (ends.Large solved unsolved) end = (end ≡ TooLarge (max solved unsolved) (min solved unsolved)) × IsSolvedAt log solved

-- the entries and the end are those of the one log of these clauses
pub record TellsLog (given : List (Clause Term)) (budget : ℕ) (entries : List PlainEntry) (end : LogEnd) : Type 0 where
  pub log : List Entry
  pub ended : End
  pub is_log : IsLog given budget log ended
  pub tell : TellPlainLog entries log
  pub tell_end : TellsEnd log end ended

-- the verdict of the entries of a closed log in their bank: that the query is proved, or that this entry is unmet
abbrev pub FindsUnmet : Protocol → Query → ℕ → List Term → List saturated.Entry → Option ℕ → Type 0
FindsUnmet P q budget all entries None = (certificate : Certificate) × IsVerdict P q budget (verdict.Proved certificate)
FindsUnmet P q budget all entries (Some number) = (log : List Entry) × TellLog all entries log × IsVerdict P q budget (verdict.Unmet log number)

-- the verdict where the log is closed: that the query is proved, or that this entry is unmet, which is the first
abbrev pub IsDecided : Protocol → Query → ℕ → List PlainEntry → LogEnd → Option ℕ → Type 0
IsDecided P q budget entries ends.Closed None = (certificate : Certificate) × IsVerdict P q budget (verdict.Proved certificate)
IsDecided P q budget entries ends.Closed (Some number) = (log : List Entry) × TellPlainLog entries log × IsVerdict P q budget (verdict.Unmet log number)
IsDecided P q budget entries (ends.Spent due) unmet = unmet ≡ None
IsDecided P q budget entries (ends.Large solved unsolved) unmet = unmet ≡ None

-- so of the clauses that the protocol and the query are translated into; the first of these are the attacker's
pub record TellsGivenLog (P : Protocol) (q : Query) (budget : ℕ) (log : QueryLog) : Type 0 where
  pub clauses : List (Clause Term)
  pub translates : IsTranslation P q (Clauses clauses)
  pub tells : TellsLog clauses budget log.entries log.end
  pub attackers : log.attackers ≡ length (attacker_clauses P)
  pub given : log.given ≡ length clauses
  pub decided : IsDecided P q budget log.entries log.end log.unmet

abbrev pub IsToldFor : Asked → QueryLog → Type 0
IsToldFor asked log = OfQuery (protocol_at asked) asked.query (λ q. TellsGivenLog (protocol_at asked) q asked.budget log)

-- what is told of the log of a protocol, a query and a budget
abbrev pub TellsQueryLog : Protocol → Query → ℕ → Told → Type 0
TellsQueryLog P q budget (told.TooLarge point) = IsTranslation P q (LargeAt point)
TellsQueryLog P q budget (told.Logged log) = TellsGivenLog P q budget log

-- The instances of an entry that isn't satisfied can be told: the clauses of the log are norms within the limit.
abbrev pub CanExplainEntry : List PlainEntry → Option ℕ → Type 0
CanExplainEntry entries None = Unit {0}
CanExplainEntry entries (Some number) = HasNormedLog entries

abbrev pub CanExplainLog : QueryLog → Type 0
CanExplainLog log = CanExplainEntry log.entries log.unmet

-- The sources of the clauses of a log can be told too: no visit is too large.
abbrev pub CanBeExplained : Protocol → Told → Type 0
CanBeExplained P (told.TooLarge point) = Unit {0}
CanBeExplained P (told.Logged log) = IsNeverLarge P × CanExplainLog log

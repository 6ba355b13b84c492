-- The text that a call of the program writes, and the status that it ends with.
use Rattle.std.specs.Prelude.{◌≡◌, ℕ, ◌+◌, List, [], ◌∷◌, ◌++◌, codes, Bool, true, false, if◌then◌else◌, Option, Some, None, is_none, option_map, option_copied}
use Rattle.std.specs.Borrow.{Bor}
use Rattle.std.specs.Fmt.{decimal}
use Rattle.std.specs.List.{list_all}
use Rattle.spec_calculus.specs.Syntax as syntax
use Rattle.spec_calculus.specs.Refusals as step
use Rattle.spec_run_text.specs.Faults as run
use Rattle.spec_terms.specs.Term.{Term}
use Rattle.spec_clauses.specs.Fact.{Clause}
use Rattle.spec_certificate_text.specs.Text.{clause_text}
use Rattle.spec_certificate_text.specs.Terms as report
use Rattle.pi_tree.specs.declared.protocols.Protocol.{Protocol as Protocol'}
use Rattle.pi_tree.specs.Protocols.{protocol_of}
use Rattle.protocol_loading.specs.Codes.{code_text}
use Rattle.cert_checker.specs.declared.ruling.Ruling.{Ruling}
use Rattle.cert_checker.specs.declared.ruling.Ruling.TheVariants.{Accepted, Shape, Translation, Cover, Closure, Goal, Extra}
use Rattle.call_outcomes.specs.VerdictText.{line, verdict_line, verdict_lines, is_proved}
use Rattle.call_outcomes.specs.declared.outcome.Finding.{Finding}
use Rattle.call_outcomes.specs.declared.outcome.Finding.TheVariants.{Ruled, Missing, NotClaimed}
use Rattle.call_outcomes.specs.declared.outcome.Ring.{Ring as Summary}
use Rattle.call_outcomes.specs.Outcome.{RunRefusal, Faulty, LongRun, ReportRefusal, Misspelled, LongReport, Refusal, Protocol, Report, Run, Replay, Done, Stuck, Outcome, Usage, Verified, Checked, Listed, ListLarge, NoQuery, Replayed, Ring, Refused, ReadFault, Memory}

-- what is ruled of a certificate: it is accepted, or the first obligation that isn't met
abbrev pub ruling_text : Ruling → List ℕ
ruling_text Accepted = codes "accepted"
ruling_text (Shape clause) = codes "refused shape " ++ decimal clause
ruling_text (Translation point) = codes "refused translation " ++ decimal point
ruling_text (Cover clause) = codes "refused cover " ++ decimal clause
ruling_text (Closure solved unsolved resolvent) =
    codes "refused closure " ++ decimal solved ++ codes " " ++ decimal unsolved ++ codes " " ++ decimal resolvent
ruling_text (Goal clause) = codes "refused goal " ++ decimal clause
ruling_text (Extra row) = codes "refused extra " ++ decimal row

-- what is found of a claim
abbrev pub finding_text : Finding → List ℕ
finding_text (Ruled ruling) = ruling_text ruling
finding_text Missing = codes "missing"
finding_text NotClaimed = codes "not claimed"

-- a line for each query, the first of which has this number
abbrev pub finding_lines : ℕ → List Finding → List ℕ
finding_lines number [] = []
finding_lines number (finding ∷ findings) =
    line (codes "query " ++ decimal number ++ codes " " ++ finding_text finding) ++ finding_lines (number + 1) findings

-- the code of a refused report, and its name
abbrev pub report_code_text : ReportRefusal → List ℕ
report_code_text (Misspelled report.Syntax) = codes "1 Syntax"
report_code_text (Misspelled report.Number) = codes "2 Number"
report_code_text (Misspelled report.Symbol) = codes "3 Symbol"
report_code_text (Misspelled report.Arity) = codes "4 Arity"
report_code_text (Misspelled report.Count) = codes "5 Count"
report_code_text (Misspelled report.NodeOrder) = codes "7 NodeOrder"
report_code_text (Misspelled report.NodeLarge) = codes "8 NodeLarge"
report_code_text LongReport = codes "6 LongFile"

-- the code of a refused run, and its name
abbrev pub run_code_text : RunRefusal → List ℕ
run_code_text (Faulty run.Word) = codes "1 Word"
run_code_text (Faulty run.Number) = codes "2 Number"
run_code_text (Faulty run.LongLine) = codes "3 LongLine"
run_code_text LongRun = codes "4 LongFile"

abbrev pub refusal_text : Refusal → List ℕ
refusal_text (Protocol row column why) =
    codes "refused " ++ decimal row ++ codes ":" ++ decimal column ++ codes " " ++ code_text why
refusal_text (Report row why) = codes "refused report " ++ decimal row ++ codes " " ++ report_code_text why
refusal_text (Run row why) = codes "refused run " ++ decimal row ++ codes " " ++ run_code_text why

-- since when a query is violated
abbrev pub first_text : Option ℕ → List ℕ
first_text None = codes "not violated"
first_text (Some step) = codes "violated " ++ decimal step

-- a line for each query, the first of which has this number
abbrev pub first_lines : ℕ → List (Option ℕ) → List ℕ
first_lines number [] = []
first_lines number (first ∷ firsts) =
    line (codes "query " ++ decimal number ++ codes " " ++ first_text first) ++ first_lines (number + 1) firsts

-- the code of a refused step, and its name
abbrev pub step_text : step.Refusal → List ℕ
step_text step.NoThread = codes "1 NoThread"
step_text step.WrongForm = codes "2 WrongForm"
step_text step.UnknownChannel = codes "3 UnknownChannel"
step_text step.ChannelsDiffer = codes "4 ChannelsDiffer"
step_text step.NoKnowledge = codes "5 NoKnowledge"
step_text step.NoRule = codes "6 NoRule"
step_text step.NotFailing = codes "7 NotFailing"
step_text step.NotPublic = codes "8 NotPublic"
step_text step.Large = codes "9 Large"
step_text step.NoEntry = codes "10 NoEntry"

-- what a replay to the end shows, by the number of its steps and the queries' first violations
abbrev pub done_text : ℕ → List (Option ℕ) → List ℕ
done_text steps firsts = line (codes "done " ++ decimal steps) ++ first_lines 1 firsts

-- what a replay shows
abbrev pub replay_text : Replay → List ℕ
replay_text (Done end steps firsts) = done_text steps firsts
replay_text (Stuck number refusal) = line (codes "stuck " ++ decimal number ++ codes " " ++ step_text refusal)

-- the numbers of a ring's summary, a line for each
abbrev pub number_lines : Summary → List ℕ
number_lines ring = line (codes "ring " ++ decimal ring.stages) ++ line (codes "bytes " ++ decimal ring.bytes) ++ line (codes "clauses " ++ decimal ring.clauses)

-- the summary of a ring: its numbers, and the verdict of its query
abbrev pub summary_lines : Summary → syntax.Protocol → List ℕ
summary_lines ring P = number_lines ring ++ codes "query 1 " ++ verdict_line P ring.verdict

-- a line for each clause, in the words of the protocol
abbrev pub clause_lines : syntax.Protocol → List (Clause Term) → List ℕ
clause_lines P [] = []
clause_lines P (c ∷ cs) = line (clause_text P c []) ++ clause_lines P cs

-- the protocol in whose words clauses are printed
abbrev pub words_of : Option (Bor Protocol') → Option syntax.Protocol
words_of protocol = option_map protocol_of (option_copied protocol)

-- what is printed in the words of a protocol: nothing where there is none
abbrev pub in_words : (syntax.Protocol → List ℕ) → Option syntax.Protocol → List ℕ
in_words text None = []
in_words text (Some P) = text P

-- the outcome prints clauses, which want the words of a protocol
abbrev pub prints_clauses : Outcome → Bool
prints_clauses (Verified verdicts) = true
prints_clauses (Listed clauses) = true
prints_clauses (Ring ring) = true
prints_clauses _ = false

-- where the outcome prints clauses, there is a protocol
abbrev pub HasText : Option syntax.Protocol → Outcome → Type 0
HasText None outcome = prints_clauses outcome ≡ false
HasText (Some P) outcome = Unit {0}

-- all that a call writes, in the words of its protocol, with certificates in the format
abbrev pub outcome_bytes : ℕ → Option syntax.Protocol → Outcome → List ℕ
outcome_bytes format P Usage = line (codes "usage: verify FILE [--budget N] [--format F] | check FILE REPORT | list FILE QUERY | replay FILE RUN | ring N")
outcome_bytes format P (Verified verdicts) = in_words (verdict_lines format 1 verdicts) P
outcome_bytes format P (Checked findings) = finding_lines 1 findings
outcome_bytes format P (Listed clauses) = in_words (λ own. clause_lines own clauses) P
outcome_bytes format P (ListLarge point) = line (codes "size point " ++ decimal point)
outcome_bytes format P (NoQuery query) = line (codes "no query " ++ decimal query)
outcome_bytes format P (Replayed replay) = replay_text replay
outcome_bytes format P (Ring ring) = in_words (summary_lines ring) P
outcome_bytes format P (Refused refusal) = line (refusal_text refusal)
outcome_bytes format P ReadFault = line (codes "read fault")
outcome_bytes format P Memory = line (codes "want of memory")

-- whether the finding is that the certificate is accepted
abbrev pub is_accepted : Finding → Bool
is_accepted (Ruled Accepted) = true
is_accepted _ = false

-- a replay to its end that violates no query
abbrev pub is_without_violation : Replay → Bool
is_without_violation (Done end steps firsts) = list_all is_none firsts
is_without_violation (Stuck number refusal) = false

-- the status that a call ends with where its text is written
abbrev pub status_of : Outcome → ℕ
status_of Usage = 2
status_of (Verified verdicts) = if list_all is_proved verdicts then 0 else 1
status_of (Checked findings) = if list_all is_accepted findings then 0 else 1
status_of (Listed clauses) = 0
status_of (ListLarge point) = 1
status_of (NoQuery query) = 1
status_of (Replayed replay) = if is_without_violation replay then 0 else 1
status_of (Ring ring) = if is_proved ring.verdict then 0 else 1
status_of (Refused (Protocol row column why)) = 3
status_of (Refused (Report row why)) = 4
status_of (Refused (Run row why)) = 4
status_of ReadFault = 5
status_of Memory = 7

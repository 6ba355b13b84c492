-- Verdicts that are told: of one query, and of all queries of a protocol.
use Rattle.std.specs.Prelude.{◌≡◌, ℕ, Some, None, List, [], ◌∷◌}
use Rattle.spec_calculus.specs.Syntax.{Query, Protocol}
use Rattle.spec_attack_runs.specs.Attack.{Reconstructed}
use Rattle.spec_verdicts.specs.Verdict.{Verdict, Proved, Budget, SizePair, SizePoint, Unmet, IsVerdict}
use Rattle.query_verify.specs.declared.answers.Verdict as told
use Rattle.query_verify.specs.declared.answers.Verdict.TheVariants as made
use Rattle.log_entries.specs.PlainLogs.{TellPlainLog, TellsDue}

-- what is told is the verdict: the same certificate, numbers and point, and entries that tell the log; in place of an entry that isn't
-- satisfied the attack that it tells, and the entry where it tells none
abbrev pub Tells : Protocol → Query → told.Verdict → Verdict → Type 0
Tells P q (made.Proved certificate) (Proved c) = certificate ≡ c
Tells P q (made.Budget entries entry) (Budget log due) = TellPlainLog entries log × TellsDue log entry due
Tells P q (made.SizePair entries solved unsolved) (SizePair log i j) = TellPlainLog entries log × (solved ≡ i) × (unsolved ≡ j)
Tells P q (made.SizePoint point) (SizePoint p) = point ≡ p
Tells P q (made.Unmet entries number) (Unmet log n) = TellPlainLog entries log × (number ≡ n) × Reconstructed P q log n None
Tells P q (made.Attack steps) (Unmet log n) = Reconstructed P q log n (Some steps)
Tells P q _ _ = ⊥

-- it is the one verdict of the protocol, the query and the budget
pub record IsAnswer (P : Protocol) (q : Query) (budget : ℕ) (answer : told.Verdict) : Type 0 where
  pub verdict : Verdict
  pub tells : Tells P q answer verdict
  pub is : IsVerdict P q budget verdict

-- the verdicts of the queries, one for each, in order
abbrev pub AnswerQueries : Protocol → ℕ → List Query → List told.Verdict → Type 0
AnswerQueries P budget [] [] = Unit {0}
AnswerQueries P budget [] (answer ∷ answers) = ⊥
AnswerQueries P budget (q ∷ queries) [] = ⊥
AnswerQueries P budget (q ∷ queries) (answer ∷ answers) = IsAnswer P q budget answer × AnswerQueries P budget queries answers

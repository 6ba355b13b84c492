-- What is found of a query: a run violates it, or it holds.
use Rattle.std.proofs.Common.{◌≡◌, ℕ, true, subst}
use Rattle.std.specs.Prelude.{IfSome}
use Rattle.spec_calculus.specs.Syntax.{Protocol, Query}
use Rattle.spec_calculus.specs.Secrecy.{Holds}
use Rattle.spec_well_formed.specs.Queries.{HasQueryLeaves}
use Rattle.spec_certificates.specs.Shown.{IsProper}
use Rattle.spec_verdicts.specs.Verdict as defined
use Rattle.run_replay.specs.Reached.{IsViolatedSometime}
use Rattle.clause_translate.proofs.Linear.{linear_patterns}
use Rattle.query_derive.specs.GoalRows.{OfQuery}
use Rattle.query_derive.proofs.Deciding.{query_has}
use Rattle.query_verify.specs.declared.answers.Verdict.{Verdict}
use Rattle.query_verify.specs.declared.answers.Verdict.TheVariants.{Proved, Budget, SizePair, SizePoint, Unmet, Attack}
use Rattle.query_verify.specs.Told.{Tells, IsAnswer}
use Rattle.attack_search.specs.declared.searching.Searched.{Searched}
use Rattle.attack_search.specs.declared.searching.Searched.TheVariants as ends
use Rattle.attack_search.specs.Found.{IsAttackWhereFound}
use Rattle.hx.specs.declared.attacking.Finding.TheVariants as found
use Rattle.hx.specs.Readable.{IsReadable}
use Rattle.hx.specs.Never.{is_proved}
use Rattle.hx.specs.Attacks.{run_told, ViolatesIfFound}
use Rattle.hx.proofs.Noting.{ProvedHold, its_certificate, proved_verdict}

-- the run of an attack that `verify` tells violates the query
verdict_violates : (P : Protocol) (q : Query) (answer : Verdict) (v : defined.Verdict) → Tells P q answer v → IfSome (run_told answer) (λ steps. IsViolatedSometime P steps q)
verdict_violates P q (Proved certificate) v tells = tt
verdict_violates P q (Budget log due) v tells = tt
verdict_violates P q (SizePair log i j) v tells = tt
verdict_violates P q (SizePoint point) v tells = tt
verdict_violates P q (Unmet log n) v tells = tt
verdict_violates P q (Attack steps) (defined.Proved c) tells = absurd tells
verdict_violates P q (Attack steps) (defined.Budget log due) tells = absurd tells
verdict_violates P q (Attack steps) (defined.SizePair log i j) tells = absurd tells
verdict_violates P q (Attack steps) (defined.SizePoint point) tells = absurd tells
verdict_violates P q (Attack steps) (defined.Unmet log n) attack =
    let end = attack.violates in
    (end.count, record { configuration = end.configuration; reached = end.runs; violated = end.violated })

pub told_violates : (P : Protocol) (query budget : ℕ) (answer : Verdict) → OfQuery P query (λ q. IsAnswer P q budget answer) → OfQuery P query (λ q. ViolatesIfFound P q (found.Told answer))
told_violates P query budget answer answers = λ q there. let one = answers q there in verdict_violates P q answer one.verdict one.tells

-- and so does the run that a search finds
pub searched_violates : (P : Protocol) (query : ℕ) (searched : Searched) → IsAttackWhereFound P query searched → OfQuery P query (λ q. ViolatesIfFound P q (found.Searched searched))
searched_violates P query (ends.Found steps) attack = λ q there. attack.violated q there
searched_violates P query (ends.Nothing effort) attack = λ q there. tt

-- a query that is proved holds
pub told_holds : (P : Protocol) (query budget : ℕ) (answer : Verdict) → IsReadable P → ProvedHold → OfQuery P query (λ q. IsAnswer P q budget answer) → is_proved answer ≡ true → OfQuery P query (λ q. Holds P q)
told_holds P query budget answer readable hold answers proved = λ q there.
    let c = its_certificate answer proved in
    let one : IsAnswer P q budget (Proved c.certificate) = subst (λ (a : Verdict). IsAnswer P q budget a) c.is (answers q there) in
    let proper : IsProper P q = record { rules = readable.rules; patterns = linear_patterns P readable.scoped; query = query_has (HasQueryLeaves P) P query q readable.queries there } in
    hold P q budget c.certificate proper (proved_verdict P q budget c.certificate one.verdict one.tells one.is)

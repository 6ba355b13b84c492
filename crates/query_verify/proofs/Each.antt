-- The answers to queries, one more at a time.
use Rattle.std.proofs.Common.{◌≡◌, ℕ, zero, suc, ◌+◌, ◌<◌, ◌≤◌, Some, List, [], ◌∷◌, ◌++◌, length, take, refl, sym, subst, arith}
use Rattle.std.proofs.lemmas.List.{take_all}
use Rattle.spec_calculus.specs.Syntax.{Query, Protocol}
use Rattle.spec_calculus.specs.Points.{numbered}
use Rattle.query_verify.specs.declared.answers.Verdict as told
use Rattle.query_verify.specs.Told.{IsAnswer, AnswerQueries}

next_answered : (P : Protocol) (budget : ℕ) (qs : List Query) (i : ℕ) (answers : List told.Verdict) (answer : told.Verdict) → i < length qs → AnswerQueries P budget (take i qs) answers → ((q : Query) → numbered qs (suc i) ≡ Some q → IsAnswer P q budget answer)
    → AnswerQueries P budget (take (suc i) qs) (answers ++ answer ∷ [])
next_answered P budget [] i answers answer within so_far next = absurd (omega arith)
next_answered P budget (q ∷ qs) zero [] answer within so_far next = (next q refl, tt)
next_answered P budget (q ∷ qs) zero (a ∷ answers) answer within so_far next = absurd so_far
next_answered P budget (q ∷ qs) (suc i) [] answer within so_far next = absurd so_far
next_answered P budget (q ∷ qs) (suc i) (a ∷ answers) answer within so_far next = (so_far.0, next_answered P budget qs i answers answer (omega arith) so_far.1 next)

-- one more query is answered
pub one_more : (P : Protocol) (budget : ℕ) (qs : List Query) (i : ℕ) (answers all : List told.Verdict) (answer : told.Verdict) → i < length qs → all ≡ answers ++ answer ∷ [] → AnswerQueries P budget (take i qs) answers → ((q : Query) → numbered qs (i + 1) ≡ Some q → IsAnswer P q budget answer)
    → AnswerQueries P budget (take (i + 1) qs) all
one_more P budget qs i answers all answer within is so_far next =
    let number : suc i ≡ i + 1 = omega arith in
    subst (AnswerQueries P budget (take (i + 1) qs)) (sym is)
    (subst (λ n. AnswerQueries P budget (take n qs) (answers ++ answer ∷ [])) number (next_answered P budget qs i answers answer within so_far (λ q there. next q (subst (λ n. numbered qs n ≡ Some q) number there))))

-- all are
pub all_answered : (P : Protocol) (budget : ℕ) (qs : List Query) (i : ℕ) (answers : List told.Verdict) → length qs ≤ i → AnswerQueries P budget (take i qs) answers → AnswerQueries P budget qs answers
all_answered P budget qs i answers past so_far = subst (λ l. AnswerQueries P budget l answers) (take_all i qs past) so_far

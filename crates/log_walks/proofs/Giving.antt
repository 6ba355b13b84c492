-- The given clauses of a task by their ids: those but the goal, and the goal behind them.
use Rattle.std.proofs.Common.{◌≡◌, ◌∙◌, ℕ, zero, suc, ◌-◌, ◌<◌, ◌≤◌, Bool, Some, List, [], ◌∷◌, length, take, map, get_or, refl, ap, sym, subst, arith}
use Rattle.std.proofs.lemmas.List.{length-map}
use Rattle.spec_terms.specs.Term.{Term}
use Rattle.spec_calculus.specs.Points.{numbered}
use Rattle.spec_clauses.specs.Fact.{Clause}
use Rattle.spec_clauses.specs.Norm.{IsNormal}
use Rattle.spec_clauses.specs.Limits.{IsWithinLimit}
use Rattle.spec_clauses.specs.Inclusion.{here, there, Has}
use Rattle.spec_saturation.specs.Common.{with_goal}
use Rattle.spec_saturation.proofs.Common.{with_goal_length}
use Rattle.term_tree.proofs.BankLaws.{slice_get-append}
use Rattle.clause_form.specs.Seen.{clause_at, IdClause}
use Rattle.clause_form.specs.Fit.{AreFit}
use Rattle.log_walks.specs.Walked.{Task, IsTask, AreGivenOf}
use Rattle.log_entries.proofs.Placing.{number_given}

-- a number is that of the same clause with a goal behind
numbered_before : (clauses : List (Clause Term)) (goal : Clause Term) (k : ℕ) → k ≤ length clauses → numbered (with_goal clauses goal) k ≡ numbered clauses k
numbered_before clauses goal zero few = refl
numbered_before clauses goal (suc k) few = slice_get-append clauses (goal ∷ []) k (omega (arith, few))

pub given_count : (all : List Term) (cs : List IdClause) (task : Task) → AreGivenOf all cs task → length task.given ≡ suc (length cs)
given_count all cs task (goal, are) =
    ap length are ∙ (with_goal_length (map (clause_at all) cs) goal ∙ ap (λ n. suc n) (length-map cs (clause_at all)))

pub given_number : (all : List Term) (cs : List IdClause) (task : Task) (k : ℕ) (c : IdClause) → AreGivenOf all cs task → c ≡ get_or cs (k - 1) c → 0 < k → k ≤ length cs → numbered task.given k ≡ Some (clause_at all c)
given_number all cs task k c (goal, are) is some within =
    ap (λ xs. numbered xs k) are
    ∙ (numbered_before (map (clause_at all) cs) goal k (let count = length-map cs (clause_at all) in omega (arith, within, count))
    ∙ number_given all cs k c is some within)

-- all but the last of a list
pub all_but_last : (all : List Term) (cs : List IdClause) (n : ℕ) (task : Task) → 0 < length cs → n ≡ length cs - 1 → map (clause_at all) cs ≡ task.given → AreGivenOf all (take n cs) task
all_but_last all [] n task some count are = absurd (omega (arith, some))
all_but_last all (c ∷ cs) n task some count are =
    let size : n ≡ length cs = omega (arith, count) in
    subst (λ m. AreGivenOf all (take m (c ∷ cs)) task) (sym size) (let split = front c cs in (split.0, sym are ∙ split.1))
  where
    front : (c : IdClause) (cs : List IdClause) → (goal : Clause Term) × (map (clause_at all) (c ∷ cs) ≡ with_goal (map (clause_at all) (take (length cs) (c ∷ cs))) goal)
    front c [] = (clause_at all c, refl)
    front c (d ∷ ds) = let split = front d ds in (split.0, ap (λ xs. clause_at all c ∷ xs) split.1)

pub fit_front : (all : List Term) (cs : List IdClause) (n : ℕ) → AreFit all cs → AreFit all (take n cs)
fit_front all cs zero fit = tt
fit_front all [] (suc n) fit = tt
fit_front all (c ∷ cs) (suc n) fit = (fit.0, fit_front all cs n fit.1)

-- clauses that are fit, with a goal that is, make a task
pub goal_task : (clauses : List (Clause Term)) (goal : Clause Term) (budget : ℕ) (asked : Bool) → ((c : Clause Term) → Has clauses c → IsNormal c) → ((c : Clause Term) → Has clauses c → IsWithinLimit c) → IsNormal goal → IsWithinLimit goal → IsTask (record { given = with_goal clauses goal; budget = budget; asked = asked })
goal_task clauses goal budget asked normal small own within = record {
  some = (let count = with_goal_length clauses goal in omega (arith, count));
  normal = holds IsNormal clauses normal own;
  small = holds IsWithinLimit clauses small within;
}
  where
    holds : (P : Clause Term → Type 0) (cs : List (Clause Term)) → ((c : Clause Term) → Has cs c → P c) → P goal → (c : Clause Term) → Has (with_goal cs goal) c → P c
    holds P [] each last c (rest, here) = last
    holds P [] each last c (rest, there p) = elim p [ ]
    holds P (d ∷ ds) each last c (rest, here) = each d (ds, here)
    holds P (d ∷ ds) each last c (rest, there p) = holds P ds (λ x h. each x (d ∷ h.0, there h.1)) last c (_, p)

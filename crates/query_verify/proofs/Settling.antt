-- The verdict of every query where it is settled before any goal.
use Rattle.std.proofs.Common.{◌≡◌, ℕ, List, [], ◌∷◌, ◌++◌, min, max, map, refl, sym, subst, inl, inr}
use Rattle.spec_calculus.specs.Syntax.{Query, Protocol}
use Rattle.spec_terms.specs.Term.{Term}
use Rattle.spec_clauses.specs.Fact.{Clause}
use Rattle.spec_translation.specs.Translation.{LargeAt, IsTranslation, goal_clauses}
use Rattle.spec_saturation.specs.End.{Spent, TooLarge, IsLog}
use Rattle.spec_verdicts.specs.Verdict.{Budget, SizePair, SizePoint}
use Rattle.log_entries.specs.declared.log.Entry.{Entry}
use Rattle.log_entries.specs.declared.log.PlainEntry.{PlainEntry}
use Rattle.clause_saturate.specs.Common.{IsSpentCommon, IsLargeCommon}
use Rattle.log_entries.specs.Plain.{plain_entry}
use Rattle.query_verify.specs.declared.answers.Verdict.TheVariants as made
use Rattle.query_verify.specs.Settled.{AreCommonTo, shared_by}
use Rattle.query_verify.specs.Told.{IsAnswer}
use Rattle.query_verify.proofs.Telling.{plain_tells, due_tells}

-- each query has one goal clause
abbrev pub HaveOneGoal : Protocol → Type 0
HaveOneGoal P = (q : Query) → (goal : Clause Term) × (goal_clauses P q ≡ goal ∷ [])

pub point_of_all : (P : Protocol) (budget point : ℕ) → ((q : Query) → IsTranslation P q (LargeAt point)) → (q : Query) → IsAnswer P q budget (made.SizePoint point)
point_of_all P budget point h q = record { verdict = SizePoint point; tells = refl; is = inl (point, h q, refl) }

pub spent_of_all : (P : Protocol) (budget : ℕ) (all : List Term) (clauses : List (Clause Term)) (entries : List Entry) (entry : Entry) (plain : List PlainEntry) (due : PlainEntry) → HaveOneGoal P → AreCommonTo P clauses → IsSpentCommon all (shared_by clauses budget) entries entry
    → plain ≡ map (plain_entry all) entries → due ≡ plain_entry all entry → (q : Query) → IsAnswer P q budget (made.Budget plain due)
spent_of_all P budget all clauses entries entry plain due one common h plain_is due_is q =
    let goal = one q in
    record {
      verdict = Budget h.log h.due;
      tells = (plain_tells all entries h.log plain h.tell plain_is, due_tells all h.log entry h.due due h.tells_due h.unbeaten due_is);
      is = inr (clauses ++ goal_clauses P q, common q, subst (λ cs. IsLog (clauses ++ cs) budget h.log (Spent h.due)) (sym goal.1) (h.is_common goal.0).is_log);
    }

pub pair_of_all : (P : Protocol) (budget : ℕ) (all : List Term) (clauses : List (Clause Term)) (entries : List Entry) (solved unsolved : ℕ) (plain : List PlainEntry) → HaveOneGoal P → AreCommonTo P clauses → IsLargeCommon all (shared_by clauses budget) entries solved unsolved
    → plain ≡ map (plain_entry all) entries → (q : Query) → IsAnswer P q budget (made.SizePair plain solved unsolved)
pair_of_all P budget all clauses entries solved unsolved plain one common h plain_is q =
    let goal = one q in
    record {
      verdict = SizePair h.log solved unsolved;
      tells = (plain_tells all entries h.log plain h.tell plain_is, refl, refl);
      is = inr (
        clauses ++ goal_clauses P q,
        common q,
        (subst (λ cs. IsLog (clauses ++ cs) budget h.log (TooLarge (max solved unsolved) (min solved unsolved))) (sym goal.1) (h.is_common goal.0).is_log, h.is_solved),
      );
    }

-- Goal rows that are added entry by entry.
use Rattle.std.proofs.Common.{◌≡◌, ◌∙◌, ℕ, zero, suc, ◌+◌, ◌≤◌, Bool, true, false, ◌&&◌, cond, Some, List, [], ◌∷◌, ◌++◌, map, length, take, refl, ap, sym, subst, inl, inr, arith}
use Rattle.std.specs.Prelude.{slice_get, filter}
use Rattle.std.proofs.lemmas.List.{map-append}
use Rattle.std.proofs.lemmas.Bool.{cases_lt}
use Rattle.spec_calculus.specs.Syntax.{Query, Protocol}
use Rattle.spec_calculus.specs.Points.{numbered}
use Rattle.spec_terms.specs.Term.{Term}
use Rattle.spec_clauses.specs.Fact.{Clause}
use Rattle.spec_clauses.specs.Selection.{is_solved}
use Rattle.spec_translation.specs.Satisfied.{is_bad}
use Rattle.spec_verdicts.specs.FirstRows.{AreFirstGoals, bad_clauses}
use Rattle.spec_verdicts.proofs.Goals.{goal_satisfies}
use Rattle.spec_verdicts.proofs.Building.{goals_append, append_none, take_next, take_past, bad_append}
use Rattle.clause_form.specs.Seen.{clause_at}
use Rattle.clause_form.proofs.Counting.{filter-append}
use Rattle.log_entries.specs.declared.log.Entry.{Entry}
use Rattle.log_entries.specs.Logs.{is_unbeaten, live_clauses}
use Rattle.cert_writer.specs.Goals.{is_due_at, AddsGoal, IsUnmetEntry, IsFirstUnmetEntry}

module _ (all : List Term) where
  live_append : (es fs : List Entry) → live_clauses all (es ++ fs) ≡ live_clauses all es ++ live_clauses all fs
  live_append es fs =
      let f = λ (e : Entry). clause_at all e.clause in
      let p = λ (e : Entry). is_unbeaten e.by in
      ap (map f) (filter-append p es fs) ∙ map-append f (filter p es) (filter p fs)

  -- what is to have a goal row of one entry
  due_clauses : (e : Entry) → bad_clauses (live_clauses all (e ∷ [])) ≡ cond (is_due_at all e) (clause_at all e.clause ∷ []) []
  due_clauses e = go (is_unbeaten e.by)
    where
      go : (b : Bool) → bad_clauses (map (λ x. clause_at all x.clause) (cond b (e ∷ []) [])) ≡ cond (b && (is_solved (clause_at all e.clause).hypotheses && is_bad (clause_at all e.clause).conclusion)) (clause_at all e.clause ∷ []) []
      go true = refl
      go false = refl

  -- of the entries up to a place these are the rows, and none of them is unmet
  pub record HaveGoals (P : Protocol) (q : Query) (entries : List Entry) (k : ℕ) (rows : List (List ℕ)) : Type 0 where
    pub goals : AreFirstGoals P q (bad_clauses (live_clauses all (take k entries))) rows
    pub met : (n : ℕ) (e : Entry) → n ≤ k → numbered entries n ≡ Some e → IsUnmetEntry P q all e → ⊥

  module _ (P : Protocol) (q : Query) where
    pub goals_begin : (entries : List Entry) → HaveGoals P q entries 0 []
    goals_begin entries = record { goals = tt; met = none }
      where
        none : (n : ℕ) (e : Entry) → n ≤ 0 → numbered entries n ≡ Some e → IsUnmetEntry P q all e → ⊥
        none zero e le at u = cc
        none (suc n) e le at u = absurd (omega (arith, le))

    one_goal : (e : Entry) (before after : List (List ℕ)) (cs : List (Clause Term)) → AddsGoal P q all e before after → AreFirstGoals P q cs before → AreFirstGoals P q (cs ++ bad_clauses (live_clauses all (e ∷ []))) after
    one_goal e before after cs (inl x) are =
        let none : bad_clauses (live_clauses all (e ∷ [])) ≡ [] = due_clauses e ∙ ap (λ b. cond b (clause_at all e.clause ∷ []) []) x.0 in
        subst (AreFirstGoals P q (cs ++ bad_clauses (live_clauses all (e ∷ [])))) (sym x.1)
        (subst (λ ds. AreFirstGoals P q ds before) (sym (ap (λ ds. cs ++ ds) none ∙ append_none cs)) are)
    one_goal e before after cs (inr x) are =
        let one : bad_clauses (live_clauses all (e ∷ [])) ≡ clause_at all e.clause ∷ [] = due_clauses e ∙ ap (λ b. cond b (clause_at all e.clause ∷ []) []) x.due in
        subst (AreFirstGoals P q (cs ++ bad_clauses (live_clauses all (e ∷ [])))) (sym x.are)
        (subst (λ ds. AreFirstGoals P q (cs ++ ds) (before ++ x.row ∷ [])) (sym one) (goals_append P q cs (clause_at all e.clause ∷ []) before (x.row ∷ []) are (x.first, tt)))

    -- an entry that needs no row isn't unmet, nor is one that has its row
    added_met : (e : Entry) (before after : List (List ℕ)) → AddsGoal P q all e before after → (IsUnmetEntry P q all e → ⊥)
    added_met e before after (inl x) u = let due = u.due in let no = x.0 in cc
    added_met e before after (inr x) u = u.unsatisfied (goal_satisfies P q x.row (clause_at all e.clause) x.first.holds)

    pub goals_next : (entries : List Entry) (k : ℕ) (e : Entry) (before after : List (List ℕ)) → slice_get entries k ≡ Some e → AddsGoal P q all e before after → HaveGoals P q entries k before → HaveGoals P q entries (k + 1) after
    goals_next entries k e before after at adds h =
        let entries_are = take_next entries k e at in
        let clauses_are : bad_clauses (live_clauses all (take (k + 1) entries)) ≡ bad_clauses (live_clauses all (take k entries)) ++ bad_clauses (live_clauses all (e ∷ [])) =
        ap (λ es. bad_clauses (live_clauses all es)) entries_are ∙ (ap bad_clauses (live_append (take k entries) (e ∷ [])) ∙ bad_append (live_clauses all (take k entries)) (live_clauses all (e ∷ []))) in
        record {
          goals = subst (λ cs. AreFirstGoals P q cs after) (sym clauses_are) (one_goal e before after (bad_clauses (live_clauses all (take k entries))) adds h.goals);
          met = λ n d le there u. elim (cases_lt k n) as (λ _. ⊥) [
            | inl last ↦ (
                let place : n ≡ suc k = omega (arith, le, last) in
                let both : Some d ≡ Some e = sym there ∙ (ap (numbered entries) place ∙ at) in
                let one : d ≡ e = cc in
                added_met e before after adds (subst (IsUnmetEntry P q all) one u))
            | inr earlier ↦ h.met n d earlier there u
          ];
        }

    pub goals_all : (entries : List Entry) (k : ℕ) (rows : List (List ℕ)) → length entries ≤ k → HaveGoals P q entries k rows → AreFirstGoals P q (bad_clauses (live_clauses all entries)) rows
    goals_all entries k rows past h = subst (λ es. AreFirstGoals P q (bad_clauses (live_clauses all es)) rows) (take_past entries k past) h.goals

    pub first_unmet : (entries : List Entry) (k number : ℕ) (e : Entry) (rows : List (List ℕ)) → number ≡ k + 1 → slice_get entries k ≡ Some e → IsUnmetEntry P q all e → HaveGoals P q entries k rows → IsFirstUnmetEntry P q all entries number
    first_unmet entries k number e rows is at unmet h =
        let place : suc k ≡ number = omega (arith, is) in
        record {
          entry = e;
          at = subst (λ n. numbered entries n ≡ Some e) place at;
          unmet = unmet;
          first = λ n d less there u. h.met n d (omega (arith, is, less)) there u;
        }

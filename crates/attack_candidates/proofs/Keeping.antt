-- What a search holds it holds as the bank grows, and with one more entry or goal.
use Rattle.std.proofs.Common.{◌≡◌, ℕ, zero, suc, ◌<◌, Some, List, [], ◌∷◌, ◌++◌, length, map, get_or, refl, sym, subst, arith}
use Rattle.std.specs.Prelude.{slice_get}
use Rattle.spec_terms.specs.Term.{Term}
use Rattle.spec_clauses.specs.Fact.{Clause}
use Rattle.term_tree.specs.Bank.{Grows}
use Rattle.clause_form.specs.Seen.{clause_at, IdClause}
use Rattle.clause_form.specs.Fit.{IsFit, AreFit}
use Rattle.clause_form.proofs.Copying.{NamesClause-grows}
use Rattle.clause_form.proofs.Fit.{IsFit-grows, AreFit-grow, resolvents_fit}
use Rattle.clause_resolve.specs.Apart.{IsSelectedAt}
use Rattle.clause_resolve.specs.Answers.{IsAnswerOf, AreFoundLow}
use Rattle.clause_resolve.specs.declared.resolving.Resolved.TheVariants.{Clauses}
use Rattle.clause_instances.specs.Derivations.{HasNormedLog}
use Rattle.log_entries.specs.declared.log.Entry.{Entry}
use Rattle.log_entries.specs.declared.log.PlainEntry.{PlainEntry}
use Rattle.log_entries.specs.Plain.{plain_entry}
use Rattle.log_entries.specs.Beating.{clauses_of}
use Rattle.attack_candidates.specs.declared.found.Goal.{Goal}
use Rattle.attack_candidates.specs.declared.resolving.Chosen.{Chosen}
use Rattle.attack_candidates.specs.Sound.{AreFitGoals, AreSound, IsChosen}

-- fit clauses read out
pub fit_normed : (all : List Term) (es : List Entry) → AreFit all (clauses_of es) → HasNormedLog (map (plain_entry all) es)
fit_normed all [] fit = tt
fit_normed all (e ∷ es) fit = ((fit.0.normal, fit.0.small), fit_normed all es fit.1)

-- one more entry
pub normed_push : (all : List Term) (es : List PlainEntry) (c : IdClause) (e : PlainEntry) → HasNormedLog es → IsFit all c → e.clause ≡ clause_at all c → HasNormedLog (es ++ e ∷ [])
normed_push all [] c e normed fit is = ((rw is fit.normal, rw is fit.small), tt)
normed_push all (d ∷ es) c e normed fit is = (normed.0, normed_push all es c e normed.1 fit is)

-- one more goal
pub goals_push : (all : List Term) (gs : List Goal) (g : Goal) → AreFitGoals all gs → IsFit all g.clause → AreFitGoals all (gs ++ g ∷ [])
goals_push all [] g goals fit = (fit, tt)
goals_push all (d ∷ gs) g goals fit = (goals.0, goals_push all gs g goals.1 fit)

-- a clause among those that are fit
pub clause_there : (all : List Term) (cs : List IdClause) (i : ℕ) (c : IdClause) → AreFit all cs → slice_get cs i ≡ Some c → IsFit all c
clause_there all [] i c fit there = cc
clause_there all (d ∷ cs) zero c fit there = let same : d ≡ c = cc in subst (λ (x : IdClause). IsFit all x) same fit.0
clause_there all (d ∷ cs) (suc i) c fit there = clause_there all cs i c fit.1 there

-- a goal among those that are fit
goal_in : (all : List Term) (gs : List Goal) (i : ℕ) (d : Goal) → AreFitGoals all gs → i < length gs → IsFit all (get_or gs i d).clause
goal_in all [] i d goals within = absurd (omega arith)
goal_in all (g ∷ gs) zero d goals within = goals.0
goal_in all (g ∷ gs) (suc i) d goals within = goal_in all gs i d goals.1 (omega arith)

pub goal_fit : (all : List Term) (gs : List Goal) (i : ℕ) (g : Goal) → g ≡ get_or gs i g → AreFitGoals all gs → i < length gs → IsFit all g.clause
goal_fit all gs i g is goals within = subst (λ (x : Goal). IsFit all x.clause) (sym is) (goal_in all gs i g goals within)

pub sound_grows : (a b : List Term) (entries : List PlainEntry) (gs : List Goal) → Grows a b → AreSound a entries gs → AreSound b entries gs
sound_grows a b entries gs grows sound = record {
  normed = sound.normed;
  goals = AreFit-grow a b (map (λ (g : Goal). g.clause) gs) grows sound.goals;
}

pub chosen_grows : (a b : List Term) (chosen : Chosen) → Grows a b → IsChosen a chosen → IsChosen b chosen
chosen_grows a b chosen grows is =
    let c = chosen.clause.now in
    let later = NamesClause-grows a b c (clause_at a c) grows record { known = is.fit.known; is = refl } in
    record {
      fit = IsFit-grows a b c grows is.fit;
      selected = subst (λ (t : Clause Term). IsSelectedAt t chosen.at) (sym later.is) is.selected;
    }

-- resolvents are fit
pub answer_fit : (all : List Term) (s u : Clause Term) (cs : List IdClause) → IsAnswerOf all s u (Clauses cs) → AreFoundLow all (Clauses cs) → AreFit all cs
answer_fit all s u cs is low = resolvents_fit all cs is.2.gives.0 is.0 is.2.gives.2 is.1 low

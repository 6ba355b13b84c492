-- The clauses of a translation are fit, and so are the entries of a saturation of fit clauses, however it ends.
use Rattle.std.proofs.Common.{◌≡◌, ◌∙◌, ℕ, suc, ◌+◌, ◌<◌, List, [], ◌∷◌, ◌++◌, length, map, ap, inl, inr, sym, subst, arith}
use Rattle.std.proofs.lemmas.List.{length-map, length-append}
use Rattle.spec_calculus.specs.Syntax.{Query, Protocol}
use Rattle.spec_terms.specs.Term.{Term}
use Rattle.spec_clauses.specs.Fact.{Clause}
use Rattle.spec_clauses.specs.Norm.{IsNormal}
use Rattle.spec_clauses.specs.Limits.{IsWithinLimit}
use Rattle.spec_clauses.specs.Inclusion.{here, there, Has}
use Rattle.spec_clauses.proofs.Made.{made_small}
use Rattle.spec_translation.specs.Translation.{Translated, Clauses, LargeAt, IsTranslation}
use Rattle.spec_saturation.specs.Key.{Entry, below}
use Rattle.spec_saturation.specs.Log.{IsOffered}
use Rattle.spec_saturation.specs.End.{End, IsLog}
use Rattle.spec_saturation.proofs.Pairs.{has_numbered, offers_normal}
use Rattle.clause_form.specs.Seen.{clause_at, NameClauses, IdClause}
use Rattle.clause_form.specs.Fit.{AreFit}
use Rattle.log_entries.specs.declared.log.Entry as told
use Rattle.log_entries.specs.declared.log.Saturated.{Saturated}
use Rattle.log_entries.specs.declared.log.Saturated.TheVariants.{Closed, Spent, Large}
use Rattle.log_entries.specs.Logs.{TellEntries, TellLog, IsLogOf}
use Rattle.log_entries.specs.Beating.{clauses_of}
use Rattle.log_walks.proofs.Fitting.{fit_normal, fit_small}
use Rattle.clause_translate.specs.Whole.{TranslatesTo, IsLargeAt}
use Rattle.clause_translate.proofs.Translating.{all_end_at}
use Rattle.attack_candidates.specs.Ended.{entries_of}

-- there are some, where a goal is
pub named_some : (all : List Term) (cs : List IdClause) (list before : List (Clause Term)) (goal : Clause Term) → NameClauses all cs list → list ≡ before ++ goal ∷ [] → 0 < length cs
named_some all cs list before goal names is =
    let many : length (map (clause_at all) cs) ≡ length before + 1 = ap length (names.are ∙ is) ∙ length-append before (goal ∷ []) in
    omega (arith, many, length-map cs (clause_at all))

-- where there are such clauses, no visit is too large
pub never_large : (P : Protocol) (number : ℕ) (all : List Term) (given : List IdClause) → ((q : Query) (a b : Translated) → IsTranslation P q a → IsTranslation P q b → a ≡ b) → TranslatesTo P number all given → (point : ℕ) → IsLargeAt P point → ⊥
never_large P number all given one t point large =
    let never : Clauses t.list ≡ LargeAt point = one t.query (Clauses t.list) (LargeAt point) t.translates (all_end_at P point large t.query) in cc

-- what is offered is within the limit
offers_small : (given : List (Clause Term)) → ((c : Clause Term) → Has given c → IsWithinLimit c) → (log : List Entry) (e : Entry) → IsOffered given log e → IsWithinLimit e.clause
offers_small given small log e (inl x) = small e.clause (has_numbered given x.number e.clause x.clause)
offers_small given small log e (inr (inl x)) = made_small x.gives.gives.0 x.resolvents e.clause x.gives.gives.2 (has_numbered x.resolvents e.key.number e.clause x.clause)
offers_small given small log e (inr (inr x)) = small e.clause (has_numbered given (length given) e.clause x.clause)

told_fit : (all : List Term) (log : List Entry) (n : ℕ) (entries : List told.Entry) (es : List Entry) → TellEntries all log n entries es → ((e : Entry) → Has es e → IsNormal e.clause × IsWithinLimit e.clause) → AreFit all (clauses_of entries)
told_fit all log n [] es t each = tt
told_fit all log n (x ∷ xs) [] t each = absurd t
told_fit all log n (x ∷ xs) (e ∷ es) t each =
    let own = each e (es, here) in (
      record { known = t.0.clause.known; normal = subst IsNormal (sym t.0.clause.is) own.0; small = subst IsWithinLimit (sym t.0.clause.is) own.1; low = t.0.low },
      told_fit all log (suc n) xs es t.2 (λ d h. each d (e ∷ h.0, there h.1)),
    )

-- entries that tell a log of fit clauses
log_fit : (old all : List Term) (given : List IdClause) (budget : ℕ) (log : List Entry) (entries : List told.Entry) (end : End) → AreFit old given → IsLog (map (clause_at old) given) budget log end → TellLog all entries log → AreFit all (clauses_of entries)
log_fit old all given budget log entries end fit is tells =
    told_fit all log 1 entries log tells
    (λ e h.
    let offered = (is.up_to.sound e h).offered in
    (offers_normal (map (clause_at old) given) (fit_normal old given fit) (below e.key log) e offered, offers_small (map (clause_at old) given) (fit_small old given fit) (below e.key log) e offered))

pub ended_fit : (old all : List Term) (given : List IdClause) (budget : ℕ) (saturated : Saturated) → AreFit old given → IsLogOf all (map (clause_at old) given) budget saturated → AreFit all (clauses_of (entries_of saturated))
ended_fit old all given budget (Closed log) fit is = log_fit old all given budget is.log log _ fit is.is_log is.tell
ended_fit old all given budget (Spent log due) fit is = log_fit old all given budget is.log log _ fit is.is_log is.tell
ended_fit old all given budget (Large log solved unsolved) fit is = log_fit old all given budget is.log log _ fit is.is_log is.tell

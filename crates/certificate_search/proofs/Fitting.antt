-- Lists of clauses that are fit for resolution: made longer and shorter, and of one; and what pairs of such clauses give.
use Rattle.std.proofs.Common.{◌≡◌, ℕ, zero, suc, Option, Some, List, [], ◌∷◌, ◌++◌, take, sym, subst}
use Rattle.std.specs.Prelude.{IfSome}
use Rattle.spec_terms.specs.Term.{Term}
use Rattle.spec_clauses.specs.Fact as horn
use Rattle.spec_clauses.specs.Norm.{IsNormal}
use Rattle.spec_clauses.specs.Limits.{IsWithinLimit}
use Rattle.spec_clauses.specs.Inclusion.{here, there, Has}
use Rattle.clause_form.specs.Seen.{clause_at, AreClausesIn, IdClause}
use Rattle.clause_form.specs.Fit.{AreLowWithinLimit, IsFit, AreFit, clauses_at}
use Rattle.term_tree.specs.Bank.{Grows}
use Rattle.clause_form.proofs.Fit.{resolvents_fit, AreFit-grow}
use Rattle.clause_resolve.specs.Answers.{IsAnswerAt, AreFoundLow}
use Rattle.clause_resolve.specs.declared.resolving.Resolved.{Resolved}
use Rattle.clause_resolve.specs.declared.resolving.Resolved.TheVariants.{NoUnifier, Large, Clauses}
use Rattle.certificate_search.specs.Fits.{AreFoundFit}

pub fit_append : (all : List Term) (cs ds : List IdClause) → AreFit all cs → AreFit all ds → AreFit all (cs ++ ds)
fit_append all [] ds fit more = more
fit_append all (c ∷ cs) ds fit more = (fit.0, fit_append all cs ds fit.1 more)

pub fit_take : (all : List Term) (n : ℕ) (cs : List IdClause) → AreFit all cs → AreFit all (take n cs)
fit_take all zero cs fit = tt
fit_take all (suc n) [] fit = tt
fit_take all (suc n) (c ∷ cs) fit = (fit.0, fit_take all n cs fit.1)

-- the last of clauses that are normal is fit, where it is within the limit
pub last_fit : (all : List Term) (before : List IdClause) (c : IdClause) → AreClausesIn all (before ++ c ∷ []) → ((k : horn.Clause Term) → Has (clauses_at all (before ++ c ∷ [])) k → IsNormal k) → AreLowWithinLimit all (before ++ c ∷ []) → IsWithinLimit (clause_at all c) → IsFit all c
last_fit all [] c known normal low small = record { known = known.0; normal = normal (clause_at all c) ([], here); small = small; low = low.0 small }
last_fit all (d ∷ before) c known normal low small = last_fit all before c known.1 (λ k h. normal k (clause_at all d ∷ h.0, there h.1)) low.1 small

-- each id of fit clauses names a tree
pub all_known : (all : List Term) (cs : List IdClause) → AreFit all cs → AreClausesIn all cs
all_known all [] fit = tt
all_known all (c ∷ cs) fit = (fit.0.known, all_known all cs fit.1)

-- fit clauses stay so as the bank grows, whichever way bank and clauses are seen
pub grown_fit : (bank old new : List Term) (before cs : List IdClause) → old ≡ bank → before ≡ cs → Grows old new → AreFit bank cs → AreFit new before
grown_fit bank old new before cs same seen grows fit =
    subst (λ (l : List IdClause). AreFit new l) (sym seen) (AreFit-grow bank new cs (subst (λ (all : List Term). Grows all new) same grows) fit)

-- a clause that was found, and clauses that were, are fit
pub one_found : (all : List Term) (o : Option IdClause) (c : IdClause) → o ≡ Some c → IfSome o (IsFit all) → IsFit all c
one_found all o c is fit = subst (λ (x : Option IdClause). IfSome x (IsFit all)) is fit

pub clauses_found : (all : List Term) (found : Resolved) (cs : List IdClause) → found ≡ Clauses cs → AreFoundFit all found → AreFit all cs
clauses_found all found cs is fit = subst (λ (r : Resolved). AreFoundFit all r) is fit

-- what a pair gives is fit
pub found_fit : (all : List Term) (at : ℕ) (resting other : horn.Clause Term) (found : Resolved) → IsAnswerAt at all resting other found → AreFoundLow all found → AreFoundFit all found
found_fit all at resting other NoUnifier answer low = tt
found_fit all at resting other Large answer low = tt
found_fit all at resting other (Clauses made) (resolvents, names, g) low = resolvents_fit all made g.gives.0 resolvents g.gives.2 names low

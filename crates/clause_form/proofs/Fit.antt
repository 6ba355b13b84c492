-- Clauses that are fit for resolution stay so as the bank grows, and so are resolvents.
use Rattle.std.proofs.Common.{◌≡◌, ℕ, zero, suc, ◌<◌, Option, List, [], ◌∷◌, length, map, get_or, refl, sym, subst, arith}
use Rattle.std.specs.List.{AllByRecursion}
use Rattle.spec_calculus.specs.Bounds.{most_symbols}
use Rattle.spec_terms.specs.Term.{Term}
use Rattle.spec_clauses.specs.Fact.{Clause, clause_terms}
use Rattle.spec_clauses.specs.Norm.{IsNormal}
use Rattle.spec_clauses.specs.Limits.{IsWithinLimit}
use Rattle.spec_clauses.specs.Shown.{shown_variables}
use Rattle.spec_clauses.specs.Variables.{AreBelow}
use Rattle.spec_clauses.specs.Resolvents.{Resolvents, answer_of}
use Rattle.spec_clauses.specs.Inclusion.{here, there, Has}
use Rattle.spec_clauses.proofs.Made.{made_small, made_normal}
use Rattle.term_tree.specs.Bank.{Grows}
use Rattle.term_tree.specs.declared.bank.Id.{Id}
use Rattle.term_tree.proofs.BankLaws.{trees_at-grow}
use Rattle.clause_diffs.specs.Diffs.{DiffOf, IsDiffIn, AreDiffsIn, AreDiffLeavesBelow}
use Rattle.clause_form.specs.Seen.{clause_at, IsClauseIn, NamesClause, AreClausesIn, NameClauses, IdClause}
use Rattle.clause_form.specs.Fit.{HasLowVariables, AreLowWithinLimit, IsFit, AreFit, clauses_at}
use Rattle.clause_form.proofs.Copying.{NamesClause-grows}

-- a clause's ids name what they name
named_itself : (all : List Term) (c : IdClause) → IsClauseIn all c → NamesClause all c (clause_at all c)
named_itself all c known = record { known = known; is = refl }

-- Low variables stay so.
below-grow : (n : ℕ) (a b : List Term) (d : DiffOf Id) → Grows a b → IsDiffIn a d → AreDiffLeavesBelow n a d → AreDiffLeavesBelow n b d
below-grow n a b d grows known below =
    let lefts = sym (trees_at-grow a b d.left grows known.left) in
    let rights = sym (trees_at-grow a b d.right grows known.right) in
    subst (λ (xs : List ℕ). AllByRecursion (λ x. x < n) xs) (λ i. shown_variables record { first = d.first; left = lefts i; right = rights i }) below

all_below-grow : (n : ℕ) (a b : List Term) (ds : List (DiffOf Id)) → Grows a b → AreDiffsIn a ds → AllByRecursion (AreDiffLeavesBelow n a) ds → AllByRecursion (AreDiffLeavesBelow n b) ds
all_below-grow n a b [] grows known below = tt
all_below-grow n a b (d ∷ ds) grows known below = (below-grow n a b d grows known.0 below.0, all_below-grow n a b ds grows known.1 below.1)

pub HasLowVariables-grows : (a b : List Term) (c : IdClause) → Grows a b → IsClauseIn a c → HasLowVariables a c → HasLowVariables b c
HasLowVariables-grows a b c grows known low =
    let later = NamesClause-grows a b c (clause_at a c) grows (named_itself a c known) in
    record {
      facts = subst (λ (k : Clause Term). AreBelow most_symbols (clause_terms k)) (sym later.is) low.facts;
      diffs = all_below-grow most_symbols a b c.diffs grows known.diffs low.diffs;
    }

pub IsFit-grows : (a b : List Term) (c : IdClause) → Grows a b → IsFit a c → IsFit b c
IsFit-grows a b c grows fit =
    let later = NamesClause-grows a b c (clause_at a c) grows (named_itself a c fit.known) in
    record {
      known = later.known;
      normal = subst IsNormal (sym later.is) fit.normal;
      small = subst IsWithinLimit (sym later.is) fit.small;
      low = HasLowVariables-grows a b c grows fit.known fit.low;
    }

pub AreFit-grow : (a b : List Term) (cs : List IdClause) → Grows a b → AreFit a cs → AreFit b cs
AreFit-grow a b [] grows fit = tt
AreFit-grow a b (c ∷ cs) grows fit = (IsFit-grows a b c grows fit.0, AreFit-grow a b cs grows fit.1)

pub clauses_grow : (a b : List Term) (cs : List IdClause) → Grows a b → AreFit a cs → clauses_at b cs ≡ clauses_at a cs
clauses_grow a b [] grows fit = refl
clauses_grow a b (c ∷ cs) grows fit = cc ((NamesClause-grows a b c (clause_at a c) grows (named_itself a c fit.0.known)).is, clauses_grow a b cs grows fit.1)

pub fit_in : (all : List Term) (cs : List IdClause) (i : ℕ) (d : IdClause) → AreFit all cs → i < length cs → IsFit all (get_or cs i d)
fit_in all [] i d fit within = absurd (omega arith)
fit_in all (c ∷ cs) zero d fit within = fit.0
fit_in all (c ∷ cs) (suc i) d fit within = fit_in all cs i d fit.1 (omega arith)

-- a clause among fit ones is fit
pub clause_fit_at : (all : List Term) (cs : List IdClause) (i : ℕ) (c : IdClause) → c ≡ get_or cs i c → AreFit all cs → i < length cs → IsFit all c
clause_fit_at all cs i c is fit within = subst (λ (x : IdClause). IsFit all x) (sym is) (fit_in all cs i c fit within)

-- what names clauses that are fit is fit, where the variables are low
pub named_fit : (all : List Term) (clauses : List IdClause) (cs : List (Clause Term)) → NameClauses all clauses cs → AreLowWithinLimit all clauses → ((c : Clause Term) → Has cs c → IsNormal c) → ((c : Clause Term) → Has cs c → IsWithinLimit c) → AreFit all clauses
named_fit all clauses cs names low normal small = go clauses cs names.known names.are low normal small
  where
    go : (clauses : List IdClause) (ds : List (Clause Term)) → AreClausesIn all clauses → map (clause_at all) clauses ≡ ds → AreLowWithinLimit all clauses → ((c : Clause Term) → Has ds c → IsNormal c) → ((c : Clause Term) → Has ds c → IsWithinLimit c) → AreFit all clauses
    go [] ds known are low normal small = tt
    go (c ∷ clauses) [] known are low normal small = cc
    go (c ∷ clauses) (d ∷ ds) known are low normal small =
        let first : clause_at all c ≡ d = cc in
        let rest : map (clause_at all) clauses ≡ ds = cc in
        let within = subst IsWithinLimit (sym first) (small d (ds, here)) in (
          record { known = known.0; normal = subst IsNormal (sym first) (normal d (ds, here)); small = within; low = low.0 within },
          go clauses ds known.1 rest low.1 (λ x h. normal x (d ∷ h.0, there h.1)) (λ x h. small x (d ∷ h.0, there h.1)),
        )

pub resolvents_fit : (all : List Term) (clauses : List IdClause) (raw : Option (Clause Term)) (cs : List (Clause Term)) → Resolvents cs ≡ answer_of raw → NameClauses all clauses cs → AreLowWithinLimit all clauses → AreFit all clauses
resolvents_fit all clauses raw cs e names low = named_fit all clauses cs names low (λ c h. made_normal raw cs c e h) (λ c h. made_small raw cs c e h)

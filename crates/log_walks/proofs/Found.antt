-- Two entries by their numbers: whether they are a due pair.
use Rattle.std.proofs.Common.{◌≡◌, ◌∙◌, ℕ, ◌-◌, ◌<◌, ◌≤◌, true, false, Option, Some, None, List, IsNone, length, get_or, refl, ap, sym, subst, true≢false, arith}
use Rattle.spec_terms.specs.Term.{Term}
use Rattle.spec_calculus.specs.Points.{numbered}
use Rattle.spec_clauses.specs.Selection.{select, is_solved}
use Rattle.spec_clauses.specs.Resolvents.{Resolves}
use Rattle.spec_clauses.specs.Resolvents as answer
use Rattle.spec_saturation.proofs.Places.{numbered_within}
use Rattle.clause_resolve.specs.declared.resolving.Resolved.{Resolved}
use Rattle.clause_resolve.specs.declared.resolving.Resolved.TheVariants.{NoUnifier, Large, Clauses}
use Rattle.clause_resolve.specs.Answers.{Gives, IsAnswerOf, AreFoundLow}
use Rattle.clause_form.specs.Seen.{clause_at, IsClauseIn}
use Rattle.log_entries.specs.declared.log.Entry.{Entry}
use Rattle.log_walks.specs.declared.stops.Pair.{Pair}
use Rattle.clause_form.specs.Fit.{IsFit, AreFit}
use Rattle.log_entries.specs.Beating.{clauses_of}
use Rattle.log_walks.specs.Pairs.{major, minor, IsDuePair, GivesAnswer, IsFoundFor}
use Rattle.log_entries.proofs.Marking.{fit_at}
use Rattle.log_entries.proofs.Placing.{numbered_at, one_entry}

pub entry_known : (all : List Term) (es : List Entry) (n : ℕ) (x : Entry) → x ≡ get_or es (n - 1) x → 0 < n → n ≤ length es → AreFit all (clauses_of es) → IsClauseIn all x.clause
entry_known all es n x is some within fit = (fit_at all es (n - 1) x is fit (omega arith)).known

-- the later one is solved, or the earlier one
pub later_solved : (all : List Term) (es : List Entry) (later earlier : ℕ) (x y : Entry) → earlier < later → numbered es later ≡ Some x → numbered es earlier ≡ Some y → x.by ≡ None → y.by ≡ None → is_solved (clause_at all x.clause).hypotheses ≡ true → is_solved (clause_at all y.clause).hypotheses ≡ false
    → IsDuePair all es later earlier (record { solved = later; unsolved = earlier })
later_solved all es later earlier x y order p q live too h i = record {
  solved = x;
  unsolved = y;
  solved_at = p;
  unsolved_at = q;
  is_later = omega (arith, order);
  is_earlier = omega (arith, order);
  order = order;
  solved_live = live;
  unsolved_live = too;
  left_solved = h;
  right_unsolved = i;
}

pub earlier_solved : (all : List Term) (es : List Entry) (later earlier : ℕ) (x y : Entry) → earlier < later → numbered es later ≡ Some x → numbered es earlier ≡ Some y → x.by ≡ None → y.by ≡ None → is_solved (clause_at all x.clause).hypotheses ≡ false → is_solved (clause_at all y.clause).hypotheses ≡ true
    → IsDuePair all es later earlier (record { solved = earlier; unsolved = later })
earlier_solved all es later earlier x y order p q live too h i = record {
  solved = y;
  unsolved = x;
  solved_at = q;
  unsolved_at = p;
  is_later = omega (arith, order);
  is_earlier = omega (arith, order);
  order = order;
  solved_live = too;
  unsolved_live = live;
  left_solved = i;
  right_unsolved = h;
}

-- the entries of a pair, as they stand at its places
pub solved_is : (all : List Term) (es : List Entry) (m i : ℕ) (pair : Pair) (due : IsDuePair all es m i pair) (x : Entry) → x ≡ get_or es (pair.solved - 1) x → x ≡ due.solved
solved_is all es m i pair due x is =
    let w = numbered_within es pair.solved due.solved due.solved_at in
    one_entry es pair.solved x due.solved (numbered_at es pair.solved x is w.0 w.1) due.solved_at

pub unsolved_is : (all : List Term) (es : List Entry) (m i : ℕ) (pair : Pair) (due : IsDuePair all es m i pair) (x : Entry) → x ≡ get_or es (pair.unsolved - 1) x → x ≡ due.unsolved
unsolved_is all es m i pair due x is =
    let w = numbered_within es pair.unsolved due.unsolved due.unsolved_at in
    one_entry es pair.unsolved x due.unsolved (numbered_at es pair.unsolved x is w.0 w.1) due.unsolved_at

-- and are fit
pub solved_fit : (all : List Term) (es : List Entry) (m i : ℕ) (pair : Pair) → IsDuePair all es m i pair → (x : Entry) → x ≡ get_or es (pair.solved - 1) x → AreFit all (clauses_of es) → IsFit all x.clause
solved_fit all es m i pair due x is fit =
    let w = numbered_within es pair.solved due.solved due.solved_at in
    fit_at all es (pair.solved - 1) x is fit (omega (arith, w.0, w.1))

pub unsolved_fit : (all : List Term) (es : List Entry) (m i : ℕ) (pair : Pair) → IsDuePair all es m i pair → (x : Entry) → x ≡ get_or es (pair.unsolved - 1) x → AreFit all (clauses_of es) → IsFit all x.clause
unsolved_fit all es m i pair due x is fit =
    let w = numbered_within es pair.unsolved due.unsolved due.unsolved_at in
    fit_at all es (pair.unsolved - 1) x is fit (omega (arith, w.0, w.1))

-- the answer of two clauses is that of their pair
gives_found : (all : List Term) (es : List Entry) (pair : Pair) (due : IsDuePair all es (major pair) (minor pair) pair) (x y : Entry) (result : answer.Answer) → x ≡ due.solved → y ≡ due.unsolved → Gives (clause_at all x.clause) (clause_at all y.clause) result → GivesAnswer all es pair result
gives_found all es pair due x y result p q g = record {
  due = due;
  at = g.at;
  selected = subst (λ (z : Entry). select (clause_at all z.clause).hypotheses ≡ Some g.at) q g.is_selected;
  give = subst (λ (z : Entry). Resolves (clause_at all due.solved.clause) (clause_at all z.clause) g.at result) q (subst (λ (z : Entry). Resolves (clause_at all z.clause) (clause_at all y.clause) g.at result) p g.gives);
}

pub answer_found : (all now : List Term) (es : List Entry) (pair : Pair) (due : IsDuePair all es (major pair) (minor pair) pair) (x y : Entry) (found : Resolved) → x ≡ get_or es (pair.solved - 1) x → y ≡ get_or es (pair.unsolved - 1) y → IsAnswerOf now (clause_at all x.clause) (clause_at all y.clause) found → AreFoundLow now found → IsFoundFor all now es pair found
answer_found all now es pair due x y found p q h low = go found h low
  where
    left : x ≡ due.solved
    left = solved_is all es (major pair) (minor pair) pair due x p

    right : y ≡ due.unsolved
    right = unsolved_is all es (major pair) (minor pair) pair due y q

    go : (found : Resolved) → IsAnswerOf now (clause_at all x.clause) (clause_at all y.clause) found → AreFoundLow now found → IsFoundFor all now es pair found
    go NoUnifier h low = gives_found all es pair due x y answer.NoUnifier left right h
    go Large h low = gives_found all es pair due x y answer.Large left right h
    go (Clauses cs) h low = record { resolvents = h.0; name = h.1; low = low; gives = gives_found all es pair due x y (answer.Resolvents h.0) left right h.2 }

-- a hypothesis of the unsolved clause is selected
pub never_none : (all : List Term) (es : List Entry) (pair : Pair) (due : IsDuePair all es (major pair) (minor pair) pair) (y : Entry) (o : Option ℕ) → y ≡ get_or es (pair.unsolved - 1) y → o ≡ None → (IsNone o → is_solved (clause_at all y.clause).hypotheses ≡ true) → ⊥
never_none all es pair due y o q none solved =
    let same = unsolved_is all es (major pair) (minor pair) pair due y q in
    true≢false (sym (solved (subst (λ (p : Option ℕ). IsNone p) (sym none) refl)) ∙ (ap (λ (z : Entry). is_solved (clause_at all z.clause).hypotheses) same ∙ due.right_unsolved))

-- Items by their numbers, and what stands before a place.
use Rattle.std.proofs.Common.{◌≡◌, ◌∙◌, ℕ, zero, suc, ◌-◌, ◌<◌, ◌≤◌, Some, List, [], ◌∷◌, length, get_or, ap, sym, subst, arith, map, take, refl}
use Rattle.std.specs.Prelude.{slice_get}
use Rattle.spec_calculus.specs.Points.{numbered}
use Rattle.log_entries.specs.declared.log.Entry.{Entry}
use Rattle.spec_terms.specs.Term.{Term}
use Rattle.clause_form.specs.Seen.{clause_at, IdClause}
use Rattle.spec_clauses.specs.Fact.{Clause}
use Rattle.spec_saturation.specs.Common.{with_goal}
use Rattle.term_tree.proofs.BankLaws.{slice_get-next}
use Rattle.term_tree.specs.Bank.{Grows}

-- what stands at an index has the number behind it
pub get_at : {X : Type 0} (xs : List X) (i : ℕ) (x : X) → x ≡ get_or xs i x → i < length xs → slice_get xs i ≡ Some x
get_at [] i x is within = absurd (omega arith)
get_at (y ∷ xs) zero x is within = ap Some (sym is)
get_at (y ∷ xs) (suc i) x is within = get_at xs i x is (omega arith)

pub numbered_at : {X : Type 0} (xs : List X) (n : ℕ) (x : X) → x ≡ get_or xs (n - 1) x → 0 < n → n ≤ length xs → numbered xs n ≡ Some x
numbered_at xs zero x is some within = absurd (omega arith)
numbered_at xs (suc k) x is some within = let same : suc k - 1 ≡ k = omega arith in get_at xs k x (subst (λ j. x ≡ get_or xs j x) same is) (omega arith)

-- and is the only one that has
pub one_entry : (es : List Entry) (n : ℕ) (x y : Entry) → numbered es n ≡ Some x → numbered es n ≡ Some y → x ≡ y
one_entry es n x y a b = let same : Some x ≡ Some y = sym a ∙ b in cc

-- the clause at a place has the number behind it
pub numbered_given : (all : List Term) (cs : List IdClause) (i : ℕ) (c : IdClause) → c ≡ get_or cs i c → i < length cs → numbered (map (clause_at all) cs) (suc i) ≡ Some (clause_at all c)
numbered_given all [] i c is within = absurd (omega arith)
numbered_given all (d ∷ cs) zero c is within = ap (λ x. Some (clause_at all x)) (sym is)
numbered_given all (d ∷ cs) (suc i) c is within = numbered_given all cs i c is (omega arith)

-- the clause at a place, counted from 1
pub number_given : (all : List Term) (cs : List IdClause) (k : ℕ) (c : IdClause) → c ≡ get_or cs (k - 1) c → 0 < k → k ≤ length cs → numbered (map (clause_at all) cs) k ≡ Some (clause_at all c)
number_given all cs zero c is some within = absurd (omega arith)
number_given all cs (suc k) c is some within =
    let same : suc k - 1 ≡ k = omega arith in
    numbered_given all cs k c (subst (λ j. c ≡ get_or cs j c) same is) (omega arith)

-- the last number is the goal's
pub numbered_goal : (clauses : List (Clause Term)) (goal : Clause Term) (number : ℕ) → number ≡ suc (length clauses) → numbered (with_goal clauses goal) number ≡ Some goal
numbered_goal clauses goal number last = ap (numbered (with_goal clauses goal)) last ∙ slice_get-next clauses goal []

-- the bank grew from what it was cut back to
pub front_grows : (n : ℕ) (all : List Term) → Grows (take n all) all
front_grows zero all = (all, refl)
front_grows (suc n) [] = ([], refl)
front_grows (suc n) (t ∷ all) = let rest = front_grows n all in (rest.0, ap (λ xs. t ∷ xs) rest.1)

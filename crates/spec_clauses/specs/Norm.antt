-- The norm of a clause: simplifications that keep what it says, and one numbering of its variables
-- (Blanchet 2016, section 3.3.1: elimination of duplicate hypotheses, of tautologies and of useless hypotheses; of constraints,
-- Blanchet, Abadi and Fournet 2008, section 5).
use Rattle.std.specs.Prelude.{◌≡◌, ℕ, Bool, true, false, not, ◌&&◌, ◌||◌, nat_eq, cond, Option, Some, None, List, [], ◌++◌, map, filter, filter_map}
use Rattle.std.specs.List.{list_any, list_all}
use Rattle.spec_trees.specs.Tree.{Leaf}
use Rattle.spec_terms.specs.Term.{Term, Subst}
use Rattle.spec_clauses.specs.Diff.{Diff, diff_variables, numbered_diff, same_diff}
use Rattle.spec_clauses.specs.DiffDecision.{can_be_equal, is_never_met}
use Rattle.spec_clauses.specs.Fact.{Fact, Att, Clause, clause_under, same_fact, is_among, is_variable_known, phase_of}
use Rattle.spec_clauses.specs.Variables.{fact_variables, clause_variables, firm_variables}
pub use Rattle.spec_clauses.specs.Distinct.{distinct, place_of}
use Rattle.spec_clauses.specs.Flat.{flat_parts, is_flat_clause}
use Rattle.spec_clauses.specs.Selection.{is_solved}

-- Of equal hypotheses the first is kept.
abbrev pub without_repeats : Clause Term → Clause Term
without_repeats c = record { hypotheses = distinct same_fact c.hypotheses; diffs = c.diffs; conclusion = c.conclusion }

-- whether the conclusion is among the hypotheses, so that the clause says nothing
abbrev pub is_tautology : Clause Term → Bool
is_tautology c = is_among c.hypotheses c.conclusion

-- the variables of all but the hypotheses `att` of a variable
abbrev pub elsewhere : Clause Term → List ℕ
elsewhere c = fact_variables c.conclusion ++ firm_variables c.hypotheses

-- whether the fact is `att` of a variable, of any phase, that isn't among these
abbrev pub is_lonely : List ℕ → Fact Term → Bool
is_lonely variables (Att k (Leaf x)) = not (list_any (nat_eq x) variables)
is_lonely variables _ = false

-- Hypotheses `att` of a variable that occurs in such hypotheses alone, of any phases, are dropped: the attacker has something
-- from the start.
abbrev pub without_lonely : Clause Term → Clause Term
without_lonely c = record { hypotheses = filter (λ h. not (is_lonely (elsewhere c) h)) c.hypotheses; diffs = c.diffs; conclusion = c.conclusion }

-- whether the fact is `att` of the variable x, of any phase
abbrev pub is_known : ℕ → Fact Term → Bool
is_known x (Att k (Leaf y)) = nat_eq x y
is_known x _ = false

-- whether the fact is `att` of a variable that occurs in hypotheses, and in `att` of it alone: what the attacker has passes on
abbrev pub is_passed_on : List (Fact Term) → Fact Term → Bool
is_passed_on hs (Att k (Leaf x)) = list_any (is_known x) hs && not (list_any (nat_eq x) (firm_variables hs))
is_passed_on hs _ = false

-- whether the clause is solved, and its conclusion is passed on
abbrev pub passes_on : Clause Term → Bool
passes_on c = is_solved c.hypotheses && is_passed_on c.hypotheses c.conclusion

-- The variables that a constraint may speak of: those of all but the hypotheses `att` of a variable, and where the clause passes on
-- what the attacker has, those of the firm hypotheses alone.
abbrev pub anchors : Clause Term → List ℕ
anchors c = cond (passes_on c) (firm_variables c.hypotheses) (elsewhere c)

abbrev pub is_anchored : Clause Term → ℕ → Bool
is_anchored c x = list_any (nat_eq x) (anchors c)

-- A constraint whose sides can't be equal is met by each substitution, and is dropped. So is one that has another variable: the
-- clause then says no less, and no constraint speaks of what stands in hypotheses `att` of a variable alone.
abbrev pub is_needed : Clause Term → Diff → Bool
is_needed c d = can_be_equal d && list_all (is_anchored c) (diff_variables d)

abbrev pub without_needless : Clause Term → Clause Term
without_needless c = record { hypotheses = c.hypotheses; diffs = filter (is_needed c) c.diffs; conclusion = c.conclusion }

-- whether no substitution meets one of the constraints, so that the clause says nothing
abbrev pub is_void : Clause Term → Bool
is_void c = list_any is_never_met c.diffs

-- whether the clause is solved and concludes `att` of a variable that isn't only passed on
abbrev pub is_general : Clause Term → Bool
is_general c = (is_solved c.hypotheses && is_variable_known c.conclusion) && not (is_passed_on c.hypotheses c.conclusion)

-- the clause that says that in the phase the attacker has everything
abbrev pub everything_known : ℕ → Clause Term
everything_known k = record { hypotheses = []; diffs = []; conclusion = Att k (Leaf 0) }

-- A solved clause that concludes `att` of a variable that isn't only passed on says that the attacker has everything.
abbrev pub generalized : Clause Term → Clause Term
generalized c = cond (is_general c) (everything_known (phase_of c.conclusion)) c

-- the numbering of variables by their first occurrence
abbrev pub numbering : List ℕ → Subst
numbering variables x = Leaf (place_of x (distinct nat_eq variables))

-- The bound variables of each constraint are numbered by their first occurrence, and of equal constraints the first is kept.
abbrev pub tidied : Clause Term → Clause Term
tidied c = record { hypotheses = c.hypotheses; diffs = distinct same_diff (map numbered_diff c.diffs); conclusion = c.conclusion }

-- Variables are numbered by first occurrence, the conclusion first, then the hypotheses in their order.
abbrev pub numbered_anew : Clause Term → Clause Term
numbered_anew c = tidied (clause_under (numbering (clause_variables c)) c)

-- the norm of a flat clause, or None where it says nothing: the rules in their order
abbrev pub norm : Clause Term → Option (Clause Term)
norm c = let kept = without_repeats (without_needless c) in
    cond (is_void c || is_tautology kept) None (Some (numbered_anew (generalized (without_lonely kept))))

-- the clause is flat, and the rules leave it as it is
pub record IsNormal (c : Clause Term) : Type 0 where
  pub flat : is_flat_clause c ≡ true
  pub own : norm c ≡ Some c

-- the norms of a clause's flat parts in order, those that say nothing left out
abbrev pub norms : Clause Term → List (Clause Term)
norms c = filter_map norm (flat_parts c)

-- each rule by itself leaves the clause as it is
pub record EachRuleKeeps (c : Clause Term) : Type 0 where
  pub none_void : is_void c ≡ false
  pub none_needless : without_needless c ≡ c
  pub no_repeats : without_repeats c ≡ c
  pub no_tautology : is_tautology c ≡ false
  pub none_lonely : without_lonely c ≡ c
  pub general : generalized c ≡ c
  pub numbers : numbered_anew c ≡ c

-- Worked examples of pairs of clauses: phases, tables and constraints in resolvents. The unsolved clause's variables are raised.
use Rattle.std.proofs.Common.{◌≡◌, ℕ, zero, suc, true, false, ◌&&◌, ◌||◌, cond, List, [], ◌∷◌, refl, ap, sym, ◌∙◌, arith}
use Rattle.std.specs.List.{cons_option}
use Rattle.spec_trees.specs.Tree.{Leaf, node, bind, after}
use Rattle.spec_terms.specs.Term.{Ctor, Free, Term, Subst}
use Rattle.spec_terms.specs.Unifier.{IsMostGeneral, moved}
use Rattle.spec_clauses.specs.Fact.{Fact, Att, Mess, Tab, Bad, Clause, fact_under, clause_under}
use Rattle.spec_clauses.specs.Variables.{AreBelow, all_terms}
use Rattle.spec_clauses.specs.Diff.{Slot, Own, Bound, Diff}
use Rattle.spec_clauses.specs.Selection.{Selection}
use Rattle.spec_clauses.specs.Limits.{is_large_raw}
use Rattle.spec_clauses.specs.Norm.{is_needed, norms}
use Rattle.spec_clauses.specs.Resolvents.{joined, NoUnifier, Resolvents, Resolves}
use Rattle.spec_clauses.proofs.Answers.{no_unifier, clauses_answer}
use Rattle.spec_clauses.proofs.ConstraintExamples.{constrained, diff, x0, b0, side_c, side_d, side_f, can, cannot, may_be_met, void, by_tests, by_needed, and_true_end}

abbrev pub c : Term
c = node (Free 0) []

abbrev pub d : Term
d = node (Free 1) []

abbrev f : Term → Term
f t = node (Ctor 0) (t ∷ [])

abbrev pub plain : List (Fact Term) → Fact Term → Clause Term
plain hs g = constrained hs [] g

-- the first hypothesis, selected
abbrev pub first_of : Fact Term → List (Fact Term) → Selection
first_of h hs = record { index = 0; fact = h; others = hs }

-- A pair has no answer where no substitution makes the facts one.
no_resolvent : (solved unsolved : Clause Term) (at : Selection) (n : ℕ) → AreBelow n (all_terms solved) → ((s : Subst) → fact_under s solved.conclusion ≡ fact_under s (fact_under (moved n) at.fact) → ⊥) → Resolves solved unsolved at NoUnifier
no_resolvent solved unsolved at n apart never = no_unifier solved unsolved at (record { offset = n; apart = apart; unified = never })

-- Facts of different phases, and entries of different tables, have no unifier: `=> att(c)` and `att@1(v0) => bad()`,
-- `=> mess(c,d)` and `mess@1(v0,v1) => bad()`, `=> tab(t(c))` and `tab(u(v0)) => bad()`, `=> tab(t(c))` and `att(c) => bad()`.
other_phase : Resolves (plain [] (Att 0 c)) (plain (Att 1 (f (Leaf 0)) ∷ []) (Bad [])) (first_of (Att 1 (f (Leaf 0))) []) NoUnifier
other_phase = no_resolvent (plain [] (Att 0 c)) (plain (Att 1 (f (Leaf 0)) ∷ []) (Bad [])) (first_of (Att 1 (f (Leaf 0))) []) 0 (tt, tt) (λ s e. cc)

sent_in_other_phase : Resolves (plain [] (Mess 0 c d)) (plain (Mess 1 (Leaf 0) (Leaf 1) ∷ []) (Bad [])) (first_of (Mess 1 (Leaf 0) (Leaf 1)) []) NoUnifier
sent_in_other_phase = no_resolvent (plain [] (Mess 0 c d)) (plain (Mess 1 (Leaf 0) (Leaf 1) ∷ []) (Bad [])) (first_of (Mess 1 (Leaf 0) (Leaf 1)) []) 0 (tt, (tt, tt)) (λ s e. cc)

other_table : Resolves (plain [] (Tab 0 (c ∷ []))) (plain (Tab 1 (Leaf 0 ∷ []) ∷ []) (Bad [])) (first_of (Tab 1 (Leaf 0 ∷ [])) []) NoUnifier
other_table = no_resolvent (plain [] (Tab 0 (c ∷ []))) (plain (Tab 1 (Leaf 0 ∷ []) ∷ []) (Bad [])) (first_of (Tab 1 (Leaf 0 ∷ [])) []) 0 (tt, tt) (λ s e. cc)

no_entry : Resolves (plain [] (Tab 0 (c ∷ []))) (plain (Att 0 c ∷ []) (Bad [])) (first_of (Att 0 c) []) NoUnifier
no_entry = no_resolvent (plain [] (Tab 0 (c ∷ []))) (plain (Att 0 c ∷ []) (Bad [])) (first_of (Att 0 c) []) 0 (tt, tt) (λ s e. cc)

-- Else it has the norms of the raw resolvent that a most general unifier gives.
pub one_resolvent : (solved unsolved : Clause Term) (at : Selection) (n : ℕ) → AreBelow n (all_terms solved) → (s : Subst) → IsMostGeneral (λ r. fact_under r solved.conclusion ≡ fact_under r (fact_under (moved n) at.fact)) s
    → (raw : Clause Term) → raw ≡ clause_under s (joined n solved unsolved at) → is_large_raw raw ≡ false → (cs : List (Clause Term)) → norms raw ≡ cs → Resolves solved unsolved at (Resolvents cs)
one_resolvent solved unsolved at n apart s most raw is small cs given =
    let r = clauses_answer solved unsolved raw at (record { offset = n; apart = apart; unified = (s, most, is) }) small in
    (r.0, r.1, ap Resolvents (sym given) ∙ r.2)

-- the substitution that has t for the first variable alone
abbrev pub only_first : Term → Subst
only_first t zero = t
only_first t (suc x) = Leaf (suc x)

-- `att(v0) => att@1(v0)` passes on what the attacker has: with `att@1(f(c)) => bad()` it gives `att(f(c)) => bad()`.
pub one_value : (r : Subst) (t : Term) → bind r t ≡ r 0 → (x : ℕ) → after r (only_first t) x ≡ r x
one_value r t e zero = e
one_value r t e (suc x) = refl

passed_on : Resolves (plain (Att 0 (Leaf 0) ∷ []) (Att 1 (Leaf 0))) (plain (Att 1 (f c) ∷ []) (Bad [])) (first_of (Att 1 (f c)) []) (Resolvents (plain (Att 0 (f c) ∷ []) (Bad []) ∷ []))
passed_on = one_resolvent (plain (Att 0 (Leaf 0) ∷ []) (Att 1 (Leaf 0))) (plain (Att 1 (f c) ∷ []) (Bad [])) (first_of (Att 1 (f c)) []) 1 ((omega arith, tt), ((omega arith, tt), tt))
    (only_first (f c)) (record { accepted = refl; most = λ r e. (r, one_value r (f c) (let same = e in cc)) })
    (plain (Att 0 (f c) ∷ []) (Bad [])) refl refl (plain (Att 0 (f c) ∷ []) (Bad []) ∷ []) refl

-- In one phase they are as ever: `=> att@1(c)` and `att@1(c) => bad()` give `=> bad()`.
same_phase : Resolves (plain [] (Att 1 c)) (plain (Att 1 c ∷ []) (Bad [])) (first_of (Att 1 c) []) (Resolvents (plain [] (Bad []) ∷ []))
same_phase = one_resolvent (plain [] (Att 1 c)) (plain (Att 1 c ∷ []) (Bad [])) (first_of (Att 1 c) []) 0 (tt, tt)
    Leaf (record { accepted = refl; most = λ r e. (r, λ x. refl) })
    (plain [] (Bad [])) refl refl (plain [] (Bad []) ∷ []) refl

-- An entry is taken by a clause that has it: `att(v0) => tab(t(v0))` and `tab(t(c)) => att@1(d)` give `att(c) => att@1(d)`.
entry_taken : Resolves (plain (Att 0 (Leaf 0) ∷ []) (Tab 0 (Leaf 0 ∷ []))) (plain (Tab 0 (c ∷ []) ∷ []) (Att 1 d)) (first_of (Tab 0 (c ∷ [])) []) (Resolvents (plain (Att 0 c ∷ []) (Att 1 d) ∷ []))
entry_taken = one_resolvent (plain (Att 0 (Leaf 0) ∷ []) (Tab 0 (Leaf 0 ∷ []))) (plain (Tab 0 (c ∷ []) ∷ []) (Att 1 d)) (first_of (Tab 0 (c ∷ [])) []) 1 ((omega arith, tt), ((omega arith, tt), tt))
    (only_first c) (record { accepted = refl; most = λ r e. (r, one_value r c (let same = e in cc)) })
    (plain (Att 0 c ∷ []) (Att 1 d)) refl refl (plain (Att 0 c ∷ []) (Att 1 d) ∷ []) refl

-- The solved clause's constraint: `att(v0), diff(v0;c) => mess(d,v0)` and `mess(d,d) => bad()` give `att(d) => bad()`, as d isn't c;
-- with `mess(d,c) => bad()` nothing, as `diff(c;c)` is never met.
abbrev sent_but : Diff → Clause Term
sent_but e = constrained (Att 0 (Leaf 0) ∷ []) (e ∷ []) (Mess 0 d (Leaf 0))

abbrev heard : Term → Clause Term
heard t = plain (Mess 0 d t ∷ []) (Bad [])

below_one : AreBelow 1 (all_terms (sent_but (diff x0 side_c)))
below_one = (tt, ((omega arith, tt), ((omega arith, tt), ((omega arith, tt), tt))))

apart_is_needless : norms (constrained (Att 0 d ∷ []) (diff side_d side_c ∷ []) (Bad [])) ≡ plain (Att 0 d ∷ []) (Bad []) ∷ []
apart_is_needless = ap (λ o. cons_option o []) (by_tests (Att 0 d ∷ []) (diff side_d side_c) (Bad []) false false (may_be_met (diff side_d side_c) (λ h. let e = h.1 in cc)) (ap (λ b. b && true) (cannot (diff side_d side_c) (λ h. let e = h.1 in cc))))

constraint_met : Resolves (sent_but (diff x0 side_c)) (heard d) (first_of (Mess 0 d d) []) (Resolvents (plain (Att 0 d ∷ []) (Bad []) ∷ []))
constraint_met = one_resolvent (sent_but (diff x0 side_c)) (heard d) (first_of (Mess 0 d d) []) 1 below_one
    (only_first d) (record { accepted = refl; most = λ r e. (r, one_value r d (let same = e in cc)) })
    (constrained (Att 0 d ∷ []) (diff side_d side_c ∷ []) (Bad [])) refl refl (plain (Att 0 d ∷ []) (Bad []) ∷ []) apart_is_needless

constraint_unmet : Resolves (sent_but (diff x0 side_c)) (heard c) (first_of (Mess 0 d c) []) (Resolvents [])
constraint_unmet = one_resolvent (sent_but (diff x0 side_c)) (heard c) (first_of (Mess 0 d c) []) 1 below_one
    (only_first c) (record { accepted = refl; most = λ r e. (r, one_value r c (let same = e in cc)) })
    (constrained (Att 0 c ∷ []) (diff side_c side_c ∷ []) (Bad [])) refl refl [] (ap (λ o. cons_option o []) (void (Att 0 c ∷ []) (diff side_c side_c) (Bad []) (Leaf, refl)))

-- The unsolved clause's constraint stays, with its variable: `att(v0) => mess(d,v0)` and `mess(d,v0), diff(v0;c) => mess(c,v0)` give
-- `att(v0), diff(v0;c) => mess(c,v0)`.
abbrev later : Clause Term
later = constrained (Att 0 (Leaf 1) ∷ []) (diff (Leaf (Own 1)) side_c ∷ []) (Mess 0 c (Leaf 1))

abbrev later_numbered : Clause Term
later_numbered = constrained (Att 0 (Leaf 0) ∷ []) (diff x0 side_c ∷ []) (Mess 0 c (Leaf 0))

unsolved_constraint : Resolves (plain (Att 0 (Leaf 0) ∷ []) (Mess 0 d (Leaf 0))) (constrained (Mess 0 d (Leaf 0) ∷ []) (diff x0 side_c ∷ []) (Mess 0 c (Leaf 0))) (first_of (Mess 0 d (Leaf 0)) []) (Resolvents (later_numbered ∷ []))
unsolved_constraint = one_resolvent (plain (Att 0 (Leaf 0) ∷ []) (Mess 0 d (Leaf 0))) (constrained (Mess 0 d (Leaf 0) ∷ []) (diff x0 side_c ∷ []) (Mess 0 c (Leaf 0))) (first_of (Mess 0 d (Leaf 0)) []) 1
    (tt, ((omega arith, tt), ((omega arith, tt), tt)))
    (only_first (Leaf 1)) (record { accepted = refl; most = λ r e. (r, one_value r (Leaf 1) (let same = e in cc)) })
    later refl refl (later_numbered ∷ [])
    (ap (λ o. cons_option o []) (by_tests (Att 0 (Leaf 1) ∷ []) (diff (Leaf (Own 1)) side_c) (Mess 0 c (Leaf 1)) false true (may_be_met (diff (Leaf (Own 1)) side_c) (λ h. let e = h.1 in cc))
    (and_true_end _ (can (diff (Leaf (Own 1)) side_c) (λ k. c, refl)))))

-- The constraints of both, of which the first of equal ones is kept: `att(v0), diff(v0;c) => mess(d,v0)` and
-- `mess(d,v0), diff(v0;c) => mess(c,v0)` give the same.
abbrev twice : Clause Term
twice = constrained (Att 0 (Leaf 1) ∷ []) (diff (Leaf (Own 1)) side_c ∷ diff (Leaf (Own 1)) side_c ∷ []) (Mess 0 c (Leaf 1))

of_both : norms twice ≡ later_numbered ∷ []
of_both =
    let e = diff (Leaf (Own 1)) side_c in
    let never = may_be_met e (λ h. let k = h.1 in cc) in
    let needed : is_needed twice e ≡ true = and_true_end _ (can e (λ k. c, refl)) in
    ap (λ o. cons_option o []) (by_needed twice twice (λ i. never i || (never i || false)) (λ i. constrained (Att 0 (Leaf 1) ∷ []) (cond (needed i) (e ∷ cond (needed i) (e ∷ []) []) (cond (needed i) (e ∷ []) [])) (Mess 0 c (Leaf 1))))

both_constraints : Resolves (sent_but (diff x0 side_c)) (constrained (Mess 0 d (Leaf 0) ∷ []) (diff x0 side_c ∷ []) (Mess 0 c (Leaf 0))) (first_of (Mess 0 d (Leaf 0)) []) (Resolvents (later_numbered ∷ []))
both_constraints = one_resolvent (sent_but (diff x0 side_c)) (constrained (Mess 0 d (Leaf 0) ∷ []) (diff x0 side_c ∷ []) (Mess 0 c (Leaf 0))) (first_of (Mess 0 d (Leaf 0)) []) 1 below_one
    (only_first (Leaf 1)) (record { accepted = refl; most = λ r e. (r, one_value r (Leaf 1) (let same = e in cc)) })
    twice refl refl (later_numbered ∷ []) of_both

-- Bound variables stay apart from the clause's, whatever numbers these get: `att(v0), diff(v0;f(?0)) => mess(d,v0)` and
-- `mess(d,v0) => mess(c,v0)` give `att(v0), diff(v0;f(?0)) => mess(c,v0)`.
abbrev not_f : Clause Term
not_f = constrained (Att 0 (Leaf 0) ∷ []) (diff x0 (side_f b0) ∷ []) (Mess 0 c (Leaf 0))

below_bound : AreBelow 1 (all_terms (sent_but (diff x0 (side_f b0))))
below_bound = (tt, ((omega arith, tt), ((omega arith, tt), ((omega arith, tt), tt))))

abbrev made_f : Slot → Term
made_f (Own x) = f c
made_f (Bound i) = c

bound_apart : Resolves (sent_but (diff x0 (side_f b0))) (plain (Mess 0 d (Leaf 0) ∷ []) (Mess 0 c (Leaf 0))) (first_of (Mess 0 d (Leaf 0)) []) (Resolvents (not_f ∷ []))
bound_apart = one_resolvent (sent_but (diff x0 (side_f b0))) (plain (Mess 0 d (Leaf 0) ∷ []) (Mess 0 c (Leaf 0))) (first_of (Mess 0 d (Leaf 0)) []) 1 below_bound
    (only_first (Leaf 1)) (record { accepted = refl; most = λ r e. (r, one_value r (Leaf 1) (let same = e in cc)) })
    (constrained (Att 0 (Leaf 1) ∷ []) (diff (Leaf (Own 1)) (side_f b0) ∷ []) (Mess 0 c (Leaf 1))) refl refl (not_f ∷ [])
    (ap (λ o. cons_option o []) (by_tests (Att 0 (Leaf 1) ∷ []) (diff (Leaf (Own 1)) (side_f b0)) (Mess 0 c (Leaf 1)) false true (may_be_met (diff (Leaf (Own 1)) (side_f b0)) (λ h. let e = h.1 in cc))
    (and_true_end _ (can (diff (Leaf (Own 1)) (side_f b0)) (made_f, refl)))))

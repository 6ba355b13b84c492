-- The attacker's raw clauses, from ids that name their terms.
use Rattle.std.proofs.Common.{◌≡◌, ℕ, zero, suc, ◌+◌, true, not, ◌&&◌, cond, Some, None, List, [], ◌∷◌, ◌++◌, map, refl, sym, ap, ◌∙◌, subst, arith}
use Rattle.std.specs.List.{cons_option}
use Rattle.std.proofs.lemmas.Simd.{map-map}
use Rattle.spec_trees.specs.Tree.{Leaf, node}
use Rattle.spec_calculus.specs.Syntax.{Rule, Declared, Protocol}
use Rattle.spec_terms.specs.Term.{Ctor, Term}
use Rattle.spec_clauses.specs.Fact.{Fact, Att, Clause}
use Rattle.spec_translation.specs.Conversion.{free_term, rule_term}
use Rattle.spec_translation.specs.Attacker.{variables_from, name_known, constructor_applied, rule_applied}
use Rattle.term_tree.specs.Bank.{tree_at, AreKnown, Names, Grows}
use Rattle.term_tree.specs.declared.bank.Id.{Id}
use Rattle.term_tree.proofs.BankLaws.{AreKnown-grows, trees_at-grow}
use Rattle.clause_form.specs.Seen.{fact_at, AreFactsIn, NameTerms}
use Rattle.clause_form.proofs.Copying.{NameTerms-grows, NameTerms-push}

-- the clause that who has these terms in the phase has the last
abbrev pub known_clause : ℕ → List Term → Term → Clause Term
known_clause phase ts t = record { hypotheses = map (Att phase) ts; diffs = []; conclusion = Att phase t }

pub known_atts : (phase : ℕ) (all : List Term) (ids : List Id) → AreKnown all ids → AreFactsIn all (map (Att phase) ids)
known_atts phase all [] known = tt
known_atts phase all (id ∷ ids) known = ((known.0, tt), known_atts phase all ids known.1)

atts_at : (phase : ℕ) (all : List Term) (ids : List Id) → map (fact_at all) (map (Att phase) ids) ≡ map (Att phase) (map (tree_at all) ids)
atts_at phase all [] = refl
atts_at phase all (id ∷ ids) = ap (λ l. Att phase (tree_at all id) ∷ l) (atts_at phase all ids)

pub atts_named : (phase : ℕ) (all : List Term) (ids : List Id) (facts : List (Fact Id)) → facts ≡ map (Att phase) ids → map (fact_at all) facts ≡ map (Att phase) (map (tree_at all) ids)
atts_named phase all ids facts e = ap (map (fact_at all)) e ∙ atts_at phase all ids

abbrev pub single : ℕ → List (Fact Term) → Term → List (Clause Term)
single phase hyps t = record { hypotheses = hyps; diffs = []; conclusion = Att phase t } ∷ []

-- ids that are shown as a list keep their terms as the bank grows
pub shown_known : (a b : List Term) (ids inner shown : List Id) → Grows a b → shown ≡ inner → inner ≡ ids → AreKnown a ids → AreKnown b shown
shown_known a b ids inner shown grows e f known = subst (λ (l : List Id). AreKnown b l) (sym (e ∙ f)) (AreKnown-grows a b ids grows known)

pub shown_terms : (a b : List Term) (ids inner shown : List Id) (ts : List Term) → Grows a b → shown ≡ inner → inner ≡ ids → NameTerms a ids ts → map (tree_at b) shown ≡ ts
shown_terms a b ids inner shown ts grows e f names = ap (map (tree_at b)) (e ∙ f) ∙ (trees_at-grow a b ids grows names.known ∙ names.are)

-- variables, one more
variables_more : (n i : ℕ) → variables_from n (suc i) ≡ variables_from n i ++ Leaf (n + i) ∷ []
variables_more n zero = let same : n ≡ n + 0 = omega arith in ap (λ k. Leaf k ∷ []) same
variables_more n (suc i) =
    let same : n + 1 + i ≡ n + suc i = omega arith in
    ap (λ l. Leaf n ∷ l) (variables_more (n + 1) i ∙ ap (λ k. variables_from (n + 1) i ++ Leaf k ∷ []) same)

pub variables_on : (now next : List Term) (ids new : List Id) (i : ℕ) (id : Id) → NameTerms now ids (variables_from 0 i) → Grows now next → Names next id (Leaf i) → new ≡ ids ++ id ∷ [] → NameTerms next new (variables_from 0 (i + 1))
variables_on now next ids new i id names grows named e =
    let number : i + 1 ≡ suc i = omega arith in
    let start : 0 + i ≡ i = omega arith in
    let more : variables_from 0 (i + 1) ≡ variables_from 0 i ++ Leaf i ∷ [] = ap (variables_from 0) number ∙ (variables_more 0 i ∙ ap (λ k. variables_from 0 i ++ Leaf k ∷ []) start) in
    subst (λ (l : List Term). NameTerms next new l) (sym more)
    (subst (λ (l : List Id). NameTerms next l (variables_from 0 i ++ Leaf i ∷ [])) (sym e) (NameTerms-push next ids (variables_from 0 i) id (Leaf i) (NameTerms-grows now next ids (variables_from 0 i) grows names) named))

-- what the clauses are
pub name_listed : (number : ℕ) (d : Declared) (t : Term) → d.public ≡ true → t ≡ free_term number → known_clause 0 [] t ∷ [] ≡ cons_option (name_known (number, d)) []
name_listed number d t public is = ap (λ u. known_clause 0 [] u ∷ []) is ∙ sym (ap (λ b. cons_option (cond b (Some (known_clause 0 [] (free_term number))) None) []) public)

pub constructor_listed : (phase number : ℕ) (d : Declared) (ts : List Term) (t : Term) → (d.public && not d.is_data) ≡ true → ts ≡ variables_from 0 d.arity → t ≡ node (Ctor number) (variables_from 0 d.arity)
    → known_clause phase ts t ∷ [] ≡ cons_option (constructor_applied phase (number, d)) []
constructor_listed phase number d ts t applied are is =
    let vs = variables_from 0 d.arity in
    ap (λ l. known_clause phase l t ∷ []) are ∙ (ap (λ u. known_clause phase vs u ∷ []) is ∙ sym (ap (λ b. cons_option (cond b (Some (known_clause phase vs (node (Ctor number) vs))) None) []) applied))

pub rule_listed : (P : Protocol) (phase : ℕ) (rule : Rule) (ts : List Term) (t : Term) → ts ≡ map (rule_term P 0) rule.left → t ≡ rule_term P 0 rule.right → known_clause phase ts t ∷ [] ≡ rule_applied P phase rule ∷ []
rule_listed P phase rule ts t are is =
    let left : map (Att phase) (map (rule_term P 0) rule.left) ≡ map (λ u. Att phase (rule_term P 0 u)) rule.left = map-map (Att phase) (rule_term P 0) rule.left in
    ap (λ l. known_clause phase l t ∷ []) are ∙ (ap (λ u. known_clause phase (map (rule_term P 0) rule.left) u ∷ []) is ∙ ap (λ l. single phase l (rule_term P 0 rule.right)) left)

-- A pair of which the solved clause is set apart in place of the unsolved one: variables below an offset trade places with those that were raised by it.
use Rattle.std.proofs.Common.{◌≡◌, ℕ, zero, suc, ◌+◌, ◌-◌, ◌<◌, ◌≤◌, Bool, true, false, Some, Result, Ok, Err, IfOk, List, [], ◌∷◌, ◌++◌, length, map, take, drop, get_or, refl, ap, sym, ◌∙◌, subst, arith, lt-ltb, le-ltb}
use Rattle.std.specs.Prelude.{nat_lt}
use Rattle.std.specs.List.{AllByRecursion, remove}
use Rattle.std.specs.declared.alloc.AllocError.{AllocError}
use Rattle.std.proofs.lemmas.Bool.{ltb-true, ltb-false}
use Rattle.std.proofs.lemmas.List.{map-append}
use Rattle.spec_trees.specs.Tree.{Leaf, bind, after}
use Rattle.spec_trees.proofs.Substitution.{bind-bind, bind-same}
use Rattle.spec_terms.specs.Term.{Term, Subst}
use Rattle.spec_terms.specs.Unifier.{moved}
use Rattle.spec_calculus.specs.Bounds.{most_symbols}
use Rattle.spec_clauses.specs.Diff.{diff_under}
use Rattle.spec_clauses.specs.Fact.{Fact, Clause, terms_of, facts_of, clause_terms, fact_under, clause_under}
use Rattle.spec_clauses.specs.Variables.{IsBelow, AreBelow, all_terms, constrained_variables}
use Rattle.spec_clauses.specs.Selection.{Selection}
use Rattle.spec_clauses.specs.Inclusion.{Picks}
use Rattle.spec_clauses.specs.Resolvents.{joined, IsRawResolvent}
use Rattle.spec_clauses.specs.Resolvents as answer
use Rattle.spec_clauses.proofs.Lists.{all_append, all_first, all-flat_map, all-from_flat_map}
use Rattle.spec_clauses.proofs.Facts.{fact_under-fact_under, clause_under-clause_under, clause_under-Leaf}
use Rattle.spec_clauses.proofs.Apart.{mix, mix-high, mix-clause}
use Rattle.spec_clauses.proofs.Answers.{no_unifier}
use Rattle.spec_derivations.specs.Choice.{at_place}
use Rattle.spec_derivations.proofs.Choosing.{all_rest, at_place-picks}
use Rattle.term_tree.specs.declared.bank.Id.{Id}
use Rattle.clause_diffs.specs.Diffs.{diffs_at}
use Rattle.clause_form.specs.declared.facts.Fact as declared
use Rattle.clause_form.specs.Facts.{fact_of}
use Rattle.clause_form.specs.Seen.{fact_at, clause_at, AreFactsIn, IsClauseIn, IdClause}
use Rattle.clause_form.proofs.Flattening.{AreFactsIn-append}
use Rattle.clause_resolve.specs.declared.resolving.Resolved.{Resolved}
use Rattle.clause_resolve.specs.Meeting.{IsMguOfFacts, HaveNoUnifier}
use Rattle.clause_resolve.specs.Apart.{IsHypothesisAt, IsMoved}
use Rattle.clause_resolve.specs.Joining.{together, without, IsFoundOf}
use Rattle.clause_resolve.specs.Answers.{GivesOf, IsAnswerAt}
use Rattle.clause_resolve.proofs.Shifting.{IsPlaced, placed, selected_fact}
use Rattle.clause_resolve.proofs.Answering.{together_known, together_at, found_answers}
use Rattle.clause_resolve.proofs.Removing.{map_remove}

-- variables below n, and those from there to n + n, trade places
abbrev swap : ℕ → Subst
swap n = mix n (moved n) (mix n Leaf (moved (n + n)))

swap-low : (n x : ℕ) → x < n → swap n x ≡ Leaf (x + n)
swap-low n x less = rw (lt-ltb x n less) refl

swap-raised : (n x : ℕ) → n ≤ x → x - n < n → swap n x ≡ Leaf (x - n)
swap-raised n x over less = rw (le-ltb x n over) (rw (lt-ltb (x - n) n less) refl)

swap-beyond : (n x : ℕ) → n ≤ x → n ≤ x - n → swap n x ≡ Leaf x
swap-beyond n x over far = let same : x - n - n + (n + n) ≡ x = omega arith in rw (le-ltb x n over) (rw (le-ltb (x - n) n far) (ap (λ k. Leaf k) same))

-- traded twice, each is where it was
swap-twice : (n x : ℕ) → after (swap n) (swap n) x ≡ Leaf x
swap-twice n x = go (nat_lt x n) refl where
  beyond : (b : Bool) → n ≤ x → nat_lt (x - n) n ≡ b → after (swap n) (swap n) x ≡ Leaf x
  beyond true over e =
      let less : x - n < n = ltb-true (x - n) n e in
      let same : x - n + n ≡ x = omega arith in
      ap (bind (swap n)) (swap-raised n x over less) ∙ (swap-low n (x - n) less ∙ ap (λ k. Leaf k) same)
  beyond false over e =
      let far : n ≤ x - n = ltb-false (x - n) n e in
      ap (bind (swap n)) (swap-beyond n x over far) ∙ swap-beyond n x over far

  go : (b : Bool) → nat_lt x n ≡ b → after (swap n) (swap n) x ≡ Leaf x
  go true e =
      let less : x < n = ltb-true x n e in
      let over : n ≤ x + n = omega arith in
      let back : x + n - n < n = omega arith in
      let same : x + n - n ≡ x = omega arith in
      ap (bind (swap n)) (swap-low n x less) ∙ (swap-raised n (x + n) over back ∙ ap (λ k. Leaf k) same)
  go false e = beyond (nat_lt (x - n) n) (ltb-false x n e) refl

-- it raises what is low, and takes what was raised back
swap-clause : (n : ℕ) (c : Clause Term) → AreBelow n (all_terms c) → clause_under (swap n) c ≡ clause_under (moved n) c
swap-clause n c below = mix-clause n (moved n) (mix n Leaf (moved (n + n))) c below

swap-moved : (n : ℕ) (c : Clause Term) → AreBelow n (all_terms c) → clause_under (swap n) (clause_under (moved n) c) ≡ c
swap-moved n c below =
    clause_under-clause_under (swap n) (moved n) c
    ∙ (ap (λ s. clause_under s c) (mix-high n (moved n) (mix n Leaf (moved (n + n))))
    ∙ (mix-clause n Leaf (moved (n + n)) c below ∙ clause_under-Leaf c))

-- facts that trade places so
record AreTraded (n : ℕ) (f : Fact Term) : Type 0 where
  there : fact_under (swap n) f ≡ fact_under (moved n) f
  back : fact_under (swap n) (fact_under (moved n) f) ≡ f

traded : (n : ℕ) (c : Clause Term) → AreBelow n (all_terms c) → AreTraded n c.conclusion
traded n c below = record { there = ap (λ (d : Clause Term). d.conclusion) (swap-clause n c below); back = ap (λ (d : Clause Term). d.conclusion) (swap-moved n c below) }

-- a unifier of the pair with one fact raised, and of the pair with the other raised
unifies_back : (n : ℕ) (f g : Fact Term) (r : Subst) → AreTraded n f → AreTraded n g → fact_under r f ≡ fact_under r (fact_under (moved n) g) → fact_under (after r (swap n)) (fact_under (moved n) f) ≡ fact_under (after r (swap n)) g
unifies_back n f g r one other e =
    sym (fact_under-fact_under r (swap n) (fact_under (moved n) f)) ∙ (ap (fact_under r) one.back ∙ (e ∙ (ap (fact_under r) (sym other.there) ∙ fact_under-fact_under r (swap n) g)))

unifies_there : (n : ℕ) (f g : Fact Term) (s : Subst) → AreTraded n f → AreTraded n g → fact_under s (fact_under (moved n) f) ≡ fact_under s g → fact_under (after s (swap n)) f ≡ fact_under (after s (swap n)) (fact_under (moved n) g)
unifies_there n f g s one other e =
    sym (fact_under-fact_under s (swap n) f) ∙ (ap (fact_under s) one.there ∙ (e ∙ (ap (fact_under s) (sym other.back) ∙ fact_under-fact_under s (swap n) (fact_under (moved n) g))))

swapped_mgu : (n : ℕ) (f g : Fact Term) (s : Subst) → AreTraded n f → AreTraded n g → IsMguOfFacts (fact_under (moved n) f) g s → IsMguOfFacts f (fact_under (moved n) g) (after s (swap n))
swapped_mgu n f g s one other mgu = record {
  accepted = unifies_there n f g s one other mgu.accepted;
  most = λ r unified.
      let (q, factors) = mgu.most (after r (swap n)) (unifies_back n f g r one other unified) in
      (q, λ x. bind-bind q s (swap n x) ∙ (bind-same (after q s) (after r (swap n)) factors (swap n x) ∙ (sym (bind-bind r (swap n) (swap n x)) ∙ ap (bind r) (swap-twice n x))));
}

-- the selected hypothesis and the others, as a clause of low variables
abbrev chosen : Selection → Clause Term
chosen at = record { hypotheses = at.others; diffs = []; conclusion = at.fact }

abbrev AreLowTerms : ℕ → Fact Term → Type 0
AreLowTerms n f = AllByRecursion (IsBelow n) (terms_of f)

chosen_low : (n : ℕ) (c : Clause Term) (at : Selection) → Picks c.hypotheses at.fact at.others → AreBelow n (all_terms c) → AreBelow n (all_terms (chosen at))
chosen_low n c at picked below =
    let facts = all-from_flat_map (IsBelow n) terms_of (facts_of c) (all_first (IsBelow n) (clause_terms c) (map Leaf (constrained_variables c)) below) in
    let split = all_rest (AreLowTerms n) picked facts.1 in
    all_append (IsBelow n) (clause_terms (chosen at)) [] (all-flat_map (IsBelow n) terms_of (at.fact ∷ at.others) (split.0, split.1)) tt

-- what the unifier makes of the raised solved clause with the others and the conclusion is the raw resolvent
swapped_raw : (n : ℕ) (solved unsolved : Clause Term) (at : Selection) (s : Subst) → AreBelow n (all_terms solved) → AreBelow n (all_terms unsolved) → AreBelow n (all_terms (chosen at))
    → clause_under s (together (clause_under (moved n) solved) record { hypotheses = at.others; diffs = unsolved.diffs; conclusion = unsolved.conclusion }) ≡ clause_under (after s (swap n)) (joined n solved unsolved at)
swapped_raw n solved unsolved at s low unsolved_low chosen_is_low =
    let raised : map (fact_under (swap n)) solved.hypotheses ≡ map (fact_under (moved n)) solved.hypotheses = ap (λ (d : Clause Term). d.hypotheses) (swap-clause n solved low) in
    let others : map (fact_under (swap n)) (map (fact_under (moved n)) at.others) ≡ at.others = ap (λ (d : Clause Term). d.hypotheses) (swap-moved n (chosen at) chosen_is_low) in
    let conclusion : fact_under (swap n) (fact_under (moved n) unsolved.conclusion) ≡ unsolved.conclusion = ap (λ (d : Clause Term). d.conclusion) (swap-moved n unsolved unsolved_low) in
    let hypotheses = map-append (fact_under (swap n)) solved.hypotheses (map (fact_under (moved n)) at.others) ∙ (λ i. raised i ++ others i) in
    let raised_diffs : map (diff_under (swap n)) solved.diffs ≡ map (diff_under (moved n)) solved.diffs = ap (λ (d : Clause Term). d.diffs) (swap-clause n solved low) in
    let other_diffs : map (diff_under (swap n)) (map (diff_under (moved n)) unsolved.diffs) ≡ unsolved.diffs = ap (λ (d : Clause Term). d.diffs) (swap-moved n unsolved unsolved_low) in
    let diffs = map-append (diff_under (swap n)) solved.diffs (map (diff_under (moved n)) unsolved.diffs) ∙ (λ i. raised_diffs i ++ other_diffs i) in
    let traded_clause : clause_under (swap n) (joined n solved unsolved at) ≡ together (clause_under (moved n) solved) record { hypotheses = at.others; diffs = unsolved.diffs; conclusion = unsolved.conclusion } = λ i. record { hypotheses = hypotheses i; diffs = diffs i; conclusion = conclusion i } in
    sym (ap (clause_under s) traded_clause) ∙ clause_under-clause_under s (swap n) (joined n solved unsolved at)

swapped_resolvent : (n : ℕ) (solved unsolved : Clause Term) (at : Selection) (s : Subst) → AreBelow n (all_terms solved) → AreBelow n (all_terms unsolved) → Picks unsolved.hypotheses at.fact at.others → IsMguOfFacts (fact_under (moved n) solved.conclusion) at.fact s
    → IsRawResolvent solved unsolved at (Some (clause_under s (together (clause_under (moved n) solved) record { hypotheses = at.others; diffs = unsolved.diffs; conclusion = unsolved.conclusion })))
swapped_resolvent n solved unsolved at s low unsolved_low picked mgu =
    let chosen_is_low = chosen_low n unsolved at picked unsolved_low in record {
      offset = n;
      apart = low;
      unified = (after s (swap n), swapped_mgu n solved.conclusion at.fact s (traded n solved low) (traded n (chosen at) chosen_is_low) mgu, swapped_raw n solved unsolved at s low unsolved_low chosen_is_low);
    }

-- In a bank: the clause without its selected hypothesis,
without_at : (all : List Term) (unsolved : IdClause) (at : ℕ) (p : IsPlaced (clause_at all unsolved) at) → clause_at all (without at unsolved) ≡ record { hypotheses = p.selection.others; diffs = (clause_at all unsolved).diffs; conclusion = (clause_at all unsolved).conclusion }
without_at all unsolved at p =
    let next : suc at ≡ at + 1 = omega arith in
    let hyps = map (fact_at all) unsolved.hypotheses in
    let parts : map (fact_at all) (remove unsolved.hypotheses at) ≡ take at hyps ++ drop (at + 1) hyps = map_remove (fact_at all) unsolved.hypotheses at ∙ ap (λ n. take at hyps ++ drop n hyps) next in
    ap (λ l. record { hypotheses = l; diffs = diffs_at all unsolved.diffs; conclusion = fact_at all unsolved.conclusion }) (parts ∙ p.others)

-- whose ids are known,
known_take : (all : List Term) (n : ℕ) (fs : List (Fact Id)) → AreFactsIn all fs → AreFactsIn all (take n fs)
known_take all zero fs known = tt
known_take all (suc n) [] known = tt
known_take all (suc n) (f ∷ fs) known = (known.0, known_take all n fs known.1)

known_drop : (all : List Term) (n : ℕ) (fs : List (Fact Id)) → AreFactsIn all fs → AreFactsIn all (drop n fs)
known_drop all zero fs known = known
known_drop all (suc n) [] known = tt
known_drop all (suc n) (f ∷ fs) known = known_drop all n fs known.1

pub together_without_known : (all : List Term) (moved_clause unsolved : IdClause) (at : ℕ) → IsClauseIn all moved_clause → IsClauseIn all unsolved → IsClauseIn all (together moved_clause (without at unsolved))
together_without_known all moved_clause unsolved at first second =
    together_known all moved_clause (without at unsolved) first record {
      hypotheses = AreFactsIn-append all (take at unsolved.hypotheses) (drop (suc at) unsolved.hypotheses) (known_take all at unsolved.hypotheses second.hypotheses) (known_drop all (suc at) unsolved.hypotheses second.hypotheses);
      diffs = second.diffs;
      conclusion = second.conclusion;
    }

-- the raised solved clause with it,
pub moved_together : (all : List Term) (solved : Clause Term) (moved_clause unsolved : IdClause) (at : ℕ) (p : IsPlaced (clause_at all unsolved) at) → IsMoved all solved moved_clause
    → clause_at all (together moved_clause (without at unsolved)) ≡ together (clause_under (moved most_symbols) solved) record { hypotheses = p.selection.others; diffs = (clause_at all unsolved).diffs; conclusion = (clause_at all unsolved).conclusion }
moved_together all solved moved_clause unsolved at p m = together_at all moved_clause (without at unsolved) ∙ (λ i. together (m.names.is i) (without_at all unsolved at p i))

-- and so the pair's answer: what was found,
pub moved_result : (all new : List Term) (solved : Clause Term) (moved_clause unsolved made : IdClause) (at : ℕ) (k : Fact Id) (facts : List declared.Fact) (f : declared.Fact) (s : Subst) (r : Result Resolved AllocError) → k ≡ moved_clause.conclusion → map fact_of facts ≡ unsolved.hypotheses → at < length facts → f ≡ get_or facts at f
    → made ≡ together moved_clause (without at unsolved) → AreBelow most_symbols (all_terms (clause_at all unsolved)) → IsHypothesisAt (clause_at all unsolved) at → IsMguOfFacts (fact_at all k) (fact_at all (fact_of f)) s → IfOk r (λ found. IsFoundOf new (clause_under s (clause_at all made)) found) → IsMoved all solved moved_clause
    → IfOk r (λ found. IsAnswerAt at new solved (clause_at all unsolved) found)
moved_result all new solved moved_clause unsolved made at k facts f s (Err failed) k_is hyps_are within f_is e low selected mgu found m = tt
moved_result all new solved moved_clause unsolved made at k facts f s (Ok answer_found) k_is hyps_are within f_is e low selected mgu found m =
    let p = placed (clause_at all unsolved) at selected in
    let concl : fact_at all k ≡ fact_under (moved most_symbols) solved.conclusion = ap (fact_at all) k_is ∙ ap (λ (c : Clause Term). c.conclusion) m.names.is in
    let fact : fact_at all (fact_of f) ≡ p.selection.fact = selected_fact all unsolved facts at f p.selection.fact hyps_are within f_is ∙ p.fact p.selection.fact in
    let mgu_is : IsMguOfFacts (fact_under (moved most_symbols) solved.conclusion) p.selection.fact s = subst (λ (h : Fact Term). IsMguOfFacts (fact_under (moved most_symbols) solved.conclusion) h s) fact (subst (λ (h : Fact Term). IsMguOfFacts h (fact_at all (fact_of f)) s) concl mgu) in
    let whole = ap (clause_at all) e ∙ moved_together all solved moved_clause unsolved at p m in
    found_answers new solved (clause_at all unsolved) (clause_under s (together (clause_under (moved most_symbols) solved) record { hypotheses = p.selection.others; diffs = (clause_at all unsolved).diffs; conclusion = (clause_at all unsolved).conclusion })) p.selection answer_found p.is_selected
    (swapped_resolvent most_symbols solved (clause_at all unsolved) p.selection s m.low low (at_place-picks (clause_at all unsolved).hypotheses at p.selection p.is_selected) mgu_is) (subst (λ (c : Clause Term). IsFoundOf new (clause_under s c) answer_found) whole found)

-- or that nothing unifies them.
pub moved_unanswered : (all : List Term) (solved : Clause Term) (moved_clause unsolved : IdClause) (at : ℕ) (k : Fact Id) (facts : List declared.Fact) (f : declared.Fact) → k ≡ moved_clause.conclusion → map fact_of facts ≡ unsolved.hypotheses → at < length facts → f ≡ get_or facts at f
    → AreBelow most_symbols (all_terms (clause_at all unsolved)) → IsHypothesisAt (clause_at all unsolved) at → HaveNoUnifier (fact_at all k) (fact_at all (fact_of f)) → IsMoved all solved moved_clause → GivesOf (at_place (clause_at all unsolved).hypotheses at) solved (clause_at all unsolved) answer.NoUnifier
moved_unanswered all solved moved_clause unsolved at k facts f k_is hyps_are within f_is low selected never m =
    let p = placed (clause_at all unsolved) at selected in
    let concl : fact_at all k ≡ fact_under (moved most_symbols) solved.conclusion = ap (fact_at all) k_is ∙ ap (λ (c : Clause Term). c.conclusion) m.names.is in
    let fact : fact_at all (fact_of f) ≡ p.selection.fact = selected_fact all unsolved facts at f p.selection.fact hyps_are within f_is ∙ p.fact p.selection.fact in
    let chosen_is_low = chosen_low most_symbols (clause_at all unsolved) p.selection (at_place-picks (clause_at all unsolved).hypotheses at p.selection p.is_selected) low in
    record {
      at = p.selection;
      is_selected = p.is_selected;
      gives = no_unifier solved (clause_at all unsolved) p.selection record {
        offset = most_symbols;
        apart = m.low;
        unified = λ s e.
            never (after s (swap most_symbols))
            (ap (fact_under (after s (swap most_symbols))) concl
            ∙ (unifies_back most_symbols solved.conclusion p.selection.fact s (traded most_symbols solved m.low) (traded most_symbols (chosen p.selection) chosen_is_low) e ∙ sym (ap (fact_under (after s (swap most_symbols))) fact)));
      };
    }

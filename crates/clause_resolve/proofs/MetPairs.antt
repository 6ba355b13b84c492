-- What a pair of clauses becomes by a most general unifier.
use Rattle.std.proofs.Common.{◌≡◌, ◌∙◌, true, false, List, ap, sym, subst}
use Rattle.spec_terms.specs.Term.{Term, Subst}
use Rattle.spec_terms.specs.Unifier.{moved}
use Rattle.spec_calculus.specs.Bounds.{most_symbols}
use Rattle.spec_clauses.specs.Fact.{Fact, Clause, fact_under, clause_under}
use Rattle.spec_clauses.specs.Limits.{is_large_raw}
use Rattle.spec_clauses.specs.Resolvents as answer
use Rattle.term_tree.specs.Bank.{Grows}
use Rattle.term_tree.specs.declared.bank.Id.{Id}
use Rattle.unify_match.specs.declared.bound.Bound.{Bound}
use Rattle.unify_match.specs.Seen.{IsReady}
use Rattle.unify_match.proofs.SeenLemmas.{IsReady-grows}
use Rattle.clause_form.specs.Facts.{fact_of}
use Rattle.clause_form.specs.Fit.{HasLowVariables}
use Rattle.clause_form.specs.Seen.{fact_at, clause_at, NamesClause, IdClause}
use Rattle.clause_resolve.specs.declared.apart.Apart.{Apart}
use Rattle.clause_resolve.specs.declared.met.Met.{Met}
use Rattle.clause_resolve.specs.declared.resolving.Resolved.TheVariants.{Large}
use Rattle.clause_resolve.specs.Meeting.{IsMguOfFacts}
use Rattle.clause_resolve.specs.Apart.{IsApart}
use Rattle.clause_resolve.specs.Joining.{together}
use Rattle.clause_resolve.specs.Answers.{Gives}
use Rattle.clause_resolve.specs.Met.{IsMet}
use Rattle.clause_resolve.proofs.Answering.{together_is, answered}
use Rattle.clause_resolve.proofs.SpendingLaws.{standing, stands}

module _ (old new : List Term) (solved made : IdClause) (k : Fact Id) (unsolved : Clause Term) (apart : Apart) (pairs : List Bound) where
  -- the pair is large
  pub large_pair : k ≡ solved.conclusion → made ≡ together solved apart.rest → IsApart old unsolved apart → HasLowVariables old solved → IsMguOfFacts (fact_at old k) (fact_at old (fact_of apart.selected)) (standing old pairs)
      → is_large_raw (clause_under (standing old pairs) (clause_at old made)) ≡ true → Gives (clause_at old solved) unsolved answer.Large
  large_pair k_is e a low mgu large = answered old new solved made unsolved apart (standing old pairs) Large e a low (subst (λ (f : Fact Id). IsMguOfFacts (fact_at old f) (fact_at old (fact_of apart.selected)) (standing old pairs)) k_is mgu) large

  -- the bindings and the raw resolvent are those of the pair
  pub met_pair : (met : Met) → k ≡ solved.conclusion → made ≡ together solved apart.rest → IsApart old unsolved apart → IsReady old pairs → Grows old new → IsMguOfFacts (fact_at old k) (fact_at old (fact_of apart.selected)) (standing old pairs)
      → is_large_raw (clause_under (standing old pairs) (clause_at old made)) ≡ false → NamesClause new met.raw (clause_under (standing old pairs) (clause_at old made)) → met.binds.pairs ≡ pairs → IsMet new (clause_at old solved) unsolved met
  met_pair met k_is e a ready grows mgu small names binds =
      let by : standing new met.binds.pairs ≡ standing old pairs = ap (standing new) binds ∙ stands old new pairs grows ready in
      let raw : clause_under (standing old pairs) (clause_at old made) ≡ clause_under (standing new met.binds.pairs) (answer.joined most_symbols (clause_at old solved) unsolved a.at) =
      ap (λ (c : IdClause). clause_under (standing old pairs) (clause_at old c)) e ∙ (ap (clause_under (standing old pairs)) (together_is old solved unsolved apart a) ∙ ap (λ (s : Subst). clause_under s (answer.joined most_symbols (clause_at old solved) unsolved a.at)) (sym by)) in
      let here = subst (λ (f : Fact Id). IsMguOfFacts (fact_at old f) (fact_at old (fact_of apart.selected)) (standing old pairs)) k_is mgu in
      let there = subst (λ (f : Fact Term). IsMguOfFacts (fact_at old solved.conclusion) f (standing old pairs)) a.selected.is here in
      record {
        at = a.at;
        is_selected = a.is_selected;
        ready = subst (IsReady new) (sym binds) (IsReady-grows old new pairs grows ready);
        unifies = subst (λ (s : Subst). IsMguOfFacts (fact_at old solved.conclusion) (fact_under (moved most_symbols) a.at.fact) s) (sym by) there;
        raw = subst (λ (c : Clause Term). NamesClause new met.raw c) raw names;
        small = sym (ap is_large_raw raw) ∙ small;
      }

-- Facts meet where their heads are the same and their terms meet, item by item.
use Rattle.std.proofs.Common.{◌≡◌, Bool, true, false, List, map, ap, sym, ◌∙◌, subst, Result, Ok, Err, IfOk, MatchBool}
use Rattle.std.specs.declared.alloc.AllocError.{AllocError}
use Rattle.spec_trees.specs.Tree.{bind}
use Rattle.spec_terms.specs.Term.{Term, Subst}
use Rattle.spec_terms.specs.Unifier.{UnifiesAll}
use Rattle.spec_clauses.specs.Fact.{Fact, terms_of, fact_under}
use Rattle.spec_clauses.specs.Head.{head_of}
use Rattle.spec_clauses.proofs.Parts.{parts_determine, head_of-map}
use Rattle.term_tree.specs.Bank.{tree_at}
use Rattle.term_tree.specs.declared.bank.Id.{Id}
use Rattle.clause_diffs.specs.Meeting.{IsMguOfAll, HaveNoUnifierOfAll}
use Rattle.clause_form.specs.Seen.{fact_at}
use Rattle.clause_form.proofs.Made.{terms_under}
use Rattle.clause_resolve.specs.Meeting.{IsMguOfFacts, HaveNoUnifier, NeverMeet}

-- a fact of ids under a substitution has the head that it has
pub head_under : (all : List Term) (s : Subst) (f : Fact Id) → head_of (fact_under s (fact_at all f)) ≡ head_of f
head_under all s f = head_of-map (bind s) (fact_at all f) ∙ head_of-map (tree_at all) f

-- so what makes two facts one makes their terms one, and the other way round where the heads are the same
terms_one : (all : List Term) (s r : Subst) (f g : Fact Id) → fact_under s (fact_at all f) ≡ fact_under r (fact_at all g) → map (bind s) (map (tree_at all) (terms_of f)) ≡ map (bind r) (map (tree_at all) (terms_of g))
terms_one all s r f g e = sym (terms_under all s f) ∙ (ap terms_of e ∙ terms_under all r g)

facts_one : (all : List Term) (s : Subst) (f g : Fact Id) → head_of f ≡ head_of g → UnifiesAll s (map (tree_at all) (terms_of f)) (map (tree_at all) (terms_of g)) → fact_under s (fact_at all f) ≡ fact_under s (fact_at all g)
facts_one all s f g heads e =
    parts_determine (fact_under s (fact_at all f)) (fact_under s (fact_at all g))
    (head_under all s f ∙ (heads ∙ sym (head_under all s g)))
    (terms_under all s f ∙ (e ∙ sym (terms_under all s g)))

module _ (all : List Term) (f g : Fact Id) where
  pub heads_never_meet : (head_of f ≡ head_of g → ⊥) → NeverMeet (fact_at all f) (fact_at all g)
  heads_never_meet apart s r e = apart (sym (head_under all s f) ∙ (ap head_of e ∙ head_under all r g))

  pub terms_never_meet : ((s r : Subst) → map (bind s) (map (tree_at all) (terms_of f)) ≡ map (bind r) (map (tree_at all) (terms_of g)) → ⊥) → NeverMeet (fact_at all f) (fact_at all g)
  terms_never_meet never s r e = never s r (terms_one all s r f g e)

  pub heads_have_no_unifier : (head_of f ≡ head_of g → ⊥) → HaveNoUnifier (fact_at all f) (fact_at all g)
  heads_have_no_unifier apart s = heads_never_meet apart s s

  pub terms_have_no_unifier : HaveNoUnifierOfAll (map (tree_at all) (terms_of f)) (map (tree_at all) (terms_of g)) → HaveNoUnifier (fact_at all f) (fact_at all g)
  terms_have_no_unifier none s e = none s (terms_one all s s f g e)

  pub terms_unify : (s : Subst) → head_of f ≡ head_of g → IsMguOfAll (map (tree_at all) (terms_of f)) (map (tree_at all) (terms_of g)) s → IsMguOfFacts (fact_at all f) (fact_at all g) s
  terms_unify s heads m = record {
    accepted = facts_one all s f g heads m.accepted;
    most = λ r e. m.most r (terms_one all r r f g e);
  }

-- what is told of the lists of terms tells of the facts
pub terms_tell : (all : List Term) (f g : Fact Id) (lefts rights : List Id) (s : Subst) (result : Result Bool AllocError) → lefts ≡ terms_of f → rights ≡ terms_of g → head_of f ≡ head_of g
    → IfOk result (λ yes. MatchBool yes (IsMguOfAll (map (tree_at all) lefts) (map (tree_at all) rights) s) (HaveNoUnifierOfAll (map (tree_at all) lefts) (map (tree_at all) rights)))
    → IfOk result (λ yes. MatchBool yes (IsMguOfFacts (fact_at all f) (fact_at all g) s) (HaveNoUnifier (fact_at all f) (fact_at all g)))
terms_tell all f g lefts rights s (Ok true) l r heads told =
    terms_unify all f g s heads (subst (λ ids. IsMguOfAll (map (tree_at all) ids) (map (tree_at all) (terms_of g)) s) l (subst (λ ids. IsMguOfAll (map (tree_at all) lefts) (map (tree_at all) ids) s) r told))
terms_tell all f g lefts rights s (Ok false) l r heads told =
    terms_have_no_unifier all f g (subst (λ ids. HaveNoUnifierOfAll (map (tree_at all) ids) (map (tree_at all) (terms_of g))) l (subst (λ ids. HaveNoUnifierOfAll (map (tree_at all) lefts) (map (tree_at all) ids)) r told))
terms_tell all f g lefts rights s (Err e) l r heads told = tt

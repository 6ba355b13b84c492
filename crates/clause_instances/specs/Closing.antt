-- Terms closed, as contracts see it.
use Rattle.std.specs.Prelude.{◌≡◌, ℕ, ◌+◌, ◌-◌, Bool, true, false, not, nat_eq, Option, None, Some, List, ◌++◌, length, map, slice_get, unwrap_or}
use Rattle.std.specs.List.{list_all, list_any}
use Rattle.spec_trees.specs.Tree.{bind}
use Rattle.spec_terms.specs.Term.{Term, Subst}
use Rattle.spec_clauses.specs.Norm.{distinct}
use Rattle.spec_translation.specs.Visit.{is_large_term}
use Rattle.term_tree.specs.Bank.{tree_at, AreKnown}
use Rattle.term_tree.specs.declared.bank.Id.{Id}
use Rattle.clause_form.specs.Seen.{NameTerms}
use Rattle.spec_attack_runs.specs.Instance.{own_name, closing}
use Rattle.clause_instances.specs.declared.closing.Closing.{Closing}

-- the term for the variable of that place, from 0: one of the terms, and behind them the next names, from n on
abbrev pub term_for : List Term → ℕ → ℕ → Term
term_for terms n place = unwrap_or (slice_get terms place) (own_name (n + (place - length terms)))

-- the terms are those of these variables under the substitution
abbrev pub Closes : List Term → Closing → Subst → Type 0
Closes all made s = map (tree_at all) made.terms ≡ map s made.order

-- it is what closes these variables, where the first get these terms and each further one the next name, from n on
pub record IsClosing (all : List Term) (terms : List Term) (n : ℕ) (variables : List ℕ) (made : Closing) : Type 0 where
  pub order : made.order ≡ distinct nat_eq variables
  pub known : AreKnown all made.terms
  pub closes : Closes all made (closing terms n variables)

-- the terms under the substitution stand behind the earlier ones; and whether none of them is over the limit of size
pub record AddsClosed (old now : List Term) (s : Subst) (ts : List Term) (before after : List Id) (small : Bool) : Type 0 where
  pub are : map (tree_at now) after ≡ map (tree_at old) before ++ map (bind s) ts
  pub are_small : small ≡ list_all (λ t. not (is_large_term t)) (map (bind s) ts)

-- the ids name both lists of terms under the substitution, if none of these is over the limit of size
abbrev pub AreClosed : List Term → Subst → List Term → List Term → Option (List Id × List Id) → Type 0
AreClosed all s lefts rights (Some ids) = NameTerms all ids.0 (map (bind s) lefts) × NameTerms all ids.1 (map (bind s) rights) × (list_any is_large_term (map (bind s) lefts ++ map (bind s) rights) ≡ false)
AreClosed all s lefts rights None = list_any is_large_term (map (bind s) lefts ++ map (bind s) rights) ≡ true

-- the ids of both name trees
abbrev pub AreBothIn : List Term → Option (List Id × List Id) → Type 0
AreBothIn all (Some ids) = AreKnown all ids.0 × AreKnown all ids.1
AreBothIn all None = Unit {0}

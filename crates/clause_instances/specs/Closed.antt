-- Terms of clauses and actions, closed, as contracts see them.
use Rattle.std.specs.Prelude.{◌≡◌, ℕ, Bool, true, false, Option, None, Some, List, [], map}
use Rattle.std.specs.List.{list_any}
use Rattle.spec_trees.specs.Tree.{bind}
use Rattle.spec_terms.specs.Term.{Term, Subst}
use Rattle.spec_clauses.specs.Fact.{Clause, clause_terms}
use Rattle.spec_translation.specs.Visit.{is_large_term}
use Rattle.term_tree.specs.declared.bank.Id.{Id}
use Rattle.clause_form.specs.Seen.{NameTerms}
use Rattle.clause_instances.specs.Closing.{AreClosed}
use Rattle.spec_attack_runs.specs.Source.{Action, Reaches, Source, source_under}
use Rattle.spec_attack_runs.specs.Instance.{is_large_instance}
use Rattle.spec_attack_runs.specs.Attack.{supposed}
use Rattle.clause_instances.specs.declared.instance.Instance as made

-- whether one of the terms under the substitution is over the limit of size
abbrev pub some_large : Subst → List Term → Bool
some_large s ts = list_any is_large_term (map (bind s) ts)

-- the terms of the hypotheses, closed, if none of the clause's is over the limit of size
abbrev pub AreSupposed : List Term → Subst → Clause Term → Option (List Id) → Type 0
AreSupposed all s raw (Some ids) = NameTerms all ids (map (bind s) (supposed raw)) × (some_large s (clause_terms raw) ≡ false)
AreSupposed all s raw None = some_large s (clause_terms raw) ≡ true

-- the messages and the sessions
abbrev pub messages_of : Action → List Term
messages_of (Reaches way) = way.messages
messages_of other = []

abbrev pub sessions_of : Action → List Term
sessions_of (Reaches way) = way.sessions
sessions_of other = []

-- they are these, closed, if none of them is over the limit of size
abbrev pub AreOfWay : List Term → Subst → Action → Option (List Id × List Id) → Type 0
AreOfWay all s action found = AreClosed all s (messages_of action) (sessions_of action) found

-- the ids are those of the source, closed
pub record NamesClosed (all : List Term) (s : Subst) (source : Source) (index : ℕ) (ids : made.Instance) : Type 0 where
  pub source_is : ids.source ≡ index
  pub supposed_named : NameTerms all ids.supposed (map (bind s) (supposed source.raw))
  pub messages_named : NameTerms all ids.messages (map (bind s) (messages_of source.action))
  pub sessions_named : NameTerms all ids.sessions (map (bind s) (sessions_of source.action))
  pub small : is_large_instance (source_under s source) ≡ false

-- the instance, if none of its terms is over the limit of size
abbrev pub IsClosedSource : List Term → Subst → Source → ℕ → Option made.Instance → Type 0
IsClosedSource all s source index (Some ids) = NamesClosed all s source index ids
IsClosedSource all s source index None = is_large_instance (source_under s source) ≡ true

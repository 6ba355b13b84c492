-- Scopes over the ids of a bank, and the scopes of terms that they stand for.
use Rattle.std.specs.Prelude.{◌≡◌, cond, Option, Some, None, List, [], ◌∷◌, map, refl}
use Rattle.std.specs.Coded.{Coded, code_by, coded×, coded_list}
use Rattle.spec_calculus.specs.Syntax.{Name}
use Rattle.spec_calculus.specs.Codes.{coded_name}
use Rattle.spec_calculus.specs.Values.{same_name}
use Rattle.spec_terms.specs.Term.{Term}
use Rattle.spec_translation.specs.Conversion.{StandsFor, Scope}
use Rattle.term_tree.specs.Bank.{tree_at, AreKnown}
use Rattle.term_tree.specs.declared.bank.Id.{Id}
use Rattle.clause_form.specs.Codes.{coded_id}

-- a name that is bound, and the id of the term that it stands for
pub record Held : Type 0 where
  pub name : Name
  pub id : Id

abbrev pub coded_scope : Coded (List Held)
coded_scope = coded_list (code_by (Name × Id) (coded× coded_name coded_id) (λ h. (h.name, h.id)) (λ p. record { name = p.0; id = p.1 }) (λ _. refl))

-- the first of these that bears the name
abbrev pub id_in : List Held → Name → Option Id
id_in [] x = None
id_in (h ∷ later) x = cond (same_name h.name x) (Some h.id) (id_in later x)

-- the scope of the trees that the ids name
abbrev pub standing_at : List Term → Held → StandsFor
standing_at all h = record { name = h.name; term = tree_at all h.id }

abbrev pub scope_at : List Term → List Held → Scope
scope_at all scope = map (standing_at all) scope

-- each id of the scope names a tree
abbrev pub IsScopeIn : List Term → List Held → Type 0
IsScopeIn all scope = AreKnown all (map (λ h. h.id) scope)

-- the ids of the scope name the terms of that one
pub record NamesScope (all : List Term) (scope : List Held) (terms : Scope) : Type 0 where
  pub known : IsScopeIn all scope
  pub is : scope_at all scope ≡ terms

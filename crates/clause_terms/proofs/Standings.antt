-- Scopes over ids: what is found in them, and that they outlast growth.
use Rattle.std.proofs.Common.{◌≡◌, ◌<◌, Bool, true, false, cond, Some, None, List, [], ◌∷◌, ◌++◌, length, map, option_map, unwrap_or, refl, sym, ap, ◌∙◌, subst}
use Rattle.std.proofs.lemmas.List.{map-append}
use Rattle.spec_calculus.specs.Syntax.{Name}
use Rattle.spec_calculus.specs.Values.{same_name}
use Rattle.spec_terms.specs.Term.{Term}
use Rattle.spec_translation.specs.Conversion.{Scope, found_in, free_term, leaf_term}
use Rattle.pi_tree.specs.declared.slots.Slot.{Slot}
use Rattle.pi_tree.specs.declared.slots.Slot.TheVariants.{Var, Made}
use Rattle.pi_tree.specs.Slots.{name_of}
use Rattle.term_tree.specs.Bank.{tree_at, AreKnown, Names, Grows}
use Rattle.term_tree.specs.declared.bank.Id.{Id}
use Rattle.term_tree.proofs.BankLaws.{tree_at-grows, AreKnown-grows, AreKnown-append}
use Rattle.clause_terms.specs.Scopes.{Held, id_in, standing_at, scope_at, IsScopeIn, NamesScope}

-- what is found in a scope over ids names what is found in the scope of terms
pub id_in-found : (all : List Term) (scope : List Held) (x : Name) → option_map (tree_at all) (id_in scope x) ≡ found_in (scope_at all scope) x
id_in-found all [] x = refl
id_in-found all (h ∷ later) x = go (same_name h.name x) (id_in-found all later x) where
  go : (b : Bool) → option_map (tree_at all) (id_in later x) ≡ found_in (scope_at all later) x → option_map (tree_at all) (cond b (Some h.id) (id_in later x)) ≡ cond b (Some (tree_at all h.id)) (found_in (scope_at all later) x)
  go true e = refl
  go false e = e

pub id_in-known : (all : List Term) (scope : List Held) (x : Name) (id : Id) → IsScopeIn all scope → id_in scope x ≡ Some id → id.index < length all
id_in-known all [] x id known e = cc
id_in-known all (h ∷ later) x id known e = go (same_name h.name x) (λ f. id_in-known all later x id known.1 f) e where
  go : (b : Bool) → (id_in later x ≡ Some id → id.index < length all) → cond b (Some h.id) (id_in later x) ≡ Some id → id.index < length all
  go true others f = let same : h.id ≡ id = cc in subst (λ (i : Id). i.index < length all) same known.0
  go false others f = others f

-- a scope outlasts growth
pub IsScopeIn-grows : (a b : List Term) (scope : List Held) → Grows a b → IsScopeIn a scope → IsScopeIn b scope
IsScopeIn-grows a b scope grows known = AreKnown-grows a b (map (λ h. h.id) scope) grows known

pub scope_at-grows : (a b : List Term) (scope : List Held) → Grows a b → IsScopeIn a scope → scope_at b scope ≡ scope_at a scope
scope_at-grows a b [] grows known = refl
scope_at-grows a b (h ∷ later) grows known =
    let first = tree_at-grows a b h.id grows known.0 in
    let others = scope_at-grows a b later grows known.1 in λ i. record { name = h.name; term = first i } ∷ others i

pub NamesScope-grows : (a b : List Term) (scope : List Held) (terms : Scope) → Grows a b → NamesScope a scope terms → NamesScope b scope terms
NamesScope-grows a b scope terms grows names = record { known = IsScopeIn-grows a b scope grows names.known; is = scope_at-grows a b scope grows names.known ∙ names.is }

-- one name more, at the end
pub NamesScope-push : (all : List Term) (scope : List Held) (terms : Scope) (h : Held) (t : Term) → NamesScope all scope terms → Names all h.id t → NamesScope all (scope ++ h ∷ []) (terms ++ record { name = h.name; term = t } ∷ [])
NamesScope-push all scope terms h t names more = record {
  known = subst (λ (l : List Id). AreKnown all l) (sym (map-append (λ g. g.id) scope (h ∷ []))) (AreKnown-append all (map (λ g. g.id) scope) h.id names.known more.known);
  is = map-append (standing_at all) scope (h ∷ []) ∙ (ap (λ l. l ++ standing_at all h ∷ []) names.is ∙ ap (λ u. terms ++ record { name = h.name; term = u } ∷ []) more.is);
}

-- the term that a slot stands for
slot_term : (scope : Scope) (slot : Slot) → leaf_term scope (name_of slot) ≡ unwrap_or (found_in scope (name_of slot)) (free_term 0)
slot_term scope (Var i) = refl
slot_term scope (Made p) = refl

pub bound_named : (all : List Term) (scope : List Held) (slot : Slot) (id : Id) → IsScopeIn all scope → id_in scope (name_of slot) ≡ Some id → Names all id (leaf_term (scope_at all scope) (name_of slot))
bound_named all scope slot id known e = record {
  known = id_in-known all scope (name_of slot) id known e;
  is = sym (slot_term (scope_at all scope) slot ∙ ap (λ o. unwrap_or o (free_term 0)) (sym (id_in-found all scope (name_of slot)) ∙ ap (option_map (tree_at all)) e));
}

pub unbound : (all : List Term) (scope : List Held) (slot : Slot) → id_in scope (name_of slot) ≡ None → leaf_term (scope_at all scope) (name_of slot) ≡ free_term 0
unbound all scope slot e = slot_term (scope_at all scope) slot ∙ ap (λ o. unwrap_or o (free_term 0)) (sym (id_in-found all scope (name_of slot)) ∙ ap (option_map (tree_at all)) e)

-- Scopes of a bank that grows.
use Rattle.std.proofs.Common.{◌≡◌, ℕ, zero, suc, ◌<◌, List, [], ◌∷◌, length, map, get_or, refl, ◌∙◌, arith}
use Rattle.spec_terms.specs.Term.{Term}
use Rattle.spec_translation.specs.Conversion.{Scope}
use Rattle.term_tree.specs.Bank.{Grows}
use Rattle.term_tree.proofs.BankLaws.{Grows-length, tree_at-grows, AreKnown-grows}
use Rattle.clause_terms.specs.declared.scopes.Standing.{Standing}
use Rattle.clause_terms.specs.Scopes.{Held, scope_at, IsScopeIn, NamesScope}
use Rattle.clause_terms.specs.Slots.{held_of}

pub scope_known_at : (all : List Term) (scope : List Standing) (i : ℕ) (d : Standing) → IsScopeIn all (map held_of scope) → i < length scope → (get_or scope i d).term.index < length all
scope_known_at all [] i d known within = absurd (omega arith)
scope_known_at all (b ∷ scope) zero d known within = known.0
scope_known_at all (b ∷ scope) (suc i) d known within = scope_known_at all scope i d known.1 (omega arith)

pub scope_at-grows : (a b : List Term) (scope : List Held) → Grows a b → IsScopeIn a scope → scope_at b scope ≡ scope_at a scope
scope_at-grows a b [] grows known = refl
scope_at-grows a b (h ∷ scope) grows known =
    let first = tree_at-grows a b h.id grows known.0 in
    let others = scope_at-grows a b scope grows known.1 in λ i. record { name = h.name; term = first i } ∷ others i

pub IsScopeIn-grows : (a b : List Term) (scope : List Held) → Grows a b → IsScopeIn a scope → IsScopeIn b scope
IsScopeIn-grows a b scope grows known = AreKnown-grows a b (map (λ h. h.id) scope) grows known

pub NamesScope-grows : (a b : List Term) (scope : List Held) (terms : Scope) → Grows a b → NamesScope a scope terms → NamesScope b scope terms
NamesScope-grows a b scope terms grows names = record { known = IsScopeIn-grows a b scope grows names.known; is = scope_at-grows a b scope grows names.known ∙ names.is }

pub scope_known_later : (old now : List Term) (scope : List Standing) (i : ℕ) (d : Standing) → Grows old now → IsScopeIn old (map held_of scope) → i < length scope → (get_or scope i d).term.index < length now
scope_known_later old now scope i d grows known within =
    let here = scope_known_at old scope i d known within in
    let longer = Grows-length old now grows in omega arith

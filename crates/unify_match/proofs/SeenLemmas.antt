-- Bindings over the trees of a bank: how they are read, and that they stay as the bank grows.
use Rattle.std.proofs.Common.{◌≡◌, ℕ, ◌<◌, Bool, true, false, cond, nat_eq, Some, None, List, [], ◌∷◌, length, refl, sym, ap, ◌∙◌, subst, arith, reverse, drop, zero, suc}
use Rattle.spec_trees.specs.Tree.{bind}
use Rattle.spec_terms.specs.Term.{Term, has_var}
use Rattle.spec_terms.specs.Binding.{Binding, bound_to, AreDistinct, NeverLeadsBack, Leads, directly, by_way_of, Solves, resolved}
use Rattle.spec_terms.proofs.Replace.{some_none, some_same}
use Rattle.spec_terms.proofs.Resolve.{IsSound, resolved-solves}
use Rattle.spec_terms.proofs.Loops.{NeverLeadsBack-sound, IsSound-never}
use Rattle.term_tree.specs.Bank.{tree_at, Grows}
use Rattle.term_tree.specs.declared.bank.Id.{Id}
use Rattle.term_tree.proofs.BankLaws.{tree_at-grows, Grows-length}
use Rattle.unify_match.specs.declared.bound.Bound.{Bound}
use Rattle.unify_match.specs.Trail.{id_of, BindsOnce}
use Rattle.unify_match.specs.Seen.{seen, AreInBank, AreBindings, IsReady}

-- a bound variable has the tree of its id
pub bound_to-seen : (all : List Term) (pairs : List Bound) (x : ℕ) (id : Id) → id_of pairs x ≡ Some id → bound_to (seen all pairs) x ≡ Some (tree_at all id)
bound_to-seen all [] x id e = cc
bound_to-seen all (b ∷ bs) x id e = go (bound_to-seen all bs x id) (nat_eq x b.var) refl where
  go : (id_of bs x ≡ Some id → bound_to (seen all bs) x ≡ Some (tree_at all id)) → (c : Bool) → nat_eq x b.var ≡ c → bound_to (seen all (b ∷ bs)) x ≡ Some (tree_at all id)
  go older true same = rw same (ap (λ i. Some (tree_at all i)) (some_same (sym (ap (λ c. cond c (Some b.id) (id_of bs x)) same) ∙ e)))
  go older false other = rw other (older (sym (ap (λ c. cond c (Some b.id) (id_of bs x)) other) ∙ e))

-- and an unbound one has none
pub bound_to-seen_none : (all : List Term) (pairs : List Bound) (x : ℕ) → id_of pairs x ≡ None → bound_to (seen all pairs) x ≡ None
bound_to-seen_none all [] x e = refl
bound_to-seen_none all (b ∷ bs) x e = go (bound_to-seen_none all bs x) (nat_eq x b.var) refl where
  go : (id_of bs x ≡ None → bound_to (seen all bs) x ≡ None) → (c : Bool) → nat_eq x b.var ≡ c → bound_to (seen all (b ∷ bs)) x ≡ None
  go older true same = absurd (some_none (sym (ap (λ c. cond c (Some b.id) (id_of bs x)) same) ∙ e))
  go older false other = rw other (older (sym (ap (λ c. cond c (Some b.id) (id_of bs x)) other) ∙ e))

-- what a variable is bound to is in the bank
pub AreInBank-at : (all : List Term) (pairs : List Bound) (x : ℕ) (id : Id) → AreInBank all pairs → id_of pairs x ≡ Some id → id.index < length all
AreInBank-at all [] x id known e = cc
AreInBank-at all (b ∷ bs) x id known e = go (AreInBank-at all bs x id known.1) (nat_eq x b.var) refl where
  go : (id_of bs x ≡ Some id → id.index < length all) → (c : Bool) → nat_eq x b.var ≡ c → id.index < length all
  go older true same = let is : b.id ≡ id = some_same (sym (ap (λ c. cond c (Some b.id) (id_of bs x)) same) ∙ e) in subst (λ (i : Id). i.index < length all) is known.0
  go older false other = older (sym (ap (λ c. cond c (Some b.id) (id_of bs x)) other) ∙ e)

pub IsReady-sound : (all : List Term) (pairs : List Bound) → IsReady all pairs → IsSound (seen all pairs)
IsReady-sound all pairs ready = NeverLeadsBack-sound (seen all pairs) ready.acyclic

-- what ready bindings stand for is a solution of them
pub IsReady-solves : (all : List Term) (pairs : List Bound) → IsReady all pairs → Solves (resolved (seen all pairs)) (seen all pairs)
IsReady-solves all pairs ready = resolved-solves (seen all pairs) (IsReady-sound all pairs ready)

-- one more binding, of a variable that does not stand in what its term stands for
pub IsReady-bind : (all : List Term) (pairs : List Bound) (b : Bound) → IsReady all pairs → b.id.index < length all → id_of pairs b.var ≡ None
    → has_var b.var (bind (resolved (seen all pairs)) (tree_at all b.id)) ≡ false → IsReady all (b ∷ pairs)
IsReady-bind all pairs b ready known unbound absent = record {
  known = (known, ready.known);
  acyclic = IsSound-never (seen all (b ∷ pairs)) (bound_to-seen_none all pairs b.var unbound, absent, IsReady-sound all pairs ready);
}

-- one more binding, for matching
pub AreBindings-bind : (all : List Term) (pairs : List Bound) (b : Bound) → AreBindings all pairs → b.id.index < length all → id_of pairs b.var ≡ None → AreBindings all (b ∷ pairs)
AreBindings-bind all pairs b were known unbound = record { known = (known, were.known); once = (bound_to-seen_none all pairs b.var unbound, were.once) }

-- bindings are seen the same as the bank grows
pub seen-grows : (old new : List Term) (pairs : List Bound) → Grows old new → AreInBank old pairs → seen new pairs ≡ seen old pairs
seen-grows old new [] grows known = refl
seen-grows old new (b ∷ bs) grows known =
    let here : tree_at new b.id ≡ tree_at old b.id = tree_at-grows old new b.id grows known.0 in
    let others : seen new bs ≡ seen old bs = seen-grows old new bs grows known.1 in
    λ i. record { var = b.var; to = here i } ∷ others i

pub AreInBank-grows : (old new : List Term) (pairs : List Bound) → Grows old new → AreInBank old pairs → AreInBank new pairs
AreInBank-grows old new [] grows known = tt
AreInBank-grows old new (b ∷ bs) grows known = let longer = Grows-length old new grows in let here = known.0 in (omega arith, AreInBank-grows old new bs grows known.1)

pub IsReady-grows : (old new : List Term) (pairs : List Bound) → Grows old new → IsReady old pairs → IsReady new pairs
IsReady-grows old new pairs grows ready = record {
  known = AreInBank-grows old new pairs grows ready.known;
  acyclic = subst (λ (bs : List Binding). NeverLeadsBack bs) (sym (seen-grows old new pairs grows ready.known)) ready.acyclic;
}

pub AreBindings-grows : (old new : List Term) (pairs : List Bound) → Grows old new → AreBindings old pairs → AreBindings new pairs
AreBindings-grows old new pairs grows were = record {
  known = AreInBank-grows old new pairs grows were.known;
  once = subst (λ (bs : List Binding). AreDistinct bs) (sym (seen-grows old new pairs grows were.known)) were.once;
}

-- no bindings are ready, over any bank
no_lead : (x y : ℕ) → Leads [] x y → ⊥
no_lead x y (directly e here) = some_none (sym e)
no_lead x y (by_way_of e here onward) = some_none (sym e)

pub none_ready : (all : List Term) (items : List Bound) → items ≡ [] → IsReady all (reverse items)
none_ready all items e = subst (λ (bs : List Bound). IsReady all (reverse bs)) (sym e) record { known = tt; acyclic = record { once = tt; never = λ x loop. no_lead x x loop } }

pub none_bound : (all : List Term) (items : List Bound) → items ≡ [] → AreBindings all (reverse items)
none_bound all items e = subst (λ (bs : List Bound). AreBindings all (reverse bs)) (sym e) record { known = tt; once = tt }

-- bindings that bind each variable once do so with their trees
pub seen-once : (all : List Term) (pairs : List Bound) → BindsOnce pairs → AreDistinct (seen all pairs)
seen-once all [] h = tt
seen-once all (b ∷ bs) h = (bound_to-seen_none all bs b.var h.0, seen-once all bs h.1)

-- what is left of bindings
pub IsReady-drop : (all : List Term) (n : ℕ) (pairs : List Bound) → IsReady all pairs → IsReady all (drop n pairs)
IsReady-drop all zero pairs ready = ready
IsReady-drop all (suc n) [] ready = ready
IsReady-drop all (suc n) (b ∷ bs) ready = IsReady-drop all n bs record {
  known = ready.known.1;
  acyclic = IsSound-never (seen all bs) (NeverLeadsBack-sound (seen all (b ∷ bs)) ready.acyclic).2;
}

pub AreBindings-drop : (all : List Term) (n : ℕ) (pairs : List Bound) → AreBindings all pairs → AreBindings all (drop n pairs)
AreBindings-drop all zero pairs were = were
AreBindings-drop all (suc n) [] were = were
AreBindings-drop all (suc n) (b ∷ bs) were = AreBindings-drop all n bs record { known = were.known.1; once = were.once.1 }

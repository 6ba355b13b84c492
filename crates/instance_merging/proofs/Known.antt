-- Ids of terms and of instances that are of a bank, also as it grows, and bindings that stay ready.
use Rattle.std.proofs.Common.{◌≡◌, ℕ, zero, suc, ◌<◌, List, [], ◌∷◌, ◌++◌, length, get_or, take, sym, subst, arith}
use Rattle.spec_clauses.proofs.Lists.{all_append}
use Rattle.spec_terms.specs.Term.{Term}
use Rattle.term_tree.specs.Bank.{AreKnown, Grows}
use Rattle.term_tree.specs.declared.bank.Id.{Id}
use Rattle.unify_match.proofs.SeenLemmas.{IsReady-grows}
use Rattle.clause_instances.specs.declared.instance.Instance.{Instance}
use Rattle.clause_instances.specs.Instances.{IsKnownInstance, AreKnownInstances}
use Rattle.clause_instances.proofs.Growing.{AreKnownInstances-grow}
use Rattle.instance_merging.specs.declared.opening.Change.{Change}
use Rattle.instance_merging.specs.declared.opening.Change.TheVariants.{Into, Under}
use Rattle.instance_merging.specs.Changes.{IsReadyChange}

pub change-grows : (a b : List Term) (change : Change) → Grows a b → IsReadyChange a change → IsReadyChange b change
change-grows a b (Into form) grows ready = tt
change-grows a b (Under binds) grows ready = IsReady-grows a b binds.now.pairs grows ready

pub instance-grows : (a b : List Term) (x : Instance) → Grows a b → IsKnownInstance a x → IsKnownInstance b x
instance-grows a b x grows known = (AreKnownInstances-grow a b (x ∷ []) grows (known, tt)).0

module _ (all : List Term) where
  pub first_known : (count : ℕ) (ids : List Id) → AreKnown all ids → AreKnown all (take count ids)
  first_known zero ids known = tt
  first_known (suc count) [] known = tt
  first_known (suc count) (id ∷ ids) known = (known.0, first_known count ids known.1)

  pub instance_at : (xs : List Instance) (i : ℕ) (x : Instance) → AreKnownInstances all xs → i < length xs → x ≡ get_or xs i x → IsKnownInstance all x
  instance_at [] i x known within is = absurd (omega arith)
  instance_at (y ∷ ys) zero x known within is = subst (IsKnownInstance all) (sym is) known.0
  instance_at (y ∷ ys) (suc i) x known within is = instance_at ys i x known.1 (omega arith) is

  pub one_more : (xs new : List Instance) (x : Instance) → AreKnownInstances all xs → IsKnownInstance all x → new ≡ xs ++ x ∷ [] → AreKnownInstances all new
  one_more xs new x known one e = subst (AreKnownInstances all) (sym e) (all_append (IsKnownInstance all) xs (x ∷ []) known (one, tt))

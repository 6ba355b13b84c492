-- The table of bindings against their trail.
use Rattle.std.proofs.Common.{◌≡◌, ℕ, zero, suc, ◌+◌, ◌<◌, Bool, true, false, cond, nat_eq, Some, None, List, [], ◌∷◌, ◌++◌, length, drop, reverse, refl, sym, ap, ◌∙◌, arith, eqb-true, eq-eqb, Result, Ok, Err, IsOk, OnOk, is_ok, if◌then◌else◌}
use Rattle.std.proofs.lemmas.Bool.{false≢true}
use Rattle.std.proofs.lemmas.List.{reverse-append}
use Rattle.std.specs.HashMap.{HashMap, get}
use Rattle.std.specs.declared.hash.BuildHasherDefault.{BuildHasherDefault}
use Rattle.std.specs.declared.hash.FoldHasher.{FoldHasher}
use Rattle.term_tree.specs.declared.bank.Id.{Id}
use Rattle.unify_match.specs.declared.bound.Bound.{Bound}
use Rattle.unify_match.specs.Trail.{id_of}
use Rattle.unify_match.specs.Table.{IsTableOf}

pub eqb_flip : (x y : ℕ) → nat_eq x y ≡ nat_eq y x
eqb_flip x y = go (nat_eq x y) refl (nat_eq y x) refl where
  go : (a : Bool) → nat_eq x y ≡ a → (b : Bool) → nat_eq y x ≡ b → nat_eq x y ≡ nat_eq y x
  go true p true q = cc
  go false p false q = cc
  go true p false q = let same : nat_eq y x ≡ true = eq-eqb y x (sym (eqb-true x y p)) in cc
  go false p true q = let same : nat_eq x y ≡ true = eq-eqb x y (sym (eqb-true y x q)) in cc

-- the last of a list is the first of its reverse
pub reverse-last : {X : Type 0} (xs : List X) (x : X) → reverse (xs ++ x ∷ []) ≡ x ∷ reverse xs
reverse-last xs x = reverse-append xs (x ∷ [])

-- the table with one more binding
pub IsTableOf-bind : (pairs : List Bound) (old new : HashMap ℕ Id (BuildHasherDefault FoldHasher)) (b : Bound) → IsTableOf pairs old → id_of pairs b.var ≡ None
    → ((q : ℕ) → get nat_eq new q ≡ cond (nat_eq b.var q) (Some b.id) (get nat_eq old q)) → IsTableOf (b ∷ pairs) new
IsTableOf-bind pairs old new b was unbound updates = record {
  once = (unbound, was.once);
  found = λ x. updates x ∙ (ap (λ t. cond t (Some b.id) (get nat_eq old x)) (eqb_flip b.var x) ∙ ap (λ o. cond (nat_eq x b.var) (Some b.id) o) (was.found x));
}

-- the table with its newest binding taken out
pub IsTableOf-take_back : (pairs : List Bound) (old new : HashMap ℕ Id (BuildHasherDefault FoldHasher)) (b : Bound) → IsTableOf (b ∷ pairs) old
    → ((q : ℕ) → get nat_eq new q ≡ cond (nat_eq b.var q) None (get nat_eq old q)) → IsTableOf pairs new
IsTableOf-take_back pairs old new b was updates = record {
  once = was.once.1;
  found = λ x. updates x ∙ at x (nat_eq b.var x) refl;
} where
  at : (x : ℕ) (t : Bool) → nat_eq b.var x ≡ t → cond (nat_eq b.var x) None (get nat_eq old x) ≡ id_of pairs x
  at x true same = let var : b.var ≡ x = eqb-true b.var x same in rw same (sym (ap (id_of pairs) (sym var) ∙ was.once.0))
  at x false other = rw other (was.found x ∙ ap (λ t. cond t (Some b.id) (id_of pairs x)) (sym (eqb_flip b.var x) ∙ other))

-- dropping one more
pub drop-one : {X : Type 0} (xs : List X) (n : ℕ) → n < length xs → drop 1 (drop n xs) ≡ drop (n + 1) xs
drop-one [] n h = absurd (omega arith)
drop-one (x ∷ xs) zero h = refl
drop-one (x ∷ xs) (suc n) h = let e : suc n + 1 ≡ suc (n + 1) = omega arith in rw e (drop-one xs n (omega arith))

-- what holds on success holds where there is success
pub on_ok : {T E : Type 0} (r : Result T E) (P : Type 0) → IsOk r → OnOk r P → P
on_ok (Ok v) P h p = p
on_ok (Err e) P h p = absurd (false≢true h)

pub if_ok : {T E X : Type 0} (r : Result T E) (x y : X) → IsOk r → (if is_ok r then x else y) ≡ x
if_ok (Ok v) x y h = refl
if_ok (Err e) x y h = absurd (false≢true h)

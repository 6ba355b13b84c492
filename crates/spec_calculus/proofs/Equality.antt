-- Equality of values is decided.
use Rattle.std.proofs.Common.{◌≡◌, true, nat_eq, IsTrue, ◌↔◌, refl, ap, subst}
use Rattle.std.proofs.lemmas.Bool.{eq-eqb, eqb-true}
use Rattle.spec_trees.proofs.Equality.{and_true, same_tree-sound, same_tree-refl}
use Rattle.spec_calculus.specs.Syntax.{Symbol, Constructor, Tuple}
use Rattle.spec_calculus.specs.Values.{Atom, FreeName, MadeName, AttackerName, Value, same_symbol, same_atom, same_value}

pub same_symbol-sound : (f g : Symbol) → same_symbol f g ≡ true → f ≡ g
same_symbol-sound (Constructor m) (Constructor n) h = ap Constructor (eqb-true m n h)
same_symbol-sound (Constructor m) Tuple h = cc
same_symbol-sound Tuple (Constructor n) h = cc
same_symbol-sound Tuple Tuple h = refl

pub same_symbol-refl : (f : Symbol) → same_symbol f f ≡ true
same_symbol-refl (Constructor m) = eq-eqb m m refl
same_symbol-refl Tuple = refl

pub same_atom-sound : (x y : Atom) → same_atom x y ≡ true → x ≡ y
same_atom-sound (FreeName m) (FreeName n) h = ap FreeName (eqb-true m n h)
same_atom-sound (FreeName m) (MadeName q n) h = cc
same_atom-sound (FreeName m) (AttackerName n) h = cc
same_atom-sound (MadeName p m) (FreeName n) h = cc
same_atom-sound (MadeName p m) (MadeName q n) h =
    let parts = and_true (nat_eq p q) (nat_eq m n) h in
    cc (eqb-true p q parts.0, eqb-true m n parts.1)
same_atom-sound (MadeName p m) (AttackerName n) h = cc
same_atom-sound (AttackerName m) (FreeName n) h = cc
same_atom-sound (AttackerName m) (MadeName q n) h = cc
same_atom-sound (AttackerName m) (AttackerName n) h = ap AttackerName (eqb-true m n h)

pub same_atom-refl : (x : Atom) → same_atom x x ≡ true
same_atom-refl (FreeName m) = eq-eqb m m refl
same_atom-refl (MadeName p m) = let a = eq-eqb p p refl in let b = eq-eqb m m refl in cc
same_atom-refl (AttackerName m) = eq-eqb m m refl

-- the test is true exactly of equal values
pub same_value-sound : (v w : Value) → same_value v w ≡ true → v ≡ w
same_value-sound v w h = same_tree-sound same_atom same_symbol same_atom-sound same_symbol-sound v w h

pub same_value-refl : (v : Value) → same_value v v ≡ true
same_value-refl v = same_tree-refl same_atom same_symbol same_atom-refl same_symbol-refl v

pub same_value_is_equality : (v w : Value) → IsTrue (same_value v w) ↔ (v ≡ w)
same_value_is_equality v w = (same_value-sound v w, λ e. let P : Value → Type 0 = λ x. same_value v x ≡ true in subst P e (same_value-refl v))

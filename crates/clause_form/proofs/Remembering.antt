-- What is remembered stays so as the bank grows.
use Rattle.std.proofs.Common.{ℕ, zero, suc, Option, Some, None, Result, Ok, Err, OnOk, List, replicate, sym, subst, arith}
use Rattle.spec_trees.specs.Tree.{bind}
use Rattle.spec_terms.specs.Term.{Term, Subst}
use Rattle.spec_clauses.proofs.Lists.{all_weaker}
use Rattle.term_tree.specs.Bank.{tree_at, Names, Grows}
use Rattle.term_tree.proofs.BankLaws.{Grows-length, tree_at-grows, Names-grows}
use Rattle.clause_form.specs.declared.memo.Change.{Change}
use Rattle.clause_form.specs.Remembered.{IsRemembered, AreRemembered}

-- nothing is remembered
pub none_remembered : (all : List Term) (s : Subst) (n : ℕ) → AreRemembered all s (replicate n None)
none_remembered all s zero = tt
none_remembered all s (suc n) = (tt, none_remembered all s n)

change_grows : (old new : List Term) (s : Subst) (c : Option Change) → Grows old new → IsRemembered old s c → IsRemembered new s c
change_grows old new s None grows was = tt
change_grows old new s (Some c) grows was = (
  omega (arith, was.0, Grows-length old new grows),
  subst (λ (t : Term). Names new c.made (bind s t)) (sym (tree_at-grows old new c.term grows was.0)) (Names-grows old new c.made (bind s (tree_at old c.term)) grows was.1),
)

pub remembered_grow : (old new : List Term) (s : Subst) (changes : List (Option Change)) → Grows old new → AreRemembered old s changes → AreRemembered new s changes
remembered_grow old new s changes grows was = all_weaker (IsRemembered old s) (IsRemembered new s) (λ c one. change_grows old new s c grows one) changes was

-- what holds in any case holds where there is no error
pub on_ok : {X E P : Type 0} (r : Result X E) → P → OnOk r P
on_ok (Ok x) p = p
on_ok (Err e) p = tt

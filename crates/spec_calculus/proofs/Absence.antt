-- A private free name that no term of the process holds is never known.
use Rattle.std.proofs.Common.{◌≡◌, ℕ, zero, suc, ◌+◌, Bool, true, false, not, nat_eq, cond, List, [], ◌∷◌, None, Some, IfSome, slice_get, filter_map, refl, ap, ◌∙◌, arith}
use Rattle.std.proofs.Math.Dec.{eqb-zero-suc}
use Rattle.std.proofs.lemmas.Bool.{eq-eqb, eqb-true}
use Rattle.std.specs.List.{AllByRecursion, cons_option, enumerate_from}
use Rattle.spec_trees.specs.Tree.{Leaf, some_leaf}
use Rattle.spec_trees.proofs.Occurrence.{some_leaf-bind}
use Rattle.spec_trees.proofs.Equality.{and_true}
use Rattle.spec_calculus.specs.Syntax.{Name, Free, Declared, Protocol, Query, Secret}
use Rattle.spec_calculus.specs.Values.{Atom, FreeName, MadeName, AttackerName, value_of_name, value_of}
use Rattle.spec_calculus.specs.Runs.{Configuration, Step, Fresh, Make, public_name, start, run}
use Rattle.spec_calculus.specs.Secrecy.{Holds}
use Rattle.spec_calculus.specs.Absence.{is_free, process_holds, is_private, is_absent_name, IsAbsent}
use Rattle.spec_calculus.proofs.Items.{each-contains, if_some-is}
use Rattle.spec_calculus.proofs.Leaves.{leaf_found}
use Rattle.spec_calculus.proofs.Steps.{steps_keep}
use Rattle.spec_calculus.proofs.Points.{is_private-add-one}
use Rattle.spec_calculus.specs.Standing.{Lacks, IsLacking}
use Rattle.spec_calculus.proofs.Lacking.{MakesNone, step_lacks}

-- whether a name in a value is the free name of that number
abbrev is_free_atom : ℕ → Atom → Bool
is_free_atom i (FreeName n) = nat_eq n i
is_free_atom i (MadeName q n) = false
is_free_atom i (AttackerName n) = false

-- the public names that are numbered from k on lack a name that none of them is
public_names_lack : (i k : ℕ) (frees : List Declared) → ((index : ℕ) (d : Declared) → slice_get frees index ≡ Some d → d.public ≡ true → nat_eq (k + index) i ≡ false) → AllByRecursion (Lacks (is_free_atom i)) (filter_map public_name (enumerate_from k frees))
public_names_lack i k [] h = tt
public_names_lack i k (d ∷ frees) h =
    let others : AllByRecursion (Lacks (is_free_atom i)) (filter_map public_name (enumerate_from (k + 1) frees)) =
    public_names_lack i (k + 1) frees (λ index e at public. let next : k + suc index ≡ (k + 1) + index = omega arith in rw (← next) (h (suc index) e at public)) in
    let here : d.public ≡ true → nat_eq k i ≡ false = λ public. let first : k + 0 ≡ k = omega arith in rw first at (h 0 d refl public) in
    go d.public here others
  where
    go : (public : Bool) → (public ≡ true → nat_eq k i ≡ false) → AllByRecursion (Lacks (is_free_atom i)) (filter_map public_name (enumerate_from (k + 1) frees)) → AllByRecursion (Lacks (is_free_atom i)) (cons_option (cond public (Some (Leaf (FreeName k))) None) (filter_map public_name (enumerate_from (k + 1) frees)))
    go true here others = (here refl, others)
    go false here others = others

-- a private name isn't among the public ones
private_is_not_public : (frees : List Declared) (i index : ℕ) (d : Declared) → is_private frees i ≡ true → slice_get frees index ≡ Some d → d.public ≡ true → nat_eq (1 + index) i ≡ false
private_is_not_public frees i index d private at public = go (nat_eq (1 + index) i) refl
  where
    go : (b : Bool) → nat_eq (1 + index) i ≡ b → nat_eq (1 + index) i ≡ false
    go false e = e
    go true e =
        let same : 1 + index ≡ i = eqb-true (1 + index) i e in
        let swapped : index + 1 ≡ i = omega arith in
        let shown : is_private frees i ≡ not d.public = rw (← swapped) (is_private-add-one frees index d at) in
        let none : is_private frees i ≡ false = shown ∙ ap not public in cc

start_lacks : (P : Protocol) (i : ℕ) → is_private P.frees i ≡ true → IsLacking (is_free_atom i) (start P)
start_lacks P i private = record {
  known = public_names_lack i 1 P.frees (λ index d at public. private_is_not_public P.frees i index d private at public);
  threads = (tt, tt);
  events = tt;
  entries = tt;
}

-- no number of a private name is 0
private_number : (frees : List Declared) (i : ℕ) → is_private frees i ≡ true → nat_eq 0 i ≡ false
private_number frees zero h = cc
private_number frees (suc i) h = eqb-zero-suc i

-- no step makes a free name
makes_no_free : (i : ℕ) (c : Configuration) (step : Step) → MakesNone (is_free_atom i) c step
makes_no_free i c Fresh = refl
makes_no_free i c (Make j) = λ q. refl
makes_no_free i c step = tt

-- each run's values lack a private free name that the process lacks
pub run_lacks : (P : Protocol) (i : ℕ) → is_private P.frees i ≡ true → process_holds i P.main ≡ false → (steps : List Step) → IfSome (run P steps) (IsLacking (is_free_atom i))
run_lacks P i private absent steps =
    steps_keep P (IsLacking (is_free_atom i))
    (λ c step h. step_lacks (is_free_atom i) (is_free i) (λ n k. k) (private_number P.frees i private) P absent c step (makes_no_free i c step) h)
    steps (start P) (start_lacks P i private)

not_true : (b : Bool) → not b ≡ true → b ≡ false
not_true true h = cc
not_true false h = refl

nat_eq-refl : (n : ℕ) → nat_eq n n ≡ true
nat_eq-refl n = eq-eqb n n refl

-- the law: what is absent is secret
pub absent_is_secret : (P : Protocol) (q : Query) → IsAbsent P q → Holds P q
absent_is_secret P (Secret message phase) h steps c is (known, up_to) =
    let found = leaf_found (is_absent_name P) message h in go found.0 found.1 found.2
  where
    go : (x : Name) → is_absent_name P x ≡ true → ((q : Name → Bool) → q x ≡ true → some_leaf q message ≡ true) → ⊥
    go (Free i) absent stands =
        let parts = and_true (is_private P.frees i) (not (process_holds i P.main)) absent in
        let lacking = if_some-is (IsLacking (is_free_atom i)) (run P steps) c (run_lacks P i parts.0 (not_true (process_holds i P.main) parts.1) steps) is in
        let without : some_leaf (is_free_atom i) (value_of [] message) ≡ false = each-contains (Lacks (is_free_atom i)) c.known (value_of [] message) lacking.known known in
        let with_it : some_leaf (λ x. some_leaf (is_free_atom i) (value_of_name [] x)) message ≡ true = stands (λ x. some_leaf (is_free_atom i) (value_of_name [] x)) (nat_eq-refl i) in
        let same = some_leaf-bind (is_free_atom i) (value_of_name []) message in cc
    go x absent stands = cc
absent_is_secret P q h steps c is known = cc

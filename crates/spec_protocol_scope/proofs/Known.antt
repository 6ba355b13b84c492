-- The terms that the rules of scope give are over what is declared and bound.
use Rattle.std.proofs.Common.{◌≡◌, ℕ, suc, ◌+◌, ◌<◌, ◌≤◌, Bool, true, false, nat_eq, List, [], ◌∷◌, ◌++◌, length, map, Contains, Option, None, Some, Ok, refl, subst, ◌∙◌, sym, arith, if◌then◌else◌}
use Rattle.std.specs.List.{AllByRecursion}
use Rattle.spec_trees.specs.Tree.{Tree, Leaf, node, trees, size}
use Rattle.spec_calculus.specs.Bounds.{most_written_symbols}
use Rattle.spec_calculus.specs.Syntax.{Name, Free, Made, Variable, Symbol, Constructor, Tuple, Term}
use Rattle.spec_calculus.proofs.Items.{each-append}
use Rattle.spec_well_formed.specs.Signature.{Signature}
use Rattle.spec_well_formed.specs.Leaves.{leaves, leaves_of}
use Rattle.spec_well_formed.specs.Rules.{IsVariable}
use Rattle.spec_well_formed.specs.Queries.{IsFreeOrVariable}
use Rattle.spec_well_formed.specs.Terms.{row_length, EachSymbolInRow, HasArity, TakesArguments, IsTermOver, IsKnown}
use Rattle.spec_protocol_scope.specs.Answers.{Answer, Kind, Unknown, Arity, LooseVariable, fault}
use Rattle.spec_protocol_scope.specs.Names.{signature_with, Scope, Texts, Meaning, MeansFree, MeansConstructor, MeansDestructor, MeansEvent, MeansTable, MeansMacro, look, variable_of, Bound, bound_as, same_text}
use Rattle.spec_protocol_scope.specs.Terms as rules
use Rattle.spec_protocol_scope.specs.Terms.{Setting, InProcess, OnLeft, OnRight, InEvent}
use Rattle.spec_protocol_scope.proofs.Stepped.{stepped, passed, faulty, found_one}
use Rattle.spec_protocol_scope.proofs.Terms.{HoldsByForm, equal}
use Rattle.spec_protocol_scope.proofs.Meanings.{is_meant}

pub row_length-trees : {L S : Type 0} (ts : List (Tree L S)) → row_length (trees ts) ≡ length ts
row_length-trees [] = refl
row_length-trees (t ∷ ts) = let e = row_length-trees ts in omega arith

-- terms by their parts
module _ (signature : Signature) (IsLeaf : Name → Type 0) where
  pub rows_known : (ts : List Term) → AllByRecursion (IsTermOver signature IsLeaf) ts → AllByRecursion IsLeaf (leaves_of ts)
  rows_known [] h = tt
  rows_known (t ∷ ts) h = each-append IsLeaf (leaves t) (leaves_of ts) h.0.known (rows_known ts h.1)

  pub rows_arities : (ts : List Term) → AllByRecursion (IsTermOver signature IsLeaf) ts → EachSymbolInRow (TakesArguments signature) (trees ts)
  rows_arities [] h = tt
  rows_arities (t ∷ ts) h = (h.0.arities, rows_arities ts h.1)

  pub over_node : (f : Symbol) (ts : List Term) → TakesArguments signature f (length ts) → size (node f ts) ≤ most_written_symbols → AllByRecursion (IsTermOver signature IsLeaf) ts → IsTermOver signature IsLeaf (node f ts)
  over_node f ts takes small h = record {
    known = rows_known ts h;
    arities = (subst (TakesArguments signature f) (sym (row_length-trees ts)) takes, rows_arities ts h);
    few = small;
  }

  pub over_leaf : (x : Name) → IsLeaf x → IsTermOver signature IsLeaf (Leaf x)
  over_leaf x h = record { known = (h, tt); arities = tt; few = omega arith }

  pub over_constant : (number : ℕ) → HasArity signature.constructors number 0 → IsTermOver signature IsLeaf (rules.constant number)
  over_constant number h = record { known = tt; arities = (h, tt); few = omega arith }

-- what a leaf of a term is where the term stands
abbrev pub IsLeafIn : Signature → Setting → Name → Type 0
IsLeafIn signature (InProcess bound) x = IsKnown signature (map (λ b. b.name) bound) x
IsLeafIn signature OnLeft x = IsVariable x
IsLeafIn signature OnRight x = IsVariable x
IsLeafIn signature InEvent x = IsFreeOrVariable signature x

-- no free name is bound
abbrev pub IsBindable : Name → Type 0
IsBindable (Free n) = ⊥
IsBindable (Made p) = Unit {0}
IsBindable (Variable i) = Unit {0}

abbrev pub BindsNoFree : Setting → Type 0
BindsNoFree (InProcess bound) = AllByRecursion (λ b. IsBindable b.name) bound
BindsNoFree OnLeft = Unit {0}
BindsNoFree OnRight = Unit {0}
BindsNoFree InEvent = Unit {0}

-- an arity that was looked up
pub looked_arity : (s : Scope) (n number arity given : ℕ) (is_data : Bool) → look s n ≡ Some (MeansConstructor number arity is_data) → arity ≡ given → HasArity s.names.constructors number given
looked_arity s n number arity given is_data is e =
    let m = is_meant s.text s.names (s.text n) (MeansConstructor number arity is_data) is in
    record { declared = m.item; stands = m.stands; is = m.is.0 ∙ e }

pub contains_first : {A : Type 0} (x : A) (xs : List A) → Contains (x ∷ xs) x
contains_first x xs = (0, omega arith, refl)

pub contains_later : {A : Type 0} (y x : A) (xs : List A) → Contains xs x → Contains (y ∷ xs) x
contains_later y x xs (k, within, at) = (suc k, omega arith, at)

bound_known : (signature : Signature) (names : List Name) (x : Name) → IsBindable x → Contains names x → IsKnown signature names x
bound_known signature names (Free n) bindable h = absurd bindable
bound_known signature names (Made p) bindable h = h
bound_known signature names (Variable i) bindable h = h

-- what an identifier is bound to is bound
record BoundAs (bound : List Bound) (x : Name) : Type 0 where
  contains : Contains (map (λ b. b.name) bound) x
  bindable : IsBindable x

bound_is : (text : Texts) (bound : List Bound) (n : ℕ) (x : Name) → AllByRecursion (λ b. IsBindable b.name) bound → bound_as text bound n ≡ Some x → BoundAs bound x
bound_is text [] n x all e = absurd (let same = e in cc)
bound_is text (b ∷ outer) n x all e = by (same_text text b.token n) (λ h. bound_is text outer n x all.1 h) e
  where
    by : (test : Bool) → (bound_as text outer n ≡ Some x → BoundAs outer x) → (if test then Some b.name else bound_as text outer n) ≡ Some x → BoundAs (b ∷ outer) x
    by true later e = subst (BoundAs (b ∷ outer)) (let same : b.name ≡ x = (let s = e in cc) in same)
        (record { contains = contains_first b.name (map (λ b. b.name) outer); bindable = all.0 })
    by false later e = let l = later e in record { contains = contains_later b.name x (map (λ b. b.name) outer) l.contains; bindable = l.bindable }

module _ (s : Scope) where
  abbrev signature : Signature
  signature = signature_with s.names

  -- a declared leaf
  declared_over : (IsLeaf : Name → Type 0) (free : (k : ℕ) → (0 < k) × (k ≤ length s.names.frees) → IsLeaf (Free k)) (n : ℕ) (m : Meaning) (t : Term)
      → look s n ≡ Some m → rules.declared_leaf n m ≡ Ok t → IsTermOver signature IsLeaf t
  declared_over IsLeaf free n (MeansFree k) t is e =
      let m = is_meant s.text s.names (s.text n) (MeansFree k) is in
      subst (IsTermOver signature IsLeaf) (found_one (Leaf (Free k)) t e) (over_leaf signature IsLeaf (Free k) (free k m.within))
  declared_over IsLeaf free n (MeansConstructor k arity is_data) t is e =
      let p = passed (nat_eq arity 0) (rules.constant k) t (fault Arity n) (faulty Arity n) e in
      subst (IsTermOver signature IsLeaf) (sym p.1) (over_constant signature IsLeaf k (looked_arity s n k arity 0 is_data is (equal arity 0 p.0)))
  declared_over IsLeaf free n (MeansDestructor k arity) t is e = absurd (faulty Kind n t e)
  declared_over IsLeaf free n (MeansEvent k arity) t is e = absurd (faulty Kind n t e)
  declared_over IsLeaf free n (MeansTable k arity) t is e = absurd (faulty Kind n t e)
  declared_over IsLeaf free n MeansMacro t is e = absurd (faulty Kind n t e)

  unbound_over : (IsLeaf : Name → Type 0) (free : (k : ℕ) → (0 < k) × (k ≤ length s.names.frees) → IsLeaf (Free k)) (n : ℕ) (o : Option Meaning) (t : Term)
      → look s n ≡ o → rules.unbound o n ≡ Ok t → IsTermOver signature IsLeaf t
  unbound_over IsLeaf free n None t is e = absurd (faulty Unknown n t e)
  unbound_over IsLeaf free n (Some m) t is e = declared_over IsLeaf free n m t is e

  process_leaf_over : (bound : List Bound) (n : ℕ) (o : Option Name) (t : Term) → ((x : Name) → o ≡ Some x → BoundAs bound x)
      → rules.process_leaf o (look s n) n ≡ Ok t → IsTermOver signature (IsLeafIn signature (InProcess bound)) t
  process_leaf_over bound n (Some x) t at e =
      let b = at x refl in
      subst (IsTermOver signature (IsLeafIn signature (InProcess bound))) (found_one (Leaf x) t e)
      (over_leaf signature (IsLeafIn signature (InProcess bound)) x (bound_known signature (map (λ b. b.name) bound) x b.bindable b.contains))
  process_leaf_over bound n None t at e = unbound_over (IsLeafIn signature (InProcess bound)) (λ k h. h) n (look s n) t refl e

  -- a leaf of a rule
  variable_over : (IsLeaf : Name → Type 0) → ((i : ℕ) → IsLeaf (Variable i)) → (o : Option ℕ) (v : List ℕ) (n : ℕ) (read : Term × List ℕ) → rules.variable_by o v n ≡ Ok read → IsTermOver signature IsLeaf read.0
  variable_over IsLeaf all (Some k) v n read e =
      subst (λ (x : Term × List ℕ). IsTermOver signature IsLeaf x.0) (found_one (Leaf (Variable k), v) read e) (over_leaf signature IsLeaf (Variable k) (all k))
  variable_over IsLeaf all None v n read e =
      subst (λ (x : Term × List ℕ). IsTermOver signature IsLeaf x.0) (found_one (Leaf (Variable (length v + 1)), v ++ n ∷ []) read e) (over_leaf signature IsLeaf (Variable (length v + 1)) (all (length v + 1)))

  right_over : (o : Option ℕ) (v : List ℕ) (n : ℕ) (read : Term × List ℕ) → rules.known_variable o v n ≡ Ok read → IsTermOver signature IsVariable read.0
  right_over (Some k) v n read e =
      subst (λ (x : Term × List ℕ). IsTermOver signature IsVariable x.0) (found_one (Leaf (Variable k), v) read e) (over_leaf signature IsVariable (Variable k) tt)
  right_over None v n read e = absurd (faulty LooseVariable n read e)

  constant_of_over : (n : ℕ) (o : Option Meaning) (k : ℕ) → look s n ≡ o → rules.constant_of o ≡ Some k → HasArity s.names.constructors k 0
  constant_of_over n None k is e = absurd (let same = e in cc)
  constant_of_over n (Some (MeansConstructor number arity is_data)) k is e = by (nat_eq arity 0) (λ h. equal arity 0 h) e
    where
      by : (b : Bool) → (b ≡ true → arity ≡ 0) → (if b then Some number else None) ≡ Some k → HasArity s.names.constructors k 0
      by true zero e = subst (λ (j : ℕ). HasArity s.names.constructors j 0) (let same : number ≡ k = (let h = e in cc) in same)
          (looked_arity s n number arity 0 is_data is (zero refl))
      by false zero e = absurd (let same = e in cc)
  constant_of_over n (Some (MeansFree number)) k is e = absurd (let same = e in cc)
  constant_of_over n (Some (MeansDestructor number arity)) k is e = absurd (let same = e in cc)
  constant_of_over n (Some (MeansEvent number arity)) k is e = absurd (let same = e in cc)
  constant_of_over n (Some (MeansTable number arity)) k is e = absurd (let same = e in cc)
  constant_of_over n (Some MeansMacro) k is e = absurd (let same = e in cc)

  rule_leaf_over : (o : Option ℕ) (v : List ℕ) (other : Answer (Term × List ℕ)) (read : Term × List ℕ) → ((k : ℕ) → o ≡ Some k → HasArity s.names.constructors k 0)
      → (other ≡ Ok read → IsTermOver signature IsVariable read.0) → rules.rule_leaf o v other ≡ Ok read → IsTermOver signature IsVariable read.0
  rule_leaf_over (Some k) v other read constant by e =
      subst (λ (x : Term × List ℕ). IsTermOver signature IsVariable x.0) (found_one (rules.constant k, v) read e) (over_constant signature IsVariable k (constant k refl))
  rule_leaf_over None v other read constant by e = by e

  event_leaf_over : (n : ℕ) (o : Option Meaning) (v : List ℕ) (other : Answer (Term × List ℕ)) (read : Term × List ℕ) → look s n ≡ o
      → (other ≡ Ok read → IsTermOver signature (IsFreeOrVariable signature) read.0) → rules.event_leaf o v n other ≡ Ok read → IsTermOver signature (IsFreeOrVariable signature) read.0
  event_leaf_over n (Some m) v other read is by e =
      let a = stepped (rules.declared_leaf n m) _ read e in
      subst (λ (x : Term × List ℕ). IsTermOver signature (IsFreeOrVariable signature) x.0) (found_one (a.value, v) read a.later)
      (declared_over (IsFreeOrVariable signature) (λ k h. h) n m a.value is a.first)
  event_leaf_over n None v other read is by e = by e

  leaf_over : (setting : Setting) → BindsNoFree setting → (v : List ℕ) (n : ℕ) (read : Term × List ℕ) → rules.leaf s setting v n ≡ Ok read → IsTermOver signature (IsLeafIn signature setting) read.0
  leaf_over (InProcess bound) proper v n read e =
      let a = stepped (rules.process_leaf (bound_as s.text bound n) (look s n) n) _ read e in
      subst (λ (x : Term × List ℕ). IsTermOver signature (IsLeafIn signature (InProcess bound)) x.0) (found_one (a.value, v) read a.later)
      (process_leaf_over bound n (bound_as s.text bound n) a.value (λ x h. bound_is s.text bound n x proper h) a.first)
  leaf_over OnLeft proper v n read e = rule_leaf_over (rules.constant_of (look s n)) v (rules.variable s v n) read (λ k h. constant_of_over n (look s n) k refl h)
      (λ h. variable_over IsVariable (λ i. tt) (variable_of s.text v n) v n read h) e
  leaf_over OnRight proper v n read e = rule_leaf_over (rules.constant_of (look s n)) v (rules.known_variable (variable_of s.text v n) v n) read (λ k h. constant_of_over n (look s n) k refl h)
      (λ h. right_over (variable_of s.text v n) v n read h) e
  leaf_over InEvent proper v n read e = event_leaf_over n (look s n) v (rules.variable s v n) read refl
      (λ h. variable_over (IsFreeOrVariable signature) (λ i. tt) (variable_of s.text v n) v n read h) e

  -- the term is over what is declared and bound where it stands
  abbrev pub Over : Setting → List ℕ → Term → List ℕ → Type 0
  Over setting v t w = IsTermOver signature (IsLeafIn signature setting) t

  abbrev pub OverRow : Setting → List ℕ → List Term → List ℕ → Type 0
  OverRow setting v ts w = AllByRecursion (IsTermOver signature (IsLeafIn signature setting)) ts

  pub over : (setting : Setting) → BindsNoFree setting → HoldsByForm s setting (Over setting) (OverRow setting)
  over setting proper = record {
    of_leaf = λ v n read e. leaf_over setting proper v n read e;
    of_node = λ v n number arity is_data ts w is takes small row.
        over_node signature (IsLeafIn signature setting) (Constructor number) ts (looked_arity s n number arity (length ts) is_data is takes) small row;
    of_tuple = λ v ts w many few small row. over_node signature (IsLeafIn signature setting) Tuple ts (many, few) small row;
    of_single = λ v t w row. row.0;
    of_none = λ v. tt;
    of_more = λ v t w ts z one row. (one, row);
  }

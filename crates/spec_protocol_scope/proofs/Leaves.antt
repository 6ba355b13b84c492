-- The leaves of terms: how a rule or query numbers its variables, and what each leaf stands for.
use Rattle.std.proofs.Common.{◌≡◌, ℕ, suc, ◌+◌, ◌<◌, ◌≤◌, Bool, true, false, if◌then◌else◌, nat_eq, List, [], ◌∷◌, ◌++◌, length, slice_get, Option, None, Some, option_map, Ok, refl, subst, ◌∙◌, sym, arith}
use Rattle.std.specs.Str.{bytes_eq}
use Rattle.std.proofs.lemmas.List.{length-append, append-nil}
use Rattle.spec_trees.specs.Tree.{Leaf}
use Rattle.spec_calculus.specs.Syntax.{Name, Free, Variable, Term}
use Rattle.spec_well_formed.specs.Leaves.{leaves, leaves_of}
use Rattle.spec_protocol_scope.specs.Answers.{Answer, Kind, Arity, LooseVariable, fault}
use Rattle.spec_protocol_scope.specs.Names.{Scope, Meaning, MeansFree, MeansConstructor, MeansDestructor, MeansEvent, MeansTable, MeansMacro, look, find_from, variable_of}
use Rattle.spec_protocol_scope.specs.Terms as rules
use Rattle.spec_protocol_scope.specs.Terms.{Setting, InProcess, OnLeft, OnRight, InEvent}
use Rattle.spec_protocol_scope.proofs.Stepped.{stepped, passed, faulty, found, found_one}
use Rattle.spec_protocol_scope.proofs.Terms.{HoldsByForm}
use Rattle.spec_protocol_scope.proofs.Numbering.{Leads, leads-append}

-- what was found in a list, with its number where the first has this one
pub record FoundAt {X : Type 0} (number : ℕ) (xs : List X) (found : ℕ × X) : Type 0 where
  pub index : ℕ
  pub number_is : found.0 ≡ number + index
  pub within : index < length xs
  pub stands : slice_get xs index ≡ Some found.1

found_later : {X : Type 0} (number : ℕ) (x : X) (xs : List X) (found : ℕ × X) → FoundAt (number + 1) xs found → FoundAt number (x ∷ xs) found
found_later number x xs found f = record { index = suc f.index; number_is = omega (arith, f.number_is); within = omega (arith, f.within); stands = f.stands }

pub found_from : {X : Type 0} (word_of : X → List ℕ) (number : ℕ) (xs : List X) (word : List ℕ) (found : ℕ × X) → find_from word_of number xs word ≡ Some found → FoundAt number xs found
found_from word_of number [] word found e = absurd (let same = e in cc)
found_from word_of number (x ∷ xs) word found e = by (bytes_eq (word_of x) word) (λ h. found_from word_of (number + 1) xs word found h) e
  where
    by : (b : Bool) → (find_from word_of (number + 1) xs word ≡ Some found → FoundAt (number + 1) xs found)
        → (if b then Some (number, x) else find_from word_of (number + 1) xs word) ≡ Some found → FoundAt number (x ∷ xs) found
    by true later e = let same : (number, x) ≡ found = (let s = e in cc) in
        subst (FoundAt number (x ∷ xs)) same (record { index = 0; number_is = omega arith; within = omega arith; stands = refl })
    by false later e = found_later number x xs found (later e)

-- a variable that stood before has the number of one of these
known_number : (text : ℕ → List ℕ) (v : List ℕ) (n k : ℕ) → variable_of text v n ≡ Some k → (0 < k) × (k ≤ length v)
known_number text v n k e = by (find_from text 1 v (text n)) (λ f h. found_from text 1 v (text n) f h) e
  where
    by : (o : Option (ℕ × ℕ)) → ((f : ℕ × ℕ) → o ≡ Some f → FoundAt 1 v f) → option_map (λ f. f.0) o ≡ Some k → (0 < k) × (k ≤ length v)
    by None at e = absurd (let same = e in cc)
    by (Some f) at e = let same : f.0 ≡ k = (let s = e in cc) in
        let a = at f refl in
        (omega (arith, a.number_is), omega (arith, a.number_is, a.within))

-- whether variables are bound by the term itself, and so numbered by it
abbrev pub IsOwn : Setting → Type 0
IsOwn (InProcess bound) = ⊥
IsOwn OnLeft = Unit {0}
IsOwn OnRight = Unit {0}
IsOwn InEvent = Unit {0}

-- a term, and a row, lead from the variables before them to those behind them
abbrev pub Leading : List ℕ → Term → List ℕ → Type 0
Leading v t w = Leads (length v) (leaves t) (length w)

abbrev pub LeadingRow : List ℕ → List Term → List ℕ → Type 0
LeadingRow v ts w = Leads (length v) (leaves_of ts) (length w)

abbrev LeadingRead : List ℕ → Term × List ℕ → Type 0
LeadingRead v read = Leading v read.0 read.1

known_leads : (v : List ℕ) (k : ℕ) → (0 < k) × (k ≤ length v) → LeadingRead v (Leaf (Variable k), v)
known_leads v k h = (h.0, omega (arith, h.1), omega (arith, h.1))

new_leads : (v : List ℕ) (n : ℕ) → LeadingRead v (Leaf (Variable (length v + 1)), v ++ n ∷ [])
new_leads v n = (omega arith, omega arith, let more = length-append v (n ∷ []) in omega arith)

variable_leads : (o : Option ℕ) (v : List ℕ) (n : ℕ) (read : Term × List ℕ) → ((k : ℕ) → o ≡ Some k → (0 < k) × (k ≤ length v)) → rules.variable_by o v n ≡ Ok read → LeadingRead v read
variable_leads (Some k) v n read known e = subst (LeadingRead v) (found_one (Leaf (Variable k), v) read e) (known_leads v k (known k refl))
variable_leads None v n read known e = subst (LeadingRead v) (found_one (Leaf (Variable (length v + 1)), v ++ n ∷ []) read e) (new_leads v n)

right_leads : (o : Option ℕ) (v : List ℕ) (n : ℕ) (read : Term × List ℕ) → ((k : ℕ) → o ≡ Some k → (0 < k) × (k ≤ length v)) → rules.known_variable o v n ≡ Ok read → LeadingRead v read
right_leads (Some k) v n read known e = subst (LeadingRead v) (found_one (Leaf (Variable k), v) read e) (known_leads v k (known k refl))
right_leads None v n read known e = absurd (faulty LooseVariable n read e)

constant_leads : (o : Option ℕ) (v : List ℕ) (other : Answer (Term × List ℕ)) (read : Term × List ℕ) → (other ≡ Ok read → LeadingRead v read) → rules.rule_leaf o v other ≡ Ok read → LeadingRead v read
constant_leads (Some k) v other read by e = subst (LeadingRead v) (found_one (rules.constant k, v) read e) refl
constant_leads None v other read by e = by e

-- a declared leaf is a free name or a constant
declared_leads : (v : List ℕ) (n : ℕ) (m : Meaning) (t : Term) → rules.declared_leaf n m ≡ Ok t → Leading v t v
declared_leads v n (MeansFree k) t e = subst (λ (x : Term). Leading v x v) (found_one (Leaf (Free k)) t e) refl
declared_leads v n (MeansConstructor k arity is_data) t e =
    subst (λ (x : Term). Leading v x v) (sym (passed (nat_eq arity 0) (rules.constant k) t (fault Arity n) (faulty Arity n) e).1) refl
declared_leads v n (MeansDestructor k arity) t e = absurd (faulty Kind n t e)
declared_leads v n (MeansEvent k arity) t e = absurd (faulty Kind n t e)
declared_leads v n (MeansTable k arity) t e = absurd (faulty Kind n t e)
declared_leads v n MeansMacro t e = absurd (faulty Kind n t e)

event_leads : (o : Option Meaning) (v : List ℕ) (n : ℕ) (other : Answer (Term × List ℕ)) (read : Term × List ℕ) → (other ≡ Ok read → LeadingRead v read) → rules.event_leaf o v n other ≡ Ok read → LeadingRead v read
event_leads (Some m) v n other read by e =
    let a = stepped (rules.declared_leaf n m) _ read e in
    subst (LeadingRead v) (found_one (a.value, v) read a.later) (declared_leads v n m a.value a.first)
event_leads None v n other read by e = by e

leaf_leads : (s : Scope) (setting : Setting) → IsOwn setting → (v : List ℕ) (n : ℕ) (read : Term × List ℕ) → rules.leaf s setting v n ≡ Ok read → LeadingRead v read
leaf_leads s (InProcess bound) own v n read e = absurd own
leaf_leads s OnLeft own v n read e = constant_leads (rules.constant_of (look s n)) v (rules.variable s v n) read
    (λ h. variable_leads (variable_of s.text v n) v n read (λ k is. known_number s.text v n k is) h) e
leaf_leads s OnRight own v n read e = constant_leads (rules.constant_of (look s n)) v (rules.known_variable (variable_of s.text v n) v n) read
    (λ h. right_leads (variable_of s.text v n) v n read (λ k is. known_number s.text v n k is) h) e
leaf_leads s InEvent own v n read e = event_leads (look s n) v n (rules.variable s v n) read
    (λ h. variable_leads (variable_of s.text v n) v n read (λ k is. known_number s.text v n k is) h) e

row_of_one : (n : ℕ) (t : Term) (m : ℕ) → Leads n (leaves_of (t ∷ [])) m → Leads n (leaves t) m
row_of_one n t m h = subst (λ (xs : List Name). Leads n xs m) (append-nil (leaves t)) h

-- each term of a rule or query leads on
pub leading : (s : Scope) (setting : Setting) → IsOwn setting → HoldsByForm s setting Leading LeadingRow
leading s setting own = record {
  of_leaf = λ v n read e. leaf_leads s setting own v n read e;
  of_node = λ v n number arity is_data ts w is takes small row. row;
  of_tuple = λ v ts w many few small row. row;
  of_single = λ v t w row. row_of_one (length v) t (length w) row;
  of_none = λ v. refl;
  of_more = λ v t w ts z one row. leads-append (leaves t) (leaves_of ts) (length v) (length w) (length z) one row;
}

-- the right side of a rule has no new variables
abbrev pub Unchanged : List ℕ → Term → List ℕ → Type 0
Unchanged v t w = v ≡ w

abbrev pub UnchangedRow : List ℕ → List Term → List ℕ → Type 0
UnchangedRow v ts w = v ≡ w

right_unchanged : (o : Option ℕ) (v : List ℕ) (n : ℕ) (read : Term × List ℕ) → rules.known_variable o v n ≡ Ok read → v ≡ read.1
right_unchanged (Some k) v n read e = let same = found_one (Leaf (Variable k), v) read e in cc
right_unchanged None v n read e = absurd (faulty LooseVariable n read e)

constant_unchanged : (o : Option ℕ) (v : List ℕ) (other : Answer (Term × List ℕ)) (read : Term × List ℕ) → (other ≡ Ok read → v ≡ read.1) → rules.rule_leaf o v other ≡ Ok read → v ≡ read.1
constant_unchanged (Some k) v other read by e = let same = found_one (rules.constant k, v) read e in cc
constant_unchanged None v other read by e = by e

pub unchanging : (s : Scope) → HoldsByForm s OnRight Unchanged UnchangedRow
unchanging s = record {
  of_leaf = λ v n read e. constant_unchanged (rules.constant_of (look s n)) v (rules.known_variable (variable_of s.text v n) v n) read (λ h. right_unchanged (variable_of s.text v n) v n read h) e;
  of_node = λ v n number arity is_data ts w is takes small row. row;
  of_tuple = λ v ts w many few small row. row;
  of_single = λ v t w row. row;
  of_none = λ v. refl;
  of_more = λ v t w ts z one row. one ∙ row;
}

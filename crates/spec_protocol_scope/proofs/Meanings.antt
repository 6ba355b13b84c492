-- What a word means is declared so.
use Rattle.std.proofs.Common.{◌≡◌, ℕ, suc, ◌<◌, ◌≤◌, List, length, Option, None, Some, option_map, ◌⊎◌, inl, inr, refl, ap, subst, ◌∙◌, arith}
use Rattle.std.specs.Option.{option_or}
use Rattle.spec_calculus.specs.Points.{numbered}
use Rattle.spec_protocol_scope.specs.Names.{Names, Macro, Texts, Meaning, MeansFree, MeansConstructor, MeansDestructor, MeansEvent, MeansTable, MeansMacro, find_from, find_declared, declared_meaning, meaning_of, arity_of}
use Rattle.spec_protocol_scope.proofs.Leaves.{FoundAt, found_from}

-- an item of a list, by its number
pub record Numbered {X : Type 0} (xs : List X) (number : ℕ) (Is : X → Type 0) : Type 0 where
  pub item : X
  pub stands : numbered xs number ≡ Some item
  pub within : (0 < number) × (number ≤ length xs)
  pub is : Is item

abbrev pub IsMeant : Names → Meaning → Type 0
IsMeant names (MeansFree k) = Numbered names.frees k (λ d. Unit {0})
IsMeant names (MeansConstructor k arity is_data) = Numbered names.constructors k (λ d. (d.arity ≡ arity) × (d.is_data ≡ is_data))
IsMeant names (MeansDestructor k arity) = Numbered names.destructors k (λ d. arity_of d.rules ≡ arity)
IsMeant names (MeansEvent k arity) = Numbered names.events k (λ d. d.arity ≡ arity)
IsMeant names (MeansTable k arity) = Numbered names.tables k (λ d. d.arity ≡ arity)
IsMeant names MeansMacro = Unit {0}

at_number : {X : Type 0} (xs : List X) (found : ℕ × X) (Is : X → Type 0) → FoundAt 1 xs found → Is found.1 → Numbered xs found.0 Is
at_number xs found Is f is =
    let e : found.0 ≡ suc f.index = omega (arith, f.number_is) in
    record { item = found.1; stands = ap (numbered xs) e ∙ f.stands; within = (omega arith, omega (arith, f.within)); is = is }

either_option : {A : Type 0} (o p : Option A) (x : A) → option_or o p ≡ Some x → (o ≡ Some x) ⊎ (p ≡ Some x)
either_option None p x e = inr e
either_option (Some y) p x e = inl e

-- what was found is meant so, where its meaning is that of what was found
by_find : {X : Type 0} (names : Names) (xs : List X) (means : ℕ × X → Meaning) (o : Option (ℕ × X)) (m : Meaning)
    → ((f : ℕ × X) → FoundAt 1 xs f → IsMeant names (means f)) → ((f : ℕ × X) → o ≡ Some f → FoundAt 1 xs f) → option_map means o ≡ Some m → IsMeant names m
by_find names xs means None m meant at e = absurd (let same = e in cc)
by_find names xs means (Some f) m meant at e = subst (IsMeant names) (let same : means f ≡ m = (let s = e in cc) in same) (meant f (at f refl))

free_meant : (names : Names) (word : List ℕ) (m : Meaning) → option_map (λ f. MeansFree f.0) (find_declared names.frees word) ≡ Some m → IsMeant names m
free_meant names word m e = by_find names names.frees (λ f. MeansFree f.0) (find_declared names.frees word) m
    (λ f at. at_number names.frees f (λ d. Unit {0}) at tt) (λ f h. found_from (λ d. d.word) 1 names.frees word f h) e

constructor_meant : (names : Names) (word : List ℕ) (m : Meaning) → option_map (λ f. MeansConstructor f.0 f.1.arity f.1.is_data) (find_declared names.constructors word) ≡ Some m → IsMeant names m
constructor_meant names word m e = by_find names names.constructors (λ f. MeansConstructor f.0 f.1.arity f.1.is_data) (find_declared names.constructors word) m
    (λ f at. at_number names.constructors f (λ d. (d.arity ≡ f.1.arity) × (d.is_data ≡ f.1.is_data)) at (refl, refl)) (λ f h. found_from (λ d. d.word) 1 names.constructors word f h) e

destructor_meant : (names : Names) (word : List ℕ) (m : Meaning) → option_map (λ f. MeansDestructor f.0 (arity_of f.1.rules)) (find_from (λ d. d.word) 1 names.destructors word) ≡ Some m → IsMeant names m
destructor_meant names word m e = by_find names names.destructors (λ f. MeansDestructor f.0 (arity_of f.1.rules)) (find_from (λ d. d.word) 1 names.destructors word) m
    (λ f at. at_number names.destructors f (λ d. arity_of d.rules ≡ arity_of f.1.rules) at refl) (λ f h. found_from (λ d. d.word) 1 names.destructors word f h) e

event_meant : (names : Names) (word : List ℕ) (m : Meaning) → option_map (λ f. MeansEvent f.0 f.1.arity) (find_declared names.events word) ≡ Some m → IsMeant names m
event_meant names word m e = by_find names names.events (λ f. MeansEvent f.0 f.1.arity) (find_declared names.events word) m
    (λ f at. at_number names.events f (λ d. d.arity ≡ f.1.arity) at refl) (λ f h. found_from (λ d. d.word) 1 names.events word f h) e

table_meant : (names : Names) (word : List ℕ) (m : Meaning) → option_map (λ f. MeansTable f.0 f.1.arity) (find_declared names.tables word) ≡ Some m → IsMeant names m
table_meant names word m e = by_find names names.tables (λ f. MeansTable f.0 f.1.arity) (find_declared names.tables word) m
    (λ f at. at_number names.tables f (λ d. d.arity ≡ f.1.arity) at refl) (λ f h. found_from (λ d. d.word) 1 names.tables word f h) e

macro_meant : (names : Names) (m : Meaning) (o : Option (ℕ × Macro)) → option_map (λ f. MeansMacro) o ≡ Some m → IsMeant names m
macro_meant names m None e = absurd (let same = e in cc)
macro_meant names m (Some f) e = subst (IsMeant names) (let same : MeansMacro ≡ m = (let s = e in cc) in same) tt

declared_is_meant : (names : Names) (word : List ℕ) (m : Meaning) → declared_meaning names word ≡ Some m → IsMeant names m
declared_is_meant names word m e =
    elim (either_option (option_map (λ f. MeansFree f.0) (find_declared names.frees word)) _ m e) [
      | inl h ↦ free_meant names word m h
      | inr h ↦ elim (either_option (option_map (λ f. MeansConstructor f.0 f.1.arity f.1.is_data) (find_declared names.constructors word)) _ m h) [
        | inl k ↦ constructor_meant names word m k
        | inr k ↦ elim (either_option (option_map (λ f. MeansDestructor f.0 (arity_of f.1.rules)) (find_from (λ d. d.word) 1 names.destructors word)) _ m k) [
          | inl l ↦ destructor_meant names word m l
          | inr l ↦ elim (either_option (option_map (λ f. MeansEvent f.0 f.1.arity) (find_declared names.events word)) _ m l) [
            | inl t ↦ event_meant names word m t
            | inr t ↦ table_meant names word m t
          ]
        ]
      ]
    ]

pub is_meant : (text : Texts) (names : Names) (word : List ℕ) (m : Meaning) → meaning_of text names word ≡ Some m → IsMeant names m
is_meant text names word m e =
    elim (either_option (declared_meaning names word) _ m e) [ inl h ↦ declared_is_meant names word m h | inr h ↦ macro_meant names m _ h ]

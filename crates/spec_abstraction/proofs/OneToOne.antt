-- The abstraction of a run is one to one: values whose names were all made are equal where their terms are.
use Rattle.std.proofs.Common.{◌≡◌, ◌∙◌, ℕ, Bool, true, false, cond, nat_eq, Some, List, [], ◌∷◌, ◌++◌, map, refl, ap, sym}
use Rattle.std.specs.List.{AllByRecursion}
use Rattle.spec_trees.specs.Tree.{Trees, Leaf, Node, none, more, some_leaf, some_leaves}
use Rattle.spec_trees.proofs.Rows.{trees-injective}
use Rattle.spec_trees.proofs.Occurrence.{or_false}
use Rattle.spec_calculus.specs.Syntax.{Symbol, Constructor, Tuple, Protocol}
use Rattle.spec_calculus.specs.Values.{Atom, FreeName, MadeName, AttackerName, Value}
use Rattle.spec_calculus.specs.Runs.{Configuration, Step, is_data, run}
use Rattle.spec_calculus.specs.Standing.{Lacks}
use Rattle.spec_terms.specs.Term.{Sym, Ctor, Data, Free, Point, Attacker, Term}
use Rattle.spec_terms.specs.Term as terms
use Rattle.spec_clauses.specs.Inclusion.{Has}
use Rattle.spec_translation.specs.Conversion.{name_term, row_length, symbol_over, converted_row}
use Rattle.spec_abstraction.specs.Trace.{MadeAt, trace_of}
use Rattle.spec_abstraction.specs.Naming.{atom_term, abstracted, made_term, Names, naming}
use Rattle.spec_abstraction.specs.OneToOne.{is_foreign, AreOnce, IsOneToOne}
use Rattle.spec_clauses.proofs.Inclusion.{all_has}
use Rattle.spec_abstraction.proofs.Older.{runs_are_named}
use Rattle.spec_abstraction.proofs.Entries.{found_entry}
use Rattle.spec_abstraction.proofs.Once.{runs_make_once}

-- whether a term is no variable, and whether it has a function at its root
abbrev is_node : Term → Bool
is_node (Leaf x) = false
is_node (Node f ts) = true

abbrev is_function : Sym → Bool
is_function (Ctor f) = true
is_function (Data f) = true
is_function (terms.Tuple n) = true
is_function (Free n) = false
is_function (Point p) = false
is_function Attacker = false

abbrev has_function : Term → Bool
has_function (Leaf x) = false
has_function (Node f ts) = is_function f

-- symbols over as many arguments are told apart
pub symbols_same : (P : Protocol) (m n : ℕ) (f g : Symbol) → symbol_over P m f ≡ symbol_over P n g → f ≡ g
symbols_same P m n (Constructor f) (Constructor g) e = go (is_data P (Constructor f)) (is_data P (Constructor g)) e where
  go : (a b : Bool) → cond a (Data f) (Ctor f) ≡ cond b (Data g) (Ctor g) → Constructor f ≡ Constructor g
  go true true h = let same : f ≡ g = cc in ap Constructor same
  go true false h = cc
  go false true h = cc
  go false false h = let same : f ≡ g = cc in ap Constructor same
symbols_same P m n (Constructor f) Tuple e = go (is_data P (Constructor f)) e where
  go : (a : Bool) → cond a (Data f) (Ctor f) ≡ terms.Tuple n → Constructor f ≡ Tuple
  go true h = cc
  go false h = cc
symbols_same P m n Tuple (Constructor g) e = go (is_data P (Constructor g)) e where
  go : (a : Bool) → terms.Tuple m ≡ cond a (Data g) (Ctor g) → Tuple ≡ Constructor g
  go true h = cc
  go false h = cc
symbols_same P m n Tuple Tuple e = refl

symbol_is_function : (P : Protocol) (n : ℕ) (f : Symbol) → is_function (symbol_over P n f) ≡ true
symbol_is_function P n (Constructor f) = elim (is_data P (Constructor f)) as (λ b. is_function (cond b (Data f) (Ctor f)) ≡ true) [ true ↦ refl | false ↦ refl ]
symbol_is_function P n Tuple = refl

-- the term of a name is no variable, and no function stands at its root
name_node : (P : Protocol) (made : List MadeAt) (point number : ℕ) → is_node (naming P made point number) ≡ true
name_node P [] point number = refl
name_node P (e ∷ es) point number =
    elim (nat_eq e.number number) as (λ b. is_node (cond b (made_term P (naming P es) e) (naming P es point number)) ≡ true) [ true ↦ refl | false ↦ name_node P es point number ]

name_function : (P : Protocol) (made : List MadeAt) (point number : ℕ) → has_function (naming P made point number) ≡ false
name_function P [] point number = refl
name_function P (e ∷ es) point number =
    elim (nat_eq e.number number) as (λ b. has_function (cond b (made_term P (naming P es) e) (naming P es point number)) ≡ false) [ true ↦ refl | false ↦ name_function P es point number ]

atom_function : (P : Protocol) (made : List MadeAt) (x : Atom) → has_function (atom_term (naming P made) x) ≡ false
atom_function P made (FreeName n) = refl
atom_function P made (MadeName point number) = name_function P made point number
atom_function P made (AttackerName n) = refl

-- so no name has the term of a function's value
pub no_atom : (P : Protocol) (made : List MadeAt) (f : Symbol) (n : ℕ) (row : Trees ℕ Sym) (x : Atom) → Node (symbol_over P n f) row ≡ atom_term (naming P made) x → ⊥
no_atom P made f n row x e =
    let one : has_function (atom_term (naming P made) x) ≡ false = atom_function P made x in
    let two : is_function (symbol_over P n f) ≡ true = symbol_is_function P n f in
    let same : is_function (symbol_over P n f) ≡ has_function (atom_term (naming P made) x) = ap has_function e in cc

value_node : (P : Protocol) (made : List MadeAt) (v : Value) → is_node (abstracted P (naming P made) v) ≡ true
value_node P made (Leaf (FreeName n)) = refl
value_node P made (Leaf (MadeName point number)) = name_node P made point number
value_node P made (Leaf (AttackerName n)) = refl
value_node P made (Node f vs) = refl

values_node : (P : Protocol) (made : List MadeAt) (vs : List Value) → AllByRecursion (λ t. is_node t ≡ true) (map (abstracted P (naming P made)) vs)
values_node P made [] = tt
values_node P made (v ∷ vs) = (value_node P made v, values_node P made vs)

-- So messages end where sessions begin.
sessions_same : (ms ns : List ℕ) → map {B = Term} Leaf ms ≡ map Leaf ns → ms ≡ ns
sessions_same [] [] e = refl
sessions_same [] (n ∷ ns) e = cc
sessions_same (m ∷ ms) [] e = cc
sessions_same (m ∷ ms) (n ∷ ns) e =
    let first : m ≡ n = cc in
    let rest : map {B = Term} Leaf ms ≡ map Leaf ns = cc in
    let others = sessions_same ms ns rest in λ i. first i ∷ others i

no_session : (t : Term) (n : ℕ) → is_node t ≡ true → t ≡ Leaf n → ⊥
no_session t n h e = let other : is_node t ≡ false = ap is_node e in cc

arguments_cut : (ts us : List Term) (ms ns : List ℕ) → AllByRecursion (λ t. is_node t ≡ true) ts → AllByRecursion (λ t. is_node t ≡ true) us → ts ++ map Leaf ms ≡ us ++ map Leaf ns → ms ≡ ns
arguments_cut [] [] ms ns a b e = sessions_same ms ns e
arguments_cut [] (u ∷ us) [] ns a b e = cc
arguments_cut [] (u ∷ us) (m ∷ ms) ns a b e = let first : u ≡ Leaf m = cc in absurd (no_session u m b.0 first)
arguments_cut (t ∷ ts) [] ms [] a b e = cc
arguments_cut (t ∷ ts) [] ms (n ∷ ns) a b e = let first : t ≡ Leaf n = cc in absurd (no_session t n a.0 first)
arguments_cut (t ∷ ts) (u ∷ us) ms ns a b e = let rest : ts ++ map Leaf ms ≡ us ++ map Leaf ns = cc in arguments_cut ts us ms ns a.1 b.1 rest

-- the term of a name tells its point and its sessions
name_terms_same : (p q : ℕ) (ts us : List Term) (ms ns : List ℕ) → AllByRecursion (λ t. is_node t ≡ true) ts → AllByRecursion (λ t. is_node t ≡ true) us → name_term p ts (map Leaf ms) ≡ name_term q us (map Leaf ns) → (p ≡ q) × (ms ≡ ns)
name_terms_same p q ts us ms ns a b e =
    let rows = trees-injective (ts ++ map Leaf ms) (us ++ map Leaf ns) (cc) in (cc, arguments_cut ts us ms ns a b rows)

module _ (P : Protocol) (made : List MadeAt) (named : Names P (naming P made) made) (once : AreOnce made) where
  -- the entry of a name, and its term by it
  record Entry (point number : ℕ) : Type 0 where
    entry : MadeAt
    entered : Has made entry
    at : entry.point ≡ point
    numbered_so : entry.number ≡ number
    term : naming P made point number ≡ name_term point (map (abstracted P (naming P made)) entry.past.messages) (map Leaf entry.past.sessions)

  entry_of : (point number : ℕ) → is_foreign made (MadeName point number) ≡ false → Entry point number
  entry_of point number lacks =
      let (e, entered, at, numbered_so) = found_entry point number made lacks in
      let term : naming P made point number ≡ made_term P (naming P made) e = (λ i. naming P made (sym at i) (sym numbered_so i)) ∙ all_has (λ e. naming P made e.point e.number ≡ made_term P (naming P made) e) made e named entered in
      record {
        entry = e;
        entered = entered;
        at = at;
        numbered_so = numbered_so;
        term = term ∙ ap (λ p. name_term p (map (abstracted P (naming P made)) e.past.messages) (map Leaf e.past.sessions)) at;
      }

  names_same : (p m q n : ℕ) → is_foreign made (MadeName p m) ≡ false → is_foreign made (MadeName q n) ≡ false → naming P made p m ≡ naming P made q n → MadeName p m ≡ MadeName q n
  names_same p m q n lacks others e =
      let a = entry_of p m lacks in
      let b = entry_of q n others in
      let both = name_terms_same p q (map (abstracted P (naming P made)) a.entry.past.messages) (map (abstracted P (naming P made)) b.entry.past.messages) a.entry.past.sessions b.entry.past.sessions
      (values_node P made a.entry.past.messages) (values_node P made b.entry.past.messages) (sym a.term ∙ (e ∙ b.term)) in
      let same : a.entry ≡ b.entry = once a.entry b.entry a.entered b.entered (a.at ∙ (both.0 ∙ sym b.at)) both.1 in
      let numbers : m ≡ n = sym a.numbered_so ∙ (ap (λ x. x.number) same ∙ b.numbered_so) in
      λ i. MadeName (both.0 i) (numbers i)

  atoms_same : (x y : Atom) → is_foreign made x ≡ false → is_foreign made y ≡ false → atom_term (naming P made) x ≡ atom_term (naming P made) y → x ≡ y
  atoms_same (FreeName m) (FreeName n) a b e = let same : m ≡ n = cc in ap FreeName same
  atoms_same (FreeName m) (AttackerName n) a b e = cc
  atoms_same (AttackerName m) (FreeName n) a b e = cc
  atoms_same (AttackerName m) (AttackerName n) a b e = let same : m ≡ n = cc in ap AttackerName same
  atoms_same (MadeName p m) (MadeName q n) a b e = names_same p m q n a b e
  atoms_same (MadeName p m) (FreeName n) a b e = let is = (entry_of p m a).term in cc
  atoms_same (MadeName p m) (AttackerName n) a b e = let is = (entry_of p m a).term in cc
  atoms_same (FreeName m) (MadeName q n) a b e = let is = (entry_of q n b).term in cc
  atoms_same (AttackerName m) (MadeName q n) a b e = let is = (entry_of q n b).term in cc

  -- Values with the same term are the same.
  mutual
    pub values_same : (v w : Value) → Lacks (is_foreign made) v → Lacks (is_foreign made) w → abstracted P (naming P made) v ≡ abstracted P (naming P made) w → v ≡ w
    values_same (Leaf x) (Leaf y) a b e = ap Leaf (atoms_same x y a b e)
    values_same (Leaf x) (Node g ws) a b e = absurd (no_atom P made g (row_length ws) (converted_row P (atom_term (naming P made)) ws) x (sym e))
    values_same (Node f vs) (Leaf y) a b e = absurd (no_atom P made f (row_length vs) (converted_row P (atom_term (naming P made)) vs) y e)
    values_same (Node f vs) (Node g ws) a b e =
        let symbols : symbol_over P (row_length vs) f ≡ symbol_over P (row_length ws) g = cc in
        let rows : converted_row P (atom_term (naming P made)) vs ≡ converted_row P (atom_term (naming P made)) ws = cc in
        let first = symbols_same P (row_length vs) (row_length ws) f g symbols in
        let others = row_same vs ws a b rows in λ i. Node (first i) (others i)

    row_same : (vs ws : Trees Atom Symbol) → some_leaves (is_foreign made) vs ≡ false → some_leaves (is_foreign made) ws ≡ false → converted_row P (atom_term (naming P made)) vs ≡ converted_row P (atom_term (naming P made)) ws → vs ≡ ws
    row_same none none a b e = refl
    row_same none (more w ws) a b e = cc
    row_same (more v vs) none a b e = cc
    row_same (more v vs) (more w ws) a b e =
        let va = or_false (some_leaf (is_foreign made) v) (some_leaves (is_foreign made) vs) a in
        let wb = or_false (some_leaf (is_foreign made) w) (some_leaves (is_foreign made) ws) b in
        let head : abstracted P (naming P made) v ≡ abstracted P (naming P made) w = cc in
        let tail : converted_row P (atom_term (naming P made)) vs ≡ converted_row P (atom_term (naming P made)) ws = cc in
        let first = values_same v w va.0 wb.0 head in
        let others = row_same vs ws va.1 wb.1 tail in λ i. more (first i) (others i)

-- So the abstraction of a run is one to one.
pub runs_are_one_to_one : (P : Protocol) (steps : List Step) (c : Configuration) → run P steps ≡ Some c → IsOneToOne P (naming P (trace_of P steps).made) (trace_of P steps).made
runs_are_one_to_one P steps c reached = values_same P (trace_of P steps).made (runs_are_named P steps c reached) (runs_make_once P steps c reached)

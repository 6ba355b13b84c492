-- The terms of clauses: trees whose leaves are variables, numbered, and whose nodes bear symbols.
use Rattle.std.specs.Prelude.{◌≡◌, ℕ, Bool, true, false, not, cond, nat_eq, List, refl}
use Rattle.std.specs.Coded.{Coded, code_by, coded×, coded_ℕ}
use Rattle.spec_trees.specs.Tree.{Tree, some_leaf}
use Rattle.spec_trees.specs.Code.{coded_tree, coded_tree_list}

-- A symbol: a constructor that is no data constructor and one that is, by their numbers; a tuple of
-- so many parts; a free name; the restricted name of a point; the attacker's names.
pub data Sym : Type 0 where
  Ctor : (f : ℕ) → Sym
  Data : (f : ℕ) → Sym
  Tuple : (parts : ℕ) → Sym
  Free : (name : ℕ) → Sym
  Point : (point : ℕ) → Sym
  Attacker : Sym

abbrev pub Term : Type 0
Term = Tree ℕ Sym

-- a substitution has a term for each variable
abbrev pub Subst : Type 0
Subst = ℕ → Term

-- whether the variable x occurs in t
abbrev pub has_var : ℕ → Term → Bool
has_var x t = some_leaf (nat_eq x) t

-- whether t has no variable
abbrev pub is_ground : Term → Bool
is_ground t = not (some_leaf (λ x. true) t)

-- whether two symbols are the same
abbrev pub same_symbol : Sym → Sym → Bool
same_symbol (Ctor f) (Ctor g) = nat_eq f g
same_symbol (Data f) (Data g) = nat_eq f g
same_symbol (Tuple m) (Tuple n) = nat_eq m n
same_symbol (Free a) (Free b) = nat_eq a b
same_symbol (Point p) (Point q) = nat_eq p q
same_symbol Attacker Attacker = true
same_symbol _ _ = false

-- a symbol as its kind and its number, and back
abbrev kind_of : Sym → ℕ × ℕ
kind_of (Ctor f) = (0, f)
kind_of (Data f) = (1, f)
kind_of (Tuple n) = (2, n)
kind_of (Free a) = (3, a)
kind_of (Point p) = (4, p)
kind_of Attacker = (5, 0)

abbrev of_kind : ℕ × ℕ → Sym
of_kind k = cond (nat_eq k.0 0) (Ctor k.1) (cond (nat_eq k.0 1) (Data k.1) (cond (nat_eq k.0 2) (Tuple k.1) (cond (nat_eq k.0 3) (Free k.1) (cond (nat_eq k.0 4) (Point k.1) Attacker))))

pub of_kind-kind_of : (f : Sym) → of_kind (kind_of f) ≡ f
of_kind-kind_of (Ctor f) = refl
of_kind-kind_of (Data f) = refl
of_kind-kind_of (Tuple n) = refl
of_kind-kind_of (Free a) = refl
of_kind-kind_of (Point p) = refl
of_kind-kind_of Attacker = refl

-- how contracts store symbols, terms and lists of terms
abbrev pub coded_symbol : Coded Sym
coded_symbol = code_by (ℕ × ℕ) (coded× coded_ℕ coded_ℕ) kind_of of_kind of_kind-kind_of

abbrev pub coded_term : Coded Term
coded_term = coded_tree coded_ℕ coded_symbol

abbrev pub coded_terms : Coded (List Term)
coded_terms = coded_tree_list coded_ℕ coded_symbol

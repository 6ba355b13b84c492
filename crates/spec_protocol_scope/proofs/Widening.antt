-- What is over a signature is over one that has its constructors, with more behind them.
use Rattle.std.proofs.Common.{◌≡◌, ℕ, zero, suc, List, [], ◌∷◌, ◌++◌, slice_get, Some}
use Rattle.spec_trees.specs.Tree.{Tree, Trees, Leaf, Node, none, more}
use Rattle.spec_calculus.specs.Syntax.{Name, Symbol, Constructor, Tuple, Declared, Rule}
use Rattle.spec_calculus.specs.Points.{numbered}
use Rattle.spec_calculus.proofs.Items.{each-weaker}
use Rattle.spec_well_formed.specs.Signature.{Signature}
use Rattle.spec_well_formed.specs.Terms.{EachSymbol, EachSymbolInRow, HasArity, TakesArguments, IsTermOver}
use Rattle.spec_well_formed.specs.WellFormed.{IsRuleOver}

mutual
  pub each_symbol-weaker : {L S : Type 0} (P Q : S → ℕ → Type 0) → ((f : S) (n : ℕ) → P f n → Q f n) → (t : Tree L S) → EachSymbol P t → EachSymbol Q t
  each_symbol-weaker P Q weaker (Leaf x) h = tt
  each_symbol-weaker P Q weaker (Node f ts) h = (weaker f _ h.0, each_symbol_in_row-weaker P Q weaker ts h.1)

  pub each_symbol_in_row-weaker : {L S : Type 0} (P Q : S → ℕ → Type 0) → ((f : S) (n : ℕ) → P f n → Q f n) → (ts : Trees L S) → EachSymbolInRow P ts → EachSymbolInRow Q ts
  each_symbol_in_row-weaker P Q weaker none h = tt
  each_symbol_in_row-weaker P Q weaker (more t ts) h = (each_symbol-weaker P Q weaker t h.0, each_symbol_in_row-weaker P Q weaker ts h.1)

-- each constructor of the first signature has its number and arity in the second
abbrev pub Widens : Signature → Signature → Type 0
Widens a b = (number arity : ℕ) → HasArity a.constructors number arity → HasArity b.constructors number arity

module _ (a b : Signature) (widens : Widens a b) where
  takes : (f : Symbol) (n : ℕ) → TakesArguments a f n → TakesArguments b f n
  takes (Constructor number) n h = widens number n h
  takes Tuple n h = h

  pub wider_term : (IsLeaf : Name → Type 0) (t : Tree Name Symbol) → IsTermOver a IsLeaf t → IsTermOver b IsLeaf t
  wider_term IsLeaf t h = record { known = h.known; arities = each_symbol-weaker (TakesArguments a) (TakesArguments b) takes t h.arities; few = h.few }

  pub wider_rule : (rule : Rule) → IsRuleOver a rule → IsRuleOver b rule
  wider_rule rule h = record { left = each-weaker _ _ (wider_term _) rule.left h.left; right = wider_term _ rule.right h.right }

slice_get-append : {A : Type 0} (xs ys : List A) (index : ℕ) (x : A) → slice_get xs index ≡ Some x → slice_get (xs ++ ys) index ≡ Some x
slice_get-append [] ys index x e = absurd (let same = e in cc)
slice_get-append (y ∷ xs) ys zero x e = e
slice_get-append (y ∷ xs) ys (suc index) x e = slice_get-append xs ys index x e

pub numbered-append : {A : Type 0} (xs ys : List A) (number : ℕ) (x : A) → numbered xs number ≡ Some x → numbered (xs ++ ys) number ≡ Some x
numbered-append xs ys zero x e = absurd (let same = e in cc)
numbered-append xs ys (suc index) x e = slice_get-append xs ys index x e

pub wider_arity : (xs ys : List Declared) (number arity : ℕ) → HasArity xs number arity → HasArity (xs ++ ys) number arity
wider_arity xs ys number arity h = record { declared = h.declared; stands = numbered-append xs ys number h.declared h.stands; is = h.is }

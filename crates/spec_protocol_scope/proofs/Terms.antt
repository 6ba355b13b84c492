-- What holds of each term that the rules of scope give, by rules for its forms.
use Rattle.std.proofs.Common.{◌≡◌, ℕ, ◌<◌, ◌≤◌, Bool, true, nat_eq, nat_le, ◌&&◌, List, [], ◌∷◌, length, Option, None, Some, Ok, inl, inr, refl, ap, subst, ◌∙◌, sym, arith}
use Rattle.std.proofs.lemmas.Bool.{leb-true, eqb-true}
use Rattle.spec_trees.specs.Tree.{node, size}
use Rattle.spec_trees.proofs.Equality.{and_true}
use Rattle.spec_calculus.specs.Bounds.{most_arguments, most_written_symbols}
use Rattle.spec_calculus.specs.Syntax.{Constructor, Tuple, Term}
use Rattle.spec_protocol_grammar.specs.Sketch.{TermSketch, Named, Grouped, TermsSketch, none, more}
use Rattle.spec_protocol_scope.specs.Answers.{Kind, Unknown, Arity, ◌>>=◌, fault}
use Rattle.spec_protocol_scope.specs.Names.{Scope, Meaning, MeansFree, MeansConstructor, MeansDestructor, MeansEvent, MeansTable, MeansMacro, look}
use Rattle.spec_protocol_scope.specs.Terms as rules
use Rattle.spec_protocol_scope.specs.Terms.{Setting, count}
use Rattle.spec_protocol_scope.proofs.Stepped.{stepped, passed, faulty, kept, chosen, found, found_one}
use Rattle.spec_protocol_scope.proofs.Solid.{IsSolid, AreSolid}

-- the equation behind a test
pub equal : (a b : ℕ) → nat_eq a b ≡ true → a ≡ b
equal a b e = eqb-true a b e

-- the number is that of a constructor that takes so many arguments
pub record Constructs (meaning : Option Meaning) (number given : ℕ) : Type 0 where
  pub arity : ℕ
  pub is_data : Bool
  pub is : meaning ≡ Some (MeansConstructor number arity is_data)
  pub takes : arity ≡ given

pub taken : (n number arity given found : ℕ) → rules.taking n number arity given ≡ Ok found → (arity ≡ given) × (found ≡ number)
taken n number arity given found e =
    let p = passed (nat_eq arity given) number found (fault Arity n) (faulty Arity n) e in (equal arity given p.0, p.1)

pub constructed : (n given : ℕ) (meaning : Option Meaning) (number : ℕ) → rules.constructor n given meaning ≡ Ok number → Constructs meaning number given
constructed n given None number e = absurd (faulty Unknown n number e)
constructed n given (Some (MeansConstructor i arity is_data)) number e =
    let t = taken n i arity given number e in
    record { arity = arity; is_data = is_data; is = ap (λ (j : ℕ). Some (MeansConstructor j arity is_data)) (sym t.1); takes = t.0 }
constructed n given (Some (MeansFree i)) number e = absurd (faulty Kind n number e)
constructed n given (Some (MeansDestructor i arity)) number e = absurd (faulty Kind n number e)
constructed n given (Some (MeansEvent i arity)) number e = absurd (faulty Kind n number e)
constructed n given (Some (MeansTable i arity)) number e = absurd (faulty Kind n number e)
constructed n given (Some MeansMacro) number e = absurd (faulty Kind n number e)

-- one rule for each form of a term: a term and a row, with the variables before and behind them
pub record HoldsByForm (s : Scope) (setting : Setting) (One : List ℕ → Term → List ℕ → Type 0) (Row : List ℕ → List Term → List ℕ → Type 0) : Type 0 where
  pub of_leaf : (v : List ℕ) (n : ℕ) (read : Term × List ℕ) → rules.leaf s setting v n ≡ Ok read → One v read.0 read.1
  pub of_node : (v : List ℕ) (n number arity : ℕ) (is_data : Bool) (ts : List Term) (w : List ℕ) → look s n ≡ Some (MeansConstructor number arity is_data) → arity ≡ length ts
      → size (node (Constructor number) ts) ≤ most_written_symbols → Row v ts w → One v (node (Constructor number) ts) w
  pub of_tuple : (v : List ℕ) (ts : List Term) (w : List ℕ) → 2 ≤ length ts → length ts ≤ most_arguments → size (node Tuple ts) ≤ most_written_symbols → Row v ts w → One v (node Tuple ts) w
  pub of_single : (v : List ℕ) (t : Term) (w : List ℕ) → Row v (t ∷ []) w → One v t w
  pub of_none : (v : List ℕ) → Row v [] v
  pub of_more : (v : List ℕ) (t : Term) (w : List ℕ) (ts : List Term) (z : List ℕ) → One v t w → Row w ts z → Row v (t ∷ ts) z

-- a row holds, and has as many terms as its sketch
pub record RowHolds (Row : List ℕ → List Term → List ℕ → Type 0) (v : List ℕ) (ts : TermsSketch) (read : List Term × List ℕ) : Type 0 where
  pub row : Row v read.0 read.1
  pub counts : length read.0 ≡ count ts

module _ (s : Scope) (setting : Setting) (One : List ℕ → Term → List ℕ → Type 0) (Row : List ℕ → List Term → List ℕ → Type 0) (by : HoldsByForm s setting One Row) where
  -- what is read of a row
  abbrev Rows : List ℕ → TermsSketch → Type 0
  Rows v ts = (read : List Term × List ℕ) → rules.terms s setting v ts ≡ Ok read → RowHolds Row v ts read

  node_holds : (v : List ℕ) (n : ℕ) (ts : TermsSketch) (rows : Rows v ts) (read : Term × List ℕ)
      → (rules.constructor n (count ts) (look s n) >>= λ number. rules.terms s setting v ts >>= λ arguments. rules.sized n (node (Constructor number) arguments.0) >>= λ whole. found (whole, arguments.1)) ≡ Ok read
      → One v read.0 read.1
  node_holds v n ts rows read e =
      let a = stepped (rules.constructor n (count ts) (look s n)) _ read e in
      let b = stepped (rules.terms s setting v ts) _ read a.later in
      let c = stepped (rules.sized n (node (Constructor a.value) b.value.0)) _ read b.later in
      let d = constructed n (count ts) (look s n) a.value a.first in
      let r = rows b.value b.first in
      let small = kept (nat_le (size (node (Constructor a.value) b.value.0)) most_written_symbols) n (node (Constructor a.value) b.value.0) c.value c.first in
      subst (λ (x : Term × List ℕ). One v x.0 x.1) (ap (λ (t : Term). (t, b.value.1)) (sym small.1) ∙ found_one (c.value, b.value.1) read c.later)
      (by.of_node v n a.value d.arity d.is_data b.value.0 b.value.1 d.is (d.takes ∙ sym r.counts) (leb-true (size (node (Constructor a.value) b.value.0)) most_written_symbols small.0) r.row)

  named_holds : (v : List ℕ) (n : ℕ) (ts : TermsSketch) (rows : Rows v ts) (read : Term × List ℕ) → rules.term s setting v (Named n ts) ≡ Ok read → One v read.0 read.1
  named_holds v n ts rows read e =
      elim (chosen (nat_eq (count ts) 0) (rules.leaf s setting v n) _ read e) [ inl h ↦ by.of_leaf v n read h.1 | inr h ↦ node_holds v n ts rows read h.1 ]

  tuple_holds : (v : List ℕ) (n : ℕ) (parts : List Term) (w : List ℕ) (read : Term × List ℕ) → Row v parts w → 2 ≤ length parts
      → (rules.tuple n parts >>= λ whole. found (whole, w)) ≡ Ok read → One v read.0 read.1
  tuple_holds v n parts w read row many e =
      let c = stepped (rules.tuple n parts) _ read e in
      let small = kept (nat_le (length parts) most_arguments && nat_le (size (node Tuple parts)) most_written_symbols) n (node Tuple parts) c.value c.first in
      let both = and_true (nat_le (length parts) most_arguments) (nat_le (size (node Tuple parts)) most_written_symbols) small.0 in
      subst (λ (x : Term × List ℕ). One v x.0 x.1) (ap (λ (t : Term). (t, w)) (sym small.1) ∙ found_one (c.value, w) read c.later)
      (by.of_tuple v parts w many (leb-true (length parts) most_arguments both.0) (leb-true (size (node Tuple parts)) most_written_symbols both.1) row)

  parts_hold : (v : List ℕ) (n : ℕ) (parts : List Term) (w : List ℕ) (read : Term × List ℕ) → Row v parts w → 0 < length parts
      → (rules.grouped n parts >>= λ whole. found (whole, w)) ≡ Ok read → One v read.0 read.1
  parts_hold v n [] w read row some e = absurd (omega arith)
  parts_hold v n (t ∷ []) w read row some e = subst (λ (x : Term × List ℕ). One v x.0 x.1) (found_one (t, w) read e) (by.of_single v t w row)
  parts_hold v n (t ∷ u ∷ ts) w read row some e = tuple_holds v n (t ∷ u ∷ ts) w read row (omega arith) e

  grouped_holds : (v : List ℕ) (n : ℕ) (ts : TermsSketch) (rows : Rows v ts) → 0 < count ts → (read : Term × List ℕ) → rules.term s setting v (Grouped n ts) ≡ Ok read → One v read.0 read.1
  grouped_holds v n ts rows some read e =
      let b = stepped (rules.terms s setting v ts) _ read e in
      let r = rows b.value b.first in
      parts_hold v n b.value.0 b.value.1 read r.row (subst (λ (k : ℕ). 0 < k) (sym r.counts) some) b.later

  more_holds : (v : List ℕ) (t : TermSketch) (ts : TermsSketch) → ((x : Term × List ℕ) → rules.term s setting v t ≡ Ok x → One v x.0 x.1)
      → ((w : List ℕ) → Rows w ts) → (read : List Term × List ℕ) → rules.terms s setting v (more t ts) ≡ Ok read → RowHolds Row v (more t ts) read
  more_holds v t ts first others read e =
      let a = stepped (rules.term s setting v t) _ read e in
      let b = stepped (rules.terms s setting a.value.1 ts) _ read a.later in
      let r = others a.value.1 b.value b.first in
      subst (RowHolds Row v (more t ts)) (found_one (a.value.0 ∷ b.value.0, b.value.1) read b.later)
      (record { row = by.of_more v a.value.0 a.value.1 b.value.0 b.value.1 (first a.value a.first) r.row; counts = omega (arith, r.counts) })

  mutual
    pub term_holds : (t : TermSketch) (solid : IsSolid t) (v : List ℕ) (read : Term × List ℕ) → rules.term s setting v t ≡ Ok read → One v read.0 read.1
    term_holds (Named n ts) solid v read e = named_holds v n ts (λ r h. row_holds ts solid v r h) read e
    term_holds (Grouped n none) solid v read e = absurd solid
    term_holds (Grouped n (more t ts)) solid v read e =
        grouped_holds v n (more t ts) (λ r h. more_holds v t ts (λ x y. term_holds t solid.0 v x y) (λ w x y. row_holds ts solid.1 w x y) r h) (omega arith) read e

    pub row_holds : (ts : TermsSketch) (solid : AreSolid ts) (v : List ℕ) (read : List Term × List ℕ) → rules.terms s setting v ts ≡ Ok read → RowHolds Row v ts read
    row_holds none solid v read e = subst (RowHolds Row v none) (found_one ([], v) read e) (record { row = by.of_none v; counts = refl })
    row_holds (more t ts) solid v read e = more_holds v t ts (λ x y. term_holds t solid.0 v x y) (λ w x y. row_holds ts solid.1 w x y) read e

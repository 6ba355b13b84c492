-- A term of a process, read as an expression, is that term; and an expression that is a term is read of one.
use Rattle.std.proofs.Common.{◌≡◌, ℕ, Bool, true, false, nat_eq, nat_le, ◌&&◌, if◌then◌else◌, List, [], ◌∷◌, length, map, Option, None, Some, option_map, Ok, inl, inr, refl, ap, ◌∙◌, sym}
use Rattle.std.specs.Option.{option_map_or}
use Rattle.std.proofs.lemmas.List.{length-map}
use Rattle.spec_trees.specs.Tree.{Leaf, Node, node, size}
use Rattle.spec_calculus.specs.Bounds.{most_arguments, most_written_symbols}
use Rattle.spec_calculus.specs.Syntax.{Symbol, Constructor, Tuple, Term, Head, Builds, Calls, Expression}
use Rattle.spec_calculus.proofs.Items.{of_some, of_map}
use Rattle.spec_well_formed.specs.Terms.{expression_size}
use Rattle.spec_protocol_grammar.specs.Sketch.{TermSketch, Named, Grouped, TermsSketch, none, more}
use Rattle.spec_protocol_scope.specs.Answers.{Answer, Kind, Unknown, within, ◌>>=◌}
use Rattle.spec_protocol_scope.specs.Names.{Scope, Meaning, MeansFree, MeansConstructor, MeansDestructor, MeansEvent, MeansTable, MeansMacro, look, Bound, bound_as}
use Rattle.spec_protocol_scope.specs.Terms as terms
use Rattle.spec_protocol_scope.specs.Terms.{InProcess, count}
use Rattle.spec_protocol_scope.specs.Expressions as rules
use Rattle.spec_protocol_scope.specs.Expressions.{terms_of}
use Rattle.spec_protocol_scope.proofs.Stepped.{stepped, faulty, kept, chosen, found, found_one}

-- a step gives what the next one gives of its value
step_gives : {A B : Type 0} (x : Answer A) (next : A → Answer B) (v : A) (y : Answer B) → x ≡ Ok v → next v ≡ y → (x >>= next) ≡ y
step_gives x next v y e f = ap (λ (a : Answer _). a >>= next) e ∙ f

where_true : {A : Type 0} (test : Bool) (a b : A) → test ≡ true → (if test then a else b) ≡ a
where_true true a b e = refl
where_true false a b e = absurd (let no = e in cc)

where_false : {A : Type 0} (test : Bool) (a b : A) → test ≡ false → (if test then a else b) ≡ b
where_false true a b e = absurd (let no = e in cc)
where_false false a b e = refl

-- the term, with the variables as they are
abbrev reads : Term → List ℕ → Answer (Term × List ℕ)
reads x v = Ok (x, v)

-- terms as expressions
abbrev plain : List Term → List Expression
plain ts = map Leaf ts

terms_of-plain : (ts : List Term) → terms_of (plain ts) ≡ Some ts
terms_of-plain [] = refl
terms_of-plain (t ∷ ts) = ap (λ (o : Option (List Term)). option_map (λ us. t ∷ us) o) (terms_of-plain ts)

plain-terms_of : (es : List Expression) (ts : List Term) → terms_of es ≡ Some ts → es ≡ plain ts
plain-terms_of [] ts e = ap plain (of_some [] ts e)
plain-terms_of (Leaf t ∷ es) ts e =
    let (others, there, is) = of_map (λ (us : List Term). t ∷ us) (terms_of es) ts e in
    ap (λ (xs : List Expression). Leaf t ∷ xs) (plain-terms_of es others there) ∙ ap plain is
plain-terms_of (Node root inner ∷ es) ts e = absurd (let same = e in cc)

built-plain : (f : Symbol) (ts : List Term) → rules.built f (plain ts) ≡ Leaf (node f ts)
built-plain f ts = ap (λ (o : Option (List Term)). option_map_or (λ us. Leaf (node f us)) o (node (Builds f) (plain ts))) (terms_of-plain ts)

-- a constructor is the root that it is in a term
constructor_root : (n given : ℕ) (m : Option Meaning) (number : ℕ) → terms.constructor n given m ≡ Ok number → rules.root n given m ≡ Ok (Builds (Constructor number))
constructor_root n given (Some (MeansDestructor i arity)) number e = absurd (faulty Kind n number e)
constructor_root n given None number e = absurd (faulty Unknown n number e)
constructor_root n given (Some (MeansFree i)) number e = absurd (faulty Kind n number e)
constructor_root n given (Some (MeansConstructor i arity is_data)) number e = ap (λ (a : Answer ℕ). a >>= λ k. found (Builds (Constructor k))) e
constructor_root n given (Some (MeansEvent i arity)) number e = absurd (faulty Kind n number e)
constructor_root n given (Some (MeansTable i arity)) number e = absurd (faulty Kind n number e)
constructor_root n given (Some MeansMacro) number e = absurd (faulty Kind n number e)

-- a tuple, and what stands in parentheses
tuple_of : (n : ℕ) (ts : List Term) (t : Term) → terms.tuple n ts ≡ Ok t → rules.tuple n (plain ts) ≡ Ok (Leaf t)
tuple_of n ts t e =
    let test = nat_le (length ts) most_arguments && nat_le (size (node Tuple ts)) most_written_symbols in
    let small = kept test n (node Tuple ts) t e in
    ap (λ (x : Expression). within (nat_le (length (plain ts)) most_arguments && nat_le (expression_size x) most_written_symbols) n x) (built-plain Tuple ts)
    ∙ (ap (λ (k : ℕ). within (nat_le k most_arguments && nat_le (size (node Tuple ts)) most_written_symbols) n (Leaf (node Tuple ts))) (length-map ts Leaf)
    ∙ (ap (λ (b : Bool). within b n (Leaf (node Tuple ts))) small.0 ∙ ap (λ (x : Term). found (Leaf x)) (sym small.1)))

grouped_of : (n : ℕ) (ts : List Term) (t : Term) → terms.grouped n ts ≡ Ok t → rules.grouped n (plain ts) ≡ Ok (Leaf t)
grouped_of n [] t e = tuple_of n [] t e
grouped_of n (one ∷ []) t e = ap (λ (x : Term). found (Leaf x)) (found_one one t e)
grouped_of n (one ∷ two ∷ ts) t e = tuple_of n (one ∷ two ∷ ts) t e

-- and back: where a root over parts is a term, it is a constructor or a tuple, and the parts are terms
built_back : (f : Symbol) (es : List Expression) (x : Term) → Leaf x ≡ rules.built f es → (ts : List Term) × (es ≡ plain ts) × (x ≡ node f ts)
built_back f es x e = by (terms_of es) refl e
  where
    by : (o : Option (List Term)) → terms_of es ≡ o → Leaf x ≡ option_map_or (λ ts. Leaf (node f ts)) o (node (Builds f) es) → (ts : List Term) × (es ≡ plain ts) × (x ≡ node f ts)
    by None is e = absurd (let same = e in cc)
    by (Some ts) is e = (ts, plain-terms_of es ts is, let same = e in cc)

abbrev IsTermOf : Head ℕ → List Expression → Term → Type 0
IsTermOf root es x = (f : Symbol) × (ts : List Term) × (root ≡ Builds f) × (es ≡ plain ts) × (x ≡ node f ts)

rooted_back : (root : Head ℕ) (es : List Expression) (x : Term) → Leaf x ≡ rules.rooted root es → IsTermOf root es x
rooted_back (Builds f) es x e = let (ts, are, is) = built_back f es x e in (f, ts, refl, are, is)
rooted_back (Calls d) es x e = absurd (let same = e in cc)

root_back : (n given : ℕ) (m : Option Meaning) (f : Symbol) → rules.root n given m ≡ Ok (Builds f) → (number : ℕ) × (terms.constructor n given m ≡ Ok number) × (f ≡ Constructor number)
root_back n given (Some (MeansConstructor i arity is_data)) f e =
    let a = stepped (terms.taking n i arity given) _ (Builds f) e in
    (a.value, a.first, let same = a.later in cc)
root_back n given (Some (MeansDestructor i arity)) f e =
    let a = stepped (terms.taking n i arity given) _ (Builds f) e in
    absurd (let same = a.later in cc)
root_back n given None f e = absurd (let same = e in cc)
root_back n given (Some (MeansFree i)) f e = absurd (let same = e in cc)
root_back n given (Some (MeansEvent i arity)) f e = absurd (let same = e in cc)
root_back n given (Some (MeansTable i arity)) f e = absurd (let same = e in cc)
root_back n given (Some MeansMacro) f e = absurd (let same = e in cc)

tuple_back : (n : ℕ) (es : List Expression) (x : Term) → rules.tuple n es ≡ Ok (Leaf x) → (ts : List Term) × (es ≡ plain ts) × (terms.tuple n ts ≡ Ok x)
tuple_back n es x e =
    let small = kept (nat_le (length es) most_arguments && nat_le (expression_size (rules.built Tuple es)) most_written_symbols) n (rules.built Tuple es) (Leaf x) e in
    let (ts, are, is) = built_back Tuple es x small.1 in
    let counts : length es ≡ length ts = ap (λ (xs : List Expression). length xs) are ∙ length-map ts Leaf in
    let sized : expression_size (rules.built Tuple es) ≡ size (node Tuple ts) = ap (λ (xs : List Expression). expression_size (rules.built Tuple xs)) are ∙ ap expression_size (built-plain Tuple ts) in
    let passes : (nat_le (length ts) most_arguments && nat_le (size (node Tuple ts)) most_written_symbols) ≡ true =
    sym (λ i. nat_le (counts i) most_arguments && nat_le (sized i) most_written_symbols) ∙ small.0 in
    (ts, are, ap (λ (k : Bool). within k n (node Tuple ts)) passes ∙ ap (λ (y : Term). found y) (sym is))

two_are_a_tuple : (n : ℕ) (one two : Expression) (es : List Expression) (ts : List Term) → one ∷ two ∷ es ≡ plain ts → terms.tuple n ts ≡ terms.grouped n ts
two_are_a_tuple n one two es [] e = absurd (let same = e in cc)
two_are_a_tuple n one two es (t ∷ []) e = absurd (let same = e in cc)
two_are_a_tuple n one two es (t ∷ u ∷ ts) e = refl

grouped_back : (n : ℕ) (es : List Expression) (x : Term) → rules.grouped n es ≡ Ok (Leaf x) → (ts : List Term) × (es ≡ plain ts) × (terms.grouped n ts ≡ Ok x)
grouped_back n [] x e = ([], refl, ap (λ (y : Term). found y) (let same : node Tuple [] ≡ x = (let k = e in cc) in same))
grouped_back n (one ∷ []) x e = (x ∷ [], ap (λ (y : Expression). y ∷ []) (found_one one (Leaf x) e), refl)
grouped_back n (one ∷ two ∷ es) x e = let (ts, are, is) = tuple_back n (one ∷ two ∷ es) x e in (ts, are, sym (two_are_a_tuple n one two es ts are) ∙ is)

module _ (s : Scope) (bound : List Bound) where
  bare_of : (v : List ℕ) (n : ℕ) (read : Term × List ℕ) → terms.leaf s (InProcess bound) v n ≡ Ok read → rules.bare s bound n ≡ Ok (Leaf read.0)
  bare_of v n read e =
      let a = stepped (terms.process_leaf (bound_as s.text bound n) (look s n) n) _ read e in
      ap (λ (x : Answer Term). (terms.unchanged [] x >>= λ r. found r.0) >>= λ t. found (Leaf t)) a.first ∙ ap (λ (x : Term × List ℕ). found (Leaf x.0)) (found_one (a.value, v) read a.later)

  node_of : (n : ℕ) (ts : TermsSketch) → ((v : List ℕ) (read : List Term × List ℕ) → terms.terms s (InProcess bound) v ts ≡ Ok read → rules.parts s bound ts ≡ Ok (plain read.0)) → (v : List ℕ) (read : Term × List ℕ)
      → (terms.constructor n (count ts) (look s n) >>= λ number. terms.terms s (InProcess bound) v ts >>= λ arguments. terms.sized n (node (Constructor number) arguments.0) >>= λ whole. found (whole, arguments.1)) ≡ Ok read
      → (rules.root n (count ts) (look s n) >>= λ root. rules.parts s bound ts >>= λ arguments. rules.sized n (rules.rooted root arguments)) ≡ Ok (Leaf read.0)
  node_of n ts rows v read e =
      let a = stepped (terms.constructor n (count ts) (look s n)) _ read e in
      let b = stepped (terms.terms s (InProcess bound) v ts) _ read a.later in
      let t = node (Constructor a.value) b.value.0 in
      let c = stepped (terms.sized n t) _ read b.later in
      let small = kept (nat_le (size t) most_written_symbols) n t c.value c.first in
      let whole : t ≡ read.0 = sym small.1 ∙ ap (λ (x : Term × List ℕ). x.0) (found_one (c.value, b.value.1) read c.later) in
      let sized = λ (x : Expression). rules.sized n x in
      step_gives (rules.root n (count ts) (look s n)) _ (Builds (Constructor a.value)) _ (constructor_root n (count ts) (look s n) a.value a.first)
      (step_gives (rules.parts s bound ts) _ (plain b.value.0) _ (rows v b.value b.first)
      (ap sized (built-plain (Constructor a.value) b.value.0) ∙ (ap (λ (k : Bool). within k n (Leaf t)) small.0 ∙ ap (λ (x : Term). found (Leaf x)) whole)))

  mutual
    part_of : (t : TermSketch) (v : List ℕ) (read : Term × List ℕ) → terms.term s (InProcess bound) v t ≡ Ok read → rules.part s bound t ≡ Ok (Leaf read.0)
    part_of (Named n ts) v read e =
        elim (chosen (nat_eq (count ts) 0) (terms.leaf s (InProcess bound) v n) _ read e) [
          | inl h ↦ where_true (nat_eq (count ts) 0) _ _ h.0 ∙ bare_of v n read h.1
          | inr h ↦ where_false (nat_eq (count ts) 0) _ _ h.0 ∙ node_of n ts (λ w r k. parts_of ts w r k) v read h.1
        ]
    part_of (Grouped n ts) v read e =
        let b = stepped (terms.terms s (InProcess bound) v ts) _ read e in
        let c = stepped (terms.grouped n b.value.0) _ read b.later in
        step_gives (rules.parts s bound ts) _ (plain b.value.0) _ (parts_of ts v b.value b.first)
        (grouped_of n b.value.0 c.value c.first ∙ ap (λ (x : Term × List ℕ). found (Leaf x.0)) (found_one (c.value, b.value.1) read c.later))

    parts_of : (ts : TermsSketch) (v : List ℕ) (read : List Term × List ℕ) → terms.terms s (InProcess bound) v ts ≡ Ok read → rules.parts s bound ts ≡ Ok (plain read.0)
    parts_of none v read e = ap (λ (x : List Term × List ℕ). found (plain x.0)) (found_one ([], v) read e)
    parts_of (more t ts) v read e =
        let a = stepped (terms.term s (InProcess bound) v t) _ read e in
        let b = stepped (terms.terms s (InProcess bound) a.value.1 ts) _ read a.later in
        step_gives (rules.part s bound t) _ (Leaf a.value.0) _ (part_of t v a.value a.first)
        (step_gives (rules.parts s bound ts) _ (plain b.value.0) _ (parts_of ts a.value.1 b.value b.first)
        (ap (λ (x : List Term × List ℕ). found (plain x.0)) (found_one (a.value.0 ∷ b.value.0, b.value.1) read b.later)))

  -- a term of a process is an expression, itself
  pub term_is_expression : (t : TermSketch) (x : Term) → terms.process_term s bound t ≡ Ok x → rules.expression s bound t ≡ Ok (Leaf x)
  term_is_expression t x e =
      let a = stepped (terms.term s (InProcess bound) [] t) _ x e in
      step_gives (rules.part s bound t) _ (Leaf a.value.0) _ (part_of t [] a.value a.first) (ap (λ (y : Term). found (Leaf y)) (found_one a.value.0 x a.later))

  bare_back : (v : List ℕ) (n : ℕ) (x : Term) → rules.bare s bound n ≡ Ok (Leaf x) → terms.leaf s (InProcess bound) v n ≡ Ok (x, v)
  bare_back v n x e =
      let a = stepped (terms.process_term s bound (Named n none)) _ (Leaf x) e in
      let b = stepped (terms.leaf s (InProcess bound) [] n) _ a.value a.first in
      let c = stepped (terms.process_leaf (bound_as s.text bound n) (look s n) n) _ b.value b.first in
      let first : c.value ≡ b.value.0 = ap (λ (y : Term × List ℕ). y.0) (found_one (c.value, []) b.value c.later) in
      let second : b.value.0 ≡ a.value = found_one b.value.0 a.value b.later in
      let third : a.value ≡ x = (let same = a.later in cc) in
      ap (λ (y : Answer Term). terms.unchanged v y) c.first ∙ ap (λ (y : Term). found (y, v)) (first ∙ (second ∙ third))

  node_back : (n : ℕ) (ts : TermsSketch) → ((xs : List Term) (v : List ℕ) → rules.parts s bound ts ≡ Ok (plain xs) → terms.terms s (InProcess bound) v ts ≡ Ok (xs, v)) → (x : Term) (v : List ℕ)
      → (rules.root n (count ts) (look s n) >>= λ root. rules.parts s bound ts >>= λ arguments. rules.sized n (rules.rooted root arguments)) ≡ Ok (Leaf x)
      → (terms.constructor n (count ts) (look s n) >>= λ number. terms.terms s (InProcess bound) v ts >>= λ arguments. terms.sized n (node (Constructor number) arguments.0) >>= λ whole. found (whole, arguments.1)) ≡ reads x v
  node_back n ts rows x v e =
      let a = stepped (rules.root n (count ts) (look s n)) _ (Leaf x) e in
      let b = stepped (rules.parts s bound ts) _ (Leaf x) a.later in
      let small = kept (nat_le (expression_size (rules.rooted a.value b.value)) most_written_symbols) n (rules.rooted a.value b.value) (Leaf x) b.later in
      let (f, xs, root_is, are, is) = rooted_back a.value b.value x small.1 in
      let (number, constructed, named) = root_back n (count ts) (look s n) f (a.first ∙ ap (λ (r : Head ℕ). found r) root_is) in
      let whole : x ≡ node (Constructor number) xs = is ∙ ap (λ (g : Symbol). node g xs) named in
      let passes : nat_le (size (node (Constructor number) xs)) most_written_symbols ≡ true =
      ap (λ (y : Term). nat_le (size y) most_written_symbols) (sym whole) ∙ (ap (λ (y : Expression). nat_le (expression_size y) most_written_symbols) small.1 ∙ small.0) in
      step_gives (terms.constructor n (count ts) (look s n)) _ number _ constructed
      (step_gives (terms.terms s (InProcess bound) v ts) _ (xs, v) _ (rows xs v (b.first ∙ ap (λ (y : List Expression). found y) are))
      (step_gives (terms.sized n (node (Constructor number) xs)) _ (node (Constructor number) xs) _ (ap (λ (k : Bool). within k n (node (Constructor number) xs)) passes) (ap (λ (y : Term). found (y, v)) (sym whole))))

  mutual
    part_back : (t : TermSketch) (x : Term) (v : List ℕ) → rules.part s bound t ≡ Ok (Leaf x) → terms.term s (InProcess bound) v t ≡ Ok (x, v)
    part_back (Named n ts) x v e =
        elim (chosen (nat_eq (count ts) 0) (rules.bare s bound n) _ (Leaf x) e) [
          | inl h ↦ where_true (nat_eq (count ts) 0) _ _ h.0 ∙ bare_back v n x h.1
          | inr h ↦ where_false (nat_eq (count ts) 0) _ _ h.0 ∙ node_back n ts (λ xs w k. parts_back ts xs w k) x v h.1
        ]
    part_back (Grouped n ts) x v e =
        let b = stepped (rules.parts s bound ts) _ (Leaf x) e in
        let (xs, are, is) = grouped_back n b.value x b.later in
        step_gives (terms.terms s (InProcess bound) v ts) _ (xs, v) _ (parts_back ts xs v (b.first ∙ ap (λ (y : List Expression). found y) are))
        (step_gives (terms.grouped n xs) _ x _ is refl)

    parts_back : (ts : TermsSketch) (xs : List Term) (v : List ℕ) → rules.parts s bound ts ≡ Ok (plain xs) → terms.terms s (InProcess bound) v ts ≡ Ok (xs, v)
    parts_back none [] v e = refl
    parts_back none (x ∷ xs) v e = absurd (let same = e in cc)
    parts_back (more t ts) [] v e =
        let a = stepped (rules.part s bound t) _ [] e in
        let b = stepped (rules.parts s bound ts) _ [] a.later in
        absurd (let same = b.later in cc)
    parts_back (more t ts) (x ∷ xs) v e =
        let a = stepped (rules.part s bound t) _ (plain (x ∷ xs)) e in
        let b = stepped (rules.parts s bound ts) _ (plain (x ∷ xs)) a.later in
        let first : a.value ≡ Leaf x = (let same = b.later in cc) in
        let others : b.value ≡ plain xs = (let same = b.later in cc) in
        step_gives (terms.term s (InProcess bound) v t) _ (x, v) _ (part_back t x v (a.first ∙ ap (λ (y : Expression). found y) first))
        (step_gives (terms.terms s (InProcess bound) v ts) _ (xs, v) _ (parts_back ts xs v (b.first ∙ ap (λ (y : List Expression). found y) others)) refl)

  -- an expression that is a term is read of a term of a process
  pub expression_is_term : (t : TermSketch) (x : Term) → rules.expression s bound t ≡ Ok (Leaf x) → terms.process_term s bound t ≡ Ok x
  expression_is_term t x e =
      let a = stepped (rules.part s bound t) _ (Leaf x) e in
      let small = kept _ (rules.first_token t) a.value (Leaf x) a.later in
      step_gives (terms.term s (InProcess bound) [] t) _ (x, []) _ (part_back t x [] (a.first ∙ ap (λ (y : Expression). found y) (sym small.1))) refl

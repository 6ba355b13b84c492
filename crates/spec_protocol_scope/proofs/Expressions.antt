-- The expressions of `let`s that the rules of scope give.
use Rattle.std.proofs.Common.{◌≡◌, ℕ, ◌<◌, ◌≤◌, nat_eq, nat_le, ◌&&◌, List, [], ◌∷◌, length, Option, None, Some, option_map, Ok, inl, inr, refl, ap, subst, ◌∙◌, sym, arith}
use Rattle.std.specs.List.{AllByRecursion}
use Rattle.std.specs.Option.{option_map_or}
use Rattle.std.proofs.lemmas.Bool.{leb-true}
use Rattle.spec_trees.specs.Tree.{Leaf, Node, node, trees}
use Rattle.spec_trees.proofs.Equality.{and_true}
use Rattle.spec_calculus.specs.Bounds.{most_arguments, most_written_symbols, most_applications, most_choices}
use Rattle.spec_calculus.specs.Syntax.{Name, Symbol, Constructor, Tuple, Term, Head, Builds, Calls, Expression, Rule}
use Rattle.spec_calculus.specs.Points.{numbered}
use Rattle.spec_calculus.specs.Choices.{applications, row_applications, choice_count}
use Rattle.spec_calculus.specs.Refusals.{AreUniform}
use Rattle.spec_calculus.proofs.Items.{of_some, of_map, each-append, each-numbered, each-weaker, if_some-is}
use Rattle.spec_well_formed.specs.Signature.{Signature}
use Rattle.spec_well_formed.specs.Leaves.{leaves, leaves_of}
use Rattle.spec_well_formed.specs.Terms.{EachSymbol, EachSymbolInRow, TakesArguments, TakesParts, HasRulesFor, rule_count, expression_size, IsKnown, IsMerged, IsMergedRow, IsTermBelow, IsExpressionBelow}
use Rattle.spec_protocol_grammar.specs.Sketch.{TermSketch, Named, Grouped, TermsSketch, none, more}
use Rattle.spec_protocol_scope.specs.Answers.{◌>>=◌}
use Rattle.spec_protocol_scope.specs.Names.{signature_with, Scope, Meaning, MeansFree, MeansConstructor, MeansDestructor, MeansEvent, MeansTable, MeansMacro, look, Bound, arity_of}
use Rattle.spec_protocol_scope.specs.Terms as terms
use Rattle.spec_protocol_scope.specs.Terms.{count}
use Rattle.spec_protocol_scope.specs.Expressions as rules
use Rattle.spec_protocol_scope.specs.Expressions.{terms_of}
use Rattle.spec_protocol_scope.proofs.Stepped.{stepped, kept, chosen, found, found_one}
use Rattle.spec_protocol_scope.proofs.Solid.{IsSolid, AreSolid}
use Rattle.spec_protocol_scope.proofs.Terms.{taken, constructed}
use Rattle.spec_protocol_scope.proofs.Meanings.{is_meant}
use Rattle.spec_protocol_scope.proofs.Known.{row_length-trees, over_node, looked_arity}
use Rattle.spec_protocol_scope.proofs.Patterns.{names_of, AreBindable, term_below}

-- a term is an expression within all limits
pub plain_below : (signature : Signature) (names : List Name) (t : Term) → IsTermBelow signature names t → IsExpressionBelow signature names (Leaf t)
plain_below signature names t h = record { terms = (h, tt); heads = tt; merged = tt; few = h.few; few_applications = omega arith; few_choices = omega arith }

-- parts that are terms are no more than these terms
terms_of-leaves : (es : List Expression) (ts : List Term) → terms_of es ≡ Some ts → leaves_of es ≡ ts
terms_of-leaves [] ts e = of_some [] ts e
terms_of-leaves (Leaf t ∷ es) ts e =
    let (others, there, is) = of_map (λ (us : List Term). t ∷ us) (terms_of es) ts e in
    ap (λ (us : List Term). t ∷ us) (terms_of-leaves es others there) ∙ is
terms_of-leaves (Node root inner ∷ es) ts e = absurd (let same = e in cc)

terms_of-length : (es : List Expression) (ts : List Term) → terms_of es ≡ Some ts → length ts ≡ length es
terms_of-length [] ts e = ap (λ (us : List Term). length us) (sym (of_some [] ts e))
terms_of-length (Leaf t ∷ es) ts e =
    let (others, there, is) = of_map (λ (us : List Term). t ∷ us) (terms_of es) ts e in
    let n = terms_of-length es others there in
    subst (λ (us : List Term). length us ≡ length (Leaf t ∷ es)) is (omega (arith, n))
terms_of-length (Node root inner ∷ es) ts e = absurd (let same = e in cc)

-- among parts that are not all terms a destructor stands
applies : (es : List Expression) → IsMergedRow (trees es) → terms_of es ≡ None → 0 < row_applications (trees es)
applies [] merged e = absurd (let same = e in cc)
applies (Leaf t ∷ es) merged e = let later = by (terms_of es) (λ h. applies es merged.1 h) e in omega (arith, later)
  where
    by : (o : Option (List Term)) → (o ≡ None → 0 < row_applications (trees es)) → option_map (λ ts. t ∷ ts) o ≡ None → 0 < row_applications (trees es)
    by None later e = later refl
    by (Some ts) later e = absurd (let same = e in cc)
applies (Node (Builds f) inner ∷ es) merged e = let some = merged.0.0 in omega arith
applies (Node (Calls d) inner ∷ es) merged e = omega arith

-- all rules have as many arguments as the first
uniform_arity : (rs : List Rule) (arity : ℕ) → AreUniform rs → arity_of rs ≡ arity → AllByRecursion (λ r. length r.left ≡ arity) rs
uniform_arity [] arity h e = tt
uniform_arity (r ∷ rs) arity h e = (e, each-weaker _ _ (λ x k. k ∙ e) rs h)

module _ (s : Scope) (uniform : AllByRecursion (λ d. AreUniform d.rules) s.names.destructors) (outer : List Bound) (bindable : AreBindable outer) where
  abbrev signature : Signature
  signature = signature_with s.names

  rules_for : (n number arity given : ℕ) → look s n ≡ Some (MeansDestructor number arity) → arity ≡ given → HasRulesFor (signature_with s.names) number given
  rules_for n number arity given is e =
      let m = is_meant s.text s.names (s.text n) (MeansDestructor number arity) is in
      record {
        destructor = m.item;
        stands = m.stands;
        are = uniform_arity m.item.rules given (if_some-is (λ d. AreUniform d.rules) (numbered s.names.destructors number) m.item (each-numbered (λ d. AreUniform d.rules) s.names.destructors number uniform) m.stands) (m.is ∙ e);
      }

  -- what holds of a part, and of a row of parts
  record IsPart (e : Expression) : Type 0 where
    terms : AllByRecursion (IsTermBelow signature (names_of outer)) (leaves e)
    heads : EachSymbol (TakesParts signature) e
    merged : IsMerged e
    few : expression_size e ≤ most_written_symbols

  record IsRow (es : List Expression) : Type 0 where
    terms : AllByRecursion (IsTermBelow signature (names_of outer)) (leaves_of es)
    heads : EachSymbolInRow (TakesParts signature) (trees es)
    merged : IsMergedRow (trees es)

  row_of : (es : List Expression) → AllByRecursion IsPart es → IsRow es
  row_of [] h = record { terms = tt; heads = tt; merged = tt }
  row_of (e ∷ es) h =
      let row = row_of es h.1 in
      record {
        terms = each-append (IsTermBelow signature (names_of outer)) (leaves e) (leaves_of es) h.0.terms row.terms;
        heads = (h.0.heads, row.heads);
        merged = (h.0.merged, row.merged);
      }

  leaf_part : (t : Term) → IsTermBelow signature (names_of outer) t → IsPart (Leaf t)
  leaf_part t h = record { terms = (h, tt); heads = tt; merged = tt; few = h.few }

  -- a constructor or a tuple of parts
  built_part : (f : Symbol) (es : List Expression) → TakesArguments signature f (length es) → IsRow es → expression_size (rules.built f es) ≤ most_written_symbols → IsPart (rules.built f es)
  built_part f es takes row small = by (terms_of es) refl small
    where
      by : (o : Option (List Term)) → terms_of es ≡ o → expression_size (option_map_or (λ ts. Leaf (node f ts)) o (node (Builds f) es)) ≤ most_written_symbols
          → IsPart (option_map_or (λ ts. Leaf (node f ts)) o (node (Builds f) es))
      by (Some ts) e small = leaf_part (node f ts) (over_node signature (IsKnown signature (names_of outer)) f ts (subst (TakesArguments signature f) (sym (terms_of-length es ts e)) takes) small
          (subst (AllByRecursion (IsTermBelow signature (names_of outer))) (terms_of-leaves es ts e) row.terms))
      by None e small = record {
        terms = row.terms;
        heads = (subst (TakesArguments signature f) (sym (row_length-trees es)) takes, row.heads);
        merged = (applies es row.merged e, row.merged);
        few = small;
      }

  rooted_part : (root : Head ℕ) (es : List Expression) → TakesParts signature root (length es) → IsRow es → expression_size (rules.rooted root es) ≤ most_written_symbols → IsPart (rules.rooted root es)
  rooted_part (Builds f) es takes row small = built_part f es takes row small
  rooted_part (Calls d) es takes row small = record {
    terms = row.terms;
    heads = (subst (HasRulesFor signature d) (sym (row_length-trees es)) takes, row.heads);
    merged = row.merged;
    few = small;
  }

  -- a root takes as many parts as are there
  built_root : (n given : ℕ) (m : Option Meaning) (root : Head ℕ) → look s n ≡ m → (terms.constructor n given m >>= λ number. found (Builds (Constructor number))) ≡ Ok root → TakesParts signature root given
  built_root n given m root is e =
      let a = stepped (terms.constructor n given m) _ root e in
      let c = constructed n given m a.value a.first in
      subst (λ (r : Head ℕ). TakesParts signature r given) (found_one (Builds (Constructor a.value)) root a.later) (looked_arity s n a.value c.arity given c.is_data (is ∙ c.is) c.takes)

  root_takes : (n given : ℕ) (m : Option Meaning) (root : Head ℕ) → look s n ≡ m → rules.root n given m ≡ Ok root → TakesParts signature root given
  root_takes n given (Some (MeansDestructor number arity)) root is e =
      let a = stepped (terms.taking n number arity given) _ root e in
      let t = taken n number arity given a.value a.first in
      subst (λ (r : Head ℕ). TakesParts signature r given) (found_one (Calls a.value) root a.later)
      (subst (λ (j : ℕ). HasRulesFor signature j given) (sym t.1) (rules_for n number arity given is t.0))
  root_takes n given None root is e = built_root n given None root is e
  root_takes n given (Some (MeansFree i)) root is e = built_root n given (Some (MeansFree i)) root is e
  root_takes n given (Some (MeansConstructor i arity is_data)) root is e = built_root n given (Some (MeansConstructor i arity is_data)) root is e
  root_takes n given (Some (MeansEvent i arity)) root is e = built_root n given (Some (MeansEvent i arity)) root is e
  root_takes n given (Some (MeansTable i arity)) root is e = built_root n given (Some (MeansTable i arity)) root is e
  root_takes n given (Some MeansMacro) root is e = built_root n given (Some MeansMacro) root is e

  -- what is read of a row: parts, as many as its sketch has
  record AreParts (given : ℕ) (es : List Expression) : Type 0 where
    each : AllByRecursion IsPart es
    counts : length es ≡ given

  abbrev Rows : TermsSketch → Type 0
  Rows ts = (es : List Expression) → rules.parts s outer ts ≡ Ok es → AreParts (count ts) es

  bare_part : (n : ℕ) (e : Expression) → rules.bare s outer n ≡ Ok e → IsPart e
  bare_part n e is =
      let a = stepped (terms.process_term s outer (Named n none)) _ e is in
      subst IsPart (found_one (Leaf a.value) e a.later) (leaf_part a.value (term_below s outer bindable (Named n none) tt a.value a.first))

  applied_part : (n : ℕ) (ts : TermsSketch) → Rows ts → (e : Expression)
      → (rules.root n (count ts) (look s n) >>= λ root. rules.parts s outer ts >>= λ arguments. rules.sized n (rules.rooted root arguments)) ≡ Ok e → IsPart e
  applied_part n ts rows e is =
      let a = stepped (rules.root n (count ts) (look s n)) _ e is in
      let b = stepped (rules.parts s outer ts) _ e a.later in
      let r = rows b.value b.first in
      let small = kept (nat_le (expression_size (rules.rooted a.value b.value)) most_written_symbols) n (rules.rooted a.value b.value) e b.later in
      subst IsPart (sym small.1) (rooted_part a.value b.value (subst (TakesParts signature a.value) (sym r.counts) (root_takes n (count ts) (look s n) a.value refl a.first)) (row_of b.value r.each)
      (leb-true (expression_size (rules.rooted a.value b.value)) most_written_symbols small.0))

  named_part : (n : ℕ) (ts : TermsSketch) → Rows ts → (e : Expression) → rules.part s outer (Named n ts) ≡ Ok e → IsPart e
  named_part n ts rows e is = elim (chosen (nat_eq (count ts) 0) (rules.bare s outer n) _ e is) [ inl h ↦ bare_part n e h.1 | inr h ↦ applied_part n ts rows e h.1 ]

  tuple_part : (n : ℕ) (es : List Expression) → AllByRecursion IsPart es → 2 ≤ length es → (e : Expression) → rules.tuple n es ≡ Ok e → IsPart e
  tuple_part n es each many e is =
      let small = kept (nat_le (length es) most_arguments && nat_le (expression_size (rules.built Tuple es)) most_written_symbols) n (rules.built Tuple es) e is in
      let both = and_true (nat_le (length es) most_arguments) (nat_le (expression_size (rules.built Tuple es)) most_written_symbols) small.0 in
      subst IsPart (sym small.1) (built_part Tuple es (many, leb-true (length es) most_arguments both.0) (row_of es each) (leb-true (expression_size (rules.built Tuple es)) most_written_symbols both.1))

  grouped_part : (n : ℕ) (es : List Expression) → AllByRecursion IsPart es → 0 < length es → (e : Expression) → rules.grouped n es ≡ Ok e → IsPart e
  grouped_part n [] each some e is = absurd (omega arith)
  grouped_part n (one ∷ []) each some e is = subst IsPart (found_one one e is) each.0
  grouped_part n (one ∷ two ∷ es) each some e is = tuple_part n (one ∷ two ∷ es) each (omega arith) e is

  inner_part : (n : ℕ) (ts : TermsSketch) → Rows ts → 0 < count ts → (e : Expression) → rules.part s outer (Grouped n ts) ≡ Ok e → IsPart e
  inner_part n ts rows some e is =
      let b = stepped (rules.parts s outer ts) _ e is in
      let r = rows b.value b.first in
      grouped_part n b.value r.each (subst (λ (k : ℕ). 0 < k) (sym r.counts) some) e b.later

  more_parts : (t : TermSketch) (ts : TermsSketch) → ((e : Expression) → rules.part s outer t ≡ Ok e → IsPart e) → Rows ts → Rows (more t ts)
  more_parts t ts first others es is =
      let a = stepped (rules.part s outer t) _ es is in
      let b = stepped (rules.parts s outer ts) _ es a.later in
      let r = others b.value b.first in
      subst (AreParts (count (more t ts))) (found_one (a.value ∷ b.value) es b.later) (record { each = (first a.value a.first, r.each); counts = omega (arith, r.counts) })

  mutual
    part_is : (t : TermSketch) → IsSolid t → (e : Expression) → rules.part s outer t ≡ Ok e → IsPart e
    part_is (Named n ts) solid e is = named_part n ts (λ es h. parts_are ts solid es h) e is
    part_is (Grouped n none) solid e is = absurd solid
    part_is (Grouped n (more t ts)) solid e is =
        inner_part n (more t ts) (λ es h. more_parts t ts (λ x y. part_is t solid.0 x y) (λ x y. parts_are ts solid.1 x y) es h) (omega arith) e is

    parts_are : (ts : TermsSketch) → AreSolid ts → Rows ts
    parts_are none solid es is = subst (AreParts 0) (found_one [] es is) (record { each = tt; counts = refl })
    parts_are (more t ts) solid es is = more_parts t ts (λ x y. part_is t solid.0 x y) (λ x y. parts_are ts solid.1 x y) es is

  pub expression_below : (t : TermSketch) → IsSolid t → (e : Expression) → rules.expression s outer t ≡ Ok e → IsExpressionBelow signature (names_of outer) e
  expression_below t solid e is =
      let a = stepped (rules.part s outer t) _ e is in
      let count_of : Expression → ℕ = choice_count (rule_count signature) in
      let small = kept (nat_le (applications a.value) most_applications && nat_le (count_of a.value) most_choices) (rules.first_token t) a.value e a.later in
      let both = and_true (nat_le (applications a.value) most_applications) (nat_le (count_of a.value) most_choices) small.0 in
      let h = part_is t solid a.value a.first in
      subst (IsExpressionBelow signature (names_of outer)) (sym small.1) (record {
        terms = h.terms;
        heads = h.heads;
        merged = h.merged;
        few = h.few;
        few_applications = leb-true (applications a.value) most_applications both.0;
        few_choices = leb-true (count_of a.value) most_choices both.1;
      })

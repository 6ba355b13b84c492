-- What holds of each pattern that the rules of scope give.
use Rattle.std.proofs.Common.{◌≡◌, ℕ, ◌+◌, ◌<◌, ◌≤◌, Bool, true, false, nat_eq, nat_le, ◌||◌, List, [], ◌∷◌, ◌++◌, length, map, filter_map, Option, None, Some, is_some, Ok, inl, inr, refl, ap, subst, ◌∙◌, sym, arith}
use Rattle.std.specs.List.{AllByRecursion, list_any}
use Rattle.std.proofs.lemmas.Bool.{leb-true, eqb-true}
use Rattle.std.proofs.lemmas.List.{length-append, append-nil, append_assoc, map-append}
use Rattle.std.proofs.lemmas.List.Elements.{filter_map-append}
use Rattle.spec_trees.specs.Tree.{Leaf, node, trees}
use Rattle.spec_calculus.specs.Bounds.{most_arguments}
use Rattle.spec_calculus.specs.Syntax as calculus
use Rattle.spec_calculus.specs.Syntax.{Name, Variable, Symbol, Hole, Bind, Term, Pattern}
use Rattle.spec_calculus.specs.Matching.{is_binding, IsLinear, IsLinearRow}
use Rattle.spec_calculus.proofs.Items.{each-append, each-weaker}
use Rattle.spec_well_formed.specs.Leaves.{leaves, leaves_of}
use Rattle.spec_well_formed.specs.Terms.{EachSymbol, EachSymbolInRow, HasDataArity, TakesPatterns, IsTermBelow, IsHoleBelow, bound_by_hole}
use Rattle.spec_protocol_grammar.specs.Sketch.{TermSketch, PatternSketch, NamedPattern, Equal, GroupedPattern, PatternsSketch, no_patterns, more_patterns}
use Rattle.spec_protocol_scope.specs.Answers.{Twice, Kind, Unknown, ◌>>=◌, fault}
use Rattle.spec_protocol_scope.specs.Names.{signature_with, Scope, Meaning, MeansFree, MeansConstructor, MeansDestructor, MeansEvent, MeansTable, MeansMacro, look, Bound, bound_as}
use Rattle.spec_protocol_scope.specs.Terms as terms
use Rattle.spec_protocol_scope.specs.Terms.{InProcess}
use Rattle.spec_protocol_scope.specs.Patterns as rules
use Rattle.spec_protocol_scope.specs.Patterns.{count}
use Rattle.spec_protocol_scope.proofs.Stepped.{stepped, faulty, kept, chosen, found, found_one}
use Rattle.spec_protocol_scope.proofs.Solid.{IsSolid, IsSolidPattern, AreSolidPatterns}
use Rattle.spec_protocol_scope.proofs.Terms.{term_holds, taken}
use Rattle.spec_protocol_scope.proofs.Numbering.{some_leaf-leaves, some_leaves-leaves}
use Rattle.spec_protocol_scope.proofs.Meanings.{is_meant}
use Rattle.spec_protocol_scope.proofs.Known.{row_length-trees, IsBindable, Over, OverRow, over}

-- the names that are bound
abbrev pub names_of : List Bound → List Name
names_of bound = map (λ b. b.name) bound

abbrev pub AreBindable : List Bound → Type 0
AreBindable bound = AllByRecursion (λ b. IsBindable b.name) bound

-- a term of a process is over what is declared and bound
pub term_below : (s : Scope) (outer : List Bound) → AreBindable outer → (t : TermSketch) → IsSolid t → (x : Term) → terms.process_term s outer t ≡ Ok x → IsTermBelow (signature_with s.names) (names_of outer) x
term_below s outer bindable t solid x e =
    let a = stepped (terms.term s (InProcess outer) [] t) _ x e in
    subst (IsTermBelow (signature_with s.names) (names_of outer)) (found_one a.value.0 x a.later)
    (term_holds s (InProcess outer) (Over s (InProcess outer)) (OverRow s (InProcess outer)) (over s (InProcess outer) bindable) t solid [] a.value a.first)

-- the hole binds no variable, or one of these numbers
abbrev pub BindsIn : ℕ → ℕ → Hole → Type 0
BindsIn low high (Bind i) = (low ≤ i) × (i < high)
BindsIn low high (calculus.Equal t) = Unit {0}

pub binds_in-wider : (low high lower higher : ℕ) → lower ≤ low → high ≤ higher → (h : Hole) → BindsIn low high h → BindsIn lower higher h
binds_in-wider low high lower higher down up (Bind i) h = (omega (arith, h.0), omega (arith, h.1))
binds_in-wider low high lower higher down up (calculus.Equal t) h = tt

-- a binder of the number is in between
bound_between : (low high i : ℕ) (hs : List Hole) → AllByRecursion (BindsIn low high) hs → list_any (is_binding i) hs ≡ true → (low ≤ i) × (i < high)
bound_between low high i [] all e = absurd (let same = e in cc)
bound_between low high i (Bind j ∷ hs) all e = by (nat_eq j i) (λ h. eqb-true j i h) (λ h. bound_between low high i hs all.1 h) e
  where
    by : (b : Bool) → (b ≡ true → j ≡ i) → (list_any (is_binding i) hs ≡ true → (low ≤ i) × (i < high)) → (b || list_any (is_binding i) hs) ≡ true → (low ≤ i) × (i < high)
    by true is later e = let same = is refl in (omega (arith, all.0.0), omega (arith, all.0.1))
    by false is later e = later e
bound_between low high i (calculus.Equal t ∷ hs) all e = bound_between low high i hs all.1 e

-- none of a number below
none_below : (low high i : ℕ) → i < low → (hs : List Hole) → AllByRecursion (BindsIn low high) hs → list_any (is_binding i) hs ≡ false
none_below low high i under [] all = refl
none_below low high i under (Bind j ∷ hs) all = by (nat_eq j i) (λ h. eqb-true j i h) (none_below low high i under hs all.1)
  where
    by : (b : Bool) → (b ≡ true → j ≡ i) → list_any (is_binding i) hs ≡ false → (b || list_any (is_binding i) hs) ≡ false
    by true is later = absurd (let same = is refl in omega (arith, all.0.0))
    by false is later = later
none_below low high i under (calculus.Equal t ∷ hs) all = none_below low high i under hs all.1

module _ (s : Scope) (outer : List Bound) (first : ℕ) where
  -- what the holes bind, with what was bound before and behind them
  pub record Binds (before : List Bound) (hs : List Hole) (behind : List Bound) : Type 0 where
    pub up : length before ≤ length behind
    pub within : AllByRecursion (BindsIn (first + length before) (first + length behind)) hs
    pub names : names_of behind ≡ names_of before ++ filter_map bound_by_hole hs
    pub holes : AllByRecursion (IsHoleBelow (signature_with s.names) (names_of outer)) hs

  binds-nothing : (before : List Bound) → Binds before [] before
  binds-nothing before = record { up = omega arith; within = tt; names = sym (append-nil (names_of before)); holes = tt }

  binds-append : (before : List Bound) (hs : List Hole) (between : List Bound) (ks : List Hole) (behind : List Bound) → Binds before hs between → Binds between ks behind → Binds before (hs ++ ks) behind
  binds-append before hs between ks behind a b = record {
    up = let x = a.up in let y = b.up in omega arith;
    within = each-append _ hs ks
        (each-weaker _ _ (binds_in-wider (first + length before) (first + length between) (first + length before) (first + length behind) (omega arith) (let y = b.up in omega arith)) hs a.within)
        (each-weaker _ _ (binds_in-wider (first + length between) (first + length behind) (first + length before) (first + length behind) (let x = a.up in omega arith) (omega arith)) ks b.within);
    names = b.names ∙ (ap (λ (xs : List Name). xs ++ filter_map bound_by_hole ks) a.names ∙ (append_assoc (names_of before) (filter_map bound_by_hole hs) (filter_map bound_by_hole ks) ∙ ap (λ (xs : List Name). names_of before ++ xs) (sym (filter_map-append bound_by_hole hs ks))));
    holes = each-append _ hs ks a.holes b.holes;
  }

  -- a pattern, and a row
  pub record OnePattern (before : List Bound) (p : Pattern) (behind : List Bound) : Type 0 where
    pub binds : Binds before (leaves p) behind
    pub linear : IsLinear p
    pub arities : EachSymbol (TakesPatterns (signature_with s.names)) p

  pub record RowOfPatterns (before : List Bound) (ps : List Pattern) (behind : List Bound) : Type 0 where
    pub binds : Binds before (leaves_of ps) behind
    pub linear : IsLinearRow (trees ps)
    pub arities : EachSymbolInRow (TakesPatterns (signature_with s.names)) (trees ps)

  abbrev OneRead : List Bound → Pattern × List Bound → Type 0
  OneRead before read = OnePattern before read.0 read.1

  pub record RowRead (before : List Bound) (ps : PatternsSketch) (read : List Pattern × List Bound) : Type 0 where
    pub row : RowOfPatterns before read.0 read.1
    pub counts : length read.0 ≡ count ps

  bind_read : (before : List Bound) (n : ℕ) → OneRead before (Leaf (Bind (first + length before)), before ++ record { token = n; name = Variable (first + length before) } ∷ [])
  bind_read before n = record {
    binds = record {
      up = let more = length-append before (record { token = n; name = Variable (first + length before) } ∷ []) in omega arith;
      within = ((omega arith, let more = length-append before (record { token = n; name = Variable (first + length before) } ∷ []) in omega arith), tt);
      names = map-append (λ b. b.name) before (record { token = n; name = Variable (first + length before) } ∷ []);
      holes = (tt, tt);
    };
    linear = tt;
    arities = tt;
  }

  binder_read : (before : List Bound) (n : ℕ) (read : Pattern × List Bound) → rules.binder s (first + length before) before n ≡ Ok read → OneRead before read
  binder_read before n read e =
      elim (chosen (is_some (bound_as s.text before n)) (fault Twice n) _ read e) [
        | inl h ↦ absurd (faulty Twice n read h.1)
        | inr h ↦ subst (OneRead before) (found_one (Leaf (Bind (first + length before)), before ++ record { token = n; name = Variable (first + length before) } ∷ []) read h.1) (bind_read before n)
      ]

  over_patterns : (f : Symbol) (before : List Bound) (ps : List Pattern) (behind : List Bound) → TakesPatterns (signature_with s.names) f (length ps) → RowOfPatterns before ps behind → OnePattern before (node f ps) behind
  over_patterns f before ps behind takes row = record {
    binds = row.binds;
    linear = row.linear;
    arities = (subst (TakesPatterns (signature_with s.names) f) (sym (row_length-trees ps)) takes, row.arities);
  }

  data_constructor : (n given : ℕ) (m : Option Meaning) (number : ℕ) → look s n ≡ m → rules.data_constructor n given m ≡ Ok number → HasDataArity s.names.constructors number given
  data_constructor n given None number is e = absurd (faulty Unknown n number e)
  data_constructor n given (Some (MeansConstructor i arity is_data)) number is e =
      elim (chosen is_data (terms.taking n i arity given) (fault Kind n) number e) [
        | inl h ↦ let t = taken n i arity given number h.1 in
            let m = is_meant s.text s.names (s.text n) (MeansConstructor i arity is_data) is in
            subst (λ (j : ℕ). HasDataArity s.names.constructors j given) (sym t.1) (record { declared = m.item; stands = m.stands; is = m.is.0 ∙ t.0; is_data = m.is.1 ∙ h.0 })
        | inr h ↦ absurd (faulty Kind n number h.1)
      ]
  data_constructor n given (Some (MeansFree i)) number is e = absurd (faulty Kind n number e)
  data_constructor n given (Some (MeansDestructor i arity)) number is e = absurd (faulty Kind n number e)
  data_constructor n given (Some (MeansEvent i arity)) number is e = absurd (faulty Kind n number e)
  data_constructor n given (Some (MeansTable i arity)) number is e = absurd (faulty Kind n number e)
  data_constructor n given (Some MeansMacro) number is e = absurd (faulty Kind n number e)

  abbrev pub RowsRead : List Bound → PatternsSketch → Type 0
  RowsRead before ps = (read : List Pattern × List Bound) → rules.patterns s outer first before ps ≡ Ok read → RowRead before ps read

  node_read : (before : List Bound) (n : ℕ) (ps : PatternsSketch) → RowsRead before ps → (read : Pattern × List Bound)
      → (rules.data_constructor n (count ps) (look s n) >>= λ number. rules.patterns s outer first before ps >>= λ arguments. found (node (calculus.Constructor number) arguments.0, arguments.1)) ≡ Ok read
      → OneRead before read
  node_read before n ps rows read e =
      let a = stepped (rules.data_constructor n (count ps) (look s n)) _ read e in
      let b = stepped (rules.patterns s outer first before ps) _ read a.later in
      let r = rows b.value b.first in
      subst (OneRead before) (found_one (node (calculus.Constructor a.value) b.value.0, b.value.1) read b.later)
      (over_patterns (calculus.Constructor a.value) before b.value.0 b.value.1
      (subst (HasDataArity s.names.constructors a.value) (sym r.counts) (data_constructor n (count ps) (look s n) a.value refl a.first)) r.row)

  named_read : (before : List Bound) (n : ℕ) (ps : PatternsSketch) → RowsRead before ps → (read : Pattern × List Bound) → rules.pattern s outer first before (NamedPattern n ps) ≡ Ok read → OneRead before read
  named_read before n ps rows read e =
      elim (chosen (nat_eq (count ps) 0) (rules.binder s (first + length before) before n) _ read e) [ inl h ↦ binder_read before n read h.1 | inr h ↦ node_read before n ps rows read h.1 ]

  equal_read : AreBindable outer → (before : List Bound) (n : ℕ) (t : TermSketch) → IsSolid t → (read : Pattern × List Bound) → rules.pattern s outer first before (Equal n t) ≡ Ok read → OneRead before read
  equal_read bindable before n t solid read e =
      let a = stepped (terms.process_term s outer t) _ read e in
      subst (OneRead before) (found_one (Leaf (calculus.Equal a.value), before) read a.later) (record {
        binds = record { up = omega arith; within = (tt, tt); names = sym (append-nil (names_of before)); holes = (term_below s outer bindable t solid a.value a.first, tt) };
        linear = tt;
        arities = tt;
      })

  single_read : (before : List Bound) (p : Pattern) (behind : List Bound) → RowOfPatterns before (p ∷ []) behind → OnePattern before p behind
  single_read before p behind row = record {
    binds = subst (λ (hs : List Hole). Binds before hs behind) (append-nil (leaves p)) row.binds;
    linear = row.linear.0;
    arities = row.arities.0;
  }

  parts_read : (before : List Bound) (n : ℕ) (ps : List Pattern) (behind : List Bound) (read : Pattern × List Bound) → RowOfPatterns before ps behind → 0 < length ps
      → (rules.grouped n ps >>= λ whole. found (whole, behind)) ≡ Ok read → OneRead before read
  parts_read before n [] behind read row some e = absurd (omega arith)
  parts_read before n (p ∷ []) behind read row some e = subst (OneRead before) (found_one (p, behind) read e) (single_read before p behind row)
  parts_read before n (p ∷ q ∷ ps) behind read row some e =
      let c = stepped (rules.grouped n (p ∷ q ∷ ps)) _ read e in
      let small = kept (nat_le (length (p ∷ q ∷ ps)) most_arguments) n (node calculus.Tuple (p ∷ q ∷ ps)) c.value c.first in
      subst (OneRead before) (ap (λ (x : Pattern). (x, behind)) (sym small.1) ∙ found_one (c.value, behind) read c.later)
      (over_patterns calculus.Tuple before (p ∷ q ∷ ps) behind (omega arith, leb-true (length (p ∷ q ∷ ps)) most_arguments small.0) row)

  grouped_read : (before : List Bound) (n : ℕ) (ps : PatternsSketch) → RowsRead before ps → 0 < count ps → (read : Pattern × List Bound) → rules.pattern s outer first before (GroupedPattern n ps) ≡ Ok read → OneRead before read
  grouped_read before n ps rows some read e =
      let b = stepped (rules.patterns s outer first before ps) _ read e in
      let r = rows b.value b.first in
      parts_read before n b.value.0 b.value.1 read r.row (subst (λ (k : ℕ). 0 < k) (sym r.counts) some) b.later

  -- what a pattern binds, those behind it bind not
  row_read : (before : List Bound) (p : Pattern) (between : List Bound) (ps : List Pattern) (behind : List Bound) → OnePattern before p between → RowOfPatterns between ps behind → RowOfPatterns before (p ∷ ps) behind
  row_read before p between ps behind one row = record {
    binds = binds-append before (leaves p) between (leaves_of ps) behind one.binds row.binds;
    linear = (
      one.linear,
      row.linear,
      λ i here.
          let at = bound_between (first + length before) (first + length between) i (leaves p) one.binds.within (sym (some_leaf-leaves (is_binding i) p) ∙ here) in
          some_leaves-leaves (is_binding i) (trees ps) ∙ none_below (first + length between) (first + length behind) i at.1 (leaves_of ps) row.binds.within,
    );
    arities = (one.arities, row.arities);
  }

  more_read : (before : List Bound) (p : PatternSketch) (ps : PatternsSketch) → ((x : Pattern × List Bound) → rules.pattern s outer first before p ≡ Ok x → OneRead before x)
      → ((between : List Bound) → RowsRead between ps) → RowsRead before (more_patterns p ps)
  more_read before p ps one others read e =
      let a = stepped (rules.pattern s outer first before p) _ read e in
      let b = stepped (rules.patterns s outer first a.value.1 ps) _ read a.later in
      let r = others a.value.1 b.value b.first in
      subst (RowRead before (more_patterns p ps)) (found_one (a.value.0 ∷ b.value.0, b.value.1) read b.later)
      (record { row = row_read before a.value.0 a.value.1 b.value.0 b.value.1 (one a.value a.first) r.row; counts = omega (arith, r.counts) })

  nothing_read : (before : List Bound) → RowsRead before no_patterns
  nothing_read before read e = subst (RowRead before no_patterns) (found_one ([], before) read e) (record { row = record { binds = binds-nothing before; linear = tt; arities = tt }; counts = refl })

  module _ (bindable : AreBindable outer) where
    mutual
      pub pattern_read : (p : PatternSketch) → IsSolidPattern p → (before : List Bound) (read : Pattern × List Bound) → rules.pattern s outer first before p ≡ Ok read → OneRead before read
      pattern_read (NamedPattern n ps) solid before read e = named_read before n ps (λ r h. patterns_read ps solid before r h) read e
      pattern_read (Equal n t) solid before read e = equal_read bindable before n t solid read e
      pattern_read (GroupedPattern n no_patterns) solid before read e = absurd solid
      pattern_read (GroupedPattern n (more_patterns p ps)) solid before read e =
          grouped_read before n (more_patterns p ps) (λ r h. more_read before p ps (λ x y. pattern_read p solid.0 before x y) (λ w x y. patterns_read ps solid.1 w x y) r h) (omega arith) read e

      pub patterns_read : (ps : PatternsSketch) → AreSolidPatterns ps → (before : List Bound) → RowsRead before ps
      patterns_read no_patterns solid before read e = nothing_read before read e
      patterns_read (more_patterns p ps) solid before read e = more_read before p ps (λ x y. pattern_read p solid.0 before x y) (λ w x y. patterns_read ps solid.1 w x y) read e

-- How contracts store sketches of terms and patterns.
use Rattle.std.specs.Prelude.{◌≡◌, ℕ, ◌+◌, max, List, refl}
use Rattle.std.proofs.Common.{ap}
use Rattle.std.specs.Coded.{Coded, coded_list}
use base.Stored.{Gv, gnil, gnum, gcons}
use Rattle.spec_trees.specs.Code.{head, tail}
use Rattle.spec_protocol_grammar.specs.Sketch.{TermSketch, Named, Grouped, TermsSketch, none, more, PatternSketch, NamedPattern, Equal, GroupedPattern, PatternsSketch, no_patterns, more_patterns}

abbrev number : Gv → ℕ
number gnil = 0
number (gnum n) = n
number (gcons a b) = 0

abbrev mutual
  pub term_code : TermSketch → Gv
  term_code (Named n ts) = gcons (gcons (gnum 0) (gnum n)) (terms_code ts)
  term_code (Grouped n ts) = gcons (gcons (gnum 1) (gnum n)) (terms_code ts)

  pub terms_code : TermsSketch → Gv
  terms_code none = gnil
  terms_code (more t ts) = gcons (term_code t) (terms_code ts)

mutual
  pub term_code-injective : (x y : TermSketch) → term_code x ≡ term_code y → x ≡ y
  term_code-injective (Named m xs) (Named n ys) e =
      let numbers : m ≡ n = ap (λ v. number (tail (head v))) e in
      let terms : xs ≡ ys = terms_code-injective xs ys (ap tail e) in cc
  term_code-injective (Named m xs) (Grouped n ys) e = let f : 0 ≡ 1 = ap (λ v. number (head (head v))) e in cc
  term_code-injective (Grouped m xs) (Named n ys) e = let f : 1 ≡ 0 = ap (λ v. number (head (head v))) e in cc
  term_code-injective (Grouped m xs) (Grouped n ys) e =
      let numbers : m ≡ n = ap (λ v. number (tail (head v))) e in
      let terms : xs ≡ ys = terms_code-injective xs ys (ap tail e) in cc

  pub terms_code-injective : (xs ys : TermsSketch) → terms_code xs ≡ terms_code ys → xs ≡ ys
  terms_code-injective none none e = refl
  terms_code-injective none (more y ys) e = cc
  terms_code-injective (more x xs) none e = cc
  terms_code-injective (more x xs) (more y ys) e =
      let first : x ≡ y = term_code-injective x y (ap head e) in
      let others : xs ≡ ys = terms_code-injective xs ys (ap tail e) in cc

abbrev pub coded_term_sketches : Coded (List TermSketch)
coded_term_sketches = coded_list (record { code = term_code; inj = term_code-injective })

abbrev mutual
  pub pattern_code : PatternSketch → Gv
  pattern_code (NamedPattern n ps) = gcons (gcons (gnum 0) (gnum n)) (patterns_code ps)
  pattern_code (Equal n t) = gcons (gcons (gnum 1) (gnum n)) (term_code t)
  pattern_code (GroupedPattern n ps) = gcons (gcons (gnum 2) (gnum n)) (patterns_code ps)

  pub patterns_code : PatternsSketch → Gv
  patterns_code no_patterns = gnil
  patterns_code (more_patterns p ps) = gcons (pattern_code p) (patterns_code ps)

mutual
  pub pattern_code-injective : (x y : PatternSketch) → pattern_code x ≡ pattern_code y → x ≡ y
  pattern_code-injective (NamedPattern m xs) (NamedPattern n ys) e =
      let numbers : m ≡ n = ap (λ v. number (tail (head v))) e in
      let patterns : xs ≡ ys = patterns_code-injective xs ys (ap tail e) in cc
  pattern_code-injective (NamedPattern m xs) (Equal n t) e = let f : 0 ≡ 1 = ap (λ v. number (head (head v))) e in cc
  pattern_code-injective (NamedPattern m xs) (GroupedPattern n ys) e = let f : 0 ≡ 2 = ap (λ v. number (head (head v))) e in cc
  pattern_code-injective (Equal m t) (NamedPattern n ys) e = let f : 1 ≡ 0 = ap (λ v. number (head (head v))) e in cc
  pattern_code-injective (Equal m t) (Equal n u) e =
      let numbers : m ≡ n = ap (λ v. number (tail (head v))) e in
      let terms : t ≡ u = term_code-injective t u (ap tail e) in cc
  pattern_code-injective (Equal m t) (GroupedPattern n ys) e = let f : 1 ≡ 2 = ap (λ v. number (head (head v))) e in cc
  pattern_code-injective (GroupedPattern m xs) (NamedPattern n ys) e = let f : 2 ≡ 0 = ap (λ v. number (head (head v))) e in cc
  pattern_code-injective (GroupedPattern m xs) (Equal n t) e = let f : 2 ≡ 1 = ap (λ v. number (head (head v))) e in cc
  pattern_code-injective (GroupedPattern m xs) (GroupedPattern n ys) e =
      let numbers : m ≡ n = ap (λ v. number (tail (head v))) e in
      let patterns : xs ≡ ys = patterns_code-injective xs ys (ap tail e) in cc

  pub patterns_code-injective : (xs ys : PatternsSketch) → patterns_code xs ≡ patterns_code ys → xs ≡ ys
  patterns_code-injective no_patterns no_patterns e = refl
  patterns_code-injective no_patterns (more_patterns y ys) e = cc
  patterns_code-injective (more_patterns x xs) no_patterns e = cc
  patterns_code-injective (more_patterns x xs) (more_patterns y ys) e =
      let first : x ≡ y = pattern_code-injective x y (ap head e) in
      let others : xs ≡ ys = patterns_code-injective xs ys (ap tail e) in cc

abbrev pub coded_pattern_sketches : Coded (List PatternSketch)
coded_pattern_sketches = coded_list (record { code = pattern_code; inj = pattern_code-injective })

-- how deep a sketch is
abbrev mutual
  pub term_depth : TermSketch → ℕ
  term_depth (Named n ts) = 1 + terms_depth ts
  term_depth (Grouped n ts) = 1 + terms_depth ts

  pub terms_depth : TermsSketch → ℕ
  terms_depth none = 0
  terms_depth (more t ts) = max (term_depth t) (terms_depth ts)

abbrev mutual
  pub pattern_depth : PatternSketch → ℕ
  pattern_depth (NamedPattern n ps) = 1 + patterns_depth ps
  pattern_depth (Equal n t) = 1
  pattern_depth (GroupedPattern n ps) = 1 + patterns_depth ps

  pub patterns_depth : PatternsSketch → ℕ
  patterns_depth no_patterns = 0
  patterns_depth (more_patterns p ps) = max (pattern_depth p) (patterns_depth ps)

-- What the rules of scope give of the constructs of a ring.
use Rattle.std.proofs.Common.{◌≡◌, ℕ, ◌+◌, ◌≤◌, true, false, List, [], ◌∷◌, Some, None, Ok, refl, ap, ◌∙◌, arith}
use Rattle.std.proofs.Math.Nat.{add-zero}
use Rattle.std.proofs.lemmas.Bool.{le-leb}
use Rattle.spec_trees.specs.Tree.{Leaf}
use Rattle.spec_calculus.specs.Bounds.{most_points, most_points_above}
use Rattle.spec_calculus.specs.Syntax as calculus
use Rattle.spec_well_formed.specs.Terms.{rule_count}
use Rattle.spec_protocol_grammar.specs.Sketch.{TermSketch, none, more, NamedPattern, no_patterns, UnitSketch, Replicated, Output, Input, Let, omitted, given}
use Rattle.spec_protocol_scope.specs.Answers.{Answer, ◌>>=◌}
use Rattle.spec_protocol_scope.specs.Names.{Scope, signature_with, MeansFree, MeansConstructor, MeansDestructor, look, Bound, bound_as}
use Rattle.spec_protocol_scope.specs.Terms.{Reading, InProcess, term, terms, unchanged, process_leaf, unbound}
use Rattle.spec_protocol_scope.specs.Expressions.{part, parts, expression}
use Rattle.spec_protocol_scope.specs.Patterns.{pattern}
use Rattle.spec_protocol_scope.specs.Processes.{Numbers, Site, Macros, is_room, unit}
use Rattle.spec_ring_text.specs.Meaning.{encrypted, decrypted}
use Rattle.spec_ring_text.proofs.Sketch.{bare, applied}

-- there is room for a point
pub room : (bound : List Bound) (above point variable : ℕ) → above ≤ most_points_above → point ≤ most_points → is_room (record { bound = bound; above = above; used = None; phase = 0 }) (record { point = point; variable = variable }) ≡ true
room bound above point variable few_above few = rw (le-leb point most_points few, le-leb above most_points_above few_above) refl

module _ (s : Scope) (bound : List Bound) where
  -- the term stands for this one
  abbrev pub Denotes : TermSketch → calculus.Term → Type 0
  Denotes t x = term s (InProcess bound) [] t ≡ Ok (x, [])

  pub bound_name : (n : ℕ) (x : calculus.Name) → bound_as s.text bound n ≡ Some x → Denotes (bare n) (Leaf x)
  bound_name n x e = ap (λ o. unchanged [] (process_leaf o (look s n) n)) e

  pub free_name : (n k : ℕ) → bound_as s.text bound n ≡ None → look s n ≡ Some (MeansFree k) → Denotes (bare n) (Leaf (calculus.Free k))
  free_name n k e f = ap (λ o. unchanged [] (process_leaf o (look s n) n)) e ∙ ap (λ m. unchanged [] (unbound m n)) f

  two_terms : (t u : TermSketch) (x y : calculus.Term) → Denotes t x → Denotes u y → terms s (InProcess bound) [] (more t (more u none)) ≡ Ok (x ∷ y ∷ [], [])
  two_terms t u x y h k = rw (h, k) refl

  pub encrypted_term : (n : ℕ) (t u : TermSketch) (x y : calculus.Name) → look s n ≡ Some (MeansConstructor 1 2 false) → Denotes t (Leaf x) → Denotes u (Leaf y) → Denotes (applied n t u) (encrypted (Leaf x) (Leaf y))
  encrypted_term n t u x y e h k = rw (e, two_terms t u (Leaf x) (Leaf y) h k) refl

  -- an identifier is a part of an expression that is a term
  bare_part : (n : ℕ) (x : calculus.Term) → Denotes (bare n) x → part s bound (bare n) ≡ Ok (Leaf x)
  bare_part n x h = ap (λ (read : Reading calculus.Term). (read >>= λ r. (let term : Answer calculus.Term = Ok r.0 in term)) >>= λ t. (let made : Answer calculus.Expression = Ok (Leaf t) in made)) h

  two_parts : (t u : TermSketch) (x y : calculus.Expression) → part s bound t ≡ Ok x → part s bound u ≡ Ok y → parts s bound (more t (more u none)) ≡ Ok (x ∷ y ∷ [])
  two_parts t u x y h k = rw (h, k) refl

  pub decrypted_term : (n m k : ℕ) (x y : calculus.Name) → look s n ≡ Some (MeansDestructor 1 2) → rule_count (signature_with s.names) 1 ≡ 1 → Denotes (bare m) (Leaf x) → Denotes (bare k) (Leaf y)
      → expression s bound (applied n (bare m) (bare k)) ≡ Ok (decrypted (Leaf x) (Leaf y))
  decrypted_term n m k x y e one h i = rw (e, two_parts (bare m) (bare k) (Leaf (Leaf x)) (Leaf (Leaf y)) (bare_part m (Leaf x) h) (bare_part k (Leaf y) i), one) refl

  -- a name binds the variable of that number
  pub binding_name : (n v : ℕ) → pattern s bound v [] (NamedPattern n no_patterns) ≡ Ok (Leaf (calculus.Bind v), record { token = n; name = calculus.Variable v } ∷ [])
  binding_name n v = rw (add-zero v) refl

abbrev pub at_site : List Bound → ℕ → Site
at_site bound above = record { bound = bound; above = above; used = None; phase = 0 }

abbrev pub at_numbers : ℕ → ℕ → Numbers
at_numbers point variable = record { point = point; variable = variable }

module _ (s : Scope) (macros : Macros) (bound : List Bound) (a p v : ℕ) (few_above : a + 1 ≤ most_points_above) (few : p + 1 ≤ most_points) where
  pub output : (n : ℕ) (c m : TermSketch) (x y : calculus.Term) → Denotes s bound c x → Denotes s bound m y
      → unit s macros (at_site bound a) (at_numbers p v) (Output n c m omitted) ≡ Ok (calculus.Output x y calculus.Nil, at_numbers (p + 1 + 1) v)
  output n c m x y h k = rw (room bound a p v (omega arith) (omega arith), h, k, room bound (a + 1) (p + 1) v few_above few) refl

  pub replicated : (n : ℕ) (u : UnitSketch) (P : calculus.Process) (end : Numbers) → unit s macros (at_site bound (a + 1)) (at_numbers (p + 1) v) u ≡ Ok (P, end)
      → unit s macros (at_site bound a) (at_numbers p v) (Replicated n u) ≡ Ok (calculus.Replication P, end)
  replicated n u P end h = rw (room bound a p v (omega arith) (omega arith), h) refl

  pub input : (n x : ℕ) (c : TermSketch) (u : UnitSketch) (y : calculus.Term) (P : calculus.Process) (end : Numbers) → Denotes s bound c y
      → unit s macros (at_site (record { token = x; name = calculus.Variable v } ∷ bound) (a + 1)) (at_numbers (p + 1) (v + 1)) u ≡ Ok (P, end)
      → unit s macros (at_site bound a) (at_numbers p v) (Input n c (NamedPattern x no_patterns) (given u)) ≡ Ok (calculus.Input y (Leaf (calculus.Bind v)) P, end)
  input n x c u y P end h k = rw (room bound a p v (omega arith) (omega arith), h, add-zero v, k) refl

  pub let_call : (n x : ℕ) (t : TermSketch) (u : UnitSketch) (e : calculus.Expression) (P : calculus.Process) (q w : ℕ) → q ≤ most_points → expression s bound t ≡ Ok e
      → unit s macros (at_site (record { token = x; name = calculus.Variable v } ∷ bound) (a + 1)) (at_numbers (p + 1) (v + 1)) u ≡ Ok (P, at_numbers q w)
      → unit s macros (at_site bound a) (at_numbers p v) (Let n (NamedPattern x no_patterns) t u omitted) ≡ Ok (calculus.Let (Leaf (calculus.Bind v)) e P calculus.Nil, at_numbers (q + 1) w)
  let_call n x t u e P q w few_q h k = rw (room bound a p v (omega arith) (omega arith), add-zero v, h, k, room bound (a + 1) q w few_above few_q) refl

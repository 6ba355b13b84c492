-- Reading declarations, of which some are read already.
use Rattle.std.proofs.Common.{◌≡◌, ℕ, ◌+◌, ◌-◌, ◌<◌, ◌≤◌, ◌⊎◌, true, false, cond, List, [], ◌∷◌, ◌++◌, map, length, refl, sym, ap, subst, inl, inr, ◌∙◌, arith, append_assoc, add-one, length-append}
use Rattle.std.proofs.lemmas.List.{append-nil, map-append}
use Rattle.spec_protocol_grammar.specs.declared.class.Class.{Class}
use Rattle.spec_protocol_grammar.specs.declared.class.Class.TheVariants as w
use Rattle.spec_protocol_grammar.specs.Classes.{Source, words, same}
use Rattle.spec_protocol_grammar.specs.Sketch.{DeclarationSketch, FileSketch}
use Rattle.spec_protocol_grammar.specs.Reading.{Read, Found, Unexpected, TooDeep, Tired, Reader, step, built, both, either, declaration_at, main_at, Rest, declarations_from, declarations_at, file_from, file_at}
use Rattle.pi_parser.specs.Gives.{HasFault, most_of}
use Rattle.pi_parser.specs.declared.error.Fault.{Fault}
use Rattle.pi_parser.proofs.Lists.{step_fault}

-- these declarations, and what stands behind them
abbrev pub declared : List DeclarationSketch → ℕ → ℕ → Reader (List DeclarationSketch × Rest)
declared ds most rounds s at = step (declarations_at most rounds s at) (λ p e. Found (ds ++ p.0, p.1) e)

-- these declarations are read, and reading goes on from here
pub record IsDeclared (classes : List Class) (ds : List DeclarationSketch) (at : ℕ) : Type 0 where
  pub read : file_at (most_of classes) (words classes) 0 ≡ built file_from (declared ds (most_of classes) (most_of classes - length ds)) (words classes) at
  pub within : at ≤ length classes
  pub few : length ds ≤ at

whole : (o : Read (List DeclarationSketch × Rest)) → step o (λ p e. Found (file_from p) e) ≡ step (step {Y = List DeclarationSketch × Rest} o (λ p e. Found ([] ++ p.0, p.1) e)) (λ p e. Found (file_from p) e)
whole (Found p e) = refl
whole (Unexpected i) = refl
whole (TooDeep i) = refl
whole (Tired i) = refl

file_begins : (most : ℕ) (s : Source) → file_at most s 0 ≡ built file_from (declared [] most most) s 0
unfolding file_at
file_begins most s = whole (declarations_at most most s 0)

pub declared_begins : (classes : List Class) (ds : List DeclarationSketch) → ds ≡ [] → IsDeclared classes ds 0
declared_begins classes ds h =
    let none : most_of classes ≡ most_of classes - length {A = DeclarationSketch} [] = omega arith in
    subst (λ (xs : List DeclarationSketch). IsDeclared classes xs 0) (sym h) (record {
      read = file_begins (most_of classes) (words classes) ∙ ap (λ (k : ℕ). built file_from (declared [] (most_of classes) k) (words classes) 0) none;
      within = omega arith;
      few = omega arith;
    })

-- a reading of one kind or of the other
abbrev first : Rest → ℕ → Read (Rest ⊎ (DeclarationSketch × (List DeclarationSketch × Rest)))
first x e = Found (inl x) e

abbrev second : DeclarationSketch × (List DeclarationSketch × Rest) → ℕ → Read (Rest ⊎ (DeclarationSketch × (List DeclarationSketch × Rest)))
second y e = Found (inr y) e

declarations_more : (most m : ℕ) (s : Source) (at : ℕ) → declarations_at most (m + 1) s at ≡ built declarations_from (either w.Process (main_at most) (both (declaration_at most) (declarations_at most m))) s at
unfolding declarations_at
declarations_more most m s at = ap (λ (k : ℕ). declarations_at most k s at) (add-one m)

-- a further declaration
one_more : (most m : ℕ) (s : Source) (at : ℕ) → same w.Process (s at).class ≡ false
    → declarations_at most (m + 1) s at ≡ step (declaration_at most s at) (λ d e. step (declarations_at most m s e) (λ p j. Found (d ∷ p.0, p.1) j))
one_more most m s at h =
    declarations_more most m s at
    ∙ (ap (λ b. step (cond b (step (main_at most s at) (λ x e. Found (inl x) e)) (step (both (declaration_at most) (declarations_at most m) s at) (λ y e. Found (inr y) e))) (λ x e. Found (declarations_from x) e)) h
    ∙ by_first (declaration_at most s at))
  where
    by_rest : (d : DeclarationSketch) (o : Read (List DeclarationSketch × Rest)) → step (step (step {Y = DeclarationSketch × (List DeclarationSketch × Rest)} o (λ p j. Found (d, p) j)) (λ y e. second y e)) (λ x e. Found (declarations_from x) e) ≡ step o (λ p j. Found (d ∷ p.0, p.1) j)
    by_rest d (Found p e) = refl
    by_rest d (Unexpected i) = refl
    by_rest d (TooDeep i) = refl
    by_rest d (Tired i) = refl

    by_first : (o : Read DeclarationSketch) → step (step (step o (λ d e. step {Y = DeclarationSketch × (List DeclarationSketch × Rest)} (declarations_at most m s e) (λ p j. Found (d, p) j))) (λ y e. second y e)) (λ x e. Found (declarations_from x) e)
        ≡ step o (λ d e. step (declarations_at most m s e) (λ p j. Found (d ∷ p.0, p.1) j))
    by_first (Found d e) = by_rest d (declarations_at most m s e)
    by_first (Unexpected i) = refl
    by_first (TooDeep i) = refl
    by_first (Tired i) = refl

-- no further one
no_more : (most m : ℕ) (s : Source) (at : ℕ) → same w.Process (s at).class ≡ true → declarations_at most (m + 1) s at ≡ step (main_at most s at) (λ x e. Found ([], x) e)
no_more most m s at h =
    declarations_more most m s at
    ∙ (ap (λ b. step (cond b (step (main_at most s at) (λ x e. Found (inl x) e)) (step (both (declaration_at most) (declarations_at most m) s at) (λ y e. Found (inr y) e))) (λ x e. Found (declarations_from x) e)) h
    ∙ by_main (main_at most s at))
  where
    by_main : (o : Read Rest) → step (step o (λ x e. first x e)) (λ x e. Found (declarations_from x) e) ≡ step {Y = List DeclarationSketch × Rest} o (λ x e. Found ([], x) e)
    by_main (Found p e) = refl
    by_main (Unexpected i) = refl
    by_main (TooDeep i) = refl
    by_main (Tired i) = refl

declared_next : (ds : List DeclarationSketch) (most m : ℕ) (s : Source) (at : ℕ) (d : DeclarationSketch) (e : ℕ) → same w.Process (s at).class ≡ false → declaration_at most s at ≡ Found d e
    → declared ds most (m + 1) s at ≡ declared (ds ++ (d ∷ [])) most m s e
declared_next ds most m s at d e h f =
    ap (λ (p : Read (List DeclarationSketch × Rest)). step p (λ p e. Found (ds ++ p.0, p.1) e)) (one_more most m s at h ∙ ap (λ (p : Read DeclarationSketch). step p (λ d e. step (declarations_at most m s e) (λ p j. Found (d ∷ p.0, p.1) j))) f)
    ∙ joined (declarations_at most m s e)
  where
    joined : (o : Read (List DeclarationSketch × Rest)) → step (step {Y = List DeclarationSketch × Rest} o (λ p j. Found (d ∷ p.0, p.1) j)) (λ p e. Found (ds ++ p.0, p.1) e) ≡ step {Y = List DeclarationSketch × Rest} o (λ p e. Found ((ds ++ (d ∷ [])) ++ p.0, p.1) e)
    joined (Found p j) = ap (λ (xs : List DeclarationSketch). Found (xs, p.1) j) (sym (append_assoc ds (d ∷ []) p.0))
    joined (Unexpected i) = refl
    joined (TooDeep i) = refl
    joined (Tired i) = refl

pub declared_continues : {T : Type 0} (f : T → DeclarationSketch) (classes : List Class) (ts : List T) (t : T) (items : List T) (at e : ℕ) → items ≡ ts ++ (t ∷ []) → IsDeclared classes (map f ts) at
    → same w.Process (words classes at).class ≡ false → declaration_at (most_of classes) (words classes) at ≡ Found (f t) e → at < e → e ≤ length classes → IsDeclared classes (map f items) e
declared_continues {T} f classes ts t items at e i g h d a b =
    let n : ℕ = length (map f ts) in
    let more : most_of classes - n ≡ (most_of classes - (n + 1)) + 1 = omega (arith, g.few, g.within) in
    let long : length (map f ts ++ (f t ∷ [])) ≡ n + 1 = length-append (map f ts) (f t ∷ []) in
    subst (λ (us : List T). IsDeclared classes (map f us) e) (sym i) (subst (λ (xs : List DeclarationSketch). IsDeclared classes xs e) (sym (map-append f ts (t ∷ []))) (record {
      read = g.read ∙ ap (λ (p : Read (List DeclarationSketch × Rest)). step p (λ p e. Found (file_from p) e))
          (ap (λ (k : ℕ). declared (map f ts) (most_of classes) k (words classes) at) more
          ∙ (declared_next (map f ts) (most_of classes) (most_of classes - (n + 1)) (words classes) at (f t) e h d
          ∙ ap (λ (k : ℕ). declared (map f ts ++ (f t ∷ [])) (most_of classes) (most_of classes - k) (words classes) e) (sym long)));
      within = b;
      few = omega (arith, long, g.few);
    }))

pub declared_faults : (classes : List Class) (ds : List DeclarationSketch) (at : ℕ) (e : Fault) → IsDeclared classes ds at → same w.Process (words classes at).class ≡ false
    → HasFault e (declaration_at (most_of classes) (words classes) at) → HasFault e (file_at (most_of classes) (words classes) 0)
declared_faults classes ds at e g h f =
    let m : ℕ = most_of classes - (length ds + 1) in
    let more : most_of classes - length ds ≡ m + 1 = omega (arith, g.few, g.within) in
    subst (λ (p : Read FileSketch). HasFault e p) (sym g.read) (subst (λ (k : ℕ). HasFault e (built file_from (declared ds (most_of classes) k) (words classes) at)) (sym more)
    (step_fault e (declared ds (most_of classes) (m + 1) (words classes) at) (λ p e. Found (file_from p) e)
    (step_fault e (declarations_at (most_of classes) (m + 1) (words classes) at) (λ p e. Found (ds ++ p.0, p.1) e)
    (subst (λ (p : Read (List DeclarationSketch × Rest)). HasFault e p) (sym (one_more (most_of classes) m (words classes) at h))
    (step_fault e (declaration_at (most_of classes) (words classes) at) (λ d e. step (declarations_at (most_of classes) m (words classes) e) (λ p j. Found (d ∷ p.0, p.1) j)) f)))))

declared_last : (classes : List Class) (ds : List DeclarationSketch) (at : ℕ) → IsDeclared classes ds at → same w.Process (words classes at).class ≡ true
    → file_at (most_of classes) (words classes) 0 ≡ step (main_at (most_of classes) (words classes) at) (λ x e. Found (file_from (ds, x)) e)
declared_last classes ds at g h =
    let m : ℕ = most_of classes - (length ds + 1) in
    let more : most_of classes - length ds ≡ m + 1 = omega (arith, g.few, g.within) in
    g.read ∙ (ap (λ (k : ℕ). built file_from (declared ds (most_of classes) k) (words classes) at) more
    ∙ (ap (λ (p : Read (List DeclarationSketch × Rest)). step (step {Y = List DeclarationSketch × Rest} p (λ p e. Found (ds ++ p.0, p.1) e)) (λ p e. Found (file_from p) e)) (no_more (most_of classes) m (words classes) at h)
    ∙ by_main (main_at (most_of classes) (words classes) at)))
  where
    by_main : (o : Read Rest) → step (step {Y = List DeclarationSketch × Rest} (step {Y = List DeclarationSketch × Rest} o (λ x e. Found ([], x) e)) (λ p e. Found (ds ++ p.0, p.1) e)) (λ p e. Found (file_from p) e) ≡ step o (λ x e. Found (file_from (ds, x)) e)
    by_main (Found x e) = ap (λ (xs : List DeclarationSketch). Found (file_from (xs, x)) e) (append-nil ds)
    by_main (Unexpected i) = refl
    by_main (TooDeep i) = refl
    by_main (Tired i) = refl

pub declared_ends : (classes : List Class) (ds : List DeclarationSketch) (at : ℕ) (x : Rest) (e : ℕ) → IsDeclared classes ds at → same w.Process (words classes at).class ≡ true
    → main_at (most_of classes) (words classes) at ≡ Found x e → file_at (most_of classes) (words classes) 0 ≡ Found (file_from (ds, x)) e
declared_ends classes ds at x e g h f = declared_last classes ds at g h ∙ ap (λ (p : Read Rest). step p (λ x e. Found (file_from (ds, x)) e)) f

pub main_faults : (classes : List Class) (ds : List DeclarationSketch) (at : ℕ) (e : Fault) → IsDeclared classes ds at → same w.Process (words classes at).class ≡ true
    → HasFault e (main_at (most_of classes) (words classes) at) → HasFault e (file_at (most_of classes) (words classes) 0)
main_faults classes ds at e g h f =
    subst (λ (p : Read FileSketch). HasFault e p) (sym (declared_last classes ds at g h)) (step_fault e (main_at (most_of classes) (words classes) at) (λ x e. Found (file_from (ds, x)) e) f)

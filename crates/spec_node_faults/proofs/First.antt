-- The first of the faults is the first by place, and at one place by its number.
use Rattle.std.proofs.Common.{◌≡◌, inl, inr, ⊎_elim, ℕ, ◌<◌, ◌≤◌, Bool, true, false, nat_le, cond, List, [], ◌∷◌, ◌++◌, map, Option, Some, None, refl, sym, ◌∙◌, ap, subst, arith}
use Rattle.std.specs.Prelude.{flat_map}
use Rattle.std.specs.List.{AllByRecursion}
use Rattle.std.proofs.lemmas.Bool.Decides.{nat_tests}
use Rattle.spec_calculus.specs.Syntax.{Protocol}
use Rattle.spec_clauses.specs.Inclusion.{here, there, Has}
use Rattle.spec_clauses.proofs.Lists.{all_append}
use Rattle.spec_clauses.proofs.Inclusion.{all_has, Has-append, Has-map, Has-map_source, Has-flat_map, Has-flat_map_source, Has-one}
use Rattle.spec_node_faults.specs.Loose.{LooseCertificate}
use Rattle.spec_certificate_text.specs.Terms.{Code, Syntax, Number, Symbol, Arity, Count, NodeOrder, NodeLarge}
use Rattle.spec_certificate_faults.specs.First.{code_number}
use Rattle.spec_node_faults.specs.Faults.{Fault, places, faults_of, faults, NotAfter, sooner, first_of, first_fault}

-- the faults of a list have no lesser numbers behind
Ascends : List Fault → Type 0
Ascends [] = Unit {0}
Ascends (f ∷ fs) = AllByRecursion (λ g. code_number f.code ≤ code_number g.code) fs × Ascends fs

stands : (fs : List Fault) (f : Fault) → first_of fs ≡ Some f → Has fs f
stands [] f e = absurd (cc)
stands (x ∷ xs) f e = go (first_of xs) (stands xs) e where
  among : (h : Fault) → Has xs h → (b : Bool) → Some (cond b x h) ≡ Some f → Has (x ∷ xs) f
  among h later true e = let same : x ≡ f = cc in subst (Has (x ∷ xs)) same (xs, here)
  among h later false e = let same : h ≡ f = cc in subst (Has (x ∷ xs)) same (x ∷ later.0, there later.1)

  go : (o : Option Fault) → ((h : Fault) → o ≡ Some h → Has xs h) → Some (sooner x o) ≡ Some f → Has (x ∷ xs) f
  go None later e = let same : x ≡ f = cc in subst (Has (x ∷ xs)) same (xs, here)
  go (Some h) later e = among h (later h refl) (nat_le x.place h.place) e

some_first : (x : Fault) (xs : List Fault) → first_of (x ∷ xs) ≡ None → ⊥
some_first x xs e = cc

none_there : (fs : List Fault) (g : Fault) → first_of fs ≡ None → Has fs g → ⊥
none_there [] g e h = elim h.1 [ ]
none_there (x ∷ xs) g e h = some_first x xs e

not_after_itself : (f g : Fault) → g ≡ f → NotAfter f g
not_after_itself f g e = inr (ap (λ h. h.place) (sym e), (let same : code_number g.code ≡ code_number f.code = ap (λ h. code_number h.code) e in omega arith))

is_first : (fs : List Fault) (f g : Fault) → Ascends fs → first_of fs ≡ Some f → Has fs g → NotAfter f g
unfolding Ascends
is_first [] f g ascends e h = elim h.1 [ ]
is_first (x ∷ xs) f g ascends e h = ⊎_elim
    (λ first. with_first (first_of xs) refl e first)
    (λ later. with_later (first_of xs) refl e later (λ f e. is_first xs f g ascends.1 e later))
    ((Has-append (x ∷ []) xs g).0 h)
  where
    same_or_below : (i : Fault) → first_of xs ≡ Some i → (b : Bool) → nat_le x.place i.place ≡ b → Some (cond b x i) ≡ Some f → Has (x ∷ []) g → NotAfter f g
    same_or_below i found true le e first = let same : x ≡ f = cc in not_after_itself f g (Has-one first ∙ same)
    same_or_below i found false le e first =
        let same : i ≡ f = cc in
        let item : g ≡ x = Has-one first in
        let lower : f.place < g.place = subst (λ y. f.place < y.place) (sym item) (subst (λ y. y.place < x.place) same (grind (arith, nat_tests, le))) in inl lower

    with_first : (o : Option Fault) → first_of xs ≡ o → Some (sooner x o) ≡ Some f → Has (x ∷ []) g → NotAfter f g
    with_first None found e first = let same : x ≡ f = cc in not_after_itself f g (Has-one first ∙ same)
    with_first (Some i) found e first = same_or_below i found (nat_le x.place i.place) refl e first

    before_later : (i : Fault) → x.place ≤ i.place → code_number x.code ≤ code_number g.code → NotAfter i g → NotAfter x g
    before_later i le numbers after = ⊎_elim
        (λ lower. inl (omega (arith, le, lower)))
        (λ same. at_most (omega (arith, le, same.0)))
        after
      where
        at_most : x.place ≤ g.place → NotAfter x g
        at_most less = split (nat_le g.place x.place) refl where
          split : (b : Bool) → nat_le g.place x.place ≡ b → NotAfter x g
          split true e = inr (grind (arith, nat_tests, e, less), numbers)
          split false e = inl (grind (arith, nat_tests, e))

    choose : (i : Fault) → first_of xs ≡ Some i → (b : Bool) → nat_le x.place i.place ≡ b → Some (cond b x i) ≡ Some f → Has xs g → ((f : Fault) → first_of xs ≡ Some f → NotAfter f g) → NotAfter f g
    choose i found true le e later rest =
        let same : x ≡ f = cc in
        subst (λ y. NotAfter y g) same (before_later i (grind (arith, nat_tests, le)) (all_has (λ y. code_number x.code ≤ code_number y.code) xs g ascends.0 later) (rest i found))
    choose i found false le e later rest = let same : i ≡ f = cc in subst (λ y. NotAfter y g) same (rest i found)

    with_later : (o : Option Fault) → first_of xs ≡ o → Some (sooner x o) ≡ Some f → Has xs g → ((f : Fault) → first_of xs ≡ Some f → NotAfter f g) → NotAfter f g
    with_later None found e later rest = absurd (none_there xs g found later)
    with_later (Some i) found e later rest = choose i found (nat_le x.place i.place) refl e later rest

-- Those of each code have its number, and the codes come in the order of their numbers.

block : Code → List ℕ → List Fault
block code ps = map (λ place. record { place = place; code = code }) ps

block_over : (n : ℕ) (code : Code) (ps : List ℕ) → n ≤ code_number code → AllByRecursion (λ g. n ≤ code_number g.code) (block code ps)
unfolding block
block_over n code [] le = tt
block_over n code (p ∷ ps) le = (le, block_over n code ps le)

block_ascends : (code : Code) (ps : List ℕ) (rest : List Fault) → Ascends rest → AllByRecursion (λ g. code_number code ≤ code_number g.code) rest → Ascends (block code ps ++ rest)
unfolding block Ascends
block_ascends code [] rest ascends over = ascends
block_ascends code (p ∷ ps) rest ascends over =
    (all_append (λ g. code_number code ≤ code_number g.code) (block code ps) rest (block_over (code_number code) code ps (omega arith)) over, block_ascends code ps rest ascends over)

IsRising : List Code → Type 0
IsRising [] = Unit {0}
IsRising (c ∷ cs) = AllByRecursion (λ d. code_number c ≤ code_number d) cs × IsRising cs

module _ (P : Protocol) (at : ℕ) (c : LooseCertificate) where
  all_over : (n : ℕ) (codes : List Code) → AllByRecursion (λ d. n ≤ code_number d) codes → AllByRecursion (λ g. n ≤ code_number g.code) (flat_map (faults_of P at c) codes)
  unfolding block
  all_over n [] le = tt
  all_over n (d ∷ ds) le = all_append (λ g. n ≤ code_number g.code) (faults_of P at c d) (flat_map (faults_of P at c) ds) (block_over n d (places P at c d) le.0) (all_over n ds le.1)

  all_ascend : (codes : List Code) → IsRising codes → Ascends (flat_map (faults_of P at c) codes)
  unfolding block Ascends IsRising
  all_ascend [] rising = tt
  all_ascend (d ∷ ds) rising = block_ascends d (places P at c d) (flat_map (faults_of P at c) ds) (all_ascend ds rising.1) (all_over (code_number d) ds rising.0)

  all_codes : List Code
  all_codes = Syntax ∷ Number ∷ Symbol ∷ Arity ∷ Count ∷ NodeOrder ∷ NodeLarge ∷ []

  codes_rise : IsRising all_codes
  unfolding IsRising all_codes
  codes_rise = (
    (omega arith, (omega arith, (omega arith, (omega arith, (omega arith, (omega arith, tt)))))),
    (
      (omega arith, (omega arith, (omega arith, (omega arith, (omega arith, tt))))),
      (
        (omega arith, (omega arith, (omega arith, (omega arith, tt)))),
        (
          (omega arith, (omega arith, (omega arith, tt))),
          (
            (omega arith, (omega arith, tt)),
            ((omega arith, tt), (tt, tt)),
          ),
        ),
      ),
    ),
  )

  code_there : (code : Code) → Has all_codes code
  unfolding all_codes
  code_there Syntax = (_, here)
  code_there Number = (_, there here)
  code_there Symbol = (_, there (there here))
  code_there Arity = (_, there (there (there here)))
  code_there Count = (_, there (there (there (there here))))
  code_there NodeOrder = (_, there (there (there (there (there here)))))
  code_there NodeLarge = (_, there (there (there (there (there (there here))))))

  fault_there : (g : Fault) → Has (places P at c g.code) g.place → Has (faults P at c) g
  unfolding all_codes
  fault_there g h = Has-flat_map (faults_of P at c) all_codes g.code g (code_there g.code) (Has-map (λ place. record { place = place; code = g.code }) (places P at c g.code) g.place h)

  pub first_stands : (f : Fault) → first_fault P at c ≡ Some f → Has (places P at c f.code) f.place
  unfolding all_codes
  first_stands f e =
      let (code, known, has) = Has-flat_map_source (faults_of P at c) all_codes f (stands (faults P at c) f e) in
      let (place, found, same) = Has-map_source (λ p. record { place = p; code = code }) (places P at c code) f has in
      subst (λ (g : Fault). Has (places P at c g.code) g.place) (sym same) found

  pub first_first : (f g : Fault) → first_fault P at c ≡ Some f → Has (places P at c g.code) g.place → NotAfter f g
  unfolding all_codes
  first_first f g e h = is_first (faults P at c) f g (all_ascend all_codes codes_rise) e (fault_there g h)

  pub first_none : (g : Fault) → first_fault P at c ≡ None → Has (places P at c g.code) g.place → ⊥
  first_none g e h = none_there (faults P at c) g e (fault_there g h)

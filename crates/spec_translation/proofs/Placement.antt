-- What raw clauses suppose and conclude, their norms do too.
use Rattle.std.proofs.Common.{◌≡◌, ◌∙◌, ℕ, Bool, true, false, ◌&&◌, Option, Some, None, List, [], ◌∷◌, ◌++◌, map, refl, ap, sym, ⊎_elim}
use Rattle.std.specs.Prelude.{flat_map}
use Rattle.std.specs.List.{list_all, cons_option}
use Rattle.std.proofs.lemmas.List.Folds.{list_all-append}
use Rattle.spec_trees.specs.Tree.{bind}
use Rattle.spec_trees.proofs.Equality.{and_true}
use Rattle.spec_terms.specs.Term.{Term, Subst}
use Rattle.spec_clauses.specs.Fact.{Fact, Att, Mess, Tab, Ev, Mev, Bad, Clause, outline, fact_under}
use Rattle.spec_clauses.specs.Diff.{Diff}
use Rattle.spec_clauses.specs.Flat.{parts, flat}
use Rattle.spec_clauses.specs.Norm.{norm, norms}
use Rattle.spec_clauses.specs.Renaming.{renaming}
use Rattle.spec_clauses.specs.Inclusion.{here, there, Has}
use Rattle.spec_clauses.proofs.Inclusion.{Has-map_source, Has-one}
use Rattle.spec_clauses.proofs.Facts.{map_fact-map_fact}
use Rattle.spec_clauses.proofs.FlatUnder.{all_pass_at}
use Rattle.spec_clauses.proofs.NormKeeps.{norm-within, norm-outline, all_pass_within}
use Rattle.spec_clauses.proofs.NormAnswers.{norm-none, norms-source}
use Rattle.spec_translation.specs.Satisfied.{is_bad}
use Rattle.spec_translation.specs.Placement.{may_be_supposed, may_be_concluded}

-- what is told of a fact by its predicate alone
is_bad-alike : (f g : Fact Term) → outline f ≡ outline g → is_bad f ≡ is_bad g
is_bad-alike f g e = of f ∙ (ap test e ∙ sym (of g)) where
  test : Fact (Unit {0}) → Bool
  test (Bad ts) = true
  test _ = false

  of : (h : Fact Term) → is_bad h ≡ test (outline h)
  of (Att k t) = refl
  of (Mess k t u) = refl
  of (Tab n ts) = refl
  of (Ev e ts) = refl
  of (Mev e ts) = refl
  of (Bad ts) = refl

concluded-alike : (f g : Fact Term) → outline f ≡ outline g → may_be_concluded f ≡ may_be_concluded g
concluded-alike f g e = of f ∙ (ap test e ∙ sym (of g)) where
  test : Fact (Unit {0}) → Bool
  test (Mev e ts) = false
  test _ = true

  of : (h : Fact Term) → may_be_concluded h ≡ test (outline h)
  of (Att k t) = refl
  of (Mess k t u) = refl
  of (Tab n ts) = refl
  of (Ev e ts) = refl
  of (Mev e ts) = refl
  of (Bad ts) = refl

-- the flat of a fact keeps its predicate
flat-outline : (f g : Fact Term) → Has (flat f) g → outline g ≡ outline f
flat-outline (Att k t) g h = ap outline (Has-map_source (Att k) (parts t) g h).2
flat-outline (Mess k t u) g h = ap outline (Has-one h)
flat-outline (Tab n ts) g h = ap outline (Has-one h)
flat-outline (Ev e ts) g h = ap outline (Has-one h)
flat-outline (Mev e ts) g h = ap outline (Has-one h)
flat-outline (Bad ts) g h = ap outline (Has-one h)

-- a norm of a raw clause concludes a fact of the same predicate
pub norms-outline : (c d : Clause Term) → Has (norms c) d → outline d.conclusion ≡ outline c.conclusion
norms-outline c d h =
    let source = norms-source c d h in
    let part = Has-map_source (λ f. record { hypotheses = flat_map flat c.hypotheses; diffs = c.diffs; conclusion = f }) (flat c.conclusion) source.0 source.1 in
    let same : source.0.conclusion ≡ part.0 = ap (λ e. e.conclusion) part.2 in
    norm-outline source.0 d source.2 ∙ (ap outline same ∙ flat-outline c.conclusion part.0 part.1)

pub norms-bad : (c d : Clause Term) → Has (norms c) d → is_bad d.conclusion ≡ is_bad c.conclusion
norms-bad c d h = is_bad-alike d.conclusion c.conclusion (norms-outline c d h)

pub norms-concluded : (c d : Clause Term) → Has (norms c) d → may_be_concluded d.conclusion ≡ may_be_concluded c.conclusion
norms-concluded c d h = concluded-alike d.conclusion c.conclusion (norms-outline c d h)

-- A test of facts that their predicate alone decides is passed under a substitution, in flat parts, and in norms.
abbrev pub IsTold : (Fact Term → Bool) → Type 0
IsTold p = (f g : Fact Term) → outline f ≡ outline g → p f ≡ p g

module _ (p : Fact Term → Bool) (told : IsTold p) where
  pub all_told-under : (s : Subst) (hs : List (Fact Term)) → list_all p (map (fact_under s) hs) ≡ list_all p hs
  all_told-under s [] = refl
  all_told-under s (h ∷ hs) =
      let first = told (fact_under s h) h (map_fact-map_fact (λ t. tt) (bind s) h) in
      let others = all_told-under s hs in λ i. first i && others i

  pub all_told-more : (hs : List (Fact Term)) (f : Fact Term) → list_all p hs ≡ true → p f ≡ true → list_all p (hs ++ f ∷ []) ≡ true
  all_told-more hs f e k =
      let last : (p f && true) ≡ true = ap (λ b. b && true) k in
      list_all-append p hs (f ∷ []) ∙ (λ i. e i && last i)

  all_pass : (gs : List (Fact Term)) → ((g : Fact Term) → Has gs g → p g ≡ true) → list_all p gs ≡ true
  all_pass [] each = refl
  all_pass (g ∷ gs) each =
      let first = each g (gs, here) in
      let others = all_pass gs (λ f h. each f (g ∷ h.0, there h.1)) in λ i. first i && others i

  pub flats_told : (hs : List (Fact Term)) → list_all p hs ≡ true → list_all p (flat_map flat hs) ≡ true
  flats_told [] e = refl
  flats_told (h ∷ hs) e =
      let both = and_true (p h) (list_all p hs) e in
      let first = all_pass (flat h) (λ g has. told g h (flat-outline h g has) ∙ both.0) in
      let others = flats_told hs both.1 in
      list_all-append p (flat h) (flat_map flat hs) ∙ (λ i. first i && others i)

  pub norms-told : (c d : Clause Term) → list_all p c.hypotheses ≡ true → Has (norms c) d → list_all p d.hypotheses ≡ true
  norms-told c d e h =
      let source = norms-source c d h in
      let part = Has-map_source (λ f. record { hypotheses = flat_map flat c.hypotheses; diffs = c.diffs; conclusion = f }) (flat c.conclusion) source.0 source.1 in
      let same : source.0.hypotheses ≡ flat_map flat c.hypotheses = ap (λ e. e.hypotheses) part.2 in
      let (r, within) = norm-within source.0 d source.2 in
      let there = all_told-under (renaming r) source.0.hypotheses ∙ (ap (list_all p) same ∙ flats_told c.hypotheses e) in
      all_pass_within p d.hypotheses (map (fact_under (renaming r)) source.0.hypotheses) within there

-- what may be supposed is told so
pub supposed_told : IsTold may_be_supposed
supposed_told f g e = of f ∙ (ap test e ∙ sym (of g)) where
  test : Fact (Unit {0}) → Bool
  test (Bad ts) = false
  test _ = true

  of : (h : Fact Term) → may_be_supposed h ≡ test (outline h)
  of (Att k t) = refl
  of (Mess k t u) = refl
  of (Tab n ts) = refl
  of (Ev e ts) = refl
  of (Mev e ts) = refl
  of (Bad ts) = refl

pub known_supposed : {X : Type 0} (phase : ℕ) (f : X → Term) (xs : List X) → list_all may_be_supposed (map (λ x. Att phase (f x)) xs) ≡ true
known_supposed phase f [] = refl
known_supposed phase f (x ∷ xs) = known_supposed phase f xs

-- A clause that concludes `bad` of what may be supposed has one norm.
pub norms_of_bad : (hs : List (Fact Term)) (ts : List Term) → list_all may_be_supposed hs ≡ true → (goal : Clause Term) × (norms (record { hypotheses = hs; diffs = []; conclusion = Bad ts }) ≡ goal ∷ [])
norms_of_bad hs ts e = go (norm part) refl where
  part : Clause Term
  part = record { hypotheses = flat_map flat hs; diffs = []; conclusion = Bad ts }

  none_met : (d : Diff) → Has [] d → ⊥
  none_met d h = elim h.1 [ ]

  never : norm part ≡ None → ⊥
  never none =
      ⊎_elim (λ among. let clash : false ≡ true = all_pass_at may_be_supposed (flats_told may_be_supposed supposed_told hs e) among.1 in cc)
      (λ met. none_met met.0 met.1) ((norm-none part).0 none)

  go : (o : Option (Clause Term)) → norm part ≡ o → (goal : Clause Term) × (norms (record { hypotheses = hs; diffs = []; conclusion = Bad ts }) ≡ goal ∷ [])
  go None none = absurd (never none)
  go (Some d) some = (d, ap (λ o. cons_option o []) some)

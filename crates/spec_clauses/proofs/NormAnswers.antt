-- What a norm answers: nothing exactly where the conclusion stands among the hypotheses or a constraint is never met; and what norms
-- there are.
use Rattle.std.proofs.Common.{◌≡◌, ◌↔◌, ◌⊎◌, Bool, true, false, cond, Option, Some, None, List, [], ◌∷◌, map, refl, ap, sym, ◌∙◌, inl, inr}
use Rattle.std.specs.Prelude.{filter_map}
use Rattle.std.specs.List.{cons_option, list_any, list_all}
use Rattle.std.proofs.lemmas.Bool.{or_left, or_right}
use Rattle.spec_trees.proofs.Equality.{and_true}
use Rattle.spec_trees.proofs.Occurrence.{or_true}
use Rattle.spec_terms.specs.Term.{Term}
use Rattle.spec_clauses.specs.Fact.{Clause, same_fact}
use Rattle.spec_clauses.specs.Diff.{Diff, IsNeverMet}
use Rattle.spec_clauses.specs.DiffDecision.{is_never_met}
use Rattle.spec_clauses.specs.Flat.{flat_parts, is_flat, is_flat_clause}
use Rattle.spec_clauses.specs.Norm.{without_repeats, is_tautology, without_needless, is_void, numbered_anew, norm, norms, IsNormal}
use Rattle.spec_clauses.specs.Inclusion.{Picks, here, there, Has}
use Rattle.spec_clauses.proofs.Equality.{same_fact-decides, is_among-decides}
use Rattle.spec_clauses.proofs.Distinct.{stands_distinct}
use Rattle.spec_clauses.proofs.Diffs.{is_never_met-decides}
use Rattle.spec_clauses.proofs.Norm.{simplified, says_nothing}
use Rattle.spec_clauses.proofs.NormKeeps.{norm-normal}
use Rattle.spec_clauses.proofs.FlatUnder.{flat_parts-flat}
use Rattle.spec_clauses.proofs.Firm.{flat_is_own, flats_are_own}

-- repeats don't matter to whether a clause is a tautology
tautology_repeats : (c : Clause Term) → is_tautology (without_repeats (without_needless c)) ≡ is_tautology c
tautology_repeats c = stands_distinct same_fact same_fact-decides c.conclusion c.hypotheses

-- a listed constraint is never met exactly where the test passes on one
some_never_met : (ds : List Diff) → (list_any is_never_met ds ≡ true) ↔ ((d : Diff) × Has ds d × IsNeverMet d)
some_never_met ds = (found ds, λ h. passes h.1.1 h.2) where
  found : (es : List Diff) → list_any is_never_met es ≡ true → (d : Diff) × Has es d × IsNeverMet d
  found [] e = cc
  found (d ∷ es) e = elim (or_true (is_never_met d) (list_any is_never_met es) e) as (λ _. (f : Diff) × Has (d ∷ es) f × IsNeverMet f) [
    | inl here_ ↦ (d, (es, here), (is_never_met-decides d).0 here_)
    | inr later ↦ (let k = found es later in (k.0, (d ∷ k.1.0, there k.1.1), k.2))
  ]

  passes : {es rest : List Diff} {d : Diff} → Picks es d rest → IsNeverMet d → list_any is_never_met es ≡ true
  passes (here {x = d} {xs = es}) never = or_left (is_never_met d) (list_any is_never_met es) ((is_never_met-decides d).1 never)
  passes (there {y = e} {xs = es} p) never = or_right (is_never_met e) (list_any is_never_met es) (passes p never)

pub norm-none : (c : Clause Term) → (norm c ≡ None) ↔ (Has c.hypotheses c.conclusion ⊎ ((d : Diff) × Has c.diffs d × IsNeverMet d))
norm-none c = (
  λ e. of_none (or_true (is_void c) (is_tautology (without_repeats (without_needless c))) (says (says_nothing c) e)),
  λ h. ap (λ b. cond b None (Some (numbered_anew (simplified c)))) (nothing_said h),
) where
  says : (b : Bool) → cond b None (Some (numbered_anew (simplified c))) ≡ None → b ≡ true
  says true e = refl
  says false e = cc

  of_none : (is_void c ≡ true) ⊎ (is_tautology (without_repeats (without_needless c)) ≡ true) → Has c.hypotheses c.conclusion ⊎ ((d : Diff) × Has c.diffs d × IsNeverMet d)
  of_none (inl void) = inr ((some_never_met c.diffs).0 void)
  of_none (inr e) = inl ((is_among-decides c.hypotheses c.conclusion).0 (sym (tautology_repeats c) ∙ e))

  nothing_said : Has c.hypotheses c.conclusion ⊎ ((d : Diff) × Has c.diffs d × IsNeverMet d) → says_nothing c ≡ true
  nothing_said (inl h) = or_right (is_void c) (is_tautology (without_repeats (without_needless c))) (tautology_repeats c ∙ (is_among-decides c.hypotheses c.conclusion).1 h)
  nothing_said (inr h) = or_left (is_void c) (is_tautology (without_repeats (without_needless c))) ((some_never_met c.diffs).1 h)

-- an item of what is made of a list's items, where anything is, is made of some item
pub Has-filter_map_source : {X Y : Type 0} (h : X → Option Y) (xs : List X) (y : Y) → Has (filter_map h xs) y → (x : X) × Has xs x × (h x ≡ Some y)
Has-filter_map_source h [] y k = elim k.1 [ ]
Has-filter_map_source {X} {Y} h (x ∷ xs) y k = go (h x) refl (Has-filter_map_source h xs y) k where
  go : (o : Option Y) → h x ≡ o → (Has (filter_map h xs) y → (z : X) × Has xs z × (h z ≡ Some y)) → Has (cons_option o (filter_map h xs)) y → (z : X) × Has (x ∷ xs) z × (h z ≡ Some y)
  go None e others k = let found = others k in (found.0, (x ∷ found.1.0, there found.1.1), found.2)
  go (Some w) e others k = of_pick k.1 e others where
    of_pick : {w v : Y} {rest : List Y} → Picks (w ∷ filter_map h xs) v rest → h x ≡ Some w → (Has (filter_map h xs) v → (z : X) × Has xs z × (h z ≡ Some v)) → (z : X) × Has (x ∷ xs) z × (h z ≡ Some v)
    of_pick here e others = (x, (xs, here), e)
    of_pick (there {rest = left} p) e others = let found = others (left, p) in (found.0, (x ∷ found.1.0, there found.1.1), found.2)

-- each of a clause's norms is the norm of a flat part, and its own norm
pub norms-source : (c d : Clause Term) → Has (norms c) d → (part : Clause Term) × Has (flat_parts c) part × (norm part ≡ Some d)
norms-source c d h = Has-filter_map_source norm (flat_parts c) d h

pub norms-normal : (c d : Clause Term) → Has (norms c) d → IsNormal d
norms-normal c d h = let found = norms-source c d h in norm-normal found.0 d (flat_parts-flat c found.0 found.1) found.2

-- a flat clause is its one flat part
pub flat_parts-own : (c : Clause Term) → is_flat_clause c ≡ true → flat_parts c ≡ c ∷ []
flat_parts-own c e =
    let parts = and_true (is_flat c.conclusion) (list_all is_flat c.hypotheses) e in
    λ i. map (λ f. record { hypotheses = flats_are_own c.hypotheses parts.1 i; diffs = c.diffs; conclusion = f }) (flat_is_own c.conclusion parts.0 i)

pub norms-own : (c : Clause Term) → IsNormal c → norms c ≡ c ∷ []
norms-own c n = ap (filter_map norm) (flat_parts-own c n.flat) ∙ ap (λ o. cons_option o []) n.own

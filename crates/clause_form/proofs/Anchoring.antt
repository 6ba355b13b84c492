-- The rules of constraints over a bank: what constraints may speak of, those that are needed, and the norm of what is left.
use Rattle.std.proofs.Common.{◌≡◌, ℕ, Bool, true, false, ◌||◌, cond, None, Some, List, [], ◌∷◌, map, filter, refl, ap, sym, ◌∙◌, subst, eqb, eqb-true, eq-eqb, length, arith}
use Rattle.std.proofs.lemmas.Bool.{false≢true}
use Rattle.spec_terms.specs.Term.{Term}
use Rattle.spec_clauses.specs.Diff.{Diff}
use Rattle.spec_clauses.specs.Fact.{Fact, Clause}
use Rattle.spec_clauses.specs.Variables.{firm_variables}
use Rattle.spec_clauses.specs.Norm.{passes_on, elsewhere, anchors, without_needless, is_void, without_repeats, is_tautology, generalized, numbered_anew, norm}
use Rattle.spec_clauses.proofs.Anchors.{few-needed, constrained_stand}
use Rattle.term_tree.specs.declared.bank.Id.{Id}
use Rattle.clause_diffs.specs.Diffs.{DiffOf, diffs_at, NameDiffs}
use Rattle.clause_form.specs.Normals.{anchors_at, AreOwn, simplest, needed_norm}
use Rattle.clause_form.specs.Seen.{clause_at, IdClause}
use Rattle.clause_form.proofs.Flattening.{clause_with}

-- the anchors of a clause that passes on what the attacker has, and of one that doesn't
pub anchors_then : (c : Clause Term) (b : Bool) → b ≡ passes_on c → b ≡ true → firm_variables c.hypotheses ≡ anchors c
anchors_then c b told e = sym (ap (λ k. cond k (firm_variables c.hypotheses) (elsewhere c)) (sym told ∙ e))

pub anchors_else : (c : Clause Term) (b : Bool) → b ≡ passes_on c → b ≡ false → elsewhere c ≡ anchors c
anchors_else c b told e = sym (ap (λ k. cond k (firm_variables c.hypotheses) (elsewhere c)) (sym told ∙ e))

pub anchors_by : (all : List Term) (c : IdClause) (hs : List (Fact Id)) (f : Fact Id) (ns : List ℕ) → ns ≡ anchors_at all hs f → hs ≡ c.hypotheses → f ≡ c.conclusion → ns ≡ anchors (clause_at all c)
anchors_by all c hs f ns told hyps_are concl_is = told ∙ λ i. anchors_at all (hyps_are i) (concl_is i)

-- a list of no length is empty
pub empty_of : {X : Type 0} (xs : List X) (b : Bool) → b ≡ eqb (length xs) 0 → b ≡ true → xs ≡ []
empty_of [] b told e = refl
empty_of (x ∷ xs) b told e = let none : length (x ∷ xs) ≡ 0 = eqb-true (length (x ∷ xs)) 0 (sym told ∙ e) in absurd (omega (arith, none))

pub some_of : {X Y : Type 0} (f : X → Y) (xs : List X) (b : Bool) → b ≡ eqb (length xs) 0 → b ≡ false → map f xs ≡ [] → ⊥
some_of f [] b told e none = false≢true (sym e ∙ (told ∙ eq-eqb 0 0 refl))
some_of f (x ∷ xs) b told e none = cc

-- where there are no constraints, none is needed
pub none_needed : (all : List Term) (p : Diff → Bool) (ds kept : List (DiffOf Id)) → kept ≡ [] → ds ≡ [] → NameDiffs all kept (filter p (diffs_at all ds))
none_needed all p ds kept none empty =
    subst (λ (l : List (DiffOf Id)). NameDiffs all l (filter p (diffs_at all ds))) (sym none) record { known = tt; are = ap (λ l. filter p (diffs_at all l)) (sym empty) }

-- what is needed, by equal lists of hypotheses and of constraints
pub few_named : (old : List Term) (hs hyps : List (Fact Id)) (es ds : List (DiffOf Id)) (f : Fact Id) (few fs : List (DiffOf Id)) → hs ≡ hyps → es ≡ ds → fs ≡ few → NameDiffs old few (without_needless (clause_at old (clause_with hs es f))).diffs
    → NameDiffs old fs (without_needless (clause_at old (clause_with hyps ds f))).diffs
few_named old hs hyps es ds f few fs hyps_are diffs_are few_is named =
    subst (λ (l : List (DiffOf Id)). NameDiffs old l (without_needless (clause_at old (clause_with hyps ds f))).diffs) (sym few_is)
    (subst (λ (l : List Diff). NameDiffs old few l) (λ i. (without_needless (clause_at old (clause_with (hyps_are i) (diffs_are i) f))).diffs) named)

-- A clause with a constraint that no substitution meets has no norm,
pub norm_void : (c : Clause Term) → is_void c ≡ true → norm c ≡ None
norm_void c e = ap (λ b. cond (b || is_tautology (without_repeats (without_needless c))) None (Some (numbered_anew (generalized (simplest (without_needless c)))))) e

-- and the others have that of the clause with the constraints that are needed,
pub norm_of_few : (old : List Term) (c : IdClause) (few : List (DiffOf Id)) → NameDiffs old few (without_needless (clause_at old c)).diffs → is_void (clause_at old c) ≡ false → needed_norm (clause_at old (clause_with c.hypotheses few c.conclusion)) ≡ norm (clause_at old c)
norm_of_few old c few named met =
    let plain = clause_at old c in
    let rest = without_needless plain in
    ap (λ ds. needed_norm (clause_with plain.hypotheses ds plain.conclusion)) named.are
    ∙ sym (ap (λ b. cond (b || is_tautology (without_repeats rest)) None (Some (numbered_anew (generalized (simplest rest))))) met)

-- which speak of the facts that are left
pub own_needed : (old : List Term) (c : IdClause) (few : List (DiffOf Id)) → NameDiffs old few (without_needless (clause_at old c)).diffs → AreOwn (simplest (clause_at old (clause_with c.hypotheses few c.conclusion)))
own_needed old c few named =
    let plain = clause_at old c in
    let stands : AreOwn (simplest (without_needless plain)) = constrained_stand (simplest (without_needless plain)) (few-needed plain) in
    subst (λ (ds : List Diff). AreOwn (simplest (clause_with plain.hypotheses ds plain.conclusion))) (sym named.are) stands

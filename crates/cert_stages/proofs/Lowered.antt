-- Clauses whose variables get low numbers, or have them since they have no constraints.
use Rattle.std.proofs.Common.{◌≡◌, ◌∙◌, ℕ, zero, suc, ◌+◌, ◌<◌, ◌≤◌, Option, Some, None, List, [], ◌∷◌, ◌++◌, length, take, get_or, refl, ap, sym, subst, arith}
use Rattle.std.specs.List.{AllByRecursion}
use Rattle.std.proofs.lemmas.List.{length-map, take_more}
use Rattle.spec_calculus.specs.Bounds.{most_symbols}
use Rattle.spec_terms.specs.Term.{Term}
use Rattle.spec_clauses.specs.Fact.{Clause, clause_terms}
use Rattle.spec_clauses.specs.Norm.{norm, IsNormal}
use Rattle.spec_clauses.specs.Limits.{IsWithinLimit}
use Rattle.spec_clauses.specs.Inclusion.{here, there, Has}
use Rattle.spec_clauses.specs.Variables.{IsBelow, AreBelow, all_terms}
use Rattle.spec_clauses.proofs.Lists.{all_append, all_first}
use Rattle.term_tree.specs.Bank.{Grows}
use Rattle.clause_diffs.specs.Diffs.{AreDiffLeavesBelow}
use Rattle.clause_form.specs.declared.normal.Normal.{Normal}
use Rattle.clause_form.specs.declared.normal.Normal.TheVariants as variants
use Rattle.clause_form.specs.Normals.{NamesNorm}
use Rattle.clause_form.specs.Fit.{IsLowWithinLimit, AreLowWithinLimit, IsFit, AreFit, clauses_at}
use Rattle.clause_form.specs.Seen.{clause_at, NamesClause, NameClauses, IdClause}
use Rattle.clause_form.proofs.Copying.{NamesClause-grows}
use Rattle.clause_form.proofs.Fit.{named_fit}
use Rattle.clause_form.proofs.Low.{AreLowWithinLimit-grow, AreLowWithinLimit-append}
use Rattle.cert_stages.specs.Lowering.{IsNormalIn, AreNormalIn, AreUnconstrained}
use Rattle.cert_stages.proofs.Looking.{copying_begins, copied_on, copying_ends}

-- Clauses without constraints.

pub none_there : {X : Type 0} (xs : List X) → length xs ≡ 0 → xs ≡ []
none_there [] e = refl
none_there (x ∷ xs) e = absurd (omega (arith, e))

pub unconstrained_on : (cs : List IdClause) (i : ℕ) (c : IdClause) → AreUnconstrained (take i cs) → i < length cs → c ≡ get_or cs i c → length c.diffs ≡ 0 → AreUnconstrained (take (i + 1) cs)
unconstrained_on cs i c so_far below is none =
    let taken : take (i + 1) cs ≡ take i cs ++ c ∷ [] = take_more cs i c below ∙ ap (λ d. take i cs ++ d ∷ []) (sym is) in
    subst (λ (ds : List IdClause). AreUnconstrained ds) (sym taken) (all_append (λ (d : IdClause). d.diffs ≡ []) (take i cs) (c ∷ []) so_far (none_there c.diffs none, tt))

-- the variables of a clause that is its own norm within the limit are below the limit
abbrev pub NormsAreLow : Type 0
NormsAreLow = (c : Clause Term) → IsNormal c → IsWithinLimit c → AreBelow most_symbols (all_terms c)

unconstrained_one : (all : List Term) (c : IdClause) → NormsAreLow → IsNormalIn all c → c.diffs ≡ [] → IsFit all c
unconstrained_one all c law normal none = record {
  known = normal.known;
  normal = normal.normal;
  small = normal.small;
  low = record {
    facts = all_first (IsBelow most_symbols) (clause_terms (clause_at all c)) _ (law (clause_at all c) normal.normal normal.small);
    diffs = subst (λ ds. AllByRecursion (AreDiffLeavesBelow most_symbols all) ds) (sym none) tt;
  };
}

pub unconstrained_fit : (all : List Term) (cs : List IdClause) → NormsAreLow → AreNormalIn all cs → AreUnconstrained cs → AreFit all cs
unconstrained_fit all [] law normal none = tt
unconstrained_fit all (c ∷ cs) law normal none = (unconstrained_one all c law normal.0 none.0, unconstrained_fit all cs law normal.1 none.1)

-- The norm of a clause that is its own.

norm_is : (old : List Term) (clause copied : IdClause) → copied ≡ clause → IsNormal (clause_at old clause) → norm (clause_at old copied) ≡ Some (clause_at old clause)
norm_is old clause copied same normal = ap (λ (c : IdClause). norm (clause_at old c)) same ∙ normal.own

pub no_tautology : (old now : List Term) (clause copied : IdClause) (found : Normal) → copied ≡ clause → IsNormal (clause_at old clause) → found ≡ variants.Tautology → NamesNorm now found (norm (clause_at old copied)) → ⊥
no_tautology old now clause copied found same normal is names =
    let none : norm (clause_at old copied) ≡ None = subst (λ (n : Normal). NamesNorm now n (norm (clause_at old copied))) is names in
    let wrong : None ≡ Some (clause_at old clause) = sym none ∙ norm_is old clause copied same normal in cc

pub normed : (old now : List Term) (clause copied made : IdClause) (found : Normal) → copied ≡ clause → IsNormal (clause_at old clause) → found ≡ variants.Clause made → NamesNorm now found (norm (clause_at old copied)) → NamesClause now made (clause_at old clause)
normed old now clause copied made found same normal is names =
    subst (λ (o : Option (Clause Term)). NamesNorm now (variants.Clause made) o) (norm_is old clause copied same normal)
    (subst (λ (n : Normal). NamesNorm now n (norm (clause_at old copied))) is names)

-- One clause after the other.

pub normal_at : (all : List Term) (cs : List IdClause) (i : ℕ) (c : IdClause) → c ≡ get_or cs i c → AreNormalIn all cs → i < length cs → IsNormalIn all c
normal_at all [] i c is normal within = absurd (omega (arith, within))
normal_at all (d ∷ cs) zero c is normal within = subst (IsNormalIn all) (sym is) normal.0
normal_at all (d ∷ cs) (suc i) c is normal within = normal_at all cs i c is normal.1 (omega (arith, within))

clause_later : (a b : List Term) (c : IdClause) → Grows a b → IsNormalIn a c → NamesClause b c (clause_at a c)
clause_later a b c grows normal = NamesClause-grows a b c (clause_at a c) grows (record { known = normal.known; is = refl })

pub IsNormalIn-grows : (a b : List Term) (c : IdClause) → Grows a b → IsNormalIn a c → IsNormalIn b c
IsNormalIn-grows a b c grows normal =
    let later = clause_later a b c grows normal in
    record { known = later.known; normal = subst IsNormal (sym later.is) normal.normal; small = subst IsWithinLimit (sym later.is) normal.small }

-- the clauses before the place are named, with variables of low numbers
pub record AreLowered (old now : List Term) (made cs : List IdClause) (k : ℕ) : Type 0 where
  pub grows : Grows old now
  pub names : NameClauses now made (take k (clauses_at old cs))
  pub low : AreLowWithinLimit now made

pub lowering_begins : (old : List Term) (made cs : List IdClause) → made ≡ [] → AreLowered old old made cs 0
lowering_begins old made cs none =
    let begun = copying_begins old made (clauses_at old cs) none in
    record { grows = begun.grows; names = begun.names; low = subst (AreLowWithinLimit old) (sym none) tt }

got_clause : (all : List Term) (cs : List IdClause) (k : ℕ) (c : IdClause) → c ≡ get_or cs k c → clause_at all c ≡ get_or (clauses_at all cs) k (clause_at all c)
got_clause all [] k c is = refl
got_clause all (d ∷ cs) zero c is = ap (clause_at all) is
got_clause all (d ∷ cs) (suc k) c is = got_clause all cs k c is

pub lowered_on : (old now next : List Term) (made new cs : List IdClause) (k : ℕ) (c more : IdClause) → AreLowered old now made cs k → c ≡ get_or cs k c → k < length cs → IsNormalIn old c → Grows now next → NamesClause next more (clause_at now c) → IsLowWithinLimit next more → new ≡ made ++ more ∷ []
    → AreLowered old next new cs (k + 1)
lowered_on old now next made new cs k c more was is within normal grows names low e =
    let later = clause_later old now c was.grows normal in
    let named : NamesClause next more (clause_at old c) = record { known = names.known; is = names.is ∙ later.is } in
    let on = copied_on (clauses_at old cs) k (clause_at old c) (got_clause old cs k c is) (omega (arith, within, length-map cs (clause_at old))) old now next made new more (record { grows = was.grows; names = was.names }) grows named e in
    record {
      grows = on.grows;
      names = on.names;
      low = subst (AreLowWithinLimit next) (sym e) (AreLowWithinLimit-append next made (more ∷ []) (AreLowWithinLimit-grow now next made grows was.names.known was.low) (low, tt));
    }

pub lowering_ends : (old now : List Term) (made cs : List IdClause) (k : ℕ) → length cs ≤ k → AreLowered old now made cs k → NameClauses now made (clauses_at old cs)
lowering_ends old now made cs k past was = copying_ends old now made (clauses_at old cs) k (omega (arith, past, length-map cs (clause_at old))) (record { grows = was.grows; names = was.names })

-- clauses that name those that are normal, with variables of low numbers, are fit
has_normal : (all : List Term) (cs : List IdClause) → AreNormalIn all cs → (c : Clause Term) → Has (clauses_at all cs) c → IsNormal c
has_normal all [] normal c h = elim h.1 [ ]
has_normal all (d ∷ cs) normal c (rest, here) = normal.0.normal
has_normal all (d ∷ cs) normal c (rest, there p) = has_normal all cs normal.1 c (_, p)

has_small : (all : List Term) (cs : List IdClause) → AreNormalIn all cs → (c : Clause Term) → Has (clauses_at all cs) c → IsWithinLimit c
has_small all [] normal c h = elim h.1 [ ]
has_small all (d ∷ cs) normal c (rest, here) = normal.0.small
has_small all (d ∷ cs) normal c (rest, there p) = has_small all cs normal.1 c (_, p)

pub lowered_fit : (old now : List Term) (made cs : List IdClause) → AreNormalIn old cs → NameClauses now made (clauses_at old cs) → AreLowWithinLimit now made → AreFit now made
lowered_fit old now made cs normal names low = named_fit now made (clauses_at old cs) names low (has_normal old cs normal) (has_small old cs normal)

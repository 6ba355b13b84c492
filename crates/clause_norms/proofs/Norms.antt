-- Clauses whose norms are taken one by one.
use Rattle.std.proofs.Common.{◌≡◌, Option, Some, None, List, [], ◌∷◌, ◌++◌, map, filter_map, refl, ap, sym, ◌∙◌, subst, append_assoc, append-nil}
use Rattle.std.specs.List.{cons_option}
use Rattle.std.proofs.lemmas.List.{map-append}
use Rattle.std.proofs.lemmas.List.Elements.{filter_map-append}
use Rattle.spec_terms.specs.Term.{Term}
use Rattle.spec_clauses.specs.Fact.{Clause}
use Rattle.spec_clauses.specs.Norm.{norm}
use Rattle.spec_clauses.specs.Limits.{IsWithinLimit}
use Rattle.spec_clauses.proofs.Lists.{all_append}
use Rattle.term_tree.specs.Bank.{Grows}
use Rattle.term_tree.proofs.BankLaws.{Grows_refl, Grows_trans}
use Rattle.clause_form.specs.declared.normal.Normal.{Normal}
use Rattle.clause_form.specs.declared.normal.Normal.TheVariants as variants
use Rattle.clause_form.specs.Fit.{HasLowVariables, AreLowWithinLimit}
use Rattle.clause_form.specs.Normals.{NamesNorm, IfClause}
use Rattle.clause_form.specs.Seen.{clause_at, IsClauseIn, AreClausesIn, NamesClause, NameClauses, IdClause}
use Rattle.clause_form.proofs.Copying.{NamesClause-grows, NameClauses-grow}
use Rattle.clause_form.proofs.Fit.{HasLowVariables-grows}

AreClausesIn-append : (all : List Term) (cs : List IdClause) (c : IdClause) → AreClausesIn all cs → IsClauseIn all c → AreClausesIn all (cs ++ c ∷ [])
AreClausesIn-append all [] c known more = (more, tt)
AreClausesIn-append all (d ∷ cs) c known more = (known.0, AreClausesIn-append all cs c known.1 more)

pub NameClauses-push : (all : List Term) (cs : List IdClause) (ts : List (Clause Term)) (c : IdClause) (t : Clause Term) → NameClauses all cs ts → NamesClause all c t → NameClauses all (cs ++ c ∷ []) (ts ++ t ∷ [])
NameClauses-push all cs ts c t names more = record {
  known = AreClausesIn-append all cs c names.known more.known;
  are = map-append (clause_at all) cs (c ∷ []) ∙ (ap (λ l. l ++ clause_at all c ∷ []) names.are ∙ ap (λ u. ts ++ u ∷ []) more.is);
}

-- the variables of a clause have low numbers where it is within the limit of size
abbrev IsLowWithinLimit : List Term → IdClause → Type 0
IsLowWithinLimit all c = IsWithinLimit (clause_at all c) → HasLowVariables all c

IsLowWithinLimit-grows : (a b : List Term) (c : IdClause) → Grows a b → IsClauseIn a c → IsLowWithinLimit a c → IsLowWithinLimit b c
IsLowWithinLimit-grows a b c grows known low small =
    let later = NamesClause-grows a b c (clause_at a c) grows (record { known = known; is = refl }) in
    HasLowVariables-grows a b c grows known (low (subst IsWithinLimit later.is small))

pub AreLowWithinLimit-grow : (a b : List Term) (cs : List IdClause) → Grows a b → AreClausesIn a cs → AreLowWithinLimit a cs → AreLowWithinLimit b cs
AreLowWithinLimit-grow a b [] grows known low = tt
AreLowWithinLimit-grow a b (c ∷ cs) grows known low = (IsLowWithinLimit-grows a b c grows known.0 low.0, AreLowWithinLimit-grow a b cs grows known.1 low.1)

pub one_added_low : (old now : List Term) (cs new : List IdClause) (normal : Normal) (made : IdClause) → Grows old now → normal ≡ variants.Clause made → IfClause normal (IsLowWithinLimit now) → new ≡ cs ++ made ∷ [] → AreClausesIn old cs → AreLowWithinLimit old cs → AreLowWithinLimit now new
one_added_low old now cs new normal made grows is low e known before =
    let here : IsLowWithinLimit now made = subst (λ (n : Normal). IfClause n (IsLowWithinLimit now)) is low in
    subst (λ (l : List IdClause). AreLowWithinLimit now l) (sym e) (all_append (IsLowWithinLimit now) cs (made ∷ []) (AreLowWithinLimit-grow old now cs grows known before) (here, tt))

-- a tautology adds nothing; a clause that has a norm adds it
pub nothing_added : (old now : List Term) (cs : List IdClause) (c : Clause Term) (normal : Normal) → Grows old now → normal ≡ variants.Tautology → NamesNorm now normal (norm c)
    → (before : List (Clause Term)) → NameClauses old cs before → NameClauses now cs (before ++ cons_option (norm c) [])
nothing_added old now cs c normal grows is norms before names =
    let none : norm c ≡ None = subst (λ (n : Normal). NamesNorm now n (norm c)) is norms in
    subst (λ (l : List (Clause Term)). NameClauses now cs l) (sym (append-nil before) ∙ ap (λ o. before ++ cons_option o []) (sym none)) (NameClauses-grow old now cs before grows names)

named : (all : List Term) (cs new : List IdClause) (made : IdClause) (o : Option (Clause Term)) (before : List (Clause Term)) → NamesNorm all (variants.Clause made) o → new ≡ cs ++ made ∷ [] → NameClauses all cs before → NameClauses all new (before ++ cons_option o [])
named all cs new made None before norms e names = absurd norms
named all cs new made (Some d) before norms e names = subst (λ (l : List IdClause). NameClauses all l (before ++ d ∷ [])) (sym e) (NameClauses-push all cs before made d names norms)

pub one_added : (old now : List Term) (cs new : List IdClause) (c : Clause Term) (normal : Normal) (made : IdClause) → Grows old now → normal ≡ variants.Clause made → NamesNorm now normal (norm c) → new ≡ cs ++ made ∷ []
    → (before : List (Clause Term)) → NameClauses old cs before → NameClauses now new (before ++ cons_option (norm c) [])
one_added old now cs new c normal made grows is norms e before names =
    named now cs new made (norm c) before (subst (λ (n : Normal). NamesNorm now n (norm c)) is norms) e (NameClauses-grow old now cs before grows names)

-- how far the norms are taken: those of the clauses that are left come behind those that are made
pub record AreNormed (old now : List Term) (made left all : List IdClause) : Type 0 where
  pub grows : Grows old now
  pub known : AreClausesIn old left
  pub before : List (Clause Term)
  pub names : NameClauses now made before
  pub low : AreLowWithinLimit now made
  pub whole : before ++ filter_map norm (map (clause_at old) left) ≡ filter_map norm (map (clause_at old) all)

pub none_normed : (all : List Term) (cs : List IdClause) → AreClausesIn all cs → AreNormed all all [] cs cs
none_normed all cs known = record { grows = Grows_refl all; known = known; before = []; names = record { known = tt; are = refl }; low = tt; whole = refl }

pub normed_on : (old now next : List Term) (made new left rest all : List IdClause) (c : IdClause) → AreNormed old now made left all → left ≡ c ∷ rest → Grows now next
    → ((before : List (Clause Term)) → NameClauses now made before → NameClauses next new (before ++ filter_map norm (clause_at now c ∷ []))) → (AreClausesIn now made → AreLowWithinLimit now made → AreLowWithinLimit next new) → AreNormed old next new rest all
normed_on old now next made new left rest all c was next_is grows adds keeps_low =
    let known = subst (λ (l : List IdClause). AreClausesIn old l) next_is was.known in
    let same : clause_at now c ≡ clause_at old c = (NamesClause-grows old now c (clause_at old c) was.grows (record { known = known.0; is = refl })).is in
    let first = filter_map norm (clause_at old c ∷ []) in
    let others = filter_map norm (map (clause_at old) rest) in
    let here = subst (λ (d : Clause Term). NameClauses next new (was.before ++ filter_map norm (d ∷ []))) same (adds was.before was.names) in
    record {
      grows = Grows_trans old now next was.grows grows;
      known = known.1;
      before = was.before ++ first;
      names = here;
      low = keeps_low was.names.known was.low;
      whole = append_assoc was.before first others
          ∙ (ap (λ l. was.before ++ l) (sym (filter_map-append norm (clause_at old c ∷ []) (map (clause_at old) rest)))
          ∙ (ap (λ l. was.before ++ filter_map norm (map (clause_at old) l)) (sym next_is) ∙ was.whole));
    }

pub part_known : (old now : List Term) (made left rest all : List IdClause) (c : IdClause) → AreNormed old now made left all → left ≡ c ∷ rest → IsClauseIn now c
part_known old now made left rest all c was next_is =
    let known = subst (λ (l : List IdClause). AreClausesIn old l) next_is was.known in (NamesClause-grows old now c (clause_at old c) was.grows (record { known = known.0; is = refl })).known

pub all_normed : (old now : List Term) (made left all : List IdClause) → AreNormed old now made left all → left ≡ [] → NameClauses now made (filter_map norm (map (clause_at old) all))
all_normed old now made left all was none =
    let whole : was.before ≡ filter_map norm (map (clause_at old) all) = sym (append-nil was.before) ∙ (ap (λ l. was.before ++ filter_map norm (map (clause_at old) l)) (sym none) ∙ was.whole) in
    subst (λ (l : List (Clause Term)). NameClauses now made l) whole was.names

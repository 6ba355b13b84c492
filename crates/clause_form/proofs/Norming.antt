-- The rules of the norm over a bank, one after another.
use Rattle.std.proofs.Common.{◌≡◌, ℕ, zero, suc, ◌+◌, ◌<◌, ◌≤◌, Bool, true, false, not, ◌&&◌, cond, Option, None, Some, Result, IfOk, List, [], ◌∷◌, ◌++◌, length, map, filter, take, get_or, refl, ap, sym, ◌∙◌, subst, arith}
use Rattle.std.specs.declared.alloc.AllocError.{AllocError}
use Rattle.std.specs.List.{list_any}
use Rattle.std.proofs.lemmas.List.{map-append, map_more, take_all, length-map}
use Rattle.std.proofs.lemmas.Simd.{map-map}
use Rattle.spec_trees.specs.Tree.{Leaf, Node}
use Rattle.spec_terms.specs.Term.{Term}
use Rattle.spec_terms.proofs.Replace.{eqb_self}
use Rattle.spec_clauses.specs.Diff.{Diff}
use Rattle.spec_clauses.specs.Fact.{Fact, Att, Mess, Tab, Ev, Mev, Bad, Clause, same_fact, is_among, is_variable_known, phase_of}
use Rattle.spec_clauses.specs.Variables.{fact_variables, firm_variables}
use Rattle.spec_clauses.specs.Selection.{is_solved}
use Rattle.spec_clauses.specs.Norm.{distinct, is_lonely, without_lonely, is_passed_on, everything_known, generalized, numbered_anew}
use Rattle.spec_clauses.proofs.Equality.{same_fact-decides}
use Rattle.spec_trees.proofs.Equality.{and_true}
use Rattle.term_tree.specs.declared.bank.Id.{Id}
use Rattle.clause_diffs.specs.Diffs.{DiffOf, diffs_at}
use Rattle.clause_diffs.proofs.Counting.{distinct_on, filter-append}
use Rattle.clause_form.specs.declared.facts.Fact as declared
use Rattle.clause_form.specs.declared.normal.Normal.{Normal}
use Rattle.clause_form.specs.declared.normal.Normal.TheVariants as variants
use Rattle.clause_form.specs.Facts.{fact_of}
use Rattle.clause_form.specs.Normals.{NamesNorm, AreOwn, simplest, needed_norm}
use Rattle.clause_form.specs.Seen.{fact_at, clause_at, IsFactIn, AreFactsIn, NameFacts, NamesClause, IdClause}
use Rattle.clause_form.proofs.Flattening.{AreFactsIn-append, clause_with, with_hypotheses}

-- what a fact over ids is over the trees
abbrev pub seen_at : List Term → declared.Fact → Fact Term
seen_at all f = fact_at all (fact_of f)

got_map : {X Y : Type 0} (f : X → Y) (xs : List X) (i : ℕ) (d : X) → i < length xs → get_or (map f xs) i (f d) ≡ f (get_or xs i d)
got_map f [] i d within = absurd (omega arith)
got_map f (x ∷ xs) zero d within = refl
got_map f (x ∷ xs) (suc i) d within = got_map f xs i d (omega arith)

kept_known : (all : List Term) (kept : List (Fact Id)) (f : Fact Id) (b : Bool) → AreFactsIn all kept → IsFactIn all f → AreFactsIn all (cond b kept (kept ++ f ∷ []))
kept_known all kept f true known fact = known
kept_known all kept f false known fact = AreFactsIn-append all kept (f ∷ []) known (fact, tt)

pub repeats_known : (all : List Term) (kept new : List (Fact Id)) (f : Fact Id) (b : Bool) → AreFactsIn all kept → IsFactIn all f → new ≡ cond b kept (kept ++ f ∷ []) → AreFactsIn all new
repeats_known all kept new f b known fact e = subst (λ (l : List (Fact Id)). AreFactsIn all l) (sym e) (kept_known all kept f b known fact)

map_cond : (all : List Term) (kept : List (Fact Id)) (f : Fact Id) (b : Bool) → map (fact_at all) (cond b kept (kept ++ f ∷ [])) ≡ cond b (map (fact_at all) kept) (map (fact_at all) kept ++ fact_at all f ∷ [])
map_cond all kept f true = refl
map_cond all kept f false = map-append (fact_at all) kept (f ∷ [])

pub repeats_on : (all : List Term) (fs : List declared.Fact) (i : ℕ) (f : declared.Fact) (kept new : List (Fact Id)) → map (fact_at all) kept ≡ distinct same_fact (take i (map (seen_at all) fs)) → i < length fs → f ≡ get_or fs i f
    → new ≡ cond (is_among (map (fact_at all) kept) (seen_at all f)) kept (kept ++ fact_of f ∷ []) → map (fact_at all) new ≡ distinct same_fact (take (i + 1) (map (seen_at all) fs))
repeats_on all fs i f kept new was within is e =
    let inside : i < length (map (seen_at all) fs) = omega (arith, length-map fs (seen_at all)) in
    let found : seen_at all f ≡ get_or (map (seen_at all) fs) i (seen_at all f) = ap (seen_at all) is ∙ sym (got_map (seen_at all) fs i f within) in
    let made : map (fact_at all) new ≡ cond (list_any (same_fact (seen_at all f)) (map (fact_at all) kept)) (map (fact_at all) kept) (map (fact_at all) kept ++ seen_at all f ∷ []) =
    ap (map (fact_at all)) e ∙ map_cond all kept (fact_of f) (is_among (map (fact_at all) kept) (seen_at all f)) in
    distinct_on same_fact (λ g h. (same_fact-decides g h).0) (λ g. (same_fact-decides g g).1 refl) (map (seen_at all) fs) i (seen_at all f) (map (fact_at all) kept) (map (fact_at all) new) inside found was made

pub repeats_done : (all : List Term) (fs : List declared.Fact) (i : ℕ) (kept : List (Fact Id)) → AreFactsIn all kept → map (fact_at all) kept ≡ distinct same_fact (take i (map (seen_at all) fs)) → length fs ≤ i
    → NameFacts all kept (distinct same_fact (map (fact_at all) (map fact_of fs)))
repeats_done all fs i kept known was past = record {
  known = known;
  are = was ∙ ap (distinct same_fact) (take_all i (map (seen_at all) fs) (omega (arith, length-map fs (seen_at all))) ∙ sym (map-map (fact_at all) fact_of fs));
}

-- a fact that isn't lonely goes to the end
lonely_at : (all : List Term) (numbers : List ℕ) (kept : List (Fact Id)) (f : Fact Id) (b : Bool) → is_lonely numbers (fact_at all f) ≡ b
    → map (fact_at all) (kept ++ cond b [] (f ∷ [])) ≡ map (fact_at all) kept ++ filter (λ h. not (is_lonely numbers h)) (fact_at all f ∷ [])
lonely_at all numbers kept f true e = map-append (fact_at all) kept [] ∙ ap (λ b. map (fact_at all) kept ++ cond (not b) (fact_at all f ∷ []) []) (sym e)
lonely_at all numbers kept f false e = map-append (fact_at all) kept (f ∷ []) ∙ ap (λ b. map (fact_at all) kept ++ cond (not b) (fact_at all f ∷ []) []) (sym e)

pub lonely_on : (all : List Term) (numbers : List ℕ) (fs : List declared.Fact) (i : ℕ) (f : declared.Fact) (kept new : List (Fact Id)) → map (fact_at all) kept ≡ filter (λ h. not (is_lonely numbers h)) (map (seen_at all) (take i fs)) → i < length fs → f ≡ get_or fs i f
    → new ≡ kept ++ cond (is_lonely numbers (seen_at all f)) [] (fact_of f ∷ []) → map (fact_at all) new ≡ filter (λ h. not (is_lonely numbers h)) (map (seen_at all) (take (i + 1) fs))
lonely_on all numbers fs i f kept new was within is e =
    let more : map (seen_at all) (take (i + 1) fs) ≡ map (seen_at all) (take i fs) ++ seen_at all f ∷ [] = map_more (seen_at all) fs i f within ∙ ap (λ x. map (seen_at all) (take i fs) ++ seen_at all x ∷ []) (sym is) in
    ap (map (fact_at all)) e
    ∙ (lonely_at all numbers kept (fact_of f) (is_lonely numbers (seen_at all f)) refl
    ∙ (ap (λ l. l ++ filter (λ h. not (is_lonely numbers h)) (seen_at all f ∷ [])) was
    ∙ (sym (filter-append (λ h. not (is_lonely numbers h)) (map (seen_at all) (take i fs)) (seen_at all f ∷ [])) ∙ ap (filter (λ h. not (is_lonely numbers h))) (sym more))))

few_known : (all : List Term) (kept : List (Fact Id)) (f : Fact Id) (b : Bool) → AreFactsIn all kept → IsFactIn all f → AreFactsIn all (kept ++ cond b [] (f ∷ []))
few_known all kept f true known fact = AreFactsIn-append all kept [] known tt
few_known all kept f false known fact = AreFactsIn-append all kept (f ∷ []) known (fact, tt)

pub lonely_known : (all : List Term) (kept new : List (Fact Id)) (f : Fact Id) (b : Bool) → AreFactsIn all kept → IsFactIn all f → new ≡ kept ++ cond b [] (f ∷ []) → AreFactsIn all new
lonely_known all kept new f b known fact e = subst (λ (l : List (Fact Id)). AreFactsIn all l) (sym e) (few_known all kept f b known fact)

pub lonely_done : (all : List Term) (numbers : List ℕ) (fs : List declared.Fact) (i : ℕ) (kept : List (Fact Id)) → AreFactsIn all kept → map (fact_at all) kept ≡ filter (λ h. not (is_lonely numbers h)) (map (seen_at all) (take i fs)) → length fs ≤ i
    → NameFacts all kept (filter (λ h. not (is_lonely numbers h)) (map (fact_at all) (map fact_of fs)))
lonely_done all numbers fs i kept known was past = record {
  known = known;
  are = was ∙ ap (filter (λ h. not (is_lonely numbers h))) (ap (map (seen_at all)) (take_all i fs past) ∙ sym (map-map (fact_at all) fact_of fs));
}

abbrev alone : Fact Term → Clause Term
alone f = with_hypotheses [] f

-- a clause that concludes `att` of a variable, as if it had no hypotheses, numbered
general_variable : (f : Fact Term) → is_variable_known f ≡ true → numbered_anew (everything_known (phase_of f)) ≡ numbered_anew (alone f)
general_variable (Att k (Leaf x)) e = ap (λ b. alone (Att k (Leaf (cond b 0 1)))) (sym (eqb_self x))
general_variable (Att k (Node g ts)) e = cc
general_variable (Mess k t u) e = cc
general_variable (Tab n ts) e = cc
general_variable (Ev k ts) e = cc
general_variable (Mev k ts) e = cc
general_variable (Bad ts) e = cc

-- whether it is solved, and says more than that what the attacker has passes on
abbrev is_all : List (Fact Term) → Fact Term → Bool
is_all hs f = (is_solved hs && is_variable_known f) && not (is_passed_on hs f)

pub general_then : (hs : List (Fact Term)) (ds : List Diff) (f : Fact Term) → is_all hs f ≡ true → numbered_anew (generalized (clause_with hs ds f)) ≡ numbered_anew (alone f)
general_then hs ds f e =
    let known = (and_true (is_solved hs) (is_variable_known f) (and_true (is_solved hs && is_variable_known f) (not (is_passed_on hs f)) e).0).1 in
    ap (λ b. numbered_anew (cond b (everything_known (phase_of f)) (clause_with hs ds f))) e ∙ general_variable f known

pub general_else : (hs : List (Fact Term)) (ds : List Diff) (f : Fact Term) → is_all hs f ≡ false → numbered_anew (generalized (clause_with hs ds f)) ≡ numbered_anew (clause_with hs ds f)
general_else hs ds f e = ap (λ b. numbered_anew (cond b (everything_known (phase_of f)) (clause_with hs ds f))) e

pub named_as : (all : List Term) (r : Result IdClause AllocError) (t u : Clause Term) → t ≡ u → IfOk r (λ made. NamesClause all made t) → IfOk r (λ made. NamesClause all made u)
named_as all r t u e names = subst (λ (v : Clause Term). IfOk r (λ made. NamesClause all made v)) e names

pub norm_as : (all : List Term) (r : Result Normal AllocError) (t u : Option (Clause Term)) → t ≡ u → IfOk r (λ made. NamesNorm all made t) → IfOk r (λ made. NamesNorm all made u)
norm_as all r t u e names = subst (λ (v : Option (Clause Term)). IfOk r (λ made. NamesNorm all made v)) e names

-- The rules of facts, where the constraints are needed and can be met. The hypotheses that are left:
few_are : (old : List Term) (hyps : List (Fact Id)) (concl : declared.Fact) (kept few fewer : List (Fact Id)) → NameFacts old kept (distinct same_fact (map (fact_at old) hyps)) → fewer ≡ few
    → NameFacts old few (filter (λ h. not (is_lonely (fact_variables (seen_at old concl) ++ firm_variables (map (fact_at old) kept)) h)) (map (fact_at old) kept))
    → map (fact_at old) fewer ≡ filter (λ h. not (is_lonely (fact_variables (seen_at old concl) ++ firm_variables (distinct same_fact (map (fact_at old) hyps))) h)) (distinct same_fact (map (fact_at old) hyps))
few_are old hyps concl kept few fewer kept_named fewer_is few_named =
    ap (map (fact_at old)) fewer_is ∙ (few_named.are ∙ ap (λ l. filter (λ h. not (is_lonely (fact_variables (seen_at old concl) ++ firm_variables l) h)) l) kept_named.are)

-- the constraints speak of them
pub own_few : (old : List Term) (hyps : List (Fact Id)) (ds : List (DiffOf Id)) (concl : declared.Fact) (kept few fewer : List (Fact Id)) → NameFacts old kept (distinct same_fact (map (fact_at old) hyps)) → fewer ≡ few
    → NameFacts old few (filter (λ h. not (is_lonely (fact_variables (seen_at old concl) ++ firm_variables (map (fact_at old) kept)) h)) (map (fact_at old) kept))
    → AreOwn (simplest (clause_at old (clause_with hyps ds (fact_of concl)))) → AreOwn (clause_at old (clause_with fewer ds (fact_of concl)))
own_few old hyps ds concl kept few fewer kept_named fewer_is few_named own =
    subst (λ (hs : List (Fact Term)). AreOwn (clause_with hs (diffs_at old ds) (seen_at old concl))) (sym (few_are old hyps concl kept few fewer kept_named fewer_is few_named)) own

-- where the conclusion is among the hypotheses there is no norm,
pub no_norm : (old next : List Term) (hyps : List (Fact Id)) (ds : List Diff) (concl : declared.Fact) (kept : List (Fact Id)) (facts : List declared.Fact) (among : Bool) → NameFacts old kept (distinct same_fact (map (fact_at old) hyps)) → map fact_of facts ≡ kept
    → among ≡ is_among (map (fact_at old) (map fact_of facts)) (seen_at old concl) → among ≡ true → NamesNorm next variants.Tautology (needed_norm (clause_with (map (fact_at old) hyps) ds (seen_at old concl)))
no_norm old next hyps ds concl kept facts among named is among_is there =
    let D = distinct same_fact (map (fact_at old) hyps) in
    let C = seen_at old concl in
    let tautology : is_among D C ≡ true = ap (λ l. is_among l C) (sym (ap (map (fact_at old)) is ∙ named.are)) ∙ (sym among_is ∙ there) in
    ap (λ b. cond b None (Some (numbered_anew (generalized (without_lonely (clause_with D ds C)))))) tautology

-- else what is left names the norm.
pub norm_named : (old next : List Term) (hyps : List (Fact Id)) (ds : List Diff) (concl : declared.Fact) (kept few fewer : List (Fact Id)) (facts : List declared.Fact) (among : Bool) (made : IdClause)
    → NameFacts old kept (distinct same_fact (map (fact_at old) hyps)) → map fact_of facts ≡ kept → fewer ≡ few
    → among ≡ is_among (map (fact_at old) (map fact_of facts)) (seen_at old concl) → among ≡ false
    → NameFacts old few (filter (λ h. not (is_lonely (fact_variables (seen_at old concl) ++ firm_variables (map (fact_at old) kept)) h)) (map (fact_at old) kept)) → NamesClause next made (numbered_anew (generalized (clause_with (map (fact_at old) fewer) ds (seen_at old concl))))
    → NamesNorm next (variants.Clause made) (needed_norm (clause_with (map (fact_at old) hyps) ds (seen_at old concl)))
norm_named old next hyps ds concl kept few fewer facts among made kept_named is fewer_is among_is absent few_named names =
    let D = distinct same_fact (map (fact_at old) hyps) in
    let C = seen_at old concl in
    let V = fact_variables C ++ firm_variables D in
    let tautology : is_among D C ≡ false = ap (λ l. is_among l C) (sym (ap (map (fact_at old)) is ∙ kept_named.are)) ∙ (sym among_is ∙ absent) in
    let left = few_are old hyps concl kept few fewer kept_named fewer_is few_named in
    let made_is : needed_norm (clause_with (map (fact_at old) hyps) ds C) ≡ Some (numbered_anew (generalized (clause_with (map (fact_at old) fewer) ds C))) =
    (ap (λ b. cond b None (Some (numbered_anew (generalized (clause_with (filter (λ h. not (is_lonely V h)) D) ds C))))) tautology ∙ ap (λ l. Some (numbered_anew (generalized (clause_with l ds C)))) (sym left)) in
    subst (λ (o : Option (Clause Term)). NamesNorm next (variants.Clause made) o) (sym made_is) names

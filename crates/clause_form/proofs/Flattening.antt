-- Flattening facts over ids.
use Rattle.std.proofs.Common.{◌≡◌, ℕ, ◌≤◌, true, false, cond, List, [], ◌∷◌, ◌++◌, length, map, flat_map, take, refl, ap, sym, ◌∙◌, subst, Result, Ok, Err, IfOk, OnOk, OnErr}
use Rattle.std.specs.declared.alloc.AllocError.{AllocError}
use Rattle.std.proofs.lemmas.List.{map-append, map-id}
use Rattle.std.proofs.lemmas.Result.{on_ok_weaker}
use Rattle.std.proofs.lemmas.Simd.{map-map}
use Rattle.std.proofs.lemmas.List.Folds.{flat_map-map}
use Rattle.spec_trees.specs.Tree.{Leaf, node, trees}
use Rattle.spec_terms.specs.Term.{Sym, Term}
use Rattle.spec_clauses.specs.Fact.{Fact, Att, ClauseOf}
use Rattle.spec_clauses.specs.Flat.{is_data, parts, row_parts, flat, flat_parts}
use Rattle.term_tree.specs.Bank.{tree_at}
use Rattle.term_tree.specs.declared.bank.Id.{Id}
use Rattle.clause_form.specs.declared.facts.Fact as declared
use Rattle.clause_form.specs.declared.facts.Fact.TheVariants as variants
use Rattle.clause_form.specs.Facts.{fact_of}
use Rattle.clause_form.specs.Seen.{fact_at, clause_at, IsFactIn, AreFactsIn, AreClausesIn, NameFacts, NameClauses, IdClause}
use Rattle.clause_diffs.specs.Diffs.{DiffOf, diffs_at, AreDiffsIn}
use Rattle.clause_diffs.proofs.Lists.{flat_map_all}

pub AreFactsIn-append : (all : List Term) (fs gs : List (Fact Id)) → AreFactsIn all fs → AreFactsIn all gs → AreFactsIn all (fs ++ gs)
AreFactsIn-append all [] gs known more = more
AreFactsIn-append all (f ∷ fs) gs known more = (known.0, AreFactsIn-append all fs gs known.1 more)

-- `att` of the parts of a term that an id names, in a phase
abbrev pub parts_at : List Term → ℕ → Id → List (Fact Term)
parts_at all phase id = flat (Att phase (tree_at all id))

row_flat : (all : List Term) (phase : ℕ) (ids : List Id) → map (Att phase) (row_parts (trees (map (tree_at all) ids))) ≡ flat_map (parts_at all phase) ids
row_flat all phase [] = refl
row_flat all phase (id ∷ ids) = map-append (Att phase) (parts (tree_at all id)) (row_parts (trees (map (tree_at all) ids))) ∙ ap (λ l. parts_at all phase id ++ l) (row_flat all phase ids)

pub data_flat : (all : List Term) (phase : ℕ) (id : Id) (f : Sym) (ids : List Id) → tree_at all id ≡ node f (map (tree_at all) ids) → is_data f ≡ true → parts_at all phase id ≡ flat_map (parts_at all phase) ids
data_flat all phase id f ids is parted = ap (λ t. flat (Att phase t)) is ∙ (ap (λ b. map (Att phase) (cond b (row_parts (trees (map (tree_at all) ids))) (node f (map (tree_at all) ids) ∷ []))) parted ∙ row_flat all phase ids)

pub other_flat : (all : List Term) (phase : ℕ) (id : Id) (f : Sym) (ids : List Id) → tree_at all id ≡ node f (map (tree_at all) ids) → is_data f ≡ false → parts_at all phase id ≡ Att phase (tree_at all id) ∷ []
other_flat all phase id f ids is other = ap (λ t. flat (Att phase t)) is ∙ (ap (λ b. map (Att phase) (cond b (row_parts (trees (map (tree_at all) ids))) (node f (map (tree_at all) ids) ∷ []))) other ∙ ap (λ t. Att phase t ∷ []) (sym is))

pub variable_flat : (all : List Term) (phase : ℕ) (id : Id) (x : ℕ) → tree_at all id ≡ Leaf x → parts_at all phase id ≡ Att phase (tree_at all id) ∷ []
variable_flat all phase id x is = ap (λ t. flat (Att phase t)) is ∙ ap (λ t. Att phase t ∷ []) (sym is)

-- one more fact after those that are there
pub pushed : (all : List Term) (old new : List (Fact Id)) (f : Fact Id) → new ≡ old ++ f ∷ [] → map (fact_at all) new ≡ map (fact_at all) old ++ fact_at all f ∷ []
pushed all old new f e = ap (map (fact_at all)) e ∙ map-append (fact_at all) old (f ∷ [])

push_known : (all : List Term) (old new : List (Fact Id)) (f : Fact Id) → new ≡ old ++ f ∷ [] → AreFactsIn all old → IsFactIn all f → AreFactsIn all new
push_known all old new f e known fact = subst (λ (l : List (Fact Id)). AreFactsIn all l) (sym e) (AreFactsIn-append all old (f ∷ []) known (fact, tt))

-- the same where the push may have failed
pub known_after : (all : List Term) (r : Result (Unit {0}) AllocError) (old new : List (Fact Id)) (f : Fact Id) → OnOk r (new ≡ old ++ f ∷ []) → OnErr r (new ≡ old) → AreFactsIn all old → IsFactIn all f → AreFactsIn all new
known_after all (Ok done) old new f pushed same known fact = push_known all old new f pushed known fact
known_after all (Err failed) old new f pushed same known fact = subst (λ (l : List (Fact Id)). AreFactsIn all l) (sym same) known

-- `att` of a term without parts is its only flat fact
pub pushed_whole : (all : List Term) (r : Result (Unit {0}) AllocError) (phase : ℕ) (id : Id) (old new : List (Fact Id)) → OnOk r (new ≡ old ++ Att phase id ∷ []) → parts_at all phase id ≡ Att phase (tree_at all id) ∷ []
    → OnOk r (map (fact_at all) new ≡ map (fact_at all) old ++ parts_at all phase id)
pushed_whole all r phase id old new e whole = on_ok_weaker r (λ (one : new ≡ old ++ Att phase id ∷ []). pushed all old new (Att phase id) one ∙ ap (λ l. map (fact_at all) old ++ l) (sym whole)) e

-- the parts of all arguments are those of the term
pub parts_done : (all : List Term) (phase : ℕ) (id : Id) (f : Sym) (ids : List Id) (i : ℕ) (old new : List (Fact Id)) → tree_at all id ≡ node f (map (tree_at all) ids) → is_data f ≡ true
    → map (fact_at all) new ≡ map (fact_at all) old ++ flat_map (parts_at all phase) (take i ids) → length ids ≤ i → map (fact_at all) new ≡ map (fact_at all) old ++ parts_at all phase id
parts_done all phase id f ids i old new is parted so_far past = so_far ∙ ap (λ l. map (fact_at all) old ++ l) (flat_map_all (parts_at all phase) ids i past ∙ sym (data_flat all phase id f ids is parted))

-- a fact that is no `att` is flat
pub other_fact_flat : (all : List Term) (f : declared.Fact) → ((k : ℕ) (t : Id) → f ≡ variants.Att k t → ⊥) → flat (fact_at all (fact_of f)) ≡ fact_at all (fact_of f) ∷ []
other_fact_flat all (variants.Att k t) never = absurd (never k t refl)
other_fact_flat all (variants.Mess k t u) never = refl
other_fact_flat all (variants.Tab n ts) never = refl
other_fact_flat all (variants.Ev e ts) never = refl
other_fact_flat all (variants.Mev e ts) never = refl
other_fact_flat all (variants.Bad ts) never = refl

pub other_added : (all : List Term) (f : declared.Fact) (r : Result (Unit {0}) AllocError) (old new : List (Fact Id)) → OnOk r (new ≡ old ++ fact_of f ∷ []) → OnErr r (new ≡ old) → ((k : ℕ) (t : Id) → f ≡ variants.Att k t → ⊥) → IsFactIn all (fact_of f) → AreFactsIn all old
    → record { known : AreFactsIn all new; parts : OnOk r (map (fact_at all) new ≡ map (fact_at all) old ++ flat (fact_at all (fact_of f))) }
other_added all f r old new e same never fact known = record {
  known = known_after all r old new (fact_of f) e same known fact;
  parts = on_ok_weaker r (λ (one : new ≡ old ++ fact_of f ∷ []). pushed all old new (fact_of f) one ∙ ap (λ l. map (fact_at all) old ++ l) (sym (other_fact_flat all f never))) e;
}

-- flat facts of all facts
pub all_flat : (all : List Term) (fs : List declared.Fact) (facts made : List (Fact Id)) (i : ℕ) → map fact_of fs ≡ facts → AreFactsIn all made → map (fact_at all) made ≡ flat_map (λ f. flat (fact_at all (fact_of f))) (take i fs) → length fs ≤ i
    → NameFacts all made (flat_map flat (map (fact_at all) facts))
all_flat all fs facts made i seen known are past = record {
  known = known;
  are = are ∙ (flat_map_all (λ f. flat (fact_at all (fact_of f))) fs i past
      ∙ (sym (flat_map-map (λ f. flat (fact_at all f)) fact_of fs) ∙ (sym (flat_map-map flat (fact_at all) (map fact_of fs)) ∙ ap (λ l. flat_map flat (map (fact_at all) l)) seen)));
}

-- the clause of these parts, and one without constraints
abbrev pub clause_with : {X D : Type 0} → List (Fact X) → List D → Fact X → ClauseOf X D
clause_with hyps diffs f = record { hypotheses = hyps; diffs = diffs; conclusion = f }

abbrev pub with_hypotheses : {X D : Type 0} → List (Fact X) → Fact X → ClauseOf X D
with_hypotheses hyps f = record { hypotheses = hyps; diffs = []; conclusion = f }

-- a clause for each conclusion
module _ (hyps : List (Fact Id)) (diffs : List (DiffOf Id)) where
  pub concluding_all : (concls : List (Fact Id)) (yielded items : List declared.Fact) → map (λ x. x) yielded ≡ items → map fact_of items ≡ concls → map (λ f. clause_with hyps diffs (fact_of f)) yielded ≡ map (clause_with hyps diffs) concls
  concluding_all concls yielded items same seen = sym (map-map (clause_with hyps diffs) fact_of yielded) ∙ ap (map (clause_with hyps diffs)) (ap (map fact_of) (sym (map-id yielded) ∙ same) ∙ seen)

  concluding_known : (all : List Term) (concls : List (Fact Id)) → AreFactsIn all hyps → AreDiffsIn all diffs → AreFactsIn all concls → AreClausesIn all (map (clause_with hyps diffs) concls)
  concluding_known all [] known constrained concls = tt
  concluding_known all (f ∷ fs) known constrained concls = (record { hypotheses = known; diffs = constrained; conclusion = concls.0 }, concluding_known all fs known constrained concls.1)

  concluding_at : (all : List Term) (concls : List (Fact Id)) → map (clause_at all) (map (clause_with hyps diffs) concls) ≡ map (clause_with (map (fact_at all) hyps) (diffs_at all diffs)) (map (fact_at all) concls)
  concluding_at all [] = refl
  concluding_at all (f ∷ fs) = ap (λ l. clause_with (map (fact_at all) hyps) (diffs_at all diffs) (fact_at all f) ∷ l) (concluding_at all fs)

-- so they name the flat parts
parts_named : (all : List Term) (c : IdClause) (hyps concls : List (Fact Id)) (made : List IdClause) → AreDiffsIn all c.diffs → NameFacts all hyps (flat_map flat (map (fact_at all) c.hypotheses)) → NameFacts all concls (flat (fact_at all c.conclusion))
    → made ≡ map (clause_with hyps c.diffs) concls → NameClauses all made (flat_parts (clause_at all c))
parts_named all c hyps concls made constrained hyps_named concls_named e = record {
  known = subst (λ (l : List IdClause). AreClausesIn all l) (sym e) (concluding_known hyps c.diffs all concls hyps_named.known constrained concls_named.known);
  are = ap (map (clause_at all)) e ∙ (concluding_at hyps c.diffs all concls ∙ (ap (λ l. map (clause_with l (diffs_at all c.diffs)) (map (fact_at all) concls)) hyps_named.are ∙ ap (map (clause_with (flat_map flat (map (fact_at all) c.hypotheses)) (diffs_at all c.diffs))) concls_named.are));
}

pub flattened : (all : List Term) (c : IdClause) (hypotheses : List (Fact Id)) (diffs : List (DiffOf Id)) (conclusion : Fact Id) (hyps concls : List (Fact Id)) (r : Result (List IdClause) AllocError) → clause_with hypotheses diffs conclusion ≡ c → AreDiffsIn all c.diffs
    → NameFacts all hyps (flat_map flat (map (fact_at all) hypotheses)) → NameFacts all concls (flat (fact_at all conclusion)) → IfOk r (λ made. made ≡ map (clause_with hyps diffs) concls)
    → IfOk r (λ parts. NameClauses all parts (flat_parts (clause_at all c)))
flattened all c hypotheses diffs conclusion hyps concls (Ok made) is known hyps_named concls_named e =
    let here = subst (λ (d : IdClause). AreDiffsIn all d.diffs) (sym is) known in
    subst (λ (d : IdClause). NameClauses all made (flat_parts (clause_at all d))) is (parts_named all (clause_with hypotheses diffs conclusion) hyps concls made here hyps_named concls_named e)
flattened all c hypotheses diffs conclusion hyps concls (Err failed) is known hyps_named concls_named e = tt

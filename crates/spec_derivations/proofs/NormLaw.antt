-- The law of norm: what an instance of a clause concludes is among its premises, or the norm concludes it from no more.
use Rattle.std.proofs.Common.{◌≡◌, ◌⊎◌, ℕ, Bool, true, false, cond, Some, None, List, [], refl, ap, sym, ◌∙◌, subst, inl, inr}
use Rattle.spec_trees.specs.Tree.{Leaf, after}
use Rattle.spec_trees.proofs.Occurrence.{or_true}
use Rattle.spec_terms.specs.Term.{Term, Subst}
use Rattle.spec_clauses.specs.Fact.{Fact, Att, Clause, fact_under, clause_under, same_fact, phase_of}
use Rattle.spec_clauses.specs.Flat.{flat, flat_under}
use Rattle.spec_clauses.specs.Diff.{IsMetBy}
use Rattle.spec_clauses.specs.Norm.{without_repeats, is_tautology, is_needed, without_needless, is_void, numbered_anew, norm}
use Rattle.spec_clauses.specs.Renaming.{renaming}
use Rattle.spec_clauses.specs.Inclusion.{Has, IsWithin}
use Rattle.spec_clauses.specs.Kept.{AreMetBy}
use Rattle.spec_clauses.proofs.Lists.{all_filter}
use Rattle.spec_clauses.proofs.Facts.{fact_under-fact_under}
use Rattle.spec_clauses.proofs.Equality.{among_stands}
use Rattle.spec_clauses.proofs.Inclusion.{within-flat_map, Has-within, Has-flat_map}
use Rattle.spec_clauses.proofs.FlatUnder.{flat_under-facts_under}
use Rattle.spec_clauses.proofs.Kept.{all_met_under, all_met-tidied, void_unmet}
use Rattle.spec_clauses.proofs.Norm.{few, simplified, says_nothing, simplified-simple, names_of, back_of, renamed-back}
use Rattle.spec_clauses.proofs.NormKeeps.{within-distinct, few-within, all_known, generalized_or}
use Rattle.spec_derivations.specs.Derivation.{Instance}
use Rattle.spec_derivations.specs.Laws.{Follows, NormLaw}

-- an instance of an instance of a clause is an instance of the clause
pub instance-under : (t : Subst) (c d : Clause Term) (premises : List (Fact Term)) (f : Fact Term) → clause_under t c ≡ d → Instance d premises f → Instance c premises f
instance-under t c d premises f same i = record {
  by = after i.by t;
  met = (all_met_under i.by t c.diffs).0 (subst (AreMetBy i.by) (ap (λ e. e.diffs) (sym same)) i.met);
  premises_are = i.premises_are ∙ (ap (λ e. flat_under i.by e.hypotheses) (sym same) ∙ flat_under-facts_under i.by t c.hypotheses);
  concludes = subst (λ (h : Fact Term). Has (flat h) f) (ap (λ e. fact_under i.by e.conclusion) (sym same) ∙ fact_under-fact_under i.by t c.conclusion) i.concludes;
}

module _ (c : Clause Term) (premises : List (Fact Term)) (f : Fact Term) (i : Instance c premises f) where
  -- a clause that says nothing has its conclusion among its hypotheses, as its constraints are met
  tautology_premise : says_nothing c ≡ true → Has premises f
  tautology_premise e =
      let kept = (without_repeats (without_needless c)).hypotheses in
      elim (or_true (is_void c) (is_tautology (without_repeats (without_needless c))) e) as (λ _. Has premises f) [
        | inl void ↦ absurd (void_unmet i.by c.diffs void i.met)
        | inr says ↦
            (let stands = Has-within kept c.hypotheses c.conclusion (within-distinct same_fact c.hypotheses) (among_stands c.conclusion kept says) in
            subst (λ (hs : List (Fact Term)). Has hs f) (sym i.premises_are) (Has-flat_map (λ h. flat (fact_under i.by h)) c.hypotheses c.conclusion f stands i.concludes))
      ]

  few_follows : Follows (few c) premises f
  few_follows = record {
    kept = flat_under i.by (few c).hypotheses;
    instance = record { by = i.by; met = all_filter (IsMetBy i.by) (is_needed c) c.diffs i.met; premises_are = refl; concludes = i.concludes };
    within = subst (IsWithin (flat_under i.by (few c).hypotheses)) (sym i.premises_are) (within-flat_map (λ h. flat (fact_under i.by h)) (few c).hypotheses c.hypotheses (few-within c));
  }

  everything_follows : (x : ℕ) → c.conclusion ≡ Att (phase_of c.conclusion) (Leaf x) → Follows (all_known c) premises f
  everything_follows x e = record {
    kept = [];
    instance = record { by = λ _. i.by x; met = tt; premises_are = refl; concludes = subst (λ (h : Fact Term). Has (flat (fact_under i.by h)) f) e i.concludes };
    within = tt;
  }

  numbered_follows : says_nothing c ≡ false → Follows (numbered_anew (simplified c)) premises f
  numbered_follows e =
      let plain = simplified c in
      let whole = clause_under (renaming (names_of plain)) plain in
      let k = generalized_or (few c) (λ d. Follows d premises f) everything_follows few_follows in
      let j = instance-under (renaming (back_of plain)) whole plain k.kept f (renamed-back plain (simplified-simple c e).none_needless) k.instance in
      record { kept = k.kept; instance = record { by = j.by; met = all_met-tidied j.by whole.diffs j.met; premises_are = j.premises_are; concludes = j.concludes }; within = k.within }

pub norm_law : NormLaw
norm_law c premises f flat i = go (says_nothing c) refl where
  go : (b : Bool) → says_nothing c ≡ b → Has premises f ⊎ ((d : Clause Term) × (norm c ≡ Some d) × Follows d premises f)
  go true e = inl (tautology_premise c premises f i e)
  go false e = inr (numbered_anew (simplified c), ap (λ b. cond b None (Some (numbered_anew (simplified c)))) e, numbered_follows c premises f i e)

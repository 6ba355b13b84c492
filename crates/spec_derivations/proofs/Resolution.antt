-- The law of resolution: what a clause that may rest and one with a chosen hypothesis conclude one after the other, a flat part of
-- their raw resolvent concludes.
use Rattle.std.proofs.Common.{◌≡◌, ℕ, ◌⊎◌, Bool, true, false, not, ◌&&◌, cond, nat_eq, List, [], ◌∷◌, ◌++◌, map, refl, sym, ap, ◌∙◌, subst, inl, inr, eqb-true}
use Rattle.std.specs.Prelude.{Option, Some, None, flat_map}
use Rattle.std.specs.List.{AllByRecursion, list_all, list_any}
use mathlib.Core.Path.{fun_ext}
use Rattle.std.proofs.lemmas.List.Concat.{flat_map-append}
use Rattle.std.proofs.lemmas.List.Folds.{list_any-append}
use Rattle.spec_trees.specs.Tree.{Leaf, Node, after}
use Rattle.spec_trees.proofs.Equality.{and_true}
use Rattle.spec_trees.proofs.Occurrence.{or_false}
use Rattle.spec_terms.proofs.Decision.{true_false}
use Rattle.spec_terms.proofs.Replace.{eqb_self, eqb_sym}
use Rattle.spec_terms.specs.Term.{Term, Subst}
use Rattle.spec_terms.specs.Unifier.{moved}
use Rattle.spec_clauses.specs.Fact.{Fact, Att, Mess, Tab, Ev, Mev, Bad, Clause, fact_under, clause_under, is_variable_known, phase_of}
use Rattle.spec_clauses.specs.Diff.{IsMetBy, diff_under}
use Rattle.spec_clauses.specs.Variables.{fact_variables, constrained_variables, all_terms, AreBelow, firm, firm_variables}
use Rattle.spec_clauses.specs.Flat.{flat, flat_under, flat_parts, is_flat, parts}
use Rattle.spec_clauses.specs.Selection.{Selection, is_selectable, is_solved}
use Rattle.spec_clauses.specs.Norm.{elsewhere, is_known, is_passed_on, passes_on, is_anchored, without_needless, IsNormal}
use Rattle.spec_clauses.specs.Unify.{MguGives}
use Rattle.spec_clauses.specs.Resolvents.{joined, IsRawResolvent}
use Rattle.spec_clauses.specs.Inclusion.{Picks, Has, IsWithin}
use Rattle.spec_clauses.specs.Kept.{AreMetBy}
use Rattle.spec_clauses.proofs.Lists.{all_append, all_weaker}
use Rattle.spec_clauses.proofs.Diffs.{diffs_under-agree}
use Rattle.spec_clauses.proofs.Kept.{all_met_under, all_met-alike}
use Rattle.spec_clauses.proofs.Anchors.{all_anchored}
use Rattle.spec_clauses.proofs.Facts.{fact_under-fact_under, fact_under-agree}
use Rattle.spec_clauses.proofs.FlatUnder.{all_pass_at, flat-flat, flat_under-flat, flat_under-flats, flat_under-facts_under}
use Rattle.spec_clauses.proofs.Inclusion.{within_self, within-append, pick-flat_map, Has-one, Has-map, Has-map_source, Has-flat_map_source}
use Rattle.spec_clauses.proofs.Firm.{firm_stays, flat_is_own}
use Rattle.spec_clauses.proofs.Apart.{mix, mix-clause, mix-fact_moved, mix-high, flat_under-map}
use Rattle.spec_clauses.proofs.NormKeeps.{variable_known, own_norm, normal-everything}
use Rattle.spec_derivations.specs.Derivation.{Instance, is_required_event}
use Rattle.spec_derivations.specs.Choice.{CanRest}
use Rattle.spec_derivations.specs.Laws.{ResolutionLaw, PartFollows}

-- A selected fact is no `att` of a variable, and no `mev` under a substitution.
selectable_firm : (h : Fact Term) → is_selectable h ≡ true → is_variable_known h ≡ false
selectable_firm (Att phase (Leaf x)) e = cc
selectable_firm (Att phase (Node f args)) e = refl
selectable_firm (Mess phase t u) e = refl
selectable_firm (Tab n ts) e = refl
selectable_firm (Ev n ts) e = refl
selectable_firm (Mev n ts) e = cc
selectable_firm (Bad ts) e = refl

selectable_no_event : (s : Subst) (h : Fact Term) → is_selectable h ≡ true → is_required_event (fact_under s h) ≡ false
selectable_no_event s (Att phase t) e = refl
selectable_no_event s (Mess phase t u) e = refl
selectable_no_event s (Tab n ts) e = refl
selectable_no_event s (Ev n ts) e = refl
selectable_no_event s (Mev n ts) e = cc
selectable_no_event s (Bad ts) e = refl

-- The resting clause concludes just the fact from no more than these premises, under some substitution.
record Meets (resting : Clause Term) (above : List (Fact Term)) (f : Fact Term) : Type 0 where
  by : Subst
  met : AreMetBy by resting.diffs
  concludes : fact_under by resting.conclusion ≡ f
  premises : IsWithin (flat_under by resting.hypotheses) above

-- f is `att` of a part of the term that s has for the variable of h
record KnownPart (s : Subst) (h f : Fact Term) : Type 0 where
  variable : ℕ
  is_variable : h ≡ Att (phase_of h) (Leaf variable)
  term : Term
  stands : Has (parts (s variable)) term
  is_known : f ≡ Att (phase_of h) term

-- what a flat fact stands for under s: that fact alone, or `att` of a part
firm_or_known : (s : Subst) (h f : Fact Term) → is_flat h ≡ true → Has (flat (fact_under s h)) f → (fact_under s h ≡ f) ⊎ KnownPart s h f
firm_or_known s (Att phase (Leaf x)) f flats has =
    let (t, k, e) = Has-map_source (Att phase) (parts (s x)) f has in
    inr (record { variable = x; is_variable = refl; term = t; stands = k; is_known = e })
firm_or_known s (Att phase (Node g args)) f flats has = inl (sym (Has-one (subst (λ (hs : List (Fact Term)). Has hs f) (firm_stays s (Att phase (Node g args)) flats refl) has)))
firm_or_known s (Mess phase t u) f flats has = inl (sym (Has-one has))
firm_or_known s (Tab n ts) f flats has = inl (sym (Has-one has))
firm_or_known s (Ev n ts) f flats has = inl (sym (Has-one has))
firm_or_known s (Mev n ts) f flats has = inl (sym (Has-one has))
firm_or_known s (Bad ts) f flats has = inl (sym (Has-one has))

-- A part of a term is its own one part, in each phase.
part_alone : (phase : ℕ) (u t : Term) → Has (parts u) t → flat (Att phase t) ≡ Att phase t ∷ []
part_alone phase u t has = flat_is_own (Att phase t) (all_pass_at is_flat (flat-flat (Att phase u)) (Has-map (Att phase) (parts u) t has).1)

-- s with the part t of its term for x in place of that term
module _ (s : Subst) (x : ℕ) (t : Term) (has : Has (parts (s x)) t) where
  abbrev in_part : Subst
  in_part y = cond (nat_eq y x) t (s y)

  -- it changes nothing where x doesn't stand
  stands_apart : (ys : List ℕ) → list_any (nat_eq x) ys ≡ false → AllByRecursion (λ y. in_part y ≡ s y) ys
  stands_apart [] e = tt
  stands_apart (y ∷ ys) e = let parts = or_false (nat_eq x y) (list_any (nat_eq x) ys) e in (rw (eqb_sym x y parts.0) refl, stands_apart ys parts.1)

  -- `att` of a variable stands for no more
  loose_within : (phase y : ℕ) → IsWithin (flat (Att phase (in_part y))) (flat (Att phase (s y)))
  loose_within phase y = go (nat_eq y x) refl where
    go : (b : Bool) → nat_eq y x ≡ b → IsWithin (flat (Att phase (cond b t (s y)))) (flat (Att phase (s y)))
    go true e =
        let same : s y ≡ s x = ap s (eqb-true y x e) in
        let found = Has-map (Att phase) (parts (s x)) t has in
        rw (part_alone phase (s x) t has) (rw same (found.0, found.1, tt))
    go false e = within_self (flat (Att phase (s y)))

  -- nor do hypotheses in which x stands in `att` of x alone
  abbrev IsPassedWithin : List (Fact Term) → Type 0
  IsPassedWithin hs = list_any (nat_eq x) (firm_variables hs) ≡ false → IsWithin (flat_under in_part hs) (flat_under s hs)

  passed_first : (h : Fact Term) (hs : List (Fact Term)) → IsPassedWithin hs → IsPassedWithin (h ∷ hs)
  passed_first h hs later e = go (is_variable_known h) refl e where
    both : IsWithin (flat (fact_under in_part h)) (flat (fact_under s h)) → list_any (nat_eq x) (firm_variables hs) ≡ false → IsWithin (flat_under in_part (h ∷ hs)) (flat_under s (h ∷ hs))
    both first k = within-append (flat (fact_under in_part h)) (flat_under in_part hs) (flat (fact_under s h)) (flat_under s hs) first (later k)

    go : (b : Bool) → is_variable_known h ≡ b → list_any (nat_eq x) (flat_map fact_variables (cond (not b) (h ∷ firm hs) (firm hs))) ≡ false → IsWithin (flat_under in_part (h ∷ hs)) (flat_under s (h ∷ hs))
    go true known k =
        let (y, same) = variable_known h known in
        both (subst (λ (g : Fact Term). IsWithin (flat (fact_under in_part g)) (flat (fact_under s g))) (sym same) (loose_within (phase_of h) y)) k
    go false known k =
        let apart = or_false (list_any (nat_eq x) (fact_variables h)) (list_any (nat_eq x) (firm_variables hs)) (sym (list_any-append (nat_eq x) (fact_variables h) (firm_variables hs)) ∙ k) in
        both (subst (λ (g : Fact Term). IsWithin (flat g) (flat (fact_under s h))) (sym (fact_under-agree in_part s h (stands_apart (fact_variables h) apart.0))) (within_self (flat (fact_under s h)))) apart.1

  passed_within : (hs : List (Fact Term)) → IsPassedWithin hs
  passed_within [] e = tt
  passed_within (h ∷ hs) e = passed_first h hs (passed_within hs) e

  -- and constraints that speak of other variables stay as they are
  part_apart : (ys : List ℕ) (y : ℕ) → list_any (nat_eq x) ys ≡ false → list_any (nat_eq y) ys ≡ true → in_part y ≡ s y
  part_apart ys y apart stands = go (nat_eq y x) refl where
    go : (b : Bool) → nat_eq y x ≡ b → cond b t (s y) ≡ s y
    go true e = let clash : list_any (nat_eq x) ys ≡ true = ap (λ z. list_any (nat_eq z) ys) (sym (eqb-true y x e)) ∙ stands in cc
    go false e = refl

  passed_met : (c : Clause Term) → without_needless c ≡ c → passes_on c ≡ true → list_any (nat_eq x) (firm_variables c.hypotheses) ≡ false → AreMetBy s c.diffs → AreMetBy in_part c.diffs
  passed_met c needed passes apart met =
      let vs = firm_variables c.hypotheses in
      let firmly = all_weaker (λ y. is_anchored c y ≡ true) (λ y. s y ≡ in_part y)
      (λ y k. sym (part_apart vs y apart (sym (ap (λ b. list_any (nat_eq y) (cond b vs (elsewhere c))) passes) ∙ k))) (constrained_variables c) (all_anchored c needed) in
      all_met-alike s in_part c.diffs (diffs_under-agree s in_part c.diffs firmly) met

-- Where the conclusion is passed on, its variable stands, among the hypotheses, in `att` of it alone.
passed_loose : (hs : List (Fact Term)) (f : Fact Term) (x : ℕ) → f ≡ Att (phase_of f) (Leaf x) → is_passed_on hs f ≡ true → list_any (nat_eq x) (firm_variables hs) ≡ false
passed_loose hs f x same e =
    let tests : (list_any (is_known x) hs && not (list_any (nat_eq x) (firm_variables hs))) ≡ true = sym (ap (is_passed_on hs) same) ∙ e in
    of_not (list_any (nat_eq x) (firm_variables hs)) (and_true (list_any (is_known x) hs) (not (list_any (nat_eq x) (firm_variables hs))) tests).1 where
      of_not : (b : Bool) → not b ≡ true → b ≡ false
      of_not true k = cc
      of_not false k = refl

-- A clause that may rest and concludes `att` of a variable is solved.
rests_solved : (c : Clause Term) → is_variable_known c.conclusion ≡ true → CanRest c → is_solved c.hypotheses ≡ true
rests_solved c known (inl solves) = solves
rests_solved c known (inr other) = absurd (true_false (sym known ∙ other))

meets : (resting : Clause Term) (above : List (Fact Term)) (f : Fact Term) → IsNormal resting → CanRest resting → Instance resting above f → Meets resting above f
meets resting above f normal rests i =
    go (firm_or_known i.by resting.conclusion f (and_true (is_flat resting.conclusion) (list_all is_flat resting.hypotheses) normal.flat).0 i.concludes) where
      -- the instance that has the part for the variable
      of_part : (k : KnownPart i.by resting.conclusion f) → AreMetBy (in_part i.by k.variable k.term k.stands) resting.diffs → IsWithin (flat_under (in_part i.by k.variable k.term k.stands) resting.hypotheses) (flat_under i.by resting.hypotheses) → Meets resting above f
      of_part k met within =
          let r = in_part i.by k.variable k.term k.stands in
          let same : fact_under r (Att (phase_of resting.conclusion) (Leaf k.variable)) ≡ Att (phase_of resting.conclusion) k.term = rw (eqb_self k.variable) refl in
          record { by = r; met = met; concludes = ap (fact_under r) k.is_variable ∙ (same ∙ sym k.is_known); premises = subst (IsWithin (flat_under r resting.hypotheses)) (sym i.premises_are) within }

      solves : KnownPart i.by resting.conclusion f → is_solved resting.hypotheses ≡ true
      solves k = rests_solved resting (ap is_variable_known k.is_variable) rests

      of_known : (k : KnownPart i.by resting.conclusion f) (b : Bool) → is_passed_on resting.hypotheses resting.conclusion ≡ b → Meets resting above f
      of_known k true e =
          let loose = passed_loose resting.hypotheses resting.conclusion k.variable k.is_variable e in
          let needed = ((own_norm resting).0 normal.own).none_needless in
          let solved = solves k in
          let passes : passes_on resting ≡ true = (λ i. solved i && e i) in
          of_part k (passed_met i.by k.variable k.term k.stands resting needed passes loose i.met) (passed_within i.by k.variable k.term k.stands resting.hypotheses loose)
      of_known k false e =
          let known : is_variable_known resting.conclusion ≡ true = ap is_variable_known k.is_variable in
          let whole = normal-everything resting normal.own (solves k) known e in
          let no_hypotheses : resting.hypotheses ≡ [] = ap (λ d. d.hypotheses) whole in
          let no_diffs : resting.diffs ≡ [] = ap (λ d. d.diffs) whole in
          of_part k (rw no_diffs tt) (rw no_hypotheses tt)

      go : (fact_under i.by resting.conclusion ≡ f) ⊎ KnownPart i.by resting.conclusion f → Meets resting above f
      go (inl e) = record { by = i.by; met = i.met; concludes = e; premises = subst (IsWithin (flat_under i.by resting.hypotheses)) (sym i.premises_are) (within_self (flat_under i.by resting.hypotheses)) }
      go (inr k) = of_known k (is_passed_on resting.hypotheses resting.conclusion) refl

module _ (resting unsolved : Clause Term) (at : Selection) (n : ℕ) (apart : AreBelow n (all_terms resting)) (low high : Subst) where
  abbrev both : Subst
  both = mix n low high

  -- both substitutions in one make the facts equal where they do
  is_unified : fact_under low resting.conclusion ≡ fact_under high at.fact → fact_under both resting.conclusion ≡ fact_under both (fact_under (moved n) at.fact)
  is_unified e = ap (λ c. c.conclusion) (mix-clause n low high resting apart) ∙ (e ∙ sym (mix-fact_moved n low high at.fact))

  -- and make of the joined clause the premises of both
  joined_premises : flat_under both (joined n resting unsolved at).hypotheses ≡ flat_under low resting.hypotheses ++ flat_under high at.others
  joined_premises =
      let sames = ap (λ c. flat_map flat c.hypotheses) (mix-clause n low high resting apart) in
      let first = sym (flat_under-map both resting.hypotheses) ∙ (sames ∙ flat_under-map low resting.hypotheses) in
      let second = flat_under-facts_under both (moved n) at.others ∙ ap (λ s. flat_under s at.others) (mix-high n low high) in
      flat_map-append (λ f. flat (fact_under both f)) resting.hypotheses (map (fact_under (moved n)) at.others) ∙ (λ i. first i ++ second i)

  joined_met : AreMetBy low resting.diffs → AreMetBy high unsolved.diffs → AreMetBy both (joined n resting unsolved at).diffs
  joined_met first second =
      all_append (IsMetBy both) resting.diffs (map (diff_under (moved n)) unsolved.diffs)
      (all_met-alike low both resting.diffs (ap (λ c. c.diffs) (sym (mix-clause n low high resting apart))) first)
      ((all_met_under both (moved n) unsolved.diffs).1 (subst (λ (s : Subst). AreMetBy s unsolved.diffs) (sym (mix-high n low high)) second))

  joined_conclusion : fact_under both (joined n resting unsolved at).conclusion ≡ fact_under high unsolved.conclusion
  joined_conclusion = mix-fact_moved n low high unsolved.conclusion

-- A flat part of a clause concludes what the clause does.
record PartOf (c : Clause Term) (by : Subst) (f : Fact Term) : Type 0 where
  part : Clause Term
  is_part : Has (flat_parts c) part
  instance : Instance part (flat_under by c.hypotheses) f

part_of : (c : Clause Term) (q : Subst) (f : Fact Term) → AreMetBy q c.diffs → Has (flat (fact_under q c.conclusion)) f → PartOf c q f
part_of c q f met has =
    let (g, found, concludes) = Has-flat_map_source (λ g. flat (fact_under q g)) (flat c.conclusion) f (subst (λ (hs : List (Fact Term)). Has hs f) (sym (flat_under-flat q c.conclusion)) has) in
    record {
      part = record { hypotheses = flat_map flat c.hypotheses; diffs = c.diffs; conclusion = g };
      is_part = Has-map (λ g. record { hypotheses = flat_map flat c.hypotheses; diffs = c.diffs; conclusion = g }) (flat c.conclusion) g found;
      instance = record { by = q; met = met; premises_are = sym (flat_under-flats q c.hypotheses); concludes = concludes };
    }

-- So of the raw resolvent, whose unifier the joint substitution factors through.
raw_follows : (resting unsolved : Clause Term) (at : Selection) (raw : Option (Clause Term)) (above premises : List (Fact Term)) (f : Fact Term) (i : Instance unsolved premises f)
    → Meets resting above (fact_under i.by at.fact) → IsRawResolvent resting unsolved at raw → PartFollows raw (above ++ flat_under i.by at.others) f
raw_follows resting unsolved at raw above premises f i m is_raw = go raw is_raw.unified where
  n : ℕ
  n = is_raw.offset

  whole : Clause Term
  whole = joined n resting unsolved at

  one : Subst
  one = mix n m.by i.by

  accepted : fact_under one resting.conclusion ≡ fact_under one (fact_under (moved n) at.fact)
  accepted = is_unified resting unsolved at n is_raw.apart m.by i.by m.concludes

  of_clause : (c : Clause Term) (s q : Subst) → after q s ≡ one → c ≡ clause_under s whole → PartFollows (Some c) (above ++ flat_under i.by at.others) f
  of_clause c s q same e =
      let concl : fact_under q c.conclusion ≡ fact_under i.by unsolved.conclusion =
      ap (λ d. fact_under q d.conclusion) e ∙ (fact_under-fact_under q s whole.conclusion ∙ (ap (λ r. fact_under r whole.conclusion) same ∙ joined_conclusion resting unsolved at n is_raw.apart m.by i.by)) in
      let prem : flat_under q c.hypotheses ≡ flat_under m.by resting.hypotheses ++ flat_under i.by at.others =
      ap (λ d. flat_under q d.hypotheses) e ∙ (flat_under-facts_under q s whole.hypotheses ∙ (ap (λ r. flat_under r whole.hypotheses) same
      ∙ joined_premises resting unsolved at n is_raw.apart m.by i.by)) in
      let met = subst (AreMetBy q) (ap (λ d. d.diffs) (sym e)) ((all_met_under q s whole.diffs).1 (subst (λ (r : Subst). AreMetBy r whole.diffs) (sym same) (joined_met resting unsolved at n is_raw.apart m.by i.by m.met i.met))) in
      let no_more = within-append (flat_under m.by resting.hypotheses) (flat_under i.by at.others) above (flat_under i.by at.others) m.premises (within_self (flat_under i.by at.others)) in
      let p = part_of c q f met (subst (λ (h : Fact Term). Has (flat h) f) (sym concl) i.concludes) in
      record {
        clause = c;
        is_raw = refl;
        part = p.part;
        is_part = p.is_part;
        follows = record {
          kept = flat_under q c.hypotheses;
          instance = p.instance;
          within = subst (λ (hs : List (Fact Term)). IsWithin hs (above ++ flat_under i.by at.others)) (sym prem) no_more;
        };
      }

  go : (o : Option (Clause Term)) → MguGives (λ s. fact_under s resting.conclusion ≡ fact_under s (fact_under (moved n) at.fact)) (λ s. clause_under s whole) o → PartFollows o (above ++ flat_under i.by at.others) f
  go None u = absurd (u one accepted)
  go (Some c) u = let factors = u.1.most one accepted in of_clause c u.0 factors.0 (fun_ext factors.1) u.2

pub resolution_law : ResolutionLaw
resolution_law unsolved at premises f normal chosen i =
    let flats = (and_true (is_flat unsolved.conclusion) (list_all is_flat unsolved.hypotheses) normal.flat).1 in
    let one_fact = firm_stays i.by at.fact (all_pass_at is_flat flats chosen.picked) (selectable_firm at.fact chosen.selectable) in
    record {
      rest = flat_under i.by at.others;
      picked = subst (λ (hs : List (Fact Term)). Picks hs (fact_under i.by at.fact) (flat_under i.by at.others)) (sym i.premises_are) (pick-flat_map (λ g. flat (fact_under i.by g)) chosen.picked one_fact);
      no_event = selectable_no_event i.by at.fact chosen.selectable;
      resolves = λ resting raw above own rests is_raw j. raw_follows resting unsolved at raw above premises f i (meets resting above (fact_under i.by at.fact) own rests j) is_raw;
    }

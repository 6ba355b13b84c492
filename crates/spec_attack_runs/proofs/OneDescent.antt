-- The instances that an entry comes from are one list, whatever numbers set variables apart and whatever most general unifiers are taken.
use Rattle.std.proofs.Common.{◌≡◌, ◌∙◌, ap, refl, sym, subst, ℕ, zero, suc, ◌+◌, ◌-◌, ◌<◌, Bool, true, false, not, nat_eq, List, [], ◌∷◌, ◌++◌, map, length, cond, None, Some, option_map, is_some, slice_get, unwrap_or}
use Rattle.std.specs.Prelude.{flat_map, filter}
use Rattle.std.specs.List.{AllByRecursion}
use Rattle.std.proofs.lemmas.Bool.{eq-eqb}
use Rattle.std.proofs.lemmas.List.{map-append, length-map}
use Rattle.spec_trees.specs.Tree.{Leaf, bind, after}
use Rattle.spec_calculus.specs.Points.{numbered}
use Rattle.spec_calculus.proofs.Items.{of_some, each-numbered, if_some-is}
use Rattle.spec_terms.specs.Term.{Sym, Term, Subst}
use Rattle.spec_terms.specs.Unifier.{moved}
use Rattle.spec_clauses.specs.Diff.{diff_under}
use Rattle.spec_clauses.specs.Fact.{Fact, Bad, Clause, terms_of, fact_under, clause_under}
use Rattle.spec_clauses.specs.Flat.{flat_parts}
use Rattle.spec_clauses.specs.Unify.{MguGives}
use Rattle.spec_clauses.specs.Variables.{leaves, fact_variables, clause_variables, all_terms, AreBelow}
use Rattle.spec_clauses.specs.Norm.{norm, distinct, place_of, without_needless, without_repeats, without_lonely, is_general}
use Rattle.spec_clauses.specs.Renaming.{renaming, AreVariants}
use Rattle.spec_clauses.specs.Resolvents.{joined}
use Rattle.spec_clauses.specs.Selection.{Selection, select, is_solved}
use Rattle.spec_clauses.proofs.Lists.{all_append, all_weaker, all_filter, all-flat_map, all-from_flat_map, filter-map, filter_same}
use Rattle.spec_clauses.proofs.Diffs.{diffs_under-diffs_under}
use Rattle.spec_clauses.proofs.Facts.{fact_under-fact_under, facts_under-facts_under, clause_under-clause_under, clause_under-Leaf}
use Rattle.spec_clauses.proofs.Flat.{flat_parts-renamed}
use Rattle.spec_clauses.proofs.Renaming.{fact_variables-renamed, clause_variables-renamed, all_distinct, nat_eq-renamed, place_of-renamed, variables_distinct-renamed}
use Rattle.spec_clauses.proofs.ClauseRenaming.{IsClauseLedBack, variables_back}
use Rattle.spec_clauses.proofs.NormRenaming.{norm-renamed, without_needless-renamed, without_needless-back, without_repeats-renamed, without_repeats-back, without_lonely-renamed, without_lonely-back, is_general-renamed}
use Rattle.spec_clauses.proofs.Selection.{select-none}
use Rattle.spec_clauses.proofs.Variants.{variants_are_renamed}
use Rattle.spec_clauses.proofs.Apart.{mix, below_variables, mix-clause, mix-fact_moved, mix-facts_moved, mix-diffs_moved}
use Rattle.spec_clauses.proofs.Unification.{Reaches, HaveSameInstances, one_unified}
use Rattle.spec_translation.proofs.Fresh.{mixed_below}
use Rattle.spec_translation.proofs.Visits.{terms_under-terms_under}
use Rattle.spec_saturation.specs.Key.{Key, Entry}
use Rattle.spec_attack_runs.specs.Source.{Source, source_under, source_variables, part_of}
use Rattle.spec_attack_runs.specs.Instance.{own_name, kept_by_norm, kept_variables, closing, next_after, Pending, IsGiven, solved_of, unsolved_of, telling_parts, Meeting, own_variables, meeting, Meets, met_variables, parent, IsResolved, Come, nothing, given, resolved, ComesFrom}
use Rattle.spec_attack_runs.proofs.OneList.{Back, flat_parts-back, terms_agree, first_terms, behind_first}

pub numbered-map : {X Y : Type 0} (f : X → Y) (xs : List X) (n : ℕ) → numbered (map f xs) n ≡ option_map f (numbered xs n)
numbered-map f xs zero = refl
numbered-map f [] (suc n) = refl
numbered-map f (x ∷ xs) (suc zero) = refl
numbered-map f (x ∷ xs) (suc (suc n)) = numbered-map f xs (suc n)

-- q leads back from r: the parts that say something, the variables that a norm keeps, and the terms that close them, are the renamed ones.
module _ (q r : ℕ → ℕ) where
  pub telling_parts-renamed : (raw : Clause Term) → IsClauseLedBack q r raw → telling_parts (clause_under (renaming r) raw) ≡ map (clause_under (renaming r)) (telling_parts raw)
  telling_parts-renamed raw a =
      let cs = flat_parts raw in
      let same = all_weaker (IsClauseLedBack q r) (λ c. is_some (norm (clause_under (renaming r) c)) ≡ is_some (norm c)) (λ c b. ap is_some (norm-renamed q r c b)) cs (flat_parts-back q r raw a) in
      ap (filter (λ c. is_some (norm c))) (flat_parts-renamed r raw)
      ∙ (filter-map (clause_under (renaming r)) (λ c. is_some (norm c)) cs
      ∙ ap (map (clause_under (renaming r))) (filter_same (λ c. is_some (norm (clause_under (renaming r) c))) (λ c. is_some (norm c)) cs same))

  part-back : (raw part : Clause Term) (k : ℕ) → IsClauseLedBack q r raw → numbered (telling_parts raw) k ≡ Some part → IsClauseLedBack q r part
  part-back raw part k a at =
      let all = all_filter (IsClauseLedBack q r) (λ c. is_some (norm c)) (flat_parts raw) (flat_parts-back q r raw a) in
      if_some-is (IsClauseLedBack q r) (numbered (telling_parts raw) k) part (each-numbered (IsClauseLedBack q r) (telling_parts raw) k all) at

  abbrev core : Clause Term → Clause Term
  core part = without_lonely (without_repeats (without_needless part))

  core-back : (part : Clause Term) → IsClauseLedBack q r part → IsClauseLedBack q r (core part)
  core-back part a = without_lonely-back q r (without_repeats (without_needless part)) (without_repeats-back q r (without_needless part) (without_needless-back q r part a))

  core-renamed : (part : Clause Term) → IsClauseLedBack q r part → core (clause_under (renaming r) part) ≡ clause_under (renaming r) (core part)
  core-renamed part a =
      let needed = without_needless-back q r part a in
      let once = without_repeats-back q r (without_needless part) needed in
      ap (λ c. without_lonely (without_repeats c)) (without_needless-renamed q r part a)
      ∙ (ap without_lonely (without_repeats-renamed q r (without_needless part) needed) ∙ without_lonely-renamed q r (without_repeats (without_needless part)) once)

  abbrev kept_of : Clause Term → List ℕ
  kept_of c = cond (is_general c) (fact_variables c.conclusion) (clause_variables c)

  kept_of-back : (c : Clause Term) → IsClauseLedBack q r c → AllByRecursion (Back q r) (kept_of c)
  kept_of-back c a = elim (is_general c) as (λ b. AllByRecursion (Back q r) (cond b (fact_variables c.conclusion) (clause_variables c))) [
    | true ↦ a.facts.0
    | false ↦ variables_back q r c a
  ]

  kept_of-renamed : (c : Clause Term) → IsClauseLedBack q r c → kept_of (clause_under (renaming r) c) ≡ map r (kept_of c)
  kept_of-renamed c a =
      let general = is_general-renamed q r c a in
      let concluded = fact_variables-renamed r c.conclusion in
      let all = clause_variables-renamed r c in
      (λ i. cond (general i) (concluded i) (all i)) ∙ go (is_general c) where
        go : (b : Bool) → cond b (map r (fact_variables c.conclusion)) (map r (clause_variables c)) ≡ map r (cond b (fact_variables c.conclusion) (clause_variables c))
        go true = refl
        go false = refl

  distinct-back : (xs : List ℕ) → AllByRecursion (Back q r) xs → AllByRecursion (Back q r) (distinct nat_eq xs)
  distinct-back xs a = all_distinct nat_eq nat_eq r (Back q r) (λ x y b d. nat_eq-renamed q r x y b d) xs a

  kept_variables-back : (part : Clause Term) → IsClauseLedBack q r part → AllByRecursion (Back q r) (kept_variables part)
  kept_variables-back part a = distinct-back (kept_of (core part)) (kept_of-back (core part) (core-back part a))

  kept_variables-renamed : (part : Clause Term) → IsClauseLedBack q r part → kept_variables (clause_under (renaming r) part) ≡ map r (kept_variables part)
  kept_variables-renamed part a =
      let back = core-back part a in
      ap kept_by_norm (core-renamed part a)
      ∙ (ap (distinct nat_eq) (kept_of-renamed (core part) back) ∙ variables_distinct-renamed q r (kept_of (core part)) (kept_of-back (core part) back))

  closing-renamed : (terms : List Term) (n : ℕ) (xs : List ℕ) → AllByRecursion (Back q r) xs → (x : ℕ) → Back q r x → closing terms n (map r xs) (r x) ≡ closing terms n xs x
  unfolding closing
  closing-renamed terms n xs a x b =
      let place = ap (place_of (r x)) (variables_distinct-renamed q r xs a) ∙ place_of-renamed q r x (distinct nat_eq xs) b (distinct-back xs a) in
      ap (λ k. unwrap_or (slice_get terms k) (own_name (n + (k - length terms)))) place

  -- terms closed alike
  closed-renamed : (terms : List Term) (n : ℕ) (xs : List ℕ) → AllByRecursion (Back q r) xs → (ts : List Term) → AllByRecursion (Back q r) (flat_map leaves ts)
      → map (bind (closing terms n (map r xs))) (map (bind (renaming r)) ts) ≡ map (bind (closing terms n xs)) ts
  closed-renamed terms n xs a ts b =
      terms_under-terms_under (closing terms n (map r xs)) (renaming r) ts
      ∙ terms_agree (after (closing terms n (map r xs)) (renaming r)) (closing terms n xs) ts
      (all_weaker (Back q r) (λ x. after (closing terms n (map r xs)) (renaming r) x ≡ closing terms n xs x) (closing-renamed terms n xs a) (flat_map leaves ts) b)

  next-renamed : (terms : List Term) (n : ℕ) (xs : List ℕ) → AllByRecursion (Back q r) xs → next_after terms n (map r xs) ≡ next_after terms n xs
  next-renamed terms n xs a = ap (λ k. n + (k - length terms)) (ap length (variables_distinct-renamed q r xs a) ∙ length-map (distinct nat_eq xs) r)

-- A meeting as a clause: its raw resolvent, with what the parents' variables stand for as hypotheses.
abbrev pub bundle : Meeting → Clause Term
bundle met = record { hypotheses = Bad met.lefts ∷ Bad met.rights ∷ met.raw.hypotheses; diffs = met.raw.diffs; conclusion = met.raw.conclusion }

-- the two facts to be unified, and the meeting
record Pair : Type 0 where
  left : Fact Term
  right : Fact Term
  met : Meeting

abbrev meeting_under : Subst → Meeting → Meeting
meeting_under s met = record { raw = clause_under s met.raw; lefts = map (bind s) met.lefts; rights = map (bind s) met.rights }

abbrev pair_under : Subst → Pair → Pair
pair_under s p = record { left = fact_under s p.left; right = fact_under s p.right; met = meeting_under s p.met }

pair_under-pair_under : (q s : Subst) (p : Pair) → pair_under q (pair_under s p) ≡ pair_under (after q s) p
pair_under-pair_under q s p =
    let left = fact_under-fact_under q s p.left in
    let right = fact_under-fact_under q s p.right in
    let raw = clause_under-clause_under q s p.met.raw in
    let lefts = terms_under-terms_under q s p.met.lefts in
    let rights = terms_under-terms_under q s p.met.rights in
    λ i. record { left = left i; right = right i; met = record { raw = raw i; lefts = lefts i; rights = rights i } }

abbrev Unified : Pair → Type 0
Unified p = p.left ≡ p.right

abbrev pair_at : ℕ → Clause Term → Clause Term → Selection → Pair
pair_at n solved unsolved at = record {
  left = solved.conclusion;
  right = fact_under (moved n) at.fact;
  met = record { raw = joined n solved unsolved at; lefts = own_variables solved; rights = map (bind (moved n)) (own_variables unsolved) };
}

leaves_back : (P : ℕ → Type 0) (xs : List ℕ) → AllByRecursion P xs → AllByRecursion P (flat_map (leaves {S = Sym}) (map Leaf xs))
leaves_back P [] a = tt
leaves_back P (x ∷ xs) a = (a.0, leaves_back P xs a.1)

distinct_all : (P : ℕ → Type 0) (xs : List ℕ) → AllByRecursion P xs → AllByRecursion P (distinct nat_eq xs)
distinct_all P [] a = tt
distinct_all P (x ∷ xs) a = (a.0, all_filter P (λ y. not (nat_eq x y)) (distinct nat_eq xs) (distinct_all P xs a.1))

-- each instance over one offset is an instance over another
pairs_reach : (n m : ℕ) (solved unsolved : Clause Term) (at : Selection) → AreBelow n (all_terms solved) → Reaches pair_under (pair_at n solved unsolved at) (pair_at m solved unsolved at)
pairs_reach n m solved unsolved at below u =
    let high = after u (moved m) in
    let w = mix n u high in
    let low = mix-clause n u high solved below in
    let fact : (f : Fact Term) → fact_under w (fact_under (moved n) f) ≡ fact_under u (fact_under (moved m) f) =
    (λ f. mix-fact_moved n u high f ∙ sym (fact_under-fact_under u (moved m) f)) in
    let facts = mix-facts_moved n u high at.others ∙ sym (facts_under-facts_under u (moved m) at.others) in
    let hypotheses = map-append (fact_under w) solved.hypotheses (map (fact_under (moved n)) at.others)
    ∙ ((λ i. (low i).hypotheses ++ facts i) ∙ sym (map-append (fact_under u) solved.hypotheses (map (fact_under (moved m)) at.others))) in
    let moved_diffs = mix-diffs_moved n u high unsolved.diffs ∙ sym (diffs_under-diffs_under u (moved m) unsolved.diffs) in
    let diffs = map-append (diff_under w) solved.diffs (map (diff_under (moved n)) unsolved.diffs)
    ∙ ((λ i. (low i).diffs ++ moved_diffs i) ∙ sym (map-append (diff_under u) solved.diffs (map (diff_under (moved m)) unsolved.diffs))) in
    let small = all_weaker (λ x. x < n) (λ x. w x ≡ u x) (mixed_below n u high) (clause_variables solved) (below_variables n solved below) in
    let lefts = terms_agree w u (own_variables solved) (leaves_back (λ x. w x ≡ u x) (distinct nat_eq (clause_variables solved)) (distinct_all (λ x. w x ≡ u x) (clause_variables solved) small)) in
    let rights = ap terms_of (fact (Bad (own_variables unsolved))) in (
      w,
      λ i. record {
        left = (low i).conclusion;
        right = fact at.fact i;
        met = record { raw = record { hypotheses = hypotheses i; diffs = diffs i; conclusion = fact unsolved.conclusion i }; lefts = lefts i; rights = rights i };
      },
    )

pairs_vary : (x y : Pair) → HaveSameInstances pair_under x y → AreVariants (bundle x.met) (bundle y.met)
pairs_vary x y same = record {
  by = (same.to Leaf).0;
  back = (same.from Leaf).0;
  there = ap (λ (p : Pair). bundle p.met) (same.to Leaf).1 ∙ clause_under-Leaf (bundle y.met);
  again = ap (λ (p : Pair). bundle p.met) (same.from Leaf).1 ∙ clause_under-Leaf (bundle x.met);
}

-- two clauses meet in one way, up to the names of variables
pub meetings_vary : (solved unsolved : Clause Term) (a b : Meeting) → Meets solved unsolved a → Meets solved unsolved b → AreVariants (bundle a) (bundle b)
meetings_vary solved unsolved a b x y =
    let one : x.at ≡ y.at = of_some x.at y.at (sym x.selected ∙ y.selected) in
    let unified = subst (λ (at : Selection). MguGives (λ s. fact_under s solved.conclusion ≡ fact_under s (fact_under (moved y.offset) at.fact)) (meeting y.offset solved unsolved at) (Some b)) (sym one) y.unified in
    let same : HaveSameInstances pair_under (pair_at x.offset solved unsolved x.at) (pair_at y.offset solved unsolved x.at) = record {
      to = pairs_reach x.offset y.offset solved unsolved x.at x.apart;
      from = pairs_reach y.offset x.offset solved unsolved x.at y.apart;
    } in
    let alike = one_unified pair_under pair_under-pair_under Unified (λ u p e. ap (fact_under u) e) (λ p. p.met) (pair_at x.offset solved unsolved x.at) (pair_at y.offset solved unsolved x.at) same (Some a) (Some b) x.unified unified in
    let vary = pairs_vary alike.0 alike.1 alike.4 in
    subst (λ (m : Meeting). AreVariants (bundle m) (bundle b)) (sym alike.2) (subst (λ (m : Meeting). AreVariants (bundle alike.0.met) (bundle m)) (sym alike.3) vary)

-- So the parents' terms, and the number of the next name, are the same.
module _ (solved unsolved : Clause Term) (number : ℕ) (terms : List Term) (n : ℕ) where
  abbrev closed : Meeting → Clause Term → List Term → List Term
  closed met part ts = map (bind (closing terms n (met_variables met part))) ts

  pub descents_same : (a b : Meeting) (part other : Clause Term) → Meets solved unsolved a → Meets solved unsolved b
      → numbered (telling_parts a.raw) number ≡ Some part → numbered (telling_parts b.raw) number ≡ Some other
      → (closed a part a.lefts ≡ closed b other b.lefts) × (closed a part a.rights ≡ closed b other b.rights) × (next_after terms n (met_variables a part) ≡ next_after terms n (met_variables b other))
  descents_same a b part other x y part_at other_at =
      let v = variants_are_renamed (bundle a) (bundle b) (meetings_vary solved unsolved a b x y) in
      let q = v.back in
      let r = v.names in
      let facts = v.is_back.facts in
      let raw_back : IsClauseLedBack q r a.raw = record { facts = (facts.0, facts.1.1.1); diffs = v.is_back.diffs } in
      let lefts = ap (λ (c : Clause Term). first_terms c.hypotheses) v.is_renamed in
      let rights = ap (λ (c : Clause Term). first_terms (behind_first c.hypotheses)) v.is_renamed in
      let hypotheses = ap (λ (c : Clause Term). behind_first (behind_first c.hypotheses)) v.is_renamed in
      let diffs = ap (λ (c : Clause Term). c.diffs) v.is_renamed in
      let conclusion = ap (λ (c : Clause Term). c.conclusion) v.is_renamed in
      let raw : b.raw ≡ clause_under (renaming r) a.raw = (λ i. record { hypotheses = hypotheses i; diffs = diffs i; conclusion = conclusion i }) in
      let back = part-back q r a.raw part number raw_back part_at in
      let there : Some other ≡ Some (clause_under (renaming r) part) =
      sym other_at ∙ (ap (λ (c : Clause Term). numbered (telling_parts c) number) raw ∙ (ap (λ (cs : List (Clause Term)). numbered cs number) (telling_parts-renamed q r a.raw raw_back)
      ∙ (numbered-map (clause_under (renaming r)) (telling_parts a.raw) number ∙ ap (option_map (clause_under (renaming r))) part_at))) in
      let is_other = of_some other (clause_under (renaming r) part) there in
      let kept = ap kept_variables is_other ∙ kept_variables-renamed q r part back in
      let both : b.lefts ++ b.rights ≡ map (bind (renaming r)) (a.lefts ++ a.rights) = (λ i. lefts i ++ rights i) ∙ sym (map-append (bind (renaming r)) a.lefts a.rights) in
      let stand : flat_map leaves (b.lefts ++ b.rights) ≡ map r (flat_map leaves (a.lefts ++ a.rights)) =
      ap (flat_map leaves) both ∙ fact_variables-renamed r (Bad (a.lefts ++ a.rights)) in
      let variables : met_variables b other ≡ map r (met_variables a part) =
      (λ i. kept i ++ stand i) ∙ sym (map-append r (kept_variables part) (flat_map leaves (a.lefts ++ a.rights))) in
      let each = (λ (ts : List Term). all-from_flat_map (Back q r) leaves ts) in
      let stand_back = all-flat_map (Back q r) leaves (a.lefts ++ a.rights) (all_append (λ t. AllByRecursion (Back q r) (leaves t)) a.lefts a.rights (each a.lefts facts.1.0) (each a.rights facts.1.1.0)) in
      let all_back = all_append (Back q r) (kept_variables part) (flat_map leaves (a.lefts ++ a.rights)) (kept_variables-back q r part back) stand_back in
      let xs = met_variables a part in (
        sym ((λ i. map (bind (closing terms n (variables i))) (lefts i)) ∙ closed-renamed q r terms n xs all_back a.lefts facts.1.0),
        sym ((λ i. map (bind (closing terms n (variables i))) (rights i)) ∙ closed-renamed q r terms n xs all_back a.rights facts.1.1.0),
        sym (ap (next_after terms n) variables ∙ next-renamed q r terms n xs all_back),
      )

-- An entry that is given has one instance.
pub given_same : (sources : List Source) (log : List Entry) (p : Pending) (n m k : ℕ) (a b : Source) → IsGiven sources log p n a m → IsGiven sources log p n b k → (a ≡ b) × (m ≡ k)
given_same sources log p n m k a b x y =
    let entries = of_some x.entry y.entry (sym x.at ∙ y.at) in
    let same = of_some x.source y.source (sym x.source_at ∙ (ap (λ (e : Entry). numbered sources e.key.number) entries ∙ y.source_at)) in
    let parts = of_some x.part y.part (sym x.part_at ∙ (ap part_of same ∙ y.part_at)) in
    let variables : kept_variables x.part ++ source_variables x.source ≡ kept_variables y.part ++ source_variables y.source =
    (λ i. kept_variables (parts i) ++ source_variables (same i)) in (
      x.is_instance ∙ ((λ i. source_under (closing p.terms n (variables i)) (same i)) ∙ sym y.is_instance),
      x.next ∙ (ap (next_after p.terms n) variables ∙ sym y.next),
    )

-- it is not a resolvent
pub not_both : (sources : List Source) (log : List Entry) (p left right : Pending) (n m k : ℕ) (a : Source) → IsGiven sources log p n a m → IsResolved log p n left right k → ⊥
not_both sources log p left right n m k a x y =
    let entries = of_some x.entry y.entry (sym x.at ∙ y.at) in
    let given = subst (λ (e : Entry). e.key.major ≡ e.key.minor) entries x.given in
    let equal = eq-eqb y.entry.key.major y.entry.key.minor given in
    let order = y.order in cc

-- the solved entry of a pair is one
not_solved_too : (log : List Entry) (k : ℕ) (e f : Entry) (at : Selection) → numbered log k ≡ Some e → numbered log k ≡ Some f → is_solved e.clause.hypotheses ≡ true → select f.clause.hypotheses ≡ Some at → ⊥
not_solved_too log k e f at here there solved selected =
    let same = of_some e f (sym here ∙ there) in
    let yes = subst (λ (d : Entry). is_solved d.clause.hypotheses ≡ true) same solved in
    let none = (select-none f.clause.hypotheses).1 yes in
    let clash : Some at ≡ None = sym selected ∙ none in cc

one_solved : (log : List Entry) (key : Key) (b c : Bool) (s u t v : Entry) (at to : Selection)
    → numbered log (solved_of key b) ≡ Some s → numbered log (unsolved_of key b) ≡ Some u → is_solved s.clause.hypotheses ≡ true → select u.clause.hypotheses ≡ Some at
    → numbered log (solved_of key c) ≡ Some t → numbered log (unsolved_of key c) ≡ Some v → is_solved t.clause.hypotheses ≡ true → select v.clause.hypotheses ≡ Some to → b ≡ c
one_solved log key true true s u t v at to sa ua ss us ta va ts vs = refl
one_solved log key false false s u t v at to sa ua ss us ta va ts vs = refl
one_solved log key true false s u t v at to sa ua ss us ta va ts vs = absurd (not_solved_too log key.major s v to sa va ss vs)
one_solved log key false true s u t v at to sa ua ss us ta va ts vs = absurd (not_solved_too log key.minor s v to sa va ss vs)

-- A resolvent has one pair of parents, with one list of terms each.
pub resolved_same : (log : List Entry) (p left right others rest : Pending) (n m k : ℕ) → IsResolved log p n left right m → IsResolved log p n others rest k → (left ≡ others) × (right ≡ rest) × (m ≡ k)
resolved_same log p left right others rest n m k x y =
    let entries = of_some x.entry y.entry (sym x.at ∙ y.at) in
    let key = x.entry.key in
    let keys : y.entry.key ≡ key = ap (λ (e : Entry). e.key) (sym entries) in
    let solved_at = subst (λ (d : Key). numbered log (solved_of d y.major_solved) ≡ Some y.solved) keys y.solved_at in
    let unsolved_at = subst (λ (d : Key). numbered log (unsolved_of d y.major_solved) ≡ Some y.unsolved) keys y.unsolved_at in
    let which = one_solved log key x.major_solved y.major_solved x.solved x.unsolved y.solved y.unsolved x.meets.at y.meets.at x.solved_at x.unsolved_at x.left_solved x.meets.selected solved_at unsolved_at y.left_solved y.meets.selected in
    let solved = of_some x.solved y.solved (sym x.solved_at ∙ (ap (λ (b : Bool). numbered log (solved_of key b)) which ∙ solved_at)) in
    let unsolved = of_some x.unsolved y.unsolved (sym x.unsolved_at ∙ (ap (λ (b : Bool). numbered log (unsolved_of key b)) which ∙ unsolved_at)) in
    let meets : Meets x.solved.clause x.unsolved.clause y.met = subst (λ (e : Entry). Meets e.clause x.unsolved.clause y.met) (sym solved) (subst (λ (e : Entry). Meets y.solved.clause e.clause y.met) (sym unsolved) y.meets) in
    let part_at = subst (λ (d : Key). numbered (telling_parts y.met.raw) d.number ≡ Some y.part) keys y.part_at in
    let same = descents_same x.solved.clause x.unsolved.clause key.number p.terms n x.met y.met x.part y.part x.meets meets x.part_at part_at in
    let lefts : parent (solved_of key x.major_solved) (closing p.terms n (met_variables x.met x.part)) x.met.lefts ≡ parent (solved_of y.entry.key y.major_solved) (closing p.terms n (met_variables y.met y.part)) y.met.lefts =
    (λ i. record { number = solved_of (sym keys i) (which i); terms = same.0 i }) in
    let rights : parent (unsolved_of key x.major_solved) (closing p.terms n (met_variables x.met x.part)) x.met.rights ≡ parent (unsolved_of y.entry.key y.major_solved) (closing p.terms n (met_variables y.met y.part)) y.met.rights =
    (λ i. record { number = unsolved_of (sym keys i) (which i); terms = same.1 i }) in
    (x.is_left ∙ (lefts ∙ sym y.is_left), x.is_right ∙ (rights ∙ sym y.is_right), x.next ∙ (same.2 ∙ sym y.next))

-- The instances of pending entries are one list.
come_same : (sources : List Source) (log : List Entry) {n : ℕ} {ps : List Pending} {a b : List Source} → Come sources log n ps a → Come sources log n ps b → a ≡ b
come_same sources log nothing nothing = refl
come_same sources log (given {n = n} {m = m} {p = p} {ps = ps} {instance = i} {instances = is} x xs) (given {m = k} {instance = j} {instances = js} y ys) =
    let same = given_same sources log p n m k i j x y in
    let others = come_same sources log xs (subst (λ (d : ℕ). Come sources log d ps js) (sym same.1) ys) in
    λ d. same.0 d ∷ others d
come_same sources log (given {n = n} {m = m} {p = p} {instance = i} x xs) (resolved {m = k} {left = left} {right = right} y ys) = absurd (not_both sources log p left right n m k i x y)
come_same sources log (resolved {n = n} {m = k} {p = p} {left = left} {right = right} x xs) (given {m = m} {instance = j} y ys) = absurd (not_both sources log p left right n m k j y x)
come_same sources log (resolved {n = n} {m = m} {p = p} {left = left} {right = right} {ps = ps} x xs) (resolved {m = k} {left = others} {right = rest} {instances = b} y ys) =
    let same = resolved_same log p left right others rest n m k x y in
    let first : Come sources log k (others ∷ right ∷ ps) b = subst (λ (r : Pending). Come sources log k (others ∷ r ∷ ps) b) (sym same.1) ys in
    let second : Come sources log k (left ∷ right ∷ ps) b = subst (λ (l : Pending). Come sources log k (l ∷ right ∷ ps) b) (sym same.0) first in
    come_same sources log xs (subst (λ (d : ℕ). Come sources log d (left ∷ right ∷ ps) b) (sym same.2) second)

pub one_origin : (sources : List Source) (log : List Entry) (number : ℕ) (a b : List Source) → ComesFrom sources log number a → ComesFrom sources log number b → a ≡ b
one_origin sources log number a b x y = come_same sources log x y

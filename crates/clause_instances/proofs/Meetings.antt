-- How two clauses meet, up to the names of variables: whether the raw resolvent is large, its parts, and the sizes of what the parents'
-- variables stand for are the same by each most general unifier.
use Rattle.std.proofs.Common.{◌≡◌, ◌∙◌, ℕ, Bool, true, false, not, ◌||◌, cond, List, [], ◌∷◌, map, Option, None, Some, option_map, inl, inr, refl, ap, sym, subst, arith}
use Rattle.std.specs.Prelude.{◌⊎◌, nat_le}
use Rattle.std.specs.List.{list_any}
use Rattle.std.proofs.lemmas.List.Folds.{list_any-append}
use Rattle.std.proofs.lemmas.Bool.{leb-true, le-leb}
use Rattle.spec_trees.specs.Tree.{bind, size}
use Rattle.spec_trees.proofs.Measures.{size-le-bind}
use Rattle.spec_calculus.specs.Bounds.{most_symbols}
use Rattle.spec_calculus.specs.Points.{numbered}
use Rattle.spec_calculus.proofs.Items.{of_some}
use Rattle.spec_terms.specs.Term.{Term, Subst}
use Rattle.spec_clauses.specs.Fact.{Clause, clause_under}
use Rattle.spec_clauses.specs.Limits.{is_large_raw}
use Rattle.spec_clauses.specs.Renaming.{renaming}
use Rattle.spec_clauses.specs.Resolvents.{Answer, NoUnifier, Large, Resolvents, answer_of, Resolves}
use Rattle.spec_clauses.specs.Norm.{norms}
use Rattle.spec_clauses.specs.Selection.{Selection}
use Rattle.spec_clauses.proofs.Answers.{one_answer}
use Rattle.spec_clauses.proofs.ClauseRenaming.{IsClauseLedBack}
use Rattle.spec_clauses.proofs.Renaming.{size-renamed}
use Rattle.spec_clauses.proofs.Variants.{variants_are_renamed}
use Rattle.spec_translation.specs.Visit.{is_large_term}
use Rattle.spec_attack_runs.specs.Instance.{Meeting, Meets, telling_parts}
use Rattle.spec_attack_runs.proofs.OneList.{first_terms, behind_first}
use Rattle.spec_attack_runs.proofs.OneDescent.{numbered-map, telling_parts-renamed, bundle, meetings_vary}
use Rattle.clause_resolve.specs.Answers.{Gives}
use Rattle.clause_instances.specs.Parents.{IsSmall}

-- one meeting is the other with its variables renamed
record AreRenamed (a b : Meeting) : Type 0 where
  back : ℕ → ℕ
  names : ℕ → ℕ
  raw_back : IsClauseLedBack back names a.raw
  raw : b.raw ≡ clause_under (renaming names) a.raw
  lefts : b.lefts ≡ map (bind (renaming names)) a.lefts
  rights : b.rights ≡ map (bind (renaming names)) a.rights

meetings_renamed : (solved unsolved : Clause Term) (a b : Meeting) → Meets solved unsolved a → Meets solved unsolved b → AreRenamed a b
meetings_renamed solved unsolved a b x y =
    let v = variants_are_renamed (bundle a) (bundle b) (meetings_vary solved unsolved a b x y) in
    let facts = v.is_back.facts in
    let hypotheses = ap (λ (c : Clause Term). behind_first (behind_first c.hypotheses)) v.is_renamed in
    let diffs = ap (λ (c : Clause Term). c.diffs) v.is_renamed in
    let conclusion = ap (λ (c : Clause Term). c.conclusion) v.is_renamed in
    record {
      back = v.back;
      names = v.names;
      raw_back = record { facts = (facts.0, facts.1.1.1); diffs = v.is_back.diffs };
      raw = λ i. record { hypotheses = hypotheses i; diffs = diffs i; conclusion = conclusion i };
      lefts = ap (λ (c : Clause Term). first_terms c.hypotheses) v.is_renamed;
      rights = ap (λ (c : Clause Term). first_terms (behind_first c.hypotheses)) v.is_renamed;
    }

-- a part is there in both or in none
some_mapped : {X Y : Type 0} (f : X → Y) (o : Option X) (y : Y) → option_map f o ≡ Some y → (x : X) × (o ≡ Some x)
some_mapped f None y e = absurd (cc)
some_mapped f (Some x) y e = (x, refl)

pub part_of_both : (solved unsolved : Clause Term) (a b : Meeting) (k : ℕ) (part : Clause Term) → Meets solved unsolved a → Meets solved unsolved b → numbered (telling_parts b.raw) k ≡ Some part
    → (other : Clause Term) × (numbered (telling_parts a.raw) k ≡ Some other)
part_of_both solved unsolved a b k part x y at =
    let r = meetings_renamed solved unsolved a b x y in
    let there = ap (λ (c : Clause Term). numbered (telling_parts c) k) r.raw
    ∙ (ap (λ (cs : List (Clause Term)). numbered cs k) (telling_parts-renamed r.back r.names a.raw r.raw_back) ∙ numbered-map (clause_under (renaming r.names)) (telling_parts a.raw) k) in
    some_mapped (clause_under (renaming r.names)) (numbered (telling_parts a.raw) k) part (sym there ∙ at)

-- terms are over the limit of size alike
any_large-renamed : (r : ℕ → ℕ) (ts : List Term) → list_any is_large_term (map (bind (renaming r)) ts) ≡ list_any is_large_term ts
any_large-renamed r [] = refl
any_large-renamed r (t ∷ ts) =
    let first = ap (λ n. not (nat_le n most_symbols)) (size-renamed r t) in
    let others = any_large-renamed r ts in
    λ i. first i || others i

pub small_of_both : (solved unsolved : Clause Term) (a b : Meeting) → Meets solved unsolved a → Meets solved unsolved b → IsSmall b → IsSmall a
small_of_both solved unsolved a b x y small =
    let r = meetings_renamed solved unsolved a b x y in
    let lefts = ap (list_any is_large_term) r.lefts ∙ any_large-renamed r.names a.lefts in
    let rights = ap (list_any is_large_term) r.rights ∙ any_large-renamed r.names a.rights in
    list_any-append is_large_term a.lefts a.rights ∙ (sym (λ i. lefts i || rights i) ∙ (sym (list_any-append is_large_term b.lefts b.rights) ∙ small))

-- The answer of the pair is that of the meeting's raw resolvent.
meeting_answer : (solved unsolved : Clause Term) (met : Meeting) (at : Selection) (answer : Answer) → (x : Meets solved unsolved met) → at ≡ x.at → Resolves solved unsolved at answer → answer ≡ answer_of (Some met.raw)
meeting_answer solved unsolved met at answer x same gives =
    let here : Resolves solved unsolved x.at (answer_of (Some met.raw)) = (
      Some met.raw,
      record { offset = x.offset; apart = x.apart; unified = (x.unified.0, x.unified.1, ap (λ (m : Meeting). m.raw) x.unified.2) },
      refl,
    ) in
    one_answer solved unsolved x.at answer (answer_of (Some met.raw)) (subst (λ (to : Selection). Resolves solved unsolved to answer) same gives) here

of_both : (solved unsolved : Clause Term) (met : Meeting) (answer : Answer) → Meets solved unsolved met → Gives solved unsolved answer → answer ≡ answer_of (Some met.raw)
of_both solved unsolved met answer x g = meeting_answer solved unsolved met g.at answer x (of_some g.at x.at (sym g.is_selected ∙ x.selected)) g.gives

clash : (b : Bool) (cs : List (Clause Term)) → NoUnifier ≡ cond b Large (Resolvents cs) → ⊥
clash true cs e = cc
clash false cs e = cc

fits : (b : Bool) (cs : List (Clause Term)) → Large ≡ cond b Large (Resolvents cs) → b ≡ false → ⊥
fits true cs e small = cc
fits false cs e small = cc

-- where nothing unifies the facts, or the pair is large, the clauses do not meet within the limit
pub none_meet : (solved unsolved : Clause Term) (met : Meeting) → Gives solved unsolved NoUnifier ⊎ Gives solved unsolved Large → Meets solved unsolved met → is_large_raw met.raw ≡ false → ⊥
none_meet solved unsolved met (inl g) x small = clash (is_large_raw met.raw) (norms met.raw) (of_both solved unsolved met NoUnifier x g)
none_meet solved unsolved met (inr g) x small = fits (is_large_raw met.raw) (norms met.raw) (of_both solved unsolved met Large x g) small

-- Terms that are within the limit under a substitution are so themselves.
large_under : (s : Subst) (t : Term) → is_large_term t ≡ true → is_large_term (bind s t) ≡ true
large_under s t e = go (nat_le (size (bind s t)) most_symbols) refl where
  go : (c : Bool) → nat_le (size (bind s t)) most_symbols ≡ c → not c ≡ true
  go false k = refl
  go true k =
      let less = size-le-bind s t in
      let within = leb-true (size (bind s t)) most_symbols k in
      let fits : nat_le (size t) most_symbols ≡ true = le-leb (size t) most_symbols (omega (arith, less, within)) in
      let clash : false ≡ true = ap not (sym fits) ∙ e in absurd (cc)

pub any_under : (s : Subst) (ts : List Term) → list_any is_large_term (map (bind s) ts) ≡ false → list_any is_large_term ts ≡ false
any_under s [] e = refl
any_under s (t ∷ ts) e = go (is_large_term t) (is_large_term (bind s t)) (large_under s t) e (any_under s ts) where
  go : (b c : Bool) → (b ≡ true → c ≡ true) → (c || list_any is_large_term (map (bind s) ts)) ≡ false → (list_any is_large_term (map (bind s) ts) ≡ false → list_any is_large_term ts ≡ false) → (b || list_any is_large_term ts) ≡ false
  go true c up h later = sym (ap (λ d. d || list_any is_large_term (map (bind s) ts)) (up refl)) ∙ h
  go false true up h later = let clash : true ≡ false = h in absurd (cc)
  go false false up h later = later h

-- What a norm keeps of its clause: some of the hypotheses, flatness, the predicate of the conclusion; and no size is added.
use Rattle.std.proofs.Common.{◌≡◌, ◌↔◌, ℕ, ◌+◌, ◌≤◌, Bool, true, false, not, ◌&&◌, ◌||◌, cond, Some, None, List, [], ◌∷◌, map, refl, ap, sym, ◌∙◌, subst, arith}
use Rattle.std.specs.Prelude.{filter}
use Rattle.std.specs.List.{AllByRecursion, list_all}
use Rattle.std.proofs.lemmas.Simd.{map-map}
use Rattle.spec_trees.specs.Tree.{Leaf, Node, bind}
use Rattle.spec_trees.proofs.Equality.{and_true}
use Rattle.spec_terms.specs.Term.{Term}
use Rattle.spec_clauses.specs.Fact.{Fact, Att, Mess, Tab, Ev, Mev, Bad, Clause, fact_under, clause_under, outline, total, fact_size, clause_size, same_fact, is_variable_known, phase_of}
use Rattle.spec_clauses.specs.Diff.{Diff, diff_under, numbered_diff, same_diff, diff_size}
use Rattle.spec_clauses.specs.Variables.{clause_variables}
use Rattle.spec_clauses.specs.Flat.{is_flat, is_flat_clause}
use Rattle.spec_clauses.specs.Selection.{is_solved}
use Rattle.spec_clauses.specs.Norm.{distinct, numbering, without_repeats, is_tautology, elsewhere, is_lonely, without_lonely, is_passed_on, is_needed, without_needless, is_void, is_general, everything_known, generalized, tidied, numbered_anew, norm, IsNormal, EachRuleKeeps}
use Rattle.spec_clauses.specs.Renaming.{renaming}
use Rattle.spec_clauses.specs.Inclusion.{Picks, here, there, IsWithin}
use Rattle.spec_clauses.proofs.Lists.{all_filter}
use Rattle.spec_clauses.proofs.Facts.{map_fact-map_fact}
use Rattle.spec_clauses.proofs.Renaming.{is_among-renamed}
use Rattle.spec_clauses.proofs.ClauseRenaming.{IsClauseLedBack, clause_size-renamed}
use Rattle.spec_clauses.proofs.DiffNumbering.{numbered-numbered, size-numbered}
use Rattle.spec_clauses.proofs.NormTidied.{is_void-tidied, without_needless-tidied, numbered-tidied}
use Rattle.spec_clauses.proofs.NormRenaming.{is_flat-renamed, phase_of-renamed, is_general-renamed, is_void-renamed, without_needless-renamed, without_repeats-renamed, without_lonely-renamed, numbered-renamed}
use Rattle.spec_clauses.proofs.Distinct.{distinct-fixed}
use Rattle.spec_clauses.proofs.Norm.{few, simplified, names_of, back_of, norm_made, simplified-simple, names-back, norm-norm}
use Rattle.spec_clauses.proofs.Inclusion.{within-trans, within-more_left, within-map}
use Rattle.spec_clauses.proofs.FlatUnder.{all_pass_at}

module _ {X : Type 0} where
  pub within-filter : (test : X → Bool) (xs : List X) → IsWithin (filter test xs) xs
  within-filter test [] = tt
  within-filter test (x ∷ xs) =
      let others = within-filter test xs in
      elim (test x) as (λ b. IsWithin (cond b (x ∷ filter test xs) (filter test xs)) (x ∷ xs)) [
        | true ↦ (xs, here, others)
        | false ↦ within-more_left (filter test xs) (x ∷ []) xs others
      ]

  pub within-distinct : (same : X → X → Bool) (xs : List X) → IsWithin (distinct same xs) xs
  within-distinct same [] = tt
  within-distinct same (x ∷ xs) = (xs, here, within-trans (filter (λ y. not (same x y)) (distinct same xs)) (distinct same xs) xs (within-filter (λ y. not (same x y)) (distinct same xs)) (within-distinct same xs))

  -- what an included list has of sizes, and of a test
  pub total-pick : (f : X → ℕ) {xs rest : List X} {x : X} → Picks xs x rest → total f xs ≡ f x + total f rest
  total-pick f here = refl
  total-pick f (there p) = omega (arith, total-pick f p)

  pub total-within : (f : X → ℕ) (xs ys : List X) → IsWithin xs ys → total f xs ≤ total f ys
  total-within f [] ys h = omega arith
  total-within f (x ∷ xs) ys h = omega (arith, total-pick f h.1, total-within f xs h.0 h.2)

  all_pass_rest : (p : X → Bool) {xs rest : List X} {x : X} → Picks xs x rest → list_all p xs ≡ true → list_all p rest ≡ true
  all_pass_rest p (here {x = x} {xs = xs}) e = (and_true (p x) (list_all p xs) e).1
  all_pass_rest p (there {y = y} {xs = xs} k) e = let parts = and_true (p y) (list_all p xs) e in let others = all_pass_rest p k parts.1 in let first = parts.0 in cc

  pub all_pass_within : (p : X → Bool) (xs ys : List X) → IsWithin xs ys → list_all p ys ≡ true → list_all p xs ≡ true
  all_pass_within p [] ys h e = refl
  all_pass_within p (x ∷ xs) ys h e = let first = all_pass_at p e h.1 in let others = all_pass_within p xs h.0 h.2 (all_pass_rest p h.1 e) in cc

-- The two outcomes of the rule for clauses that say that the attacker has everything.
pub variable_known : (f : Fact Term) → is_variable_known f ≡ true → (x : ℕ) × (f ≡ Att (phase_of f) (Leaf x))
variable_known (Att phase (Leaf x)) e = (x, refl)
variable_known (Att phase (Node f args)) e = cc
variable_known (Mess phase t u) e = cc
variable_known (Tab n ts) e = cc
variable_known (Ev n ts) e = cc
variable_known (Mev n ts) e = cc
variable_known (Bad ts) e = cc

-- what is concluded where the rule applies
abbrev pub all_known : Clause Term → Clause Term
all_known c = everything_known (phase_of c.conclusion)

pub generalized_or : (c : Clause Term) (P : Clause Term → Type 0) → ((x : ℕ) → c.conclusion ≡ Att (phase_of c.conclusion) (Leaf x) → P (all_known c)) → P c → P (generalized c)
generalized_or c P all whole = go (is_general c) refl where
  go : (b : Bool) → is_general c ≡ b → P (cond b (all_known c) c)
  go true e =
      let tests = and_true (is_solved c.hypotheses && is_variable_known c.conclusion) (not (is_passed_on c.hypotheses c.conclusion)) e in
      let known = variable_known c.conclusion (and_true (is_solved c.hypotheses) (is_variable_known c.conclusion) tests.0).1 in
      all known.0 known.1
  go false e = whole

pub few-within : (c : Clause Term) → IsWithin (few c).hypotheses c.hypotheses
few-within c =
    let kept = distinct same_fact c.hypotheses in
    within-trans (few c).hypotheses kept c.hypotheses (within-filter (λ h. not (is_lonely (elsewhere (without_repeats (without_needless c))) h)) kept) (within-distinct same_fact c.hypotheses)

-- the hypotheses that are left are some of the clause's
pub simplified-within : (c : Clause Term) → IsWithin (simplified c).hypotheses c.hypotheses
simplified-within c = generalized_or (few c) (λ d. IsWithin d.hypotheses c.hypotheses) (λ x e. tt) (few-within c)

simplified-outline : (c : Clause Term) → outline (simplified c).conclusion ≡ outline c.conclusion
simplified-outline c = generalized_or (few c) (λ d. outline d.conclusion ≡ outline c.conclusion) (λ x e. ap outline (sym e)) refl

simplified-flat : (c : Clause Term) → is_flat_clause c ≡ true → is_flat_clause (simplified c) ≡ true
simplified-flat c e =
    let parts = and_true (is_flat c.conclusion) (list_all is_flat c.hypotheses) e in
    let left = all_pass_within is_flat (few c).hypotheses c.hypotheses (few-within c) parts.1 in
    generalized_or (few c) (λ d. is_flat_clause d ≡ true) (λ x k. refl) (let first = parts.0 in cc)

simplified-size : (c : Clause Term) → clause_size (simplified c) ≤ clause_size c
simplified-size c =
    let left = total-within fact_size (few c).hypotheses c.hypotheses (few-within c) in
    let needed = total-within diff_size (few c).diffs c.diffs (within-filter (is_needed c) c.diffs) in
    generalized_or (few c) (λ d. clause_size d ≤ clause_size c) (λ x e. let two : fact_size c.conclusion ≡ 2 = ap fact_size e in omega arith) (omega arith)

-- so are the constraints
simplified-diffs : (c : Clause Term) → IsWithin (simplified c).diffs c.diffs
simplified-diffs c = generalized_or (few c) (λ d. IsWithin d.diffs c.diffs) (λ x e. tt) (within-filter (is_needed c) c.diffs)

pub norm-within : (c d : Clause Term) → norm c ≡ Some d → (r : ℕ → ℕ) × IsWithin d.hypotheses (map (fact_under (renaming r)) c.hypotheses)
norm-within c d e =
    let made = norm_made c d e in
    let plain = simplified c in
    let r = names_of plain in
    (r, subst (λ (f : Clause Term). IsWithin f.hypotheses (map (fact_under (renaming r)) c.hypotheses)) (sym made.1) (within-map (fact_under (renaming r)) plain.hypotheses c.hypotheses (simplified-within c)))

pub norm-diffs : (c d : Clause Term) → norm c ≡ Some d → (r : ℕ → ℕ) × IsWithin d.diffs (map (λ e. numbered_diff (diff_under (renaming r) e)) c.diffs)
norm-diffs c d e =
    let made = norm_made c d e in
    let plain = simplified c in
    let r = names_of plain in
    let one = λ (f : Diff). numbered_diff (diff_under (renaming r) f) in
    let first = subst (IsWithin (distinct same_diff (map numbered_diff (map (diff_under (renaming r)) plain.diffs)))) (map-map numbered_diff (diff_under (renaming r)) plain.diffs) (within-distinct same_diff (map numbered_diff (map (diff_under (renaming r)) plain.diffs))) in
    let all = within-trans (distinct same_diff (map numbered_diff (map (diff_under (renaming r)) plain.diffs))) (map one plain.diffs) (map one c.diffs) first (within-map one plain.diffs c.diffs (simplified-diffs c)) in
    (r, subst (λ (f : Clause Term). IsWithin f.diffs (map one c.diffs)) (sym made.1) all)

pub norm-outline : (c d : Clause Term) → norm c ≡ Some d → outline d.conclusion ≡ outline c.conclusion
norm-outline c d e =
    let made = norm_made c d e in
    let plain = simplified c in
    ap (λ f. outline f.conclusion) made.1 ∙ (map_fact-map_fact (λ t. tt) (bind (renaming (names_of plain))) plain.conclusion ∙ simplified-outline c)

all_flat-renamed : (r : ℕ → ℕ) (hs : List (Fact Term)) → list_all is_flat (map (fact_under (renaming r)) hs) ≡ list_all is_flat hs
all_flat-renamed r [] = refl
all_flat-renamed r (h ∷ hs) = cc (is_flat-renamed r h, all_flat-renamed r hs)

is_flat_clause-renamed : (r : ℕ → ℕ) (c : Clause Term) → is_flat_clause (clause_under (renaming r) c) ≡ is_flat_clause c
is_flat_clause-renamed r c = cc (is_flat-renamed r c.conclusion, all_flat-renamed r c.hypotheses)

pub norm-flat : (c d : Clause Term) → is_flat_clause c ≡ true → norm c ≡ Some d → is_flat_clause d ≡ true
norm-flat c d flat e =
    let made = norm_made c d e in
    let plain = simplified c in
    ap is_flat_clause made.1 ∙ (is_flat_clause-renamed (names_of plain) plain ∙ simplified-flat c flat)

-- Bound variables that are numbered, and repeats that are dropped, add no size.
numbered-total : (ds : List Diff) → total diff_size (map numbered_diff ds) ≡ total diff_size ds
numbered-total [] = refl
numbered-total (d ∷ ds) = λ i. size-numbered d i + numbered-total ds i

tidied-size : (c : Clause Term) → clause_size (tidied c) ≤ clause_size c
tidied-size c =
    let fewer = total-within diff_size (distinct same_diff (map numbered_diff c.diffs)) (map numbered_diff c.diffs) (within-distinct same_diff (map numbered_diff c.diffs)) in
    omega (arith, numbered-total c.diffs)

pub norm-size : (c d : Clause Term) → norm c ≡ Some d → clause_size d ≤ clause_size c
norm-size c d e =
    let made = norm_made c d e in
    let plain = simplified c in
    let renamed = clause_under (renaming (names_of plain)) plain in
    let same : clause_size d ≡ clause_size (tidied renamed) = ap clause_size made.1 in
    omega (arith, simplified-size c, tidied-size renamed, clause_size-renamed (names_of plain) plain)

pub norm-normal : (c d : Clause Term) → is_flat_clause c ≡ true → norm c ≡ Some d → IsNormal d
norm-normal c d flat e = record { flat = norm-flat c d flat e; own = norm-norm c d e }

-- A clause is its own norm exactly where each rule by itself leaves it as it is.
generalized-numbered : (c : Clause Term) → IsClauseLedBack (back_of c) (names_of c) c → generalized c ≡ c → generalized (numbered_anew c) ≡ numbered_anew c
generalized-numbered c back g = (λ i. cond (is_general-renamed (back_of c) (names_of c) c back i) (everything_known (phase_of-renamed (names_of c) c.conclusion i)) (numbered_anew c)) ∙ go (is_general c) refl where
  go : (b : Bool) → is_general c ≡ b → cond b (all_known c) (numbered_anew c) ≡ numbered_anew c
  go true e = ap numbered_anew (sym (ap (λ b. cond b (all_known c) c) e) ∙ g)
  go false e = refl

norm_kept : (c : Clause Term) → EachRuleKeeps c → norm c ≡ Some c
norm_kept c k =
    ap (λ d. cond (is_void c || is_tautology (without_repeats d)) None (Some (numbered_anew (generalized (without_lonely (without_repeats d)))))) k.none_needless
    ∙ (ap (λ d. cond (is_void c || is_tautology d) None (Some (numbered_anew (generalized (without_lonely d))))) k.no_repeats
    ∙ ((λ i. cond (k.none_void i || k.no_tautology i) None (Some (numbered_anew (generalized (without_lonely c)))))
    ∙ (ap (λ d. Some (numbered_anew (generalized d))) k.none_lonely ∙ (ap (λ d. Some (numbered_anew d)) k.general ∙ ap Some k.numbers))))

rules_keep : (c : Clause Term) → norm c ≡ Some c → EachRuleKeeps c
rules_keep c e =
    let made = norm_made c c e in
    let plain = simplified c in
    let q = back_of plain in
    let r = names_of plain in
    let simple = simplified-simple c made.0 in
    let back = names-back plain simple.none_needless in
    let whole = clause_under (renaming r) plain in
    let named : c ≡ tidied whole = made.1 in
    let once : without_repeats plain ≡ plain = λ i. record { hypotheses = distinct-fixed same_fact plain.hypotheses simple.distinct i; diffs = plain.diffs; conclusion = plain.conclusion } in
    record {
      none_void = ap is_void named ∙ (is_void-tidied whole ∙ (is_void-renamed q r plain back ∙ simple.none_void));
      none_needless = ap without_needless named ∙ (without_needless-tidied whole ∙ (ap tidied (without_needless-renamed q r plain back ∙ ap (clause_under (renaming r)) simple.none_needless) ∙ sym named));
      no_repeats = ap without_repeats named ∙ (ap tidied (without_repeats-renamed q r plain back ∙ ap (clause_under (renaming r)) once) ∙ sym named);
      no_tautology = ap is_tautology named ∙ (is_among-renamed q r plain.hypotheses plain.conclusion back.facts.1 back.facts.0 ∙ simple.says);
      none_lonely = ap without_lonely named ∙ (ap tidied (without_lonely-renamed q r plain back ∙ ap (clause_under (renaming r)) simple.none_lonely) ∙ sym named);
      general = ap generalized named ∙ (generalized-numbered plain back simple.general ∙ sym named);
      numbers = ap numbered_anew named ∙ (numbered-tidied whole ∙ (numbered-renamed q r plain back ∙ sym named));
    }

pub own_norm : (c : Clause Term) → (norm c ≡ Some c) ↔ EachRuleKeeps c
own_norm c = (rules_keep c, norm_kept c)

-- The constraints of such a clause have their bound variables numbered.
all_numbered : (ds : List Diff) → AllByRecursion (λ d. numbered_diff d ≡ d) (map numbered_diff ds)
all_numbered [] = tt
all_numbered (d ∷ ds) = (numbered-numbered d, all_numbered ds)

all_left : {X : Type 0} (P : X → Type 0) (same : X → X → Bool) (xs : List X) → AllByRecursion P xs → AllByRecursion P (distinct same xs)
all_left P same [] a = tt
all_left P same (x ∷ xs) a = (a.0, all_filter P (λ y. not (same x y)) (distinct same xs) (all_left P same xs a.1))

pub normal-numbered : (c : Clause Term) → norm c ≡ Some c → AllByRecursion (λ d. numbered_diff d ≡ d) c.diffs
normal-numbered c e =
    let under = map (diff_under (numbering (clause_variables c))) c.diffs in
    subst (AllByRecursion (λ d. numbered_diff d ≡ d)) (ap (λ d. d.diffs) (rules_keep c e).numbers) (all_left (λ d. numbered_diff d ≡ d) same_diff (map numbered_diff under) (all_numbered under))

-- A solved clause that is its own norm and concludes `att` of a variable has no hypotheses, but where the variable is only
-- passed on.
pub normal-everything : (c : Clause Term) → norm c ≡ Some c → is_solved c.hypotheses ≡ true → is_variable_known c.conclusion ≡ true → is_passed_on c.hypotheses c.conclusion ≡ false → c ≡ all_known c
normal-everything c e solved known alone =
    let general : is_general c ≡ true = cc in
    sym (rules_keep c e).general ∙ ap (λ b. cond b (all_known c) c) general

-- Terms of numbers, and nodes that are added.
use Rattle.std.proofs.Common.{◌≡◌, ◌≢◌, ℕ, zero, suc, ◌+◌, ◌-◌, ◌<◌, ◌≤◌, Bool, true, false, if◌then◌else◌, ◌||◌, List, [], ◌∷◌, ◌++◌, length, map, refl, sym, ap, ◌∙◌, subst, arith, length-append}
use Rattle.std.specs.Prelude.{Result, OnOk}
use Rattle.std.proofs.lemmas.Bool.Decides.{nat_tests}
use Rattle.std.specs.List.{AllByRecursion, list_any}
use Rattle.spec_trees.specs.Tree.{node, size}
use Rattle.spec_calculus.specs.Bounds.{most_symbols}
use Rattle.spec_terms.specs.Term.{Sym, Term}
use Rattle.spec_clauses.specs.Fact.{same_term}
use Rattle.spec_clauses.proofs.Equality.{same_term-decides}
use Rattle.spec_certificate_text.specs.Terms.{NodeOrder, NodeLarge}
use Rattle.spec_certificate_text.specs.Outcomes.{Outcome, Found, Faulty}
use Rattle.spec_node_tables.specs.Nodes.{TableNode, term_at, term_of}
use Rattle.spec_node_tables.specs.Text.{node_numbers}
use Rattle.spec_node_tables.specs.Large.{is_over}
use Rattle.spec_node_tables.specs.Order.{IsNumberOf}
use Rattle.spec_node_starts.specs.Starts.{start_of}
use Rattle.spec_node_counts.specs.Nodes.{Table, is_bound_node, with_node, added}
use Rattle.term_tree.specs.Bank.{tree_at, AreKnown, Names, capped}
use Rattle.term_tree.specs.declared.bank.Id.{Id}
use Rattle.term_store.specs.SharedBank.{Finds, IsKnown, AddsNew}
use Rattle.node_lines.specs.Seen.{id_of}

-- Numbers as ids.

pub tree_of_number : (all : List Term) (n : ℕ) → 0 < n → tree_at all (id_of n) ≡ term_at all n
tree_of_number all zero some = absurd (omega (arith, some))
tree_of_number all (suc n) some = let less : suc n - 1 ≡ n = omega arith in ap (λ i. tree_at all (record { index = i })) less

pub ids_known : (all : List Term) (ns : List ℕ) → AllByRecursion (IsNumberOf (length all)) ns → AreKnown all (map id_of ns)
ids_known all [] are = tt
ids_known all (n ∷ ns) (is, are) = (omega (arith, is.0, is.1), ids_known all ns are)

pub trees_of_numbers : (all : List Term) (ns : List ℕ) → AllByRecursion (IsNumberOf (length all)) ns → map (tree_at all) (map id_of ns) ≡ map (term_at all) ns
trees_of_numbers all [] are = refl
trees_of_numbers all (n ∷ ns) (is, are) =
    let first = tree_of_number all n (omega (arith, is.0)) in
    let others = trees_of_numbers all ns are in
    λ i. first i ∷ others i

-- Nodes that stand earlier.

among : (t : Term) (all : List Term) (i : ℕ) → i < length all → tree_at all (record { index = i }) ≡ t → list_any (same_term t) all ≡ true
among t [] i below is = absurd (omega (arith, below))
among t (u ∷ all) zero below is = ap (λ b. b || list_any (same_term t) all) ((same_term-decides t u).1 (sym is))
among t (u ∷ all) (suc i) below is = by (among t all i (omega (arith, below)) is) (same_term t u)
  where
    by : list_any (same_term t) all ≡ true → (b : Bool) → (b || list_any (same_term t) all) ≡ true
    by later true = refl
    by later false = later

pub known_stands : (t : Term) (all : List Term) → IsKnown all t → list_any (same_term t) all ≡ true
known_stands t all (id, names) = among t all id.index names.known names.is

found_among : (t : Term) (all : List Term) → list_any (same_term t) all ≡ true → (i : ℕ) × (i < length all) × (tree_at all (record { index = i }) ≡ t)
found_among t [] e = absurd (cc)
found_among t (u ∷ all) e = by (λ told. found_among t all told) (same_term t u) refl e
  where
    by : (list_any (same_term t) all ≡ true → (i : ℕ) × (i < length all) × (tree_at all (record { index = i }) ≡ t)) → (b : Bool) → same_term t u ≡ b → (b || list_any (same_term t) all) ≡ true
        → (i : ℕ) × (i < length (u ∷ all)) × (tree_at (u ∷ all) (record { index = i }) ≡ t)
    by later true same told = (0, omega arith, sym ((same_term-decides t u).0 same))
    by later false other told = let one = later told in (suc one.0, omega (arith, one.1), one.2)

pub stands_known : (t : Term) (all : List Term) → list_any (same_term t) all ≡ true → IsKnown all t
stands_known t all e = let there = found_among t all e in (record { index = there.0 }, record { known = there.1; is = there.2 })

-- What was added.

-- a tree that is added makes the bank longer
same_length : (t : Term) (old new : List Term) → AddsNew old new t → length new ≡ length old → list_any (same_term t) old ≡ true
same_length t old new adds long = by (list_any (same_term t) old) refl
  where
    by : (b : Bool) → list_any (same_term t) old ≡ b → b ≡ true
    by true e = refl
    by false e =
        let longer : new ≡ old ++ t ∷ [] = adds (λ known. let never : true ≡ false = sym (known_stands t old known) ∙ e in absurd (cc)) in
        absurd (omega (arith, long, ap length longer, length-append old (t ∷ [])))

longer_is_new : (t : Term) (old new : List Term) (id : Id) → Finds old new t id → AddsNew old new t → length new ≢ length old → (list_any (same_term t) old ≡ false) × (new ≡ old ++ t ∷ [])
longer_is_new t old new id finds adds long = by (list_any (same_term t) old) refl
  where
    by : (b : Bool) → list_any (same_term t) old ≡ b → (b ≡ false) × (new ≡ old ++ t ∷ [])
    by true e = let known = stands_known t old e in absurd (long (ap length (finds known.0 known.1).1))
    by false e = (refl, adds (λ known. let never : true ≡ false = sym (known_stands t old known) ∙ e in absurd (cc)))

abbrev if_new : Table → ℕ → TableNode → ℕ → List ℕ → Bool → Outcome Table
if_new T from n place rest stands =
    if stands then Faulty from NodeOrder else (if is_over most_symbols (size (term_of T.terms n)) then Faulty from NodeLarge else Found (with_node T n) place rest)

abbrev if_fits : Table → ℕ → TableNode → ℕ → List ℕ → Bool → Outcome Table
if_fits T from n place rest large = if large then Faulty from NodeLarge else Found (with_node T n) place rest

pub added_again : (T : Table) (new : List Term) (from : ℕ) (n : TableNode) (place : ℕ) (rest : List ℕ) → AddsNew T.terms new (term_of T.terms n) → length new ≡ length T.terms → added T from n place rest ≡ Faulty from NodeOrder
added_again T new from n place rest adds long = ap (if_new T from n place rest) (same_length (term_of T.terms n) T.terms new adds long)

over_limit : (k told : ℕ) → told ≡ capped k → most_symbols < told → is_over most_symbols k ≡ true
over_limit k told is more = let large : most_symbols < k = omega (arith, is, more) in grind (arith, nat_tests)

within_limit : (k told : ℕ) → told ≡ capped k → told ≤ most_symbols → is_over most_symbols k ≡ false
within_limit k told is few = let small : k ≤ most_symbols = omega (arith, is, few) in grind (arith, nat_tests)

pub added_large : (T : Table) (new : List Term) (id : Id) (from : ℕ) (n : TableNode) (place : ℕ) (rest : List ℕ) (told : ℕ) → Finds T.terms new (term_of T.terms n) id → AddsNew T.terms new (term_of T.terms n) → length new ≢ length T.terms
    → Names new id (term_of T.terms n) → told ≡ capped (size (tree_at new id)) → most_symbols < told → added T from n place rest ≡ Faulty from NodeLarge
added_large T new id from n place rest told finds adds long names is more =
    ap (if_new T from n place rest) (longer_is_new (term_of T.terms n) T.terms new id finds adds long).0
    ∙ ap (if_fits T from n place rest) (over_limit (size (term_of T.terms n)) told (is ∙ ap (λ t. capped (size t)) names.is) more)

pub added_new : (T : Table) (new : List Term) (id : Id) (from : ℕ) (n : TableNode) (place : ℕ) (rest : List ℕ) (told : ℕ) (starts : List ℕ) (bounds : List Bool) → Finds T.terms new (term_of T.terms n) id → AddsNew T.terms new (term_of T.terms n) → length new ≢ length T.terms
    → Names new id (term_of T.terms n) → told ≡ capped (size (tree_at new id)) → told ≤ most_symbols → starts ≡ T.starts ++ start_of T.starts (length T.terms) (node_numbers n) ∷ [] → bounds ≡ T.bounds ++ is_bound_node T.bounds n ∷ []
    → added T from n place rest ≡ Found (record { terms = new; starts = starts; bounds = bounds }) place rest
added_new T new id from n place rest told starts bounds finds adds long names is few begins binds =
    let added = longer_is_new (term_of T.terms n) T.terms new id finds adds long in
    ap (if_new T from n place rest) added.0
    ∙ (ap (if_fits T from n place rest) (within_limit (size (term_of T.terms n)) told (is ∙ ap (λ t. capped (size t)) names.is) few)
    ∙ (ap (λ ts. Found (record { terms = ts; starts = T.starts ++ start_of T.starts (length T.terms) (node_numbers n) ∷ []; bounds = T.bounds ++ is_bound_node T.bounds n ∷ [] }) place rest) (sym added.1)
    ∙ (ap (λ ss. Found (record { terms = new; starts = ss; bounds = T.bounds ++ is_bound_node T.bounds n ∷ [] }) place rest) (sym begins)
    ∙ ap (λ bs. Found (record { terms = new; starts = starts; bounds = bs }) place rest) (sym binds))))

-- the starts with that of the node
pub starts_on : (ss starts now : List ℕ) (start nodes many : ℕ) (ns : List ℕ) → starts ≡ ss ++ start ∷ [] → start ≡ start_of now nodes ns → now ≡ ss → nodes ≡ many → starts ≡ ss ++ start_of ss many ns ∷ []
starts_on ss starts now start nodes many ns pushed is same long =
    pushed ∙ ap (λ k. ss ++ k ∷ []) (is ∙ (ap (λ xs. start_of xs nodes ns) same ∙ ap (λ k. start_of ss k ns) long))

pub ruleset adding = (added_again, added_large, added_new)

-- Bank calls.

pub named_over : (all new : List Term) (id : Id) (f : Sym) (ns : List ℕ) → AllByRecursion (IsNumberOf (length all)) ns → Names new id (node f (map (tree_at all) (map id_of ns))) → Names new id (node f (map (term_at all) ns))
named_over all new id f ns are names = subst (λ ts. Names new id (node f ts)) (trees_of_numbers all ns are) names

pub finds_over : (all new : List Term) (id : Id) (f : Sym) (ns : List ℕ) → AllByRecursion (IsNumberOf (length all)) ns → Finds all new (node f (map (tree_at all) (map id_of ns))) id → Finds all new (node f (map (term_at all) ns)) id
finds_over all new id f ns are finds = subst (λ ts. Finds all new (node f ts) id) (trees_of_numbers all ns are) finds

pub adds_over : (all new : List Term) (f : Sym) (ns : List ℕ) → AllByRecursion (IsNumberOf (length all)) ns → AddsNew all new (node f (map (tree_at all) (map id_of ns))) → AddsNew all new (node f (map (term_at all) ns))
adds_over all new f ns are adds = subst (λ ts. AddsNew all new (node f ts)) (trees_of_numbers all ns are) adds

pub adds_ok : {E : Type 0} (result : Result Id E) (all new : List Term) (f : Sym) (ns : List ℕ) (ids : List Id) → ids ≡ map id_of ns → AllByRecursion (IsNumberOf (length all)) ns
    → OnOk result (AddsNew all new (node f (map (tree_at all) ids))) → OnOk result (AddsNew all new (node f (map (term_at all) ns)))
adds_ok result all new f ns ids same are adds =
    subst (λ ts. OnOk result (AddsNew all new (node f ts))) (ap (map (tree_at all)) same ∙ trees_of_numbers all ns are) adds

pub ruleset terms = (ids_known, named_over, finds_over, adds_over, adds_ok)

-- A certificate by numbers is made of a certificate exactly where its nodes stand in the order of the walk.
use Rattle.std.proofs.Common.{◌≡◌, ◌↔◌, ℕ, zero, suc, ◌+◌, ◌<◌, nat_le, Bool, true, false, List, [], ◌∷◌, ◌++◌, map, length, Some, slice_get, unwrap_or, refl, sym, ◌∙◌, ap, subst, arith, length-append}
use Rattle.std.specs.List.{AllByRecursion, IsDistinct}
use Rattle.std.specs.Prelude.{flat_map}
use Rattle.std.proofs.lemmas.List.{append_assoc, append-nil, length-map}
use Rattle.std.proofs.lemmas.Bool.Decides.{nat_tests}
use Rattle.spec_trees.specs.Tree.{Leaf, Node, items_of}
use Rattle.spec_trees.proofs.Rows.{items_of-trees}
use Rattle.spec_terms.specs.Term.{Term}
use Rattle.spec_clauses.specs.Fact.{Fact, Clause, terms_of, map_fact, same_term}
use Rattle.spec_clauses.specs.Norm.{distinct}
use Rattle.spec_clauses.specs.Inclusion.{here, there, Has}
use Rattle.spec_clauses.proofs.Lists.{all_append, all_weaker}
use Rattle.spec_clauses.proofs.Equality.{same_term-decides}
use Rattle.spec_clauses.proofs.Parts.{terms_of-map}
use Rattle.spec_certificates.specs.Certificate.{Certificate}
use Rattle.spec_certificate_text.specs.Sides.{SidesOf, SpelledClause, spelled_clause, meant_clause, map_sides, map_spelled}
use Rattle.spec_certificate_text.proofs.Sides.{diffs_spelled}
use Rattle.spec_node_tables.specs.Table.{walk, spelled_terms, terms_in_order, table, place_in, number_in, arguments_of}
use Rattle.spec_node_tables.specs.Nodes.{TableNode, Variable, Over, NodeCertificate, node_of, with_nodes, term_at, term_of, terms_from, without_nodes}
use Rattle.spec_node_tables.specs.Text.{node_numbers}
use Rattle.spec_node_tables.specs.Order.{IsNumberOf, StandInOrder, HasNumbersOf, IsInOrder}
use Rattle.spec_node_tables.proofs.Walks.{ArgumentsFirst, table_first, table_distinct}
use Rattle.spec_node_tables.proofs.Numbers.{Lacks, place_of_new, place_before, place_within}
use Rattle.spec_node_tables.proofs.Back.{mapped_back, node_back, table_back, terms_stand, of_parts, with_parts, spelled_back, by_numbers_back}

-- the item of a number within a list
at_number : (ts us : List Term) (k : ℕ) → k < length ts → slice_get (ts ++ us) k ≡ slice_get ts k
at_number [] us k less = absurd (omega arith)
at_number (t ∷ ts) us zero less = refl
at_number (t ∷ ts) us (suc k) less = at_number ts us k (omega arith)

at_end : (ts us : List Term) (t : Term) → slice_get (ts ++ (t ∷ us)) (length ts) ≡ Some t
at_end [] us t = refl
at_end (s ∷ ts) us t = at_end ts us t

pub has_number : (ts : List Term) (k : ℕ) → k < length ts → Has ts (unwrap_or (slice_get ts k) (Leaf 0))
has_number [] k less = absurd (omega arith)
has_number (t ∷ ts) zero less = (ts, here)
has_number (t ∷ ts) (suc k) less = let found = has_number ts k (omega arith) in (t ∷ found.0, there found.1)

-- each term of the list has the number of its place
Counts : List Term → Type 0
Counts ts = (k : ℕ) → k < length ts → place_in ts (unwrap_or (slice_get ts k) (Leaf 0)) ≡ k

counts_more : (ts : List Term) (t : Term) → Counts ts → Lacks ts t → Counts (ts ++ (t ∷ []))
unfolding Counts
counts_more ts t counts lacks k less = split (nat_le (length ts) k) refl where
  longer : length (ts ++ (t ∷ [])) ≡ length ts + 1
  longer = length-append ts (t ∷ [])

  split : (b : Bool) → nat_le (length ts) k ≡ b → place_in (ts ++ (t ∷ [])) (unwrap_or (slice_get (ts ++ (t ∷ [])) k) (Leaf 0)) ≡ k
  split true e =
      let wide = longer in
      let last : length ts ≡ k = grind (arith, nat_tests, e, less, wide) in
      let found : unwrap_or (slice_get (ts ++ (t ∷ [])) k) (Leaf 0) ≡ t = subst (λ m. unwrap_or (slice_get (ts ++ (t ∷ [])) m) (Leaf 0) ≡ t) last (ap (λ o. unwrap_or o (Leaf 0)) (at_end ts [] t)) in
      ap (place_in (ts ++ (t ∷ []))) found ∙ (place_of_new ts [] t lacks ∙ last)
  split false e =
      let within : k < length ts = grind (arith, nat_tests, e) in
      let same : unwrap_or (slice_get (ts ++ (t ∷ [])) k) (Leaf 0) ≡ unwrap_or (slice_get ts k) (Leaf 0) = ap (λ o. unwrap_or o (Leaf 0)) (at_number ts (t ∷ []) k within) in
      ap (place_in (ts ++ (t ∷ []))) same ∙ (place_before ts (t ∷ []) (unwrap_or (slice_get ts k) (Leaf 0)) (has_number ts k within) ∙ counts k within)

-- so numbers come back
number_back : (before rest : List Term) (n : ℕ) → Counts before → IsNumberOf (length before) n → number_in (before ++ rest) (term_at before n) ≡ n
unfolding Counts
number_back before rest zero counts is = let some = is.0 in absurd (omega arith)
number_back before rest (suc k) counts is =
    let least = is.1 in
    let within : k < length before = omega arith in
    ap suc (place_before before rest (unwrap_or (slice_get before k) (Leaf 0)) (has_number before k within) ∙ counts k within)

numbers_back : (before rest : List Term) (ns : List ℕ) → Counts before → AllByRecursion (IsNumberOf (length before)) ns → map (number_in (before ++ rest)) (map (term_at before) ns) ≡ ns
numbers_back before rest ns counts are =
    mapped_back (number_in (before ++ rest)) (term_at before) ns (all_weaker (IsNumberOf (length before)) (λ n. number_in (before ++ rest) (term_at before n) ≡ n) (λ n is. number_back before rest n counts is) ns are)

node_again : (before rest : List Term) (n : TableNode) → Counts before → AllByRecursion (IsNumberOf (length before)) (node_numbers n) → node_of (before ++ rest) (term_of before n) ≡ n
node_again before rest (Variable x) counts are = refl
node_again before rest (Over f ns) counts are =
    ap (λ us. Over f (map (number_in (before ++ rest)) us)) (items_of-trees (map (term_at before) ns)) ∙ ap (Over f) (numbers_back before rest ns counts are)

-- the terms of nodes, without those before
own_terms : List Term → List TableNode → List Term
own_terms before [] = []
own_terms before (n ∷ ns) = term_of before n ∷ own_terms (before ++ (term_of before n ∷ [])) ns

own-terms_from : (before : List Term) (ns : List TableNode) → terms_from before ns ≡ before ++ own_terms before ns
unfolding own_terms
own-terms_from before [] = sym (append-nil before)
own-terms_from before (n ∷ ns) = own-terms_from (before ++ (term_of before n ∷ [])) ns ∙ append_assoc before (term_of before n ∷ []) (own_terms (before ++ (term_of before n ∷ [])) ns)

nodes_again : (before : List Term) (ns : List TableNode) → Counts before → StandInOrder before ns → map (node_of (before ++ own_terms before ns)) (own_terms before ns) ≡ ns
unfolding own_terms
nodes_again before [] counts order = refl
nodes_again before (n ∷ ns) counts order =
    let t = term_of before n in
    let rest = own_terms (before ++ (t ∷ [])) ns in
    let later = nodes_again (before ++ (t ∷ [])) ns (counts_more before t counts order.1) order.2 in
    let moved : map (node_of (before ++ (t ∷ rest))) rest ≡ ns = subst (λ all. map (node_of all) rest ≡ ns) (append_assoc before (t ∷ []) rest) later in
    ap (λ m. m ∷ map (node_of (before ++ (t ∷ rest))) rest) (node_again before (t ∷ rest) n counts order.0) ∙ ap (λ ms. n ∷ ms) moved

all_count : (before : List Term) (ns : List TableNode) → Counts before → StandInOrder before ns → Counts (before ++ own_terms before ns)
unfolding own_terms
all_count before [] counts order = subst Counts (sym (append-nil before)) counts
all_count before (n ∷ ns) counts order =
    let t = term_of before n in
    subst Counts (append_assoc before (t ∷ []) (own_terms (before ++ (t ∷ [])) ns)) (all_count (before ++ (t ∷ [])) ns (counts_more before t counts order.1) order.2)

own_length : (before : List Term) (ns : List TableNode) → length (own_terms before ns) ≡ length ns
unfolding own_terms
own_length before [] = refl
own_length before (n ∷ ns) = ap suc (own_length (before ++ (term_of before n ∷ [])) ns)

counts_none : Counts []
unfolding Counts
counts_none k less = absurd (omega arith)

-- a clause that is meant is spelled as it was
pub clause_spelled : (c : SpelledClause Term) → spelled_clause (meant_clause c) ≡ c
clause_spelled c = let diffs = diffs_spelled c.diffs in λ i. record { hypotheses = c.hypotheses; diffs = diffs i; conclusion = c.conclusion }

module _ (ts : List Term) (counts : Counts ts) where
  one_again : (n : ℕ) → IsNumberOf (length ts) n → number_in ts (term_at ts n) ≡ n
  one_again n is = subst (λ us. number_in us (term_at ts n) ≡ n) (append-nil ts) (number_back ts [] n counts is)

  clause_again : (c : SpelledClause ℕ) → HasNumbersOf (length ts) c → map_spelled (number_in ts) (map_spelled (term_at ts) c) ≡ c
  clause_again c are = spelled_back (number_in ts) (term_at ts) c (all_weaker (IsNumberOf (length ts)) (λ n. number_in ts (term_at ts n) ≡ n) one_again (spelled_terms c) are)

  -- what is spelled of what is meant is as it was
  meant_again : (c : SpelledClause ℕ) → HasNumbersOf (length ts) c → map_spelled (number_in ts) (spelled_clause (meant_clause (map_spelled (term_at ts) c))) ≡ c
  meant_again c are = ap (map_spelled (number_in ts)) (clause_spelled (map_spelled (term_at ts) c)) ∙ clause_again c are

  clauses_again : (cs : List (SpelledClause ℕ)) → AllByRecursion (HasNumbersOf (length ts)) cs → map (λ c. map_spelled (number_in ts) (spelled_clause c)) (map (λ c. meant_clause (map_spelled (term_at ts) c)) cs) ≡ cs
  clauses_again [] are = refl
  clauses_again (c ∷ cs) are = let first = meant_again c are.0 in let others = clauses_again cs are.1 in λ i. first i ∷ others i

pub ordered_again : (c : NodeCertificate) → IsInOrder c → with_nodes (without_nodes c) ≡ c
ordered_again c order =
    let ts = terms_from [] c.nodes in
    let own : ts ≡ own_terms [] c.nodes = own-terms_from [] c.nodes in
    let counts : Counts ts = subst Counts (sym own) (all_count [] c.nodes counts_none order.nodes) in
    let as_long : length ts ≡ length c.nodes = ap length own ∙ own_length [] c.nodes in
    let nodes : map (node_of ts) ts ≡ c.nodes = subst (λ us. map (node_of us) us ≡ c.nodes) (sym own) (nodes_again [] c.nodes counts_none order.nodes) in
    let clauses : map (λ d. map_spelled (number_in ts) (spelled_clause d)) (map (λ d. meant_clause (map_spelled (term_at ts) d)) c.clauses) ≡ c.clauses = clauses_again ts counts c.clauses (subst (λ m. AllByRecursion (HasNumbersOf m) c.clauses) (sym as_long) order.clauses) in
    let cs = (without_nodes c).clauses in
    let walked = order.walked in
    let all_nodes : map (node_of (table cs)) (table cs) ≡ c.nodes = ap (λ us. map (node_of us) us) walked ∙ nodes in
    let all_clauses : map (λ d. map_spelled (number_in (table cs)) (spelled_clause d)) cs ≡ c.clauses = ap (λ us. map (λ d. map_spelled (number_in us) (spelled_clause d)) cs) walked ∙ clauses in
    λ i. record { nodes = all_nodes i; clauses = all_clauses i; rows = c.rows; goals = c.goals }

-- And what is made of a certificate stands in order.

differ_back : (t u : Term) → same_term t u ≡ false → same_term u t ≡ false
differ_back t u e = go (same_term u t) refl where
  go : (b : Bool) → same_term u t ≡ b → same_term u t ≡ false
  go true f = let same : same_term t u ≡ true = (same_term-decides t u).1 (sym ((same_term-decides u t).0 f)) in absurd (cc)
  go false f = f

-- no later term stands before
abbrev pub Apart : List Term → List Term → Type 0
Apart before ts = AllByRecursion (Lacks before) ts

pub apart_more : (before : List Term) (t : Term) (ts : List Term) → Apart before ts → AllByRecursion (λ u. same_term t u ≡ false) ts → Apart (before ++ (t ∷ [])) ts
apart_more before t [] apart differ = tt
apart_more before t (u ∷ us) apart differ =
    (all_append (λ v. same_term u v ≡ false) before (t ∷ []) apart.0 (differ_back t u differ.0, tt), apart_more before t us apart.1 differ.1)

pub apart_nothing : (ts : List Term) → Apart [] ts
apart_nothing [] = tt
apart_nothing (t ∷ ts) = (tt, apart_nothing ts)

numbers_before : (before rest us : List Term) → AllByRecursion (Has before) us → AllByRecursion (IsNumberOf (length before)) (map (number_in (before ++ rest)) us)
numbers_before before rest [] stand = tt
numbers_before before rest (u ∷ us) stand =
    let same = place_before before rest u stand.0 in
    let within = place_within before u stand.0 in
    ((omega arith, omega arith), numbers_before before rest us stand.1)

node_before : (before rest : List Term) (t : Term) → AllByRecursion (Has before) (arguments_of t) → AllByRecursion (IsNumberOf (length before)) (node_numbers (node_of (before ++ rest) t))
node_before before rest (Leaf x) stand = tt
node_before before rest (Node f args) stand = numbers_before before rest (items_of args) stand

made_in_order : (all before ts : List Term) → before ++ ts ≡ all → ArgumentsFirst before ts → Apart before ts → IsDistinct same_term ts → StandInOrder before (map (node_of all) ts)
unfolding IsDistinct
made_in_order all before [] whole first apart differ = tt
made_in_order all before (t ∷ ts) whole first apart differ =
    let meaning : term_of before (node_of all t) ≡ t = subst (λ vs. term_of before (node_of vs t) ≡ t) whole (node_back before (t ∷ ts) t first.0) in
    let later = made_in_order all (before ++ (t ∷ [])) ts (append_assoc before (t ∷ []) ts ∙ whole) first.1 (apart_more before t ts apart.1 differ.0) differ.1 in (
      subst (λ vs. AllByRecursion (IsNumberOf (length before)) (node_numbers (node_of vs t))) whole (node_before before (t ∷ ts) t first.0),
      subst (Lacks before) (sym meaning) apart.0,
      subst (λ v. StandInOrder (before ++ (v ∷ [])) (map (node_of all) ts)) (sym meaning) later,
    )

module _ (ts : List Term) where
  numbers_stand : (us : List Term) → AllByRecursion (Has ts) us → AllByRecursion (IsNumberOf (length ts)) (map (number_in ts) us)
  numbers_stand us stand = subst (λ vs. AllByRecursion (IsNumberOf (length ts)) (map (number_in vs) us)) (append-nil ts) (numbers_before ts [] us stand)

  fact_numbers : (f : Fact Term) → AllByRecursion (Has ts) (terms_of f) → AllByRecursion (IsNumberOf (length ts)) (terms_of (map_fact (number_in ts) f))
  fact_numbers f stand = subst (AllByRecursion (IsNumberOf (length ts))) (sym (terms_of-map (number_in ts) f)) (numbers_stand (terms_of f) stand)

  facts_numbers : (fs : List (Fact Term)) → AllByRecursion (λ f. AllByRecursion (Has ts) (terms_of f)) fs → AllByRecursion (λ f. AllByRecursion (IsNumberOf (length ts)) (terms_of f)) (map (map_fact (number_in ts)) fs)
  facts_numbers [] stand = tt
  facts_numbers (f ∷ fs) stand = (fact_numbers f stand.0, facts_numbers fs stand.1)

  lefts_numbers : (ds : List (SidesOf Term)) → AllByRecursion (λ s. AllByRecursion (Has ts) s.left) ds → AllByRecursion (λ s. AllByRecursion (IsNumberOf (length ts)) s.left) (map (map_sides (number_in ts)) ds)
  lefts_numbers [] stand = tt
  lefts_numbers (d ∷ ds) stand = (numbers_stand d.left stand.0, lefts_numbers ds stand.1)

  rights_numbers : (ds : List (SidesOf Term)) → AllByRecursion (λ s. AllByRecursion (Has ts) s.right) ds → AllByRecursion (λ s. AllByRecursion (IsNumberOf (length ts)) s.right) (map (map_sides (number_in ts)) ds)
  rights_numbers [] stand = tt
  rights_numbers (d ∷ ds) stand = (numbers_stand d.right stand.0, rights_numbers ds stand.1)

  clause_numbers : (c : SpelledClause Term) → AllByRecursion (Has ts) (spelled_terms c) → HasNumbersOf (length ts) (map_spelled (number_in ts) c)
  clause_numbers c stand =
      let parts = of_parts (Has ts) c stand in
      with_parts (IsNumberOf (length ts)) (map_spelled (number_in ts) c) record {
        hypotheses = facts_numbers c.hypotheses parts.hypotheses;
        left = lefts_numbers c.diffs parts.left;
        right = rights_numbers c.diffs parts.right;
        conclusion = fact_numbers c.conclusion parts.conclusion;
      }

  clauses_numbers : (cs : List (Clause Term)) → AllByRecursion (λ c. AllByRecursion (Has ts) (spelled_terms (spelled_clause c))) cs → AllByRecursion (HasNumbersOf (length ts)) (map (λ c. map_spelled (number_in ts) (spelled_clause c)) cs)
  clauses_numbers [] stand = tt
  clauses_numbers (c ∷ cs) stand = (clause_numbers (spelled_clause c) stand.0, clauses_numbers cs stand.1)

-- the clauses that are meant by numbers are spelled as those of which the numbers were made
spelled_again : (ts : List Term) (cs : List (Clause Term)) → AllByRecursion (λ c. AllByRecursion (Has ts) (spelled_terms (spelled_clause c))) cs
    → terms_in_order (map (λ s. meant_clause (map_spelled (term_at ts) s)) (map (λ c. map_spelled (number_in ts) (spelled_clause c)) cs)) ≡ terms_in_order cs
spelled_again ts [] stand = refl
spelled_again ts (c ∷ cs) stand =
    let s = map_spelled (term_at ts) (map_spelled (number_in ts) (spelled_clause c)) in
    let first : spelled_terms (spelled_clause (meant_clause s)) ≡ spelled_terms (spelled_clause c) = ap spelled_terms (clause_spelled s ∙ by_numbers_back ts c stand.0) in
    let others = spelled_again ts cs stand.1 in
    λ i. first i ++ others i

pub with_nodes_ordered : (c : Certificate) → IsInOrder (with_nodes c)
with_nodes_ordered c =
    let ts = table c.clauses in
    let numbered = map (λ d. map_spelled (number_in ts) (spelled_clause d)) c.clauses in
    let as_long : length (map (node_of ts) ts) ≡ length ts = length-map ts (node_of ts) in
    let back = table_back c.clauses in
    let meant : terms_in_order (map (λ s. meant_clause (map_spelled (term_at (terms_from [] (map (node_of ts) ts))) s)) numbered) ≡ terms_in_order c.clauses =
    ap (λ us. terms_in_order (map (λ s. meant_clause (map_spelled (term_at us) s)) numbered)) back ∙ spelled_again ts c.clauses (terms_stand c.clauses) in
    record {
      nodes = made_in_order ts [] ts refl (table_first c.clauses) (apart_nothing ts) (table_distinct c.clauses);
      clauses = subst (λ m. AllByRecursion (HasNumbersOf m) numbered) (sym as_long) (clauses_numbers ts c.clauses (terms_stand c.clauses));
      walked = ap (λ us. distinct same_term (flat_map walk us)) meant ∙ sym back;
    }

pub ordered_decides : (c : NodeCertificate) → IsInOrder c ↔ (with_nodes (without_nodes c) ≡ c)
ordered_decides c = (ordered_again c, λ e. subst IsInOrder e (with_nodes_ordered (without_nodes c)))

-- Certificates by numbers are told apart by their texts, and so are the certificates that they are made of.
use Rattle.std.proofs.Common.{◌≡◌, ℕ, ◌<◌, Bool, true, false, ◌||◌, ◌==◌, List, [], ◌∷◌, ◌++◌, map, length, refl, sym, ◌∙◌, ap, subst, arith}
use Rattle.std.specs.Prelude.{codes}
use Rattle.std.specs.Char.{is_ascii_digit}
use Rattle.std.specs.Int.{is_in_range}
use Rattle.std.specs.Fmt.{decimal}
use Rattle.std.specs.List.{list_all, AllByRecursion}
use Rattle.std.proofs.lemmas.Fmt.{decimal_nonempty}
use Rattle.std.proofs.lemmas.List.{append_cancel_left, length-map}
use Rattle.spec_trees.specs.Tree.{Trees, Leaf, Node, none, more, trees, items_of}
use Rattle.spec_trees.proofs.Rows.{items_of-trees}
use Rattle.spec_calculus.specs.Syntax.{Protocol}
use Rattle.spec_terms.specs.Term.{Sym, Term}
use Rattle.spec_clauses.specs.Fact.{Fact, Att, Mess, Tab, Ev, Mev, Bad, Clause, terms_of, map_fact}
use Rattle.spec_clauses.specs.Diff.{Diff, sides, side_slots}
use Rattle.spec_certificate_text.specs.Sides.{SpelledClause, side_term, spelled_diff, spelled_clause, map_sides, map_spelled}
use Rattle.spec_clauses.specs.Inclusion.{Has}
use Rattle.spec_clauses.proofs.Lists.{all_weaker, all-flat_map}
use Rattle.spec_clauses.proofs.Inclusion.{all_has}
use Rattle.spec_clauses.proofs.Parts.{terms_of-map}
use Rattle.spec_certificates.specs.Certificate.{Certificate}
use Rattle.spec_certificate_text.specs.Spelled.{Stops, goes_on}
use Rattle.spec_certificate_text.specs.OfProtocol.{IsShort, IsSymbolOf, IsEvent, IsTable, IsTermBelow, AreTermsBelow, IsTermOf, AreTermsOf, AreSidesOf, most_side_variables, IsOwnShort, IsDiffOf, IsFactOf, IsClauseOf, IsCertificateOf, HasNames}
use Rattle.spec_certificate_text.specs.Text.{row_lines, certificate_text}
use Rattle.spec_certificate_text.proofs.Runs.{both_left, first_same, run_apart}
use Rattle.spec_certificate_text.proofs.Names.{decimal_digits, one_decimal}
use Rattle.spec_certificate_text.proofs.Clauses.{Same, certificate_apart}
use Rattle.spec_node_tables.specs.Table.{spelled_terms, terms_in_order, table, number_in, arguments_of, IsSubterm, itself, of_argument}
use Rattle.spec_node_tables.specs.Nodes.{NodeCertificate, node_of, with_nodes, without_nodes, HasShortDiffs}
use Rattle.spec_node_tables.specs.Text.{number_text, clause_lines_over, node_lines, numbered_text, text_with_nodes}
use Rattle.spec_node_tables.specs.OfProtocol.{IsNodeOf, HasPredicate, IsFactOver, AreSidesOver, IsClauseOver, IsNodeCertificateOf}
use Rattle.spec_node_tables.proofs.Walks.{table_has}
use Rattle.spec_node_tables.proofs.Numbers.{place_within}
use Rattle.spec_node_tables.proofs.Back.{all_there, terms_stand, of_parts, with_parts, certificate_back}
use Rattle.spec_node_tables.proofs.Lines.{differ, is_letter, node_lines_apart}
use Rattle.spec_node_tables.proofs.Facts.{TellsTerms, clause_lines_apart}

-- Numbers are told apart, and begin with digits.

digit_goes_on : (b : ℕ) → is_ascii_digit b ≡ true → goes_on b ≡ true
digit_goes_on b e = ap (λ c. ((((((c || is_in_range 65 90 b) || is_in_range 97 122 b) || (b == 95)) || (b == 39)) || (b == 40)) || (b == 64))) e

stops_digits : (k : List ℕ) → Stops goes_on k → Stops is_ascii_digit k
stops_digits [] stops = tt
stops_digits (b ∷ k) stops = go (is_ascii_digit b) refl where
  go : (c : Bool) → is_ascii_digit b ≡ c → is_ascii_digit b ≡ false
  go true e = let passes : goes_on b ≡ true = digit_goes_on b e in let clash : true ≡ false = sym passes ∙ stops in absurd (cc)
  go false e = e

digits_begin : (digits k : List ℕ) (b : ℕ) (rest : List ℕ) → 0 < length digits → list_all is_ascii_digit digits ≡ true → goes_on b ≡ false → digits ++ k ≡ b ∷ rest → ⊥
digits_begin [] k b rest some are stops e = absurd (omega (arith, some))
digits_begin (d ∷ ds) k b rest some are stops e =
    let first : d ≡ b = first_same d b (ds ++ k) rest e in
    let passes : goes_on d ≡ true = digit_goes_on d (both_left (is_ascii_digit d) (list_all is_ascii_digit ds) are) in
    let clash : true ≡ false = sym passes ∙ (ap goes_on first ∙ stops) in absurd (cc)

numbers_tell : TellsTerms number_text IsShort
numbers_tell = record {
  apart = λ m n k l short_m short_n stops_k stops_l e.
      let parts = run_apart is_ascii_digit (decimal m) (decimal n) k l (decimal_digits m short_m) (decimal_digits n short_n) (stops_digits k stops_k) (stops_digits l stops_l) e in
      record { thing = one_decimal m n short_m short_n parts.run; rest = parts.rest };
  begins = λ n k b rest short stops e. digits_begin (decimal n) k b rest (decimal_nonempty n (omega arith)) (decimal_digits n short) stops e;
}

-- Whole texts.

-- the rows and the last line
end_text : List (List ℕ) → List (List ℕ) → List ℕ → List ℕ
end_text rows goals k = row_lines 114 rows (row_lines 103 goals (codes "end\n" ++ k))

rows_stop : (letter : ℕ) (rows goals : List (List ℕ)) (k : List ℕ) → (114 == letter) ≡ false → (103 == letter) ≡ false → (101 == letter) ≡ false → Stops (is_letter letter) (end_text rows goals k)
unfolding is_letter end_text
rows_stop letter [] [] k no_row no_goal no_end = no_end
rows_stop letter [] (g ∷ goals) k no_row no_goal no_end = no_goal
rows_stop letter (r ∷ rows) goals k no_row no_goal no_end = no_row

lines_stop : (P : Protocol) (cs : List (SpelledClause ℕ)) (rows goals : List (List ℕ)) (k : List ℕ) → Stops (is_letter 110) (clause_lines_over number_text P cs (end_text rows goals k))
unfolding is_letter
lines_stop P [] rows goals k = rows_stop 110 rows goals k refl refl refl
lines_stop P (c ∷ cs) rows goals k = refl

-- a certificate of rows alone
of_rows : List (List ℕ) → List (List ℕ) → Certificate
of_rows rows goals = record { clauses = []; rows = rows; goals = goals }

ends_apart : (P : Protocol) → HasNames P → (c d : NodeCertificate) (k l : List ℕ) → IsNodeCertificateOf P c → IsNodeCertificateOf P d → end_text c.rows c.goals k ≡ end_text d.rows d.goals l → Same (of_rows c.rows c.goals) (of_rows d.rows d.goals) k l
unfolding end_text of_rows
ends_apart P names c d k l is_c is_d e =
    certificate_apart P names (of_rows c.rows c.goals) (of_rows d.rows d.goals) k l
    (record { clauses = tt; rows = is_c.rows; goals = is_c.goals }) (record { clauses = tt; rows = is_d.rows; goals = is_d.goals })
    (ap (λ bytes. codes "cert 1\n" ++ bytes) e)

pub numbered_apart : (P : Protocol) → HasNames P → (c d : NodeCertificate) (k l : List ℕ) → IsNodeCertificateOf P c → IsNodeCertificateOf P d → numbered_text P c k ≡ numbered_text P d l → Same c d k l
unfolding end_text of_rows
numbered_apart P names c d k l is_c is_d e =
    let x = end_text c.rows c.goals k in
    let y = end_text d.rows d.goals l in
    let lines_c = clause_lines_over number_text P c.clauses x in
    let lines_d = clause_lines_over number_text P d.clauses y in
    let nodes = node_lines_apart P names c.nodes d.nodes lines_c lines_d is_c.nodes is_d.nodes (lines_stop P c.clauses c.rows c.goals k) (lines_stop P d.clauses d.rows d.goals l)
    (append_cancel_left (codes "cert 2\n") (node_lines P c.nodes lines_c) (node_lines P d.nodes lines_d) e) in
    let clauses = clause_lines_apart number_text IsShort numbers_tell P names c.clauses d.clauses x y is_c.clauses is_d.clauses (rows_stop 99 c.rows c.goals k refl refl refl) (rows_stop 99 d.rows d.goals l refl refl refl) nodes.rest in
    let ends = ends_apart P names c d k l is_c is_d clauses.rest in
    let same_nodes = nodes.thing in
    let same_clauses = clauses.thing in
    let same_rows : c.rows ≡ d.rows = ap (λ r. r.rows) ends.thing in
    let same_goals : c.goals ≡ d.goals = ap (λ r. r.goals) ends.thing in
    record { thing = λ i. record { nodes = same_nodes i; clauses = same_clauses i; rows = same_rows i; goals = same_goals i }; rest = ends.rest }

-- What is made of a protocol's certificate is of the protocol.

pub mapped_all : {X Y : Type 0} (Q : X → Type 0) (R : Y → Type 0) (f : X → Y) → ((x : X) → Q x → R (f x)) → (xs : List X) → AllByRecursion Q xs → AllByRecursion R (map f xs)
mapped_all Q R f gives [] all = tt
mapped_all Q R f gives (x ∷ xs) all = (gives x all.0, mapped_all Q R f gives xs all.1)

-- terms whose variables are below a number
module _ (most : ℕ) (P : Protocol) where
  items_are : (ts : Trees ℕ Sym) → AreTermsBelow most P ts → AllByRecursion (IsTermBelow most P) (items_of ts)
  items_are none are = tt
  items_are (more t ts) are = (are.0, items_are ts are.1)

  terms_are : (ts : List Term) → AreTermsBelow most P (trees ts) → AllByRecursion (IsTermBelow most P) ts
  terms_are ts are = subst (AllByRecursion (IsTermBelow most P)) (items_of-trees ts) (items_are (trees ts) are)

  arguments_are : (t : Term) → IsTermBelow most P t → AllByRecursion (IsTermBelow most P) (arguments_of t)
  arguments_are (Leaf x) is = tt
  arguments_are (Node f args) is = items_are args is.1

  subterm_is : {t u : Term} → IsSubterm t u → IsTermBelow most P u → IsTermBelow most P t
  subterm_is itself is = is
  subterm_is (of_argument {u = u} {v = v} has within) is = subterm_is within (all_has (IsTermBelow most P) (arguments_of v) u (arguments_are v is) has)

-- those of facts are among those of sides
mutual
  term_side : (P : Protocol) (t : Term) → IsTermOf P t → IsTermBelow most_side_variables P t
  term_side P (Leaf x) is = omega (arith, is)
  term_side P (Node f ts) is = (is.0, terms_side P ts is.1)

  terms_side : (P : Protocol) (ts : Trees ℕ Sym) → AreTermsOf P ts → AreSidesOf P ts
  terms_side P none are = tt
  terms_side P (more t ts) are = (term_side P t are.0, terms_side P ts are.1)

fact_terms_are : (P : Protocol) (f : Fact Term) → IsFactOf P f → AllByRecursion (IsTermBelow most_side_variables P) (terms_of f)
fact_terms_are P (Att k t) is = (term_side P t is.1, tt)
fact_terms_are P (Mess k t u) is = (term_side P t is.1, (term_side P u is.2, tt))
fact_terms_are P (Tab n ts) is = terms_are most_side_variables P ts (terms_side P (trees ts) is.1)
fact_terms_are P (Ev e ts) is = terms_are most_side_variables P ts (terms_side P (trees ts) is.1)
fact_terms_are P (Mev e ts) is = terms_are most_side_variables P ts (terms_side P (trees ts) is.1)
fact_terms_are P (Bad ts) is = terms_are most_side_variables P ts (terms_side P (trees ts) is)

lefts_are : (P : Protocol) (ds : List Diff) → AllByRecursion (IsDiffOf P) ds → AllByRecursion (λ s. AllByRecursion (IsTermBelow most_side_variables P) s.left) (map spelled_diff ds)
lefts_are P [] are = tt
lefts_are P (d ∷ ds) are = (terms_are most_side_variables P (spelled_diff d).left are.0.left, lefts_are P ds are.1)

rights_are : (P : Protocol) (ds : List Diff) → AllByRecursion (IsDiffOf P) ds → AllByRecursion (λ s. AllByRecursion (IsTermBelow most_side_variables P) s.right) (map spelled_diff ds)
rights_are P [] are = tt
rights_are P (d ∷ ds) are = (terms_are most_side_variables P (spelled_diff d).right are.0.right, rights_are P ds are.1)

clause_terms_are : (P : Protocol) (c : Clause Term) → IsClauseOf P c → AllByRecursion (IsTermBelow most_side_variables P) (spelled_terms (spelled_clause c))
clause_terms_are P c is = with_parts (IsTermBelow most_side_variables P) (spelled_clause c) record {
  hypotheses = all_weaker (IsFactOf P) (λ f. AllByRecursion (IsTermBelow most_side_variables P) (terms_of f)) (fact_terms_are P) c.hypotheses is.hypotheses;
  left = lefts_are P c.diffs is.diffs;
  right = rights_are P c.diffs is.diffs;
  conclusion = fact_terms_are P c.conclusion is.conclusion;
}

ordered_terms_are : (P : Protocol) (cs : List (Clause Term)) → AllByRecursion (IsClauseOf P) cs → AllByRecursion (IsTermBelow most_side_variables P) (terms_in_order cs)
ordered_terms_are P cs are =
    all-flat_map (IsTermBelow most_side_variables P) (λ c. spelled_terms (spelled_clause c)) cs
    (all_weaker (IsClauseOf P) (λ c. AllByRecursion (IsTermBelow most_side_variables P) (spelled_terms (spelled_clause c))) (clause_terms_are P) cs are)

table_term_is : (P : Protocol) (cs : List (Clause Term)) → AllByRecursion (IsClauseOf P) cs → (t : Term) → Has (table cs) t → IsTermBelow most_side_variables P t
table_term_is P cs are t h =
    let (u, has, within) = (table_has cs t).0 h in
    subterm_is most_side_variables P within (all_has (IsTermBelow most_side_variables P) (terms_in_order cs) u (ordered_terms_are P cs are) has)

deeper : {t u v : Term} → Has (arguments_of t) u → IsSubterm t v → IsSubterm u v
deeper argument itself = of_argument argument itself
deeper argument (of_argument has below) = of_argument has (deeper argument below)

pub argument_stands : (cs : List (Clause Term)) (t u : Term) → Has (table cs) t → Has (arguments_of t) u → Has (table cs) u
argument_stands cs t u h argument =
    let (v, has, within) = (table_has cs t).0 h in
    (table_has cs u).1 (v, has, deeper argument within)

module _ (P : Protocol) (cs : List (Clause Term)) (are : AllByRecursion (IsClauseOf P) cs) (few : IsShort (length (table cs))) where
  abbrev number : Term → ℕ
  number = number_in (table cs)

  number_short : (t : Term) → Has (table cs) t → IsShort (number t)
  number_short t h = let below = place_within (table cs) t h in omega arith

  numbers_short : (ts : List Term) → AllByRecursion (Has (table cs)) ts → AllByRecursion IsShort (map number ts)
  numbers_short ts stand = mapped_all (Has (table cs)) IsShort number number_short ts stand

  pub node_is : (t : Term) → Has (table cs) t → IsNodeOf P (node_of (table cs) t)
  node_is (Leaf x) h = table_term_is P cs are (Leaf x) h
  node_is (Node f args) h =
      let is = table_term_is P cs are (Node f args) h in
      let stand = all_weaker (Has (items_of args)) (Has (table cs)) (λ u argument. argument_stands cs (Node f args) u h argument) (items_of args) (all_there (items_of args)) in
      (subst (λ n. IsSymbolOf P f n) (sym (length-map (items_of args) number)) is.0, numbers_short (items_of args) stand)

  predicate_is : (f : Fact Term) → IsFactOf P f → HasPredicate P (map_fact number f)
  predicate_is (Att k t) is = is.0
  predicate_is (Mess k t u) is = is.0
  predicate_is (Tab n ts) is = subst (IsTable P n) (sym (length-map ts number)) is.0
  predicate_is (Ev e ts) is = subst (IsEvent P e) (sym (length-map ts number)) is.0
  predicate_is (Mev e ts) is = subst (IsEvent P e) (sym (length-map ts number)) is.0
  predicate_is (Bad ts) is = tt

  fact_is : (f : Fact Term) → IsFactOf P f → AllByRecursion (Has (table cs)) (terms_of f) → IsFactOver IsShort P (map_fact number f)
  fact_is f is stand = (predicate_is f is, subst (AllByRecursion IsShort) (sym (terms_of-map number f)) (numbers_short (terms_of f) stand))

  facts_are : (fs : List (Fact Term)) → AllByRecursion (IsFactOf P) fs → AllByRecursion (λ f. AllByRecursion (Has (table cs)) (terms_of f)) fs → AllByRecursion (IsFactOver IsShort P) (map (map_fact number) fs)
  facts_are [] is stand = tt
  facts_are (f ∷ fs) is stand = (fact_is f is.0 stand.0, facts_are fs is.1 stand.1)

  side_is : (d : Diff) → IsDiffOf P d → AllByRecursion (Has (table cs)) (spelled_diff d).left → AllByRecursion (Has (table cs)) (spelled_diff d).right → AreSidesOver IsShort (map_sides number (spelled_diff d))
  side_is d is left right = record {
    left = numbers_short (spelled_diff d).left left;
    right = numbers_short (spelled_diff d).right right;
    paired = omega (arith, length-map (spelled_diff d).left number, length-map (spelled_diff d).right number, length-map d.left side_term, length-map d.right side_term, is.paired);
    some = omega (arith, length-map (spelled_diff d).left number, length-map d.left side_term, is.some);
  }

  sides_are : (ds : List Diff) → AllByRecursion (IsDiffOf P) ds → AllByRecursion (λ s. AllByRecursion (Has (table cs)) s.left) (map spelled_diff ds) → AllByRecursion (λ s. AllByRecursion (Has (table cs)) s.right) (map spelled_diff ds)
      → AllByRecursion (AreSidesOver IsShort) (map (map_sides number) (map spelled_diff ds))
  sides_are [] is left right = tt
  sides_are (d ∷ ds) is left right = (side_is d is.0 left.0 right.0, sides_are ds is.1 left.1 right.1)

  pub clauses_are : (ds : List (Clause Term)) → AllByRecursion (IsClauseOf P) ds → AllByRecursion (λ c. AllByRecursion (Has (table cs)) (spelled_terms (spelled_clause c))) ds → AllByRecursion (IsClauseOver IsShort P) (map (λ c. map_spelled number (spelled_clause c)) ds)
  clauses_are [] is stand = tt
  clauses_are (d ∷ ds) is stand =
      let parts = of_parts (Has (table cs)) (spelled_clause d) stand.0 in (
        record {
          hypotheses = facts_are d.hypotheses is.0.hypotheses parts.hypotheses;
          diffs = sides_are d.diffs is.0.diffs parts.left parts.right;
          conclusion = fact_is d.conclusion is.0.conclusion parts.conclusion;
        },
        clauses_are ds is.1 stand.1,
      )

pub with_nodes_is : (P : Protocol) (c : Certificate) → IsCertificateOf P c → IsShort (length (table c.clauses)) → IsNodeCertificateOf P (with_nodes c)
with_nodes_is P c is few = record {
  nodes = mapped_all (Has (table c.clauses)) (IsNodeOf P) (node_of (table c.clauses)) (node_is P c.clauses is.clauses few) (table c.clauses) (all_there (table c.clauses));
  clauses = clauses_are P c.clauses is.clauses few c.clauses is.clauses (terms_stand c.clauses);
  rows = is.rows;
  goals = is.goals;
}

-- clauses of a protocol have short variables in their constraints
pub short_diffs : (P : Protocol) (cs : List (Clause Term)) → AllByRecursion (IsClauseOf P) cs → AllByRecursion HasShortDiffs cs
short_diffs P cs are = all_weaker (IsClauseOf P) HasShortDiffs (λ c is. all_weaker (IsDiffOf P) (λ d. AllByRecursion IsOwnShort (side_slots (sides d))) (λ d has. has.own) c.diffs is.diffs) cs are

-- two certificates with rests are one certificate and one rest, where the texts are one
pub certificates_apart : (P : Protocol) → HasNames P → (c d : Certificate) (k l : List ℕ) → IsCertificateOf P c → IsCertificateOf P d → IsShort (length (table c.clauses)) → IsShort (length (table d.clauses)) → text_with_nodes P c k ≡ text_with_nodes P d l → Same c d k l
certificates_apart P names c d k l is_c is_d few_c few_d e =
    let same = numbered_apart P names (with_nodes c) (with_nodes d) k l (with_nodes_is P c is_c few_c) (with_nodes_is P d is_d few_d) e in
    record { thing = sym (certificate_back c (short_diffs P c.clauses is_c.clauses)) ∙ (ap without_nodes same.thing ∙ certificate_back d (short_diffs P d.clauses is_d.clauses)); rest = same.rest }

-- the sixth byte tells the formats apart
pub formats_apart : (P Q : Protocol) (c : Certificate) (d : NodeCertificate) (k l : List ℕ) → certificate_text P c k ≡ numbered_text Q d l → ⊥
formats_apart P Q c d k l e = differ 49 50 _ _ refl (append_cancel_left (codes "cert ") _ _ e)

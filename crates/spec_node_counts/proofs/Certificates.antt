-- Certificates by numbers are read by counts as they are read by all terms.
use Rattle.std.proofs.Common.{◌≡◌, ℕ, zero, suc, ◌&&◌, not, nat_le, if◌then◌else◌, Bool, true, false, List, [], ◌∷◌, length, take, codes, refl, sym, ◌∙◌, ap, subst, arith}
use Rattle.std.specs.List.{AllByRecursion, list_any}
use Rattle.spec_trees.specs.Tree.{size}
use Rattle.spec_calculus.specs.Bounds.{most_symbols, most_clauses}
use Rattle.spec_calculus.specs.Syntax.{Protocol}
use Rattle.spec_terms.specs.Term.{Term}
use Rattle.spec_clauses.specs.Fact.{same_term, Clause}
use Rattle.spec_clauses.proofs.Equality.{same_term-decides}
use Rattle.spec_certificates.specs.Certificate.{Certificate}
use Rattle.spec_certificate_text.specs.Terms.{Arity, NodeOrder, NodeLarge}
use Rattle.spec_certificate_text.specs.Outcomes.{Outcome, Found, Faulty, next, front, read_fixed}
use Rattle.spec_certificate_text.specs.Certificates.{certificate_end}
use Rattle.spec_node_tables.specs.Nodes.{term_of}
use Rattle.spec_node_tables.specs.Large.{is_over}
use Rattle.spec_node_tables.specs.Order.{IsNumberOf}
use Rattle.spec_node_faults.specs.Clauses.{is_front, completed}
use Rattle.spec_node_starts.specs.Tables.{HaveStarts}
use Rattle.spec_node_starts.proofs.Growing.{no_starts, one_more as grown}
use Rattle.spec_node_starts.proofs.Order.{either, at_most, test_true, test_false}
use Rattle.spec_node_reading.specs.ReadNodes.{NodeRead, read_body, takes, node_read, judged_node, read_node_line, read_nodes}
use Rattle.spec_node_reading.specs.Nodes.{own_number}
use Rattle.spec_node_reading.specs.Walked as walks
use Rattle.spec_node_reading.specs.ReadClauses as kept
use Rattle.spec_node_reading.specs.Loops.{Behind, with}
use Rattle.spec_node_reading.specs.Reading.{ends_clauses, behind_clauses, behind_nodes, read_numbered}
use Rattle.spec_certificate_text.specs.Rounds.{puts}
use Rattle.spec_node_counts.specs.Nodes.{Table, no_nodes, with_node, judged, node_line, table_read}
use Rattle.spec_node_counts.specs.Counts as counts
use Rattle.spec_node_counts.specs.Counts.{Counted}
use Rattle.spec_node_counts.specs.ReadClauses as clauses
use Rattle.spec_node_counts.specs.ReadClauses.{is_unreached, all_reached, reached_clauses, clauses_read}
use Rattle.spec_certificate_text.proofs.Alike.{Alike, found, faulty, next_alike, same_alike, if_alike, within_alike}
use Rattle.spec_node_counts.proofs.Alike.{lines_alike}
use Rattle.spec_node_counts.proofs.Bounds.{HaveBounds, bounds_more}
use Rattle.spec_node_counts.proofs.Counting.{IsAlong, Along, along}
use Rattle.spec_node_counts.proofs.Lower.{body_is, node_numbers_are}
use Rattle.spec_node_counts.proofs.Simulated.{clause_alike}

so_alike : {X V W : Type 0} (Q : V → W → Type 0) (o : Outcome X) (f : X → ℕ → List ℕ → Outcome V) (g : X → ℕ → List ℕ → Outcome W)
    → ((x : X) (place : ℕ) (rest : List ℕ) → o ≡ Found x place rest → Alike Q (f x place rest) (g x place rest)) → Alike Q (next o f) (next o g)
so_alike Q (Found x place rest) f g more = more x place rest refl
so_alike Q (Faulty place code) f g more = faulty place code

if_so : {V W : Type 0} (Q : V → W → Type 0) (b : Bool) (o p : Outcome V) (q r : Outcome W) → (b ≡ true → Alike Q o q) → (b ≡ false → Alike Q p r) → Alike Q (if b then o else p) (if b then q else r)
if_so Q true o p q r first second = first refl
if_so Q false o p q r first second = second refl

-- Tables.

data Tabled : List Term → Table → Type 0 where
  tabled : (T : Table) → HaveStarts T.terms T.starts → HaveBounds T.terms T.bounds → Tabled T.terms T

judged_alike : (T : Table) (from : ℕ) (x : NodeRead) (place : ℕ) (rest : List ℕ) → HaveStarts T.terms T.starts → HaveBounds T.terms T.bounds → AllByRecursion (IsNumberOf (length T.terms)) x.numbers
    → Alike Tabled (judged_node T.terms from x place rest) (judged T from x place rest)
judged_alike T from x place rest starts bounds are =
    let n = node_read x.head x.numbers in
    let t = term_of T.terms n in
    if_alike Tabled (not (takes x.head (length x.numbers))) _ _ _ _ (faulty from Arity)
    (if_so Tabled (list_any (same_term t) T.terms) _ _ _ _ (λ e. faulty from NodeOrder) (λ new.
    if_alike Tabled (is_over most_symbols (size t)) _ _ _ _ (faulty from NodeLarge)
    (found _ _ place rest (tabled (with_node T n) (grown T.terms T.starts n starts (node_numbers_are (length T.terms) x.head x.numbers are) new) (bounds_more T.terms T.bounds bounds n)))))

line_alike : (P : Protocol) (terms : List Term) (T : Table) (bytes : List ℕ) (at : ℕ) → Tabled terms T → Alike Tabled (read_node_line P terms bytes at) (node_line P T bytes at)
line_alike P _ _ bytes at (tabled T starts bounds) =
    same_alike Tabled (read_fixed (codes "n ") bytes at) _ _ (λ _ from r.
    so_alike Tabled (read_body P (own_number T.terms) r from) _ _ (λ x p s read.
    next_alike Tabled Tabled (judged_node T.terms from x p s) (judged T from x p s) _ _ (judged_alike T from x p s starts bounds (body_is P (length T.terms) r from x p s read)) (λ terms U p r is.
    same_alike Tabled (read_fixed (codes "\n") r p) _ _ (λ _ p r. found _ _ p r is))))

nodes_alike : (P : Protocol) (bytes : List ℕ) (at : ℕ) → Alike Tabled (read_nodes P bytes at) (table_read P bytes at)
nodes_alike P bytes at =
    lines_alike Tabled 110 (read_node_line P) (node_line P) (λ terms T bytes at is. line_alike P terms T bytes at is) (length bytes) [] no_nodes bytes at (tabled no_nodes no_starts refl)

-- Certificates.

le_alike : (m n : ℕ) → nat_le (suc m) (suc n) ≡ nat_le m n
le_alike m n = either (at_most m n)
    (λ le. test_true (suc m) (suc n) (omega (arith, le)) ∙ sym (test_true m n le))
    (λ more. test_false (suc m) (suc n) (omega (arith, more)) ∙ sym (test_false m n more))

front_whole : (ts : List Term) (k : ℕ) → is_front ts (take k ts) ≡ nat_le (length ts) k
front_whole [] k = sym (test_true 0 k (omega arith))
front_whole (t ∷ ts) zero = sym (test_false (suc (length ts)) 0 (omega arith))
front_whole (t ∷ ts) (suc k) = ap (λ b. b && is_front ts (take k ts)) ((same_term-decides t t).1 refl) ∙ (front_whole ts k ∙ sym (le_alike (length ts) k))

unreached_alike : (T : Table) (w : walks.Walked) (v : Counted) → IsAlong T w v → not (is_front T.terms (completed w.seen)) ≡ is_unreached T v
unreached_alike T w v is = ap (λ zs. not (is_front T.terms zs)) is.complete ∙ ap not (front_whole T.terms v.reached)

abbrev Same : Certificate → Certificate → Type 0
Same c d = c ≡ d

same_outcome : (o p : Outcome Certificate) → Alike Same o p → o ≡ p
same_outcome _ _ (found c d place rest e) = ap (λ c. Found c place rest) e
same_outcome _ _ (faulty place code) = refl

reflexive : (o : Outcome Certificate) → Alike Same o o
reflexive (Found c place rest) = found c c place rest refl
reflexive (Faulty place code) = faulty place code

abbrev end_of : List (Clause Term) → ℕ → List ℕ → Outcome Certificate
end_of cs place rest = certificate_end cs rest place

end_alike : (T : Table) (before : Behind (List (Clause Term))) (counted : List (Clause Term) × Counted) (place : ℕ) (rest : List ℕ) → Along T before counted
    → Alike Same (behind_clauses T.terms before rest place) (next (all_reached T counted place rest) end_of)
end_alike T _ _ place rest (along cs w v is) = subst (λ b. Alike Same (if ends_clauses (front rest) && b then Faulty place NodeOrder else certificate_end cs rest place) (next (all_reached T (cs, v) place rest) end_of))
    (sym (unreached_alike T w v is)) (by (ends_clauses (front rest) && is_unreached T v))
  where
    by : (b : Bool) → Alike Same (if b then Faulty place NodeOrder else certificate_end cs rest place) (next (if b then Faulty place NodeOrder else Found cs place rest) end_of)
    by true = faulty place NodeOrder
    by false = reflexive (certificate_end cs rest place)

clauses_alike : (P : Protocol) (T : Table) (bytes : List ℕ) (at : ℕ) → HaveStarts T.terms T.starts → HaveBounds T.terms T.bounds → Alike Same (behind_nodes P T.terms bytes at) (next (reached_clauses P T bytes at) end_of)
clauses_alike P T bytes at starts bounds =
    let none : IsAlong T walks.nothing_yet counts.nothing_counted = record { complete = refl; few = omega arith; clause = omega arith; all = omega arith } in
    within_alike Same _ (clauses.read_clauses P T counts.nothing_counted bytes at) _ _
    (next_alike (Along T) Same _ _ _ _
    (lines_alike (Along T) 99 (kept.read_clause_line P T.terms) (puts (clauses.clause_line P T)) (λ before counted bytes at is. clause_alike P T starts bounds before counted bytes at is) most_clauses (with [] walks.nothing_yet) ([], counts.nothing_counted) bytes at
    (along [] walks.nothing_yet counts.nothing_counted none))
    (λ before counted place rest is. end_alike T before counted place rest is))

tables_then : (P : Protocol) (terms : List Term) (T : Table) (place : ℕ) (rest : List ℕ) → Tabled terms T → Alike Same (behind_nodes P terms rest place) (next (reached_clauses P T rest place) end_of)
tables_then P _ _ place rest (tabled T starts bounds) = clauses_alike P T rest place starts bounds

pub read_alike : (P : Protocol) (bytes : List ℕ) (at : ℕ) → read_numbered P bytes at ≡ next (clauses_read P bytes at) (λ cs place rest. certificate_end cs rest place)
read_alike P bytes at = same_outcome _ _
    (within_alike Same _ (read_fixed (codes "cert 2\n") bytes at) _ _
    (same_alike Same (read_fixed (codes "cert 2\n") bytes at) _ _ (λ _ p r.
    within_alike Same _ (table_read P r p) _ _
    (next_alike Tabled Same (read_nodes P r p) (table_read P r p) _ _ (nodes_alike P r p) (λ terms T place rest is. tables_then P terms T place rest is)))))

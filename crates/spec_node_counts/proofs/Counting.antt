-- A walk by counts goes along with the walk that keeps all terms.
use Rattle.std.proofs.Common.{◌≡◌, ℕ, zero, suc, ◌+◌, ◌≤◌, min, Bool, true, false, not, ◌||◌, ◌&&◌, ◌==◌, nat_le, if◌then◌else◌, List, [], ◌∷◌, ◌++◌, length, take, refl, sym, ◌∙◌, ap, subst, arith}
use Rattle.std.proofs.lemmas.Bool.Decides.{nat_tests}
use Rattle.spec_trees.specs.Tree.{size}
use Rattle.spec_calculus.specs.Bounds.{most_symbols}
use Rattle.spec_calculus.specs.Syntax.{Protocol}
use Rattle.spec_terms.specs.Term.{Term}
use Rattle.spec_certificate_text.specs.Sides.{holds_bound}
use Rattle.spec_certificate_text.specs.Terms.{Symbol, NodeOrder, NodeLarge}
use Rattle.spec_certificate_text.specs.Outcomes.{Outcome, Found, Faulty}
use Rattle.spec_node_tables.specs.Nodes.{term_at}
use Rattle.spec_node_tables.specs.Large.{is_over, most_certificate_symbols}
use Rattle.spec_node_faults.specs.Clauses.{is_front, completed, is_out_of_order}
use Rattle.spec_node_starts.specs.Starts.{start_at}
use Rattle.spec_node_starts.specs.Tables.{HaveStarts}
use Rattle.spec_node_starts.proofs.Order.{either, at_most, test_true, test_false, front_where, completed_on}
use Rattle.spec_node_reading.specs.Walked as walks
use Rattle.spec_node_reading.specs.Loops.{Behind, with}
use Rattle.spec_node_reading.specs.ReadClauses.{judged_number}
use Rattle.spec_node_counts.specs.Nodes.{Table}
use Rattle.spec_node_counts.specs.Counts.{Counted, counted, with_symbols, at_clause, is_next, counted_through, is_large, term_of_number}
use Rattle.spec_node_counts.proofs.Bounds.{HaveBounds, bound_is}
use Rattle.spec_certificate_text.proofs.Alike.{Alike, found, faulty, if_alike, both}

-- the counts of the walk: so many nodes of the table are complete, and there are so many symbols, as far as they are counted
pub record IsAlong (T : Table) (w : walks.Walked) (v : Counted) : Type 0 where
  pub complete : completed w.seen ≡ take v.reached T.terms
  pub few : v.reached ≤ length T.terms
  pub clause : v.clause ≡ min w.clause (most_symbols + 1)
  pub all : v.all ≡ min w.all (most_certificate_symbols + 1)

-- something that was read, the walks behind it being alike
pub data Along {A : Type 0} (T : Table) : Behind A → A × Counted → Type 0 where
  along : (x : A) → (w : walks.Walked) → (v : Counted) → IsAlong T w v → Along T (with x w) (x, v)

counted_alike : (most n k : ℕ) → counted most (min n (most + 1)) k ≡ min (n + k) (most + 1)
counted_alike most n k = omega arith

over_alike : (most n k : ℕ) → is_over most (n + k) ≡ is_over most (counted most (min n (most + 1)) k)
over_alike most n k = either (at_most (n + k) most)
    (λ le. ap not (test_true (n + k) most le ∙ sym (test_true (counted most (min n (most + 1)) k) most (omega (arith, le, counted_alike most n k)))))
    (λ more. ap not (test_false (n + k) most more ∙ sym (test_false (counted most (min n (most + 1)) k) most (omega (arith, more, counted_alike most n k)))))

pub symbols_along : (T : Table) (w : walks.Walked) (v : Counted) (k : ℕ) → IsAlong T w v → IsAlong T (walks.with_signs k w) (with_symbols k v)
symbols_along T w v k is = record {
  complete = is.complete;
  few = is.few;
  clause = ap (λ n. counted most_symbols n k) is.clause ∙ counted_alike most_symbols w.clause k;
  all = ap (λ n. counted most_certificate_symbols n k) is.all ∙ counted_alike most_certificate_symbols w.all k;
}

pub clause_along : (T : Table) (w : walks.Walked) (v : Counted) → IsAlong T w v → IsAlong T (walks.next_clause w) (at_clause v)
clause_along T w v is = record { complete = is.complete; few = is.few; clause = omega arith; all = is.all }

never_zero : (m : ℕ) → (suc m == 0) ≡ false
never_zero m = grind (arith, nat_tests)

abbrev out_by : Table → walks.Walked → ℕ → Bool → Bool
out_by T w n is_zero = is_zero || not (nat_le n (length T.terms)) || not (is_front (completed (w.seen ++ term_at T.terms n ∷ [])) T.terms)

abbrev next_by : Table → Counted → ℕ → Bool → Bool
next_by T v n is_zero = not is_zero && (nat_le n (length T.terms) && (nat_le n v.reached || nat_le (start_at T.starts n) v.reached))

-- a number is out of order for the one walk where it is for the other
order_alike : (T : Table) (w : walks.Walked) (v : Counted) (n : ℕ) → HaveStarts T.terms T.starts → IsAlong T w v → is_out_of_order T.terms w.seen n ≡ not (is_next T v n)
order_alike T w v zero starts is = refl
order_alike T w v (suc m) starts is = ap (out_by T w (suc m)) (never_zero m) ∙ (either (at_most (suc m) (length T.terms))
    (λ le.
    ap (λ b. not b || not (is_front (completed (w.seen ++ term_at T.terms (suc m) ∷ [])) T.terms)) (test_true (suc m) (length T.terms) le)
    ∙ (ap not (front_where T.terms T.starts starts w.seen v.reached (suc m) is.complete is.few (omega arith) le)
    ∙ ap (λ b. not (b && (nat_le (suc m) v.reached || nat_le (start_at T.starts (suc m)) v.reached))) (sym (test_true (suc m) (length T.terms) le))))
    (λ past.
    ap (λ b. not b || not (is_front (completed (w.seen ++ term_at T.terms (suc m) ∷ [])) T.terms)) (test_false (suc m) (length T.terms) past)
    ∙ ap (λ b. not (b && (nat_le (suc m) v.reached || nat_le (start_at T.starts (suc m)) v.reached))) (sym (test_false (suc m) (length T.terms) past)))
    ∙ sym (ap (λ b. not (next_by T v (suc m) b)) (never_zero m)))

both_true : (a b : Bool) → (a && b) ≡ true → (a ≡ true) × (b ≡ true)
both_true true b e = (refl, e)
both_true false b e = absurd (cc)

next_number : (T : Table) (v : Counted) (n : ℕ) → is_next T v n ≡ true → (1 ≤ n) × (n ≤ length T.terms) × ((nat_le n v.reached || nat_le (start_at T.starts n) v.reached) ≡ true)
next_number T v zero e = absurd (cc)
next_number T v (suc m) e =
    let later = sym (ap (next_by T v (suc m)) (never_zero m)) ∙ e in
    let parts = both_true (nat_le (suc m) (length T.terms)) (nat_le (suc m) v.reached || nat_le (start_at T.starts (suc m)) v.reached) later in
    let first = parts.0 in
    (omega arith, (let le : suc m ≤ length T.terms = grind (arith, nat_tests) in le), parts.1)

through_along : (T : Table) (w : walks.Walked) (v : Counted) (n : ℕ) → HaveStarts T.terms T.starts → IsAlong T w v → is_next T v n ≡ true
    → IsAlong T (walks.with_term (term_at T.terms n) w) (counted_through n (size (term_at T.terms n)) v)
through_along T w v n starts is e =
    let number = next_number T v n e in
    record {
      complete = completed_on T.terms T.starts starts w.seen v.reached n is.complete is.few number.0 number.1 number.2;
      few = by (nat_le n v.reached) number.1;
      clause = ap (λ k. counted most_symbols k (size (term_at T.terms n))) is.clause ∙ counted_alike most_symbols w.clause (size (term_at T.terms n));
      all = ap (λ k. counted most_certificate_symbols k (size (term_at T.terms n))) is.all ∙ counted_alike most_certificate_symbols w.all (size (term_at T.terms n));
    }
  where
    by : (b : Bool) → n ≤ length T.terms → (if b then v.reached else n) ≤ length T.terms
    by true le = is.few
    by false le = le

large_alike : (T : Table) (w : walks.Walked) (v : Counted) (n k : ℕ) → IsAlong T w v
    → (is_over most_symbols (w.clause + k) || is_over most_certificate_symbols (w.all + k)) ≡ is_large (counted_through n k v)
large_alike T w v n k is =
    ap (λ b. b || is_over most_certificate_symbols (w.all + k)) (over_alike most_symbols w.clause k ∙ ap (λ m. is_over most_symbols (counted most_symbols m k)) (sym is.clause))
    ∙ ap (λ b. is_over most_symbols (counted most_symbols v.clause k) || b) (over_alike most_certificate_symbols w.all k ∙ ap (λ m. is_over most_certificate_symbols (counted most_certificate_symbols m k)) (sym is.all))

abbrev judged_by : Term → walks.Walked → ℕ → ℕ → List ℕ → (out over : Bool) → Outcome (Behind Term)
judged_by t w from place rest out over = if out then Faulty from NodeOrder else (if over then Faulty from NodeLarge else Found (with t (walks.with_term t w)) place rest)

abbrev counted_by : Term → ℕ → Counted → ℕ → ℕ → List ℕ → Bool → Outcome (Term × Counted)
counted_by t n v from place rest over = if over then Faulty from NodeLarge else Found (t, counted_through n (size t) v) place rest

abbrev is_over_by : Term → ℕ → Counted → Bool
is_over_by t n v = is_large (counted_through n (size t) v)

fits_alike : (T : Table) (w : walks.Walked) (v : Counted) (from n place : ℕ) (rest : List ℕ) → HaveStarts T.terms T.starts → IsAlong T w v → is_next T v n ≡ true → (b : Bool)
    → Alike (Along {A = Term} T) (judged_by (term_at T.terms n) w from place rest false b) (counted_by (term_at T.terms n) n v from place rest b)
fits_alike T w v from n place rest starts is next true = faulty from NodeLarge
fits_alike T w v from n place rest starts is next false =
    found _ _ place rest (along (term_at T.terms n) (walks.with_term (term_at T.terms n) w) (counted_through n (size (term_at T.terms n)) v) (through_along T w v n starts is next))

-- by the walk that keeps all terms, and by counts
abbrev ordered : Table → walks.Walked → ℕ → ℕ → ℕ → List ℕ → Outcome (Behind Term)
ordered T w from n place rest =
    judged_by (term_at T.terms n) w from place rest (is_out_of_order T.terms w.seen n) (is_over most_symbols (w.clause + size (term_at T.terms n)) || is_over most_certificate_symbols (w.all + size (term_at T.terms n)))

abbrev ordered_by : Table → Counted → ℕ → ℕ → ℕ → List ℕ → Outcome (Term × Counted)
ordered_by T v from n place rest = if is_next T v n then counted_by (term_at T.terms n) n v from place rest (is_over_by (term_at T.terms n) n v) else Faulty from NodeOrder

ordered_is : (T : Table) (w : walks.Walked) (v : Counted) (from n place : ℕ) (rest : List ℕ) → HaveStarts T.terms T.starts → IsAlong T w v
    → ordered T w from n place rest ≡ judged_by (term_at T.terms n) w from place rest (not (is_next T v n)) (is_over_by (term_at T.terms n) n v)
ordered_is T w v from n place rest starts is =
    ap (λ b. judged_by (term_at T.terms n) w from place rest b (is_over most_symbols (w.clause + size (term_at T.terms n)) || is_over most_certificate_symbols (w.all + size (term_at T.terms n)))) (order_alike T w v n starts is)
    ∙ ap (judged_by (term_at T.terms n) w from place rest (not (is_next T v n))) (large_alike T w v n (size (term_at T.terms n)) is)

ordered_alike : (T : Table) (w : walks.Walked) (v : Counted) (from n place : ℕ) (rest : List ℕ) → HaveStarts T.terms T.starts → IsAlong T w v
    → Alike (Along {A = Term} T) (ordered T w from n place rest) (ordered_by T v from n place rest)
ordered_alike T w v from n place rest starts is = by (is_next T v n) refl
  where
    by : (b : Bool) → is_next T v n ≡ b → Alike (Along {A = Term} T) (ordered T w from n place rest) (ordered_by T v from n place rest)
    by true e = both (Along {A = Term} T) _ _ _ _ (ordered_is T w v from n place rest starts is ∙ ap (λ b. judged_by (term_at T.terms n) w from place rest (not b) (is_over_by (term_at T.terms n) n v)) e)
        (ap (λ b. if b then counted_by (term_at T.terms n) n v from place rest (is_over_by (term_at T.terms n) n v) else Faulty from NodeOrder) e)
        (fits_alike T w v from n place rest starts is e (is_over_by (term_at T.terms n) n v))
    by false e = both (Along {A = Term} T) _ _ _ _ (ordered_is T w v from n place rest starts is ∙ ap (λ b. judged_by (term_at T.terms n) w from place rest (not b) (is_over_by (term_at T.terms n) n v)) e)
        (ap (λ b. if b then counted_by (term_at T.terms n) n v from place rest (is_over_by (term_at T.terms n) n v) else Faulty from NodeOrder) e) (faulty from NodeOrder)

pub number_alike : (binds : Bool) (P : Protocol) (T : Table) (w : walks.Walked) (v : Counted) (from n place : ℕ) (rest : List ℕ) → HaveStarts T.terms T.starts → HaveBounds T.terms T.bounds → IsAlong T w v
    → Alike (Along {A = Term} T) (judged_number P T.terms binds w from n place rest) (term_of_number binds T v from n place rest)
number_alike binds P T w v from n place rest starts bounds is =
    subst (λ b. Alike (Along {A = Term} T) (judged_number P T.terms binds w from n place rest) (if not binds && b then Faulty from Symbol else ordered_by T v from n place rest)) (sym (bound_is T.terms T.bounds bounds n))
    (if_alike (Along {A = Term} T) (not binds && holds_bound (term_at T.terms n)) _ _ _ _ (faulty from Symbol) (ordered_alike T w v from n place rest starts is))

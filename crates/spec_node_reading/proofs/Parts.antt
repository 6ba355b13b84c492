-- The parts of clauses by numbers, and how the walk goes through their numbers.
use Rattle.std.proofs.Common.{◌≡◌, ℕ, ◌+◌, ◌≤◌, Bool, true, false, List, [], ◌∷◌, ◌++◌, map, refl, sym, ◌∙◌, ap, subst, arith, append_assoc}
use Rattle.std.specs.Prelude.{flat_map}
use Rattle.std.specs.List.{AllByRecursion}
use Rattle.std.proofs.lemmas.List.{append-nil, map-append}
use Rattle.std.proofs.lemmas.Grind.{flat_map-append}
use Rattle.spec_trees.specs.Tree.{size}
use Rattle.spec_calculus.specs.Bounds.{most_symbols}
use Rattle.spec_terms.specs.Term.{Term}
use Rattle.spec_clauses.specs.Fact.{Fact, Att, Mess, Tab, Ev, Mev, Bad, Clause, terms_of, map_fact, total}
use Rattle.spec_clauses.proofs.Lists.{all_append, all_first, all_second}
use Rattle.spec_certificate_text.specs.Sides.{SidesOf, SpelledClause, sides_in_order, meant_diff, meant_clause, map_sides, map_spelled, holds_bound}
use Rattle.spec_certificate_text.specs.OfProtocol.{IsShort}
use Rattle.spec_certificate_text.proofs.Sides.{diff_spelled}
use Rattle.spec_node_tables.specs.Table.{spelled_terms}
use Rattle.spec_node_tables.specs.Nodes.{term_at}
use Rattle.spec_node_tables.specs.Large.{most_certificate_symbols, up_to_terms, Piece, fact_piece, diff_piece, pieces, piece_size, up_to_piece, up_to_pieces, AreUpTo}
use Rattle.spec_node_tables.proofs.Sizes.{total-append}
use Rattle.spec_node_faults.specs.Clauses.{is_out_of_order}
use Rattle.spec_node_faults.proofs.Items.{AreOwn}
use Rattle.spec_node_faults.proofs.Orders.{InOrder}
use Rattle.spec_node_reading.specs.Walked.{Walked, with_signs, with_term, MayFollowAll}

-- a part of a clause: whether it is a constraint, how many symbols stand before its numbers, and these
pub record Part : Type 0 where
  pub binds : Bool
  pub signs : ℕ
  pub numbers : List ℕ

-- symbols that stand before the terms of a fact
abbrev pub signs : {X : Type 0} → Fact X → ℕ
signs (Att phase t) = 1
signs (Mess phase t u) = 1
signs (Tab n ts) = 2
signs (Ev e ts) = 2
signs (Mev e ts) = 2
signs (Bad ts) = 1

abbrev pub fact_part : Fact ℕ → Part
fact_part g = record { binds = false; signs = signs g; numbers = terms_of g }

abbrev pub diff_part : SidesOf ℕ → Part
diff_part s = record { binds = true; signs = 1; numbers = sides_in_order s }

-- as they are written
abbrev pub clause_parts : SpelledClause ℕ → List Part
clause_parts c = map fact_part c.hypotheses ++ (map diff_part c.diffs ++ (fact_part c.conclusion ∷ []))

abbrev pub part_numbers : Part → List ℕ
part_numbers p = p.numbers

abbrev pub numbers_of : List Part → List ℕ
numbers_of ps = flat_map part_numbers ps

facts_numbers : (fs : List (Fact ℕ)) → numbers_of (map fact_part fs) ≡ flat_map terms_of fs
facts_numbers [] = refl
facts_numbers (f ∷ fs) = ap (λ ns. terms_of f ++ ns) (facts_numbers fs)

diffs_numbers : (ds : List (SidesOf ℕ)) → numbers_of (map diff_part ds) ≡ flat_map sides_in_order ds
diffs_numbers [] = refl
diffs_numbers (d ∷ ds) = ap (λ ns. sides_in_order d ++ ns) (diffs_numbers ds)

parts_numbers : (c : SpelledClause ℕ) → numbers_of (clause_parts c) ≡ spelled_terms c
parts_numbers c =
    let end = terms_of c.conclusion in
    let behind : numbers_of (map diff_part c.diffs ++ (fact_part c.conclusion ∷ [])) ≡ flat_map sides_in_order c.diffs ++ end =
    flat_map-append part_numbers (map diff_part c.diffs) (fact_part c.conclusion ∷ []) ∙ (ap (λ ns. ns ++ (end ++ [])) (diffs_numbers c.diffs) ∙ ap (λ ns. flat_map sides_in_order c.diffs ++ ns) (append-nil end)) in
    flat_map-append part_numbers (map fact_part c.hypotheses) (map diff_part c.diffs ++ (fact_part c.conclusion ∷ []))
    ∙ (ap (λ ns. ns ++ numbers_of (map diff_part c.diffs ++ (fact_part c.conclusion ∷ []))) (facts_numbers c.hypotheses) ∙ ap (λ ns. flat_map terms_of c.hypotheses ++ ns) behind)

pub all_numbers : (cs : List (SpelledClause ℕ)) → numbers_of (flat_map clause_parts cs) ≡ flat_map spelled_terms cs
all_numbers [] = refl
all_numbers (c ∷ cs) =
    flat_map-append part_numbers (clause_parts c) (flat_map clause_parts cs)
    ∙ (ap (λ ns. ns ++ numbers_of (flat_map clause_parts cs)) (parts_numbers c) ∙ ap (λ ns. spelled_terms c ++ ns) (all_numbers cs))

module _ (table : List Term) where
  abbrev pub terms_at : List ℕ → List Term
  terms_at ns = map (term_at table) ns

  abbrev pub piece_at : Part → Piece
  piece_at p = record { signs = p.signs; terms = terms_at p.numbers }

  abbrev pub clause_meant : SpelledClause ℕ → Clause Term
  clause_meant c = meant_clause (map_spelled (term_at table) c)

  fact_piece-is : (g : Fact ℕ) → piece_at (fact_part g) ≡ fact_piece (map_fact (term_at table) g)
  fact_piece-is (Att phase n) = refl
  fact_piece-is (Mess phase m n) = refl
  fact_piece-is (Tab n ns) = refl
  fact_piece-is (Ev e ns) = refl
  fact_piece-is (Mev e ns) = refl
  fact_piece-is (Bad ns) = refl

  diff_piece-is : (s : SidesOf ℕ) → piece_at (diff_part s) ≡ diff_piece (meant_diff (map_sides (term_at table) s))
  diff_piece-is s =
      let made : List Term → Piece = λ ts. record { signs = 1; terms = ts } in
      ap made (map-append (term_at table) s.left s.right ∙ ap sides_in_order (sym (diff_spelled (map_sides (term_at table) s))))

  facts_pieces : (fs : List (Fact ℕ)) → map piece_at (map fact_part fs) ≡ map fact_piece (map (map_fact (term_at table)) fs)
  facts_pieces [] = refl
  facts_pieces (f ∷ fs) = let one = fact_piece-is f in let later = facts_pieces fs in λ i. one i ∷ later i

  diffs_pieces : (ds : List (SidesOf ℕ)) → map piece_at (map diff_part ds) ≡ map diff_piece (map meant_diff (map (map_sides (term_at table)) ds))
  diffs_pieces [] = refl
  diffs_pieces (d ∷ ds) = let one = diff_piece-is d in let later = diffs_pieces ds in λ i. one i ∷ later i

  pub pieces_are : (c : SpelledClause ℕ) → map piece_at (clause_parts c) ≡ pieces (clause_meant c)
  pieces_are c =
      let hs = facts_pieces c.hypotheses in
      let ds = diffs_pieces c.diffs in
      let f = fact_piece-is c.conclusion in
      let behind : map piece_at (map diff_part c.diffs ++ (fact_part c.conclusion ∷ [])) ≡ map diff_piece (clause_meant c).diffs ++ (fact_piece (clause_meant c).conclusion ∷ []) =
      map-append piece_at (map diff_part c.diffs) (fact_part c.conclusion ∷ []) ∙ (λ i. ds i ++ (f i ∷ [])) in
      map-append piece_at (map fact_part c.hypotheses) (map diff_part c.diffs ++ (fact_part c.conclusion ∷ [])) ∙ (λ i. hs i ++ behind i)

  -- The walk behind numbers, and behind parts.

  abbrev pub past_all : Walked → List ℕ → Walked
  past_all w [] = w
  past_all w (n ∷ ns) = past_all (with_term (term_at table n) w) ns

  abbrev pub past_part : Walked → Part → Walked
  past_part w p = past_all (with_signs p.signs w) p.numbers

  abbrev pub past_parts : Walked → List Part → Walked
  past_parts w [] = w
  past_parts w (p ∷ ps) = past_parts (past_part w p) ps

  pub all_past : (w : Walked) (ms ns : List ℕ) → past_all w (ms ++ ns) ≡ past_all (past_all w ms) ns
  all_past w [] ns = refl
  all_past w (m ∷ ms) ns = all_past (with_term (term_at table m) w) ms ns

  pub parts_past : (w : Walked) (ps qs : List Part) → past_parts w (ps ++ qs) ≡ past_parts (past_parts w ps) qs
  parts_past w [] qs = refl
  parts_past w (p ∷ ps) qs = parts_past (past_part w p) ps qs

  all_seen : (w : Walked) (ns : List ℕ) → (past_all w ns).seen ≡ w.seen ++ terms_at ns
  all_seen w [] = sym (append-nil w.seen)
  all_seen w (n ∷ ns) = all_seen (with_term (term_at table n) w) ns ∙ append_assoc w.seen (term_at table n ∷ []) (terms_at ns)

  all_clause : (w : Walked) (ns : List ℕ) → (past_all w ns).clause ≡ w.clause + total size (terms_at ns)
  all_clause w [] = omega arith
  all_clause w (n ∷ ns) = let more = all_clause (with_term (term_at table n) w) ns in omega (arith, more)

  all_symbols : (w : Walked) (ns : List ℕ) → (past_all w ns).all ≡ w.all + total size (terms_at ns)
  all_symbols w [] = omega arith
  all_symbols w (n ∷ ns) = let more = all_symbols (with_term (term_at table n) w) ns in omega (arith, more)

  part_seen : (w : Walked) (p : Part) → (past_part w p).seen ≡ w.seen ++ terms_at p.numbers
  part_seen w p = all_seen (with_signs p.signs w) p.numbers

  part_clause : (w : Walked) (p : Part) → (past_part w p).clause ≡ w.clause + piece_size (piece_at p)
  part_clause w p = let sum = all_clause (with_signs p.signs w) p.numbers in omega (arith, sum)

  part_symbols : (w : Walked) (p : Part) → (past_part w p).all ≡ w.all + piece_size (piece_at p)
  part_symbols w p = let sum = all_symbols (with_signs p.signs w) p.numbers in omega (arith, sum)

  pub parts_seen : (w : Walked) (ps : List Part) → (past_parts w ps).seen ≡ w.seen ++ terms_at (numbers_of ps)
  parts_seen w [] = sym (append-nil w.seen)
  parts_seen w (p ∷ ps) =
      parts_seen (past_part w p) ps
      ∙ (ap (λ us. us ++ terms_at (numbers_of ps)) (part_seen w p)
      ∙ (append_assoc w.seen (terms_at p.numbers) (terms_at (numbers_of ps)) ∙ ap (λ us. w.seen ++ us) (sym (map-append (term_at table) p.numbers (numbers_of ps)))))

  pub parts_symbols : (w : Walked) (ps : List Part) → (past_parts w ps).all ≡ w.all + total piece_size (map piece_at ps)
  parts_symbols w [] = omega arith
  parts_symbols w (p ∷ ps) = let more = parts_symbols (past_part w p) ps in let one = part_symbols w p in omega (arith, more, one)

  -- The walk may go through numbers, and through parts.

  abbrev pub PartGoes : Walked → Part → Type 0
  PartGoes w p = MayFollowAll p.binds table (with_signs p.signs w) p.numbers

  abbrev pub PartsGo : Walked → List Part → Type 0
  PartsGo w [] = Unit {0}
  PartsGo w (p ∷ ps) = PartGoes w p × PartsGo (past_part w p) ps

  -- the numbers are within the limit of digits, and outside of constraints no bound variable stands in their terms
  pub record IsFit (p : Part) : Type 0 where
    pub short : AllByRecursion IsShort p.numbers
    pub own : p.binds ≡ false → AreOwn table p.numbers

  pub order_first : (ts : List Term) (ms ns : List ℕ) → InOrder table ts (ms ++ ns) → InOrder table ts ms
  order_first ts [] ns order = tt
  order_first ts (m ∷ ms) ns order = (order.0, order_first (ts ++ (term_at table m ∷ [])) ms ns order.1)

  pub order_second : (ts : List Term) (ms ns : List ℕ) → InOrder table ts (ms ++ ns) → InOrder table (ts ++ terms_at ms) ns
  order_second ts [] ns order = subst (λ us. InOrder table us ns) (sym (append-nil ts)) order
  order_second ts (m ∷ ms) ns order = subst (λ us. InOrder table us ns) (append_assoc ts (term_at table m ∷ []) (terms_at ms)) (order_second (ts ++ (term_at table m ∷ [])) ms ns order.1)

  pub numbers_go : (binds : Bool) (w : Walked) (ns : List ℕ) → AllByRecursion IsShort ns → (binds ≡ false → AreOwn table ns) → InOrder table w.seen ns → AreUpTo most_symbols (up_to_terms w.clause (terms_at ns)) → AreUpTo most_certificate_symbols (up_to_terms w.all (terms_at ns)) → MayFollowAll binds table w ns
  numbers_go binds w [] short own order small together = tt
  numbers_go binds w (n ∷ ns) short own order small together =
      (short.0, record { own = λ outside. (own outside).0; in_order = order.0; clause = small.0; all = together.0 }, numbers_go binds (with_term (term_at table n) w) ns short.1 (λ outside. (own outside).1) order.1 small.1 together.1)

  pub parts_go : (w : Walked) (ps : List Part) → AllByRecursion IsFit ps → InOrder table w.seen (numbers_of ps) → AreUpTo most_symbols (up_to_pieces w.clause (map piece_at ps)) → AreUpTo most_certificate_symbols (up_to_pieces w.all (map piece_at ps)) → PartsGo w ps
  parts_go w [] fit order small together = tt
  parts_go w (p ∷ ps) fit order small together =
      let v = past_part w p in
      let first = up_to_piece w.clause (piece_at p) in
      let later = up_to_pieces (w.clause + piece_size (piece_at p)) (map piece_at ps) in
      let first_all = up_to_piece w.all (piece_at p) in
      let later_all = up_to_pieces (w.all + piece_size (piece_at p)) (map piece_at ps) in (
        numbers_go p.binds (with_signs p.signs w) p.numbers fit.0.short fit.0.own (order_first w.seen p.numbers (numbers_of ps) order) (all_first (λ n. n ≤ most_symbols) first later small) (all_first (λ n. n ≤ most_certificate_symbols) first_all later_all together),
        parts_go v ps fit.1
            (subst (λ us. InOrder table us (numbers_of ps)) (sym (part_seen w p)) (order_second w.seen p.numbers (numbers_of ps) order))
            (subst (λ n. AreUpTo most_symbols (up_to_pieces n (map piece_at ps))) (sym (part_clause w p)) (all_second (λ n. n ≤ most_symbols) first later small))
            (subst (λ n. AreUpTo most_certificate_symbols (up_to_pieces n (map piece_at ps))) (sym (part_symbols w p)) (all_second (λ n. n ≤ most_certificate_symbols) first_all later_all together)),
      )

  pub go_first : (w : Walked) (ps qs : List Part) → PartsGo w (ps ++ qs) → PartsGo w ps
  go_first w [] qs go = tt
  go_first w (p ∷ ps) qs go = (go.0, go_first (past_part w p) ps qs go.1)

  pub go_second : (w : Walked) (ps qs : List Part) → PartsGo w (ps ++ qs) → PartsGo (past_parts w ps) qs
  go_second w [] qs go = go
  go_second w (p ∷ ps) qs go = go_second (past_part w p) ps qs go.1

  -- The walk has gone through numbers, and through parts.

  pub record Through (binds : Bool) (w : Walked) (ns : List ℕ) (v : Walked) : Type 0 where
    pub own : binds ≡ false → AreOwn table ns
    pub order : InOrder table w.seen ns
    pub seen : v.seen ≡ w.seen ++ terms_at ns
    pub small : AreUpTo most_symbols (up_to_terms w.clause (terms_at ns))
    pub together : AreUpTo most_certificate_symbols (up_to_terms w.all (terms_at ns))
    pub clause : v.clause ≡ w.clause + total size (terms_at ns)
    pub all : v.all ≡ w.all + total size (terms_at ns)

  pub through_none : (binds : Bool) (w : Walked) → Through binds w [] w
  through_none binds w = record { own = λ outside. tt; order = tt; seen = sym (append-nil w.seen); small = tt; together = tt; clause = omega arith; all = omega arith }

  pub through_more : (binds : Bool) (w v : Walked) (n : ℕ) (ns : List ℕ) → (binds ≡ false → holds_bound (term_at table n) ≡ false) → is_out_of_order table w.seen n ≡ false → w.clause + size (term_at table n) ≤ most_symbols → w.all + size (term_at table n) ≤ most_certificate_symbols
      → Through binds (with_term (term_at table n) w) ns v → Through binds w (n ∷ ns) v
  through_more binds w v n ns own order small together later =
      let clause_is = later.clause in
      let all_is = later.all in
      record {
        own = λ outside. (own outside, later.own outside);
        order = (order, later.order);
        seen = later.seen ∙ append_assoc w.seen (term_at table n ∷ []) (terms_at ns);
        small = (small, later.small);
        together = (together, later.together);
        clause = omega (arith, clause_is);
        all = omega (arith, all_is);
      }

  pub order_append : (ts : List Term) (ms ns : List ℕ) → InOrder table ts ms → InOrder table (ts ++ terms_at ms) ns → InOrder table ts (ms ++ ns)
  order_append ts [] ns first later = subst (λ us. InOrder table us ns) (append-nil ts) later
  order_append ts (m ∷ ms) ns first later =
      (first.0, order_append (ts ++ (term_at table m ∷ [])) ms ns first.1 (subst (λ us. InOrder table us ns) (sym (append_assoc ts (term_at table m ∷ []) (terms_at ms))) later))

  pub record Gone (w : Walked) (ps : List Part) (v : Walked) : Type 0 where
    pub order : InOrder table w.seen (numbers_of ps)
    pub seen : v.seen ≡ w.seen ++ terms_at (numbers_of ps)
    pub small : AreUpTo most_symbols (up_to_pieces w.clause (map piece_at ps))
    pub together : AreUpTo most_certificate_symbols (up_to_pieces w.all (map piece_at ps))
    pub clause : v.clause ≡ w.clause + total piece_size (map piece_at ps)
    pub all : v.all ≡ w.all + total piece_size (map piece_at ps)

  pub gone_none : (w : Walked) → Gone w [] w
  gone_none w = record { order = tt; seen = sym (append-nil w.seen); small = tt; together = tt; clause = omega arith; all = omega arith }

  pub gone_part : (p : Part) (w v : Walked) → Through p.binds (with_signs p.signs w) p.numbers v → Gone w (p ∷ []) v
  gone_part p w v through =
      let clause_is = through.clause in
      let all_is = through.all in
      let alone : p.numbers ++ [] ≡ p.numbers = append-nil p.numbers in
      record {
        order = subst (InOrder table w.seen) (sym alone) through.order;
        seen = through.seen ∙ ap (λ ns. w.seen ++ terms_at ns) (sym alone);
        small = subst (AreUpTo most_symbols) (sym (append-nil (up_to_piece w.clause (piece_at p)))) through.small;
        together = subst (AreUpTo most_certificate_symbols) (sym (append-nil (up_to_piece w.all (piece_at p)))) through.together;
        clause = omega (arith, clause_is);
        all = omega (arith, all_is);
      }

  up_to_append : (most before : ℕ) (ps qs : List Piece) → AreUpTo most (up_to_pieces before ps) → AreUpTo most (up_to_pieces (before + total piece_size ps) qs) → AreUpTo most (up_to_pieces before (ps ++ qs))
  up_to_append most before [] qs first later = let same : before + 0 ≡ before = omega arith in subst (λ n. AreUpTo most (up_to_pieces n qs)) same later
  up_to_append most before (p ∷ ps) qs first later =
      let same : before + (piece_size p + total piece_size ps) ≡ before + piece_size p + total piece_size ps = omega arith in
      let here = up_to_piece before p in
      let behind = up_to_pieces (before + piece_size p) ps in
      all_append (λ n. n ≤ most) here (up_to_pieces (before + piece_size p) (ps ++ qs)) (all_first (λ n. n ≤ most) here behind first)
      (up_to_append most (before + piece_size p) ps qs (all_second (λ n. n ≤ most) here behind first) (subst (λ n. AreUpTo most (up_to_pieces n qs)) same later))

  up_to_both : (most before middle : ℕ) (ps qs : List Part) → middle ≡ before + total piece_size (map piece_at ps) → AreUpTo most (up_to_pieces before (map piece_at ps)) → AreUpTo most (up_to_pieces middle (map piece_at qs)) → AreUpTo most (up_to_pieces before (map piece_at (ps ++ qs)))
  up_to_both most before middle ps qs is first later =
      subst (λ us. AreUpTo most (up_to_pieces before us)) (sym (map-append piece_at ps qs)) (up_to_append most before (map piece_at ps) (map piece_at qs) first (subst (λ n. AreUpTo most (up_to_pieces n (map piece_at qs))) is later))

  pub gone_append : (w u v : Walked) (ps qs : List Part) → Gone w ps u → Gone u qs v → Gone w (ps ++ qs) v
  gone_append w u v ps qs first later =
      let at_end : InOrder table (w.seen ++ terms_at (numbers_of ps)) (numbers_of qs) = subst (λ us. InOrder table us (numbers_of qs)) first.seen later.order in
      let numbers = flat_map-append part_numbers ps qs in
      let clause_is = first.clause in
      let all_is = first.all in
      let sizes : total piece_size (map piece_at (ps ++ qs)) ≡ total piece_size (map piece_at ps) + total piece_size (map piece_at qs) = ap (total piece_size) (map-append piece_at ps qs) ∙ total-append piece_size (map piece_at ps) (map piece_at qs) in
      let later_clause = later.clause in
      let later_all = later.all in
      record {
        order = subst (InOrder table w.seen) (sym numbers) (order_append w.seen (numbers_of ps) (numbers_of qs) first.order at_end);
        seen = later.seen ∙ (ap (λ us. us ++ terms_at (numbers_of qs)) first.seen ∙ (append_assoc w.seen (terms_at (numbers_of ps)) (terms_at (numbers_of qs))
            ∙ ap (λ us. w.seen ++ us) (sym (map-append (term_at table) (numbers_of ps) (numbers_of qs)) ∙ ap terms_at (sym numbers))));
        small = up_to_both most_symbols w.clause u.clause ps qs clause_is first.small later.small;
        together = up_to_both most_certificate_symbols w.all u.all ps qs all_is first.together later.together;
        clause = omega (arith, later_clause, clause_is, sizes);
        all = omega (arith, later_all, all_is, sizes);
      }

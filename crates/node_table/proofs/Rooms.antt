-- Room that is left behind trees and parts of clauses, and what is over the limits.
use Rattle.std.proofs.Common.{◌≡◌, ℕ, zero, suc, ◌+◌, ◌-◌, ◌<◌, ◌≤◌, Bool, true, false, nat_le, cond, Option, Some, None, min, List, [], ◌∷◌, ◌++◌, length, map, take, get_or, refl, sym, ◌∙◌, ap, subst, arith}
use Rattle.std.specs.Prelude.{option_and_then}
use mathlib.Core.Path.{fun_ext}
use Rattle.std.specs.List.{AllByRecursion}
use Rattle.std.proofs.lemmas.List.{append_assoc, take_more}
use Rattle.std.proofs.lemmas.Bool.Decides.{nat_tests}
use Rattle.spec_trees.specs.Tree.{node, trees, size, sizes}
use Rattle.spec_trees.proofs.Measures.{size-positive}
use Rattle.spec_calculus.specs.Bounds.{most_symbols}
use Rattle.spec_terms.specs.Term.{Sym, Term}
use Rattle.spec_clauses.specs.Fact.{Fact, Clause, total, clause_size}
use Rattle.spec_clauses.specs.Diff.{Diff}
use Rattle.spec_clauses.specs.Inclusion.{Has}
use Rattle.spec_certificate_text.specs.Sides.{spelled_clause}
use Rattle.spec_clauses.proofs.Lists.{all_append, all_first, all_second, all_weaker, all-flat_map}
use Rattle.spec_clauses.proofs.Inclusion.{all_has}
use Rattle.spec_node_tables.specs.Table.{spelled_terms, terms_in_order, table}
use Rattle.spec_node_tables.specs.Large.{most_certificate_symbols, up_to_terms, Piece, fact_piece, diff_piece, pieces, piece_size, up_to_piece, up_to_pieces, up_to_clauses, AreUpTo, FitsInNodes, is_large_in_nodes}
use Rattle.spec_node_tables.proofs.Walks.{table_has}
use Rattle.spec_node_tables.proofs.Back.{all_there}
use Rattle.spec_node_tables.proofs.Sizes.{pieces_total, piece_terms, pieces_terms, subterm_size, large_decides}
use Rattle.clause_form.proofs.Lists.{total_more, total_all, total-map, total-append}
use Rattle.node_table.specs.Room.{room_less, room_behind_piece, room_behind_pieces, room_behind_rest, room_behind_next}

-- Room, and room that is left.

pub left_of : (room n left : ℕ) → left + n ≡ room → Some left ≡ room_less room n
left_of room n left is = go (nat_le n room) refl where
  go : (b : Bool) → nat_le n room ≡ b → Some left ≡ cond b (Some (room - n)) None
  go true e = ap Some (omega (arith, is))
  go false e = absurd (grind (arith, nat_tests))

pub no_room : (room n : ℕ) → room < n → None ≡ room_less room n
no_room room n over = go (nat_le n room) refl where
  go : (b : Bool) → nat_le n room ≡ b → None ≡ cond b (Some (room - n)) None
  go true e = absurd (grind (arith, nat_tests))
  go false e = refl

pub left_is : (room n left : ℕ) → Some left ≡ room_less room n → left + n ≡ room
left_is room n left = go (nat_le n room) refl where
  go : (b : Bool) → nat_le n room ≡ b → Some left ≡ cond b (Some (room - n)) None → left + n ≡ room
  go true e some = let same : left ≡ room - n = cc in let within : n ≤ room = grind (arith, nat_tests) in omega arith
  go false e some = cc

pub is_over : (room n : ℕ) → None ≡ room_less room n → room < n
is_over room n = go (nat_le n room) refl where
  go : (b : Bool) → nat_le n room ≡ b → None ≡ cond b (Some (room - n)) None → room < n
  go true e none = cc
  go false e none = grind (arith, nat_tests)

-- room behind one thing and then another
pub behind_both : (room first second both left : ℕ) (r : Option ℕ) → Some left ≡ room_less room first → r ≡ room_less left second → first + second ≡ both → r ≡ room_less room both
behind_both room first second both left r some last sum = last ∙ go (nat_le second left) refl where
  here : left + first ≡ room
  here = left_is room first left some

  go : (b : Bool) → nat_le second left ≡ b → cond b (Some (left - second)) None ≡ room_less room both
  go true e = let within : second ≤ left = grind (arith, nat_tests) in left_of room both (left - second) (omega (arith, here, sum, within))
  go false e = let over : left < second = grind (arith, nat_tests) in no_room room both (omega (arith, here, sum, over))

pub none_behind_both : (room first second both : ℕ) → None ≡ room_less room first → first + second ≡ both → None ≡ room_less room both
none_behind_both room first second both none sum = no_room room both (omega (arith, is_over room first none, sum))

-- Trees one by one.

-- room that is left where so many were counted before the first of them
pub record HasRoom {X : Type 0} (f : X → Term) (before room left : ℕ) (items : List X) (i : ℕ) : Type 0 where
  pub is : left + (before + total (λ x. size (f x)) (take i items)) ≡ room

module _ {X : Type 0} (f : X → Term) (before room left : ℕ) (items : List X) (i : ℕ) (x : X) (has : HasRoom f before room left items i) where
  pub one_less : (less : ℕ) → i < length items → x ≡ get_or items i x → Some less ≡ room_less left (size (f x)) → HasRoom f before room less items (i + 1)
  one_less less below is some = record {
    is = omega (arith, has.is, left_is left (size (f x)) less some, total_more (λ y. size (f y)) items i x below, ap (λ y. size (f y)) is);
  }

  pub too_many : (ts : List Term) → i < length items → x ≡ get_or items i x → map f items ≡ ts → None ≡ room_less left (size (f x)) → None ≡ room_less room (before + total size ts)
  too_many ts below is are none = no_room room (before + total size ts)
      (omega (
        arith,
        has.is,
        is_over left (size (f x)) none,
        total_more (λ y. size (f y)) items i x below,
        ap (λ y. size (f y)) is,
        total_within (λ y. size (f y)) items (i + 1),
        total-map size f items,
        ap (total size) are,
      ))
    where
      total_within : {Y : Type 0} (g : Y → ℕ) (ys : List Y) (n : ℕ) → total g (take n ys) ≤ total g ys
      total_within g [] zero = omega arith
      total_within g [] (suc n) = omega arith
      total_within g (y ∷ ys) zero = omega arith
      total_within g (y ∷ ys) (suc n) = omega (arith, total_within g ys n)

pub room_left : {X : Type 0} (f : X → Term) (before room left : ℕ) (items : List X) (i : ℕ) (ts : List Term) → HasRoom f before room left items i → length items ≤ i → map f items ≡ ts → Some left ≡ room_less room (before + total size ts)
room_left f before room left items i ts has past are = left_of room (before + total size ts) left
    (omega (arith, has.is, total_all (λ y. size (f y)) items i past, total-map size f items, ap (total size) are))

-- a symbol over trees
pub node_size : (f : Sym) (ts : List Term) (t : Term) → t ≡ node f ts → 1 + total size ts ≡ size t
node_size f ts t is = omega (arith, row_size ts, ap size is) where
  row_size : (us : List Term) → sizes (trees us) ≡ total size us
  row_size [] = refl
  row_size (u ∷ us) = omega (arith, row_size us)

pub no_room_at_all : (room : ℕ) (t : Term) → room ≡ 0 → None ≡ room_less room (size t)
no_room_at_all room t none = no_room room (size t) (omega (arith, size-positive t))

-- A clause: its hypotheses, its constraints, and then its conclusion.

behind_append : (ps qs : List Piece) (room : ℕ) → room_behind_pieces room (ps ++ qs) ≡ option_and_then (λ left. room_behind_pieces left qs) (room_behind_pieces room ps)
behind_append [] qs room = refl
behind_append (p ∷ ps) qs room =
    elim (room_behind_piece room p) as (λ o. option_and_then (λ left. room_behind_pieces left (ps ++ qs)) o ≡ option_and_then (λ left. room_behind_pieces left qs) (option_and_then (λ left. room_behind_pieces left ps) o)) [
      | None ↦ refl
      | Some less ↦ behind_append ps qs less
    ]

some_again : (o : Option ℕ) → option_and_then (λ n. Some n) o ≡ o
some_again None = refl
some_again (Some n) = refl

abbrev clause_of : List (Fact Term) → List Diff → Fact Term → Clause Term
clause_of hypotheses diffs conclusion = record { hypotheses = hypotheses; diffs = diffs; conclusion = conclusion }

last_again : (diffs : List Diff) (conclusion : Fact Term) (left : ℕ) → room_behind_pieces left (map diff_piece diffs ++ (fact_piece conclusion ∷ [])) ≡ room_behind_rest diffs conclusion left
last_again diffs conclusion left =
    behind_append (map diff_piece diffs) (fact_piece conclusion ∷ []) left
    ∙ ap (λ g. option_and_then g (room_behind_pieces left (map diff_piece diffs))) (fun_ext (λ less. some_again (room_behind_piece less (fact_piece conclusion))))

in_parts : (c : Clause Term) (hypotheses : List (Fact Term)) (diffs : List Diff) (conclusion : Fact Term) (room : ℕ) → clause_of hypotheses diffs conclusion ≡ c
    → option_and_then (room_behind_rest diffs conclusion) (room_behind_pieces room (map fact_piece hypotheses)) ≡ room_behind_pieces room (pieces c)
in_parts c hypotheses diffs conclusion room is =
    sym (ap (λ g. option_and_then g (room_behind_pieces room (map fact_piece hypotheses))) (fun_ext (last_again diffs conclusion)))
    ∙ (sym (behind_append (map fact_piece hypotheses) (map diff_piece diffs ++ (fact_piece conclusion ∷ [])) room) ∙ ap (λ d. room_behind_pieces room (pieces d)) is)

pub behind_clause : (c : Clause Term) (hypotheses : List (Fact Term)) (diffs : List Diff) (conclusion : Fact Term) (room left : ℕ) (r : Option ℕ) → clause_of hypotheses diffs conclusion ≡ c → Some left ≡ room_behind_pieces room (map fact_piece hypotheses)
    → r ≡ room_behind_rest diffs conclusion left → r ≡ room_behind_pieces room (pieces c)
behind_clause c hypotheses diffs conclusion room left r is first rest = rest ∙ (ap (option_and_then (room_behind_rest diffs conclusion)) first ∙ in_parts c hypotheses diffs conclusion room is)

-- no room behind the hypotheses
pub none_behind_clause : (c : Clause Term) (hypotheses : List (Fact Term)) (diffs : List Diff) (conclusion : Fact Term) (room : ℕ) → clause_of hypotheses diffs conclusion ≡ c → None ≡ room_behind_pieces room (map fact_piece hypotheses) → None ≡ room_behind_pieces room (pieces c)
none_behind_clause c hypotheses diffs conclusion room is none = ap (option_and_then (room_behind_rest diffs conclusion)) none ∙ in_parts c hypotheses diffs conclusion room is

-- Symbols up to each term.

module _ (most : ℕ) where
  terms_fit : (ts : List Term) (before : ℕ) → total size ts ≤ most - before → AreUpTo most (up_to_terms before ts)
  terms_fit [] before within = tt
  terms_fit (t ∷ ts) before within = let some = size-positive t in (omega arith, terms_fit ts (before + size t) (omega arith))

  terms_over : (ts : List Term) (before : ℕ) → AreUpTo most (up_to_terms before ts) → total size ts ≤ most - before
  terms_over [] before are = omega arith
  terms_over (t ∷ ts) before are = let first = are.0 in let later = terms_over ts (before + size t) are.1 in omega arith

  -- what is left behind a part, where so many symbols stood before
  piece_fits : (p : Piece) (before room left : ℕ) → room ≡ most - before → room_behind_piece room p ≡ Some left → AreUpTo most (up_to_piece before p) × (left ≡ most - (before + piece_size p))
  piece_fits p before room left is e =
      let rest = left_is (room - p.signs) (total size p.terms) left (sym e) in
      (terms_fit p.terms (before + p.signs) (omega arith), omega arith)

  piece_over : (p : Piece) (before room : ℕ) → room ≡ most - before → room_behind_piece room p ≡ None → AreUpTo most (up_to_piece before p) → ⊥
  piece_over p before room is e are =
      let over = is_over (room - p.signs) (total size p.terms) (sym e) in
      let within = terms_over p.terms (before + p.signs) are in
      absurd (omega arith)

  -- and behind parts
  pub pieces_fit : (ps : List Piece) (before room left : ℕ) → room ≡ most - before → room_behind_pieces room ps ≡ Some left → AreUpTo most (up_to_pieces before ps) × (left ≡ most - (before + total piece_size ps))
  pieces_fit [] before room left is e = (tt, let same : room ≡ left = cc in omega arith)
  pieces_fit (p ∷ ps) before room left is e = go (room_behind_piece room p) refl e (λ less same later. pieces_fit ps (before + piece_size p) less left same later) where
    go : (o : Option ℕ) → room_behind_piece room p ≡ o → option_and_then (λ less. room_behind_pieces less ps) o ≡ Some left
        → ((less : ℕ) → less ≡ most - (before + piece_size p) → room_behind_pieces less ps ≡ Some left → AreUpTo most (up_to_pieces (before + piece_size p) ps) × (left ≡ most - (before + piece_size p + total piece_size ps)))
        → AreUpTo most (up_to_pieces before (p ∷ ps)) × (left ≡ most - (before + total piece_size (p ∷ ps)))
    go None here later others_fit = cc
    go (Some less) here later others_fit =
        let first = piece_fits p before room less is here in
        let others = others_fit less first.1 later in
        (all_append (λ n. n ≤ most) (up_to_piece before p) (up_to_pieces (before + piece_size p) ps) first.0 others.0, omega (arith, others.1))

  pub pieces_over : (ps : List Piece) (before room : ℕ) → room ≡ most - before → room_behind_pieces room ps ≡ None → AreUpTo most (up_to_pieces before ps) → ⊥
  pieces_over [] before room is e are = cc
  pieces_over (p ∷ ps) before room is e are =
      let later_up = all_second (λ n. n ≤ most) (up_to_piece before p) (up_to_pieces (before + piece_size p) ps) are in
      go (room_behind_piece room p) refl e (λ less same later. pieces_over ps (before + piece_size p) less same later later_up)
    where
      go : (o : Option ℕ) → room_behind_piece room p ≡ o → option_and_then (λ less. room_behind_pieces less ps) o ≡ None → ((less : ℕ) → less ≡ most - (before + piece_size p) → room_behind_pieces less ps ≡ None → ⊥) → ⊥
      go None here later others_over = piece_over p before room is here (all_first (λ n. n ≤ most) (up_to_piece before p) (up_to_pieces (before + piece_size p) ps) are)
      go (Some less) here later others_over = others_over less (piece_fits p before room less is here).1 later

-- Where room is left, so much more room leaves so much more.

piece_with_more : (p : Piece) (room left more : ℕ) → room_behind_piece room p ≡ Some left → 0 < left → room_behind_piece (room + more) p ≡ Some (left + more)
piece_with_more p room left more e some =
    let rest = left_is (room - p.signs) (total size p.terms) left (sym e) in
    sym (left_of (room + more - p.signs) (total size p.terms) (left + more) (omega arith))

pub pieces_leave_less : (ps : List Piece) (room left : ℕ) → room_behind_pieces room ps ≡ Some left → left ≤ room
pieces_leave_less ps room left e = let fit = pieces_fit room ps 0 room left (omega arith) e in omega (arith, fit.1)

pieces_with_more : (ps : List Piece) (room left more : ℕ) → room_behind_pieces room ps ≡ Some left → 0 < left → room_behind_pieces (room + more) ps ≡ Some (left + more)
pieces_with_more [] room left more e some = let same : room ≡ left = cc in ap (λ n. Some (n + more)) same
pieces_with_more (p ∷ ps) room left more e some = go (room_behind_piece room p) refl e (λ less later. pieces_with_more ps less left more later some) where
  go : (o : Option ℕ) → room_behind_piece room p ≡ o → option_and_then (λ less. room_behind_pieces less ps) o ≡ Some left → ((less : ℕ) → room_behind_pieces less ps ≡ Some left → room_behind_pieces (less + more) ps ≡ Some (left + more))
      → room_behind_pieces (room + more) (p ∷ ps) ≡ Some (left + more)
  go None here later others = cc
  go (Some less) here later others =
      let within = pieces_leave_less ps less left later in
      ap (option_and_then (λ n. room_behind_pieces n ps)) (piece_with_more p room less more here (omega arith)) ∙ others less later

-- room behind a clause, where the lesser of both rooms leaves some
pub next_leaves : (ps : List Piece) (room least less : ℕ) → least ≡ min room most_symbols → Some less ≡ room_behind_pieces least ps → 0 < less → Some (room - (least - less)) ≡ room_behind_next room ps
next_leaves ps room least less is left some =
    let under : least ≤ room = omega (arith, is) in
    let small : least ≤ most_symbols = omega (arith, is) in
    let within = pieces_leave_less ps least less (sym left) in
    let alone : room_behind_pieces most_symbols ps ≡ Some (less + (most_symbols - least)) = ap (λ r. room_behind_pieces r ps) (omega arith) ∙ pieces_with_more ps least less (most_symbols - least) (sym left) some in
    let whole : room_behind_pieces room ps ≡ Some (less + (room - least)) = ap (λ r. room_behind_pieces r ps) (omega arith) ∙ pieces_with_more ps least less (room - least) (sym left) some in
    ap Some (omega arith) ∙ (sym whole ∙ sym (ap (option_and_then (λ n. room_behind_pieces room ps)) alone))

-- Clauses one by one.

-- the first clauses have no more symbols than the limits up to each of their terms, and so many of all may still come
pub record AreCounted (cs : List (Clause Term)) (left : ℕ) : Type 0 where
  pub each : AllByRecursion (λ c. AreUpTo most_symbols (up_to_pieces 0 (pieces c))) cs
  pub together : AreUpTo most_certificate_symbols (up_to_clauses 0 cs)
  pub room : left ≡ most_certificate_symbols - total clause_size cs

clauses_behind : (cs : List (Clause Term)) (c : Clause Term) (before : ℕ) → up_to_clauses before (cs ++ (c ∷ [])) ≡ up_to_clauses before cs ++ (up_to_pieces (before + total clause_size cs) (pieces c) ++ [])
clauses_behind [] c before = ap (λ n. up_to_pieces n (pieces c) ++ []) (omega arith)
clauses_behind (d ∷ cs) c before =
    let here = up_to_pieces before (pieces d) in
    let later = clauses_behind cs c (before + clause_size d) in
    let sum : before + clause_size d + total clause_size cs ≡ before + total clause_size (d ∷ cs) = omega arith in
    ap (λ l. here ++ l) later
    ∙ (sym (append_assoc here (up_to_clauses (before + clause_size d) cs) (up_to_pieces (before + clause_size d + total clause_size cs) (pieces c) ++ []))
    ∙ ap (λ n. (here ++ up_to_clauses (before + clause_size d) cs) ++ (up_to_pieces n (pieces c) ++ [])) sum)

total_behind : (cs : List (Clause Term)) (c : Clause Term) → total clause_size (cs ++ (c ∷ [])) ≡ total clause_size cs + clause_size c
total_behind cs c = omega (arith, total-append clause_size cs (c ∷ []))

one_counted : (cs : List (Clause Term)) (c : Clause Term) (left some less : ℕ) → AreCounted cs left → Some some ≡ room_behind_pieces most_symbols (pieces c) → Some less ≡ room_behind_pieces left (pieces c) → AreCounted (cs ++ (c ∷ [])) less
one_counted cs c left some less counted own whole =
    let alone = pieces_fit most_symbols (pieces c) 0 most_symbols some (omega arith) (sym own) in
    let before = total clause_size cs in
    let among = pieces_fit most_certificate_symbols (pieces c) before left less counted.room (sym whole) in
    record {
      each = all_append (λ d. AreUpTo most_symbols (up_to_pieces 0 (pieces d))) cs (c ∷ []) counted.each (alone.0, tt);
      together = subst (AreUpTo most_certificate_symbols) (sym (clauses_behind cs c 0 ∙ ap (λ n. up_to_clauses 0 cs ++ (up_to_pieces n (pieces c) ++ [])) (omega arith)))
          (all_append (λ n. n ≤ most_certificate_symbols) (up_to_clauses 0 cs) (up_to_pieces before (pieces c) ++ []) counted.together
          (all_append (λ n. n ≤ most_certificate_symbols) (up_to_pieces before (pieces c)) [] among.0 tt));
      room = omega (arith, among.1, total_behind cs c, pieces_total c);
    }

-- none of them yet
pub none_counted : (cs : List (Clause Term)) (left : ℕ) → left ≡ most_certificate_symbols → AreCounted (take 0 cs) left
none_counted [] left is = record { each = tt; together = tt; room = omega (arith, is) }
none_counted (c ∷ cs) left is = record { each = tt; together = tt; room = omega (arith, is) }

-- one more clause of a list
pub counted_on : (cs : List (Clause Term)) (i : ℕ) (c : Clause Term) (left less : ℕ) → AreCounted (take i cs) left → i < length cs → c ≡ get_or cs i c → Some less ≡ room_behind_next left (pieces c) → AreCounted (take (i + 1) cs) less
counted_on cs i c left less counted below is next = go (room_behind_pieces most_symbols (pieces c)) refl next where
  go : (o : Option ℕ) → room_behind_pieces most_symbols (pieces c) ≡ o → Some less ≡ option_and_then (λ alone. room_behind_pieces left (pieces c)) o → AreCounted (take (i + 1) cs) less
  go None own whole = cc
  go (Some alone) own whole =
      let taken : take (i + 1) cs ≡ take i cs ++ (c ∷ []) = take_more cs i c below ∙ ap (λ d. take i cs ++ (d ∷ [])) (sym is) in
      subst (λ ds. AreCounted ds less) (sym taken) (one_counted (take i cs) c left alone less counted (sym own) whole)

-- a term is no larger than what stands up to it
terms_small : (most : ℕ) (ts : List Term) (before : ℕ) → AreUpTo most (up_to_terms before ts) → AllByRecursion (λ t. size t ≤ most) ts
terms_small most [] before are = tt
terms_small most (t ∷ ts) before are = let first = are.0 in (omega arith, terms_small most ts (before + size t) are.1)

pieces_small : (most : ℕ) (ps : List Piece) (before : ℕ) → AreUpTo most (up_to_pieces before ps) → AllByRecursion (λ p. AllByRecursion (λ t. size t ≤ most) (piece_terms p)) ps
pieces_small most [] before are = tt
pieces_small most (p ∷ ps) before are = (
  terms_small most p.terms (before + p.signs) (all_first (λ n. n ≤ most) (up_to_piece before p) (up_to_pieces (before + piece_size p) ps) are),
  pieces_small most ps (before + piece_size p) (all_second (λ n. n ≤ most) (up_to_piece before p) (up_to_pieces (before + piece_size p) ps) are),
)

clause_small : (c : Clause Term) → AreUpTo most_symbols (up_to_pieces 0 (pieces c)) → AllByRecursion (λ t. size t ≤ most_symbols) (spelled_terms (spelled_clause c))
clause_small c h = subst (AllByRecursion (λ t. size t ≤ most_symbols)) (pieces_terms c) (all-flat_map (λ t. size t ≤ most_symbols) piece_terms (pieces c) (pieces_small most_symbols (pieces c) 0 h))

small_terms : (cs : List (Clause Term)) → AllByRecursion (λ c. AreUpTo most_symbols (up_to_pieces 0 (pieces c))) cs → AllByRecursion (λ t. size t ≤ most_symbols) (terms_in_order cs)
small_terms cs each =
    all-flat_map (λ t. size t ≤ most_symbols) (λ c. spelled_terms (spelled_clause c)) cs
    (all_weaker (λ c. AreUpTo most_symbols (up_to_pieces 0 (pieces c))) (λ c. AllByRecursion (λ t. size t ≤ most_symbols) (spelled_terms (spelled_clause c))) clause_small cs each)

pub fits : (cs : List (Clause Term)) (left : ℕ) → AreCounted cs left → false ≡ is_large_in_nodes cs
fits cs left counted = sym ((large_decides cs).1 record {
  nodes = all_weaker (Has (table cs)) (λ t. size t ≤ most_symbols) (λ t h. small t h) (table cs) (all_there (table cs));
  clauses = counted.each;
  together = counted.together;
}) where
  small : (t : Term) → Has (table cs) t → size t ≤ most_symbols
  small t h =
      let (u, has, sub) = (table_has cs t).0 h in
      let large = all_has (λ v. size v ≤ most_symbols) (terms_in_order cs) u (small_terms cs counted.each) has in
      omega (arith, subterm_size sub)

-- Clauses that are too large, behind those that aren't.

large_by : (cs : List (Clause Term)) → (FitsInNodes cs → ⊥) → true ≡ is_large_in_nodes cs
large_by cs never = go (is_large_in_nodes cs) refl where
  go : (b : Bool) → is_large_in_nodes cs ≡ b → true ≡ b
  go true e = refl
  go false e = absurd (never ((large_decides cs).0 e))

one_large : (cs : List (Clause Term)) (i : ℕ) (c : Clause Term) → i < length cs → c ≡ get_or cs i c → None ≡ room_behind_pieces most_symbols (pieces c) → true ≡ is_large_in_nodes cs
one_large cs i c below is none = large_by cs (λ fits. pieces_over most_symbols (pieces c) 0 most_symbols (omega arith) (sym none) (at cs i fits.clauses below is))
  where
    at : (ds : List (Clause Term)) (n : ℕ) → AllByRecursion (λ d. AreUpTo most_symbols (up_to_pieces 0 (pieces d))) ds → n < length ds → c ≡ get_or ds n c → AreUpTo most_symbols (up_to_pieces 0 (pieces c))
    at [] n each below is = absurd (omega arith)
    at (d ∷ ds) zero each below is = subst (λ e. AreUpTo most_symbols (up_to_pieces 0 (pieces e))) (sym is) each.0
    at (d ∷ ds) (suc n) each below is = at ds n each.1 (omega arith) is

all_large : (cs : List (Clause Term)) (i left : ℕ) (c : Clause Term) → AreCounted (take i cs) left → i < length cs → c ≡ get_or cs i c → None ≡ room_behind_pieces left (pieces c) → true ≡ is_large_in_nodes cs
all_large cs i left c counted below is none = large_by cs (λ fits.
    let before = total clause_size (take i cs) in
    pieces_over most_certificate_symbols (pieces c) before left counted.room (sym none)
    (subst (λ n. AreUpTo most_certificate_symbols (up_to_pieces n (pieces c))) (omega arith) (at cs i 0 fits.together below is)))
  where
    at : (ds : List (Clause Term)) (n before : ℕ) → AreUpTo most_certificate_symbols (up_to_clauses before ds) → n < length ds → c ≡ get_or ds n c → AreUpTo most_certificate_symbols (up_to_pieces (before + total clause_size (take n ds)) (pieces c))
    at [] n before are below is = absurd (omega arith)
    at (d ∷ ds) zero before are below is =
        let here = all_first (λ n. n ≤ most_certificate_symbols) (up_to_pieces before (pieces d)) (up_to_clauses (before + clause_size d) ds) are in
        let same : before ≡ before + 0 = omega arith in
        subst (λ m. AreUpTo most_certificate_symbols (up_to_pieces m (pieces c))) same (subst (λ e. AreUpTo most_certificate_symbols (up_to_pieces before (pieces e))) (sym is) here)
    at (d ∷ ds) (suc n) before are below is =
        let later = at ds n (before + clause_size d) (all_second (λ n. n ≤ most_certificate_symbols) (up_to_pieces before (pieces d)) (up_to_clauses (before + clause_size d) ds) are) (omega arith) is in
        let sum : before + clause_size d + total clause_size (take n ds) ≡ before + total clause_size (take (suc n) (d ∷ ds)) = omega arith in
        subst (λ m. AreUpTo most_certificate_symbols (up_to_pieces m (pieces c))) sum later

-- a clause that is too large, by itself or behind those before it
pub next_large : (cs : List (Clause Term)) (i left : ℕ) (c : Clause Term) → AreCounted (take i cs) left → i < length cs → c ≡ get_or cs i c → None ≡ room_behind_next left (pieces c) → true ≡ is_large_in_nodes cs
next_large cs i left c counted below is none = go (room_behind_pieces most_symbols (pieces c)) refl none where
  go : (o : Option ℕ) → room_behind_pieces most_symbols (pieces c) ≡ o → None ≡ option_and_then (λ alone. room_behind_pieces left (pieces c)) o → true ≡ is_large_in_nodes cs
  go None own whole = one_large cs i c below is (sym own)
  go (Some alone) own whole = all_large cs i left c counted below is whole

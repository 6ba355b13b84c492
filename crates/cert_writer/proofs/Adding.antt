-- Rows that are added one after another, and what the pairs of clauses add.
use Rattle.std.proofs.Common.{◌≡◌, ◌∙◌, ℕ, ◌+◌, ◌≤◌, true, false, Option, Some, None, List, [], ◌∷◌, ◌++◌, length, take, refl, ap, sym, subst, append_assoc}
use Rattle.std.specs.Prelude.{slice_get}
use Rattle.spec_terms.specs.Term.{Term}
use Rattle.spec_clauses.specs.Fact.{Clause}
use Rattle.spec_clauses.specs.Selection.{Selection, select, is_solved}
use Rattle.spec_clauses.specs.Resolvents.{Answer, NoUnifier, Large}
use Rattle.spec_clauses.specs.Inclusion.{Has}
use Rattle.spec_clauses.proofs.Selection.{select-none}
use Rattle.spec_certificates.specs.Certificate.{Numbered, numbered_from, Pair, pairs_with, pairs_of_solved, pairs_of}
use Rattle.spec_verdicts.specs.FirstRows.{IsFirstCover, AreFirstCovers}
use Rattle.spec_verdicts.specs.First.{resolvents_of, all_pairs}
use Rattle.spec_verdicts.proofs.Building.{covers_append, give_append, append_none, one_gives, take_next, take_past, number_at, pairs_with_next, pairs_of_next}
use Rattle.spec_fingerprints.specs.Fingerprints as print
use Rattle.spec_fingerprints.specs.Fingerprints.{fingerprint_of, hypothesis_print, may_resolve}
use Rattle.spec_fingerprints.proofs.Meeting.{hypothesis_apart}
use Rattle.clause_resolve.specs.Answers.{Gives}
use Rattle.cert_writer.specs.Adding.{AddsRows, AddsPairs, with_number, pairs_of_two, pairs_of_one, pairs_if_solved, MustClose, AreRowsOf}

module _ (clauses : List (Clause Term)) where
  pub adds_none : (rows : List (List ℕ)) → AddsRows clauses [] rows rows
  adds_none rows = record { rows = []; are = sym (append_none rows); first = tt }

  pub adds_append : (cs ds : List (Clause Term)) (a b c : List (List ℕ)) → AddsRows clauses cs a b → AddsRows clauses ds b c → AddsRows clauses (cs ++ ds) a c
  adds_append cs ds a b c x y = record {
    rows = x.rows ++ y.rows;
    are = y.are ∙ (ap (λ r. r ++ y.rows) x.are ∙ append_assoc a x.rows y.rows);
    first = covers_append clauses cs ds x.rows y.rows x.first y.first;
  }

  -- the row of the next clause
  pub adds_next : (cs : List (Clause Term)) (k : ℕ) (c : Clause Term) (row : List ℕ) (before now next : List (List ℕ)) → slice_get cs k ≡ Some c → IsFirstCover clauses c row → next ≡ now ++ row ∷ [] → AddsRows clauses (take k cs) before now → AddsRows clauses (take (k + 1) cs) before next
  adds_next cs k c row before now next at first e a =
      subst (λ ds. AddsRows clauses ds before next) (sym (take_next cs k c at))
      (adds_append (take k cs) (c ∷ []) before now next a (record { rows = row ∷ []; are = e; first = (first, tt) }))

  pub adds_all : (cs : List (Clause Term)) (k : ℕ) (before now : List (List ℕ)) → length cs ≤ k → AddsRows clauses (take k cs) before now → AddsRows clauses cs before now
  adds_all cs k before now past a = subst (λ ds. AddsRows clauses ds before now) (take_past cs k past) a

  -- what pairs give
  pub pairs_none : (rows : List (List ℕ)) → AddsPairs clauses [] rows rows
  pairs_none rows = record { made = []; give = refl; adds = adds_none rows }

  pub pairs_append : (ps qs : List Pair) (a b c : List (List ℕ)) → AddsPairs clauses ps a b → AddsPairs clauses qs b c → AddsPairs clauses (ps ++ qs) a c
  pairs_append ps qs a b c x y = record {
    made = x.made ++ y.made;
    give = give_append ps qs x.made y.made x.give y.give;
    adds = adds_append x.made y.made a b c x.adds y.adds;
  }

  -- the pair of a solved clause with an unsolved one, by its answer
  pub pair_unselected : (i j : ℕ) (solved unsolved : Clause Term) (rows : List (List ℕ)) → select unsolved.hypotheses ≡ None → AddsPairs clauses (pairs_of_two i solved j unsolved) rows rows
  pair_unselected i j solved unsolved rows none =
      subst (λ o. AddsPairs clauses (pairs_with (with_number i solved) o (with_number j unsolved)) rows rows) (sym none) (pairs_none rows)

  pub pair_adds : (i j : ℕ) (solved unsolved : Clause Term) (answer : Answer) (made : List (Clause Term)) (before after : List (List ℕ)) → Gives solved unsolved answer → resolvents_of answer ≡ Some made → AddsRows clauses made before after → AddsPairs clauses (pairs_of_two i solved j unsolved) before after
  pair_adds i j solved unsolved answer made before after g has adds =
      let pair : Pair = record { solved = with_number i solved; unsolved = with_number j unsolved; at = g.at } in
      subst (λ o. AddsPairs clauses (pairs_with (with_number i solved) o (with_number j unsolved)) before after) (sym g.is_selected)
      (record { made = made; give = one_gives pair made (record { answer = answer; resolves = g.gives; has = has }); adds = adds })

  pub pair_apart : (i j : ℕ) (solved unsolved : Clause Term) (rows : List (List ℕ)) → Gives solved unsolved NoUnifier → AddsPairs clauses (pairs_of_two i solved j unsolved) rows rows
  pair_apart i j solved unsolved rows g = pair_adds i j solved unsolved NoUnifier [] rows rows g refl (adds_none rows)

  -- fingerprints tell that it is solved, or that there is no unifier
  pub pair_told_apart : (i j : ℕ) (solved unsolved : Clause Term) (rows : List (List ℕ)) (conclusion : print.Fingerprint) (hypothesis : Option print.Fingerprint) → conclusion ≡ fingerprint_of solved.conclusion → hypothesis ≡ hypothesis_print unsolved → may_resolve conclusion hypothesis ≡ false
      → AddsPairs clauses (pairs_of_two i solved j unsolved) rows rows
  pair_told_apart i j solved unsolved rows conclusion hypothesis is also apart = go (select unsolved.hypotheses) refl
    where
      told : may_resolve (fingerprint_of solved.conclusion) (hypothesis_print unsolved) ≡ false
      told = sym (λ k. may_resolve (is k) (also k)) ∙ apart

      go : (o : Option Selection) → select unsolved.hypotheses ≡ o → AddsPairs clauses (pairs_of_two i solved j unsolved) rows rows
      go None none = pair_unselected i j solved unsolved rows none
      go (Some at) selected = pair_apart i j solved unsolved rows (record { at = at; is_selected = selected; gives = hypothesis_apart solved unsolved at selected told })

  pub pair_large : (solved unsolved : Clause Term) → MustClose clauses → Has clauses solved → Has clauses unsolved → is_solved solved.hypotheses ≡ true → Gives solved unsolved Large → ⊥
  pair_large solved unsolved closed h k s g = closed solved unsolved g.at Large h k s g.is_selected g.gives

  -- a clause with the first of all, and with one more
  pub one_next : (i : ℕ) (solved : Clause Term) (cs : List (Clause Term)) (k : ℕ) (c : Clause Term) (a b d : List (List ℕ)) → slice_get cs k ≡ Some c
      → AddsPairs clauses (pairs_of_one i solved (take k (numbered_from 1 cs))) a b → ((j : ℕ) → AddsPairs clauses (pairs_of_two i solved j c) b d) → AddsPairs clauses (pairs_of_one i solved (take (k + 1) (numbered_from 1 cs))) a d
  one_next i solved cs k c a b d at x y =
      subst (λ ps. AddsPairs clauses ps a d) (sym (pairs_with_next (with_number i solved) (numbered_from 1 cs) k (with_number (1 + k) c) (number_at 1 cs k c at)))
      (pairs_append (pairs_of_one i solved (take k (numbered_from 1 cs))) (pairs_of_two i solved (1 + k) c) a b d x (y (1 + k)))

  -- the first of all clauses with each, and one more
  pub all_next : (each : List Numbered) (cs : List (Clause Term)) (k : ℕ) (c : Clause Term) (a b d : List (List ℕ)) → slice_get cs k ≡ Some c
      → AddsPairs clauses (pairs_of (take k (numbered_from 1 cs)) each) a b → ((i : ℕ) → AddsPairs clauses (pairs_if_solved i c each) b d) → AddsPairs clauses (pairs_of (take (k + 1) (numbered_from 1 cs)) each) a d
  all_next each cs k c a b d at x y =
      subst (λ ps. AddsPairs clauses ps a d) (sym (pairs_of_next (numbered_from 1 cs) each k (with_number (1 + k) c) (number_at 1 cs k c at)))
      (pairs_append (pairs_of (take k (numbered_from 1 cs)) each) (pairs_if_solved (1 + k) c each) a b d x (y (1 + k)))

  -- a clause that isn't solved has no pairs here
  not_solved : (i : ℕ) (c : Clause Term) (each : List Numbered) (at : Selection) (rows : List (List ℕ)) → select c.hypotheses ≡ Some at → AddsPairs clauses (pairs_if_solved i c each) rows rows
  not_solved i c each at rows some = subst (λ o. AddsPairs clauses (pairs_of_solved o (with_number i c) each) rows rows) (sym some) (pairs_none rows)

  pub unless_solved : (i : ℕ) (c : Clause Term) (each : List Numbered) (rows : List (List ℕ)) → is_solved c.hypotheses ≡ false → AddsPairs clauses (pairs_if_solved i c each) rows rows
  unless_solved i c each rows unsolved = go (select c.hypotheses) refl
    where
      go : (o : Option Selection) → select c.hypotheses ≡ o → AddsPairs clauses (pairs_if_solved i c each) rows rows
      go None e = let yes = (select-none c.hypotheses).0 e in cc
      go (Some at) e = not_solved i c each at rows e

  -- nor with others
  pub neither_solved : (i : ℕ) (c : Clause Term) (each others : List Numbered) (a b : List (List ℕ)) → is_solved c.hypotheses ≡ false → AddsPairs clauses (pairs_if_solved i c each) a b → AddsPairs clauses (pairs_if_solved i c others) a b
  neither_solved i c each others a b unsolved x = go (select c.hypotheses) refl
    where
      go : (o : Option Selection) → select c.hypotheses ≡ o → AddsPairs clauses (pairs_if_solved i c others) a b
      go None e = let yes = (select-none c.hypotheses).0 e in cc
      go (Some at) e = subst (λ o. AddsPairs clauses (pairs_of_solved o (with_number i c) others) a b) (sym e) (subst (λ o. AddsPairs clauses (pairs_of_solved o (with_number i c) each) a b) e x)

  pub of_solved : (i : ℕ) (c : Clause Term) (each : List Numbered) (a b : List (List ℕ)) → select c.hypotheses ≡ None → AddsPairs clauses (pairs_if_solved i c each) a b → AddsPairs clauses (pairs_of_one i c each) a b
  of_solved i c each a b none x = subst (λ o. AddsPairs clauses (pairs_of_solved o (with_number i c) each) a b) none x

  pub if_solved : (i : ℕ) (c : Clause Term) (each : List Numbered) (a b : List (List ℕ)) → select c.hypotheses ≡ None → AddsPairs clauses (pairs_of_one i c each) a b → AddsPairs clauses (pairs_if_solved i c each) a b
  if_solved i c each a b none x = subst (λ o. AddsPairs clauses (pairs_of_solved o (with_number i c) each) a b) (sym none) x

  -- the rows of given clauses, and of all pairs
  pub all_rows : (given : List (Clause Term)) (now after : List (List ℕ)) → AddsRows clauses given [] now → AddsPairs clauses (all_pairs clauses) now after → AreRowsOf clauses given after
  all_rows given now after a p =
      let whole = adds_append given p.made [] now after a p.adds in
      record { made = p.made; give = p.give; covers = subst (AreFirstCovers clauses (given ++ p.made)) (sym whole.are) whole.first }

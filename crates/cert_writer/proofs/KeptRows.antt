-- Rows that are kept are those of each list of clauses that begins with the same ones.
use Rattle.std.proofs.Common.{◌≡◌, ◌∙◌, ℕ, zero, suc, ◌+◌, ◌<◌, ◌≤◌, Option, Some, None, List, [], ◌∷◌, ◌++◌, length, take, drop, refl, ap, sym, subst, arith, length-append, inl, inr, Bool, true, false, cond, map, filter}
use Rattle.std.specs.Prelude.{slice_get}
use Rattle.std.specs.List.{AllByRecursion}
use Rattle.std.proofs.lemmas.List.{length-map, length-take, take-append-drop, take_all, drop-map}
use Rattle.std.proofs.lemmas.Option.{slice_get_within}
use Rattle.spec_calculus.specs.Points.{numbered}
use Rattle.spec_terms.specs.Term.{Term}
use Rattle.spec_clauses.specs.Fact.{Clause}
use Rattle.spec_clauses.specs.Selection.{Selection, select}
use Rattle.spec_clauses.specs.Subsumption.{ComesBefore}
use Rattle.spec_certificates.specs.Certificate.{Numbered, numbered_from, Pair, pairs_of_solved, CoverRowHolds}
use Rattle.spec_verdicts.specs.FirstRows.{IsFirstCover, AreFirstCovers}
use Rattle.spec_verdicts.proofs.Building.{take_next}
use Rattle.spec_clauses.proofs.Lists.{all_append}
use Rattle.term_tree.specs.Bank.{Grows}
use Rattle.spec_terms.proofs.Replace.{some_same}
use Rattle.clause_form.specs.Seen.{clause_at, AreClausesIn, IdClause}
use Rattle.clause_form.proofs.Copying.{NamesClause-grows}
use Rattle.clause_form.specs.Fit.{clauses_at}
use Rattle.log_entries.specs.declared.log.Entry.{Entry}
use Rattle.log_entries.specs.Logs.{is_unbeaten}
use Rattle.log_entries.specs.Beating.{clauses_of}
use Rattle.cert_writer.specs.Living.{live_ids}
use Rattle.cert_writer.specs.declared.known.KnownRows.{KnownRows}
use Rattle.cert_writer.specs.Adding.{AddsPairs, with_number, pairs_if_solved}
use Rattle.cert_writer.specs.Known.{BeginsWithin, AreRowsWith, IsKnown, BeginWith, PutsKnown}
use Rattle.cert_writer.proofs.Adding.{pairs_none}

front_get : {X : Type 0} (xs ys : List X) (k : ℕ) → k < length xs → slice_get (xs ++ ys) k ≡ slice_get xs k
front_get [] ys k within = absurd (omega (arith, within))
front_get (x ∷ xs) ys zero within = refl
front_get (x ∷ xs) ys (suc k) within = front_get xs ys k (omega (arith, within))

take_get : {X : Type 0} (xs : List X) (n k : ℕ) → k < n → slice_get (take n xs) k ≡ slice_get xs k
take_get [] zero k within = absurd (omega (arith, within))
take_get [] (suc n) k within = refl
take_get (x ∷ xs) zero k within = absurd (omega (arith, within))
take_get (x ∷ xs) (suc n) zero within = refl
take_get (x ∷ xs) (suc n) (suc k) within = take_get xs n k (omega (arith, within))

take_none : {X : Type 0} (xs : List X) → take 0 xs ≡ []
take_none [] = refl
take_none (x ∷ xs) = refl

numbers_take : (n k : ℕ) (cs : List (Clause Term)) → take k (numbered_from n cs) ≡ numbered_from n (take k cs)
numbers_take n zero [] = refl
numbers_take n (suc k) [] = refl
numbers_take n zero (c ∷ cs) = refl
numbers_take n (suc k) (c ∷ cs) = ap (λ (ns : List Numbered). record { number = n; clause = c } ∷ ns) (numbers_take (n + 1) k cs)

module _ (clauses : List (Clause Term)) where
  -- a clause of a number that is not behind these
  at_front : (more : List (Clause Term)) (n : ℕ) → n ≤ length clauses → numbered (clauses ++ more) n ≡ numbered clauses n
  at_front more zero within = refl
  at_front more (suc k) within = front_get clauses more k (omega (arith, within))

  held : (more other : List (Clause Term)) (n : ℕ) (positions : List ℕ) (c : Clause Term) → n ≤ length clauses → CoverRowHolds (clauses ++ more) (n ∷ positions) c → CoverRowHolds (clauses ++ other) (n ∷ positions) c
  held more other n positions c within (general, at, holds) = (general, (at_front other n within ∙ (sym (at_front more n within) ∙ at)), holds)

  first_held : (more other : List (Clause Term)) (c : Clause Term) (row : List ℕ) → BeginsWithin (length clauses) row → IsFirstCover (clauses ++ more) c row → IsFirstCover (clauses ++ other) c row
  first_held more other c [] within first = absurd within
  first_held more other c (n ∷ positions) within first = record { holds = held more other n positions c within first.holds; first = earlier }
    where
      earlier : (row : List ℕ) → CoverRowHolds (clauses ++ other) row c → ComesBefore row (n ∷ positions) → ⊥
      earlier [] holds before = absurd holds
      earlier (k ∷ others) holds (inl less) = first.first (k ∷ others) (held other more k others c (omega (arith, less, within)) holds) (inl less)
      earlier (k ∷ others) holds (inr both) = let same = both.0 in first.first (k ∷ others) (held other more k others c (omega (arith, same, within)) holds) (inr both)

  pub covers_held : (more other cs : List (Clause Term)) (rows : List (List ℕ)) → AllByRecursion (BeginsWithin (length clauses)) rows → AreFirstCovers (clauses ++ more) cs rows → AreFirstCovers (clauses ++ other) cs rows
  covers_held more other [] [] within first = tt
  covers_held more other [] (row ∷ rows) within first = absurd first
  covers_held more other (c ∷ cs) [] within first = absurd first
  covers_held more other (c ∷ cs) (row ∷ rows) within first = (first_held more other c row within.0 first.0, covers_held more other cs rows within.1 first.1)

  -- rows of clauses that are none of those behind are the same whatever stands behind
  kept : (more : List (Clause Term)) (c : Clause Term) (rows : List (List ℕ)) → ((i : ℕ) → AddsPairs (clauses ++ more) (pairs_if_solved i c (numbered_from 1 clauses)) [] rows) → AllByRecursion (BeginsWithin (length clauses)) rows → AreRowsWith clauses c rows
  kept more c rows adds within i other before =
      let a = adds i in
      let same : rows ≡ a.adds.rows = a.adds.are in
      record {
        made = a.made;
        give = a.give;
        adds = record { rows = rows; are = refl; first = covers_held more other a.made rows within (subst (λ (rs : List (List ℕ)). AreFirstCovers (clauses ++ more) a.made rs) (sym same) a.adds.first) };
      }

module _ (live front : List (Clause Term)) (begin : take (length front) live ≡ front) where
  pub whole : live ≡ front ++ drop (length front) live
  whole = sym (take-append-drop (length front) live) ∙ ap (λ (cs : List (Clause Term)). cs ++ drop (length front) live) begin

  numbers : take (length front) (numbered_from 1 live) ≡ numbered_from 1 front
  numbers = numbers_take 1 (length front) live ∙ ap (numbered_from 1) begin

  kept_front : (c : Clause Term) (rows : List (List ℕ)) → ((i : ℕ) → AddsPairs live (pairs_if_solved i c (take (length front) (numbered_from 1 live))) [] rows) → AllByRecursion (BeginsWithin (length front)) rows → AreRowsWith front c rows
  kept_front c rows adds within =
      kept front (drop (length front) live) c rows
      (λ i. subst (λ (cs : List (Clause Term)). AddsPairs cs (pairs_if_solved i c (numbered_from 1 front)) [] rows) whole
      (subst (λ (ns : List Numbered). AddsPairs live (pairs_if_solved i c ns) [] rows) numbers (adds i))) within

  front_adds : (c : Clause Term) (rows : List (List ℕ)) → AreRowsWith front c rows → (i : ℕ) (before : List (List ℕ)) → AddsPairs live (pairs_if_solved i c (take (length front) (numbered_from 1 live))) before (before ++ rows)
  front_adds c rows are i before =
      subst (λ (ns : List Numbered). AddsPairs live (pairs_if_solved i c ns) before (before ++ rows)) (sym numbers)
      (subst (λ (cs : List (Clause Term)). AddsPairs cs (pairs_if_solved i c (numbered_from 1 front)) before (before ++ rows)) (sym whole) (are i (drop (length front) live) before))

-- a clause has no pairs with none
no_pairs : (i : ℕ) (c : Clause Term) → pairs_if_solved i c [] ≡ []
no_pairs i c = go (select c.hypotheses) where
  go : (o : Option Selection) → pairs_of_solved o (with_number i c) [] ≡ []
  go None = refl
  go (Some at) = refl

pub none_with : (live : List (Clause Term)) (i : ℕ) (c : Clause Term) (rows : List (List ℕ)) → AddsPairs live (pairs_if_solved i c (take 0 (numbered_from 1 live))) rows rows
none_with live i c rows =
    subst (λ (ns : List Numbered). AddsPairs live (pairs_if_solved i c ns) rows rows) (sym (take_none (numbered_from 1 live)))
    (subst (λ (ps : List Pair). AddsPairs live ps rows rows) (sym (no_pairs i c)) (pairs_none live rows))

module _ (all : List Term) (known : KnownRows) (live : List IdClause) (begin : BeginWith all live known.live) where
  long : length (clauses_at all known.live) ≡ length known.live
  long = length-map known.live (clause_at all)

  begins : take (length (clauses_at all known.live)) (clauses_at all live) ≡ clauses_at all known.live
  begins = subst (λ (n : ℕ). take n (clauses_at all live) ≡ clauses_at all known.live) (sym long) begin

  -- what is put of what is kept are the rows with the first of the live clauses
  pub put_adds : IsKnown all known → (place count : ℕ) (c : Clause Term) (before after : List (List ℕ)) → slice_get (clauses_at all live) place ≡ Some c → PutsKnown known place count before after → (i : ℕ) → AddsPairs (clauses_at all live) (pairs_if_solved i c (take count (numbered_from 1 (clauses_at all live)))) before after
  put_adds is place count c before after at (inl (none, same)) i =
      subst (λ (n : ℕ). AddsPairs (clauses_at all live) (pairs_if_solved i c (take n (numbered_from 1 (clauses_at all live)))) before after) (sym none)
      (subst (λ (rows : List (List ℕ)). AddsPairs (clauses_at all live) (pairs_if_solved i c (take 0 (numbered_from 1 (clauses_at all live)))) before rows) (sym same) (none_with (clauses_at all live) i c before))
  put_adds is place count c before after at (inr (all_of, (rows, there, same))) i =
      let within = slice_get_within known.rows.items place rows there in
      let few = is.few in
      let here : slice_get (clauses_at all known.live) place ≡ Some c = sym (ap (λ (cs : List (Clause Term)). slice_get cs place) begins) ∙ (take_get (clauses_at all live) (length (clauses_at all known.live)) place (omega (arith, within, few, long)) ∙ at) in
      let adds = front_adds (clauses_at all live) (clauses_at all known.live) begins c rows (is.rows place c rows here there) i before in
      let counted : length (clauses_at all known.live) ≡ count = long ∙ sym all_of in
      subst (λ (n : ℕ). AddsPairs (clauses_at all live) (pairs_if_solved i c (take n (numbered_from 1 (clauses_at all live)))) before after) counted
      (subst (λ (rs : List (List ℕ)). AddsPairs (clauses_at all live) (pairs_if_solved i c (take (length (clauses_at all known.live)) (numbered_from 1 (clauses_at all live)))) before rs) (sym same) adds)

  -- the live clauses are those before any goal, and then the others
  pub live_parts : (count : ℕ) → count ≡ length known.live → clauses_at all known.live ++ clauses_at all (drop count live) ≡ clauses_at all live
  live_parts count counted =
      let same : count ≡ length (clauses_at all known.live) = counted ∙ sym long in
      ap (λ (cs : List (Clause Term)). clauses_at all known.live ++ cs) (sym (drop-map (clause_at all) count live) ∙ ap (λ (n : ℕ). drop n (clauses_at all live)) same)
      ∙ sym (whole (clauses_at all live) (clauses_at all known.live) begins)

  -- rows of a live clause with the first ones are kept
  pub rows_kept : (c : Clause Term) (rows : List (List ℕ)) (count : ℕ) → count ≡ length known.live → ((i : ℕ) → AddsPairs (clauses_at all live) (pairs_if_solved i c (take count (numbered_from 1 (clauses_at all live)))) [] rows) → AllByRecursion (BeginsWithin count) rows → AreRowsWith (clauses_at all known.live) c rows
  rows_kept c rows count is adds within =
      let counted : count ≡ length (clauses_at all known.live) = is ∙ sym long in
      kept_front (clauses_at all live) (clauses_at all known.live) begins c rows
      (λ i. subst (λ (n : ℕ). AddsPairs (clauses_at all live) (pairs_if_solved i c (take n (numbered_from 1 (clauses_at all live)))) [] rows) counted (adds i))
      (subst (λ (n : ℕ). AllByRecursion (BeginsWithin n) rows) counted within)

-- what is kept over trees are still the first of the same clauses
pub plain_still : (all : List Term) (live now : List IdClause) (plain new : List (Clause Term)) → now ≡ live → new ≡ plain → plain ≡ take (length plain) (clauses_at all live) → new ≡ take (length new) (clauses_at all now)
plain_still all live now plain new live_same plain_same is =
    subst (λ (cs : List IdClause). new ≡ take (length new) (clauses_at all cs)) (sym live_same) (subst (λ (ps : List (Clause Term)). ps ≡ take (length ps) (clauses_at all live)) (sym plain_same) is)

-- one more item
pushed : {X : Type 0} (P : ℕ → X → Type 0) (xs : List X) (x : X) → ((k : ℕ) (y : X) → slice_get xs k ≡ Some y → P k y) → P (length xs) x → (k : ℕ) (y : X) → slice_get (xs ++ x ∷ []) k ≡ Some y → P k y
pushed P [] x below here zero y e = let same : x ≡ y = cc in subst (P 0) same here
pushed P [] x below here (suc k) y e = cc
pushed P (z ∷ xs) x below here zero y e = below zero y e
pushed P (z ∷ xs) x below here (suc k) y e = pushed (λ n w. P (suc n) w) xs x (λ n w f. below (suc n) w f) here k y e

module _ (all : List Term) (known : KnownRows) (live : List IdClause) (begin : BeginWith all live known.live) where
  -- there are at least as many live clauses
  pub front_short : length known.live ≤ length live
  front_short =
      let fewer : length (take (length known.live) (clauses_at all live)) ≡ length (clauses_at all known.live) = ap length begin in
      let least = length-take (length known.live) (clauses_at all live) in
      omega (arith, fewer, least, length-map known.live (clause_at all), length-map live (clause_at all))

  -- what is put are rows with no more clauses than there are
  pub put_short : (place count : ℕ) (before after : List (List ℕ)) → PutsKnown known place count before after → count ≤ length live
  put_short place count before after (inl (none, same)) = omega (arith, none)
  put_short place count before after (inr (all_of, put)) = let short = front_short in omega (arith, all_of, short)

  -- the rows of one more clause
  pub kept_more : IsKnown all known → (c : Clause Term) (rows : List (List ℕ)) (new : KnownRows) → slice_get (clauses_at all live) (length known.rows.items) ≡ Some c → length known.rows.items < length known.live → AreRowsWith (clauses_at all known.live) c rows → new.live ≡ known.live → new.rows.items ≡ known.rows.items ++ rows ∷ [] → new.given ≡ known.given → new.covers ≡ known.covers
      → new.plain ≡ known.plain → IsKnown all new
  kept_more is c rows new at less are same next as_given as_covers as_plain =
      let front = clauses_at all known.live in
      let long : length front ≡ length known.live = length-map known.live (clause_at all) in
      let more : length new.rows.items ≡ length known.rows.items + 1 = ap length next ∙ length-append known.rows.items (rows ∷ []) in
      let few : length new.live ≡ length known.live = ap length same in
      let there : slice_get front (length known.rows.items) ≡ Some c = sym (ap (λ (cs : List (Clause Term)). slice_get cs (length known.rows.items)) (begins all known live begin)) ∙ (take_get (clauses_at all live) (length front) (length known.rows.items) (omega (arith, less, long)) ∙ at) in
      let here : (d : Clause Term) → slice_get front (length known.rows.items) ≡ Some d → AreRowsWith front d rows = λ d e. subst (λ (x : Clause Term). AreRowsWith front x rows) (some_same (sym there ∙ e)) are in
      let each : (k : ℕ) (rs : List (List ℕ)) → slice_get (known.rows.items ++ rows ∷ []) k ≡ Some rs → (d : Clause Term) → slice_get front k ≡ Some d → AreRowsWith front d rs
      = pushed (λ n ws. (d : Clause Term) → slice_get front n ≡ Some d → AreRowsWith front d ws) known.rows.items rows (λ n ws f d e. is.rows n d ws e f) here in
      record {
        names = subst (λ (cs : List IdClause). AreClausesIn all cs) (sym same) is.names;
        few = omega (arith, more, few, less);
        rows = λ k d rs e f. subst (λ (cs : List IdClause). AreRowsWith (clauses_at all cs) d rs) (sym same)
            (each k rs (subst (λ (xs : List (List (List ℕ))). slice_get xs k ≡ Some rs) next f) d (subst (λ (cs : List IdClause). slice_get (clauses_at all cs) k ≡ Some d) same e));
        given = subst (λ (cs : List IdClause). AreClausesIn all cs) (sym as_given) is.given;
        fewer = let fewer = is.fewer in let many : length new.given ≡ length known.given = ap length as_given in let kept_rows : length new.covers ≡ length known.covers = ap length as_covers in omega (arith, fewer, many, kept_rows);
        covers = λ others. subst (λ (rs : List (List ℕ)). AreFirstCovers (clauses_at all new.live ++ others) (take (length rs) (clauses_at all new.given)) rs) (sym as_covers)
            (subst (λ (cs : List IdClause). AreFirstCovers (clauses_at all cs ++ others) (take (length known.covers) (clauses_at all new.given)) known.covers) (sym same)
            (subst (λ (cs : List IdClause). AreFirstCovers (clauses_at all known.live ++ others) (take (length known.covers) (clauses_at all cs)) known.covers) (sym as_given) (is.covers others)));
        plain = plain_still all known.live new.live known.plain new.plain same as_plain is.plain;
      }

-- one row more begins so
pub within_next : (n : ℕ) (rows : List (List ℕ)) (i : ℕ) (row : List ℕ) → slice_get rows i ≡ Some row → BeginsWithin n row → AllByRecursion (BeginsWithin n) (take i rows) → AllByRecursion (BeginsWithin n) (take (i + 1) rows)
within_next n rows i row at begins so_far = subst (λ (rs : List (List ℕ)). AllByRecursion (BeginsWithin n) rs) (sym (take_next rows i row at)) (all_append (BeginsWithin n) (take i rows) (row ∷ []) so_far (begins, tt))

-- clauses of live entries are known where those of all are
pub live_known : (all : List Term) (entries : List Entry) → AreClausesIn all (clauses_of entries) → AreClausesIn all (live_ids entries)
live_known all [] known = tt
live_known all (e ∷ es) known = go (is_unbeaten e.by) (live_known all es known.1)
  where
    go : (b : Bool) → AreClausesIn all (live_ids es) → AreClausesIn all (map (λ x. x.clause) (cond b (e ∷ filter (λ x. is_unbeaten x.by) es) (filter (λ x. is_unbeaten x.by) es)))
    go true rest = (known.0, rest)
    go false rest = rest

-- no rows are kept yet
pub none_kept : (all : List Term) (known : KnownRows) → AreClausesIn all known.live → AreClausesIn all known.given → known.rows.items ≡ [] → known.covers ≡ [] → known.plain ≡ [] → IsKnown all known
none_kept all known names given none no_covers no_plain = record {
  names = names;
  few = let zero_rows : length known.rows.items ≡ 0 = ap length none in omega (arith, zero_rows);
  rows = λ k c rows at there. absurd (nothing k rows (subst (λ (xs : List (List (List ℕ))). slice_get xs k ≡ Some rows) none there));
  given = given;
  fewer = let no_rows : length known.covers ≡ 0 = ap length no_covers in omega (arith, no_rows);
  covers = λ more. subst (λ (rs : List (List ℕ)). AreFirstCovers (clauses_at all known.live ++ more) (take (length rs) (clauses_at all known.given)) rs) (sym no_covers)
      (subst (λ (cs : List (Clause Term)). AreFirstCovers (clauses_at all known.live ++ more) cs []) (sym (take_none (clauses_at all known.given))) tt);
  plain = subst (λ (ps : List (Clause Term)). ps ≡ take (length ps) (clauses_at all known.live)) (sym no_plain) (sym (take_none (clauses_at all known.live)));
} where
  nothing : (k : ℕ) (rows : List (List ℕ)) → slice_get [] k ≡ Some rows → ⊥
  nothing k rows e = cc

-- the clauses over trees are kept
pub plain_kept : (all : List Term) (known new : KnownRows) (plain : List (Clause Term)) → IsKnown all known → plain ≡ clauses_at all known.live → new.live ≡ known.live → new.rows.items ≡ known.rows.items → new.given ≡ known.given → new.covers ≡ known.covers → new.plain ≡ plain → IsKnown all new
plain_kept all known new plain is are same same_rows as_given as_covers as_plain =
    let few = is.few in
    let fewer = is.fewer in
    let as_live : length new.live ≡ length known.live = ap length same in
    let row_count : length new.rows.items ≡ length known.rows.items = ap length same_rows in
    let given_count : length new.given ≡ length known.given = ap length as_given in
    let cover_count : length new.covers ≡ length known.covers = ap length as_covers in
    let whole_so : plain ≡ take (length plain) (clauses_at all known.live) = are ∙ sym (take_all (length plain) (clauses_at all known.live) (omega (arith, ap length are))) in
    record {
      names = subst (λ (cs : List IdClause). AreClausesIn all cs) (sym same) is.names;
      few = omega (arith, row_count, as_live, few);
      rows = λ k c rows at there. subst (λ (cs : List IdClause). AreRowsWith (clauses_at all cs) c rows) (sym same)
          (is.rows k c rows (subst (λ (cs : List IdClause). slice_get (clauses_at all cs) k ≡ Some c) same at) (subst (λ (xs : List (List (List ℕ))). slice_get xs k ≡ Some rows) same_rows there));
      given = subst (λ (cs : List IdClause). AreClausesIn all cs) (sym as_given) is.given;
      fewer = omega (arith, cover_count, given_count, fewer);
      covers = λ more. subst (λ (rs : List (List ℕ)). AreFirstCovers (clauses_at all new.live ++ more) (take (length rs) (clauses_at all new.given)) rs) (sym as_covers)
          (subst (λ (cs : List IdClause). AreFirstCovers (clauses_at all cs ++ more) (take (length known.covers) (clauses_at all new.given)) known.covers) (sym same)
          (subst (λ (cs : List IdClause). AreFirstCovers (clauses_at all known.live ++ more) (take (length known.covers) (clauses_at all cs)) known.covers) (sym as_given) (is.covers more)));
      plain = plain_still all known.live new.live plain new.plain same as_plain whole_so;
    }

-- all are kept where there are as many as live ones
pub plain_whole : (all : List Term) (known : KnownRows) (kept count : ℕ) → IsKnown all known → kept ≡ length known.plain → count ≡ length known.live → count ≤ kept → known.plain ≡ clauses_at all known.live
plain_whole all known kept count is kept_are live_are enough =
    is.plain ∙ take_all (length known.plain) (clauses_at all known.live) (omega (arith, kept_are, live_are, enough, length-map known.live (clause_at all)))

AreClausesIn-grows : (a b : List Term) (cs : List IdClause) → Grows a b → AreClausesIn a cs → AreClausesIn b cs
AreClausesIn-grows a b [] grows known = tt
AreClausesIn-grows a b (c ∷ cs) grows known = let first = NamesClause-grows a b c (clause_at a c) grows (record { known = known.0; is = refl }) in (first.known, AreClausesIn-grows a b cs grows known.1)

clauses_at-grow : (a b : List Term) (cs : List IdClause) → Grows a b → AreClausesIn a cs → clauses_at b cs ≡ clauses_at a cs
clauses_at-grow a b [] grows known = refl
clauses_at-grow a b (c ∷ cs) grows known =
    let first = NamesClause-grows a b c (clause_at a c) grows (record { known = known.0; is = refl }) in
    let rest = clauses_at-grow a b cs grows known.1 in
    (λ i. first.is i ∷ rest i)

-- what is kept outlasts the growth of the bank
pub known_grows : (a b : List Term) (known : KnownRows) → Grows a b → IsKnown a known → IsKnown b known
known_grows a b known grows is =
    let same = clauses_at-grow a b known.live grows is.names in
    record {
      names = AreClausesIn-grows a b known.live grows is.names;
      few = is.few;
      rows = λ k c rows at there. subst (λ (cs : List (Clause Term)). AreRowsWith cs c rows) (sym same) (is.rows k c rows (subst (λ (cs : List (Clause Term)). slice_get cs k ≡ Some c) same at) there);
      given = AreClausesIn-grows a b known.given grows is.given;
      fewer = is.fewer;
      covers = λ more. subst (λ (cs : List (Clause Term)). AreFirstCovers (cs ++ more) (take (length known.covers) (clauses_at b known.given)) known.covers) (sym same)
          (subst (λ (cs : List (Clause Term)). AreFirstCovers (clauses_at a known.live ++ more) (take (length known.covers) cs) known.covers) (sym (clauses_at-grow a b known.given grows is.given)) (is.covers more));
      plain = is.plain ∙ ap (take (length known.plain)) (sym same);
    }

-- and is there in the bank as it was, if its clauses were known
pub known_back : (a b : List Term) (known : KnownRows) → Grows a b → AreClausesIn a known.live → AreClausesIn a known.given → IsKnown b known → IsKnown a known
known_back a b known grows names given is =
    let same = clauses_at-grow a b known.live grows names in
    record {
      names = names;
      few = is.few;
      rows = λ k c rows at there. subst (λ (cs : List (Clause Term)). AreRowsWith cs c rows) same (is.rows k c rows (subst (λ (cs : List (Clause Term)). slice_get cs k ≡ Some c) (sym same) at) there);
      given = given;
      fewer = is.fewer;
      covers = λ more. subst (λ (cs : List (Clause Term)). AreFirstCovers (cs ++ more) (take (length known.covers) (clauses_at a known.given)) known.covers) same
          (subst (λ (cs : List (Clause Term)). AreFirstCovers (clauses_at b known.live ++ more) (take (length known.covers) cs) known.covers) (clauses_at-grow a b known.given grows given) (is.covers more));
      plain = is.plain ∙ ap (take (length known.plain)) same;
    }

-- The first rows of given clauses that are kept are those in each list of clauses that begins with the same live ones.
use Rattle.std.proofs.Common.{◌≡◌, ◌∙◌, ℕ, zero, suc, ◌≤◌, Some, List, [], ◌∷◌, ◌++◌, length, take, drop, slice_get, refl, ap, sym, subst, arith}
use Rattle.std.specs.List.{AllByRecursion}
use Rattle.std.proofs.lemmas.List.{length-map, length-take, take_all}
use Rattle.spec_terms.specs.Term.{Term}
use Rattle.spec_clauses.specs.Fact.{Clause}
use Rattle.spec_clauses.specs.Inclusion.{here, there, Has}
use Rattle.spec_verdicts.specs.FirstRows.{AreFirstCovers}
use Rattle.clause_form.specs.Seen.{clause_at, AreClausesIn, IdClause}
use Rattle.clause_form.specs.Fit.{clauses_at}
use Rattle.cert_writer.specs.declared.known.KnownRows.{KnownRows}
use Rattle.cert_writer.specs.Adding.{AddsRows}
use Rattle.cert_writer.specs.Known.{BeginsWithin, AreRowsWith, IsKnown, BeginWith}
use Rattle.cert_writer.proofs.Adding.{adds_append}
use Rattle.cert_writer.proofs.KeptRows.{whole, covers_held, plain_still}

-- the first clauses are among all, and so are the others
pub has_first : (all : List Term) (cs : List IdClause) (n : ℕ) (c : Clause Term) → Has (clauses_at all (take n cs)) c → Has (clauses_at all cs) c
has_first all [] zero c h = h
has_first all [] (suc n) c h = h
has_first all (d ∷ cs) zero c h = elim h.1 [ ]
has_first all (d ∷ cs) (suc n) c (rest, here) = (clauses_at all cs, here)
has_first all (d ∷ cs) (suc n) c (rest, there p) = let later = has_first all cs n c (_, p) in (_, there later.1)

pub has_rest : (all : List Term) (cs : List IdClause) (n : ℕ) (c : Clause Term) → Has (clauses_at all (drop n cs)) c → Has (clauses_at all cs) c
has_rest all [] zero c h = h
has_rest all [] (suc n) c h = h
has_rest all (d ∷ cs) zero c h = h
has_rest all (d ∷ cs) (suc n) c h = let later = has_rest all cs n c h in (_, there later.1)

-- there are as many rows as clauses
covers_count : (clauses cs : List (Clause Term)) (rows : List (List ℕ)) → AreFirstCovers clauses cs rows → length rows ≡ length cs
covers_count clauses [] [] first = refl
covers_count clauses [] (row ∷ rows) first = absurd first
covers_count clauses (c ∷ cs) [] first = absurd first
covers_count clauses (c ∷ cs) (row ∷ rows) first = let rest = covers_count clauses cs rows first.1 in omega (arith, rest)

-- the first of the first, and of what ids name
take_fewer : {X : Type 0} (n m : ℕ) (xs : List X) → n ≤ m → take n (take m xs) ≡ take n xs
take_fewer zero m [] less = refl
take_fewer (suc n) zero [] less = refl
take_fewer (suc n) (suc m) [] less = refl
take_fewer zero zero (x ∷ xs) less = refl
take_fewer zero (suc m) (x ∷ xs) less = refl
take_fewer (suc n) zero (x ∷ xs) less = absurd (omega (arith, less))
take_fewer {X} (suc n) (suc m) (x ∷ xs) less = ap (λ (ys : List X). x ∷ ys) (take_fewer n m xs (omega (arith, less)))

module _ (all : List Term) where
  named_first : (cs : List IdClause) (n : ℕ) → clauses_at all (take n cs) ≡ take n (clauses_at all cs)
  named_first [] zero = refl
  named_first [] (suc n) = refl
  named_first (c ∷ cs) zero = refl
  named_first (c ∷ cs) (suc n) = ap (λ (ds : List (Clause Term)). clause_at all c ∷ ds) (named_first cs n)

  named_parts : (cs : List IdClause) (n : ℕ) → clauses_at all (take n cs) ++ clauses_at all (drop n cs) ≡ clauses_at all cs
  named_parts [] zero = refl
  named_parts [] (suc n) = refl
  named_parts (c ∷ cs) zero = refl
  named_parts (c ∷ cs) (suc n) = ap (λ (ds : List (Clause Term)). clause_at all c ∷ ds) (named_parts cs n)

  -- there are at least as many as those that they begin with
  pub front_fits : (cs front : List IdClause) → BeginWith all cs front → length front ≤ length cs
  front_fits cs front begin =
      let fewer : length (take (length front) (clauses_at all cs)) ≡ length (clauses_at all front) = ap length begin in
      let least = length-take (length front) (clauses_at all cs) in
      omega (arith, fewer, least, length-map front (clause_at all), length-map cs (clause_at all))

  module _ (known : KnownRows) (live given : List IdClause) (begin : BeginWith all live known.live) (also : BeginWith all given known.given) where
    abbrev front : List (Clause Term)
    front = clauses_at all known.live

    begins : take (length front) (clauses_at all live) ≡ front
    begins = let long = length-map known.live (clause_at all) in subst (λ (n : ℕ). take n (clauses_at all live) ≡ front) (sym long) begin

    -- the rows that are kept are the first ones, and then come those of the other clauses
    pub given_rows : IsKnown all known → (n : ℕ) → n ≡ length known.covers → (before put after : List (List ℕ)) → put ≡ before ++ known.covers → AddsRows (clauses_at all live) (clauses_at all (drop n given)) put after → AddsRows (clauses_at all live) (clauses_at all given) before after
    given_rows is n count before put after same rest =
        let fewer = is.fewer in
        let first_given : take n (clauses_at all known.given) ≡ clauses_at all (take n given) =
        sym (ap (take n) also) ∙ (take_fewer n (length known.given) (clauses_at all given) (omega (arith, count, fewer)) ∙ sym (named_first given n)) in
        let first_live : front ++ drop (length front) (clauses_at all live) ≡ clauses_at all live = sym (whole (clauses_at all live) front begins) in
        let held : AreFirstCovers (clauses_at all live) (clauses_at all (take n given)) known.covers =
        subst (λ (cs : List (Clause Term)). AreFirstCovers (clauses_at all live) cs known.covers) first_given
        (subst (λ (k : ℕ). AreFirstCovers (clauses_at all live) (take k (clauses_at all known.given)) known.covers) (sym count)
        (subst (λ (cs : List (Clause Term)). AreFirstCovers cs (take (length known.covers) (clauses_at all known.given)) known.covers) first_live (is.covers (drop (length front) (clauses_at all live))))) in
        subst (λ (cs : List (Clause Term)). AddsRows (clauses_at all live) cs before after) (named_parts given n)
        (adds_append (clauses_at all live) (clauses_at all (take n given)) (clauses_at all (drop n given)) before put after (record { rows = known.covers; are = same; first = held }) rest)

    -- rows of the given clauses that they begin with are kept
    pub covers_kept : IsKnown all known → (n count : ℕ) (covers : List (List ℕ)) (new : KnownRows) → n ≡ length known.given → count ≡ length known.live → AddsRows (clauses_at all live) (clauses_at all (take n given)) [] covers → AllByRecursion (BeginsWithin count) covers
        → new.live ≡ known.live → new.given ≡ known.given → new.rows.items ≡ known.rows.items → new.covers ≡ covers → new.plain ≡ known.plain → IsKnown all new
    covers_kept is n count covers new all_given all_live adds within live_same given_same rows_same covers_same plain_same =
        let few = is.few in
        let fewer_rows : length new.rows.items ≡ length known.rows.items = ap length rows_same in
        let as_live : length new.live ≡ length known.live = ap length live_same in
        let as_given : length new.given ≡ length known.given = ap length given_same in
        let as_covers : length new.covers ≡ length covers = ap length covers_same in
        let first_given : clauses_at all (take n given) ≡ clauses_at all known.given = named_first given n ∙ (ap (λ (k : ℕ). take k (clauses_at all given)) all_given ∙ also) in
        let split : clauses_at all live ≡ front ++ drop (length front) (clauses_at all live) = whole (clauses_at all live) front begins in
        let held : AreFirstCovers (front ++ drop (length front) (clauses_at all live)) (clauses_at all known.given) covers =
        subst (λ (rows : List (List ℕ)). AreFirstCovers (front ++ drop (length front) (clauses_at all live)) (clauses_at all known.given) rows) (sym adds.are)
        (subst (λ (cs : List (Clause Term)). AreFirstCovers (front ++ drop (length front) (clauses_at all live)) cs adds.rows) first_given
        (subst (λ (cs : List (Clause Term)). AreFirstCovers cs (clauses_at all (take n given)) adds.rows) split adds.first)) in
        let long : count ≡ length front = all_live ∙ sym (length-map known.live (clause_at all)) in
        let begin_so = subst (λ (k : ℕ). AllByRecursion (BeginsWithin k) covers) long within in
        let many : length covers ≡ length known.given = covers_count (front ++ drop (length front) (clauses_at all live)) (clauses_at all known.given) covers held ∙ length-map known.given (clause_at all) in
        let everywhere = λ (more : List (Clause Term)). subst (λ (cs : List (Clause Term)). AreFirstCovers (front ++ more) cs covers) (sym (take_all (length covers) (clauses_at all known.given) (omega (arith, many, length-map known.given (clause_at all)))))
        (covers_held front (drop (length front) (clauses_at all live)) more (clauses_at all known.given) covers begin_so held) in
        record {
          names = subst (λ (cs : List IdClause). AreClausesIn all cs) (sym live_same) is.names;
          few = omega (arith, fewer_rows, as_live, few);
          rows = λ k c rows at there. subst (λ (cs : List IdClause). AreRowsWith (clauses_at all cs) c rows) (sym live_same)
              (is.rows k c rows (subst (λ (cs : List IdClause). slice_get (clauses_at all cs) k ≡ Some c) live_same at) (subst (λ (xs : List (List (List ℕ))). slice_get xs k ≡ Some rows) rows_same there));
          given = subst (λ (cs : List IdClause). AreClausesIn all cs) (sym given_same) is.given;
          fewer = omega (arith, as_covers, as_given, many);
          covers = λ more. subst (λ (rows : List (List ℕ)). AreFirstCovers (clauses_at all new.live ++ more) (take (length rows) (clauses_at all new.given)) rows) (sym covers_same)
              (subst (λ (cs : List IdClause). AreFirstCovers (clauses_at all cs ++ more) (take (length covers) (clauses_at all new.given)) covers) (sym live_same)
              (subst (λ (cs : List IdClause). AreFirstCovers (front ++ more) (take (length covers) (clauses_at all cs)) covers) (sym given_same) (everywhere more)));
          plain = plain_still all known.live new.live known.plain new.plain live_same plain_same is.plain;
        }

-- What is told of the clause of each entry: as the bank grows, of entries with the same clauses, and with an entry more.
use Rattle.std.proofs.Common.{◌≡◌, ◌∙◌, ℕ, zero, suc, ◌<◌, Some, List, [], ◌∷◌, ◌++◌, length, map, get_or, refl, ap, sym, arith}
use Rattle.std.specs.Prelude.{slice_get}
use Rattle.std.proofs.lemmas.List.{length-map, map-append}
use Rattle.spec_terms.specs.Term.{Term}
use Rattle.spec_clauses.specs.Fact.{Clause}
use Rattle.spec_fingerprints.specs.Fingerprints.{Fingerprint, fingerprint_of}
use Rattle.term_tree.specs.Bank.{Grows}
use Rattle.clause_form.specs.Seen.{clause_at}
use Rattle.clause_form.proofs.Copying.{NamesClause-grows}
use Rattle.clause_form.specs.Fit.{AreFit}
use Rattle.log_entries.specs.declared.log.Entry.{Entry}
use Rattle.log_entries.specs.Beating.{clauses_of}

-- the fingerprint of a clause's conclusion
abbrev pub conclusion_seen : Clause Term → Fingerprint
conclusion_seen c = fingerprint_of c.conclusion

abbrev pub told_of : {X : Type 0} → (Clause Term → X) → List Term → List Entry → List X
told_of what all es = map (λ e. what (clause_at all e.clause)) es

module _ {X : Type 0} (what : Clause Term → X) where
  pub told_grow : (a b : List Term) (es : List Entry) → Grows a b → AreFit a (clauses_of es) → told_of what b es ≡ told_of what a es
  told_grow a b [] grows fit = refl
  told_grow a b (e ∷ es) grows fit =
      let first : what (clause_at b e.clause) ≡ what (clause_at a e.clause) = ap what (NamesClause-grows a b e.clause (clause_at a e.clause) grows (record { known = fit.0.known; is = refl })).is in
      λ i. first i ∷ told_grow a b es grows fit.1 i

  -- entries with the same clauses
  pub told_same : (all : List Term) (olds news : List Entry) → clauses_of news ≡ clauses_of olds → told_of what all news ≡ told_of what all olds
  told_same all [] [] same = refl
  told_same all [] (e ∷ es) same = cc
  told_same all (d ∷ ds) [] same = cc
  told_same all (d ∷ ds) (e ∷ es) same =
      let first : e.clause ≡ d.clause = cc in
      let rest : clauses_of es ≡ clauses_of ds = cc in
      λ i. what (clause_at all (first i)) ∷ told_same all ds es rest i

  -- with an entry more there is one more
  pub told_pushed : (all : List Term) (es : List Entry) (e : Entry) (was now : List X) (x : X) → was ≡ told_of what all es → now ≡ was ++ x ∷ [] → x ≡ what (clause_at all e.clause) → now ≡ told_of what all (es ++ e ∷ [])
  told_pushed all es e was now x same more has = more ∙ ((λ i. same i ++ has i ∷ []) ∙ sym (map-append (λ d. what (clause_at all d.clause)) es (e ∷ [])))

  -- there are as many as entries
  pub told_length : {K : Type 0} (seen : K → X) (all : List Term) (es : List Entry) (ks : List K) → map seen ks ≡ told_of what all es → length ks ≡ length es
  told_length seen all es ks same = sym (length-map ks seen) ∙ (ap length same ∙ length-map es (λ e. what (clause_at all e.clause)))

-- what stands beside an entry is told of its clause
module _ {K X : Type 0} (what : Clause Term → X) (seen : K → X) where
  pub told_there : (all : List Term) (es : List Entry) (ks : List K) (i : ℕ) (x : Entry) (k : K) → map seen ks ≡ told_of what all es → slice_get es i ≡ Some x → k ≡ get_or ks i k → seen k ≡ what (clause_at all x.clause)
  told_there all [] ks i x k same at is = cc
  told_there all (e ∷ es) [] i x k same at is = cc
  told_there all (e ∷ es) (g ∷ ks) zero x k same at is =
      let here : seen g ≡ what (clause_at all e.clause) = cc in
      let first : e ≡ x = cc in
      ap seen is ∙ (here ∙ ap (λ (y : Entry). what (clause_at all y.clause)) first)
  told_there all (e ∷ es) (g ∷ ks) (suc i) x k same at is = let rest : map seen ks ≡ told_of what all es = cc in told_there all es ks i x k rest at is

  pub told_got : (all : List Term) (es : List Entry) (ks : List K) (i : ℕ) (x : Entry) (k : K) → map seen ks ≡ told_of what all es → i < length es → seen (get_or ks i k) ≡ what (clause_at all (get_or es i x).clause)
  told_got all [] ks i x k same within = absurd (omega arith)
  told_got all (e ∷ es) [] i x k same within = cc
  told_got all (e ∷ es) (g ∷ ks) zero x k same within = cc
  told_got all (e ∷ es) (g ∷ ks) (suc i) x k same within = let rest : map seen ks ≡ told_of what all es = cc in told_got all es ks i x k rest (omega arith)

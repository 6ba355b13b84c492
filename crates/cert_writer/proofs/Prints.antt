-- The fingerprints of the conclusions of clauses, place by place.
use Rattle.std.proofs.Common.{◌≡◌, ◌∙◌, ℕ, zero, suc, ◌+◌, ◌<◌, ◌≤◌, false, List, [], ◌∷◌, ◌++◌, map, length, take, get_or, ap, sym, arith}
use Rattle.std.proofs.lemmas.Bool.{false≢true}
use Rattle.std.proofs.lemmas.List.{length-map, map-append, map_more, take_all}
use Rattle.spec_trees.specs.Tree.{Leaf}
use Rattle.spec_terms.specs.Term.{Term}
use Rattle.spec_clauses.specs.Fact as horn
use Rattle.spec_clauses.specs.Subsumption.{RowHolds}
use Rattle.spec_clauses.proofs.Facts.{fact_under-Leaf}
use Rattle.spec_fingerprints.specs.Fingerprints.{may_meet}
use Rattle.spec_fingerprints.proofs.Meeting.{meeting}
use Rattle.term_tree.specs.Bank.{Grows}
use Rattle.clause_form.specs.Seen.{clause_at, IdClause}
use Rattle.clause_form.specs.Fit.{clauses_at}
use Rattle.clause_form.proofs.Fit.{AreFit-grow, clauses_grow}
use Rattle.fact_fingerprint.specs.declared.fingerprints.Fingerprint.{Fingerprint}
use Rattle.fact_fingerprint.specs.Seen.{fingerprint_seen}
use Rattle.cert_writer.specs.Ready.{conclusion_print, IsReady}
use Rattle.cert_writer.specs.declared.writer.Writer.{Writer}

-- what is ready in a bank is ready as it grows
pub ready_grows : (a b : List Term) (w : Writer) → Grows a b → IsReady a w → IsReady b w
ready_grows a b w grows ready = record {
  fit = AreFit-grow a b w.live.now grows ready.fit;
  few = ready.few;
  prints = ready.prints ∙ ap (map conclusion_print) (sym (clauses_grow a b w.live.now grows ready.fit));
  classes = ready.classes;
}

-- the fingerprints of one clause more, and of all
pub print_more : (all : List Term) (cs : List IdClause) (i : ℕ) (c : IdClause) (prints new : List Fingerprint) (p : Fingerprint) → map fingerprint_seen prints ≡ map conclusion_print (clauses_at all (take i cs)) → i < length cs → c ≡ get_or cs i c
    → new ≡ prints ++ p ∷ [] → fingerprint_seen p ≡ conclusion_print (clause_at all c) → map fingerprint_seen new ≡ map conclusion_print (clauses_at all (take (i + 1) cs))
print_more all cs i c prints new p was within is more told =
    let next : map conclusion_print (clauses_at all (take (i + 1) cs)) ≡ map conclusion_print (clauses_at all (take i cs)) ++ conclusion_print (clause_at all c) ∷ [] =
    ap (map conclusion_print) (map_more (clause_at all) cs i c within)
    ∙ (map-append conclusion_print (clauses_at all (take i cs)) (clause_at all (get_or cs i c) ∷ [])
    ∙ ap (λ (x : IdClause). map conclusion_print (clauses_at all (take i cs)) ++ conclusion_print (clause_at all x) ∷ []) (sym is)) in
    ap (map fingerprint_seen) more ∙ (map-append fingerprint_seen prints (p ∷ []) ∙ ((λ j. was j ++ told j ∷ []) ∙ sym next))

pub prints_all : (all : List Term) (cs : List IdClause) (i : ℕ) (prints : List Fingerprint) → map fingerprint_seen prints ≡ map conclusion_print (clauses_at all (take i cs)) → length cs ≤ i
    → map fingerprint_seen prints ≡ map conclusion_print (clauses_at all cs)
prints_all all cs i prints was past = was ∙ ap (λ l. map conclusion_print (clauses_at all l)) (take_all i cs past)

-- what stands at a place
pub print_there : (all : List Term) (cs : List IdClause) (prints : List Fingerprint) (i : ℕ) (d : IdClause) (e : Fingerprint) → map fingerprint_seen prints ≡ map conclusion_print (clauses_at all cs) → i < length cs
    → fingerprint_seen (get_or prints i e) ≡ conclusion_print (clause_at all (get_or cs i d))
print_there all [] prints i d e same within = absurd (omega (arith, within))
print_there all (c ∷ cs) [] i d e same within = cc
print_there all (c ∷ cs) (p ∷ prints) zero d e same within = cc
print_there all (c ∷ cs) (p ∷ prints) (suc i) d e same within = let rest : map fingerprint_seen prints ≡ map conclusion_print (clauses_at all cs) = cc in print_there all cs prints i d e rest (omega (arith, within))

-- there are as many as clauses
pub prints_count : (all : List Term) (cs : List IdClause) (prints : List Fingerprint) → map fingerprint_seen prints ≡ map conclusion_print (clauses_at all cs) → length prints ≡ length cs
prints_count all cs prints same = sym (length-map prints fingerprint_seen) ∙ (ap length same ∙ (length-map (clauses_at all cs) conclusion_print ∙ length-map cs (clause_at all)))

-- where the fingerprints of the conclusions may not meet, no row holds
pub no_row : (general special : horn.Clause Term) → may_meet (conclusion_print general) (conclusion_print special) ≡ false → (row : List ℕ) → RowHolds general special row → ⊥
no_row general special apart row h = false≢true (sym apart ∙ meeting general.conclusion special.conclusion h.by Leaf (h.conclusion ∙ sym (fact_under-Leaf special.conclusion)))

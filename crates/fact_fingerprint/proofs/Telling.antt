-- What fingerprints of a bank's facts are, and what their test tells.
use Rattle.std.proofs.Common.{◌≡◌, ℕ, zero, suc, ◌+◌, ◌<◌, ◌≤◌, Option, Some, None, List, [], ◌∷◌, ◌++◌, map, slice_get, option_map, length, take, get_or, refl, ap, sym, ◌∙◌, arith}
use Rattle.std.specs.Option.{unwrap_or}
use Rattle.std.proofs.lemmas.List.{length-map, map-append, map_more, take_all}
use Rattle.std.proofs.lemmas.Option.{slice_get-map, slice_get-get_or, slice_get_within}
use Rattle.spec_terms.specs.Term.{Term}
use Rattle.spec_clauses.specs.Fact.{Fact, Clause, terms_of}
use Rattle.spec_clauses.specs.Head.{head_of}
use Rattle.spec_clauses.specs.Selection.{Selection, select}
use Rattle.spec_clauses.proofs.Parts.{head_of-map, terms_of-map}
use Rattle.spec_clauses.proofs.Selection.{select-index}
use Rattle.spec_fingerprints.specs.Fingerprints.{number_of_head, least_of, most_of, roots_among, positions, fingerprint_of, hypothesis_print, clause_print}
use Rattle.term_tree.specs.Bank.{tree_at}
use Rattle.term_tree.specs.declared.bank.Id.{Id}
use Rattle.clause_form.specs.declared.facts.Fact as declared
use Rattle.clause_form.specs.Facts.{fact_of}
use Rattle.clause_form.specs.Seen.{fact_at, clause_at, IdClause}
use Rattle.clause_form.specs.Fit.{clauses_at}
use Rattle.literal_selection.specs.Best.{selected_place}
use Rattle.fact_fingerprint.specs.declared.fingerprints.Fingerprint.{Fingerprint}
use Rattle.fact_fingerprint.specs.Seen.{fingerprint_seen}

-- the fingerprint of a fact of a bank, part by part
pub made : (all : List Term) (f : Fact Id) (p : Fingerprint) (ids : List Id) → p.head ≡ number_of_head (head_of f) → ids ≡ terms_of f
    → p.least ≡ map least_of (roots_among positions (map (tree_at all) ids)) → p.most ≡ map most_of (roots_among positions (map (tree_at all) ids)) → fingerprint_seen p ≡ fingerprint_of (fact_at all f)
made all f p ids head terms least most =
    let there : map (tree_at all) ids ≡ terms_of (fact_at all f) = ap (map (tree_at all)) terms ∙ sym (terms_of-map (tree_at all) f) in
    let heads : p.head ≡ number_of_head (head_of (fact_at all f)) = head ∙ ap number_of_head (sym (head_of-map (tree_at all) f)) in
    let lows : p.least ≡ map least_of (roots_among positions (terms_of (fact_at all f))) = least ∙ ap (λ ts. map least_of (roots_among positions ts)) there in
    let highs : p.most ≡ map most_of (roots_among positions (terms_of (fact_at all f))) = most ∙ ap (λ ts. map most_of (roots_among positions ts)) there in
    λ i. record { head = heads i; least = lows i; most = highs i }

-- where the place of the selected hypothesis is told
pub at_place : (c : Clause Term) (place : Option ℕ) (i : ℕ) (f : Fact Term) → place ≡ selected_place c.hypotheses → place ≡ Some i → slice_get c.hypotheses i ≡ Some f → hypothesis_print c ≡ Some (fingerprint_of f)
at_place c place i f told is there = go (select c.hypotheses) refl (sym told ∙ is) where
  go : (o : Option Selection) → select c.hypotheses ≡ o → option_map (λ (at : Selection). at.index) o ≡ Some i → hypothesis_print c ≡ Some (fingerprint_of f)
  go None e absent = cc
  go (Some at) e some =
      let index : at.index ≡ i = cc in
      let fact : Some at.fact ≡ Some f = sym (select-index c.hypotheses at e) ∙ (ap (slice_get c.hypotheses) index ∙ there) in
      ap (option_map (λ (x : Selection). fingerprint_of x.fact)) e ∙ ap (option_map fingerprint_of) fact

pub at_none : (c : Clause Term) (place : Option ℕ) → place ≡ selected_place c.hypotheses → place ≡ None → hypothesis_print c ≡ None
at_none c place told is = go (select c.hypotheses) refl (sym told ∙ is) where
  go : (o : Option Selection) → select c.hypotheses ≡ o → option_map (λ (at : Selection). at.index) o ≡ None → hypothesis_print c ≡ None
  go None e none = ap (option_map (λ (x : Selection). fingerprint_of x.fact)) e
  go (Some at) e some = cc

-- the fingerprint of a clause, where that of its hypothesis is told
pub print_where : (c : Clause Term) (found : Option Fingerprint) (p : Fingerprint) → option_map fingerprint_seen found ≡ hypothesis_print c → found ≡ Some p → fingerprint_seen p ≡ clause_print c
print_where c found p told is = ap (λ o. unwrap_or o (fingerprint_of c.conclusion)) (sym (ap (option_map fingerprint_seen) is) ∙ told)

pub print_else : (c : Clause Term) (found : Option Fingerprint) (p : Fingerprint) → option_map fingerprint_seen found ≡ hypothesis_print c → found ≡ None → fingerprint_seen p ≡ fingerprint_of c.conclusion → fingerprint_seen p ≡ clause_print c
print_else c found p told is conclusion = conclusion ∙ ap (λ o. unwrap_or o (fingerprint_of c.conclusion)) (sym (ap (option_map fingerprint_seen) is) ∙ told)

pub place_within : (c : Clause Term) (place : Option ℕ) (i : ℕ) → place ≡ selected_place c.hypotheses → place ≡ Some i → i < length c.hypotheses
place_within c place i told is = go (select c.hypotheses) refl (sym told ∙ is) where
  go : (o : Option Selection) → select c.hypotheses ≡ o → option_map (λ (at : Selection). at.index) o ≡ Some i → i < length c.hypotheses
  go None e absent = cc
  go (Some at) e some =
      let index : at.index ≡ i = cc in
      slice_get_within c.hypotheses i at.fact (ap (slice_get c.hypotheses) (sym index) ∙ select-index c.hypotheses at e)

-- a hypothesis of a bank's clause
module _ (all : List Term) (c : IdClause) (fs : List declared.Fact) (are : map fact_of fs ≡ c.hypotheses) where
  pub facts_within : (i : ℕ) → i < length (clause_at all c).hypotheses → i < length fs
  facts_within i within = omega (arith, within, length-map c.hypotheses (fact_at all), ap length are, length-map fs fact_of)

  pub fact_there : (i : ℕ) (f : declared.Fact) → i < length fs → f ≡ get_or fs i f → slice_get (clause_at all c).hypotheses i ≡ Some (fact_at all (fact_of f))
  fact_there i f within is =
      ap (λ l. slice_get (map (fact_at all) l) i) (sym are)
      ∙ (slice_get-map (fact_at all) (map fact_of fs) i
      ∙ ap (option_map (fact_at all)) (slice_get-map fact_of fs i ∙ ap (option_map fact_of) (slice_get-get_or fs i f within ∙ ap Some (sym is))))

-- the fingerprints of one hypothesis more
pub print_more : (all : List Term) (cs : List IdClause) (i : ℕ) (c : IdClause) (prints new : List (Option Fingerprint)) (p : Option Fingerprint) → map (option_map fingerprint_seen) prints ≡ map hypothesis_print (clauses_at all (take i cs)) → i < length cs → c ≡ get_or cs i c
    → new ≡ prints ++ p ∷ [] → option_map fingerprint_seen p ≡ hypothesis_print (clause_at all c) → map (option_map fingerprint_seen) new ≡ map hypothesis_print (clauses_at all (take (i + 1) cs))
print_more all cs i c prints new p was within is more told =
    let next : map hypothesis_print (clauses_at all (take (i + 1) cs)) ≡ map hypothesis_print (clauses_at all (take i cs)) ++ hypothesis_print (clause_at all c) ∷ [] =
    ap (map hypothesis_print) (map_more (clause_at all) cs i c within)
    ∙ (map-append hypothesis_print (clauses_at all (take i cs)) (clause_at all (get_or cs i c) ∷ [])
    ∙ ap (λ (x : IdClause). map hypothesis_print (clauses_at all (take i cs)) ++ hypothesis_print (clause_at all x) ∷ []) (sym is)) in
    ap (map (option_map fingerprint_seen)) more ∙ (map-append (option_map fingerprint_seen) prints (p ∷ []) ∙ ((λ j. was j ++ told j ∷ []) ∙ sym next))

pub prints_all : (all : List Term) (cs : List IdClause) (i : ℕ) (prints : List (Option Fingerprint)) → map (option_map fingerprint_seen) prints ≡ map hypothesis_print (clauses_at all (take i cs)) → length cs ≤ i
    → map (option_map fingerprint_seen) prints ≡ map hypothesis_print (clauses_at all cs)
prints_all all cs i prints was past = was ∙ ap (λ l. map hypothesis_print (clauses_at all l)) (take_all i cs past)

-- what stands at a place among the fingerprints of clauses
pub print_there : (all : List Term) (cs : List IdClause) (prints : List (Option Fingerprint)) (i : ℕ) (d : IdClause) (e : Option Fingerprint) → map (option_map fingerprint_seen) prints ≡ map hypothesis_print (clauses_at all cs) → i < length cs
    → option_map fingerprint_seen (get_or prints i e) ≡ hypothesis_print (clause_at all (get_or cs i d))
print_there all [] prints i d e same within = absurd (omega (arith, within))
print_there all (c ∷ cs) [] i d e same within = cc
print_there all (c ∷ cs) (p ∷ prints) zero d e same within = cc
print_there all (c ∷ cs) (p ∷ prints) (suc i) d e same within = let rest : map (option_map fingerprint_seen) prints ≡ map hypothesis_print (clauses_at all cs) = cc in print_there all cs prints i d e rest (omega (arith, within))

-- there are as many as clauses
pub prints_count : (all : List Term) (cs : List IdClause) (prints : List (Option Fingerprint)) → map (option_map fingerprint_seen) prints ≡ map hypothesis_print (clauses_at all cs) → length prints ≡ length cs
prints_count all cs prints same = sym (length-map prints (option_map fingerprint_seen)) ∙ (ap length same ∙ (length-map (clauses_at all cs) hypothesis_print ∙ length-map cs (clause_at all)))

-- What is shown where a certificate is accepted by the numbers beside its clauses: these with their numbers close the translation, and
-- those that rest and conclude `bad` are satisfied.
use Rattle.std.proofs.Common.{◌≡◌, ◌∙◌, ℕ, ◌+◌, true, Some, None, List, [], ◌∷◌, map, refl, ap, sym, subst}
use Rattle.std.specs.Prelude.{nat_eq}
use Rattle.spec_calculus.specs.Syntax.{Query, Protocol}
use Rattle.spec_terms.specs.Term.{Term}
use Rattle.spec_clauses.specs.Fact.{Clause}
use Rattle.spec_clauses.specs.Selection.{Selection}
use Rattle.spec_clauses.specs.Inclusion.{Has}
use Rattle.spec_clauses.specs.Subsumption.{IsCovered}
use Rattle.spec_clauses.proofs.Inclusion.{all_has, Has-map_source}
use Rattle.spec_derivations.specs.Choice.{choice_of, IsRight, Placed, clauses_in, resting_of}
use Rattle.spec_derivations.specs.Closed.{IsPairClosed}
use Rattle.spec_derivations.proofs.Choosing.{has_resting, placed_has}
use Rattle.spec_translation.specs.Satisfied.{is_bad, IsSatisfied}
use Rattle.spec_certificates.specs.Shown.{IsPlacedShown}
use Rattle.spec_certificates.specs.Certificate.{Certificate, IsInShape, Numbered, numbered_from, number_beside, by_numbers, placed_beside, placed_by}
use Rattle.spec_certificates.specs.Ruling.{Accepted, Rights, ObligedBy, IsRuledBy}
use Rattle.spec_certificates.proofs.Accepting.{IsCoveredBy, each_accepted, obliged_accepted}

-- with and without numbers they are the same clauses
placed_clauses : (numbers : List ℕ) (n : ℕ) (cs : List (Clause Term)) → clauses_in (map (placed_beside numbers) (numbered_from n cs)) ≡ cs
placed_clauses numbers n [] = refl
placed_clauses numbers n (c ∷ cs) = ap (λ ds. c ∷ ds) (placed_clauses numbers (n + 1) cs)

module _ (P : Protocol) (q : Query) (cert : Certificate) (numbers : List ℕ) where
  abbrev all : List Numbered
  all = numbered_from 1 cert.clauses

  abbrev placed : List Placed
  placed = placed_by numbers cert.clauses

  abbrev same_clauses : clauses_in placed ≡ cert.clauses
  same_clauses = placed_clauses numbers 1 cert.clauses

  module _ (given : List (Clause Term)) (shown : IsCoveredBy P q cert (by_numbers numbers) given) where
    placed_pair : (p r : Placed) (at : Selection) → Has placed p → Has placed r → p.number ≡ 0 → choice_of r.clause r.number ≡ Some at → IsPairClosed cert.clauses p.clause r.clause at
    placed_pair p r at hp hr zero_beside chosen =
        let (i, has_i, is_p) = Has-map_source (placed_beside numbers) all p hp in
        let (j, has_j, is_r) = Has-map_source (placed_beside numbers) all r hr in
        let none : choice_of i.clause (number_beside numbers i) ≡ None = ap (choice_of i.clause) (sym (ap (λ x. x.number) is_p) ∙ zero_beside) in
        let some : choice_of j.clause (number_beside numbers j) ≡ Some at = ap (λ x. choice_of x.clause x.number) (sym is_r) ∙ chosen in
        let closed = shown.closed i j at has_i has_j none some in
        subst (λ c. IsPairClosed cert.clauses c r.clause at) (sym (ap (λ x. x.clause) is_p)) (subst (λ c. IsPairClosed cert.clauses i.clause c at) (sym (ap (λ x. x.clause) is_r)) closed)

    placed_satisfied : (c : Clause Term) → Has (resting_of placed) c → is_bad c.conclusion ≡ true → IsSatisfied P q c
    placed_satisfied c h bad =
        let (p, listed, zero_beside, same) = has_resting placed c h in
        let (i, has_i, is_p) = Has-map_source (placed_beside numbers) all p listed in
        let clause : c ≡ i.clause = same ∙ ap (λ x. x.clause) is_p in
        let rests : nat_eq (number_beside numbers i) 0 ≡ true = ap (λ n. nat_eq n 0) (sym (ap (λ x. x.number) is_p) ∙ zero_beside) in
        subst (IsSatisfied P q) (sym clause) (shown.satisfied i has_i rests (ap (λ d. is_bad d.conclusion) (sym clause) ∙ bad))

  -- An accepted certificate shows the query.
  pub placed_accepted_shows : IsRuledBy numbers P q cert Accepted → (given : List (Clause Term)) × IsPlacedShown P q given placed
  placed_accepted_shows x =
      let (shapes, numbered_so) = each_accepted (λ c. IsInShape q c.clause) all (Rights numbers all (ObligedBy (by_numbers numbers) P q cert)) x in
      let (rights, obliged) = each_accepted (λ c. IsRight c.clause (number_beside numbers c)) all (ObligedBy (by_numbers numbers) P q cert) numbered_so in
      let (given, translated, shown) = obliged_accepted P q cert (by_numbers numbers) shapes obliged in (
        given,
        record {
          translation = translated;
          closes = record {
            normal = λ p h. shown.normal p.clause (subst (λ cs. Has cs p.clause) same_clauses (placed_has placed p h));
            right = λ p h.
                let (i, has_i, is_p) = Has-map_source (placed_beside numbers) all p h in
                subst (λ r. IsRight r.clause r.number) (sym is_p) (all_has (λ c. IsRight c.clause (number_beside numbers c)) all i rights has_i);
            covers = λ c h. subst (λ cs. IsCovered cs c) (sym same_clauses) (shown.covers c h);
            closed = λ p r at hp hr zero_beside chosen. subst (λ cs. IsPairClosed cs p.clause r.clause at) (sym same_clauses) (placed_pair given shown p r at hp hr zero_beside chosen);
          };
          satisfied = placed_satisfied given shown;
        },
      )

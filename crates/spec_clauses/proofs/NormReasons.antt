-- Why rules of norms read as they do: what would break if a clause that they change stayed as it is.
use Rattle.std.proofs.Common.{◌≡◌, false, true, [], ◌∷◌, refl, ap, arith}
use Rattle.std.specs.List.{cons_option}
use Rattle.spec_trees.specs.Tree.{Leaf, node}
use Rattle.spec_terms.specs.Term.{Tuple, Term, Subst}
use Rattle.spec_clauses.specs.Fact.{Att, Mev, Bad, Clause, fact_under, is_among}
use Rattle.spec_clauses.specs.Diff.{IsMetBy}
use Rattle.spec_clauses.specs.Flat.{flat, flat_under}
use Rattle.spec_clauses.specs.Inclusion.{here, there, Has, IsWithin}
use Rattle.spec_clauses.specs.Subsumption.{RowHolds}
use Rattle.spec_clauses.specs.Resolvents.{Resolvents, Resolves}
use Rattle.spec_clauses.proofs.Inclusion.{Has-within}
use Rattle.spec_clauses.proofs.Equality.{is_among-decides}
use Rattle.spec_clauses.proofs.ConstraintExamples.{constrained, diff, x0, side_c, void}
use Rattle.spec_clauses.proofs.PairExamples.{c, d, plain, first_of, one_resolvent, only_first, one_value}

abbrev pair : Term
pair = node (Tuple 2) (c ∷ d ∷ [])

-- Rule 3 looks at phases together. If `att(v0), att@1(v0) => bad()` stayed, the empty row would hold with c for v0, and with d: a row
-- wouldn't say what stands for a variable.
abbrev in_two_phases : Clause Term
in_two_phases = plain (Att 0 (Leaf 0) ∷ Att 1 (Leaf 0) ∷ []) (Bad [])

abbrev both_in_both : Clause Term
both_in_both = plain (Att 0 c ∷ Att 1 c ∷ Att 0 d ∷ Att 1 d ∷ []) (Bad [])

abbrev by_first : RowHolds in_two_phases both_in_both []
by_first = record { by = λ x. c; distinct = refl; conclusion = refl; firmly = refl; loosely = (Att 1 c ∷ Att 0 d ∷ Att 1 d ∷ [], here, (Att 0 d ∷ Att 1 d ∷ [], here, tt)); diffs = tt }

abbrev by_second : RowHolds in_two_phases both_in_both []
by_second = record { by = λ x. d; distinct = refl; conclusion = refl; firmly = refl; loosely = (Att 0 c ∷ Att 1 c ∷ Att 1 d ∷ [], there (there here), (Att 0 c ∷ Att 1 c ∷ [], there (there here), tt)); diffs = tt }

two_values : by_first.by 0 ≡ by_second.by 0 → ⊥
two_values e = cc

-- Rule 4 leaves a clause only where its variable stands in `att` of it alone. If `att(v0), mev(e(v0)) => att@1(v0)` stayed, from (c,d) for
-- v0 would follow the part c, with the event of (c,d); its resolvent with `att@1(c) => bad()` asks for that of c, which isn't there.
abbrev with_event : Clause Term
with_event = plain (Att 0 (Leaf 0) ∷ Mev 0 (Leaf 0 ∷ []) ∷ []) (Att 1 (Leaf 0))

abbrev asks_event : Clause Term
asks_event = plain (Att 0 c ∷ Mev 0 (c ∷ []) ∷ []) (Bad [])

part_follows : Has (flat (fact_under (λ x. pair) with_event.conclusion)) (Att 1 c)
part_follows = (Att 1 d ∷ [], here)

resolvent_asks : Resolves with_event (plain (Att 1 c ∷ []) (Bad [])) (first_of (Att 1 c) []) (Resolvents (asks_event ∷ []))
resolvent_asks = one_resolvent with_event (plain (Att 1 c ∷ []) (Bad [])) (first_of (Att 1 c) []) 1 ((omega arith, tt), ((omega arith, tt), ((omega arith, tt), tt)))
    (only_first c) (record { accepted = refl; most = λ r e. (r, one_value r c (let same = e in cc)) })
    asks_event refl refl (asks_event ∷ []) refl

event_is_not_there : (s : Subst) → IsWithin (flat_under s asks_event.hypotheses) (flat_under (λ x. pair) with_event.hypotheses) → ⊥
event_is_not_there s w =
    let there_is = flat_under (λ x. pair) with_event.hypotheses in
    let event = Mev 0 (c ∷ []) in
    let stands : is_among there_is event ≡ true = (is_among-decides there_is event).1 (Has-within (flat_under s asks_event.hypotheses) there_is event w (Att 0 c ∷ [], there here)) in
    let missing : is_among there_is event ≡ false = refl in cc

-- A clause that rule 4 strengthens loses its constraints. If `diff(v0;c) => att(v0)` kept its own, (c,d) for v0 would meet it, and from that
-- would follow the part c; its resolvent with `att(c) => bad()` has `diff(c;c)`, and so no norm.
abbrev all_but_c : Clause Term
all_but_c = constrained [] (diff x0 side_c ∷ []) (Att 0 (Leaf 0))

pair_is_met : IsMetBy (λ x. pair) (diff x0 side_c)
pair_is_met b e = cc

part_is_known : Has (flat (fact_under (λ x. pair) all_but_c.conclusion)) (Att 0 c)
part_is_known = (Att 0 d ∷ [], here)

nothing_is_found : Resolves all_but_c (plain (Att 0 c ∷ []) (Bad [])) (first_of (Att 0 c) []) (Resolvents [])
nothing_is_found = one_resolvent all_but_c (plain (Att 0 c ∷ []) (Bad [])) (first_of (Att 0 c) []) 1 ((omega arith, tt), ((omega arith, tt), tt))
    (only_first c) (record { accepted = refl; most = λ r e. (r, one_value r c (let same = e in cc)) })
    (constrained [] (diff side_c side_c ∷ []) (Bad [])) refl refl [] (ap (λ o. cons_option o []) (void [] (diff side_c side_c) (Bad []) (Leaf, refl)))

-- One that it leaves loses those that hold the variable, for the same reason: `att(v0), diff(v0;c) => att@1(v0)`.
abbrev passed_but_c : Clause Term
passed_but_c = constrained (Att 0 (Leaf 0) ∷ []) (diff x0 side_c ∷ []) (Att 1 (Leaf 0))

part_is_passed : Has (flat (fact_under (λ x. pair) passed_but_c.conclusion)) (Att 1 c)
part_is_passed = (Att 1 d ∷ [], here)

nothing_is_passed : Resolves passed_but_c (plain (Att 1 c ∷ []) (Bad [])) (first_of (Att 1 c) []) (Resolvents [])
nothing_is_passed = one_resolvent passed_but_c (plain (Att 1 c ∷ []) (Bad [])) (first_of (Att 1 c) []) 1 ((omega arith, tt), ((omega arith, tt), ((omega arith, tt), tt)))
    (only_first c) (record { accepted = refl; most = λ r e. (r, one_value r c (let same = e in cc)) })
    (constrained (Att 0 c ∷ []) (diff side_c side_c ∷ []) (Bad [])) refl refl [] (ap (λ o. cons_option o []) (void (Att 0 c ∷ []) (diff side_c side_c) (Bad []) (Leaf, refl)))

-- Worked examples of what would be lost if norms kept more: clauses that aren't their own norms, which conclude what their resolvents
-- don't follow.
use Rattle.std.proofs.Common.{◌≡◌, ℕ, true, [], ◌∷◌, refl, ap, sym, arith}
use Rattle.std.specs.List.{cons_option}
use Rattle.spec_trees.specs.Tree.{Leaf, node}
use Rattle.spec_terms.specs.Term.{Tuple, Term}
use Rattle.spec_terms.proofs.Decision.{true_false}
use Rattle.spec_clauses.specs.Fact.{Att, Mev, Bad, Clause, is_among}
use Rattle.spec_clauses.specs.Inclusion.{here, Has}
use Rattle.spec_clauses.specs.Resolvents.{Resolvents, Resolves}
use Rattle.spec_clauses.proofs.Equality.{is_among-decides}
use Rattle.spec_clauses.proofs.ConstraintExamples.{constrained, diff, x0, side_c, void}
use Rattle.spec_clauses.proofs.PairExamples.{c, d, plain, first_of, one_resolvent, only_first, one_value}
use Rattle.spec_derivations.specs.Derivation.{Instance}

abbrev pair : Term
pair = node (Tuple 2) (c ∷ d ∷ [])

-- `att@k(c) => bad()`
abbrev asks : ℕ → Clause Term
asks k = plain (Att k c ∷ []) (Bad [])

-- If `diff(v0;c) => att(v0)` kept its constraint, it would conclude the part c of (c,d), which isn't c; but with `att(c) => bad()`
-- it has no resolvent, as `diff(c;c)` is never met: that `bad()` follows would never be found.
abbrev any_but_c : Clause Term
any_but_c = constrained [] (diff x0 side_c ∷ []) (Att 0 (Leaf 0))

concludes_part : Instance any_but_c [] (Att 0 c)
concludes_part = record { by = λ x. pair; met = ((λ b e. cc), tt); premises_are = refl; concludes = (_, here) }

part_not_followed : Resolves any_but_c (asks 0) (first_of (Att 0 c) []) (Resolvents [])
part_not_followed = one_resolvent any_but_c (asks 0) (first_of (Att 0 c) []) 1 ((omega arith, tt), ((omega arith, tt), tt))
    (only_first c) (record { accepted = refl; most = λ r e. (r, one_value r c (let same = e in cc)) })
    (constrained [] (diff side_c side_c ∷ []) (Bad [])) refl refl [] (ap (λ o. cons_option o []) (void [] (diff side_c side_c) (Bad []) (Leaf, refl)))

-- If `att(v0), mev(e(v0)) => att@1(v0)`, where v0 doesn't stand in `att` alone, were left, it would conclude c in phase 1 from (c,d);
-- but its resolvent with `att@1(c) => bad()` asks for `mev(e(c))`, which isn't there.
abbrev known_once_announced : Clause Term
known_once_announced = plain (Att 0 (Leaf 0) ∷ Mev 0 (Leaf 0 ∷ []) ∷ []) (Att 1 (Leaf 0))

concludes_part_later : Instance known_once_announced (Att 0 c ∷ Att 0 d ∷ Mev 0 (pair ∷ []) ∷ []) (Att 1 c)
concludes_part_later = record { by = λ x. pair; met = tt; premises_are = refl; concludes = (_, here) }

asks_for_another : Resolves known_once_announced (asks 1) (first_of (Att 1 c) []) (Resolvents (plain (Att 0 c ∷ Mev 0 (c ∷ []) ∷ []) (Bad []) ∷ []))
asks_for_another = one_resolvent known_once_announced (asks 1) (first_of (Att 1 c) []) 1 ((omega arith, tt), ((omega arith, tt), ((omega arith, tt), tt)))
    (only_first c) (record { accepted = refl; most = λ r e. (r, one_value r c (let same = e in cc)) })
    (plain (Att 0 c ∷ Mev 0 (c ∷ []) ∷ []) (Bad [])) refl refl (plain (Att 0 c ∷ Mev 0 (c ∷ []) ∷ []) (Bad []) ∷ []) refl

not_announced : Has (Att 0 c ∷ Att 0 d ∷ Mev 0 (pair ∷ []) ∷ []) (Mev 0 (c ∷ [])) → ⊥
not_announced h =
    let stands : is_among (Att 0 c ∷ Att 0 d ∷ Mev 0 (pair ∷ []) ∷ []) (Mev 0 (c ∷ [])) ≡ true = (is_among-decides (Att 0 c ∷ Att 0 d ∷ Mev 0 (pair ∷ []) ∷ []) (Mev 0 (c ∷ []))).1 h in
    true_false (sym stands)

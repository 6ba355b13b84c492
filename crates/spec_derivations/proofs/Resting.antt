-- The worked example of four clauses: all that their pairs give is covered, `bad` is derived, but not by the clauses that rest.
use Rattle.std.proofs.Common.{◌≡◌, ◌∙◌, ◌⊎◌, List, [], ◌∷◌, refl, sym, subst, inl, inr, arith}
use Rattle.std.specs.Prelude.{Some, None}
use Rattle.std.specs.List.{AllByRecursion}
use Rattle.spec_trees.specs.Tree.{Leaf, node}
use Rattle.spec_terms.specs.Term.{Term, Tuple}
use Rattle.spec_clauses.specs.Fact.{Att, Tab, Bad, Clause}
use Rattle.spec_clauses.specs.Selection.{Selection}
use Rattle.spec_clauses.specs.Norm.{IsNormal}
use Rattle.spec_clauses.specs.Resolvents.{IsRawResolvent}
use Rattle.spec_clauses.specs.Inclusion.{here, there, Has}
use Rattle.spec_clauses.specs.Subsumption.{IsCovered}
use Rattle.spec_clauses.proofs.Inclusion.{all_has, Has-one}
use Rattle.spec_clauses.proofs.Subsumption.{subsumes_itself}
use Rattle.spec_clauses.proofs.PairExamples.{only_first, one_value}
use Rattle.spec_terms.proofs.Replace.{some_same}
use Rattle.spec_derivations.specs.Derivation.{nothing, by_clause, Derive}
use Rattle.spec_derivations.specs.Choice.{choice_of, IsRight, Placed, resting_of}
use Rattle.spec_derivations.specs.Closed.{IsAnswered, IsPairClosed, ArePairsClosed}
use Rattle.spec_derivations.specs.Resting.{known, unknown, enters, reads, tells, entered, four_placed, four_clauses}
use Rattle.spec_derivations.proofs.Forest.{bad_not_derived}

all_normal : AllByRecursion (λ p. IsNormal p.clause) four_placed
all_normal = (record { flat = refl; own = refl }, (record { flat = refl; own = refl }, (record { flat = refl; own = refl }, (record { flat = refl; own = refl }, tt))))

pub four_normal : (p : Placed) → Has four_placed p → IsNormal p.clause
four_normal p h = all_has (λ p. IsNormal p.clause) four_placed p all_normal h

-- each number is right but that of the clause that rests and concludes `att` of a variable
abbrev IsRightOrReads : Placed → Type 0
IsRightOrReads p = IsRight p.clause p.number ⊎ (p ≡ reads)

all_right : AllByRecursion IsRightOrReads four_placed
all_right = (inl (inl refl), (inr refl, (inl (_, refl, refl), (inl (_, refl, refl), tt))))

pub four_right : (p : Placed) → Has four_placed p → IsRightOrReads p
four_right p h = all_has IsRightOrReads four_placed p all_right h

pub reads_wrong : IsRight reads.clause reads.number → ⊥
reads_wrong (inl solved) = cc
reads_wrong (inr other) = cc

-- The hypotheses that are chosen.
abbrev knowing : Selection
knowing = record { index = 0; fact = Att 0 known; others = [] }

abbrev entering : Selection
entering = record { index = 0; fact = Tab 0 (known ∷ []); others = [] }

abbrev IsClosedPair : Placed → Placed → Type 0
IsClosedPair p q = (at : Selection) → p.number ≡ 0 → choice_of q.clause q.number ≡ Some at → IsPairClosed four_clauses p.clause q.clause at

closed_by : (p q : Placed) (chosen : Selection) → choice_of q.clause q.number ≡ Some chosen → IsPairClosed four_clauses p.clause q.clause chosen → IsClosedPair p q
closed_by p q chosen e closed at zero_beside is = subst (IsPairClosed four_clauses p.clause q.clause) (some_same (sym e ∙ is)) closed

no_unifier : (p q : Placed) (at : Selection) → IsRawResolvent p.clause q.clause at None → IsPairClosed four_clauses p.clause q.clause at
no_unifier p q at r = record { raw = None; is_raw = r; answered = tt }

enters_telling : IsRawResolvent enters.clause tells.clause knowing None
enters_telling = record { offset = 0; apart = (tt, tt); unified = λ s e. cc }

enters_entered : IsRawResolvent enters.clause entered.clause entering None
enters_entered = record { offset = 0; apart = (tt, tt); unified = λ s e. cc }

reads_entered : IsRawResolvent reads.clause entered.clause entering None
reads_entered = record { offset = 1; apart = ((omega arith, tt), ((omega arith, tt), tt)); unified = λ s e. cc }

reads_telling : IsRawResolvent reads.clause tells.clause knowing (Some entered.clause)
reads_telling = record {
  offset = 1;
  apart = ((omega arith, tt), ((omega arith, tt), tt));
  unified = (
    only_first known,
    record { accepted = refl; most = λ r e. (r, one_value r known (let same = e in cc)) },
    refl,
  );
}

telling_answered : IsAnswered four_clauses (Some entered.clause)
telling_answered c h = subst (IsCovered four_clauses) (sym (Has-one h)) (entered.clause, (_, there (there (there here))), subsumes_itself entered.clause (record { flat = refl; own = refl }))

-- a clause that rests is paired with the two others alone
row_resting : (p : Placed) → IsPairClosed four_clauses p.clause tells.clause knowing → IsPairClosed four_clauses p.clause entered.clause entering → AllByRecursion (IsClosedPair p) four_placed
row_resting p telling entering_too = ((λ at e is. cc), ((λ at e is. cc), (closed_by p tells knowing refl telling, (closed_by p entered entering refl entering_too, tt))))

all_closed : AllByRecursion (λ p. AllByRecursion (IsClosedPair p) four_placed) four_placed
all_closed = (
  row_resting enters (no_unifier enters tells knowing enters_telling) (no_unifier enters entered entering enters_entered),
  (
    row_resting reads (record { raw = Some entered.clause; is_raw = reads_telling; answered = telling_answered }) (no_unifier reads entered entering reads_entered),
    (
      ((λ at e is. cc), ((λ at e is. cc), ((λ at e is. cc), ((λ at e is. cc), tt)))),
      (((λ at e is. cc), ((λ at e is. cc), ((λ at e is. cc), ((λ at e is. cc), tt)))), tt),
    ),
  ),
)

pub four_closed : ArePairsClosed four_placed
four_closed p q at hp hq = all_has (IsClosedPair p) four_placed q (all_has (λ p. AllByRecursion (IsClosedPair p) four_placed) four_placed p all_closed hp) hq at

-- The entry is a pair, of which the second clause knows a part.
pub four_derive : Derive four_clauses [] (Bad [] ∷ [])
four_derive =
    let entry : Derive four_clauses [] (Tab 0 (node (Tuple 2) (known ∷ unknown ∷ []) ∷ []) ∷ []) = by_clause refl (_, here) (record { by = Leaf; met = tt; premises_are = refl; concludes = (_, here) }) nothing nothing in
    let part : Derive four_clauses [] (Att 0 known ∷ []) = by_clause refl (_, there here) (record { by = λ x. node (Tuple 2) (known ∷ unknown ∷ []); met = tt; premises_are = refl; concludes = (_, here) }) entry nothing in
    by_clause refl (_, there (there here)) (record { by = Leaf; met = tt; premises_are = refl; concludes = (_, here) }) part nothing

-- Neither of the clauses that rest concludes `bad`.
resting_not_bad : (c : Clause Term) → Has (resting_of four_placed) c → (us : List Term) → c.conclusion ≡ Bad us → ⊥
resting_not_bad c h us = all_has (λ c. c.conclusion ≡ Bad us → ⊥) (resting_of four_placed) c ((λ e. cc), ((λ e. cc), tt)) h

pub resting_lose : Derive (resting_of four_placed) [] (Bad [] ∷ []) → ⊥
resting_lose d = bad_not_derived [] resting_not_bad d

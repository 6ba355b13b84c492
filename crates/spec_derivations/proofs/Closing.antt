-- Closed lists: what counts is what they have, and the worked example is one.
use Rattle.std.proofs.Common.{◌≡◌, ◌↔◌, ℕ, Bool, true, false, cond, nat_eq, List, [], ◌∷◌, refl, sym, ap, ◌∙◌, subst, eqb-true, arith}
use Rattle.std.specs.Prelude.{Option, Some, None}
use Rattle.std.specs.List.{AllByRecursion}
use Rattle.spec_trees.specs.Tree.{Leaf, node, bind, after}
use Rattle.spec_terms.specs.Term.{Term, Subst, Tuple}
use Rattle.spec_terms.proofs.Replace.{some_same, some_none}
use Rattle.spec_clauses.specs.Fact.{Clause, Att, Mess, Bad}
use Rattle.spec_clauses.specs.Selection.{Selection, select, is_solved}
use Rattle.spec_clauses.specs.Norm.{IsNormal, norms}
use Rattle.spec_clauses.specs.Limits.{is_large_raw}
use Rattle.spec_clauses.specs.Resolvents.{IsRawResolvent, Answer, NoUnifier, Large, Resolvents, answer_of, Resolves}
use Rattle.spec_clauses.specs.Inclusion.{Picks, here, there, Has}
use Rattle.spec_clauses.specs.Subsumption.{IsCovered}
use Rattle.spec_clauses.proofs.Inclusion.{Has-map}
use Rattle.spec_clauses.proofs.Selection.{select-none}
use Rattle.spec_clauses.proofs.Subsumption.{covered_grown, subsumes_itself}
use Rattle.spec_clauses.proofs.Answers.{one_answer}
use Rattle.spec_derivations.specs.Derivation.{nothing, by_clause, Derive}
use Rattle.spec_derivations.specs.Choice.{clauses_in, number_of, with_selected, all_selected}
use Rattle.spec_derivations.specs.Closed.{Closes, solved_of, IsAnswered, IsPairClosed}
use Rattle.spec_derivations.specs.Laws.{SolvedClausesSuffice}
use Rattle.spec_derivations.proofs.Forest.{bad_not_derived}
use Rattle.spec_derivations.proofs.Choosing.{selection_chosen, all_selected-clauses, closed_by_selection}
use Rattle.spec_derivations.specs.Example.{channel, secret, message, knows_channel, makes_names, listens, sends, tells_secret, five_clauses, sends_pair, gives_message}

module _ (clauses others : List (Clause Term)) (grown : (c : Clause Term) → Has clauses c → Has others c) where
  answered_grown : (raw : Option (Clause Term)) → IsAnswered clauses raw → IsAnswered others raw
  answered_grown None a = tt
  answered_grown (Some raw) a = λ c h. covered_grown clauses others c grown (a c h)

-- A list with the same clauses, in whatever order and however often, is closed too.
pub closes_same : (given clauses others : List (Clause Term)) → ((c : Clause Term) → Has clauses c → Has others c) → ((c : Clause Term) → Has others c → Has clauses c) → Closes given clauses → Closes given others
closes_same given clauses others to from closes = closed_by_selection given others
    (λ c h. closes.normal (with_selected c) (selected c h))
    (λ c h. covered_grown clauses others c to (subst (λ cs. IsCovered cs c) (all_selected-clauses clauses) (closes.covers c h)))
    (λ i j at h k solved some.
    let p = closes.closed (with_selected i) (with_selected j) at (selected i h) (selected j k) (ap number_of ((select-none i.hypotheses).1 solved)) (selection_chosen j ∙ some) in
    record { raw = p.raw; is_raw = p.is_raw; answered = answered_grown (clauses_in (all_selected clauses)) others (λ c h. to c (subst (λ cs. Has cs c) (all_selected-clauses clauses) h)) p.raw p.answered })
  where
    selected : (c : Clause Term) → Has others c → Has (all_selected clauses) (with_selected c)
    selected c h = Has-map with_selected clauses c (from c h)

-- A pair's answer closes it: no unifier, or resolvents that are covered.
module _ (clauses : List (Clause Term)) (i j : Clause Term) (at : Selection) where
  pub none_closes : Resolves i j at NoUnifier → IsPairClosed clauses i j at
  none_closes h = go h.0 h.1 h.2 where
    of_clause : (b : Bool) (cs : List (Clause Term)) → NoUnifier ≡ cond b Large (Resolvents cs) → ⊥
    of_clause true cs e = cc
    of_clause false cs e = cc

    go : (raw : Option (Clause Term)) → IsRawResolvent i j at raw → NoUnifier ≡ answer_of raw → IsPairClosed clauses i j at
    go None r e = record { raw = None; is_raw = r; answered = tt }
    go (Some raw) r e = absurd (of_clause (is_large_raw raw) (norms raw) e)

  pub resolvents_close : (cs : List (Clause Term)) → Resolves i j at (Resolvents cs) → ((c : Clause Term) → Has cs c → IsCovered clauses c) → IsPairClosed clauses i j at
  resolvents_close cs h covered = go h.0 h.1 h.2 where
    of_clause : (b : Bool) (ds : List (Clause Term)) → Resolvents cs ≡ cond b Large (Resolvents ds) → cs ≡ ds
    of_clause true ds e = cc
    of_clause false ds e = cc

    go : (raw : Option (Clause Term)) → IsRawResolvent i j at raw → Resolvents cs ≡ answer_of raw → IsPairClosed clauses i j at
    go None r e = absurd (let clash : Resolvents cs ≡ NoUnifier = e in cc)
    go (Some raw) r e =
        let same = of_clause (is_large_raw raw) (norms raw) e in
        record { raw = Some raw; is_raw = r; answered = λ c k. covered c (subst (λ (ds : List (Clause Term)). Has ds c) (sym same) k) }

-- what holds of each item holds of what the list has
all_has : {X : Type 0} (P : X → Type 0) {xs rest : List X} {x : X} → AllByRecursion P xs → Picks xs x rest → P x
all_has P a here = a.0
all_has P a (there p) = all_has P a.1 p

all_normal : AllByRecursion IsNormal five_clauses
all_normal = (record { flat = refl; own = refl }, (record { flat = refl; own = refl }, (record { flat = refl; own = refl }, (record { flat = refl; own = refl }, (record { flat = refl; own = refl }, tt)))))

-- The pair, as the list's closure asks of it.
abbrev IsClosedPair : Clause Term → Clause Term → Type 0
IsClosedPair i j = (at : Selection) → is_solved i.hypotheses ≡ true → select j.hypotheses ≡ Some at → IsPairClosed five_clauses i j at

unsolved_first : (i j : Clause Term) → is_solved i.hypotheses ≡ false → IsClosedPair i j
unsolved_first i j e at solved selected = absurd (let clash = e in let other = solved in cc)

nothing_selected : (i j : Clause Term) → select j.hypotheses ≡ None → IsClosedPair i j
nothing_selected i j e at solved selected = absurd (some_none (sym selected ∙ e))

selected_pair : (i j : Clause Term) (chosen : Selection) → select j.hypotheses ≡ Some chosen → IsPairClosed five_clauses i j chosen → IsClosedPair i j
selected_pair i j chosen e p at solved selected = subst (IsPairClosed five_clauses i j) (some_same (sym e ∙ selected)) p

no_unifier : (i j : Clause Term) (at : Selection) → IsRawResolvent i j at None → IsPairClosed five_clauses i j at
no_unifier i j at r = record { raw = None; is_raw = r; answered = tt }

listening : Selection
listening = record { index = 0; fact = Mess 0 (Leaf 1) (Leaf 0); others = Att 0 (Leaf 1) ∷ [] }

telling : Selection
telling = record { index = 0; fact = Att 0 secret; others = [] }

-- A channel's name, or an attacker's, is no message and no secret.
channel_listening : IsRawResolvent knows_channel listens listening None
unfolding listening
channel_listening = record { offset = 0; apart = (tt, tt); unified = λ s e. cc }

names_listening : IsRawResolvent makes_names listens listening None
unfolding listening
names_listening = record { offset = 1; apart = ((omega arith, tt), tt); unified = λ s e. cc }

channel_telling : IsRawResolvent knows_channel tells_secret telling None
unfolding telling
channel_telling = record { offset = 0; apart = (tt, tt); unified = λ s e. cc }

names_telling : IsRawResolvent makes_names tells_secret telling None
unfolding telling
names_telling = record { offset = 1; apart = ((omega arith, tt), tt); unified = λ s e. cc }

sends_telling : IsRawResolvent sends tells_secret telling None
unfolding telling
sends_telling = record { offset = 2; apart = ((omega arith, tt), ((omega arith, tt), ((omega arith, tt), ((omega arith, tt), tt)))); unified = λ s e. cc }

-- What is sent and heard is known already: `att(v0), att(v1), att(v0) => att(v1)`.
abbrev pub heard : Subst
heard x = cond (nat_eq x 3) (Leaf 0) (cond (nat_eq x 2) (Leaf 1) (Leaf x))

echo : Clause Term
echo = record { hypotheses = Att 0 (Leaf 0) ∷ Att 0 (Leaf 1) ∷ Att 0 (Leaf 0) ∷ []; diffs = []; conclusion = Att 0 (Leaf 1) }

pub heard_most : (r : Subst) → r 0 ≡ r 3 → r 1 ≡ r 2 → (x : ℕ) → after r heard x ≡ r x
heard_most r channels messages x = go (nat_eq x 3) (nat_eq x 2) refl refl where
  go : (a b : Bool) → nat_eq x 3 ≡ a → nat_eq x 2 ≡ b → bind r (cond a (Leaf 0) (cond b (Leaf 1) (Leaf x))) ≡ r x
  go true b e f = channels ∙ ap r (sym (eqb-true x 3 e))
  go false true e f = messages ∙ ap r (sym (eqb-true x 2 f))
  go false false e f = refl

sends_listening : IsRawResolvent sends listens listening (Some echo)
unfolding listening echo
sends_listening = record {
  offset = 2;
  apart = ((omega arith, tt), ((omega arith, tt), ((omega arith, tt), ((omega arith, tt), tt))));
  unified = (
    heard,
    record {
      accepted = refl;
      most = λ r e. (r, heard_most r (let same = e in cc) (let same = e in cc));
    },
    refl,
  );
}

echo_answered : IsAnswered five_clauses (Some echo)
unfolding echo
echo_answered c h = elim h.1 [ ]

row_unsolved : (i : Clause Term) → is_solved i.hypotheses ≡ false → (js : List (Clause Term)) → AllByRecursion (IsClosedPair i) js
row_unsolved i e [] = tt
row_unsolved i e (j ∷ js) = (unsolved_first i j e, row_unsolved i e js)

row_solved : (i : Clause Term) → IsPairClosed five_clauses i listens listening → IsPairClosed five_clauses i tells_secret telling → AllByRecursion (IsClosedPair i) five_clauses
unfolding listening telling
row_solved i p q = (nothing_selected i knows_channel refl, (nothing_selected i makes_names refl, (selected_pair i listens listening refl p, (nothing_selected i sends refl, (selected_pair i tells_secret telling refl q, tt)))))

all_closed : AllByRecursion (λ i. AllByRecursion (IsClosedPair i) five_clauses) five_clauses
all_closed = (
  row_solved knows_channel (no_unifier knows_channel listens listening channel_listening) (no_unifier knows_channel tells_secret telling channel_telling),
  (
    row_solved makes_names (no_unifier makes_names listens listening names_listening) (no_unifier makes_names tells_secret telling names_telling),
    (
      row_unsolved listens refl five_clauses,
      (
        row_solved sends (record { raw = Some echo; is_raw = sends_listening; answered = echo_answered }) (no_unifier sends tells_secret telling sends_telling),
        (
          row_unsolved tells_secret refl five_clauses,
          tt,
        ),
      ),
    ),
  ),
)

pub five_close : Closes five_clauses five_clauses
five_close = closed_by_selection five_clauses five_clauses
    (λ c h. all_has IsNormal all_normal h.1)
    (λ c h. (c, h, subsumes_itself c (all_has IsNormal all_normal h.1)))
    (λ i j at h k. all_has (IsClosedPair i) (all_has (λ i. AllByRecursion (IsClosedPair i) five_clauses) all_closed h.1) k.1 at)

-- The attacker hears what it has sent: a derivation that uses a clause that isn't solved.
pub channel_derived : Derive five_clauses [] (Att 0 channel ∷ [])
channel_derived =
    let known : Derive five_clauses [] (Att 0 channel ∷ []) = by_clause refl (_, here) (record { by = Leaf; met = tt; premises_are = refl; concludes = (_, here) }) nothing nothing in
    let both : Derive five_clauses [] (Att 0 channel ∷ Att 0 channel ∷ []) = by_clause refl (_, here) (record { by = Leaf; met = tt; premises_are = refl; concludes = (_, here) }) nothing known in
    let sent : Derive five_clauses [] (Mess 0 channel channel ∷ Att 0 channel ∷ []) = by_clause refl (_, there (there (there here))) (record { by = λ x. channel; met = tt; premises_are = refl; concludes = (_, here) }) both known in
    by_clause refl (_, there (there here)) (record { by = λ x. channel; met = tt; premises_are = refl; concludes = (_, here) }) sent nothing

-- A pair is heard on the channel: of its parts the channel is known already.
pair : Term
pair = node (Tuple 2) (channel ∷ message ∷ [])

pair_heard : Subst
pair_heard x = cond (nat_eq x 1) channel (cond (nat_eq x 0) pair (Leaf x))

pair_most : (r : Subst) → channel ≡ r 1 → bind r pair ≡ r 0 → (x : ℕ) → after r pair_heard x ≡ r x
unfolding pair_heard pair
pair_most r channels pairs x = go (nat_eq x 1) (nat_eq x 0) refl refl where
  go : (a b : Bool) → nat_eq x 1 ≡ a → nat_eq x 0 ≡ b → bind r (cond a channel (cond b pair (Leaf x))) ≡ r x
  go true b e f = channels ∙ ap r (sym (eqb-true x 1 e))
  go false true e f = pairs ∙ ap r (sym (eqb-true x 0 f))
  go false false e f = refl

pair_resolves : Resolves sends_pair listens listening (Resolvents (gives_message ∷ []))
unfolding listening pair_heard pair
pair_resolves = (
  Some (record { hypotheses = Att 0 channel ∷ []; diffs = []; conclusion = Att 0 pair }),
  record {
    offset = 0;
    apart = (tt, ((tt), tt));
    unified = (
      pair_heard,
      record {
        accepted = refl;
        most = λ r e. (r, pair_most r (let same = e in cc) (let same = e in cc));
      },
      refl,
    );
  },
  refl,
)

pub pair_resolvents : (at : Selection) (answer : Answer) → select listens.hypotheses ≡ Some at → Resolves sends_pair listens at answer ↔ (answer ≡ Resolvents (gives_message ∷ []))
unfolding listening
pair_resolvents at answer e =
    let same : listening ≡ at = some_same e in
    subst (λ (s : Selection). Resolves sends_pair listens s answer ↔ (answer ≡ Resolvents (gives_message ∷ []))) same
    (λ h. one_answer sends_pair listens listening answer (Resolvents (gives_message ∷ [])) h pair_resolves, λ h. subst (λ (a : Answer). Resolves sends_pair listens listening a) (sym h) pair_resolves)

-- No solved clause of the five concludes `bad`, so none of the five derives it.
solved_not_bad : (c : Clause Term) → Has (solved_of five_clauses) c → (us : List Term) → c.conclusion ≡ Bad us → ⊥
solved_not_bad c h us = all_has (λ c. c.conclusion ≡ Bad us → ⊥) all_other h.1 where
  all_other : AllByRecursion (λ c. c.conclusion ≡ Bad us → ⊥) (solved_of five_clauses)
  all_other = ((λ e. cc), ((λ e. cc), ((λ e. cc), tt)))

pub secret_kept : SolvedClausesSuffice → Derive five_clauses [] (Bad [] ∷ []) → ⊥
secret_kept suffice d = bad_not_derived [] solved_not_bad (suffice five_clauses five_clauses five_close [] (Bad [] ∷ []) d)

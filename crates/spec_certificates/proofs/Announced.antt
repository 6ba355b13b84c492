-- The worked example: its translation, that nine clauses are closed and satisfied, and a run.
use Rattle.std.proofs.Common.{◌≡◌, ◌∙◌, ℕ, zero, suc, Bool, true, false, cond, nat_eq, Some, None, List, [], ◌∷◌, refl, ap, sym, subst, eqb-true, arith}
use Rattle.std.specs.Prelude.{Contains, slice_get}
use Rattle.std.specs.List.{AllByRecursion}
use Rattle.spec_trees.specs.Tree.{Leaf, node, bind, after}
use Rattle.spec_calculus.specs.Syntax.{Variable, EventTerm}
use Rattle.spec_calculus.specs.Values.{MadeName, Environment}
use Rattle.spec_calculus.specs.Runs.{Configuration, run}
use Rattle.spec_calculus.specs.Secrecy.{AllPerformed, Holds}
use Rattle.spec_calculus.specs.Matching.{rules_of}
use Rattle.spec_calculus.specs.Refusals.{IsUniform}
use Rattle.spec_well_formed.specs.Rules.{IsProperRule}
use Rattle.spec_terms.specs.Term.{Free, Attacker, Term, Subst}
use Rattle.spec_terms.proofs.Replace.{some_same, some_none}
use Rattle.spec_clauses.specs.Fact.{Att, Mess, Ev, Mev, Bad, Clause}
use Rattle.spec_clauses.specs.Selection.{Selection, select, is_solved}
use Rattle.spec_clauses.specs.Norm.{IsNormal}
use Rattle.spec_clauses.specs.Resolvents.{IsRawResolvent}
use Rattle.spec_clauses.specs.Inclusion.{here, Has}
use Rattle.spec_clauses.specs.Subsumption.{IsCovered}
use Rattle.spec_clauses.proofs.Inclusion.{all_has, Has-from_Contains, Has-append_left, Has-append_right, Has-one}
use Rattle.spec_clauses.proofs.Subsumption.{subsumes_itself}
use Rattle.spec_derivations.specs.Closed.{IsAnswered, IsPairClosed, Closes}
use Rattle.spec_derivations.proofs.Choosing.{closed_by_selection}
use Rattle.spec_derivations.proofs.Closing.{heard, heard_most}
use Rattle.spec_translation.specs.Course.{Done}
use Rattle.spec_translation.specs.Translation.{Clauses, IsTranslation}
use Rattle.spec_translation.specs.Satisfied.{is_bad, IsMet, AreSatisfied}
use Rattle.spec_certificates.specs.Shown.{IsProper, IsShown}
use Rattle.spec_certificates.proofs.Selected.{shown_by_selection}
use Rattle.spec_certificates.specs.Announcing.{begins, ends, announced, reversed, announcing, one_copy, performed_by, name, clause, process_clauses, eight_clauses, nine_clauses}

-- what is said of the protocol and the query
proper_rules : (d : ℕ) → AllByRecursion IsProperRule (rules_of announcing d)
proper_rules zero = tt
proper_rules (suc k) = tt

uniform_rules : IsUniform announcing
uniform_rules zero = tt
uniform_rules (suc k) = tt

pub announcing_proper : IsProper announcing announced
announcing_proper = record {
  rules = record { proper = proper_rules; uniform = uniform_rules };
  patterns = tt;
  query = ((tt, (tt, tt)), (omega arith, omega arith, (omega arith, omega arith, tt)));
}

-- the translation
abbrev pub begun : Clause Term
begun = clause [] (Ev 1 (name ∷ []))

abbrev pub heard_name : Clause Term
heard_name = clause (Mev 1 (name ∷ []) ∷ []) (Att 0 name)

abbrev pub ended : Clause Term
ended = clause (Mev 1 (name ∷ []) ∷ []) (Ev 2 (name ∷ []))

abbrev pub asked : Clause Term
asked = clause (Ev 2 (Leaf 0 ∷ []) ∷ []) (Bad (Leaf 0 ∷ []))

abbrev pub shown : Clause Term
shown = clause (Mev 1 (name ∷ []) ∷ []) (Bad (name ∷ []))

pub announcing_translated : IsTranslation announcing announced (Clauses eight_clauses)
announcing_translated = (
  Done process_clauses 65530,
  (0, tt, (Done (heard_name ∷ ended ∷ []) 65530, (Done (ended ∷ []) 65530, (Done [] 65530, refl, refl), refl), refl)),
  refl,
)

-- a run of one copy
pub announcing_runs : (c : Configuration) × (run announcing one_copy ≡ Some c) × (c.events ≡ performed_by 1 ∷ performed_by 2 ∷ [])
announcing_runs = (_, refl, refl)

-- The event that announces a name is preceded by none.
none_before : (extension : Environment) (alternative : List EventTerm) → Contains ((ends (Leaf (Variable 1)) ∷ []) ∷ []) alternative → AllPerformed extension alternative [] → ⊥
none_before extension alternative has performed =
    let same : alternative ≡ ends (Leaf (Variable 1)) ∷ [] = Has-one (Has-from_Contains ((ends (Leaf (Variable 1)) ∷ []) ∷ []) alternative has) in
    let all = subst (λ es. AllPerformed extension es []) same performed in
    let (k, within, at) = all.0 in
    absurd (omega (arith, within))

pub reversed_violated : Holds announcing reversed → ⊥
reversed_violated h =
    let (c, reached, happened) = announcing_runs in
    h one_copy c reached (
      0,
      record {
        environment = record { name = Variable 1; value = Leaf (MadeName 2 0) } ∷ [];
        is_instance = ap (λ es. slice_get es 0) happened;
        unpreceded = λ extension alternative same has performed. none_before extension alternative has performed;
      },
    )

-- Each pair is closed.
abbrev IsClosedPair : Clause Term → Clause Term → Type 0
IsClosedPair i j = (at : Selection) → is_solved i.hypotheses ≡ true → select j.hypotheses ≡ Some at → IsPairClosed nine_clauses i j at

unsolved_first : (i j : Clause Term) → is_solved i.hypotheses ≡ false → IsClosedPair i j
unsolved_first i j e at solved selected = absurd (let clash = e in let other = solved in cc)

nothing_selected : (i j : Clause Term) → select j.hypotheses ≡ None → IsClosedPair i j
nothing_selected i j e at solved selected = absurd (some_none (sym selected ∙ e))

selected_pair : (i j : Clause Term) (chosen : Selection) → select j.hypotheses ≡ Some chosen → IsPairClosed nine_clauses i j chosen → IsClosedPair i j
selected_pair i j chosen e p at solved selected = subst (IsPairClosed nine_clauses i j) (some_same (sym e ∙ selected)) p

no_unifier : (i j : Clause Term) (at : Selection) → IsRawResolvent i j at None → IsPairClosed nine_clauses i j at
no_unifier i j at r = record { raw = None; is_raw = r; answered = tt }

abbrev pub knows_channel : Clause Term
knows_channel = clause [] (Att 0 (node (Free 1) []))

abbrev pub makes_names : Clause Term
makes_names = clause [] (Att 0 (node Attacker (Leaf 0 ∷ [])))

abbrev pub listens : Clause Term
listens = clause (Mess 0 (Leaf 1) (Leaf 0) ∷ Att 0 (Leaf 1) ∷ []) (Att 0 (Leaf 0))

abbrev pub sends : Clause Term
sends = clause (Att 0 (Leaf 0) ∷ Att 0 (Leaf 1) ∷ []) (Mess 0 (Leaf 0) (Leaf 1))

abbrev pub listening : Selection
listening = record { index = 0; fact = Mess 0 (Leaf 1) (Leaf 0); others = Att 0 (Leaf 1) ∷ [] }

abbrev pub asking : Selection
asking = record { index = 0; fact = Ev 2 (Leaf 0 ∷ []); others = [] }

event_number : (m n : ℕ) {ts us : List Term} → Ev m ts ≡ Ev n us → m ≡ n
event_number m n e = cc

-- No other fact is a message, and none but one is the event at the end.
pub channel_listening : IsRawResolvent knows_channel listens listening None
channel_listening = record { offset = 0; apart = (tt, tt); unified = λ s e. cc }

pub names_listening : IsRawResolvent makes_names listens listening None
names_listening = record { offset = 1; apart = ((omega arith, tt), tt); unified = λ s e. cc }

pub begun_listening : IsRawResolvent begun listens listening None
begun_listening = record { offset = 1; apart = ((omega arith, tt), tt); unified = λ s e. cc }

pub heard_listening : IsRawResolvent heard_name listens listening None
heard_listening = record { offset = 1; apart = ((omega arith, tt), ((omega arith, tt), tt)); unified = λ s e. cc }

pub ended_listening : IsRawResolvent ended listens listening None
ended_listening = record { offset = 1; apart = ((omega arith, tt), ((omega arith, tt), tt)); unified = λ s e. cc }

pub shown_listening : IsRawResolvent shown listens listening None
shown_listening = record { offset = 1; apart = ((omega arith, tt), ((omega arith, tt), tt)); unified = λ s e. cc }

pub channel_asking : IsRawResolvent knows_channel asked asking None
channel_asking = record { offset = 0; apart = (tt, tt); unified = λ s e. cc }

pub names_asking : IsRawResolvent makes_names asked asking None
names_asking = record { offset = 1; apart = ((omega arith, tt), tt); unified = λ s e. cc }

pub sends_asking : IsRawResolvent sends asked asking None
sends_asking = record { offset = 2; apart = ((omega arith, tt), ((omega arith, tt), ((omega arith, tt), ((omega arith, tt), tt)))); unified = λ s e. cc }

pub begun_asking : IsRawResolvent begun asked asking None
begun_asking = record { offset = 1; apart = ((omega arith, tt), tt); unified = λ s e. absurd (omega (arith, event_number 1 2 e)) }

pub heard_asking : IsRawResolvent heard_name asked asking None
heard_asking = record { offset = 1; apart = ((omega arith, tt), ((omega arith, tt), tt)); unified = λ s e. cc }

pub shown_asking : IsRawResolvent shown asked asking None
shown_asking = record { offset = 1; apart = ((omega arith, tt), ((omega arith, tt), tt)); unified = λ s e. cc }

-- What is sent and heard is known already: `att(v0), att(v1), att(v0) => att(v1)`.
abbrev pub echo : Clause Term
echo = clause (Att 0 (Leaf 0) ∷ Att 0 (Leaf 1) ∷ Att 0 (Leaf 0) ∷ []) (Att 0 (Leaf 1))

pub sends_listening : IsRawResolvent sends listens listening (Some echo)
sends_listening = record {
  offset = 2;
  apart = ((omega arith, tt), ((omega arith, tt), ((omega arith, tt), ((omega arith, tt), tt))));
  unified = (
    heard,
    record {
      accepted = refl;
      most = λ r e. (r, heard_most r (let same = e in cc) (let same = e in cc));
    },
    refl,
  );
}

echo_answered : IsAnswered nine_clauses (Some echo)
echo_answered c h = elim h.1 [ ]

-- The name that ended is the one that is asked for: `mev(begins(n[v0])) => bad(n[v0])`.
named : Subst
named x = cond (nat_eq x 1) name (Leaf x)

named_most : (r : Subst) → bind r name ≡ r 1 → (x : ℕ) → after r named x ≡ r x
unfolding named
named_most r same x = go (nat_eq x 1) refl where
  go : (a : Bool) → nat_eq x 1 ≡ a → bind r (cond a name (Leaf x)) ≡ r x
  go true e = same ∙ ap r (sym (eqb-true x 1 e))
  go false e = refl

pub ended_asking : IsRawResolvent ended asked asking (Some shown)
unfolding named
ended_asking = record {
  offset = 1;
  apart = ((omega arith, tt), ((omega arith, tt), tt));
  unified = (
    named,
    record {
      accepted = refl;
      most = λ r e. (r, named_most r (let same = e in cc));
    },
    refl,
  );
}

all_normal : AllByRecursion IsNormal nine_clauses
all_normal = (record { flat = refl; own = refl }, (record { flat = refl; own = refl }, (record { flat = refl; own = refl }, (record { flat = refl; own = refl }, (record { flat = refl; own = refl }, (record { flat = refl; own = refl }, (record { flat = refl; own = refl }, (record { flat = refl; own = refl }, (record { flat = refl; own = refl }, tt)))))))))

covers_itself : (c : Clause Term) → Has nine_clauses c → IsCovered nine_clauses c
covers_itself c h =
    (c, h, subsumes_itself c (all_has IsNormal nine_clauses c all_normal h))

shown_answered : IsAnswered nine_clauses (Some shown)
shown_answered c h = covers_itself c (subst (Has nine_clauses) (sym (Has-one h)) (Has-append_right eight_clauses (clause (Mev 1 (name ∷ []) ∷ []) (Bad (name ∷ [])) ∷ []) (clause (Mev 1 (name ∷ []) ∷ []) (Bad (name ∷ []))) ([], here)))

row_unsolved : (i : Clause Term) → is_solved i.hypotheses ≡ false → (js : List (Clause Term)) → AllByRecursion (IsClosedPair i) js
row_unsolved i e [] = tt
row_unsolved i e (j ∷ js) = (unsolved_first i j e, row_unsolved i e js)

row_solved : (i : Clause Term) → IsPairClosed nine_clauses i listens listening → IsPairClosed nine_clauses i asked asking → AllByRecursion (IsClosedPair i) nine_clauses
row_solved i p q = (
  nothing_selected i knows_channel refl,
  (
    nothing_selected i makes_names refl,
    (
      selected_pair i listens listening refl p,
      (
        nothing_selected i sends refl,
        (
          nothing_selected i begun refl,
          (
            nothing_selected i heard_name refl,
            (
              nothing_selected i ended refl,
              (selected_pair i asked asking refl q, (nothing_selected i shown refl, tt)),
            ),
          ),
        ),
      ),
    ),
  ),
)

all_closed : AllByRecursion (λ i. AllByRecursion (IsClosedPair i) nine_clauses) nine_clauses
all_closed = (
  row_solved knows_channel (no_unifier knows_channel listens listening channel_listening) (no_unifier knows_channel asked asking channel_asking),
  (
    row_solved makes_names (no_unifier makes_names listens listening names_listening) (no_unifier makes_names asked asking names_asking),
    (
      row_unsolved listens refl nine_clauses,
      (
        row_solved sends (record { raw = Some echo; is_raw = sends_listening; answered = echo_answered }) (no_unifier sends asked asking sends_asking),
        (
          row_solved begun (no_unifier begun listens listening begun_listening) (no_unifier begun asked asking begun_asking),
          (
            row_solved heard_name (no_unifier heard_name listens listening heard_listening) (no_unifier heard_name asked asking heard_asking),
            (
              row_solved ended (no_unifier ended listens listening ended_listening) (record { raw = Some shown; is_raw = ended_asking; answered = shown_answered }),
              (
                row_unsolved asked refl nine_clauses,
                (row_solved shown (no_unifier shown listens listening shown_listening) (no_unifier shown asked asking shown_asking), tt),
              ),
            ),
          ),
        ),
      ),
    ),
  ),
)

nine_close : Closes eight_clauses nine_clauses
nine_close = closed_by_selection eight_clauses nine_clauses
    (λ c h. all_has IsNormal nine_clauses c all_normal h)
    (λ c h. covers_itself c (Has-append_left eight_clauses (clause (Mev 1 (name ∷ []) ∷ []) (Bad (name ∷ [])) ∷ []) c h))
    (λ i j at h k. all_has (IsClosedPair i) nine_clauses j (all_has (λ i. AllByRecursion (IsClosedPair i) nine_clauses) nine_clauses i all_closed h) k at)

-- The one solved clause that concludes `bad` has the event that is asked for.
shown_met : IsMet announcing (ends (Leaf (Variable 1))) ((begins (Leaf (Variable 1)) ∷ []) ∷ []) shown
shown_met = record {
  by = λ x. name;
  conclusion = refl;
  alternative = begins (Leaf (Variable 1)) ∷ [];
  listed = ([], here);
  events = (([], here), tt);
}

abbrev IsAnsweredFor : Clause Term → Type 0
IsAnsweredFor c = is_solved c.hypotheses ≡ true → is_bad c.conclusion ≡ true → IsMet announcing (ends (Leaf (Variable 1))) ((begins (Leaf (Variable 1)) ∷ []) ∷ []) c

not_bad : (c : Clause Term) → is_bad c.conclusion ≡ false → IsAnsweredFor c
not_bad c e solved bad = absurd (let clash = e in let other = bad in cc)

not_solved : (c : Clause Term) → is_solved c.hypotheses ≡ false → IsAnsweredFor c
not_solved c e solved bad = absurd (let clash = e in let other = solved in cc)

all_answered : AllByRecursion IsAnsweredFor nine_clauses
all_answered = (not_bad knows_channel refl, (not_bad makes_names refl, (not_bad listens refl, (not_bad sends refl, (not_bad begun refl, (not_bad heard_name refl, (not_bad ended refl, (not_solved asked refl, ((λ solved bad. shown_met), tt)))))))))

nine_satisfied : AreSatisfied announcing announced nine_clauses
nine_satisfied c h = all_has IsAnsweredFor nine_clauses c all_answered h

pub announcing_shown : IsShown announcing announced eight_clauses nine_clauses
announcing_shown = shown_by_selection announcing announced eight_clauses nine_clauses announcing_translated nine_close nine_satisfied

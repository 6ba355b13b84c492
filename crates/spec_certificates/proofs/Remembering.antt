-- The worked example of tables and constraints: its translation, what its pairs give, and what is ruled of its certificate.
use Rattle.std.proofs.Common.{◌≡◌, ℕ, zero, suc, true, false, Some, None, [], ◌∷◌, ◌++◌, refl, ap, sym, subst, inr, arith}
use Rattle.std.specs.List.{AllByRecursion, cons_option}
use Rattle.spec_trees.specs.Tree.{Leaf, node, after}
use Rattle.spec_calculus.specs.Syntax.{Variable, Bind, Equal}
use Rattle.spec_calculus.specs.Syntax as calculus
use Rattle.spec_calculus.specs.Matching.{rules_of}
use Rattle.spec_calculus.specs.Refusals.{IsUniform}
use Rattle.spec_well_formed.specs.Rules.{IsProperRule}
use Rattle.spec_terms.specs.Term.{Free, Term, Subst}
use Rattle.spec_clauses.specs.Diff.{Own, Side}
use Rattle.spec_clauses.specs.DiffDecision.{can_be_equal}
use Rattle.spec_clauses.specs.Fact.{Att, Tab, Clause, fact_under}
use Rattle.spec_clauses.specs.Norm.{norm, norms}
use Rattle.spec_clauses.specs.Selection.{Selection}
use Rattle.spec_clauses.specs.Resolvents.{IsRawResolvent}
use Rattle.spec_clauses.specs.Inclusion.{here}
use Rattle.spec_clauses.proofs.NormAnswers.{norm-none}
use Rattle.spec_clauses.proofs.ConstraintExamples.{can, may_be_met, by_tests, and_true_end}
use Rattle.spec_translation.specs.Visit.{Visit, first_visit}
use Rattle.spec_translation.specs.Choice.{Choice, choice_under, IsUnified, ruled_choice, ChoiceGoesOn, EntryGoesOn}
use Rattle.spec_translation.specs.Course.{Done}
use Rattle.spec_translation.specs.Translation.{Clauses, IsTranslation}
use Rattle.spec_translation.proofs.OneTranslation.{one_translation}
use Rattle.spec_certificates.specs.Shown.{IsProper, IsShown}
use Rattle.spec_certificates.proofs.Announced.{knows_channel, makes_names, listens, sends, listening, echo, channel_listening, names_listening, sends_listening}
use Rattle.spec_certificates.specs.Certificate.{IsInShape, numbered_from, pairs_of}
use Rattle.spec_certificates.specs.Ruling.{Accepted, Rest, Cover, Obliged, Closures, Goals, NoneLeft, bad_ones, IsRuled}
use Rattle.spec_certificates.specs.Remembering.{kept_secret, remembering, entry, secret, other_than, entered, leaks, asks, seven, seven_rows}
use Rattle.spec_certificates.proofs.Accepting.{accepted_shows}
use Rattle.spec_certificates.proofs.Ruled.{shaped, covered, AreCovered, IsIdleWith, idle_rows}

-- what is said of the protocol and the query
proper_rules : (d : ℕ) → AllByRecursion IsProperRule (rules_of remembering d)
proper_rules zero = tt
proper_rules (suc k) = tt

uniform_rules : IsUniform remembering
uniform_rules zero = tt
uniform_rules (suc k) = tt

pub remembering_proper : IsProper remembering kept_secret
remembering_proper = record {
  rules = record { proper = proper_rules; uniform = uniform_rules };
  patterns = (tt, ((tt, tt, λ i e. refl), (tt, tt, tt), tt));
  query = (((omega arith, omega arith), tt), omega arith);
}

-- once an entry is taken, and once it is c
abbrev has_entry : Visit
has_entry = record { scope = record { name = Variable 1; term = Leaf 0 } ∷ []; hypotheses = Tab 1 (Leaf 0 ∷ []) ∷ []; diffs = []; messages = Leaf 0 ∷ []; sessions = []; phase = 0 }

abbrev is_c : Visit
is_c = record { scope = record { name = Variable 1; term = entry } ∷ []; hypotheses = Tab 1 (entry ∷ []) ∷ []; diffs = []; messages = entry ∷ []; sessions = []; phase = 0 }

takes_entry : EntryGoesOn remembering first_visit 1 (Leaf (Bind 1) ∷ []) None false (Some has_entry)
takes_entry = record {
  at = record { base = 0; first = 1 };
  is_fresh = record { is_new = tt; from_first = (omega arith, tt) };
  is_large = refl;
  goes_on = (Leaf, record { accepted = (refl, refl); most = λ r e. (r, λ n. refl) }, refl);
}

abbrev by_c : Subst
by_c zero = entry
by_c (suc n) = Leaf (suc n)

abbrev comparison : Choice
comparison = ruled_choice remembering has_entry (Leaf (Equal (Leaf (calculus.Free 1)))) (Leaf (Leaf (Variable 1))) 1 (record { base = 1; first = 1 })

comparison_most : (r : Subst) → IsUnified (choice_under r comparison) → (n : ℕ) → after r by_c n ≡ r n
comparison_most r e zero = sym e.1
comparison_most r e (suc n) = refl

compares : ChoiceGoesOn remembering has_entry (Leaf (Equal (Leaf (calculus.Free 1)))) (Leaf (Leaf (Variable 1))) (Some is_c)
compares = record {
  base = 1;
  at = record { base = 1; first = 1 };
  is_new = ((omega arith, tt), ((omega arith, tt), ((omega arith, tt), tt)));
  is_apart = ((omega arith, tt), tt);
  is_fresh = record { is_new = ((omega arith, tt), ((omega arith, tt), ((omega arith, tt), tt))); from_first = tt };
  goes_on = (by_c, record { accepted = (refl, refl); most = λ r e. (r, comparison_most r e) }, refl);
}

-- The clause of the else branch is its own norm: the constraint can be equal, and may be met.
leaks_own : norm leaks ≡ Some leaks
leaks_own = by_tests (Tab 1 (Leaf 0 ∷ []) ∷ []) (other_than (Leaf (Own 0))) (Att 0 secret) false true
    (may_be_met (other_than (Leaf (Own 0))) (λ h. let e = h.1 in cc))
    (and_true_end (can_be_equal (other_than (Leaf (Own 0)))) (can (other_than (Leaf (Own 0))) ((λ k. entry), refl)))

leaks_norms : norms leaks ≡ leaks ∷ []
leaks_norms = ap (λ o. cons_option o []) leaks_own

pub remembering_translated : IsTranslation remembering kept_secret (Clauses seven)
remembering_translated = (
  Done (entered ∷ leaks ∷ []) 65527,
  (
    Done (entered ∷ []) 65533,
    (Done [] 65533, refl, refl),
    (
      Done (leaks ∷ []) 65527,
      (
        false,
        Some has_entry,
        takes_entry,
        (
          Done (leaks ∷ []) 65528,
          (
            Some is_c ∷ [],
            (Some is_c, [], compares, refl, refl),
            (Done [] 65530, refl, (Done (leaks ∷ []) 65528, (Done [] 65528, refl, ap (λ cs. Done (cs ++ []) 65528) (sym leaks_norms)), refl)),
          ),
          (Done [] 65527, refl, refl),
        ),
      ),
      refl,
    ),
  ),
  refl,
)

-- What the pairs give: nothing, a tautology, and from the entry and the else branch `diff(c;c) => att(s)`, which is never met.
abbrev taking : Selection
taking = record { index = 0; fact = Tab 1 (Leaf 0 ∷ []); others = [] }

abbrev asking : Selection
asking = record { index = 0; fact = Att 0 secret; others = [] }

channel_taking : IsRawResolvent knows_channel leaks taking None
channel_taking = record { offset = 0; apart = (tt, tt); unified = λ s e. cc }

channel_asking : IsRawResolvent knows_channel asks asking None
channel_asking = record { offset = 0; apart = (tt, tt); unified = λ s e. cc }

names_taking : IsRawResolvent makes_names leaks taking None
names_taking = record { offset = 1; apart = ((omega arith, tt), tt); unified = λ s e. cc }

names_asking : IsRawResolvent makes_names asks asking None
names_asking = record { offset = 1; apart = ((omega arith, tt), tt); unified = λ s e. cc }

sends_taking : IsRawResolvent sends leaks taking None
sends_taking = record { offset = 2; apart = ((omega arith, tt), ((omega arith, tt), ((omega arith, tt), ((omega arith, tt), tt)))); unified = λ s e. cc }

sends_asking : IsRawResolvent sends asks asking None
sends_asking = record { offset = 2; apart = ((omega arith, tt), ((omega arith, tt), ((omega arith, tt), ((omega arith, tt), tt)))); unified = λ s e. cc }

entered_listening : IsRawResolvent entered listens listening None
entered_listening = record { offset = 0; apart = (tt, tt); unified = λ s e. cc }

entered_asking : IsRawResolvent entered asks asking None
entered_asking = record { offset = 0; apart = (tt, tt); unified = λ s e. cc }

abbrev entry_side : Side
entry_side = node (Free 1) []

abbrev never : Clause Term
never = record { hypotheses = []; diffs = other_than entry_side ∷ []; conclusion = Att 0 secret }

entered_most : (r : Subst) → fact_under r (Tab 1 (entry ∷ [])) ≡ fact_under r (Tab 1 (Leaf 0 ∷ [])) → (n : ℕ) → after r by_c n ≡ r n
entered_most r e zero = let same = e in cc
entered_most r e (suc n) = refl

entered_taking : IsRawResolvent entered leaks taking (Some never)
entered_taking = record { offset = 0; apart = (tt, tt); unified = (by_c, record { accepted = refl; most = λ r e. (r, entered_most r e) }, refl) }

says_nothing : norms never ≡ []
says_nothing = ap (λ o. cons_option o []) ((norm-none never).1 (inr (other_than entry_side, ([], here), (Leaf, refl))))

all_idle : AllByRecursion (IsIdleWith (numbered_from 1 seven)) (numbered_from 1 seven)
all_idle = (
  ((None, channel_listening, tt), ((None, channel_taking, tt), ((None, channel_asking, tt), tt))),
  (
    ((None, names_listening, tt), ((None, names_taking, tt), ((None, names_asking, tt), tt))),
    (
      tt,
      (
        ((Some echo, sends_listening, refl), ((None, sends_taking, tt), ((None, sends_asking, tt), tt))),
        (
          ((None, entered_listening, tt), ((Some never, entered_taking, says_nothing), ((None, entered_asking, tt), tt))),
          (tt, (tt, tt)),
        ),
      ),
    ),
  ),
)

-- the obligations
all_shaped : AllByRecursion (λ c. IsInShape kept_secret c.clause) (numbered_from 1 seven)
all_shaped = (
  record { small = omega arith; normal = record { flat = refl; own = refl }; arguments = tt },
  (
    record { small = omega arith; normal = record { flat = refl; own = refl }; arguments = tt },
    (
      record { small = omega arith; normal = record { flat = refl; own = refl }; arguments = tt },
      (
        record { small = omega arith; normal = record { flat = refl; own = refl }; arguments = tt },
        (
          record { small = omega arith; normal = record { flat = refl; own = refl }; arguments = tt },
          (
            record { small = omega arith; normal = record { flat = refl; own = leaks_own }; arguments = tt },
            (record { small = omega arith; normal = record { flat = refl; own = refl }; arguments = refl }, tt),
          ),
        ),
      ),
    ),
  ),
)

all_covered : AreCovered seven (numbered_from 1 seven) seven_rows.rows
all_covered = (
  (_, refl, record { by = Leaf; distinct = refl; conclusion = refl; firmly = refl; loosely = tt; diffs = tt }),
  (
    (_, refl, record { by = Leaf; distinct = refl; conclusion = refl; firmly = refl; loosely = tt; diffs = tt }),
    (
      (_, refl, record { by = Leaf; distinct = refl; conclusion = refl; firmly = refl; loosely = (_, here, tt); diffs = tt }),
      (
        (_, refl, record { by = Leaf; distinct = refl; conclusion = refl; firmly = refl; loosely = (_, here, (_, here, tt)); diffs = tt }),
        (
          (_, refl, record { by = Leaf; distinct = refl; conclusion = refl; firmly = refl; loosely = tt; diffs = tt }),
          (
            (_, refl, record { by = Leaf; distinct = refl; conclusion = refl; firmly = refl; loosely = tt; diffs = (inr ([], here), tt) }),
            ((_, refl, record { by = Leaf; distinct = refl; conclusion = refl; firmly = refl; loosely = tt; diffs = tt }), refl),
          ),
        ),
      ),
    ),
  ),
)

-- So the certificate is accepted.
pub remembering_accepted : IsRuled remembering kept_secret seven_rows Accepted
remembering_accepted =
    let all = numbered_from 1 seven in
    let last : Rest = λ rows. Goals remembering kept_secret (bad_ones all) (λ goals. NoneLeft seven_rows rows goals) [] in
    let closed : Closures seven (pairs_of all all) last [] Accepted = idle_rows seven last [] Accepted all [] all all_idle refl in
    shaped kept_secret (Obliged remembering kept_secret seven_rows) Accepted all all_shaped (inr (
      seven,
      remembering_translated,
      covered seven (Closures seven (pairs_of all all) last) Accepted Cover all seven_rows.rows [] all_covered closed,
    ))

-- Its clauses close the translation: the one that it has.
pub remembering_shown : IsShown remembering kept_secret seven seven
remembering_shown =
    let (given, shown) = accepted_shows remembering kept_secret seven_rows remembering_accepted in
    let same = one_translation remembering kept_secret (Clauses given) (Clauses seven) shown.translation remembering_translated in
    let both : given ≡ seven = cc in
    subst (λ g. IsShown remembering kept_secret g seven) both shown

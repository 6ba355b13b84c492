-- The first worked example: its translation, a run, what its pairs give, and what is ruled of its certificate.
use Rattle.std.proofs.Common.{◌≡◌, ◌∙◌, ℕ, zero, suc, Bool, true, false, cond, nat_eq, Some, None, [], ◌∷◌, refl, ap, sym, subst, inr, eqb-true, arith}
use Rattle.std.specs.Prelude.{◌||◌}
use Rattle.std.specs.List.{AllByRecursion}
use Rattle.spec_trees.specs.Tree.{Leaf, bind, after}
use Rattle.spec_calculus.specs.Runs.{Configuration, run}
use Rattle.spec_calculus.specs.Secrecy.{IsViolated}
use Rattle.spec_calculus.specs.Matching.{rules_of}
use Rattle.spec_calculus.specs.Refusals.{IsUniform}
use Rattle.spec_well_formed.specs.Rules.{IsProperRule}
use Rattle.spec_terms.specs.Term.{Term, Subst}
use Rattle.spec_clauses.specs.Fact.{Att, Bad, Clause}
use Rattle.spec_clauses.specs.Selection.{Selection}
use Rattle.spec_clauses.specs.Resolvents.{IsRawResolvent}
use Rattle.spec_clauses.specs.Inclusion.{here}
use Rattle.spec_translation.specs.Course.{Done}
use Rattle.spec_translation.specs.Translation.{Clauses, IsTranslation}
use Rattle.spec_translation.proofs.OneTranslation.{one_translation}
use Rattle.spec_certificates.specs.Shown.{IsProper, IsShown}
use Rattle.spec_certificates.specs.Announcing.{clause}
use Rattle.spec_certificates.proofs.Announced.{knows_channel, makes_names, listens, sends, listening, echo, channel_listening, names_listening, sends_listening}
use Rattle.spec_certificates.specs.Certificate.{IsInShape, numbered_from, pairs_of}
use Rattle.spec_certificates.specs.Ruling.{Accepted, Rest, Cover, Obliged, Closures, Goals, NoneLeft, bad_ones, IsRuled}
use Rattle.spec_certificates.specs.Example.{kept_key, encrypting, one_answer, told, encrypted, key, eight, eight_rows}
use Rattle.spec_certificates.proofs.Accepting.{accepted_shows}
use Rattle.spec_certificates.proofs.Ruled.{shaped, covered, AreCovered, IsIdleWith, idle_rows}

-- what is said of the protocol and the query
proper_rules : (d : ℕ) → AllByRecursion IsProperRule (rules_of encrypting d)
proper_rules zero = tt
proper_rules (suc zero) = (
  record { variables = (tt, (tt, (tt, (tt, tt)))); numbered = (omega arith, omega arith, (omega arith, omega arith, (omega arith, omega arith, (omega arith, omega arith, tt)))); closed = refl },
  tt,
)
proper_rules (suc (suc k)) = tt

uniform_rules : IsUniform encrypting
uniform_rules zero = tt
uniform_rules (suc zero) = tt
uniform_rules (suc (suc k)) = tt

pub encrypting_proper : IsProper encrypting kept_key
encrypting_proper = record {
  rules = record { proper = proper_rules; uniform = uniform_rules };
  patterns = ((tt, (tt, tt, λ i e. refl), λ i e. subst (λ j. (nat_eq 2 j || false) ≡ false) (eqb-true 1 i e) refl), tt);
  query = (((omega arith, omega arith), tt), omega arith);
}

-- the translation: the message is the pair of the variables 1 and 2, and 0 is the number of the copy
pub encrypting_translated : IsTranslation encrypting kept_key (Clauses eight)
encrypting_translated = (
  Done (clause (Att 0 (Leaf 0) ∷ []) (Att 0 (encrypted (Leaf 0) key)) ∷ []) 65532,
  (
    0,
    tt,
    (
      record { base = 1; first = 1 },
      record { is_new = ((omega arith, tt), tt); from_first = (omega arith, (omega arith, tt)) },
      (Done [] 65532, refl, refl),
    ),
  ),
  refl,
)

-- the run, at the end of which enc(c,k) is known
pub encrypting_tells : (c : Configuration) × (run encrypting one_answer ≡ Some c) × IsViolated told c
encrypting_tells = (_, refl, ((3, omega arith, refl), omega arith))

-- What the pairs give: nothing, or a tautology.
abbrev applying : Selection
applying = record { index = 0; fact = Att 0 (encrypted (Leaf 0) (Leaf 1)); others = Att 0 (Leaf 1) ∷ [] }

abbrev asking : Selection
asking = record { index = 0; fact = Att 0 key; others = [] }

abbrev encrypts : Clause Term
encrypts = clause (Att 0 (Leaf 0) ∷ Att 0 (Leaf 1) ∷ []) (Att 0 (encrypted (Leaf 0) (Leaf 1)))

abbrev decrypts : Clause Term
decrypts = clause (Att 0 (encrypted (Leaf 0) (Leaf 1)) ∷ Att 0 (Leaf 1) ∷ []) (Att 0 (Leaf 0))

abbrev answers : Clause Term
answers = clause (Att 0 (Leaf 0) ∷ []) (Att 0 (encrypted (Leaf 0) key))

abbrev asks : Clause Term
asks = clause (Att 0 key ∷ []) (Bad [])

channel_applying : IsRawResolvent knows_channel decrypts applying None
channel_applying = record { offset = 0; apart = (tt, tt); unified = λ s e. cc }

channel_asking : IsRawResolvent knows_channel asks asking None
channel_asking = record { offset = 0; apart = (tt, tt); unified = λ s e. cc }

names_applying : IsRawResolvent makes_names decrypts applying None
names_applying = record { offset = 1; apart = ((omega arith, tt), tt); unified = λ s e. cc }

names_asking : IsRawResolvent makes_names asks asking None
names_asking = record { offset = 1; apart = ((omega arith, tt), tt); unified = λ s e. cc }

encrypts_listening : IsRawResolvent encrypts listens listening None
encrypts_listening = record { offset = 2; apart = ((omega arith, (omega arith, tt)), ((omega arith, tt), ((omega arith, tt), tt))); unified = λ s e. cc }

encrypts_asking : IsRawResolvent encrypts asks asking None
encrypts_asking = record { offset = 2; apart = ((omega arith, (omega arith, tt)), ((omega arith, tt), ((omega arith, tt), tt))); unified = λ s e. cc }

sends_applying : IsRawResolvent sends decrypts applying None
sends_applying = record { offset = 2; apart = ((omega arith, tt), ((omega arith, tt), ((omega arith, tt), ((omega arith, tt), tt)))); unified = λ s e. cc }

sends_asking : IsRawResolvent sends asks asking None
sends_asking = record { offset = 2; apart = ((omega arith, tt), ((omega arith, tt), ((omega arith, tt), ((omega arith, tt), tt)))); unified = λ s e. cc }

answers_listening : IsRawResolvent answers listens listening None
answers_listening = record { offset = 1; apart = ((omega arith, tt), ((omega arith, tt), tt)); unified = λ s e. cc }

answers_asking : IsRawResolvent answers asks asking None
answers_asking = record { offset = 1; apart = ((omega arith, tt), ((omega arith, tt), tt)); unified = λ s e. cc }

-- What he encrypted himself he decrypts: `att(v0), att(v1), att(v1) => att(v0)`.
undone : Subst
undone x = cond (nat_eq x 2) (Leaf 0) (cond (nat_eq x 3) (Leaf 1) (Leaf x))

undone_most : (r : Subst) → r 0 ≡ r 2 → r 1 ≡ r 3 → (x : ℕ) → after r undone x ≡ r x
unfolding undone
undone_most r messages keys x = go (nat_eq x 2) (nat_eq x 3) refl refl where
  go : (a b : Bool) → nat_eq x 2 ≡ a → nat_eq x 3 ≡ b → bind r (cond a (Leaf 0) (cond b (Leaf 1) (Leaf x))) ≡ r x
  go true b e f = messages ∙ ap r (sym (eqb-true x 2 e))
  go false true e f = keys ∙ ap r (sym (eqb-true x 3 f))
  go false false e f = refl

encrypts_applying : IsRawResolvent encrypts decrypts applying (Some (clause (Att 0 (Leaf 0) ∷ Att 0 (Leaf 1) ∷ Att 0 (Leaf 1) ∷ []) (Att 0 (Leaf 0))))
unfolding undone
encrypts_applying = record {
  offset = 2;
  apart = ((omega arith, (omega arith, tt)), ((omega arith, tt), ((omega arith, tt), tt)));
  unified = (
    undone,
    record {
      accepted = refl;
      most = λ r e. (r, undone_most r (let same = e in cc) (let same = e in cc));
    },
    refl,
  );
}

-- What a copy encrypted he would decrypt with the key alone: `att(v0), att(k) => att(v0)`.
opened : Subst
opened x = cond (nat_eq x 1) (Leaf 0) (cond (nat_eq x 2) key (Leaf x))

opened_most : (r : Subst) → r 0 ≡ r 1 → bind r key ≡ r 2 → (x : ℕ) → after r opened x ≡ r x
unfolding opened
opened_most r messages keys x = go (nat_eq x 1) (nat_eq x 2) refl refl where
  go : (a b : Bool) → nat_eq x 1 ≡ a → nat_eq x 2 ≡ b → bind r (cond a (Leaf 0) (cond b key (Leaf x))) ≡ r x
  go true b e f = messages ∙ ap r (sym (eqb-true x 1 e))
  go false true e f = keys ∙ ap r (sym (eqb-true x 2 f))
  go false false e f = refl

answers_applying : IsRawResolvent answers decrypts applying (Some (clause (Att 0 (Leaf 0) ∷ Att 0 key ∷ []) (Att 0 (Leaf 0))))
unfolding opened
answers_applying = record {
  offset = 1;
  apart = ((omega arith, tt), ((omega arith, tt), tt));
  unified = (
    opened,
    record {
      accepted = refl;
      most = λ r e. (r, opened_most r (let same = e in cc) (let same = e in cc));
    },
    refl,
  );
}

all_idle : AllByRecursion (IsIdleWith (numbered_from 1 eight)) (numbered_from 1 eight)
all_idle = (
  ((None, channel_applying, tt), ((None, channel_listening, tt), ((None, channel_asking, tt), tt))),
  (
    ((None, names_applying, tt), ((None, names_listening, tt), ((None, names_asking, tt), tt))),
    (
      ((Some _, encrypts_applying, refl), ((None, encrypts_listening, tt), ((None, encrypts_asking, tt), tt))),
      (
        tt,
        (
          tt,
          (
            ((None, sends_applying, tt), ((Some echo, sends_listening, refl), ((None, sends_asking, tt), tt))),
            (((Some _, answers_applying, refl), ((None, answers_listening, tt), ((None, answers_asking, tt), tt))), (tt, tt)),
          ),
        ),
      ),
    ),
  ),
)

-- the obligations
all_shaped : AllByRecursion (λ c. IsInShape kept_key c.clause) (numbered_from 1 eight)
all_shaped = (
  record { small = omega arith; normal = record { flat = refl; own = refl }; arguments = tt },
  (
    record { small = omega arith; normal = record { flat = refl; own = refl }; arguments = tt },
    (
      record { small = omega arith; normal = record { flat = refl; own = refl }; arguments = tt },
      (
        record { small = omega arith; normal = record { flat = refl; own = refl }; arguments = tt },
        (
          record { small = omega arith; normal = record { flat = refl; own = refl }; arguments = tt },
          (
            record { small = omega arith; normal = record { flat = refl; own = refl }; arguments = tt },
            (
              record { small = omega arith; normal = record { flat = refl; own = refl }; arguments = tt },
              (record { small = omega arith; normal = record { flat = refl; own = refl }; arguments = refl }, tt),
            ),
          ),
        ),
      ),
    ),
  ),
)

all_covered : AreCovered eight (numbered_from 1 eight) eight_rows.rows
all_covered = (
  (_, refl, record { by = Leaf; distinct = refl; conclusion = refl; firmly = refl; loosely = tt; diffs = tt }),
  (
    (_, refl, record { by = Leaf; distinct = refl; conclusion = refl; firmly = refl; loosely = tt; diffs = tt }),
    (
      (_, refl, record { by = Leaf; distinct = refl; conclusion = refl; firmly = refl; loosely = (_, here, (_, here, tt)); diffs = tt }),
      (
        (_, refl, record { by = Leaf; distinct = refl; conclusion = refl; firmly = refl; loosely = (_, here, tt); diffs = tt }),
        (
          (_, refl, record { by = Leaf; distinct = refl; conclusion = refl; firmly = refl; loosely = (_, here, tt); diffs = tt }),
          (
            (_, refl, record { by = Leaf; distinct = refl; conclusion = refl; firmly = refl; loosely = (_, here, (_, here, tt)); diffs = tt }),
            (
              (_, refl, record { by = Leaf; distinct = refl; conclusion = refl; firmly = refl; loosely = (_, here, tt); diffs = tt }),
              ((_, refl, record { by = Leaf; distinct = refl; conclusion = refl; firmly = refl; loosely = tt; diffs = tt }), refl),
            ),
          ),
        ),
      ),
    ),
  ),
)

-- So the certificate is accepted.
pub encrypting_accepted : IsRuled encrypting kept_key eight_rows Accepted
encrypting_accepted =
    let all = numbered_from 1 eight in
    let last : Rest = λ rows. Goals encrypting kept_key (bad_ones all) (λ goals. NoneLeft eight_rows rows goals) [] in
    let closed : Closures eight (pairs_of all all) last [] Accepted = idle_rows eight last [] Accepted all [] all all_idle refl in
    shaped kept_key (Obliged encrypting kept_key eight_rows) Accepted all all_shaped (inr (
      eight,
      encrypting_translated,
      covered eight (Closures eight (pairs_of all all) last) Accepted Cover all eight_rows.rows [] all_covered closed,
    ))

-- Its clauses close the translation: the one that it has.
pub encrypting_shown : IsShown encrypting kept_key eight eight
encrypting_shown =
    let (given, shown) = accepted_shows encrypting kept_key eight_rows encrypting_accepted in
    let same = one_translation encrypting kept_key (Clauses given) (Clauses eight) shown.translation encrypting_translated in
    let both : given ≡ eight = cc in
    subst (λ g. IsShown encrypting kept_key g eight) both shown

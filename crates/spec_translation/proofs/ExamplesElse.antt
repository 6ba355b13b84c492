-- Translations worked out by hand: else branches, which run where no choice gives a value that matches.
use Rattle.std.proofs.Common.{◌≡◌, ℕ, zero, suc, true, false, Some, [], ◌∷◌, ◌++◌, refl, ap, sym, inr, arith}
use Rattle.std.specs.List.{cons_option}
use Rattle.spec_trees.specs.Tree.{Leaf, node, after}
use Rattle.spec_calculus.specs.Syntax.{Variable, Bind, Equal, Process, Nil, Output, Input, Let, Secret, Protocol}
use Rattle.spec_terms.specs.Term.{Ctor, Free, Term, Subst}
use Rattle.spec_clauses.specs.Fact.{Att, Mess, Bad, Clause}
use Rattle.spec_clauses.specs.Diff.{Slot, Own, Bound, Diff}
use Rattle.spec_clauses.specs.DiffDecision.{can_be_equal}
use Rattle.spec_clauses.specs.Norm.{norms}
use Rattle.spec_clauses.specs.Inclusion.{here}
use Rattle.spec_clauses.proofs.NormAnswers.{norm-none}
use Rattle.spec_clauses.proofs.ConstraintExamples.{can, may_be_met, by_tests, and_true_end}
use Rattle.spec_translation.specs.Conversion.{Fresh}
use Rattle.spec_translation.specs.Visit.{Visit}
use Rattle.spec_translation.specs.Choice.{Choice, choice_under, IsUnified, ruled_choice, ChoiceGoesOn}
use Rattle.spec_translation.specs.Course.{Done}
use Rattle.spec_translation.specs.Translation.{IsTranslation, Clauses}
use Rattle.spec_translation.proofs.ExampleWords.{public_name, private_name, constructor_of, name, variable, call, ruled_call, clause, x, free, own_names, hears, says, decryption}

-- `free c. private free d. private free s. query attacker(s).`, and a process that begins with `in(c,x)`
abbrev receiving : Process → Protocol
receiving next = record {
  frees = public_name 99 ∷ private_name 100 ∷ private_name 115 ∷ [];
  constructors = [];
  destructors = [];
  events = [];
  tables = [];
  queries = Secret (name 3) 0 ∷ [];
  main = Input (name 1) (Leaf (Bind 1)) next;
}

abbrev from_zero : Fresh
from_zero = record { base = 0; first = 1 }

-- once x is received
abbrev received : Visit
received = record { scope = record { name = Variable 1; term = x 0 } ∷ []; hypotheses = Att 0 (x 0) ∷ []; diffs = []; messages = x 0 ∷ []; sessions = []; phase = 0 }

-- `if x = x then 0 else out(c,s)`: what is equal goes on, and as it is
abbrev itself : Protocol
itself = receiving (Let (Leaf (Equal (variable 1))) (Leaf (variable 1)) Nil (Output (name 1) (name 3) Nil))

equals_itself : ChoiceGoesOn itself received (Leaf (Equal (variable 1))) (Leaf (variable 1)) (Some received)
equals_itself = record {
  base = 1;
  at = record { base = 1; first = 1 };
  is_new = ((omega arith, tt), ((omega arith, tt), ((omega arith, tt), tt)));
  is_apart = ((omega arith, tt), tt);
  is_fresh = record { is_new = ((omega arith, tt), ((omega arith, tt), ((omega arith, tt), tt))); from_first = tt };
  goes_on = (Leaf, record { accepted = (refl, refl); most = λ r e. (r, λ n. refl) }, refl);
}

-- its else branch adds nothing: `diff(v0;v0)` is never met
abbrev not_itself : Diff
not_itself = record { left = Leaf (Own 0) ∷ []; right = Leaf (Own 0) ∷ [] }

never_itself : norms (record { hypotheses = Att 0 (x 0) ∷ []; diffs = not_itself ∷ []; conclusion = Att 0 (free 3) }) ≡ []
never_itself =
    let raw : Clause Term = record { hypotheses = Att 0 (x 0) ∷ []; diffs = not_itself ∷ []; conclusion = Att 0 (free 3) } in
    ap (λ o. cons_option o []) ((norm-none raw).1 (inr (not_itself, ([], here), (Leaf, refl))))

-- So its five clauses are those of a process that does nothing.
pub itself_is_translated : IsTranslation itself (Secret (name 3) 0) (Clauses (
    clause [] (Att 0 (free 1)) ∷ own_names ∷ hears ∷ says
    ∷ clause (Att 0 (free 3) ∷ []) (Bad []) ∷ []))
itself_is_translated = (
  Done [] 65531,
  (
    from_zero,
    record { is_new = tt; from_first = (omega arith, tt) },
    (
      Some received ∷ [],
      (Some received, [], equals_itself, refl, refl),
      (Done [] 65533, refl, (Done [] 65531, (Done [] 65531, refl, ap (λ cs. Done (cs ++ []) 65531) (sym never_itself)), refl)),
    ),
  ),
  refl,
)

-- `if x = c then 0 else out(d,x)`
abbrev compares : Protocol
compares = receiving (Let (Leaf (Equal (name 1))) (Leaf (variable 1)) Nil (Output (name 2) (variable 1) Nil))

abbrev is_name : Visit
is_name = record { scope = record { name = Variable 1; term = free 1 } ∷ []; hypotheses = Att 0 (free 1) ∷ []; diffs = []; messages = free 1 ∷ []; sessions = []; phase = 0 }

abbrev by_name : Subst
by_name zero = free 1
by_name (suc n) = x (suc n)

abbrev name_choice : Choice
name_choice = ruled_choice compares received (Leaf (Equal (name 1))) (Leaf (variable 1)) 1 (record { base = 1; first = 1 })

name_most : (r : Subst) → IsUnified (choice_under r name_choice) → (n : ℕ) → after r by_name n ≡ r n
name_most r e zero = sym e.1
name_most r e (suc n) = refl

equals_name : ChoiceGoesOn compares received (Leaf (Equal (name 1))) (Leaf (variable 1)) (Some is_name)
equals_name = record {
  base = 1;
  at = record { base = 1; first = 1 };
  is_new = ((omega arith, tt), ((omega arith, tt), ((omega arith, tt), tt)));
  is_apart = ((omega arith, tt), tt);
  is_fresh = record { is_new = ((omega arith, tt), ((omega arith, tt), ((omega arith, tt), tt))); from_first = tt };
  goes_on = (by_name, record { accepted = (refl, refl); most = λ r e. (r, name_most r e) }, refl);
}

abbrev not_name : Diff
not_name = record { left = Leaf (Own 0) ∷ []; right = node (Free 1) [] ∷ [] }

-- `att(v0), diff(v0;c) => mess(d,v0)`
abbrev other_sent : Clause Term
other_sent = record { hypotheses = Att 0 (x 0) ∷ []; diffs = not_name ∷ []; conclusion = Mess 0 (free 2) (x 0) }

it_stays : norms other_sent ≡ other_sent ∷ []
it_stays = ap (λ o. cons_option o []) (by_tests (Att 0 (x 0) ∷ []) not_name (Mess 0 (free 2) (x 0)) false true
    (may_be_met not_name (λ h. let e = h.1 in cc)) (and_true_end (can_be_equal not_name) (can not_name ((λ k. free 1), refl))))

pub compares_is_translated : IsTranslation compares (Secret (name 3) 0) (Clauses (
    clause [] (Att 0 (free 1)) ∷ own_names ∷ hears ∷ says
    ∷ other_sent
    ∷ clause (Att 0 (free 3) ∷ []) (Bad []) ∷ []))
compares_is_translated = (
  Done (other_sent ∷ []) 65531,
  (
    from_zero,
    record { is_new = tt; from_first = (omega arith, tt) },
    (
      Some is_name ∷ [],
      (Some is_name, [], equals_name, refl, refl),
      (Done [] 65533, refl, (Done (other_sent ∷ []) 65531, (Done [] 65531, refl, ap (λ cs. Done (cs ++ []) 65531) (sym it_stays)), refl)),
    ),
  ),
  refl,
)

-- free c. private free d. private free s. private free k. fun enc/2. reduc dec(enc(x,y),y) -> x. query attacker(s).
-- process in(c,x); let y = dec(x,k) in 0 else out(d,x)
abbrev decrypts : Protocol
decrypts = record {
  frees = public_name 99 ∷ private_name 100 ∷ private_name 115 ∷ private_name 107 ∷ [];
  constructors = constructor_of 101 2 ∷ [];
  destructors = record { word = 100 ∷ []; rules = decryption ∷ [] } ∷ [];
  events = [];
  tables = [];
  queries = Secret (name 3) 0 ∷ [];
  main = Input (name 1) (Leaf (Bind 1)) (Let (Leaf (Bind 2)) (call 1 (variable 1 ∷ name 4 ∷ [])) Nil (Output (name 2) (variable 1) Nil));
}

abbrev enc : Term → Term → Term
enc t u = node (Ctor 1) (t ∷ u ∷ [])

-- the rule's variables are 1 and 2, and the pattern's is 3
abbrev cipher_choice : Choice
cipher_choice = ruled_choice decrypts received (Leaf (Bind 2)) (ruled_call decryption (variable 1 ∷ name 4 ∷ [])) 1 (record { base = 3; first = 2 })

abbrev by_cipher : Subst
by_cipher zero = enc (x 1) (free 4)
by_cipher (suc zero) = x 1
by_cipher (suc (suc zero)) = free 4
by_cipher (suc (suc (suc zero))) = x 1
by_cipher (suc (suc (suc (suc n)))) = x (suc (suc (suc (suc n))))

cipher_most : (r : Subst) → IsUnified (choice_under r cipher_choice) → (n : ℕ) → after r by_cipher n ≡ r n
cipher_most r e zero = let rows = e.0 in cc
cipher_most r e (suc zero) = refl
cipher_most r e (suc (suc zero)) = let rows = e.0 in cc
cipher_most r e (suc (suc (suc zero))) = e.1
cipher_most r e (suc (suc (suc (suc n)))) = refl

abbrev is_cipher : Visit
is_cipher = record {
  scope = record { name = Variable 1; term = enc (x 1) (free 4) } ∷ record { name = Variable 2; term = x 1 } ∷ [];
  hypotheses = Att 0 (enc (x 1) (free 4)) ∷ [];
  diffs = [];
  messages = enc (x 1) (free 4) ∷ [];
  sessions = [];
  phase = 0;
}

is_decrypted : ChoiceGoesOn decrypts received (Leaf (Bind 2)) (ruled_call decryption (variable 1 ∷ name 4 ∷ [])) (Some is_cipher)
is_decrypted = record {
  base = 1;
  at = record { base = 3; first = 2 };
  is_new = ((omega arith, tt), ((omega arith, tt), ((omega arith, tt), tt)));
  is_apart = ((omega arith, tt), ((omega arith, tt), (tt, ((omega arith, (omega arith, tt)), ((omega arith, tt), tt)))));
  is_fresh = record { is_new = ((omega arith, tt), ((omega arith, tt), ((omega arith, tt), tt))); from_first = (omega arith, tt) };
  goes_on = (by_cipher, record { accepted = (refl, refl); most = λ r e. (r, cipher_most r e) }, refl);
}

-- `diff(v0,k,?0;enc(?0,?1),?1,?2)`
abbrev no_cipher : Diff
no_cipher = record {
  left = Leaf (Own 0) ∷ node (Free 4) [] ∷ Leaf (Bound 0) ∷ [];
  right = node (Ctor 1) (Leaf (Bound 0) ∷ Leaf (Bound 1) ∷ []) ∷ Leaf (Bound 1) ∷ Leaf (Bound 2) ∷ [];
}

abbrev plain_sent : Clause Term
plain_sent = record { hypotheses = Att 0 (x 0) ∷ []; diffs = no_cipher ∷ []; conclusion = Mess 0 (free 2) (x 0) }

abbrev cipher_values : Slot → Term
cipher_values (Own n) = enc (free 1) (free 4)
cipher_values (Bound zero) = free 1
cipher_values (Bound (suc zero)) = free 4
cipher_values (Bound (suc (suc n))) = free 1

it_stays_too : norms plain_sent ≡ plain_sent ∷ []
it_stays_too = ap (λ o. cons_option o []) (by_tests (Att 0 (x 0) ∷ []) no_cipher (Mess 0 (free 2) (x 0)) false true
    (may_be_met no_cipher (λ h. let e = h.1 in cc)) (and_true_end (can_be_equal no_cipher) (can no_cipher (cipher_values, refl))))

pub decrypts_is_translated : IsTranslation decrypts (Secret (name 3) 0) (Clauses (
    clause [] (Att 0 (free 1)) ∷ own_names
    ∷ clause (Att 0 (x 0) ∷ Att 0 (x 1) ∷ []) (Att 0 (enc (x 0) (x 1)))
    ∷ clause (Att 0 (enc (x 0) (x 1)) ∷ Att 0 (x 1) ∷ []) (Att 0 (x 0))
    ∷ hears ∷ says
    ∷ plain_sent
    ∷ clause (Att 0 (free 3) ∷ []) (Bad []) ∷ []))
decrypts_is_translated = (
  Done (plain_sent ∷ []) 65531,
  (
    from_zero,
    record { is_new = tt; from_first = (omega arith, tt) },
    (
      Some is_cipher ∷ [],
      (Some is_cipher, [], is_decrypted, refl, refl),
      (Done [] 65533, refl, (Done (plain_sent ∷ []) 65531, (Done [] 65531, refl, ap (λ cs. Done (cs ++ []) 65531) (sym it_stays_too)), refl)),
    ),
  ),
  refl,
)

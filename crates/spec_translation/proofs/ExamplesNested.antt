-- Translations worked out by hand: destructors in one another.
use Rattle.std.proofs.Common.{◌≡◌, ℕ, zero, suc, true, false, ◌&&◌, None, Some, [], ◌∷◌, ◌++◌, refl, ap, sym, arith}
use Rattle.std.specs.List.{cons_option}
use Rattle.spec_trees.specs.Tree.{Leaf, node, after}
use Rattle.spec_calculus.specs.Syntax.{Variable, Bind, Calls, Expression, Ruled, Nil, Output, Input, Parallel, Let, Secret, Protocol}
use Rattle.spec_terms.specs.Term.{Ctor, Free, Term, Subst}
use Rattle.spec_clauses.specs.Fact.{Att, Bad, Clause}
use Rattle.spec_clauses.specs.Diff.{Bound, Diff}
use Rattle.spec_clauses.specs.Norm.{norms}
use Rattle.spec_clauses.proofs.ConstraintExamples.{cannot, may_be_met, by_tests}
use Rattle.spec_translation.specs.Conversion.{Fresh}
use Rattle.spec_translation.specs.Visit.{Visit, first_visit}
use Rattle.spec_translation.specs.Choice.{Choice, choice_under, IsUnified, ruled_choice, ChoiceGoesOn}
use Rattle.spec_translation.specs.Course.{Done}
use Rattle.spec_translation.specs.Translation.{IsTranslation, Clauses}
use Rattle.spec_translation.proofs.ExampleWords.{public_name, private_name, constructor_of, name, variable, apply, clause, x, free, own_names, hears, says, decryption}

-- dec(t,u) of expressions, and with its rule
abbrev opened : Expression → Expression → Expression
opened e key = node (Calls 1) (e ∷ key ∷ [])

abbrev ruled_opened : Ruled → Ruled → Ruled
ruled_opened e key = node (Calls decryption) (e ∷ key ∷ [])

-- free c. private free k. private free s. fun enc/2. reduc dec(enc(x,y),y) -> x. query attacker(s).
-- process out(c,enc(enc(s,k),k)) | in(c,x); let y = dec(dec(x,k),k) in out(c,y)
abbrev twice_encrypted : Protocol
twice_encrypted = record {
  frees = public_name 99 ∷ private_name 107 ∷ private_name 115 ∷ [];
  constructors = constructor_of 101 2 ∷ [];
  destructors = record { word = 100 ∷ []; rules = decryption ∷ [] } ∷ [];
  events = [];
  tables = [];
  queries = Secret (name 3) 0 ∷ [];
  main = Parallel
      (Output (name 1) (apply 1 (apply 1 (name 3 ∷ name 2 ∷ []) ∷ name 2 ∷ [])) Nil)
      (Input (name 1) (Leaf (Bind 1)) (Let (Leaf (Bind 2)) (opened (opened (Leaf (variable 1)) (Leaf (name 2))) (Leaf (name 2))) (Output (name 1) (variable 2) Nil) Nil));
}

abbrev enc : Term → Term → Term
enc t u = node (Ctor 1) (t ∷ u ∷ [])

-- what the sender adds, and what the receiver
abbrev given : Clause Term
given = clause [] (Att 0 (enc (enc (free 3) (free 2)) (free 2)))

abbrev gives : Clause Term
gives = clause (Att 0 (enc (enc (x 0) (free 2)) (free 2)) ∷ []) (Att 0 (x 0))

-- the receiver once it has received
abbrev received : Visit
received = record { scope = record { name = Variable 1; term = x 0 } ∷ []; hypotheses = Att 0 (x 0) ∷ []; diffs = []; messages = x 0 ∷ []; sessions = []; phase = 0 }

-- the variables of the inner rule are 1 and 2, those of the outer 3 and 4, and the pattern's is 5
abbrev ruled : Ruled
ruled = ruled_opened (ruled_opened (Leaf (variable 1)) (Leaf (name 2))) (Leaf (name 2))

abbrev new : Fresh
new = record { base = 5; first = 2 }

abbrev choice : Choice
choice = ruled_choice twice_encrypted received (Leaf (Bind 2)) ruled 1 new

-- the message and the key are the inner rule's left sides, its right side and the key the outer's
arguments_are : choice.arguments ≡ (x 0 ∷ free 2 ∷ x 1 ∷ free 2 ∷ [])
arguments_are = refl

sides_are : choice.sides ≡ (enc (x 1) (x 2) ∷ x 2 ∷ enc (x 3) (x 4) ∷ x 4 ∷ [])
sides_are = refl

-- the most general unifier: the message is enc(enc(v3,k),k), and what is bound v3
abbrev unifier : Subst
unifier zero = enc (enc (x 3) (free 2)) (free 2)
unifier (suc zero) = enc (x 3) (free 2)
unifier (suc (suc zero)) = free 2
unifier (suc (suc (suc zero))) = x 3
unifier (suc (suc (suc (suc zero)))) = free 2
unifier (suc (suc (suc (suc (suc zero))))) = x 3
unifier (suc (suc (suc (suc (suc (suc n)))))) = x (suc (suc (suc (suc (suc (suc n))))))

most_general : (r : Subst) → IsUnified (choice_under r choice) → (n : ℕ) → after r unifier n ≡ r n
most_general r e zero = let rows = e.0 in cc
most_general r e (suc zero) = let rows = e.0 in cc
most_general r e (suc (suc zero)) = let rows = e.0 in cc
most_general r e (suc (suc (suc zero))) = refl
most_general r e (suc (suc (suc (suc zero)))) = let rows = e.0 in cc
most_general r e (suc (suc (suc (suc (suc zero))))) = e.1
most_general r e (suc (suc (suc (suc (suc (suc n)))))) = refl

abbrev decrypted : Visit
decrypted = record {
  scope = record { name = Variable 1; term = enc (enc (x 3) (free 2)) (free 2) } ∷ record { name = Variable 2; term = x 3 } ∷ [];
  hypotheses = Att 0 (enc (enc (x 3) (free 2)) (free 2)) ∷ [];
  diffs = [];
  messages = enc (enc (x 3) (free 2)) (free 2) ∷ [];
  sessions = [];
  phase = 0;
}

decrypts : ChoiceGoesOn twice_encrypted received (Leaf (Bind 2)) ruled (Some decrypted)
decrypts = record {
  base = 1;
  at = new;
  is_new = ((omega arith, tt), ((omega arith, tt), ((omega arith, tt), tt)));
  is_apart = (
    (omega arith, tt),
    (
      (omega arith, tt),
      (tt, ((omega arith, tt), (tt, ((omega arith, (omega arith, tt)), ((omega arith, tt), ((omega arith, (omega arith, tt)), ((omega arith, tt), tt))))))),
    ),
  );
  is_fresh = record { is_new = ((omega arith, tt), ((omega arith, tt), ((omega arith, tt), tt))); from_first = (omega arith, tt) };
  goes_on = (unifier, record { accepted = (refl, refl); most = λ r e. (r, most_general r e) }, refl);
}

-- its nine clauses
pub twice_encrypted_is_translated : IsTranslation twice_encrypted (Secret (name 3) 0) (Clauses (
    clause [] (Att 0 (free 1)) ∷ own_names
    ∷ clause (Att 0 (x 0) ∷ Att 0 (x 1) ∷ []) (Att 0 (enc (x 0) (x 1)))
    ∷ clause (Att 0 (enc (x 0) (x 1)) ∷ Att 0 (x 1) ∷ []) (Att 0 (x 0))
    ∷ hears ∷ says ∷ given ∷ gives
    ∷ clause (Att 0 (free 3) ∷ []) (Bad []) ∷ []))
twice_encrypted_is_translated = (
  Done (given ∷ gives ∷ []) 65528,
  (
    Done (given ∷ []) 65533,
    (Done [] 65533, refl, refl),
    (
      Done (gives ∷ []) 65528,
      (
        record { base = 0; first = 1 },
        record { is_new = tt; from_first = (omega arith, tt) },
        (
          Some decrypted ∷ [],
          (Some decrypted, [], decrypts, refl, refl),
          (Done (gives ∷ []) 65529, (Done [] 65529, refl, refl), (Done [] 65528, refl, refl)),
        ),
      ),
      refl,
    ),
  ),
  refl,
)

-- free c. private free k. fun enc/2. reduc dec(enc(x,y),y) -> x. query attacker(k).
-- process let y = dec(dec(enc(c,k),k),k) in out(c,k) else out(c,c): the inner application has a value, and the outer none
abbrev no_value : Protocol
no_value = record {
  frees = public_name 99 ∷ private_name 107 ∷ [];
  constructors = constructor_of 101 2 ∷ [];
  destructors = record { word = 100 ∷ []; rules = decryption ∷ [] } ∷ [];
  events = [];
  tables = [];
  queries = Secret (name 2) 0 ∷ [];
  main = Let (Leaf (Bind 1)) (opened (opened (Leaf (apply 1 (name 1 ∷ name 2 ∷ []))) (Leaf (name 2))) (Leaf (name 2))) (Output (name 1) (name 2) Nil) (Output (name 1) (name 1) Nil);
}

abbrev half : Ruled
half = ruled_opened (ruled_opened (Leaf (apply 1 (name 1 ∷ name 2 ∷ []))) (Leaf (name 2))) (Leaf (name 2))

nothing_goes_on : ChoiceGoesOn no_value first_visit (Leaf (Bind 1)) half None
nothing_goes_on = record {
  base = 0;
  at = record { base = 4; first = 1 };
  is_new = tt;
  is_apart = (
    (omega arith, tt),
    (tt, (tt, ((omega arith, tt), (tt, ((omega arith, (omega arith, tt)), ((omega arith, tt), ((omega arith, (omega arith, tt)), ((omega arith, tt), tt)))))))),
  );
  is_fresh = record { is_new = tt; from_first = (omega arith, tt) };
  goes_on = λ s e. let clash = e.0 in cc;
}

-- The constraint of its else branch, `diff(enc(c,k),k,?0,k,?1;enc(?0,?2),?2,enc(?1,?3),?3,?4)`, can't be equal, and is dropped.
abbrev not_twice : Diff
not_twice = record {
  left = node (Ctor 1) (node (Free 1) [] ∷ node (Free 2) [] ∷ []) ∷ node (Free 2) [] ∷ Leaf (Bound 0) ∷ node (Free 2) [] ∷ Leaf (Bound 1) ∷ [];
  right = node (Ctor 1) (Leaf (Bound 0) ∷ Leaf (Bound 2) ∷ []) ∷ Leaf (Bound 2) ∷ node (Ctor 1) (Leaf (Bound 1) ∷ Leaf (Bound 3) ∷ []) ∷ Leaf (Bound 3) ∷ Leaf (Bound 4) ∷ [];
}

it_is_dropped : norms (record { hypotheses = []; diffs = not_twice ∷ []; conclusion = Att 0 (free 1) }) ≡ clause [] (Att 0 (free 1)) ∷ []
it_is_dropped = ap (λ o. cons_option o []) (by_tests [] not_twice (Att 0 (free 1)) false false (may_be_met not_twice (λ h. let e = h.1 in cc)) (ap (λ b. b && true) (cannot not_twice (λ h. let e = h.1 in cc))))

-- only the else branch is visited
pub no_value_is_translated : IsTranslation no_value (Secret (name 2) 0) (Clauses (
    clause [] (Att 0 (free 1)) ∷ own_names
    ∷ clause (Att 0 (x 0) ∷ Att 0 (x 1) ∷ []) (Att 0 (enc (x 0) (x 1)))
    ∷ clause (Att 0 (enc (x 0) (x 1)) ∷ Att 0 (x 1) ∷ []) (Att 0 (x 0))
    ∷ hears ∷ says
    ∷ clause [] (Att 0 (free 1))
    ∷ clause (Att 0 (free 2) ∷ []) (Bad []) ∷ []))
no_value_is_translated = (
  Done (clause [] (Att 0 (free 1)) ∷ []) 65533,
  (None ∷ [], (None, [], nothing_goes_on, refl, refl), (Done [] 65533, refl, ap (λ cs. Done (cs ++ []) 65533) (sym it_is_dropped))),
  refl,
)

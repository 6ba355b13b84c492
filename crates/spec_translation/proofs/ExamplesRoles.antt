-- A translation worked out by hand: two roles with events, of which one decrypts.
use Rattle.std.proofs.Common.{◌≡◌, ℕ, zero, suc, Some, [], ◌∷◌, refl, arith}
use Rattle.spec_trees.specs.Tree.{Leaf, node, after}
use Rattle.spec_calculus.specs.Syntax.{Made, Variable, Bind, Nil, Output, Input, Parallel, Replication, New, Let, Event, EventTerm, Rule, Query, Correspondence, Protocol}
use Rattle.spec_calculus.specs.Syntax as calculus
use Rattle.spec_terms.specs.Term.{Ctor, Point, Term, Subst}
use Rattle.spec_clauses.specs.Fact.{Att, Ev, Mev, Bad, Clause}
use Rattle.spec_translation.specs.Conversion.{Fresh}
use Rattle.spec_translation.specs.Visit.{Visit}
use Rattle.spec_translation.specs.Choice.{Choice, choice_under, IsUnified, ruled_choice, ChoiceGoesOn}
use Rattle.spec_translation.specs.Course.{Done}
use Rattle.spec_translation.specs.Translation.{IsTranslation, Clauses}
use Rattle.spec_translation.proofs.ExampleWords.{public_name, private_name, constructor_of, name, variable, apply, call, ruled_call, clause, x, free, own_names, hears, says, decryption}

abbrev begin : calculus.Term → EventTerm
begin t = record { event = 1; arguments = t ∷ [] }

abbrev finish : calculus.Term → EventTerm
finish t = record { event = 2; arguments = t ∷ [] }

abbrev asked : Query
asked = Correspondence (finish (variable 1)) ((begin (variable 1) ∷ []) ∷ [])

-- free c. private free k. fun enc/2. reduc dec(enc(x,y),y) -> x. event begin/1. event end/1.
-- query event end(x) ==> event begin(x).
-- process !new n; event begin(n); out(c,enc(n,k)) | !in(c,x); let y = dec(x,k) in event end(y)
abbrev roles : Protocol
roles = record {
  frees = public_name 99 ∷ private_name 107 ∷ [];
  constructors = constructor_of 101 2 ∷ [];
  destructors = record { word = 100 ∷ []; rules = decryption ∷ [] } ∷ [];
  events = constructor_of 98 1 ∷ constructor_of 102 1 ∷ [];
  tables = [];
  queries = asked ∷ [];
  main = Parallel
      (Replication (New (110 ∷ []) (Event (begin (Leaf (Made 3))) (Output (name 1) (apply 1 (Leaf (Made 3) ∷ name 2 ∷ [])) Nil))))
      (Replication (Input (name 1) (Leaf (Bind 1)) (Let (Leaf (Bind 2)) (call 1 (variable 1 ∷ name 2 ∷ [])) (Event (finish (variable 2)) Nil) Nil)));
}

abbrev enc : Term → Term → Term
enc t u = node (Ctor 1) (t ∷ u ∷ [])

-- the name that the first role makes in its copy
abbrev made : Term
made = node (Point 3) (x 0 ∷ [])

-- what the first role adds, and what the second
abbrev begun : Clause Term
begun = clause [] (Ev 1 (made ∷ []))

abbrev encrypted : Clause Term
encrypted = clause (Mev 1 (made ∷ []) ∷ []) (Att 0 (enc made (free 2)))

abbrev ended : Clause Term
ended = clause (Att 0 (enc (x 0) (free 2)) ∷ []) (Ev 2 (x 0 ∷ []))

-- the second role once it has received: the variable 1 for the message, and 0 for its copy
abbrev received : Visit
received = record { scope = record { name = Variable 1; term = x 1 } ∷ []; hypotheses = Att 0 (x 1) ∷ []; diffs = []; messages = x 1 ∷ []; sessions = x 0 ∷ []; phase = 0 }

-- the rule's variables are 2 and 3, and the pattern's is 4
abbrev new : Fresh
new = record { base = 4; first = 2 }

abbrev choice : Choice
choice = ruled_choice roles received (Leaf (Bind 2)) (ruled_call decryption (variable 1 ∷ name 2 ∷ [])) 2 new

-- the most general unifier: the message is enc(v2,k), the key k, and what is bound v2
abbrev unifier : Subst
unifier zero = x 0
unifier (suc zero) = enc (x 2) (free 2)
unifier (suc (suc zero)) = x 2
unifier (suc (suc (suc zero))) = free 2
unifier (suc (suc (suc (suc zero)))) = x 2
unifier (suc (suc (suc (suc (suc n))))) = x (suc (suc (suc (suc (suc n)))))

most_general : (r : Subst) → IsUnified (choice_under r choice) → (n : ℕ) → after r unifier n ≡ r n
most_general r e zero = refl
most_general r e (suc zero) = let rows = e.0 in cc
most_general r e (suc (suc zero)) = refl
most_general r e (suc (suc (suc zero))) = let rows = e.0 in cc
most_general r e (suc (suc (suc (suc zero)))) = e.1
most_general r e (suc (suc (suc (suc (suc n))))) = refl

-- the second role once it has decrypted
abbrev decrypted : Visit
decrypted = record {
  scope = record { name = Variable 1; term = enc (x 2) (free 2) } ∷ record { name = Variable 2; term = x 2 } ∷ [];
  hypotheses = Att 0 (enc (x 2) (free 2)) ∷ [];
  diffs = [];
  messages = enc (x 2) (free 2) ∷ [];
  sessions = x 0 ∷ [];
  phase = 0;
}

decrypts : ChoiceGoesOn roles received (Leaf (Bind 2)) (ruled_call decryption (variable 1 ∷ name 2 ∷ [])) (Some decrypted)
decrypts = record {
  base = 2;
  at = new;
  is_new = ((omega arith, tt), ((omega arith, tt), ((omega arith, tt), ((omega arith, tt), tt))));
  is_apart = ((omega arith, tt), ((omega arith, tt), (tt, ((omega arith, (omega arith, tt)), ((omega arith, tt), tt)))));
  is_fresh = record {
    is_new = ((omega arith, tt), ((omega arith, tt), ((omega arith, tt), ((omega arith, tt), tt))));
    from_first = (omega arith, tt);
  };
  goes_on = (unifier, record { accepted = (refl, refl); most = λ r e. (r, most_general r e) }, refl);
}

-- its ten clauses
pub roles_are_translated : IsTranslation roles asked (Clauses (
    clause [] (Att 0 (free 1)) ∷ own_names
    ∷ clause (Att 0 (x 0) ∷ Att 0 (x 1) ∷ []) (Att 0 (enc (x 0) (x 1)))
    ∷ clause (Att 0 (enc (x 0) (x 1)) ∷ Att 0 (x 1) ∷ []) (Att 0 (x 0))
    ∷ hears ∷ says ∷ begun ∷ encrypted ∷ ended
    ∷ clause (Ev 2 (x 0 ∷ []) ∷ []) (Bad (x 0 ∷ [])) ∷ []))
roles_are_translated = (
  Done (begun ∷ encrypted ∷ ended ∷ []) 65524,
  (
    Done (begun ∷ encrypted ∷ []) 65530,
    (0, tt, (Done (encrypted ∷ []) 65530, (Done [] 65530, refl, refl), refl)),
    (
      Done (ended ∷ []) 65524,
      (
        0,
        tt,
        (
          record { base = 1; first = 1 },
          record { is_new = ((omega arith, tt), tt); from_first = (omega arith, tt) },
          (
            Some decrypted ∷ [],
            (Some decrypted, [], decrypts, refl, refl),
            (Done (ended ∷ []) 65525, (Done [] 65525, refl, refl), (Done [] 65524, refl, refl)),
          ),
        ),
      ),
      refl,
    ),
  ),
  refl,
)

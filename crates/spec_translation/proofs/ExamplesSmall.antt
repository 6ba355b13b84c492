-- Translations worked out by hand: no process, private and public channels, data patterns, and rules that do not unify.
use Rattle.std.proofs.Common.{◌≡◌, false, true, ◌&&◌, None, [], ◌∷◌, ◌++◌, refl, ap, sym, arith}
use Rattle.std.specs.List.{cons_option}
use Rattle.spec_trees.specs.Tree.{Leaf, node}
use Rattle.spec_calculus.specs.Syntax.{Constructor, Bind, Equal, Nil, Output, Input, Parallel, Let, Secret, Protocol}
use Rattle.spec_terms.specs.Term.{Ctor, Free}
use Rattle.spec_clauses.specs.Fact.{Att, Mess, Bad}
use Rattle.spec_clauses.specs.Diff.{Bound, Diff}
use Rattle.spec_clauses.specs.Norm.{norms}
use Rattle.spec_clauses.proofs.ConstraintExamples.{cannot, may_be_met, by_tests}
use Rattle.spec_translation.specs.Conversion.{Fresh}
use Rattle.spec_translation.specs.Visit.{first_visit}
use Rattle.spec_translation.specs.Choice.{ChoiceGoesOn}
use Rattle.spec_translation.specs.Course.{Done}
use Rattle.spec_translation.specs.Translation.{IsTranslation, Clauses}
use Rattle.spec_translation.proofs.ExampleWords.{public_name, private_name, constructor_of, data_of, name, variable, apply, call, ruled_call, clause, x, free, own_names, hears, says, decryption}

-- free c. private free s. query attacker(s). process 0
abbrev nothing : Protocol
nothing = record {
  frees = public_name 99 ∷ private_name 115 ∷ [];
  constructors = [];
  destructors = [];
  events = [];
  tables = [];
  queries = Secret (name 2) 0 ∷ [];
  main = Nil;
}

-- its five clauses: those of the attacker, and `att(s) => bad()`
pub nothing_is_translated : IsTranslation nothing (Secret (name 2) 0) (Clauses (clause [] (Att 0 (free 1)) ∷ own_names ∷ hears ∷ says ∷ clause (Att 0 (free 2) ∷ []) (Bad []) ∷ []))
nothing_is_translated = (Done [] 65535, refl, refl)

-- free c. private free d, s. query attacker(s). process out(d,s) | in(d,x); out(c,x)
abbrev channels : Protocol
channels = record {
  frees = public_name 99 ∷ private_name 100 ∷ private_name 115 ∷ [];
  constructors = [];
  destructors = [];
  events = [];
  tables = [];
  queries = Secret (name 3) 0 ∷ [];
  main = Parallel (Output (name 2) (name 3) Nil) (Input (name 2) (Leaf (Bind 1)) (Output (name 1) (variable 1) Nil));
}

abbrev from_one : Fresh
from_one = record { base = 0; first = 1 }

-- `=> mess(d,s)` of the private channel, and `mess(d,v0) => att(v0)` from it to the public one
pub channels_are_translated : IsTranslation channels (Secret (name 3) 0) (Clauses (
    clause [] (Att 0 (free 1)) ∷ own_names ∷ hears ∷ says
    ∷ clause [] (Mess 0 (free 2) (free 3))
    ∷ clause (Mess 0 (free 2) (x 0) ∷ []) (Att 0 (x 0))
    ∷ clause (Att 0 (free 3) ∷ []) (Bad []) ∷ []))
channels_are_translated =
    let sent = clause [] (Mess 0 (free 2) (free 3)) in
    let passed = clause (Mess 0 (free 2) (x 0) ∷ []) (Att 0 (x 0)) in (
      Done (sent ∷ passed ∷ []) 65530,
      (
        Done (sent ∷ []) 65533,
        (Done [] 65533, refl, refl),
        (Done (passed ∷ []) 65530, (from_one, record { is_new = tt; from_first = (omega arith, tt) }, (Done [] 65530, refl, refl)), refl),
      ),
      refl,
    )

-- free c. private free k. data p/2. fun h/1. query attacker(k). process in(c,p(x,=k)); out(c,p(h(x),k))
abbrev data_pattern : Protocol
data_pattern = record {
  frees = public_name 99 ∷ private_name 107 ∷ [];
  constructors = data_of 112 2 ∷ constructor_of 104 1 ∷ [];
  destructors = [];
  events = [];
  tables = [];
  queries = Secret (name 2) 0 ∷ [];
  main = Input (name 1) (node (Constructor 1) (Leaf (Bind 1) ∷ Leaf (Equal (name 2)) ∷ [])) (Output (name 1) (apply 1 (apply 2 (variable 1 ∷ []) ∷ name 2 ∷ [])) Nil);
}

-- The pattern's parts are supposed, and of what is sent each part is concluded: `att(v0), att(k) => att(h(v0))`, and a tautology that is
-- left out.
pub data_pattern_is_translated : IsTranslation data_pattern (Secret (name 2) 0) (Clauses (
    clause [] (Att 0 (free 1)) ∷ own_names
    ∷ clause (Att 0 (x 0) ∷ []) (Att 0 (node (Ctor 2) (x 0 ∷ [])))
    ∷ hears ∷ says
    ∷ clause (Att 0 (x 0) ∷ Att 0 (free 2) ∷ []) (Att 0 (node (Ctor 2) (x 0 ∷ [])))
    ∷ clause (Att 0 (free 2) ∷ []) (Bad []) ∷ []))
data_pattern_is_translated = (
  Done (clause (Att 0 (x 0) ∷ Att 0 (free 2) ∷ []) (Att 0 (node (Ctor 2) (x 0 ∷ []))) ∷ []) 65533,
  (from_one, record { is_new = tt; from_first = (omega arith, tt) }, (Done [] 65533, refl, refl)),
  refl,
)

-- free c. private free k. fun enc/2. reduc dec(enc(x,y),y) -> x. query attacker(k).
-- process let y = dec(c,k) in out(c,k) else out(c,c)
abbrev no_instance : Protocol
no_instance = record {
  frees = public_name 99 ∷ private_name 107 ∷ [];
  constructors = constructor_of 101 2 ∷ [];
  destructors = record { word = 100 ∷ []; rules = decryption ∷ [] } ∷ [];
  events = [];
  tables = [];
  queries = Secret (name 2) 0 ∷ [];
  main = Let (Leaf (Bind 1)) (call 1 (name 1 ∷ name 2 ∷ [])) (Output (name 1) (name 2) Nil) (Output (name 1) (name 1) Nil);
}

-- a free name is no ciphertext
nothing_is_decrypted : ChoiceGoesOn no_instance first_visit (Leaf (Bind 1)) (ruled_call decryption (name 1 ∷ name 2 ∷ [])) None
nothing_is_decrypted = record {
  base = 0;
  at = record { base = 2; first = 1 };
  is_new = tt;
  is_apart = ((omega arith, tt), (tt, (tt, ((omega arith, (omega arith, tt)), ((omega arith, tt), tt)))));
  is_fresh = record { is_new = tt; from_first = (omega arith, tt) };
  goes_on = λ s e. let clash = e.0 in cc;
}

-- The constraint of its else branch, `diff(c,k,?0;enc(?0,?1),?1,?2)`, can't be equal, and is dropped.
abbrev not_decrypted : Diff
not_decrypted = record {
  left = node (Free 1) [] ∷ node (Free 2) [] ∷ Leaf (Bound 0) ∷ [];
  right = node (Ctor 1) (Leaf (Bound 0) ∷ Leaf (Bound 1) ∷ []) ∷ Leaf (Bound 1) ∷ Leaf (Bound 2) ∷ [];
}

it_is_dropped : norms (record { hypotheses = []; diffs = not_decrypted ∷ []; conclusion = Att 0 (free 1) }) ≡ clause [] (Att 0 (free 1)) ∷ []
it_is_dropped = ap (λ o. cons_option o []) (by_tests [] not_decrypted (Att 0 (free 1)) false false (may_be_met not_decrypted (λ h. let e = h.1 in cc)) (ap (λ b. b && true) (cannot not_decrypted (λ h. let e = h.1 in cc))))

-- Only the else branch is visited, which adds `=> att(c)` once more.
pub no_instance_is_translated : IsTranslation no_instance (Secret (name 2) 0) (Clauses (
    clause [] (Att 0 (free 1)) ∷ own_names
    ∷ clause (Att 0 (x 0) ∷ Att 0 (x 1) ∷ []) (Att 0 (node (Ctor 1) (x 0 ∷ x 1 ∷ [])))
    ∷ clause (Att 0 (node (Ctor 1) (x 0 ∷ x 1 ∷ [])) ∷ Att 0 (x 1) ∷ []) (Att 0 (x 0))
    ∷ hears ∷ says
    ∷ clause [] (Att 0 (free 1))
    ∷ clause (Att 0 (free 2) ∷ []) (Bad []) ∷ []))
no_instance_is_translated = (
  Done (clause [] (Att 0 (free 1)) ∷ []) 65533,
  (None ∷ [], (None, [], nothing_is_decrypted, refl, refl), (Done [] 65533, refl, ap (λ cs. Done (cs ++ []) 65533) (sym it_is_dropped))),
  refl,
)

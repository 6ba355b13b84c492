-- Translations worked out by hand: phases, and tables.
use Rattle.std.proofs.Common.{ℕ, zero, suc, false, None, Some, [], ◌∷◌, ◌≡◌, refl, arith}
use Rattle.spec_trees.specs.Tree.{Leaf, node, after}
use Rattle.spec_calculus.specs.Syntax.{Made, Variable, Bind, Process, Nil, Output, Parallel, Replication, New, Phase, Insert, Get, Secret, Protocol}
use Rattle.spec_terms.specs.Term.{Ctor, Point, Term, Subst}
use Rattle.spec_clauses.specs.Fact.{Att, Mess, Tab, Bad, Clause}
use Rattle.spec_translation.specs.Visit.{Visit}
use Rattle.spec_translation.specs.Choice.{Choice, choice_under, IsUnified, entry_choice, EntryGoesOn}
use Rattle.spec_translation.specs.Course.{Done}
use Rattle.spec_translation.specs.Translation.{IsTranslation, Clauses}
use Rattle.spec_translation.proofs.ExampleWords.{public_name, private_name, constructor_of, name, variable, apply, clause, x, free, own_names, hears_in, says_in, decryption}

-- `free c. private free k. private free s. fun enc/2. reduc dec(enc(x,y),y) -> x.`, with tables of one term and of two
abbrev with_main : Process → Protocol
with_main main = record {
  frees = public_name 99 ∷ private_name 107 ∷ private_name 115 ∷ [];
  constructors = constructor_of 101 2 ∷ [];
  destructors = record { word = 100 ∷ []; rules = decryption ∷ [] } ∷ [];
  events = [];
  tables = constructor_of 116 1 ∷ constructor_of 117 2 ∷ [];
  queries = Secret (name 3) 0 ∷ [];
  main = main;
}

abbrev enc : Term → Term → Term
enc t u = node (Ctor 1) (t ∷ u ∷ [])

-- what the attacker does in a phase with the constructor, and with the rule
abbrev encrypts : ℕ → Clause Term
encrypts k = clause (Att k (x 0) ∷ Att k (x 1) ∷ []) (Att k (enc (x 0) (x 1)))

abbrev decrypts : ℕ → Clause Term
decrypts k = clause (Att k (enc (x 0) (x 1)) ∷ Att k (x 1) ∷ []) (Att k (x 0))

-- `att(v0) => att@1(v0)`
abbrev keeps : Clause Term
keeps = clause (Att 0 (x 0) ∷ []) (Att 1 (x 0))

-- `out(c,enc(s,k)) | phase 1; out(c,k)`
abbrev gives_the_key : Protocol
gives_the_key = with_main (Parallel (Output (name 1) (apply 1 (name 3 ∷ name 2 ∷ [])) Nil) (Phase 1 (Output (name 1) (name 2) Nil)))

-- Its fourteen clauses: what is sent in a phase is known in it, and the query of phase 0 asks about that phase.
pub phases_are_translated : IsTranslation gives_the_key (Secret (name 3) 0) (Clauses (
    clause [] (Att 0 (free 1)) ∷ own_names ∷ encrypts 0 ∷ decrypts 0 ∷ hears_in 0 ∷ says_in 0
    ∷ keeps ∷ encrypts 1 ∷ decrypts 1 ∷ hears_in 1 ∷ says_in 1
    ∷ clause [] (Att 0 (enc (free 3) (free 2)))
    ∷ clause [] (Att 1 (free 2))
    ∷ clause (Att 0 (free 3) ∷ []) (Bad []) ∷ []))
phases_are_translated =
    let hidden = clause [] (Att 0 (enc (free 3) (free 2))) in
    let given = clause [] (Att 1 (free 2)) in (
      Done (hidden ∷ given ∷ []) 65530,
      (Done (hidden ∷ []) 65533, (Done [] 65533, refl, refl), (Done (given ∷ []) 65530, (Done [] 65530, refl, refl), refl)),
      refl,
    )

-- `!new k; insert keys(k) | !get keys(x) in out(c,enc(s,x))`
abbrev serves : Protocol
serves = with_main (Parallel
    (Replication (New (107 ∷ []) (Insert 1 (Leaf (Made 3) ∷ []) Nil)))
    (Replication (Get 1 (Leaf (Bind 1) ∷ []) None (Output (name 1) (apply 1 (name 3 ∷ variable 1 ∷ [])) Nil) Nil)))

-- the second role in its copy, of number 0, and once it has taken an entry
abbrev begun : Visit
begun = record { scope = []; hypotheses = []; diffs = []; messages = []; sessions = x 0 ∷ []; phase = 0 }

abbrev has_entry : Visit
has_entry = record { scope = record { name = Variable 1; term = x 1 } ∷ []; hypotheses = Tab 1 (x 1 ∷ []) ∷ []; diffs = []; messages = x 1 ∷ []; sessions = x 0 ∷ []; phase = 0 }

takes_entry : EntryGoesOn serves begun 1 (Leaf (Bind 1) ∷ []) None false (Some has_entry)
takes_entry = record {
  at = record { base = 1; first = 1 };
  is_fresh = record { is_new = ((omega arith, tt), tt); from_first = (omega arith, tt) };
  is_large = refl;
  goes_on = (Leaf, record { accepted = (refl, refl); most = λ r e. (r, λ n. refl) }, refl);
}

-- `=> tab(keys(k@3[v0]))`, and `tab(keys(v0)) => att(enc(s,v0))`
abbrev written : Clause Term
written = clause [] (Tab 1 (node (Point 3) (x 0 ∷ []) ∷ []))

abbrev served : Clause Term
served = clause (Tab 1 (x 0 ∷ []) ∷ []) (Att 0 (enc (free 3) (x 0)))

-- its nine clauses
pub tables_are_translated : IsTranslation serves (Secret (name 3) 0) (Clauses (
    clause [] (Att 0 (free 1)) ∷ own_names ∷ encrypts 0 ∷ decrypts 0 ∷ hears_in 0 ∷ says_in 0
    ∷ written ∷ served
    ∷ clause (Att 0 (free 3) ∷ []) (Bad []) ∷ []))
tables_are_translated = (
  Done (written ∷ served ∷ []) 65526,
  (
    Done (written ∷ []) 65531,
    (0, tt, (Done [] 65531, refl, refl)),
    (
      Done (served ∷ []) 65526,
      (
        0,
        tt,
        (false, Some has_entry, takes_entry, (Done (served ∷ []) 65527, (Done [] 65527, refl, refl), (Done [] 65526, refl, refl))),
      ),
      refl,
    ),
  ),
  refl,
)

-- `phase 1; get pairs(x,y) suchthat x = y in out(s,x) else out(c,c)`
abbrev asks : Protocol
asks = with_main (Phase 1 (Get 2 (Leaf (Bind 1) ∷ Leaf (Bind 2) ∷ []) (Some (variable 1, variable 2)) (Output (name 3) (variable 1) Nil) (Output (name 1) (name 1) Nil)))

-- in phase 1, and once an entry of equal terms is taken
abbrev waited : Visit
waited = record { scope = []; hypotheses = []; diffs = []; messages = []; sessions = []; phase = 1 }

abbrev has_pair : Visit
has_pair = record {
  scope = record { name = Variable 1; term = x 1 } ∷ record { name = Variable 2; term = x 1 } ∷ [];
  hypotheses = Tab 2 (x 1 ∷ x 1 ∷ []) ∷ [];
  diffs = [];
  messages = x 1 ∷ x 1 ∷ [];
  sessions = [];
  phase = 1;
}

abbrev choice : Choice
choice = entry_choice asks waited 2 (Leaf (Bind 1) ∷ Leaf (Bind 2) ∷ []) (Some (variable 1, variable 2)) (record { base = 0; first = 1 })

abbrev unifier : Subst
unifier zero = x 1
unifier (suc n) = x (suc n)

most_general : (r : Subst) → IsUnified (choice_under r choice) → (n : ℕ) → after r unifier n ≡ r n
most_general r e zero = let rows = e.0 in cc
most_general r e (suc n) = refl

takes_pair : EntryGoesOn asks waited 2 (Leaf (Bind 1) ∷ Leaf (Bind 2) ∷ []) (Some (variable 1, variable 2)) false (Some has_pair)
takes_pair = record {
  at = record { base = 0; first = 1 };
  is_fresh = record { is_new = tt; from_first = (omega arith, (omega arith, tt)) };
  is_large = refl;
  goes_on = (unifier, record { accepted = (refl, refl); most = λ r e. (r, most_general r e) }, refl);
}

-- The condition's terms have become one, the message is sent in phase 1 on a private channel, and the else branch supposes nothing.
pub conditions_are_translated : IsTranslation asks (Secret (name 3) 1) (Clauses (
    clause [] (Att 0 (free 1)) ∷ own_names ∷ encrypts 0 ∷ decrypts 0 ∷ hears_in 0 ∷ says_in 0
    ∷ keeps ∷ encrypts 1 ∷ decrypts 1 ∷ hears_in 1 ∷ says_in 1
    ∷ clause (Tab 2 (x 0 ∷ x 0 ∷ []) ∷ []) (Mess 1 (free 3) (x 0))
    ∷ clause [] (Att 1 (free 1))
    ∷ clause (Att 1 (free 3) ∷ []) (Bad []) ∷ []))
conditions_are_translated =
    let sent = clause (Tab 2 (x 0 ∷ x 0 ∷ []) ∷ []) (Mess 1 (free 3) (x 0)) in
    let missed = clause [] (Att 1 (free 1)) in (
      Done (sent ∷ missed ∷ []) 65530,
      (
        false,
        Some has_pair,
        takes_pair,
        (
          Done (sent ∷ []) 65532,
          (Done [] 65532, refl, refl),
          (Done (missed ∷ []) 65530, (Done [] 65530, refl, refl), refl),
        ),
      ),
      refl,
    )

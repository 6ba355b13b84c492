-- The worked examples: sources, instances, and the attacks that they are compiled to.
use Rattle.std.proofs.Common.{◌≡◌, ℕ, zero, suc, ◌≤◌, false, List, [], ◌∷◌, Some, refl, arith, lit<}
use Rattle.spec_trees.specs.Tree.{Leaf, after}
use Rattle.spec_calculus.specs.Syntax.{Variable, Bind}
use Rattle.spec_calculus.specs.Runs.{Hear}
use Rattle.spec_calculus.specs.Runs as runs
use Rattle.spec_calculus.specs.Limits.{is_large}
use Rattle.spec_calculus.specs.Values.{FreeName}
use Rattle.spec_calculus.proofs.Examples.{after_eight, unpreceded}
use Rattle.spec_terms.specs.Term.{Term, Subst}
use Rattle.spec_clauses.specs.Fact.{Fact, Att, Ev, Bad, Clause}
use Rattle.spec_translation.specs.Conversion.{Fresh}
use Rattle.spec_translation.specs.Visit.{Visit}
use Rattle.spec_translation.specs.Choice.{IsUnified, ruled_choice, choice_under, ChoiceGoesOn}
use Rattle.spec_translation.specs.Choice as translation
use Rattle.spec_translation.proofs.ExampleWords.{variable, name, ruled_call, clause, x, free, own_names, hears, says, two_terms, decryption}
use Rattle.spec_saturation.specs.Key.{key}
use Rattle.spec_attack_runs.specs.Source.{Taken, Action, Idle, Builds, Reduces, Reaches, Source}
use Rattle.spec_attack_runs.specs.Gathered.{AreSources}
use Rattle.spec_attack_runs.specs.Instance.{own_name, closing, Pending, Meeting, IsGiven, IsResolved, nothing, given, resolved}
use Rattle.spec_attack_runs.specs.Compiling.{take_step, placed}
use Rattle.spec_attack_runs.specs.Walking.{once, walked}
use Rattle.spec_attack_runs.specs.Attack.{IsAttack}
use Rattle.spec_attack_runs.specs.Example.{entry, gives_away, secret, given_away_log, ends_too_soon, begun_before, eight_steps, enc, made, ends_too_soon_log}

abbrev source : Action → Clause Term → Source
source action raw = record { raw = raw; part = 1; action = action }

abbrev pending : ℕ → List Term → Pending
pending number terms = record { number = number; terms = terms }

-- `out(c,s)`: the secret is heard
abbrev heard : Source
heard = source (Reaches (record { point = 1; choices = []; messages = []; sessions = []; phase = 0 })) (clause [] (Att 0 (free 2)))

abbrev asks : Source
asks = source Idle (clause (Att 0 (free 2) ∷ []) (Bad []))

abbrev given_away_sources : List Source
given_away_sources = source Idle (clause [] (Att 0 (free 1))) ∷ source Idle own_names ∷ source Idle hears ∷ source Idle says ∷ heard ∷ asks ∷ []

given_away_gathered : AreSources gives_away secret given_away_sources
given_away_gathered = (heard ∷ [], ([], refl, refl), refl)

abbrev it_is_told : Meeting
it_is_told = record { raw = clause [] (Bad []); lefts = []; rights = [] }

told_of_it : IsResolved given_away_log (pending 7 []) 1 (pending 5 []) (pending 6 []) 1
told_of_it = record {
  entry = entry (key 6 5 1) (clause [] (Bad []));
  major_solved = false;
  solved = entry (key 0 0 5) (clause [] (Att 0 (free 2)));
  unsolved = entry (key 5 5 6) (clause (Att 0 (free 2) ∷ []) (Bad []));
  met = it_is_told;
  part = clause [] (Bad []);
  at = refl;
  order = refl;
  solved_at = refl;
  unsolved_at = refl;
  left_solved = refl;
  meets = record {
    at = record { index = 0; fact = Att 0 (free 2); others = [] };
    offset = 0;
    selected = refl;
    apart = (tt, tt);
    unified = (Leaf, record { accepted = refl; most = λ r e. (r, λ n. refl) }, refl);
  };
  small_raw = refl;
  part_at = refl;
  is_left = refl;
  is_right = refl;
  small = refl;
  next = refl;
}

given_heard : IsGiven given_away_sources given_away_log (pending 5 []) 1 heard 1
given_heard = record {
  entry = entry (key 0 0 5) (clause [] (Att 0 (free 2)));
  source = heard;
  part = heard.raw;
  at = refl;
  given = refl;
  source_at = refl;
  part_at = refl;
  is_instance = refl;
  next = refl;
  small = refl;
}

given_asks : IsGiven given_away_sources given_away_log (pending 6 []) 1 asks 1
given_asks = record {
  entry = entry (key 5 5 6) (clause (Att 0 (free 2) ∷ []) (Bad []));
  source = asks;
  part = asks.raw;
  at = refl;
  given = refl;
  source_at = refl;
  part_at = refl;
  is_instance = refl;
  next = refl;
  small = refl;
}

pub a_secret_is_heard : IsAttack gives_away secret given_away_log 7 (Hear 1 ∷ [])
unfolding is_large take_step placed once walked
a_secret_is_heard = record {
  compiled = record {
    sources = given_away_sources;
    instances = heard ∷ asks ∷ [];
    are_sources = given_away_gathered;
    come = resolved told_of_it (given given_heard (given given_asks nothing));
    few = let h : 2 ≤ 100000 = omega arith in h;
    compiles = refl;
    short = let h : 1 ≤ 100000 = omega arith in h;
  };
  violates = record {
    count = 1;
    configuration = record { threads = runs.At 2 [] ∷ []; known = Leaf (FreeName 1) ∷ Leaf (FreeName 2) ∷ []; events = []; next = 0; phase = 0; entries = [] };
    runs = refl;
    violated = ((1, lit< tt, refl), omega arith);
  };
}

-- The second example: the second role once it has received, with the variable 1 for the message and 0 for its copy.
abbrev received : Visit
received = record { scope = record { name = Variable 1; term = x 1 } ∷ []; hypotheses = Att 0 (x 1) ∷ []; diffs = []; messages = x 1 ∷ []; sessions = x 0 ∷ []; phase = 0 }

-- the rule's variables are 2 and 3, and the pattern's is 4
abbrev new : Fresh
new = record { base = 4; first = 2 }

abbrev choice : translation.Choice
choice = ruled_choice ends_too_soon received (Leaf (Bind 2)) (ruled_call decryption (variable 1 ∷ name 2 ∷ [])) 2 new

-- the message is enc(v2,k), the key k, and what is bound v2
abbrev unifier : Subst
unifier zero = x 0
unifier (suc zero) = enc (x 2) (free 2)
unifier (suc (suc zero)) = x 2
unifier (suc (suc (suc zero))) = free 2
unifier (suc (suc (suc (suc zero)))) = x 2
unifier (suc (suc (suc (suc (suc n))))) = x (suc (suc (suc (suc (suc n)))))

most_general : (r : Subst) → IsUnified (choice_under r choice) → (n : ℕ) → after r unifier n ≡ r n
most_general r e zero = refl
most_general r e (suc zero) = let rows = e.0 in cc
most_general r e (suc (suc zero)) = refl
most_general r e (suc (suc (suc zero))) = let rows = e.0 in cc
most_general r e (suc (suc (suc (suc zero)))) = e.1
most_general r e (suc (suc (suc (suc (suc n))))) = refl

abbrev decrypted : Visit
decrypted = record {
  scope = record { name = Variable 1; term = enc (x 2) (free 2) } ∷ record { name = Variable 2; term = x 2 } ∷ [];
  hypotheses = Att 0 (enc (x 2) (free 2)) ∷ [];
  diffs = [];
  messages = enc (x 2) (free 2) ∷ [];
  sessions = x 0 ∷ [];
  phase = 0;
}

decrypts : ChoiceGoesOn ends_too_soon received (Leaf (Bind 2)) (ruled_call decryption (variable 1 ∷ name 2 ∷ [])) (Some decrypted)
decrypts = record {
  base = 2;
  at = new;
  is_new = ((omega arith, tt), ((omega arith, tt), ((omega arith, tt), ((omega arith, tt), tt))));
  is_apart = ((omega arith, tt), ((omega arith, tt), (tt, ((omega arith, (omega arith, tt)), ((omega arith, tt), tt)))));
  is_fresh = record {
    is_new = ((omega arith, tt), ((omega arith, tt), ((omega arith, tt), ((omega arith, tt), tt))));
    from_first = (omega arith, tt);
  };
  goes_on = (unifier, record { accepted = (refl, refl); most = λ r e. (r, most_general r e) }, refl);
}

-- what is heard of the first role in the copy of that number, its beginning, and the end of the second in a copy of its own
abbrev encrypted : Term → Source
encrypted session = source (Reaches (record { point = 4; choices = []; messages = []; sessions = session ∷ []; phase = 0 })) (clause [] (Att 0 (enc (made session) (free 2))))

abbrev begun : Source
begun = source (Reaches (record { point = 5; choices = []; messages = []; sessions = x 0 ∷ []; phase = 0 })) (clause [] (Ev 1 (made (x 0) ∷ [])))

abbrev ended : Term → Term → Source
ended t session = source (Reaches (record { point = 10; choices = Taken (1 ∷ []) ∷ []; messages = enc t (free 2) ∷ []; sessions = session ∷ []; phase = 0 }))
    (clause (Att 0 (enc t (free 2)) ∷ []) (Ev 2 (t ∷ [])))

abbrev asks_of : Term → Source
asks_of t = source Idle (clause (Ev 2 (t ∷ []) ∷ []) (Bad (t ∷ [])))

abbrev ends_too_soon_sources : List Source
ends_too_soon_sources = source Idle (clause [] (Att 0 (free 1))) ∷ source Idle own_names
    ∷ source (Builds 1) (clause (Att 0 (x 0) ∷ Att 0 (x 1) ∷ []) (Att 0 (enc (x 0) (x 1))))
    ∷ source (Reduces 1 1) (clause (Att 0 (enc (x 0) (x 1)) ∷ Att 0 (x 1) ∷ []) (Att 0 (x 0)))
    ∷ source Idle hears ∷ source Idle says ∷ encrypted (x 0) ∷ begun ∷ ended (x 0) (x 1) ∷ asks_of (x 0) ∷ []

ends_gathered : AreSources ends_too_soon begun_before ends_too_soon_sources
ends_gathered = (
  encrypted (x 0) ∷ begun ∷ ended (x 0) (x 1) ∷ [],
  (
    encrypted (x 0) ∷ begun ∷ [],
    ended (x 0) (x 1) ∷ [],
    (0, tt, (begun ∷ [], ([], refl, refl), refl)),
    (
      0,
      tt,
      (
        record { base = 1; first = 1 },
        record { is_new = ((omega arith, tt), tt); from_first = (omega arith, tt) },
        (
          Some decrypted ∷ [],
          (Some decrypted, [], decrypts, refl, refl),
          ended (x 0) (x 1) ∷ [],
          [],
          (ended (x 0) (x 1) ∷ [], [], ([], refl, refl), refl, refl),
          refl,
          refl,
        ),
      ),
    ),
    refl,
  ),
  refl,
)

-- the name that the first role makes, in the copy of the first number
abbrev the_name : Term
the_name = made (own_name 1)

-- The last clause comes of the end and the goal, and the end of what was heard and of the second role. In both the second clause's
-- variable stands for the name of the first one's copy.
abbrev by_name : Subst
by_name = two_terms (x 0) (made (x 0))

ended_most : (r : Subst) → Ev 2 (made (r 0) ∷ []) ≡ Ev 2 (r 1 ∷ []) → (n : ℕ) → after r by_name n ≡ r n
ended_most r e zero = refl
ended_most r e (suc zero) = let same = e in cc
ended_most r e (suc (suc n)) = refl

decrypted_most : (r : Subst) → Att 0 (enc (made (r 0)) (free 2)) ≡ Att 0 (enc (r 1) (free 2)) → (n : ℕ) → after r by_name n ≡ r n
decrypted_most r e zero = refl
decrypted_most r e (suc zero) = let same = e in cc
decrypted_most r e (suc (suc n)) = refl

abbrev meeting_of : Fact Term → Meeting
meeting_of conclusion = record { raw = clause [] conclusion; lefts = x 0 ∷ []; rights = made (x 0) ∷ [] }

last_of_all : IsResolved ends_too_soon_log (pending 14 []) 1 (pending 12 (own_name 1 ∷ [])) (pending 13 (the_name ∷ [])) 2
unfolding closing
last_of_all = record {
  entry = entry (key 13 12 1) (clause [] (Bad (made (x 0) ∷ [])));
  major_solved = false;
  solved = entry (key 9 7 1) (clause [] (Ev 2 (made (x 0) ∷ [])));
  unsolved = entry (key 12 12 10) (clause (Ev 2 (x 0 ∷ []) ∷ []) (Bad (x 0 ∷ [])));
  met = meeting_of (Bad (made (x 0) ∷ []));
  part = clause [] (Bad (made (x 0) ∷ []));
  at = refl;
  order = refl;
  solved_at = refl;
  unsolved_at = refl;
  left_solved = refl;
  meets = record {
    at = record { index = 0; fact = Ev 2 (x 0 ∷ []); others = [] };
    offset = 1;
    selected = refl;
    apart = ((omega arith, tt), tt);
    unified = (by_name, record { accepted = refl; most = λ r e. (r, ended_most r e) }, refl);
  };
  small_raw = refl;
  part_at = refl;
  is_left = refl;
  is_right = refl;
  small = refl;
  next = refl;
}

end_of_all : IsResolved ends_too_soon_log (pending 12 (own_name 1 ∷ [])) 2 (pending 7 (own_name 1 ∷ [])) (pending 9 (the_name ∷ [])) 2
unfolding closing
end_of_all = record {
  entry = entry (key 9 7 1) (clause [] (Ev 2 (made (x 0) ∷ [])));
  major_solved = false;
  solved = entry (key 0 0 7) (clause [] (Att 0 (enc (made (x 0)) (free 2))));
  unsolved = entry (key 0 0 9) (clause (Att 0 (enc (x 0) (free 2)) ∷ []) (Ev 2 (x 0 ∷ [])));
  met = meeting_of (Ev 2 (made (x 0) ∷ []));
  part = clause [] (Ev 2 (made (x 0) ∷ []));
  at = refl;
  order = refl;
  solved_at = refl;
  unsolved_at = refl;
  left_solved = refl;
  meets = record {
    at = record { index = 0; fact = Att 0 (enc (x 0) (free 2)); others = [] };
    offset = 1;
    selected = refl;
    apart = ((omega arith, tt), tt);
    unified = (by_name, record { accepted = refl; most = λ r e. (r, decrypted_most r e) }, refl);
  };
  small_raw = refl;
  part_at = refl;
  is_left = refl;
  is_right = refl;
  small = refl;
  next = refl;
}

given_encrypted : IsGiven ends_too_soon_sources ends_too_soon_log (pending 7 (own_name 1 ∷ [])) 2 (encrypted (own_name 1)) 2
unfolding closing
given_encrypted = record {
  entry = entry (key 0 0 7) (clause [] (Att 0 (enc (made (x 0)) (free 2))));
  source = encrypted (x 0);
  part = (encrypted (x 0)).raw;
  at = refl;
  given = refl;
  source_at = refl;
  part_at = refl;
  is_instance = refl;
  next = refl;
  small = refl;
}

given_ended : IsGiven ends_too_soon_sources ends_too_soon_log (pending 9 (the_name ∷ [])) 2 (ended the_name (own_name 2)) 3
unfolding closing
given_ended = record {
  entry = entry (key 0 0 9) (clause (Att 0 (enc (x 0) (free 2)) ∷ []) (Ev 2 (x 0 ∷ [])));
  source = ended (x 0) (x 1);
  part = (ended (x 0) (x 1)).raw;
  at = refl;
  given = refl;
  source_at = refl;
  part_at = refl;
  is_instance = refl;
  next = refl;
  small = refl;
}

given_asks_of : IsGiven ends_too_soon_sources ends_too_soon_log (pending 13 (the_name ∷ [])) 3 (asks_of the_name) 3
unfolding closing
given_asks_of = record {
  entry = entry (key 12 12 10) (clause (Ev 2 (x 0 ∷ []) ∷ []) (Bad (x 0 ∷ [])));
  source = asks_of (x 0);
  part = (asks_of (x 0)).raw;
  at = refl;
  given = refl;
  source_at = refl;
  part_at = refl;
  is_instance = refl;
  next = refl;
  small = refl;
}

pub an_end_is_too_soon : IsAttack ends_too_soon begun_before ends_too_soon_log 14 eight_steps
unfolding is_large take_step placed once walked
an_end_is_too_soon = record {
  compiled = record {
    sources = ends_too_soon_sources;
    instances = encrypted (own_name 1) ∷ ended the_name (own_name 2) ∷ asks_of the_name ∷ [];
    are_sources = ends_gathered;
    come = resolved last_of_all (resolved end_of_all (given given_encrypted (given given_ended (given given_asks_of nothing))));
    few = let h : 3 ≤ 100000 = omega arith in h;
    compiles = refl;
    short = let h : 8 ≤ 100000 = omega arith in h;
  };
  violates = record { count = 8; configuration = after_eight; runs = refl; violated = unpreceded };
}

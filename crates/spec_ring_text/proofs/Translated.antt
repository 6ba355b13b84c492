-- The translation of a ring: how its process is visited, and how many clauses come of it.
use Rattle.std.proofs.Common.{◌≡◌, ◌≢◌, ℕ, zero, suc, ◌+◌, ◌-◌, ◌*◌, ◌≤◌, Bool, true, false, ◌||◌, cond, nat_eq, Some, None, List, [], ◌∷◌, ◌++◌, length, map, flat_map, filter_map, unwrap_or, inl, inr, refl, sym, ap, subst, ◌∙◌, arith, ne_eqb, length-append}
use Rattle.std.specs.List.{enumerate_from}
use Rattle.std.proofs.lemmas.Bool.{eq-eqb}
use Rattle.std.proofs.lemmas.Bool.Decides.{eqb_tells}
use Rattle.spec_trees.specs.Tree.{Leaf, node, after}
use Rattle.spec_calculus.specs.Bounds.{most_visits}
use Rattle.spec_calculus.specs.Points.{point_after}
use Rattle.spec_calculus.specs.Syntax.{Variable, Bind, Calls, Ruled, Process, Nil, Output, Let, Rule, Secret}
use Rattle.spec_calculus.specs.Syntax as calculus
use Rattle.spec_terms.specs.Term.{Ctor, Term, Subst}
use Rattle.spec_clauses.specs.Fact.{Att, Clause}
use Rattle.spec_clauses.specs.Variables.{AreBelow}
use Rattle.spec_clauses.specs.Norm.{norms}
use Rattle.spec_clauses.specs.Limits.{is_large_raw}
use Rattle.spec_translation.specs.Conversion.{StandsFor, leaf_term, free_term, Fresh}
use Rattle.spec_translation.specs.Attacker.{name_known, fresh_known, constructor_applied, rule_applied, message_heard, message_sent}
use Rattle.spec_translation.specs.Visit.{Visit, first_visit, is_large_term, evaluates_large}
use Rattle.spec_translation.specs.Otherwise.{otherwise_visit}
use Rattle.spec_translation.specs.Choice.{Choice, choice_under, IsUnified, ruled_choice, GoesOn, ruled_terms, ChoiceGoesOn}
use Rattle.spec_translation.specs.Course.{Outcome, Done, Course, Finished, Counted, Unless, Adds}
use Rattle.spec_translation.specs.Visited.{Visited, Chosen}
use Rattle.spec_translation.specs.Translation.{Clauses, IsTranslation, attacker_clauses, goal_clauses}
use Rattle.spec_translation.proofs.Plain.{attacker_of_one_phase}
use Rattle.spec_ring_text.specs.Text.{successor}
use Rattle.spec_ring_text.specs.Meaning as meaning
use Rattle.spec_ring_text.specs.Meaning.{keys, key_name, encrypted, encryption, decryption, pass, passes, ring_protocol}
use Rattle.spec_ring_text.proofs.Running.{ring_plain}
use Rattle.spec_ring_text.proofs.Sizes.{last_successor, next_successor}

-- the keys are not public
no_key_known : (k i m : ℕ) → filter_map name_known (enumerate_from k (keys i m)) ≡ []
no_key_known k i zero = refl
no_key_known k i (suc m) = no_key_known (k + 1) (i + 1) m

-- the attacker's raw clauses, with those of the keys left open
abbrev attacker_with : ℕ → List (Clause Term) → List (Clause Term)
attacker_with n known =
    record { hypotheses = []; diffs = []; conclusion = Att 0 (free_term 1) }
    ∷ (known ++ (fresh_known ∷ (filter_map (constructor_applied 0) (enumerate_from 1 (encryption ∷ []))
    ++ (flat_map (λ destructor. map (rule_applied (ring_protocol n) 0) destructor.rules) (decryption ∷ []) ++ (message_heard 0 ∷ message_sent 0 ∷ [])))))

attacker_count : (n : ℕ) → length (attacker_clauses (ring_protocol n)) ≡ 6
attacker_count n =
    ap (λ (raws : List (Clause Term)). length (flat_map norms raws)) (attacker_of_one_phase (ring_protocol n) (ring_plain n))
    ∙ ap (λ (known : List (Clause Term)). length (flat_map norms (attacker_with n known))) (no_key_known 3 1 n)

-- what variables stand for
abbrev standing : ℕ → Term → StandsFor
standing i t = record { name = Variable i; term = t }

found_first : (v : ℕ) (t : Term) → leaf_term (standing v t ∷ []) (Variable v) ≡ t
found_first v t = ap (λ (b : Bool). unwrap_or (cond b (Some t) None) (free_term 0)) (eq-eqb v v refl)

found_second : (v : ℕ) (t u : Term) → leaf_term (standing v t ∷ standing (v + 1) u ∷ []) (Variable (v + 1)) ≡ u
found_second v t u =
    ap (λ (b : Bool). unwrap_or (cond b (Some t) (cond (nat_eq (v + 1) (v + 1)) (Some u) None)) (free_term 0)) (ne_eqb v (v + 1) (λ e. omega arith))
    ∙ ap (λ (b : Bool). unwrap_or (cond b (Some u) None) (free_term 0)) (eq-eqb (v + 1) (v + 1) refl)

nothing_left : (v : ℕ) → v - v ≡ 0
nothing_left v = omega arith

-- a visit that is not too large goes on
unless : (b : Bool) (point : ℕ) (R : Course) (left : ℕ) (out : Outcome) → b ≡ false → R left out → Unless b point R left out
unless true point R left out e r = absurd (let never : true ≡ false = e in cc)
unless false point R left out e r = r

-- the process that has received a message: its variable is the one behind d
abbrev received : ℕ → ℕ → Visit
received v d = record { scope = standing v (Leaf (1 + d)) ∷ []; hypotheses = Att 0 (Leaf (1 + d)) ∷ []; diffs = []; messages = Leaf (1 + d) ∷ []; sessions = Leaf 0 ∷ []; phase = 0 }

-- a term under key i
abbrev under : Term → ℕ → Term
under t i = node (Ctor 1) (t ∷ free_term (i + 2) ∷ [])

-- the same process once it has decrypted what key i hid
abbrev decrypted : ℕ → ℕ → Visit
decrypted i v = record {
  scope = standing v (under (Leaf 2) i) ∷ standing (v + 1) (Leaf 2) ∷ [];
  hypotheses = Att 0 (under (Leaf 2) i) ∷ [];
  diffs = [];
  messages = under (Leaf 2) i ∷ [];
  sessions = Leaf 0 ∷ [];
  phase = 0;
}

-- what it adds where it encrypts the term with key j
abbrev passed : ℕ → ℕ → Term → Clause Term
passed i j t = record { hypotheses = Att 0 (under (Leaf 2) i) ∷ []; diffs = []; conclusion = Att 0 (under t j) }

-- its last step, and the step before
abbrev sending : ℕ → ℕ → Process
sending j v = Output (Leaf (calculus.Free 1)) (encrypted (Leaf (Variable (v + 1))) (key_name j)) Nil

abbrev opening : ℕ → ℕ → ℕ → Process
opening i j v = Let (Leaf (Bind (v + 1))) (meaning.decrypted (Leaf (Variable v)) (key_name i)) (sending j v) Nil

sends : (n i j v point left : ℕ) → Visited (ring_protocol n) (sending j v) point (decrypted i v) (suc (suc left)) (Done (norms (passed i j (Leaf 2)) ++ []) left)
sends n i j v point left =
    subst (λ (t : Term). Unless ((is_large_term (free_term 1) || (is_large_term (under t j) || false)) || is_large_raw (passed i j t)) point (Adds (norms (passed i j t)) (Counted (point + 1) Finished)) (suc left) (Done (norms (passed i j (Leaf 2)) ++ []) left))
    (sym (found_second v (under (Leaf 2) i) (Leaf 2))) (Done [] left, refl, refl)

-- the rule of the destructor: its variables are 2 and 3 where it is applied, and the pattern's is 4
abbrev rule : Rule
rule = record { left = encrypted (Leaf (Variable 1)) (Leaf (Variable 2)) ∷ Leaf (Variable 2) ∷ []; right = Leaf (Variable 1) }

abbrev ruled : ℕ → ℕ → Ruled
ruled i v = node (Calls rule) (Leaf (Leaf (Variable v)) ∷ Leaf (key_name i) ∷ [])

abbrev new : ℕ → Fresh
new v = record { base = 4; first = v + 1 }

abbrev choice_with : ℕ → ℕ → Term → ℕ → Choice
choice_with i v t d = record {
  arguments = t ∷ free_term (i + 2) ∷ [];
  sides = node (Ctor 1) (Leaf 2 ∷ Leaf 3 ∷ []) ∷ Leaf 3 ∷ [];
  value = Leaf 2;
  target = Leaf (4 + d);
  visit = record { scope = standing v (Leaf 1) ∷ standing (v + 1) (Leaf (4 + d)) ∷ []; hypotheses = Att 0 (Leaf 1) ∷ []; diffs = []; messages = Leaf 1 ∷ []; sessions = Leaf 0 ∷ []; phase = 0 };
}

-- the most general unifier: the message is what key i hides, and what is bound is the rule's first variable
abbrev unifier : ℕ → Subst
unifier i zero = Leaf 0
unifier i (suc zero) = under (Leaf 2) i
unifier i (suc (suc zero)) = Leaf 2
unifier i (suc (suc (suc zero))) = free_term (i + 2)
unifier i (suc (suc (suc (suc zero)))) = Leaf 2
unifier i (suc (suc (suc (suc (suc k))))) = Leaf (suc (suc (suc (suc (suc k)))))

most_general : (i v : ℕ) (r : Subst) → IsUnified (choice_under r (choice_with i v (Leaf 1) 0)) → (k : ℕ) → after r (unifier i) k ≡ r k
most_general i v r e zero = refl
most_general i v r e (suc zero) = let rows = e.0 in cc
most_general i v r e (suc (suc zero)) = refl
most_general i v r e (suc (suc (suc zero))) = let rows = e.0 in cc
most_general i v r e (suc (suc (suc (suc zero)))) = e.1
most_general i v r e (suc (suc (suc (suc (suc k))))) = refl

decrypts : (n i v : ℕ) → ChoiceGoesOn (ring_protocol n) (received v 0) (Leaf (Bind (v + 1))) (ruled i v) (Some (decrypted i v))
decrypts n i v = record {
  base = 2;
  at = new v;
  is_new = ((omega arith, tt), ((omega arith, tt), ((omega arith, tt), ((omega arith, tt), tt))));
  is_apart = subst (λ (c : Choice). AreBelow 4 (ruled_terms c)) same ((omega arith, tt), ((omega arith, tt), (tt, ((omega arith, (omega arith, tt)), ((omega arith, tt), tt)))));
  is_fresh = record {
    is_new = ((omega arith, tt), ((omega arith, tt), ((omega arith, tt), ((omega arith, tt), tt))));
    from_first = (omega arith, tt);
  };
  goes_on = subst (λ (c : Choice). GoesOn c (Some (decrypted i v))) same (unifier i, record { accepted = (refl, refl); most = λ r e. (r, most_general i v r e) }, refl);
}
  where
    same : choice_with i v (Leaf 1) 0 ≡ ruled_choice (ring_protocol n) (received v 0) (Leaf (Bind (v + 1))) (ruled i v) 2 (new v)
    same = let t : Leaf 1 ≡ leaf_term (standing v (Leaf 1) ∷ []) (Variable v) = sym (found_first v (Leaf 1)) in let d : 0 ≡ v + 1 - (v + 1) = sym (nothing_left (v + 1)) in λ k. choice_with i v (t k) (d k)

-- the clause of a process, as its visit adds it
abbrev added_by : ℕ → ℕ → List (Clause Term)
added_by i j = (norms (passed i j (Leaf 2)) ++ []) ++ []

-- what comes behind its `let`
abbrev goes_on : ℕ → ℕ → ℕ → ℕ → ℕ → Course
goes_on n i j v point = Chosen (ring_protocol n) (received v 0) (Leaf (Bind (v + 1))) (meaning.decrypted (Leaf (Variable v)) (key_name i)) point
    (λ w. Visited (ring_protocol n) (sending j v) (point + 1) w) (Visited (ring_protocol n) Nil (point_after (point + 1) (sending j v))
    (otherwise_visit (ring_protocol n) (received v 0) (Leaf (Bind (v + 1))) (meaning.decrypted (Leaf (Variable v)) (key_name i))))

opens : (n i j v point left : ℕ) → Visited (ring_protocol n) (opening i j v) point (received v 0) (suc (suc (suc (suc left)))) (Done (added_by i j) left)
opens n i j v point left = unless (evaluates_large (ring_protocol n) (received v 0) (opening i j v)) point (goes_on n i j v point) (suc (suc (suc left))) (Done (added_by i j) left) small (
  Some (decrypted i v) ∷ [],
  (Some (decrypted i v), [], decrypts n i v, refl, refl),
  (Done (norms (passed i j (Leaf 2)) ++ []) (suc left), sends n i j v (point + 1) (suc left), (Done [] left, refl, refl)),
)
  where
    small : evaluates_large (ring_protocol n) (received v 0) (opening i j v) ≡ false
    small = ap (λ (t : Term). is_large_term t || (is_large_term (free_term (i + 2)) || false)) (found_first v (Leaf 1))

passes_on : (n i j v point left : ℕ) → Visited (ring_protocol n) (pass i j v) point first_visit (suc (suc (suc (suc (suc (suc left)))))) (Done (added_by i j) left)
passes_on n i j v point left = (
  0,
  tt,
  (
    record { base = 1; first = v },
    record { is_new = ((omega arith, tt), tt); from_first = (omega arith, tt) },
    subst (λ (d : ℕ). Visited (ring_protocol n) (opening i j v) (point + 1 + 1) (received v d) (suc (suc (suc (suc left)))) (Done (added_by i j) left)) (sym (nothing_left v)) (opens n i j v (point + 1 + 1) left),
  ),
)

-- how many visits have to be left before those of the processes of m keys and one, that so many are left behind them
abbrev room : ℕ → ℕ → ℕ
room zero left = suc (suc (suc (suc (suc (suc left)))))
room (suc m) left = suc (suc (suc (suc (suc (suc (suc (room m left)))))))

room_size : (m left : ℕ) → room m left ≡ 7 * m + 6 + left
room_size zero left = omega arith
room_size (suc m) left = let e = room_size m left in omega arith

-- the clauses that they add
abbrev added : ℕ → ℕ → ℕ → List (Clause Term)
added n i zero = added_by i (successor n i)
added n i (suc m) = added_by i (successor n i) ++ added n (i + 1) m

all_pass_on : (n i v m point left : ℕ) → Visited (ring_protocol n) (passes n i v m) point first_visit (room m left) (Done (added n i m) left)
all_pass_on n i v zero point left = passes_on n i (successor n i) v point left
all_pass_on n i v (suc m) point left = (
  Done (added_by i (successor n i)) (room m left),
  passes_on n i (successor n i) v (point + 1) (room m left),
  (Done (added n (i + 1) m) left, all_pass_on n (i + 1) (v + 2) m (point_after (point + 1) (pass i (successor n i) v)) left, refl),
)

-- no key is its own successor
other_key : (n i : ℕ) → 2 ≤ n → i ≤ n → nat_eq (successor n i + 2) (i + 2) ≡ false
other_key n i two within =
    elim (eqb_tells i n) [
      | inl h ↦ (let same : i ≡ n = h.1 in let is : successor n i ≡ 1 = last_successor n i same in ne_eqb (successor n i + 2) (i + 2) (λ e. omega arith))
      | inr h ↦ (let other : i ≢ n = h.1 in let is : successor n i ≡ i + 1 = next_successor n i (omega arith) in ne_eqb (successor n i + 2) (i + 2) (λ e. omega arith))
    ]

one_added : (i j : ℕ) → nat_eq (j + 2) (i + 2) ≡ false → length (added_by i j) ≡ 1
one_added i j other = rw other refl

added_count : (n i m : ℕ) → 2 ≤ n → i + m ≡ n → length (added n i m) ≡ suc m
added_count n i zero two last = one_added i (successor n i) (other_key n i two (omega arith))
added_count n i (suc m) two last =
    let here = one_added i (successor n i) (other_key n i two (omega arith)) in
    let later = added_count n (i + 1) m two (omega arith) in
    omega (arith, here, later, length-append (added_by i (successor n i)) (added n (i + 1) m))

-- what the process adds that sends `s` under the first key
abbrev begun : Clause Term
begun = record { hypotheses = []; diffs = []; conclusion = Att 0 (under (free_term 2) 1) }

ring_visited : (m left : ℕ) → Visited (ring_protocol (suc m)) (ring_protocol (suc m)).main 1 first_visit (suc (suc (suc (room m left)))) (Done ((norms begun ++ []) ++ added (suc m) 1 m) left)
ring_visited m left =
    let same : m ≡ suc m - 1 = omega arith in (
      Done (norms begun ++ []) (room m left),
      (Done [] (room m left), refl, refl),
      (
        Done (added (suc m) 1 m) left,
        subst (λ (k : ℕ). Visited (ring_protocol (suc m)) (passes (suc m) 1 1 k) 4 first_visit (room m left) (Done (added (suc m) 1 m) left)) same (all_pass_on (suc m) 1 1 m 4 left),
        refl,
      ),
    )

-- the translation, and how many clauses it has
pub ring_translated : (m : ℕ) → 1 ≤ m → 7 * suc m + 2 ≤ most_visits → (all : List (Clause Term)) × IsTranslation (ring_protocol (suc m)) (Secret (Leaf (calculus.Free 2)) 0) (Clauses all) × (length all ≡ suc m + 8)
ring_translated m more fits =
    let P = ring_protocol (suc m) in
    let left = most_visits - (7 * suc m + 2) in
    let visited = (norms begun ++ []) ++ added (suc m) 1 m in
    let enough : suc (suc (suc (room m left))) ≡ most_visits = omega (arith, room_size m left) in
    let goal = goal_clauses P (Secret (Leaf (calculus.Free 2)) 0) in (
      attacker_clauses P ++ (visited ++ goal),
      (Done visited left, subst (λ (k : ℕ). Visited P P.main 1 first_visit k (Done visited left)) enough (ring_visited m left), refl),
      omega (arith, attacker_count (suc m), added_count (suc m) 1 m (omega arith) (omega arith), length-append (attacker_clauses P) (visited ++ goal), length-append visited goal, length-append (norms begun ++ []) (added (suc m) 1 m)),
    )

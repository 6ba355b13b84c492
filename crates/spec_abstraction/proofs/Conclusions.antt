-- What the attacker's clauses conclude: names, constructors, rules of destructors, and messages.
use Rattle.std.proofs.Common.{◌≡◌, ◌∙◌, ℕ, zero, suc, ◌+◌, ◌-◌, ◌<◌, ◌≤◌, true, false, cond, nat_eq, Option, Some, None, List, [], ◌∷◌, ◌++◌, map, length, refl, ap, sym, subst, arith}
use Rattle.std.specs.Prelude.{flat_map, filter_map, slice_get}
use Rattle.std.specs.List.{AllByRecursion, enumerate_from, cons_option}
use Rattle.spec_trees.specs.Tree.{Leaf, bind, node}
use Rattle.spec_trees.proofs.Rows.{bind-node}
use Rattle.spec_calculus.specs.Syntax.{Rule, Declared, Destructor, Protocol}
use Rattle.spec_calculus.specs.Points.{numbered, greatest_phase}
use Rattle.spec_calculus.specs.Matching.{rules_of}
use Rattle.spec_terms.specs.Term.{Ctor, Attacker, Term, Subst}
use Rattle.spec_clauses.specs.Fact.{Fact, Att, Mess, Clause, fact_under}
use Rattle.spec_clauses.specs.Kept.{AreMetBy}
use Rattle.spec_clauses.specs.Flat.{flat, flat_under}
use Rattle.spec_clauses.specs.Inclusion.{Picks, here, there, Has}
use Rattle.spec_clauses.proofs.Lists.{all_first, all_second}
use Rattle.spec_derivations.specs.Derivation.{is_required_event, AreDerived, nothing, by_clause}
use Rattle.spec_derivations.proofs.Forest.{flat_under-no_event}
use Rattle.spec_translation.specs.Conversion.{free_term}
use Rattle.spec_translation.specs.Attacker.{variables_from, name_known, fresh_known, constructor_applied, rule_applied, message_heard, message_sent, done_in, kept_known, done_after, attacker_raw}
use Rattle.spec_abstraction.specs.Taken.{IsTaken}
use Rattle.spec_abstraction.proofs.Listed.{beside}

-- an item that a filter_map gives of one of the items
all_of_some : {X Y : Type 0} (P : Y → Type 0) (h : X → Option Y) (xs : List X) (x : X) (y : Y) → Has xs x → h x ≡ Some y → AllByRecursion P (filter_map h xs) → P y
all_of_some {X} {Y} P h xs x y has e all = of_pick has.1 e all where
  headed : (o : Option Y) (ys : List Y) → o ≡ Some y → AllByRecursion P (cons_option o ys) → P y
  headed None ys e a = cc
  headed (Some z) ys e a = let same : z ≡ y = cc in subst P same a.0

  behind : (o : Option Y) (ys : List Y) → AllByRecursion P (cons_option o ys) → AllByRecursion P ys
  behind None ys a = a
  behind (Some z) ys a = a.1

  of_pick : {zs rest : List X} {x : X} → Picks zs x rest → h x ≡ Some y → AllByRecursion P (filter_map h zs) → P y
  of_pick (here {x = x} {xs = zs}) e a = headed (h x) (filter_map h zs) e a
  of_pick (there {y = z} {xs = zs} p) e a = of_pick p e (behind (h z) (filter_map h zs) a)

-- an item at a place, with its number
has_enumerated : {X : Type 0} (n : ℕ) (xs : List X) (k : ℕ) (x : X) → slice_get xs k ≡ Some x → Has (enumerate_from n xs) (n + k, x)
has_enumerated n [] k x e = cc
has_enumerated {X} n (y ∷ ys) zero x e =
    let same : y ≡ x = cc in
    let at : n ≡ n + 0 = omega arith in
    (enumerate_from (n + 1) ys, subst (λ p. Picks ((n, y) ∷ enumerate_from (n + 1) ys) p (enumerate_from (n + 1) ys)) (λ i. (at i, same i)) here)
has_enumerated n (y ∷ ys) (suc k) x e =
    let h = has_enumerated (n + 1) ys k x e in
    let at : n + 1 + k ≡ n + suc k = omega arith in
    subst (λ m. Has ((n, y) ∷ enumerate_from (n + 1) ys) (m, x)) at ((n, y) ∷ h.0, there h.1)

numbered_enumerated : {X : Type 0} (xs : List X) (n : ℕ) (x : X) → numbered xs n ≡ Some x → Has (enumerate_from 1 xs) (n, x)
numbered_enumerated xs zero x e = cc
numbered_enumerated xs (suc k) x e =
    let at : 1 + k ≡ suc k = omega arith in
    subst (λ m. Has (enumerate_from 1 xs) (m, x)) at (has_enumerated 1 xs k x e)

all_at : {X : Type 0} (P : X → Type 0) (xs : List X) (k : ℕ) (x : X) → slice_get xs k ≡ Some x → AllByRecursion P xs → P x
all_at P [] k x e a = cc
all_at P (y ∷ ys) zero x e a = let same : y ≡ x = cc in subst P same a.0
all_at P (y ∷ ys) (suc k) x e a = all_at P ys k x e a.1

pub all_numbered : {X : Type 0} (P : X → Type 0) (xs : List X) (n : ℕ) (x : X) → numbered xs n ≡ Some x → AllByRecursion P xs → P x
all_numbered P xs zero x e a = cc
all_numbered P xs (suc k) x e a = all_at P xs k x e a

-- what holds of all the rules of all destructors holds of those of one
all_map : {X Y : Type 0} (P : Y → Type 0) (f : X → Y) (xs : List X) → AllByRecursion P (map f xs) → AllByRecursion (λ x. P (f x)) xs
all_map P f [] a = tt
all_map P f (x ∷ xs) a = (a.0, all_map P f xs a.1)

module _ (P : Protocol) (phase : ℕ) (Q : Clause Term → Type 0) where
  all_rules : (ds : List Destructor) → AllByRecursion Q (flat_map (λ d. map (rule_applied P phase) d.rules) ds) → AllByRecursion (λ d. AllByRecursion (λ rule. Q (rule_applied P phase rule)) d.rules) ds
  all_rules [] a = tt
  all_rules (d ∷ ds) a = (
    all_map Q (rule_applied P phase) d.rules (all_first Q (map (rule_applied P phase) d.rules) (flat_map (λ e. map (rule_applied P phase) e.rules) ds) a),
    all_rules ds (all_second Q (map (rule_applied P phase) d.rules) (flat_map (λ e. map (rule_applied P phase) e.rules) ds) a),
  )

-- what he can do in a phase, one kind at a time
pub record DoneHas (P : Protocol) (all : List (Clause Term)) (phase : ℕ) : Type 0 where
  pub constructors : AllByRecursion (IsTaken all) (filter_map (constructor_applied phase) (enumerate_from 1 P.constructors))
  pub rules : AllByRecursion (λ d. AllByRecursion (λ rule. IsTaken all (rule_applied P phase rule)) d.rules) P.destructors
  pub heard : IsTaken all (message_heard phase)
  pub sent : IsTaken all (message_sent phase)

-- the attacker's raw clauses: what he has at first, what he can do in each phase, and what he keeps
pub record AttackerHas (P : Protocol) (all : List (Clause Term)) : Type 0 where
  pub names : AllByRecursion (IsTaken all) (filter_map name_known (enumerate_from 1 P.frees))
  pub fresh : IsTaken all fresh_known
  pub does : (phase : ℕ) → phase ≤ greatest_phase P.main → DoneHas P all phase
  pub keeps : (phase : ℕ) → phase < greatest_phase P.main → IsTaken all (kept_known phase)

module _ (P : Protocol) (all : List (Clause Term)) where
  done_has : (phase : ℕ) → AllByRecursion (IsTaken all) (done_in P phase) → DoneHas P all phase
  done_has phase a =
      let T = IsTaken all in
      let constructors = filter_map (constructor_applied phase) (enumerate_from 1 P.constructors) in
      let rules = flat_map (λ d. map (rule_applied P phase) d.rules) P.destructors in
      let last = message_heard phase ∷ message_sent phase ∷ [] in
      let two = all_second T constructors (rules ++ last) a in
      let three = all_second T rules last two in
      record {
        constructors = all_first T constructors (rules ++ last) a;
        rules = all_rules P phase T P.destructors (all_first T rules last two);
        heard = three.0;
        sent = three.1.0;
      }

  -- what he keeps at the end of a phase, and can do in the next
  later_has : (from count : ℕ) → AllByRecursion (IsTaken all) (done_after P from count) → (d : ℕ) → d < count → IsTaken all (kept_known (from + d)) × DoneHas P all (from + suc d)
  later_has from zero a d h = absurd (omega (arith, h))
  later_has from (suc count) a zero h =
      let here : from ≡ from + 0 = omega arith in (
        subst (λ k. IsTaken all (kept_known k)) here a.0,
        done_has (from + 1) (all_first (IsTaken all) (done_in P (from + 1)) (done_after P (from + 1) count) a.1),
      )
  later_has from (suc count) a (suc d) h =
      let kept : from + 1 + d ≡ from + suc d = omega arith in
      let then : from + 1 + suc d ≡ from + suc (suc d) = omega arith in
      let others = later_has (from + 1) count (all_second (IsTaken all) (done_in P (from + 1)) (done_after P (from + 1) count) a.1) d (omega (arith, h)) in
      (subst (λ k. IsTaken all (kept_known k)) kept others.0, subst (DoneHas P all) then others.1)

  pub attacker_has : AllByRecursion (IsTaken all) (attacker_raw P) → AttackerHas P all
  attacker_has a = record { names = all_first T names others a; fresh = behind.0; does = done; keeps = kept }
    where
      T : Clause Term → Type 0
      T = IsTaken all

      greatest : ℕ
      greatest = greatest_phase P.main

      names : List (Clause Term)
      names = filter_map name_known (enumerate_from 1 P.frees)

      others : List (Clause Term)
      others = fresh_known ∷ (done_in P 0 ++ done_after P 0 greatest)

      behind : AllByRecursion T others
      behind = all_second T names others a

      later : AllByRecursion T (done_after P 0 greatest)
      later = all_second T (done_in P 0) (done_after P 0 greatest) behind.1

      done : (phase : ℕ) → phase ≤ greatest → DoneHas P all phase
      done zero h = done_has 0 (all_first T (done_in P 0) (done_after P 0 greatest) behind.1)
      done (suc d) h =
          let at : 0 + suc d ≡ suc d = omega arith in
          subst (DoneHas P all) at (later_has 0 greatest later d (omega (arith, h))).1

      kept : (phase : ℕ) → phase < greatest → T (kept_known phase)
      kept phase h =
          let at : 0 + phase ≡ phase = omega arith in
          subst (λ k. T (kept_known k)) at (later_has 0 greatest later phase h).0

-- the substitution of a list's terms for the variables from 0
abbrev pub nth : List Term → Subst
nth [] x = Leaf x
nth (t ∷ ts) zero = t
nth (t ∷ ts) (suc x) = nth ts x

pub nth_fills : (all : List Term) (n : ℕ) (us : List Term) → ((x : ℕ) → nth all (n + x) ≡ nth us x) → map (bind (nth all)) (variables_from n (length us)) ≡ us
nth_fills all n [] same = refl
nth_fills all n (u ∷ us) same =
    let e : n + 0 ≡ n = omega arith in
    let first : nth all n ≡ u = ap (nth all) (sym e) ∙ same 0 in
    let others = nth_fills all (n + 1) us (λ x. let f : n + 1 + x ≡ n + suc x = omega arith in ap (nth all) f ∙ same (suc x)) in
    λ i. first i ∷ others i

-- the flat of `att` of terms under a substitution
pub known_under : (phase : ℕ) (s : Subst) (us : List Term) → flat_under s (map (Att phase) us) ≡ flat_map (λ t. flat (Att phase t)) (map (bind s) us)
known_under phase s [] = refl
known_under phase s (u ∷ us) = ap (λ fs. flat (Att phase (bind s u)) ++ fs) (known_under phase s us)

module _ (P : Protocol) (all : List (Clause Term)) (events : List (Fact Term)) where
  -- the facts are derived by raw clauses that are taken
  abbrev pub Derived : List (Fact Term) → Type 0
  Derived fs = AreDerived (IsTaken all) events fs

  pub both_derived : (fs gs : List (Fact Term)) → Derived fs → Derived gs → Derived (fs ++ gs)
  both_derived fs gs a b = beside (IsTaken all) events fs gs a b

  -- all that a taken clause concludes under a substitution of derived hypotheses
  pub applied : (raw : Clause Term) (s : Subst) → is_required_event raw.conclusion ≡ false → IsTaken all raw → AreMetBy s raw.diffs → Derived (flat_under s raw.hypotheses) → Derived (flat (fact_under s raw.conclusion))
  applied raw s plain taken met premises = each (flat (fact_under s raw.conclusion)) (λ g h. h) where
    each : (gs : List (Fact Term)) → ((g : Fact Term) → Has gs g → Has (flat (fact_under s raw.conclusion)) g) → Derived gs
    each [] part = nothing
    each (g ∷ gs) part = by_clause {c = raw} {premises = flat_under s raw.hypotheses} (flat_under-no_event s raw.conclusion g plain (part g (gs, here))) taken (record { by = s; premises_are = refl; met = met; concludes = part g (gs, here) }) premises (each gs (λ f h. part f (g ∷ h.0, there h.1)))

  module _ (has : AttackerHas P all) where
    -- what the attacker has in a phase he has in each later one
    pub next_derived : (phase : ℕ) (t : Term) → phase < greatest_phase P.main → Derived (flat (Att phase t)) → Derived (flat (Att (phase + 1) t))
    next_derived phase t before known = applied (kept_known phase) (λ x. t) refl (has.keeps phase before) tt (both_derived (flat (Att phase t)) [] known nothing)

    counted_derived : (from count : ℕ) (t : Term) → from + count ≤ greatest_phase P.main → Derived (flat (Att from t)) → Derived (flat (Att (from + count) t))
    counted_derived from zero t within known = let here : from ≡ from + 0 = omega arith in subst (λ k. Derived (flat (Att k t))) here known
    counted_derived from (suc count) t within known =
        let there : from + count + 1 ≡ from + suc count = omega arith in
        subst (λ k. Derived (flat (Att k t))) there (next_derived (from + count) t (omega (arith, within)) (counted_derived from count t (omega (arith, within)) known))

    pub later_derived : (from phase : ℕ) (t : Term) → from ≤ phase → phase ≤ greatest_phase P.main → Derived (flat (Att from t)) → Derived (flat (Att phase t))
    later_derived from phase t after within known =
        let there : from + (phase - from) ≡ phase = omega (arith, after) in
        subst (λ k. Derived (flat (Att k t))) there (counted_derived from (phase - from) t (omega (arith, after, within)) known)

    module _ (phase : ℕ) (within : phase ≤ greatest_phase P.main) where
      pub rule_taken : (d r : ℕ) (rule : Rule) → numbered (rules_of P d) r ≡ Some rule → IsTaken all (rule_applied P phase rule)
      rule_taken d r rule e = go (numbered P.destructors d) refl e where
        go : (o : Option Destructor) → numbered P.destructors d ≡ o → numbered (rules_of P d) r ≡ Some rule → IsTaken all (rule_applied P phase rule)
        go None f e = let same : numbered (rules_of P d) r ≡ numbered [] r = rw f refl in let none : numbered [] r ≡ Some rule = sym same ∙ e in absurd (no_rule r none)
          where
            no_rule : (n : ℕ) → numbered {A = Rule} [] n ≡ Some rule → ⊥
            no_rule zero h = cc
            no_rule (suc k) h = cc
        go (Some destructor) f e =
            let same : numbered (rules_of P d) r ≡ numbered destructor.rules r = rw f refl in
            all_numbered (λ rule. IsTaken all (rule_applied P phase rule)) destructor.rules r rule (sym same ∙ e)
            (all_numbered (λ d. AllByRecursion (λ rule. IsTaken all (rule_applied P phase rule)) d.rules) P.destructors d destructor f (has.does phase within).rules)

      -- public names, and names of the attacker
      pub name_derived : (n : ℕ) (declared : Declared) → numbered P.frees n ≡ Some declared → declared.public ≡ true → Derived (Att phase (free_term n) ∷ [])
      name_derived n declared stands public =
          let is : name_known (n, declared) ≡ Some (record { hypotheses = []; diffs = []; conclusion = Att 0 (free_term n) }) = rw public refl in
          let taken = all_of_some (IsTaken all) name_known (enumerate_from 1 P.frees) (n, declared) (record { hypotheses = []; diffs = []; conclusion = Att 0 (free_term n) }) (numbered_enumerated P.frees n declared stands) is has.names in
          later_derived 0 phase (free_term n) (omega arith) within (applied (record { hypotheses = []; diffs = []; conclusion = Att 0 (free_term n) }) Leaf refl taken tt nothing)

      pub fresh_derived : (n : ℕ) → Derived (Att phase (node Attacker (Leaf n ∷ [])) ∷ [])
      fresh_derived n = later_derived 0 phase (node Attacker (Leaf n ∷ [])) (omega arith) within (applied fresh_known (λ x. Leaf n) refl has.fresh tt nothing)

      -- a message on a channel that the attacker has, heard and sent
      abbrev two_terms : Term → Term → Subst
      two_terms t u x = cond (nat_eq x 0) t u

      pub heard_derived : (t u : Term) → Derived (Mess phase t u ∷ []) → Derived (flat (Att phase t)) → Derived (flat (Att phase u))
      heard_derived t u message channel =
          applied (message_heard phase) (two_terms t u) refl (has.does phase within).heard tt
          (both_derived (Mess phase t u ∷ []) (flat (Att phase t) ++ []) message (both_derived (flat (Att phase t)) [] channel nothing))

      pub sent_derived : (t u : Term) → Derived (flat (Att phase t)) → Derived (flat (Att phase u)) → Derived (Mess phase t u ∷ [])
      sent_derived t u channel message =
          applied (message_sent phase) (two_terms t u) refl (has.does phase within).sent tt
          (both_derived (flat (Att phase t)) (flat (Att phase u) ++ []) channel (both_derived (flat (Att phase u)) [] message nothing))

      -- a constructor on terms that the attacker has
      pub constructor_derived : (f : ℕ) (declared : Declared) (ts : List Term) → numbered P.constructors f ≡ Some declared → declared.public ≡ true → declared.is_data ≡ false → declared.arity ≡ length ts → Derived (flat_map (λ t. flat (Att phase t)) ts) → Derived (Att phase (node (Ctor f) ts) ∷ [])
      constructor_derived f declared ts stands public plain count known =
          let raw : Clause Term = record { hypotheses = map (Att phase) (variables_from 0 declared.arity); diffs = []; conclusion = Att phase (node (Ctor f) (variables_from 0 declared.arity)) } in
          let is : constructor_applied phase (f, declared) ≡ Some raw = rw public (rw plain refl) in
          let taken = all_of_some (IsTaken all) (constructor_applied phase) (enumerate_from 1 P.constructors) (f, declared) raw (numbered_enumerated P.constructors f declared stands) is (has.does phase within).constructors in
          let terms : map (bind (nth ts)) (variables_from 0 declared.arity) ≡ ts = ap (λ n. map (bind (nth ts)) (variables_from 0 n)) count ∙ nth_fills ts 0 ts (λ x. ap (nth ts) (let e : 0 + x ≡ x = omega arith in e)) in
          let hypotheses : flat_under (nth ts) (map (Att phase) (variables_from 0 declared.arity)) ≡ flat_map (λ t. flat (Att phase t)) ts = known_under phase (nth ts) (variables_from 0 declared.arity) ∙ ap (flat_map (λ t. flat (Att phase t))) terms in
          let conclusion : bind (nth ts) (node (Ctor f) (variables_from 0 declared.arity)) ≡ node (Ctor f) ts = bind-node (nth ts) (Ctor f) (variables_from 0 declared.arity) ∙ ap (node (Ctor f)) terms in
          subst (λ t. Derived (flat (Att phase t))) conclusion (applied raw (nth ts) refl taken tt (subst Derived (sym hypotheses) known))

-- How far the stack of pending entries has come: its entries, the last one first, are those that are left.
use Rattle.std.proofs.Common.{◌≡◌, ◌∙◌, ℕ, ◌+◌, ◌*◌, ◌<◌, ◌≤◌, Bool, true, false, List, [], ◌∷◌, ◌++◌, length, reverse, map, refl, ap, sym, subst, arith, length-append}
use Rattle.std.proofs.lemmas.List.{reverse-append}
use Rattle.spec_clauses.proofs.Lists.{all_append, all_first, all_second}
use Rattle.spec_terms.specs.Term.{Term}
use Rattle.term_tree.specs.Bank.{tree_at, AreKnown, Grows}
use Rattle.spec_saturation.specs.Key.{Entry}
use Rattle.spec_attack_runs.specs.Source.{Source}
use Rattle.spec_attack_runs.specs.Instance.{Pending, IsResolved}
use Rattle.spec_attack_runs.specs.Attack.{most_instances}
use Rattle.spec_attack_runs.proofs.Expanding.{AreLeft, all_left, given_on, resolved_on, none_on, come_end, told_long}
use Rattle.clause_instances.specs.declared.expansion.Expanded.{Expanded}
use Rattle.clause_instances.specs.declared.expansion.Expanded.TheVariants as expanded
use Rattle.clause_instances.specs.declared.instance.Instance as made
use Rattle.clause_instances.specs.declared.instance.Pending as held
use Rattle.clause_instances.specs.Instances.{NamesInstance, NameInstances, IsKnownInstance, AreKnownInstances, pending_at, ArePendingIn}
use Rattle.clause_instances.specs.Derivations.{ComesFromFew, TellsInstances}
use Rattle.clause_instances.specs.Descents.{GivesInstance, IsNotGiven, IsNotResolved, IsExpandedTo, IsExpandedIn, AddsExpanded}
use Rattle.clause_instances.proofs.Growing.{NameInstances-grows, pending_at-grows}

-- the entry that is asked about, its own variables lost too
abbrev pub asked : ℕ → List Pending
asked number = record { number = number; terms = [] } ∷ []

-- the entries of the stack, in the order in which they come
abbrev pub waiting : List Term → List held.Pending → List Pending
waiting all stack = map (pending_at all) (reverse stack)

-- these instances were told, and the entries of the stack are left
pub record IsSoFar (all : List Term) (sources : List Source) (log : List Entry) (number : ℕ) (told : List made.Instance) (stack : List held.Pending) (n : ℕ) : Type 0 where
  pub instances : List Source
  pub named : NameInstances all sources told instances
  pub left : AreLeft sources log 1 (asked number) instances n (waiting all stack)

-- as many turns were taken
pub record IsCounted (turns : ℕ) (told : List made.Instance) (stack : List held.Pending) : Type 0 where
  pub few : length told + length stack ≤ most_instances
  pub counted : turns + 1 ≡ 2 * length told + length stack

named_length : (all : List Term) (sources : List Source) (ids : List made.Instance) (is : List Source) → NameInstances all sources ids is → length ids ≡ length is
named_length all sources [] [] h = refl
named_length all sources [] (i ∷ is) h = absurd h
named_length all sources (x ∷ xs) [] h = absurd h
named_length all sources (x ∷ xs) (i ∷ is) h = omega (arith, named_length all sources xs is h.1)

named_append : (all : List Term) (sources : List Source) (ids : List made.Instance) (is : List Source) (x : made.Instance) (i : Source) → NameInstances all sources ids is → NamesInstance all sources x i → NameInstances all sources (ids ++ x ∷ []) (is ++ i ∷ [])
named_append all sources [] [] x i h one = (one, tt)
named_append all sources [] (j ∷ is) x i h one = absurd h
named_append all sources (y ∷ ys) [] x i h one = absurd h
named_append all sources (y ∷ ys) (j ∷ is) x i h one = (h.0, named_append all sources ys is x i h.1 one)

reverse_length : {X : Type 0} (xs : List X) → length (reverse xs) ≡ length xs
reverse_length [] = refl
reverse_length (x ∷ xs) = ap length (reverse-append (x ∷ []) xs) ∙ (length-append (reverse xs) (x ∷ []) ∙ omega (arith, reverse_length xs))

waiting_length : (all : List Term) (stack : List held.Pending) → length (waiting all stack) ≡ length stack
waiting_length all stack = mapped (reverse stack) ∙ reverse_length stack where
  mapped : (ps : List held.Pending) → length (map (pending_at all) ps) ≡ length ps
  mapped [] = refl
  mapped (p ∷ ps) = omega (arith, mapped ps)

-- The stack without its last entry, and with others behind it.

waiting_push : (all : List Term) (rest : List held.Pending) (p : held.Pending) → waiting all (rest ++ p ∷ []) ≡ pending_at all p ∷ waiting all rest
waiting_push all rest p = ap (map (pending_at all)) (reverse-append rest (p ∷ []))

pub pending_reversed : (all : List Term) (ps : List held.Pending) → ArePendingIn all ps → ArePendingIn all (reverse ps)
pending_reversed all [] known = tt
pending_reversed all (p ∷ ps) known = subst (ArePendingIn all) (sym (reverse-append (p ∷ []) ps)) (all_append (λ (q : held.Pending). AreKnown all q.terms) (reverse ps) (p ∷ []) (pending_reversed all ps known.1) (known.0, tt))

waiting_grows : (a b : List Term) (ps : List held.Pending) → Grows a b → ArePendingIn a ps → waiting b ps ≡ waiting a ps
waiting_grows a b ps grows known = pending_at-grows a b (reverse ps) grows (pending_reversed a ps known)

pub last_known : (all : List Term) (stack rest : List held.Pending) (top : held.Pending) → stack ≡ rest ++ top ∷ [] → ArePendingIn all stack → AreKnown all top.terms
last_known all stack rest top is known = (all_second (λ (q : held.Pending). AreKnown all q.terms) rest (top ∷ []) (subst (ArePendingIn all) is known)).0

pub rest_known : (all : List Term) (stack rest : List held.Pending) (top : held.Pending) → stack ≡ rest ++ top ∷ [] → ArePendingIn all stack → ArePendingIn all rest
rest_known all stack rest top is known = all_first (λ (q : held.Pending). AreKnown all q.terms) rest (top ∷ []) (subst (ArePendingIn all) is known)

pub pushed_known : (all : List Term) (stack new : List held.Pending) (p : held.Pending) → ArePendingIn all stack → AreKnown all p.terms → new ≡ stack ++ p ∷ [] → ArePendingIn all new
pushed_known all stack new p known more e = subst (ArePendingIn all) (sym e) (all_append (λ (q : held.Pending). AreKnown all q.terms) stack (p ∷ []) known (more, tt))

-- Turn by turn.

so_far_begins : (all : List Term) (sources : List Source) (log : List Entry) (number n : ℕ) (stack : List held.Pending) (p : held.Pending) → n ≡ 1 → stack ≡ [] ++ p ∷ [] → p.number ≡ number → p.terms ≡ [] → IsSoFar all sources log number [] stack n
so_far_begins all sources log number n stack p first is at none =
    let pending : waiting all stack ≡ asked number = ap (waiting all) is ∙ (λ i. record { number = at i; terms = map (tree_at all) (none i) } ∷ []) in
    record {
      instances = [];
      named = tt;
      left = subst (λ (k : ℕ). AreLeft sources log 1 (asked number) [] k (waiting all stack)) (sym first) (subst (λ (ps : List Pending). AreLeft sources log 1 (asked number) [] 1 ps) (sym pending) (all_left sources log 1 (asked number)));
    }

pub begins : (all : List Term) (sources : List Source) (log : List Entry) (number n : ℕ) (told : List made.Instance) (stack : List held.Pending) → told ≡ [] → stack ≡ record { number = number; terms = [] } ∷ [] → n ≡ 1 → IsSoFar all sources log number told stack n
begins all sources log number n told stack none one first =
    subst (λ (xs : List made.Instance). IsSoFar all sources log number xs stack n) (sym none) (so_far_begins all sources log number n stack record { number = number; terms = [] } first one refl refl)

pub begins_known : (all : List Term) (stack : List held.Pending) (number : ℕ) → stack ≡ record { number = number; terms = [] } ∷ [] → ArePendingIn all stack
begins_known all stack number one = subst (ArePendingIn all) (sym one) (tt, tt)

pub begins_told : (all : List Term) (told : List made.Instance) → told ≡ [] → AreKnownInstances all told
begins_told all told none = subst (AreKnownInstances all) (sym none) tt

pub begins_counted : (told : List made.Instance) (stack : List held.Pending) (p : held.Pending) → told ≡ [] → stack ≡ p ∷ [] → IsCounted 0 told stack
begins_counted told stack p none one =
    let no = ap length none in
    let alone = ap length one in record { few = omega (arith, no, alone); counted = omega (arith, no, alone) }

-- what is left where the last entry is taken off the stack
module _ (all : List Term) (sources : List Source) (log : List Entry) (number : ℕ) (told : List made.Instance) (stack rest : List held.Pending) (top : held.Pending) (n : ℕ) where
  taken_off : stack ≡ rest ++ top ∷ [] → (f : IsSoFar all sources log number told stack n) → AreLeft sources log 1 (asked number) f.instances n (pending_at all top ∷ waiting all rest)
  taken_off is f = subst (λ (ps : List Pending). AreLeft sources log 1 (asked number) f.instances n ps) (ap (waiting all) is ∙ waiting_push all rest top) f.left

  pub told_one : (next : List Term) (m : ℕ) (ids : made.Instance) (more : List made.Instance) → stack ≡ rest ++ top ∷ [] → ArePendingIn all rest → Grows all next → IsSoFar all sources log number told stack n → GivesInstance next sources log (pending_at all top) n ids m
      → more ≡ told ++ ids ∷ [] → IsSoFar next sources log number more rest m
  told_one next m ids more is known grows f gives e = record {
    instances = f.instances ++ gives.instance ∷ [];
    named = subst (λ (xs : List made.Instance). NameInstances next sources xs (f.instances ++ gives.instance ∷ [])) (sym e) (named_append next sources told f.instances ids gives.instance (NameInstances-grows all next sources told f.instances grows f.named) gives.named);
    left = subst (λ (ps : List Pending). AreLeft sources log 1 (asked number) (f.instances ++ gives.instance ∷ []) m ps) (sym (waiting_grows all next rest grows known))
        (given_on sources log 1 (asked number) f.instances n m (pending_at all top) (waiting all rest) gives.instance (taken_off is f) gives.given);
  }

  pub left_two : (next : List Term) (m : ℕ) (left right : held.Pending) (one two : List held.Pending) → stack ≡ rest ++ top ∷ [] → ArePendingIn all rest → Grows all next → IsSoFar all sources log number told stack n
      → IsResolved log (pending_at all top) n (pending_at next left) (pending_at next right) m → one ≡ rest ++ right ∷ [] → two ≡ one ++ left ∷ [] → IsSoFar next sources log number told two m
  left_two next m left right one two is known grows f resolved first second =
      let pending : waiting next two ≡ pending_at next left ∷ pending_at next right ∷ waiting all rest =
      ap (waiting next) second ∙ (waiting_push next one left ∙ ap (λ ps. pending_at next left ∷ ps) (ap (waiting next) first ∙ (waiting_push next rest right ∙ ap (λ ps. pending_at next right ∷ ps) (waiting_grows all next rest grows known)))) in
      record {
        instances = f.instances;
        named = NameInstances-grows all next sources told f.instances grows f.named;
        left = subst (λ (ps : List Pending). AreLeft sources log 1 (asked number) f.instances m ps) (sym pending)
            (resolved_on sources log 1 (asked number) f.instances n m (pending_at all top) (pending_at next left) (pending_at next right) (waiting all rest) (taken_off is f) resolved);
      }

  pub none_told : stack ≡ rest ++ top ∷ [] → IsSoFar all sources log number told stack n → IsNotGiven sources log (pending_at all top) n → IsNotResolved log (pending_at all top) n → (instances : List Source) → ComesFromFew sources log number instances → ⊥
  none_told is f given resolved instances come =
      none_on sources log 1 (asked number) f.instances n (pending_at all top) (waiting all rest) (taken_off is f) given resolved instances come.come

  -- what the entry is that was taken off
  pub turned : (next : List Term) (m : ℕ) (e : Expanded) (more : List made.Instance) (now : List held.Pending) (went : Bool) → stack ≡ rest ++ top ∷ [] → ArePendingIn all rest → Grows all next → IsSoFar all sources log number told stack n
      → IsExpandedTo next sources log (pending_at all top) n e m → AddsExpanded told rest e more now went → went ≡ true → IsSoFar next sources log number more now m
  turned next m expanded.Nothing more now went is known grows f to adds holds = let clash : false ≡ true = sym adds ∙ holds in absurd (cc)
  turned next m (expanded.Given ids) more now went is known grows f to adds holds =
      subst (λ (ps : List held.Pending). IsSoFar next sources log number more ps m) (sym adds.2) (told_one next m ids more is known grows f to adds.1)
  turned next m (expanded.Resolved left right) more now went is known grows f to adds holds =
      subst (λ (xs : List made.Instance). IsSoFar next sources log number xs now m) (sym adds.1) (left_two next m left right (rest ++ right ∷ []) now is known grows f to refl adds.2)

  pub nothing_comes : (next : List Term) (m : ℕ) (e : Expanded) (more : List made.Instance) (now : List held.Pending) (went : Bool) → stack ≡ rest ++ top ∷ [] → IsSoFar all sources log number told stack n → IsExpandedTo next sources log (pending_at all top) n e m → AddsExpanded told rest e more now went → went ≡ false
      → (instances : List Source) → ComesFromFew sources log number instances → ⊥
  nothing_comes next m expanded.Nothing more now went is f to adds fails = none_told is f to.0 to.1
  nothing_comes next m (expanded.Given ids) more now went is f to adds fails = let clash : true ≡ false = sym adds.0 ∙ fails in absurd (cc)
  nothing_comes next m (expanded.Resolved left right) more now went is f to adds fails = let clash : true ≡ false = sym adds.0 ∙ fails in absurd (cc)

pub turned_known : (all : List Term) (told more : List made.Instance) (rest now : List held.Pending) (e : Expanded) (went : Bool) → ArePendingIn all rest → IsExpandedIn all e → AddsExpanded told rest e more now went → went ≡ true → ArePendingIn all now
turned_known all told more rest now expanded.Nothing went known made adds holds = let clash : false ≡ true = sym adds ∙ holds in absurd (cc)
turned_known all told more rest now (expanded.Given ids) went known made adds holds = subst (ArePendingIn all) (sym adds.2) known
turned_known all told more rest now (expanded.Resolved left right) went known made adds holds =
    pushed_known all (rest ++ right ∷ []) now left (pushed_known all rest (rest ++ right ∷ []) right known made.1.0 refl) made.0 adds.2

pub turned_told : (all : List Term) (told more : List made.Instance) (rest now : List held.Pending) (e : Expanded) (went : Bool) → AreKnownInstances all told → IsExpandedIn all e → AddsExpanded told rest e more now went → went ≡ true → AreKnownInstances all more
turned_told all told more rest now expanded.Nothing went known made adds holds = let clash : false ≡ true = sym adds ∙ holds in absurd (cc)
turned_told all told more rest now (expanded.Given ids) went known made adds holds = subst (AreKnownInstances all) (sym adds.1) (all_append (IsKnownInstance all) told (ids ∷ []) known (made, tt))
turned_told all told more rest now (expanded.Resolved left right) went known made adds holds = subst (AreKnownInstances all) (sym adds.1) known

pub turned_counted : (turns : ℕ) (told more : List made.Instance) (stack rest now : List held.Pending) (top : held.Pending) (e : Expanded) (went : Bool) → stack ≡ rest ++ top ∷ [] → IsCounted turns told stack → AddsExpanded told rest e more now went → went ≡ true → length now + length more ≤ most_instances → IsCounted (turns + 1) more now
turned_counted turns told more stack rest now top expanded.Nothing went is c adds holds few = let clash : false ≡ true = sym adds ∙ holds in absurd (cc)
turned_counted turns told more stack rest now top (expanded.Given ids) went is c adds holds few = record {
  few = omega (arith, few);
  counted = omega (arith, c.counted, ap length adds.1, ap length adds.2, ap length is, length-append told (ids ∷ []), length-append rest (top ∷ []));
}
turned_counted turns told more stack rest now top (expanded.Resolved left right) went is c adds holds few = record {
  few = omega (arith, few);
  counted = omega (arith, c.counted, ap length adds.1, ap length adds.2, ap length is, length-append (rest ++ right ∷ []) (left ∷ []), length-append rest (right ∷ []), length-append rest (top ∷ []));
}

-- at the end, and where there are too many
pub told_all : (all : List Term) (sources : List Source) (log : List Entry) (number : ℕ) (told : List made.Instance) (stack : List held.Pending) (n : ℕ) → stack ≡ [] → length told + length stack ≤ most_instances → IsSoFar all sources log number told stack n → TellsInstances all sources log number told
told_all all sources log number told stack n none few f = record {
  instances = f.instances;
  named = f.named;
  come = record {
    come = come_end sources log 1 (asked number) f.instances n (subst (λ (ps : List Pending). AreLeft sources log 1 (asked number) f.instances n ps) (ap (waiting all) none) f.left);
    few = omega (arith, few, named_length all sources told f.instances f.named);
  };
}

pub too_many : (all : List Term) (sources : List Source) (log : List Entry) (number : ℕ) (told : List made.Instance) (stack : List held.Pending) (n : ℕ) → most_instances < length stack + length told → IsSoFar all sources log number told stack n
    → (instances : List Source) → ComesFromFew sources log number instances → ⊥
too_many all sources log number told stack n over f instances come =
    let long = told_long sources log 1 (asked number) f.instances n (waiting all stack) f.left instances come.come in
    let few = come.few in
    omega (arith, long, few, over, named_length all sources told f.instances f.named, waiting_length all stack)

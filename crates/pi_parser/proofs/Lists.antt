-- Reading lists, of which some parts are read already.
use Rattle.std.proofs.Common.{◌≡◌, ℕ, ◌+◌, ◌-◌, ◌<◌, ◌≤◌, Bool, true, false, cond, List, [], ◌∷◌, ◌++◌, map, length, Some, None, refl, sym, ap, subst, ◌∙◌, arith, append_assoc, add-one, length-append}
use Rattle.std.proofs.lemmas.List.{append-nil, map-append, map-id}
use Rattle.spec_protocol_grammar.specs.declared.class.Class.{Class}
use Rattle.spec_protocol_grammar.specs.declared.class.Class.TheVariants as w
use Rattle.spec_protocol_grammar.specs.Classes.{Source, words, same, fits}
use Rattle.spec_protocol_grammar.specs.Reading.{Read, Found, Unexpected, TooDeep, Tired, Reader, step, built, done, optional, both, then_marked, others_of, list_at, list_of, arguments_of, arguments_at, name_from, name_at, names_at}
use Rattle.spec_protocol_grammar.proofs.Choose.{step_twice}
use Rattle.pi_parser.specs.Gives.{HasFault, most_of}
use Rattle.pi_parser.specs.declared.error.Fault.{Fault}
use Rattle.pi_parser.specs.declared.error.Fault.TheVariants as fault

-- a fault of the first part is the fault of the whole
pub step_fault : {X Y : Type 0} (e : Fault) (o : Read X) (f : X → ℕ → Read Y) → HasFault e o → HasFault e (step o f)
step_fault (fault.Unexpected i) o f h = ap (λ p. step p f) h
step_fault (fault.TooDeep i) o f h = ap (λ p. step p f) h
step_fault (fault.Memory m) o f h = tt

-- what stands behind a list
abbrev pub others : {X : Type 0} → ℕ → Class → Reader X → Reader (List X)
others m c r = built others_of (optional c (list_at m c r))

-- these parts, and what stands behind them
abbrev pub going : {X : Type 0} → List X → ℕ → Class → Reader X → Reader (List X)
going xs m c r s at = step (others m c r s at) (λ ys e. Found (xs ++ ys) e)

-- these parts are read, and reading goes on from here
pub record IsGoing {X : Type 0} (c : Class) (r : Reader X) (classes : List Class) (at : ℕ) (xs : List X) (behind : ℕ) : Type 0 where
  pub read : built list_of (list_at (most_of classes) c r) (words classes) at ≡ going xs (most_of classes - length xs) c r (words classes) behind
  pub after : at < behind
  pub within : behind ≤ length classes
  pub few : length xs ≤ behind

list_more : {X : Type 0} (m : ℕ) (c : Class) (r : Reader X) (s : Source) (at : ℕ) → list_at (m + 1) c r s at ≡ both r (others m c r) s at
unfolding list_at
list_more m c r s at = ap (λ (k : ℕ). list_at k c r s at) (add-one m)

going_first : {X : Type 0} (m : ℕ) (c : Class) (r : Reader X) (s : Source) (at : ℕ) (x : X) (e : ℕ) → r s at ≡ Found x e → built list_of (list_at (m + 1) c r) s at ≡ going (x ∷ []) m c r s e
going_first {X} m c r s at x e h =
    ap (λ (p : Read (X × List X)). step p (λ ps j. Found (list_of ps) j)) (list_more m c r s at ∙ ap (λ (p : Read X). step p (λ x e. step (others m c r s e) (λ ys j. Found (x, ys) j))) h)
    ∙ sym (step_twice {Y = X × List X} (others m c r s e) (λ ys. (x, ys)) list_of)

first_fault : {X : Type 0} (m : ℕ) (c : Class) (r : Reader X) (s : Source) (at : ℕ) (e : Fault) → HasFault e (r s at) → HasFault e (built list_of (list_at (m + 1) c r) s at)
first_fault {X} m c r s at e h =
    step_fault e (list_at (m + 1) c r s at) (λ ps j. Found (list_of ps) j) (subst (λ (p : Read (X × List X)). HasFault e p) (sym (list_more m c r s at)) (step_fault e (r s at) (λ x e. step (others m c r s e) (λ ys j. Found (x, ys) j)) h))

-- a further part
others_next : {X : Type 0} (m : ℕ) (c : Class) (r : Reader X) (s : Source) (at : ℕ) → same c (s at).class ≡ true
    → others m c r s at ≡ step (step (list_at m c r s (at + 1)) (λ x e. Found (Some x) e)) (λ o e. Found (others_of o) e)
others_next m c r s at h = ap (λ b. step (cond b (step (list_at m c r s (at + 1)) (λ x e. Found (Some x) e)) (Found None at)) (λ o e. Found (others_of o) e)) h

going_next : {X : Type 0} (xs : List X) (m : ℕ) (c : Class) (r : Reader X) (s : Source) (at : ℕ) (x : X) (e : ℕ) → same c (s at).class ≡ true → r s (at + 1) ≡ Found x e
    → going xs (m + 1) c r s at ≡ going (xs ++ (x ∷ [])) m c r s e
going_next {X} xs m c r s at x e t h =
    let part : list_at (m + 1) c r s (at + 1) ≡ step (others m c r s e) (λ ys j. Found (x, ys) j) =
    list_more m c r s (at + 1) ∙ ap (λ (p : Read X). step p (λ x e. step (others m c r s e) (λ ys j. Found (x, ys) j))) h in
    ap (λ (p : Read (List X)). step p (λ ys e. Found (xs ++ ys) e)) (others_next (m + 1) c r s at t
    ∙ ap (λ (p : Read (X × List X)). step (step p (λ x e. Found (Some x) e)) (λ o e. Found (others_of o) e)) part)
    ∙ joined (others m c r s e)
  where
    joined : (o : Read (List X)) → step (step (step (step {Y = X × List X} o (λ ys j. Found (x, ys) j)) (λ x e. Found (Some x) e)) (λ o e. Found (others_of o) e)) (λ ys e. Found (xs ++ ys) e)
        ≡ step o (λ ys e. Found ((xs ++ (x ∷ [])) ++ ys) e)
    joined (Found ys j) = ap (λ (zs : List X). Found zs j) (sym (append_assoc xs (x ∷ []) ys))
    joined (Unexpected i) = refl
    joined (TooDeep i) = refl
    joined (Tired i) = refl

next_fault : {X : Type 0} (xs : List X) (m : ℕ) (c : Class) (r : Reader X) (s : Source) (at : ℕ) (e : Fault) → same c (s at).class ≡ true → HasFault e (r s (at + 1)) → HasFault e (going xs (m + 1) c r s at)
next_fault {X} xs m c r s at e t h =
    let part : HasFault e (list_at (m + 1) c r s (at + 1)) =
    subst (λ (p : Read (X × List X)). HasFault e p) (sym (list_more m c r s (at + 1))) (step_fault e (r s (at + 1)) (λ x e. step (others m c r s e) (λ ys j. Found (x, ys) j)) h) in
    step_fault e (others (m + 1) c r s at) (λ ys e. Found (xs ++ ys) e) (subst (λ (p : Read (List X)). HasFault e p) (sym (others_next (m + 1) c r s at t))
    (step_fault e (step (list_at (m + 1) c r s (at + 1)) (λ x e. Found (Some x) e)) (λ o e. Found (others_of o) e) (step_fault e (list_at (m + 1) c r s (at + 1)) (λ x e. Found (Some x) e) part)))

pub going_begins : {T X : Type 0} (f : T → X) (c : Class) (r : Reader X) (classes : List Class) (at e : ℕ) (t : T) (items : List T) → items ≡ t ∷ [] → r (words classes) at ≡ Found (f t) e → at < e → e ≤ length classes
    → IsGoing c r classes at (map f items) e
going_begins {T} {X} f c r classes at e t items i h a b =
    subst (λ (ts : List T). IsGoing c r classes at (map f ts) e) (sym i) (record {
      read = going_first (length classes) c r (words classes) at (f t) e h ∙ ap (λ (k : ℕ). going (f t ∷ []) k c r (words classes) e) (less (length classes));
      after = a;
      within = b;
      few = omega arith;
    })
  where
    less : (n : ℕ) → n ≡ n + 1 - 1
    less n = omega arith

pub going_continues : {T X : Type 0} (f : T → X) (c : Class) (r : Reader X) (classes : List Class) (at behind e : ℕ) (ts : List T) (t : T) (items : List T)
    → items ≡ ts ++ (t ∷ []) → IsGoing c r classes at (map f ts) behind → same c (words classes behind).class ≡ true → behind < length classes
    → r (words classes) (behind + 1) ≡ Found (f t) e → behind + 1 < e → e ≤ length classes → IsGoing c r classes at (map f items) e
going_continues {T} {X} f c r classes at behind e ts t items i g test near h a b =
    let n : ℕ = length (map f ts) in
    let more : most_of classes - n ≡ (most_of classes - (n + 1)) + 1 = omega (arith, g.few) in
    let long : length (map f ts ++ (f t ∷ [])) ≡ n + 1 = length-append (map f ts) (f t ∷ []) in
    subst (λ (us : List T). IsGoing c r classes at (map f us) e) (sym i) (subst (λ (xs : List X). IsGoing c r classes at xs e) (sym (map-append f ts (t ∷ []))) (record {
      read = g.read ∙ (ap (λ (k : ℕ). going (map f ts) k c r (words classes) behind) more
          ∙ (going_next (map f ts) (most_of classes - (n + 1)) c r (words classes) behind (f t) e test h
          ∙ ap (λ (k : ℕ). going (map f ts ++ (f t ∷ [])) (most_of classes - k) c r (words classes) e) (sym long)));
      after = omega (arith, g.after);
      within = b;
      few = omega (arith, long, g.few);
    }))

pub going_ends : {X : Type 0} (c : Class) (r : Reader X) (classes : List Class) (at behind : ℕ) (xs : List X) → IsGoing c r classes at xs behind → same c (words classes behind).class ≡ false
    → built list_of (list_at (most_of classes) c r) (words classes) at ≡ Found xs behind
going_ends {X} c r classes at behind xs g test =
    g.read ∙ (ap (λ b. step (step (cond b (step (list_at (most_of classes - length xs) c r (words classes) (behind + 1)) (λ x e. Found (Some x) e)) (Found None behind)) (λ o e. Found (others_of o) e)) (λ ys e. Found (xs ++ ys) e)) test
    ∙ ap (λ (ys : List X). Found ys behind) (append-nil xs))

pub going_faults : {X : Type 0} (c : Class) (r : Reader X) (classes : List Class) (at behind : ℕ) (xs : List X) (e : Fault) → IsGoing c r classes at xs behind → same c (words classes behind).class ≡ true → behind < length classes
    → HasFault e (r (words classes) (behind + 1)) → HasFault e (built list_of (list_at (most_of classes) c r) (words classes) at)
going_faults {X} c r classes at behind xs e g test near h =
    let more : most_of classes - length xs ≡ (most_of classes - (length xs + 1)) + 1 = omega (arith, g.few) in
    subst (λ (p : Read (List X)). HasFault e p) (sym g.read) (subst (λ (k : ℕ). HasFault e (going xs k c r (words classes) behind)) (sym more)
    (next_fault xs (most_of classes - (length xs + 1)) c r (words classes) behind e test h))

pub first_faults : {X : Type 0} (c : Class) (r : Reader X) (classes : List Class) (at : ℕ) (e : Fault) → HasFault e (r (words classes) at) → HasFault e (built list_of (list_at (most_of classes) c r) (words classes) at)
first_faults c r classes at e h = first_fault (length classes) c r (words classes) at e h

-- the parts of a list, from the list

pub unlisted : {X : Type 0} (o : Read (X × List X)) (x : X) (xs : List X) (e : ℕ) → step o (λ p j. Found (list_of p) j) ≡ Found (x ∷ xs) e → o ≡ Found (x, xs) e
unlisted (Found (y, ys) j) x xs e h = cc
unlisted (Unexpected i) x xs e h = absurd (cc)
unlisted (TooDeep i) x xs e h = absurd (cc)
unlisted (Tired i) x xs e h = absurd (cc)

pub built_fault : {X Y : Type 0} (f : X → Y) (e : Fault) (o : Read X) → HasFault e (step o (λ x j. Found (f x) j)) → HasFault e o
built_fault f (fault.Unexpected i) (Found x j) h = absurd (cc)
built_fault f (fault.Unexpected i) (Unexpected k) h = cc
built_fault f (fault.Unexpected i) (TooDeep k) h = absurd (cc)
built_fault f (fault.Unexpected i) (Tired k) h = absurd (cc)
built_fault f (fault.TooDeep i) (Found x j) h = absurd (cc)
built_fault f (fault.TooDeep i) (Unexpected k) h = absurd (cc)
built_fault f (fault.TooDeep i) (TooDeep k) h = cc
built_fault f (fault.TooDeep i) (Tired k) h = absurd (cc)
built_fault f (fault.Memory m) o h = tt

-- arguments in parentheses

pub arguments_none : {X : Type 0} (most : ℕ) (r : Reader X) (s : Source) (at : ℕ) → same w.Open (s at).class ≡ false → arguments_at most r s at ≡ Found [] at
unfolding arguments_at
arguments_none {X} most r s at h =
    ap (λ b. step (cond b (step (then_marked (list_at most w.Comma r) w.Close done s (at + 1)) (λ x e. Found (Some x) e)) (Found None at)) (λ o e. Found (arguments_of o) e)) h

arguments_some : {X : Type 0} (most : ℕ) (r : Reader X) (s : Source) (at : ℕ) → same w.Open (s at).class ≡ true
    → arguments_at most r s at ≡ step (built list_of (list_at most w.Comma r) s (at + 1)) (λ xs e. cond (fits w.Close (s e).class) (Found xs (e + 1)) (Unexpected e))
unfolding arguments_at
arguments_some {X} most r s at h =
    ap (λ b. step (cond b (step (then_marked (list_at most w.Comma r) w.Close done s (at + 1)) (λ x e. Found (Some x) e)) (Found None at)) (λ o e. Found (arguments_of o) e)) h
    ∙ in_parentheses (list_at most w.Comma r s (at + 1))
  where
    by_test : (p : X × List X) (e : ℕ) (b : Bool) → step (step {X = (X × List X) × Unit {0}} (cond b (Found (p, tt) (e + 1)) (Unexpected e)) (λ x e. Found (Some x) e)) (λ o e. Found (arguments_of o) e) ≡ cond b (Found (list_of p) (e + 1)) (Unexpected e)
    by_test p e true = refl
    by_test p e false = refl

    in_parentheses : (o : Read (X × List X)) → step (step (step {Y = (X × List X) × Unit {0}} o (λ p e. cond (fits w.Close (s e).class) (Found (p, tt) (e + 1)) (Unexpected e))) (λ x e. Found (Some x) e)) (λ o e. Found (arguments_of o) e)
        ≡ step (step o (λ p e. Found (list_of p) e)) (λ xs e. cond (fits w.Close (s e).class) (Found xs (e + 1)) (Unexpected e))
    in_parentheses (Found p e) = by_test p e (fits w.Close (s e).class)
    in_parentheses (Unexpected i) = refl
    in_parentheses (TooDeep i) = refl
    in_parentheses (Tired i) = refl

pub arguments_fault : {X : Type 0} (most : ℕ) (r : Reader X) (s : Source) (at : ℕ) (e : Fault) → same w.Open (s at).class ≡ true → HasFault e (built list_of (list_at most w.Comma r) s (at + 1)) → HasFault e (arguments_at most r s at)
arguments_fault {X} most r s at e h f = subst (λ (p : Read (List X)). HasFault e p) (sym (arguments_some most r s at h))
    (step_fault e (built list_of (list_at most w.Comma r) s (at + 1)) (λ xs e. cond (fits w.Close (s e).class) (Found xs (e + 1)) (Unexpected e)) f)

pub arguments_closed : {X : Type 0} (most : ℕ) (r : Reader X) (s : Source) (at : ℕ) (xs : List X) (e : ℕ) → same w.Open (s at).class ≡ true → built list_of (list_at most w.Comma r) s (at + 1) ≡ Found xs e
    → arguments_at most r s at ≡ cond (fits w.Close (s e).class) (Found xs (e + 1)) (Unexpected e)
arguments_closed {X} most r s at xs e h f = arguments_some most r s at h ∙ ap (λ (p : Read (List X)). step p (λ xs e. cond (fits w.Close (s e).class) (Found xs (e + 1)) (Unexpected e))) f

-- the same of the parts: the first, and the others

pub list_ends : {X : Type 0} (c : Class) (r : Reader X) (classes : List Class) (at behind : ℕ) (x : X) (xs : List X) → IsGoing c r classes at (x ∷ xs) behind → same c (words classes behind).class ≡ false
    → list_at (most_of classes) c r (words classes) at ≡ Found (x, xs) behind
list_ends c r classes at behind x xs g test = unlisted (list_at (most_of classes) c r (words classes) at) x xs behind (going_ends c r classes at behind (x ∷ xs) g test)

pub list_faults : {X : Type 0} (c : Class) (r : Reader X) (classes : List Class) (at behind : ℕ) (xs : List X) (e : Fault) → IsGoing c r classes at xs behind → same c (words classes behind).class ≡ true → behind < length classes
    → HasFault e (r (words classes) (behind + 1)) → HasFault e (list_at (most_of classes) c r (words classes) at)
list_faults c r classes at behind xs e g test near h = built_fault list_of e (list_at (most_of classes) c r (words classes) at) (going_faults c r classes at behind xs e g test near h)

pub list_first_faults : {X : Type 0} (c : Class) (r : Reader X) (classes : List Class) (at : ℕ) (e : Fault) → HasFault e (r (words classes) at) → HasFault e (list_at (most_of classes) c r (words classes) at)
list_first_faults c r classes at e h = built_fault list_of e (list_at (most_of classes) c r (words classes) at) (first_faults c r classes at e h)

-- the same of a list that is seen as it is

pub going_starts : {X : Type 0} (c : Class) (r : Reader X) (classes : List Class) (at e : ℕ) (x : X) (items : List X) → items ≡ x ∷ [] → r (words classes) at ≡ Found x e → at < e → e ≤ length classes → IsGoing c r classes at items e
going_starts {X} c r classes at e x items i h a b =
    subst (λ (xs : List X). IsGoing c r classes at xs e) (sym i) (going_begins (λ (y : X). y) c r classes at e x (x ∷ []) refl h a b)

pub going_on : {X : Type 0} (c : Class) (r : Reader X) (classes : List Class) (at behind e : ℕ) (xs : List X) (x : X) (items : List X)
    → items ≡ xs ++ (x ∷ []) → IsGoing c r classes at xs behind → same c (words classes behind).class ≡ true → behind < length classes
    → r (words classes) (behind + 1) ≡ Found x e → behind + 1 < e → e ≤ length classes → IsGoing c r classes at items e
going_on {X} c r classes at behind e xs x items i g test near h a b =
    subst (λ (us : List X). IsGoing c r classes at us e) (map-id items)
    (going_continues (λ (y : X). y) c r classes at behind e xs x items i (subst (λ (us : List X). IsGoing c r classes at us behind) (sym (map-id xs)) g) test near h a b)

-- a further name that is missing
pub names_fault : (classes : List Class) (at behind : ℕ) (xs : List ℕ) (e : Fault) → IsGoing w.Comma name_at classes at xs behind → same w.Comma (words classes behind).class ≡ true → behind < length classes
    → fits w.Name (words classes (behind + 1)).class ≡ false → e ≡ fault.Unexpected (behind + 1) → HasFault e (names_at (most_of classes) (words classes) at)
names_fault classes at behind xs e g test near f h =
    let s : Source = words classes in
    let unread : name_at s (behind + 1) ≡ Unexpected (behind + 1) = ap (λ b. step (cond b (step {Y = ℕ × Unit {0}} (done s (behind + 1 + 1)) (λ x e. Found ((s (behind + 1)).number, x) e)) (Unexpected (behind + 1))) (λ x e. Found (name_from x) e)) f in
    subst (λ (k : Fault). HasFault k (names_at (most_of classes) s at)) (sym h)
    (step_fault (fault.Unexpected (behind + 1)) (list_at (most_of classes) w.Comma name_at s at) (λ x e. cond (fits w.Dot (s e).class) (step {Y = (ℕ × List ℕ) × Unit {0}} (done s (e + 1)) (λ y e'. Found (x, y) e')) (Unexpected e))
    (list_faults w.Comma name_at classes at behind xs (fault.Unexpected (behind + 1)) g test near unread))

pub arguments_unclosed : {X : Type 0} (most : ℕ) (r : Reader X) (s : Source) (at : ℕ) (xs : List X) (e : ℕ) (k : Fault) → same w.Open (s at).class ≡ true → built list_of (list_at most w.Comma r) s (at + 1) ≡ Found xs e
    → fits w.Close (s e).class ≡ false → k ≡ fault.Unexpected e → HasFault k (arguments_at most r s at)
arguments_unclosed {X} most r s at xs e k h f g i =
    subst (λ (j : Fault). HasFault j (arguments_at most r s at)) (sym i) (arguments_closed most r s at xs e h f ∙ ap (λ b. cond b (Found xs (e + 1)) (Unexpected e)) g)

pub arguments_shut : {X : Type 0} (most : ℕ) (r : Reader X) (s : Source) (at : ℕ) (xs : List X) (e close : ℕ) → same w.Open (s at).class ≡ true → built list_of (list_at most w.Comma r) s (at + 1) ≡ Found xs e
    → fits w.Close (s e).class ≡ true → close ≡ e + 1 → arguments_at most r s at ≡ Found xs close
arguments_shut {X} most r s at xs e close h f g i =
    arguments_closed most r s at xs e h f ∙ (ap (λ b. cond b (Found xs (e + 1)) (Unexpected e)) g ∙ ap (λ (j : ℕ). Found xs j) (sym i))

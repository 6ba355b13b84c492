-- Readers that choose between good ones are good.
use Rattle.std.proofs.Common.{◌≡◌, ◌≢◌, ℕ, ◌+◌, ◌≤◌, ◌⊎◌, Bool, true, false, cond, List, [], ◌∷◌, ◌++◌, Option, Some, None, refl, sym, ap, subst, inl, inr, ◌∙◌, arith}
use Rattle.spec_calculus.specs.Bounds.{most_levels}
use Rattle.spec_protocol_grammar.specs.declared.class.Class.{Class}
use Rattle.spec_protocol_grammar.specs.declared.class.Class.TheVariants as w
use Rattle.spec_protocol_grammar.specs.Classes.{Source, same, fits}
use Rattle.spec_protocol_grammar.specs.Spelling.{Item, no, word, Words, IsShallow, IsGreedy, first_of}
use Rattle.spec_protocol_grammar.specs.Refusals.{LeadsTo, DeepAt}
use Rattle.spec_protocol_grammar.specs.Reading.{Read, Found, Unexpected, TooDeep, Tired, Reader, step, built, done, refused, optional, both, either, deep}
use Rattle.spec_protocol_grammar.proofs.Same.{same-true, true-same, same-fits}
use Rattle.spec_protocol_grammar.proofs.Items.{words-append, words-split, words_later, shallow-append, greedy-append, greedy-split, leads_front, leads_behind, deep_front, deep_behind}
use Rattle.spec_protocol_grammar.proofs.Good.{inside_append, Firm, IsFound, IsDeep, IsRight, Outcome, finds, sinks, Within, IsLocal, Sound, IsComplete, Good, Later, right_later, later_within, step_right, step_local, outcome_step}
use Rattle.spec_protocol_grammar.proofs.Combine.{All, Plain, agree_class, cond_local, cond_true, cond_false, inside_nothing, fits_inside, unless_append, good_done}

-- of two readers that are the same both are good
pub good_same : {X : Type 0} {most : ℕ} {Low : ℕ → Type 0} {last : Bool} {sp : X → List Item} {C : Class → Type 0} (r q : Reader X)
    → ((s : Source) (at : ℕ) → r s at ≡ q s at) → Good most Low last sp C r → Good most Low last sp C q
good_same {X} {most} {Low} {last} {sp} {C} r q e g = record {
  some = g.some;
  some_firm = g.some_firm;
  sound = record {
    right = λ s at. subst (λ (p : Read X). IsRight last sp C s at p) (e s at) (g.sound.right s at);
    local = λ s t at k a h. sym (e t at) ∙ (g.sound.local s t at k a (subst (λ (p : Read X). Within k p) (sym (e s at)) h) ∙ e s at);
  };
  complete = λ s at x end low z y. subst (λ (p : Read X). Outcome most s at (sp x) x end p) (e s at) (g.complete s at x end low z y);
}

-- from fewer places on
pub good_low : {X : Type 0} {most : ℕ} {Low Low' : ℕ → Type 0} {last : Bool} {sp : X → List Item} {C : Class → Type 0} {r : Reader X}
    → ((at : ℕ) → Low' at → Low at) → Good most Low last sp C r → Good most Low' last sp C r
good_low lower g = record { some = g.some; some_firm = g.some_firm; sound = g.sound; complete = λ s at x end low z y. g.complete s at x end (lower at low) z y }

-- in front of fewer classes
pub good_firm : {X : Type 0} {most : ℕ} {Low : ℕ → Type 0} {last : Bool} {sp : X → List Item} {C D : Class → Type 0} {r : Reader X}
    → ((c : Class) → D c → C c) → Good most Low last sp C r → Good most Low last sp D r
good_firm {X} {most} {Low} {last} {sp} {C} {D} {r} fewer g = record {
  some = g.some;
  some_firm = λ c d. g.some_firm c (fewer c d);
  sound = record { right = λ s at. right_firm s at (r s at) (g.sound.right s at); local = g.sound.local };
  complete = g.complete;
} where
  right_firm : (s : Source) (at : ℕ) (o : Read X) → IsRight last sp C s at o → IsRight last sp D s at o
  right_firm s at (Found x e) h = record { words = h.words; shallow = h.shallow; greedy = h.greedy; firm = λ c d. h.firm c (fewer c d); inside = h.inside }
  right_firm s at (Unexpected i) h = record { other = h.other; leads = h.leads; firm = λ c d. h.firm c (fewer c d); inside = h.inside }
  right_firm s at (TooDeep i) h = record { other = h.other; deep = h.deep; firm = λ c d. h.firm c (fewer c d) }
  right_firm s at (Tired i) h = h

pub differs : (c d : Class) → c ≢ d → same c d ≡ false
differs c d n = by_test (same c d) refl where
  by_test : (b : Bool) → same c d ≡ b → b ≡ false
  by_test true e = absurd (n (same-true c d e))
  by_test false e = refl

-- something that is made of what was read, and is spelled like it
module _ {X Y : Type 0} {most : ℕ} {Low : ℕ → Type 0} {last : Bool} {sp : X → List Item} {C : Class → Type 0} {r : Reader X} (sp' : Y → List Item) (f : X → Y) (spelled : (x : X) → sp' (f x) ≡ sp x) (g : Good most Low last sp C r) where
  pub built_sound : Sound last sp' C (built f r)
  built_sound = record {
    right = λ s at. step_right last last sp C sp' C s at at (r s at) _ (g.sound.right s at) (omega arith) (inside_nothing s at) f
        (λ x i v. subst (λ (is : List Item). LeadsTo s at is i) (sym (spelled x)) v)
        (λ x i v. subst (λ (is : List Item). DeepAt s at is i) (sym (spelled x)) v)
        (λ x v. subst (λ (is : List Item). Firm C is) (sym (spelled x)) v)
        (λ x e v. record {
          words = subst (λ (is : List Item). Words s at is e) (sym (spelled x)) v.words;
          shallow = subst (λ (is : List Item). IsShallow is) (sym (spelled x)) v.shallow;
          greedy = subst (λ (is : List Item). IsGreedy is (s e).class) (sym (spelled x)) v.greedy;
          firm = subst (λ (is : List Item). Firm C is) (sym (spelled x)) v.firm;
          inside = v.inside;
        });
    local = λ s t at k a z. step_local k (r s at) (r t at) _ _ (g.sound.local s t at k a) (λ x e i. omega arith) (λ x e i n v. refl) z;
  }

  pub built_complete : (s : Source) (at : ℕ) (x : X) (end : ℕ) → Low at → Words s at (sp' (f x)) end → IsGreedy (sp' (f x)) (s end).class → Outcome most s at (sp' (f x)) (f x) end (built f r s at)
  built_complete s at x end low z y =
      outcome_step (r s at) _ (g.complete s at x end low (subst (λ (is : List Item). Words s at is end) (spelled x) z) (subst (λ (is : List Item). IsGreedy is (s end).class) (spelled x) y))
      (λ d. finds refl (subst (λ (is : List Item). IsShallow is) (sym (spelled x)) d))
      (λ i v. subst (λ (is : List Item). DeepAt s at is i) (sym (spelled x)) v) (omega arith)

  pub good_built : (back : Y → X) → ((y : Y) → f (back y) ≡ y) → Good most Low last sp' C (built f r)
  good_built back there = record {
    some = f g.some;
    some_firm = subst (λ (is : List Item). Firm C is) (sym (spelled g.some)) g.some_firm;
    sound = built_sound;
    complete = λ s at y end low z v.
        let P : Y → Type 0 = λ y. Words s at (sp' y) end → IsGreedy (sp' y) (s end).class → Outcome most s at (sp' y) y end (built f r s at) in
        subst P (there y) (built_complete s at (back y) end low) z v;
  }

-- nothing, or a word and something behind it
abbrev pub optional_items : {X : Type 0} → ℕ → Class → (X → List Item) → Option X → List Item
optional_items l c sp None = no c ∷ []
optional_items l c sp (Some x) = word l c ∷ sp x

abbrev pub both_items : {X Y : Type 0} → (X → List Item) → (Y → List Item) → X × Y → List Item
both_items sp sq p = sp p.0 ++ sq p.1

-- the same steps, told in another way
pub step_same : {X Y : Type 0} (o : Read X) (f g : X → ℕ → Read Y) → ((x : X) (e : ℕ) → f x e ≡ g x e) → step o f ≡ step o g
step_same (Found x e) f g h = h x e
step_same (Unexpected i) f g h = refl
step_same (TooDeep i) f g h = refl
step_same (Tired i) f g h = refl

pub step_twice : {X Y Z : Type 0} (o : Read X) (f : X → Y) (g : Y → Z) → step o (λ x e. Found (g (f x)) e) ≡ step (step o (λ x e. Found (f x) e)) (λ y e. Found (g y) e)
step_twice (Found x e) f g = refl
step_twice (Unexpected i) f g = refl
step_twice (TooDeep i) f g = refl
step_twice (Tired i) f g = refl

-- what follows is looked for in one step
abbrev followed : {X Y : Type 0} → Reader X → Class → Reader Y → Reader (X × Option Y)
followed r c q s at = step (r s at) (λ x e. cond (same c (s e).class) (step (q s (e + 1)) (λ y j. Found (x, Some y) j)) (Found (x, None) e))

followed_same : {X Y : Type 0} (r : Reader X) (c : Class) (q : Reader Y) (s : Source) (at : ℕ) → followed r c q s at ≡ both r (optional c q) s at
followed_same {X} {Y} r c q s at = step_same (r s at) _ _ (λ x e. by_test x e (same c (s e).class)) where
  by_test : (x : X) (e : ℕ) (b : Bool) → cond b (step {Y = X × Option Y} (q s (e + 1)) (λ y j. Found (x, Some y) j)) (Found (x, None) e)
      ≡ step {Y = X × Option Y} (cond b (step (q s (e + 1)) (λ y j. Found (Some y) j)) (Found None e)) (λ y j. Found (x, y) j)
  by_test x e true = step_twice {Z = X × Option Y} (q s (e + 1)) (λ y. Some y) (λ y. (x, y))
  by_test x e false = refl

unlike : (c d : Class) → same c d ≡ false → c ≢ d
unlike c d h e = contra (same c d) (true-same c d e) h where
  contra : (b : Bool) → b ≡ true → b ≡ false → ⊥
  contra b g h = cc

-- something, and what may follow it
module _ {X Y : Type 0} {most : ℕ} {LowP Low : ℕ → Type 0} {sp : X → List Item} {C : Class → Type 0} {r : Reader X} {sq : Y → List Item} {D : Class → Type 0} {q : Reader Y}
    (l : ℕ) (h : l ≤ most_levels) (c : Class) (plain : Plain c) (n : fits c w.End ≡ false) (wider : (d : Class) → D d → C d) (apart : (d : Class) → D d → c ≢ d)
    (lower : (at e : ℕ) → Low at → at ≤ e → LowP (e + 1)) (g : Good most All false sp C r) (k : Good most LowP false sq D q) where
  followed_behind : (s : Source) (at e : ℕ) (x : X) → IsFound false sp C s at x e → (b : Bool) → same c (s e).class ≡ b
      → IsRight false (both_items sp (optional_items l c sq)) D s at (cond b (step (q s (e + 1)) (λ y j. Found (x, Some y) j)) (Found (x, None) e))
  followed_behind s at e x m false z = record {
    words = words-append s (sp x) (no c ∷ []) at e e m.words refl;
    shallow = shallow-append (sp x) (no c ∷ []) m.shallow tt;
    greedy = greedy-append (sp x) (no c ∷ []) (s e).class m.greedy (unlike c (s e).class z, tt);
    firm = λ d i. greedy-append (sp x) (no c ∷ []) d (m.firm d (wider d i)) (apart d i, tt);
    inside = m.inside;
  }
  followed_behind s at e x m true z =
      let fit : fits c (s e).class ≡ true = same-fits c (s e).class z in
      let front : IsGreedy (sp x) c = subst (λ (d : Class). IsGreedy (sp x) d) (sym (same-true c (s e).class z)) m.greedy in
      step_right false false sq D (both_items sp (optional_items l c sq)) D s at (e + 1) (q s (e + 1)) _ (k.sound.right s (e + 1))
      (omega (arith, words_later s (sp x) at e m.words)) (inside_append s at e (e + 1) m.inside (fits_inside s e c n fit))
      (λ y. (x, Some y))
      (λ y i v. leads_behind s (sp x) (word l c ∷ sq y) at e i m.words m.shallow (inr (fit, h, v)))
      (λ y i v. deep_behind s (sp x) (word l c ∷ sq y) at e i m.words m.shallow (fit, inr (h, v)))
      (λ y v d i. greedy-append (sp x) (word l c ∷ sq y) d front (v d i))
      (λ y j v. record {
        words = words-append s (sp x) (word l c ∷ sq y) at e j m.words (fit, v.words);
        shallow = shallow-append (sp x) (word l c ∷ sq y) m.shallow (h, v.shallow);
        greedy = greedy-append (sp x) (word l c ∷ sq y) (s j).class front v.greedy;
        firm = λ d i. greedy-append (sp x) (word l c ∷ sq y) d front (v.firm d i);
        inside = inside_append s at (e + 1) j (inside_append s at e (e + 1) m.inside (fits_inside s e c n fit)) v.inside;
      })

  followed_right : (s : Source) (at : ℕ) → IsRight false (both_items sp (optional_items l c sq)) D s at (followed r c q s at)
  followed_right s at = step_right false false sp C (both_items sp (optional_items l c sq)) D s at at (r s at) _ (g.sound.right s at) (omega arith) (inside_nothing s at)
      (λ x. (x, None))
      (λ x i v. leads_front s (sp x) (no c ∷ []) at i v)
      (λ x i v. deep_front s (sp x) (no c ∷ []) at i v)
      (λ x v d i. greedy-append (sp x) (no c ∷ []) d (v d (wider d i)) (apart d i, tt))
      (λ x e m. followed_behind s at e x m (same c (s e).class) refl)

  followed_later : (s : Source) (e : ℕ) (x : X) → Later {X = X × Option Y} e (cond (same c (s e).class) (step (q s (e + 1)) (λ y j. Found (x, Some y) j)) (Found (x, None) e))
  followed_later s e x = later_cond (same c (s e).class) where
    later_found : (o : Read Y) → Later (e + 1) o → Later {X = X × Option Y} e (step o (λ y j. Found (x, Some y) j))
    later_found (Found y j) i = omega arith
    later_found (Unexpected j) i = omega arith
    later_found (TooDeep j) i = omega arith
    later_found (Tired j) i = omega arith

    later_cond : (b : Bool) → Later {X = X × Option Y} e (cond b (step (q s (e + 1)) (λ y j. Found (x, Some y) j)) (Found (x, None) e))
    later_cond true = later_found (q s (e + 1)) (right_later false sq D s (e + 1) (q s (e + 1)) (k.sound.right s (e + 1)))
    later_cond false = omega arith

  followed_local : IsLocal (followed r c q)
  followed_local s t at m a z =
      step_local m (r s at) (r t at) _ _ (g.sound.local s t at m a) (λ x e i. followed_later s e x)
      (λ x e i near v. cond_local m (same c (s e).class) (same c (t e).class) _ _ _ _ (ap (same c) (agree_class s t m e a near))
      (λ b u. step_local m (q s (e + 1)) (q t (e + 1)) _ _ (k.sound.local s t (e + 1) m a) (λ y j p. omega arith) (λ y j p o u. refl) u)
      (λ b u. refl) v) z

  followed_complete : IsComplete most Low (both_items sp (optional_items l c sq)) (followed r c q)
  followed_complete s at (x, None) end low z y =
      let parts = words-split s (sp x) (no c ∷ []) at end z in
      let greedy = greedy-split (sp x) (no c ∷ []) (s end).class y in
      let here : Words s at (sp x) end = subst (λ (j : ℕ). Words s at (sp x) j) parts.2 parts.1 in
      outcome_step (r s at) _ (g.complete s at x end tt here greedy.0)
      (λ d. cond_false (λ p. Outcome most s at (both_items sp (optional_items l c sq) (x, None)) (x, None) end p) (same c (s end).class) _ _ (differs c (s end).class greedy.1.0)
      (finds refl (shallow-append (sp x) (no c ∷ []) d tt)))
      (λ i v. deep_front s (sp x) (no c ∷ []) at i v) (omega arith)
  followed_complete s at (x, Some o) end low z y =
      let parts = words-split s (sp x) (word l c ∷ sq o) at end z in
      let greedy = greedy-split (sp x) (word l c ∷ sq o) (s end).class y in
      let mid = parts.0 in
      let test : same c (s mid).class ≡ true = plain (s mid).class parts.2.0 in
      outcome_step (r s at) _ (g.complete s at x mid tt parts.1 (subst (λ (d : Class). IsGreedy (sp x) d) (same-true c (s mid).class test) greedy.0))
      (λ d. cond_true (λ p. Outcome most s at (both_items sp (optional_items l c sq) (x, Some o)) (x, Some o) end p) (same c (s mid).class) _ _ test
      (outcome_step (q s (mid + 1)) _ (k.complete s (mid + 1) o end (lower at mid low (words_later s (sp x) at mid parts.1)) parts.2.1 greedy.1)
      (λ e. finds refl (shallow-append (sp x) (word l c ∷ sq o) d (h, e)))
      (λ i v. deep_behind s (sp x) (word l c ∷ sq o) at mid i parts.1 d (parts.2.0, inr (h, v))) (omega arith)))
      (λ i v. deep_front s (sp x) (word l c ∷ sq o) at i v) (omega (arith, words_later s (sq o) (mid + 1) end parts.2.1))

  pub good_followed : Good most Low false (both_items sp (optional_items l c sq)) D (both r (optional c q))
  good_followed = good_same (followed r c q) (both r (optional c q)) (followed_same r c q) (record {
    some = (g.some, None);
    some_firm = λ d i. greedy-append (sp g.some) (no c ∷ []) d (g.some_firm d (wider d i)) (apart d i, tt);
    sound = record { right = followed_right; local = followed_local };
    complete = followed_complete;
  })

read_done : {Y : Type 0} (o : Read Y) → step {X = Unit {0} × Y} (step o (λ y e. Found (tt, y) e)) (λ p e. Found p.1 e) ≡ o
read_done (Found y e) = refl
read_done (Unexpected i) = refl
read_done (TooDeep i) = refl
read_done (Tired i) = refl

-- nothing, or a word and something behind it, with nothing before
pub good_optional : {Y : Type 0} {most : ℕ} {LowP Low : ℕ → Type 0} {sq : Y → List Item} {D : Class → Type 0} {q : Reader Y} (l : ℕ) → l ≤ most_levels → (c : Class) → Plain c → fits c w.End ≡ false → ((d : Class) → D d → c ≢ d)
    → ((at e : ℕ) → Low at → at ≤ e → LowP (e + 1)) → Good most LowP false sq D q → Good most Low false (optional_items l c sq) D (optional c q)
good_optional {Y} {most} {LowP} {Low} {sq} {D} {q} l h c plain n apart lower k =
    good_same (built (λ p. p.1) (both done (optional c q))) (optional c q) (λ s at. read_done (optional c q s at))
    (good_built {X = Unit {0} × Option Y} (optional_items l c sq) (λ p. p.1) (λ p. refl)
    (good_followed l h c plain n (λ d i. i) apart lower (good_done most) k) (λ y. (tt, y)) (λ y. refl))

-- what follows is made into something
read_inner : {X A Y : Type 0} (f : A → Y) (o : Read X) (q : ℕ → Read A)
    → step {X = X × A} {Y = X × Y} (step o (λ x e. step (q e) (λ a j. Found (x, a) j))) (λ p e. Found (p.0, f p.1) e) ≡ step o (λ x e. step (step (q e) (λ a j. Found (f a) j)) (λ y j. Found (x, y) j))
read_inner {X} {A} {Y} f (Found x e) q = read_pair (q e) where
  read_pair : (o : Read A) → step {Y = X × Y} (step {Y = X × A} o (λ a j. Found (x, a) j)) (λ p e. Found (p.0, f p.1) e) ≡ step {Y = X × Y} (step o (λ a j. Found (f a) j)) (λ y j. Found (x, y) j)
  read_pair (Found a j) = refl
  read_pair (Unexpected i) = refl
  read_pair (TooDeep i) = refl
  read_pair (Tired i) = refl
read_inner f (Unexpected i) q = refl
read_inner f (TooDeep i) q = refl
read_inner f (Tired i) q = refl

pub good_inner : {X A Y : Type 0} {most : ℕ} {Low : ℕ → Type 0} {last : Bool} {C : Class → Type 0} (sp : X → List Item) (sa : A → List Item) (r : Reader X) (q : Reader A) (sy : Y → List Item) (f : A → Y) → ((a : A) → sy (f a) ≡ sa a)
    → (back : Y → A) → ((y : Y) → f (back y) ≡ y) → Good most Low last (both_items sp sa) C (both r q) → Good most Low last (both_items sp sy) C (both r (built f q))
good_inner {X} {A} {Y} {most} {Low} {last} {C} sp sa r q sy f spelled back there g =
    good_same (built (λ (p : X × A). (p.0, f p.1)) (both r q)) (both r (built f q)) (λ s at. read_inner f (r s at) (q s))
    (good_built (both_items sp sy) (λ (p : X × A). (p.0, f p.1)) (λ p. ap (λ is. sp p.0 ++ is) (spelled p.1)) g
    (λ p. (p.0, back p.1)) (λ p. ap (λ (y : Y). (p.0, y)) (there p.1)))

-- the one or the other
abbrev pub either_items : {X Y : Type 0} → (X → List Item) → (Y → List Item) → X ⊎ Y → List Item
either_items sp sq (inl x) = sp x
either_items sp sq (inr y) = sq y

module _ {X Y : Type 0} {most : ℕ} {Low : ℕ → Type 0} {last : Bool} {sp : X → List Item} {C : Class → Type 0} {r : Reader X} {sq : Y → List Item} {q : Reader Y}
    (c : Class) (first : (s : Source) (at : ℕ) (x : X) (end : ℕ) → Words s at (sp x) end → same c (s at).class ≡ true)
    (other : (s : Source) (at : ℕ) (y : Y) (end : ℕ) → Words s at (sq y) end → same c (s at).class ≡ false)
    (g : Good most Low last sp C r) (k : Good most Low last sq C q) where
  either_by : (s : Source) (at : ℕ) (b : Bool) → IsRight last (either_items sp sq) C s at (cond b (step (r s at) (λ x e. Found (inl x) e)) (step (q s at) (λ y e. Found (inr y) e)))
  either_by s at true = step_right last last sp C (either_items sp sq) C s at at (r s at) _ (g.sound.right s at) (omega arith) (inside_nothing s at)
      (λ x. inl x) (λ x i v. v) (λ x i v. v) (λ x v. v)
      (λ x e v. record { words = v.words; shallow = v.shallow; greedy = v.greedy; firm = v.firm; inside = v.inside })
  either_by s at false = step_right last last sq C (either_items sp sq) C s at at (q s at) _ (k.sound.right s at) (omega arith) (inside_nothing s at)
      (λ y. inr y) (λ y i v. v) (λ y i v. v) (λ y v. v)
      (λ y e v. record { words = v.words; shallow = v.shallow; greedy = v.greedy; firm = v.firm; inside = v.inside })

  either_local : IsLocal (either c r q)
  either_local s t at m a z =
      let near : at ≤ m = later_within at m (either c r q s at) (right_later last (either_items sp sq) C s at (either c r q s at) (either_by s at (same c (s at).class))) z in
      cond_local m (same c (s at).class) (same c (t at).class) _ _ _ _ (ap (same c) (agree_class s t m at a near))
      (λ e v. step_local m (r s at) (r t at) _ _ (g.sound.local s t at m a) (λ x j q. omega arith) (λ x j q n u. refl) v)
      (λ e v. step_local m (q s at) (q t at) _ _ (k.sound.local s t at m a) (λ x j q. omega arith) (λ x j q n u. refl) v) z

  either_complete : IsComplete most Low (either_items sp sq) (either c r q)
  either_complete s at (inl x) end low z y =
      cond_true (λ p. Outcome most s at (sp x) (inl x) end p) (same c (s at).class) _ _ (first s at x end z)
      (outcome_step (r s at) _ (g.complete s at x end low z y) (λ d. finds refl d) (λ i d. d) (omega arith))
  either_complete s at (inr x) end low z y =
      cond_false (λ p. Outcome most s at (sq x) (inr x) end p) (same c (s at).class) _ _ (other s at x end z)
      (outcome_step (q s at) _ (k.complete s at x end low z y) (λ d. finds refl d) (λ i d. d) (omega arith))

  pub good_either : Good most Low last (either_items sp sq) C (either c r q)
  good_either = record {
    some = inr k.some;
    some_firm = k.some_firm;
    sound = record { right = λ s at. either_by s at (same c (s at).class); local = either_local };
    complete = either_complete;
  }

-- any class may follow
abbrev pub Any : Class → Type 0
Any c = Unit {0}

-- something that any class may follow, and something else
module _ {X Y : Type 0} {most : ℕ} {Low LowQ : ℕ → Type 0} {last : Bool} {sp : X → List Item} {r : Reader X} {sq : Y → List Item} {D : Class → Type 0} {q : Reader Y}
    (lower : (s : Source) (at : ℕ) (x : X) (e : ℕ) → Low at → Words s at (sp x) e → LowQ e)
    (g : Good most All false sp Any r) (k : Good most LowQ last sq D q) where
  both_right : (s : Source) (at : ℕ) → IsRight last (both_items sp sq) D s at (both r q s at)
  both_right s at = step_right false last sp Any (both_items sp sq) D s at at (r s at) _ (g.sound.right s at) (omega arith) (inside_nothing s at)
      (λ x. (x, k.some))
      (λ x i v. leads_front s (sp x) (sq k.some) at i v)
      (λ x i v. deep_front s (sp x) (sq k.some) at i v)
      (λ x v d i. greedy-append (sp x) (sq k.some) d (v (first_of (sq k.some) d) tt) (k.some_firm d i))
      (λ x e m. step_right last last sq D (both_items sp sq) D s at e (q s e) _ (k.sound.right s e) (words_later s (sp x) at e m.words) m.inside
      (λ y. (x, y))
      (λ y i v. leads_behind s (sp x) (sq y) at e i m.words m.shallow v)
      (λ y i v. deep_behind s (sp x) (sq y) at e i m.words m.shallow v)
      (λ y v d i. greedy-append (sp x) (sq y) d (m.firm (first_of (sq y) d) tt) (v d i))
      (λ y j v. record {
        words = words-append s (sp x) (sq y) at e j m.words v.words;
        shallow = shallow-append (sp x) (sq y) m.shallow v.shallow;
        greedy = greedy-append (sp x) (sq y) (s j).class (m.firm (first_of (sq y) (s j).class) tt) v.greedy;
        firm = λ d i. greedy-append (sp x) (sq y) d (m.firm (first_of (sq y) d) tt) (v.firm d i);
        inside = unless_append last s at e j m.inside v.inside;
      }))

  both_later : (s : Source) (e : ℕ) (x : X) (o : Read Y) → Later e o → Later {X = X × Y} e (step o (λ y j. Found (x, y) j))
  both_later s e x (Found y j) i = i
  both_later s e x (Unexpected j) i = i
  both_later s e x (TooDeep j) i = i
  both_later s e x (Tired j) i = i

  both_local : IsLocal (both r q)
  both_local s t at m a z =
      step_local m (r s at) (r t at) _ _ (g.sound.local s t at m a) (λ x e i. both_later s e x (q s e) (right_later last sq D s e (q s e) (k.sound.right s e)))
      (λ x e i near v. step_local m (q s e) (q t e) _ _ (k.sound.local s t e m a) (λ y j p. omega arith) (λ y j p o u. refl) v) z

  pub good_both : ((x : X) (c d : Class) → IsGreedy (sp x) c → IsGreedy (sp x) d) → Good most Low last (both_items sp sq) D (both r q)
  good_both closed = record {
    some = (g.some, k.some);
    some_firm = λ d i. greedy-append (sp g.some) (sq k.some) d (g.some_firm (first_of (sq k.some) d) tt) (k.some_firm d i);
    sound = record { right = both_right; local = both_local };
    complete = λ s at x end low z y.
        let parts = words-split s (sp x.0) (sq x.1) at end z in
        let greedy = greedy-split (sp x.0) (sq x.1) (s end).class y in
        outcome_step (r s at) _ (g.complete s at x.0 parts.0 tt parts.1 (closed x.0 (first_of (sq x.1) (s end).class) (s parts.0).class greedy.0))
        (λ d. outcome_step (q s parts.0) _ (k.complete s parts.0 x.1 end (lower s at x.0 parts.0 low parts.1) parts.2 greedy.1)
        (λ e. finds refl (shallow-append (sp x.0) (sq x.1) d e))
        (λ i v. deep_behind s (sp x.0) (sq x.1) at parts.0 i parts.1 d v) (omega arith))
        (λ i v. deep_front s (sp x.0) (sq x.1) at i v) (words_later s (sq x.1) parts.0 end parts.2);
  }

-- a choice by the class of the first word
pub choice_sound : {X : Type 0} {last : Bool} {sp : X → List Item} {C : Class → Type 0} {by : Class → Reader X} → ((c : Class) → Sound last sp C (by c)) → Sound last sp C (λ s at. by (s at).class s at)
choice_sound {X} {last} {sp} {C} {by} h = record {
  right = λ s at. (h (s at).class).right s at;
  local = λ s t at k a z.
      let near : at ≤ k = later_within at k (by (s at).class s at) (right_later last sp C s at (by (s at).class s at) ((h (s at).class).right s at)) z in
      ap (λ (c : Class). by c t at) (agree_class s t k at a near) ∙ (h (s at).class).local s t at k a z;
}

-- where no alternative begins, some could
pub refused_sound : {X : Type 0} (last : Bool) (sp : X → List Item) (C : Class → Type 0) (some : X) → ((s : Source) (at : ℕ) → LeadsTo s at (sp some) at) → Firm C (sp some) → Sound last sp C refused
refused_sound last sp C some leads firm = record {
  right = λ s at. record { other = some; leads = leads s at; firm = firm; inside = inside_nothing s at };
  local = λ s t at k a z. refl;
}

-- a choice reads as its alternative does
pub choice_outcome : {X : Type 0} {most : ℕ} {s : Source} {at : ℕ} {items : List Item} {x : X} {end : ℕ} (by : Class → Reader X) (c : Class) → Plain c → fits c (s at).class ≡ true
    → Outcome most s at items x end (by c s at) → Outcome most s at items x end (by (s at).class s at)
choice_outcome {X} {most} {s} {at} {items} {x} {end} by c plain f h =
    subst (λ (d : Class). Outcome most s at items x end (by d s at)) (same-true c (s at).class (plain (s at).class f)) h

-- below the last level nothing is read
pub good_deep : {X : Type 0} {most : ℕ} {sp : X → List Item} {C : Class → Type 0} (begins : Class → Bool) (some : X) → ((s : Source) (at : ℕ) → LeadsTo s at (sp some) at) → Firm C (sp some)
    → ((s : Source) (at : ℕ) → begins (s at).class ≡ true → IsDeep sp C s at at)
    → ((s : Source) (at : ℕ) (x : X) (end : ℕ) → Words s at (sp x) end → (begins (s at).class ≡ true) × DeepAt s at (sp x) at)
    → Good most All false sp C (deep begins)
good_deep {X} {most} {sp} {C} begins some leads firm begun sunk = record {
  some = some;
  some_firm = firm;
  sound = record {
    right = λ s at. by_test s at (begins (s at).class) refl;
    local = λ s t at k a z.
        let near : at ≤ k = later_within at k (deep begins s at) (right_later false sp C s at (deep begins s at) (by_test s at (begins (s at).class) refl)) z in
        ap (λ (c : Class). cond (begins c) (TooDeep at) (Unexpected at)) (agree_class s t k at a near);
  };
  complete = λ s at x end low z y.
      let both = sunk s at x end z in
      cond_true (λ p. Outcome most s at (sp x) x end p) (begins (s at).class) (TooDeep at) (Unexpected at) both.0 (sinks at refl both.1);
} where
  by_test : (s : Source) (at : ℕ) (b : Bool) → begins (s at).class ≡ b → IsRight false sp C s at (cond b (TooDeep at) (Unexpected at))
  by_test s at true e = begun s at e
  by_test s at false e = record { other = some; leads = leads s at; firm = firm; inside = inside_nothing s at }

-- one alternative: how it is spelled, and that its reader is good
pub record Way {X U : Type 0} (most : ℕ) (sp : U → List Item) (C : Class → Type 0) (f : X → U) (r : Reader X) : Type 0 where
  pub items : X → List Item
  pub spelled : (x : X) → sp (f x) ≡ items x
  pub good : Good most All false items C r

pub way_sound : {X U : Type 0} {most : ℕ} {sp : U → List Item} {C : Class → Type 0} {f : X → U} {r : Reader X} → Way most sp C f r → Sound false sp C (built f r)
way_sound {X} {U} {most} {sp} {C} {f} v = built_sound sp f v.spelled v.good

-- its words are read where its class stands first
pub way_complete : {X U : Type 0} {most : ℕ} {sp : U → List Item} {C : Class → Type 0} {f : X → U} {r : Reader X} (by : Class → Reader U) (c : Class) → Plain c → Way most sp C f r → ((s : Source) (at : ℕ) → by c s at ≡ built f r s at)
    → (s : Source) (at : ℕ) (x : X) (end : ℕ) → fits c (s at).class ≡ true → Words s at (sp (f x)) end → IsGreedy (sp (f x)) (s end).class → Outcome most s at (sp (f x)) (f x) end (by (s at).class s at)
way_complete {X} {U} {most} {sp} {C} {f} {r} by c plain v e s at x end fit z y =
    choice_outcome by c plain fit (subst (λ (p : Read U). Outcome most s at (sp (f x)) (f x) end p) (sym (e s at)) (built_complete sp f v.spelled v.good s at x end tt z y))

-- Readers that are put together of good ones are good.
use Rattle.std.proofs.Common.{◌≡◌, ◌≢◌, ℕ, ◌+◌, ◌≤◌, Bool, true, false, cond, List, [], ◌∷◌, ◌++◌, refl, sym, ap, subst, inl, inr, ◌∙◌, arith}
use Rattle.spec_calculus.specs.Bounds.{most_levels}
use Rattle.spec_protocol_grammar.specs.declared.class.Class.{Class}
use Rattle.spec_protocol_grammar.specs.declared.class.Class.TheVariants as w
use Rattle.spec_protocol_grammar.specs.Classes.{Source, Word, same, fits}
use Rattle.spec_protocol_grammar.specs.Spelling.{Item, kept, word, IsGreedy}
use Rattle.spec_protocol_grammar.specs.Reading.{Read, Found, Unexpected, TooDeep, Tired, Reader, step, done, with_place, then_marked}
use Rattle.spec_protocol_grammar.proofs.Same.{same-true}
use Rattle.spec_protocol_grammar.proofs.Items.{words-append, words-split, words_later, shallow-append, greedy-append, greedy-split, leads_front, leads_behind, deep_front, deep_behind}
use Rattle.spec_protocol_grammar.proofs.Good.{Inside, InsideUnless, inside_append, IsFound, IsRight, Outcome, finds, Agree, Within, IsLocal, IsComplete, Good, Later, right_later, later_within, step_right, step_local, outcome_step}

-- every place will do
abbrev pub All : ℕ → Type 0
All at = Unit {0}

-- nothing but this class fits it
abbrev pub Plain : Class → Type 0
Plain c = (k : Class) → fits c k ≡ true → same c k ≡ true

-- the classes of two places that agree
pub agree_class : (s t : Source) (k n : ℕ) → Agree s t k → n ≤ k → (t n).class ≡ (s n).class
agree_class s t k n a h = ap (λ (x : Word). x.class) (a n h)

-- a choice that two files make alike
pub cond_local : {X : Type 0} (k : ℕ) (b b' : Bool) (x y x' y' : Read X) → b' ≡ b → (b ≡ true → Within k x → x' ≡ x) → (b ≡ false → Within k y → y' ≡ y)
    → Within k (cond b x y) → cond b' x' y' ≡ cond b x y
cond_local k true b' x y x' y' e taken other h = ap (λ z. cond z x' y') e ∙ taken refl h
cond_local k false b' x y x' y' e taken other h = ap (λ z. cond z x' y') e ∙ other refl h

-- what is told of the part that was chosen
pub cond_true : {X : Type 0} (P : Read X → Type 0) (b : Bool) (x y : Read X) → b ≡ true → P x → P (cond b x y)
cond_true P b x y e h = subst (λ (z : Bool). P (cond z x y)) (sym e) h

pub cond_false : {X : Type 0} (P : Read X → Type 0) (b : Bool) (x y : Read X) → b ≡ false → P y → P (cond b x y)
cond_false P b x y e h = subst (λ (z : Bool). P (cond z x y)) (sym e) h

-- one word lies inside where it is not the end
pub inside_one : (s : Source) (at : ℕ) → (s at).class ≢ w.End → Inside s at (at + 1)
inside_one s at n k a b = let e : at ≡ k = omega arith in subst (λ (j : ℕ). (s j).class ≢ w.End) e n

pub fits_inside : (s : Source) (at : ℕ) (c : Class) → fits c w.End ≡ false → fits c (s at).class ≡ true → Inside s at (at + 1)
fits_inside s at c n e = inside_one s at (λ z. absurd (contra (fits c (s at).class) (fits c w.End) (ap (fits c) z) e n)) where
  contra : (x y : Bool) → x ≡ y → x ≡ true → y ≡ false → ⊥
  contra x y e h k = cc

pub inside_nothing : (s : Source) (at : ℕ) → Inside s at at
inside_nothing s at k a b = absurd (omega arith)

pub unless_append : (last : Bool) (s : Source) (at mid end : ℕ) → Inside s at mid → InsideUnless last s mid end → InsideUnless last s at end
unless_append true s at mid end g h = tt
unless_append false s at mid end g h = inside_append s at mid end g h

unless_nothing : (last : Bool) (s : Source) (at : ℕ) → InsideUnless last s at at
unless_nothing true s at = tt
unless_nothing false s at = inside_nothing s at

-- nothing is always read
abbrev pub done_items : Unit {0} → List Item
done_items x = []

pub good_done : {C : Class → Type 0} {last : Bool} (most : ℕ) → Good most All last done_items C done
good_done {C} {last} most = record {
  some = tt;
  some_firm = λ c h. tt;
  sound = record {
    right = λ s at. record { words = refl; shallow = tt; greedy = tt; firm = λ c h. tt; inside = unless_nothing last s at };
    local = λ s t at k a h. refl;
  };
  complete = λ s at x end low h g. finds (found x at end h) tt;
} where
  found : (x : Unit {0}) (at end : ℕ) → at ≡ end → Found tt at ≡ Found x end
  found x at end e = ap (λ (k : ℕ). Found tt k) e

-- a word with its number, and something behind it
abbrev pub numbered_items : {X : Type 0} → ℕ → Class → (X → List Item) → ℕ × X → List Item
numbered_items l c sp p = kept l p.0 c ∷ sp p.1

module _ {X : Type 0} {most : ℕ} {last : Bool} {sp : X → List Item} {C : Class → Type 0} {r : Reader X} (l : ℕ) (h : l ≤ most_levels) (c : Class) (n : fits c w.End ≡ false) (g : Good most All last sp C r) where
  numbered_right : (s : Source) (at : ℕ) (b : Bool) → fits c (s at).class ≡ b
      → IsRight last (numbered_items l c sp) C s at (cond b (step (r s (at + 1)) (λ x e. Found ((s at).number, x) e)) (Unexpected at))
  numbered_right s at false e = record { other = (0, g.some); leads = inl refl; firm = g.some_firm; inside = inside_nothing s at }
  numbered_right s at true e = step_right last last sp C (numbered_items l c sp) C s at (at + 1) (r s (at + 1)) _ (g.sound.right s (at + 1)) (omega arith) (fits_inside s at c n e)
      (λ x. ((s at).number, x))
      (λ x i k. inr ((refl, e), h, k))
      (λ x i k. ((refl, e), inr (h, k)))
      (λ x f. f)
      (λ x j f. record {
        words = ((refl, e), f.words);
        shallow = (h, f.shallow);
        greedy = f.greedy;
        firm = f.firm;
        inside = unless_append last s at (at + 1) j (fits_inside s at c n e) f.inside;
      })

  numbered_local : IsLocal (with_place c r)
  numbered_local s t at k a z =
      let near : at ≤ k = later_within at k (with_place c r s at) (right_later last (numbered_items l c sp) C s at (with_place c r s at) (numbered_right s at (fits c (s at).class) refl)) z in
      let same_word : t at ≡ s at = a at near in
      cond_local k (fits c (s at).class) (fits c (t at).class) _ _ _ _ (ap (λ (x : Word). fits c x.class) same_word)
      (λ e v. step_local k (r s (at + 1)) (r t (at + 1)) _ _ (g.sound.local s t (at + 1) k a) (λ x j q. omega arith)
      (λ x j q m u. ap (λ (v : Word). Found (v.number, x) j) same_word) v)
      (λ e v. refl) z

  numbered_complete : IsComplete most All (numbered_items l c sp) (with_place c r)
  numbered_complete s at x end low z y =
      cond_true (λ p. Outcome most s at (numbered_items l c sp x) x end p) (fits c (s at).class) _ _ z.0.1
      (outcome_step (r s (at + 1)) _ (g.complete s (at + 1) x.1 end tt z.1 y)
      (λ d. finds (ap (λ (n : ℕ). Found (n, x.1) end) z.0.0) (h, d)) (λ i d. (z.0, inr (h, d))) (omega arith))

  pub good_numbered : Good most All last (numbered_items l c sp) C (with_place c r)
  good_numbered = record {
    some = (0, g.some);
    some_firm = g.some_firm;
    sound = record { right = λ s at. numbered_right s at (fits c (s at).class) refl; local = numbered_local };
    complete = numbered_complete;
  }

-- something, a word, and something else
abbrev pub then_items : {X Y : Type 0} → (X → List Item) → ℕ → Class → (Y → List Item) → X × Y → List Item
then_items sp l c sq p = sp p.0 ++ (word l c ∷ sq p.1)

module _ {X Y : Type 0} {most : ℕ} {last : Bool} {sp : X → List Item} {C : Class → Type 0} {r : Reader X} {sq : Y → List Item} {D : Class → Type 0} {q : Reader Y}
    (l : ℕ) (h : l ≤ most_levels) (c : Class) (plain : Plain c) (f : C c) (g : Good most All false sp C r) (k : Good most All last sq D q) where
  then_later : (s : Source) (e : ℕ) (x : X) → Later {X = X × Y} e (cond (fits c (s e).class) (step (q s (e + 1)) (λ y j. Found (x, y) j)) (Unexpected e))
  then_later s e x = later_cond (fits c (s e).class) where
    later_found : (o : Read Y) → Later (e + 1) o → Later {X = X × Y} e (step o (λ y j. Found (x, y) j))
    later_found (Found y j) i = omega arith
    later_found (Unexpected j) i = omega arith
    later_found (TooDeep j) i = omega arith
    later_found (Tired j) i = omega arith

    later_cond : (b : Bool) → Later {X = X × Y} e (cond b (step (q s (e + 1)) (λ y j. Found (x, y) j)) (Unexpected e))
    later_cond true = later_found (q s (e + 1)) (right_later last sq D s (e + 1) (q s (e + 1)) (k.sound.right s (e + 1)))
    later_cond false = omega arith

  pub then_local : IsLocal (then_marked r c q)
  then_local s t at m a z =
      step_local m (r s at) (r t at) _ _ (g.sound.local s t at m a) (λ x e i. then_later s e x)
      (λ x e i near v. cond_local m (fits c (s e).class) (fits c (t e).class) _ _ _ _ (ap (fits c) (agree_class s t m e a near))
      (λ b u. step_local m (q s (e + 1)) (q t (e + 1)) _ _ (k.sound.local s t (e + 1) m a) (λ y j p. omega arith) (λ y j p o u. refl) u)
      (λ b u. refl) v) z

  pub then_complete : IsComplete most All (then_items sp l c sq) (then_marked r c q)
  then_complete s at x end low z y =
      let parts = words-split s (sp x.0) (word l c ∷ sq x.1) at end z in
      let greedy = greedy-split (sp x.0) (word l c ∷ sq x.1) (s end).class y in
      let mid = parts.0 in
      let near : c ≡ (s mid).class = same-true c (s mid).class (plain (s mid).class parts.2.0) in
      outcome_step (r s at) _ (g.complete s at x.0 mid tt parts.1 (subst (λ (d : Class). IsGreedy (sp x.0) d) near greedy.0))
      (λ d. cond_true (λ p. Outcome most s at (then_items sp l c sq x) x end p) (fits c (s mid).class) _ _ parts.2.0
      (outcome_step (q s (mid + 1)) _ (k.complete s (mid + 1) x.1 end tt parts.2.1 greedy.1)
      (λ e. finds refl (shallow-append (sp x.0) (word l c ∷ sq x.1) d (h, e)))
      (λ i v. deep_behind s (sp x.0) (word l c ∷ sq x.1) at mid i parts.1 d (parts.2.0, inr (h, v))) (omega arith)))
      (λ i v. deep_front s (sp x.0) (word l c ∷ sq x.1) at i v) (omega (arith, words_later s (sq x.1) (mid + 1) end parts.2.1))

module _ {X Y : Type 0} {most : ℕ} {last : Bool} {sp : X → List Item} {C : Class → Type 0} {r : Reader X} {sq : Y → List Item} {D : Class → Type 0} {q : Reader Y}
    (l : ℕ) (h : l ≤ most_levels) (c : Class) (plain : Plain c) (n : fits c w.End ≡ false) (f : C c) (g : Good most All false sp C r) (k : Good most All last sq D q) where
  then_behind : (s : Source) (at e : ℕ) (x : X) → IsFound false sp C s at x e → (b : Bool) → fits c (s e).class ≡ b
      → IsRight last (then_items sp l c sq) D s at (cond b (step (q s (e + 1)) (λ y j. Found (x, y) j)) (Unexpected e))
  then_behind s at e x m false z = record {
    other = (x, k.some);
    leads = leads_behind s (sp x) (word l c ∷ sq k.some) at e e m.words m.shallow (inl refl);
    firm = λ d i. greedy-append (sp x) (word l c ∷ sq k.some) d (m.firm c f) (k.some_firm d i);
    inside = m.inside;
  }
  then_behind s at e x m true z = step_right last last sq D (then_items sp l c sq) D s at (e + 1) (q s (e + 1)) _ (k.sound.right s (e + 1))
      (omega (arith, words_later s (sp x) at e m.words)) (inside_append s at e (e + 1) m.inside (fits_inside s e c n z))
      (λ y. (x, y))
      (λ y i v. leads_behind s (sp x) (word l c ∷ sq y) at e i m.words m.shallow (inr (z, h, v)))
      (λ y i v. deep_behind s (sp x) (word l c ∷ sq y) at e i m.words m.shallow (z, inr (h, v)))
      (λ y v d i. greedy-append (sp x) (word l c ∷ sq y) d (m.firm c f) (v d i))
      (λ y j v. record {
        words = words-append s (sp x) (word l c ∷ sq y) at e j m.words (z, v.words);
        shallow = shallow-append (sp x) (word l c ∷ sq y) m.shallow (h, v.shallow);
        greedy = greedy-append (sp x) (word l c ∷ sq y) (s j).class (m.firm c f) v.greedy;
        firm = λ d i. greedy-append (sp x) (word l c ∷ sq y) d (m.firm c f) (v.firm d i);
        inside = unless_append last s at (e + 1) j (inside_append s at e (e + 1) m.inside (fits_inside s e c n z)) v.inside;
      })

  then_right : (s : Source) (at : ℕ) → IsRight last (then_items sp l c sq) D s at (then_marked r c q s at)
  then_right s at = step_right false last sp C (then_items sp l c sq) D s at at (r s at) _ (g.sound.right s at) (omega arith) (inside_nothing s at)
      (λ x. (x, k.some))
      (λ x i v. leads_front s (sp x) (word l c ∷ sq k.some) at i v)
      (λ x i v. deep_front s (sp x) (word l c ∷ sq k.some) at i v)
      (λ x v d i. greedy-append (sp x) (word l c ∷ sq k.some) d (v c f) (k.some_firm d i))
      (λ x e m. then_behind s at e x m (fits c (s e).class) refl)

  pub good_then : Good most All last (then_items sp l c sq) D (then_marked r c q)
  good_then = record {
    some = (g.some, k.some);
    some_firm = λ d i. greedy-append (sp g.some) (word l c ∷ sq k.some) d (g.some_firm c f) (k.some_firm d i);
    sound = record { right = then_right; local = then_local l h c plain f g k };
    complete = then_complete l h c plain f g k;
  }

-- something, and the end of the file
module _ {X : Type 0} {most : ℕ} {sp : X → List Item} {C : Class → Type 0} {r : Reader X} (D : Class → Type 0) (l : ℕ) (h : l ≤ most_levels) (f : C w.End) (g : Good most All false sp C r) where
  ended_behind : (s : Source) (at e : ℕ) (x : X) → IsFound false sp C s at x e → (b : Bool) → fits w.End (s e).class ≡ b
      → IsRight true (then_items sp l w.End done_items) D s at (cond b (Found (x, tt) (e + 1)) (Unexpected e))
  ended_behind s at e x m false z = record {
    other = (x, tt);
    leads = leads_behind s (sp x) (word l w.End ∷ []) at e e m.words m.shallow (inl refl);
    firm = λ d i. greedy-append (sp x) (word l w.End ∷ []) d (m.firm w.End f) tt;
    inside = m.inside;
  }
  ended_behind s at e x m true z = record {
    words = words-append s (sp x) (word l w.End ∷ []) at e (e + 1) m.words (z, refl);
    shallow = shallow-append (sp x) (word l w.End ∷ []) m.shallow (h, tt);
    greedy = greedy-append (sp x) (word l w.End ∷ []) (s (e + 1)).class (m.firm w.End f) tt;
    firm = λ d i. greedy-append (sp x) (word l w.End ∷ []) d (m.firm w.End f) tt;
    inside = tt;
  }

  pub good_ended : Good most All true (then_items sp l w.End done_items) D (then_marked r w.End done)
  good_ended = record {
    some = (g.some, tt);
    some_firm = λ d i. greedy-append (sp g.some) (word l w.End ∷ []) d (g.some_firm w.End f) tt;
    sound = record {
      right = λ s at. step_right false true sp C (then_items sp l w.End done_items) D s at at (r s at) _ (g.sound.right s at) (omega arith) (inside_nothing s at)
          (λ x. (x, tt))
          (λ x i v. leads_front s (sp x) (word l w.End ∷ []) at i v)
          (λ x i v. deep_front s (sp x) (word l w.End ∷ []) at i v)
          (λ x v d i. greedy-append (sp x) (word l w.End ∷ []) d (v w.End f) tt)
          (λ x e m. ended_behind s at e x m (fits w.End (s e).class) refl);
      local = then_local {last = true} {D = D} l h w.End (λ k e. e) f g (good_done most);
    };
    complete = then_complete {last = true} {D = D} l h w.End (λ k e. e) f g (good_done most);
  }

-- A file has one answer at most, and reading finds it.
use Rattle.std.proofs.Common.{◌≡◌, ◌≢◌, ℕ, ◌+◌, ◌<◌, ◌≤◌, true, List, [], ◌∷◌, sym, ap, subst, inl, inr, ◌∙◌, arith}
use Rattle.std.proofs.lemmas.Bool.{cases_lt}
use Rattle.spec_protocol_grammar.specs.declared.class.Class.{Class}
use Rattle.spec_protocol_grammar.specs.declared.class.Class.TheVariants as w
use Rattle.spec_protocol_grammar.specs.Classes.{Source}
use Rattle.spec_protocol_grammar.specs.Sketch.{DeclarationSketch, FileSketch}
use Rattle.spec_protocol_grammar.specs.Spelling.{Item, word, Words, first_of, IsGreedy, declaration, process, main, declarations, file, IsSketch}
use Rattle.spec_protocol_grammar.specs.Refusals.{Has, DeepAt, IsUnexpected, IsTooDeep}
use Rattle.spec_protocol_grammar.specs.Reading.{Read, Found, Unexpected, TooDeep, file_at}
use Rattle.spec_protocol_grammar.proofs.Same.{same-true}
use Rattle.spec_protocol_grammar.proofs.Items.{words-split, greedy-append, greedy-split}
use Rattle.spec_protocol_grammar.proofs.Good.{IsRight, IsFound, IsFault, IsDeep, Outcome, finds, sinks, tires, Agree, Within}
use Rattle.spec_protocol_grammar.proofs.Choose.{Any}
use Rattle.spec_protocol_grammar.proofs.Declarations.{declaration_closed, closed_by, good_file}
use Rattle.spec_protocol_grammar.proofs.Overlay.{over, over_agrees, over_words, deep_has, deep_has_last, leads_has, words_has, deep_agree, deep_one, deep_shallow, leads_shallow}

-- it does not matter what follows a file
declarations_closed : (ds : List DeclarationSketch) (b : List Item) (c d : Class) → ((c d : Class) → IsGreedy b c → IsGreedy b d) → IsGreedy (declarations ds b) c → IsGreedy (declarations ds b) d
declarations_closed [] b c d closed g = closed c d g
declarations_closed (x ∷ xs) b c d closed g =
    let parts = greedy-split (declaration x) (declarations xs b) c g in
    greedy-append (declaration x) (declarations xs b) d (declaration_closed x (first_of (declarations xs b) c) (first_of (declarations xs b) d) parts.0) (declarations_closed xs b c d closed parts.1)

file_closed : (f : FileSketch) (c d : Class) → IsGreedy (file f) c → IsGreedy (file f) d
file_closed f c d g = declarations_closed f.declarations (main f.first f.main) c d (λ c d g. closed_by (process 1 f.main) 0 w.End c d g) g

-- the last word of a file is its end
declarations_end : (s : Source) (ds : List DeclarationSketch) (b : List Item) (at end : ℕ) → ((at : ℕ) → Words s at b end → (k : ℕ) × (k + 1 ≡ end) × ((s k).class ≡ w.End)) → Words s at (declarations ds b) end → (k : ℕ) × (k + 1 ≡ end) × ((s k).class ≡ w.End)
declarations_end s [] b at end h z = h at z
declarations_end s (d ∷ ds) b at end h z = let parts = words-split s (declaration d) (declarations ds b) at end z in declarations_end s ds b parts.0 end h parts.2

file_end : (s : Source) (f : FileSketch) (end : ℕ) → Words s 0 (file f) end → (k : ℕ) × (k + 1 ≡ end) × ((s k).class ≡ w.End)
file_end s f end z = declarations_end s f.declarations (main f.first f.main) 0 end
    (λ at z. let parts = words-split s (process 1 f.main) (word 0 w.End ∷ []) (at + 1) end z.1 in (parts.0, parts.2.1, sym (same-true w.End (s parts.0).class parts.2.0))) z

-- what is read is right
file_right : (s : Source) (most : ℕ) (o : Read FileSketch) → file_at most s 0 ≡ o → IsRight true file Any s 0 o
file_right s most o e = subst (λ (p : Read FileSketch). IsRight true file Any s 0 p) e ((good_file most).sound.right s 0)

-- and what is spelled is read
file_outcome : (s : Source) (most : ℕ) (f : FileSketch) (end : ℕ) → IsGreedy (file f) w.End → Words s 0 (file f) end → Outcome most s 0 (file f) f end (file_at most s 0)
file_outcome s most f end g z = (good_file most).complete s 0 f end tt z (file_closed f w.End (s end).class g)

near_unexpected : (s t : Source) (most i : ℕ) → Agree s t i → file_at most s 0 ≡ Unexpected i → file_at most t 0 ≡ Unexpected i
near_unexpected s t most i a e = (good_file most).sound.local s t 0 i a (subst (λ (p : Read FileSketch). Within i p) (sym e) (omega arith)) ∙ e

near_deep : (s t : Source) (most i : ℕ) → Agree s t i → file_at most s 0 ≡ TooDeep i → file_at most t 0 ≡ TooDeep i
near_deep s t most i a e = (good_file most).sound.local s t 0 i a (subst (λ (p : Read FileSketch). Within i p) (sym e) (omega arith)) ∙ e

-- the answers differ

same_found : (f g : FileSketch) (i j : ℕ) → Found f i ≡ Found g j → f ≡ g
same_found f g i j e = cc

same_deep : (o : Read FileSketch) (i j : ℕ) → o ≡ TooDeep i → o ≡ TooDeep j → i ≡ j
same_deep o i j d e = cc

found_deep : (f : FileSketch) (i j : ℕ) → Found f i ≡ TooDeep j → ⊥
found_deep f i j e = cc

never_unexpected : {most : ℕ} {s : Source} {at i : ℕ} {items : List Item} {f : FileSketch} {end : ℕ} (o : Read FileSketch) → o ≡ Unexpected i → Outcome most s at items f end o → ⊥
never_unexpected o e (finds g d) = cc
never_unexpected o e (sinks j g d) = cc
never_unexpected o e (tires j g m n) = cc

pub found_sketch : (s : Source) (most end : ℕ) (f : FileSketch) → file_at most s 0 ≡ Found f end → IsSketch s f
found_sketch s most end f e =
    let h : IsFound true file Any s 0 f end = file_right s most (Found f end) e in
    record { greedy = h.firm w.End tt; end = end; words = h.words; shallow = h.shallow }

pub deep_refused : (s : Source) (most i : ℕ) → file_at most s 0 ≡ TooDeep i → IsTooDeep s i
deep_refused s most i e =
    let h : IsDeep file Any s 0 i = file_right s most (TooDeep i) e in
    record { other = h.other; greedy = h.firm w.End tt; deep = h.deep }

-- a file that goes on with the word at a fault would be read past it
none_has : (s : Source) (most i : ℕ) → file_at most s 0 ≡ Unexpected i → (f : FileSketch) → IsGreedy (file f) w.End → Has s 0 (file f) i → ⊥
none_has s most i e f g h =
    let t : Source = over s i (file f) in
    let same : file_at most t 0 ≡ Unexpected i = near_unexpected s t most i (over_agrees s i (file f)) e in
    let words = over_words s i (file f) w.End g h in
    never_unexpected (file_at most t 0) same (file_outcome t most f words.0 g words.1)

pub word_refused : (s : Source) (size most i : ℕ) → (s size).class ≡ w.End → file_at most s 0 ≡ Unexpected i → IsUnexpected s size i
word_refused s size most i ends e =
    let h : IsFault file Any s 0 i = file_right s most (Unexpected i) e in
    record {
      within = elim (cases_lt size i) [ inl over ↦ absurd (h.inside size (omega arith) over ends) | inr there ↦ there ];
      other = h.other;
      greedy = h.firm w.End tt;
      before = h.leads;
      none = none_has s most i e;
    }

-- reading finds the sketch, as soon as it reads lists that are long enough
sketch_read : (s : Source) (f : FileSketch) (h : IsSketch s f) (most : ℕ) → h.end < most → file_at most s 0 ≡ Found f h.end
sketch_read s f h most b = elim (file_outcome s most f h.end h.greedy h.words) [
  | finds e d ↦ e
  | sinks i e d ↦ absurd (deep_shallow s (file f) 0 i h.shallow d)
  | tires i e m n ↦ absurd (omega arith)
]

-- and the first word that stands too deep
deep_read : (s : Source) (i : ℕ) → IsTooDeep s i → (m : ℕ) × ((most : ℕ) → m ≤ most → file_at most s 0 ≡ TooDeep i)
deep_read s i h =
    let t : Source = over s i (file h.other) in
    let words = over_words s i (file h.other) w.End h.greedy (deep_has_last s (file h.other) 0 i h.deep) in
    let there : DeepAt t 0 (file h.other) i = deep_agree s t (file h.other) 0 i (over_agrees s i (file h.other)) h.deep in (
      words.0 + 1,
      λ most b.
          let same : file_at most t 0 ≡ TooDeep i = elim (file_outcome t most h.other words.0 h.greedy words.1) [
            | finds e d ↦ absurd (deep_shallow t (file h.other) 0 i d there)
            | sinks j e d ↦ e ∙ ap (λ (k : ℕ). TooDeep k) (deep_one t (file h.other) 0 j i d there)
            | tires j e m n ↦ absurd (omega arith)
          ] in
          near_deep t s most i (λ n l. sym (over_agrees s i (file h.other) n l)) same,
    )

pub one_sketch : (s : Source) (f g : FileSketch) → IsSketch s f → IsSketch s g → f ≡ g
one_sketch s f g h k =
    let a = sketch_read s f h (h.end + k.end + 1) (omega arith) in
    let b = sketch_read s g k (h.end + k.end + 1) (omega arith) in
    same_found f g h.end k.end (sym a ∙ b)

pub one_deep : (s : Source) (i j : ℕ) → IsTooDeep s i → IsTooDeep s j → i ≡ j
one_deep s i j h k =
    let a = deep_read s i h in
    let b = deep_read s j k in
    same_deep (file_at (a.0 + b.0) s 0) i j (a.1 (a.0 + b.0) (omega arith)) (b.1 (a.0 + b.0) (omega arith))

unexpected_later : (s : Source) (size i j : ℕ) → IsUnexpected s size i → IsUnexpected s size j → i < j → ⊥
unexpected_later s size i j h k b = h.none k.other k.greedy (leads_has s (file k.other) 0 j i (omega arith) b k.before)

pub one_unexpected : (s : Source) (size i j : ℕ) → IsUnexpected s size i → IsUnexpected s size j → i ≡ j
one_unexpected s size i j h k =
    elim (cases_lt i j) [
      | inl less ↦ absurd (unexpected_later s size i j h k less)
      | inr not_less ↦ elim (cases_lt j i) [ inl more ↦ absurd (unexpected_later s size j i k h more) | inr not_more ↦ omega arith ]
    ]

pub sketch_not_deep : (s : Source) (f : FileSketch) (i : ℕ) → IsSketch s f → IsTooDeep s i → ⊥
sketch_not_deep s f i h k =
    let b = deep_read s i k in
    found_deep f h.end i (sym (sketch_read s f h (h.end + b.0 + 1) (omega arith)) ∙ b.1 (h.end + b.0 + 1) (omega arith))

-- where the file ends at this place and not before, its sketch has the end at it
pub sketch_not_unexpected : (s : Source) (size i : ℕ) (f : FileSketch) → ((k : ℕ) → k < size → (s k).class ≢ w.End) → IsSketch s f → IsUnexpected s size i → ⊥
sketch_not_unexpected s size i f sized h k =
    let last = file_end s f h.end h.words in
    let there : size ≤ last.0 = elim (cases_lt last.0 size) [ inl less ↦ absurd (sized last.0 less last.2) | inr more ↦ more ] in
    k.none f h.greedy (words_has s (file f) 0 h.end i (omega arith) (omega (arith, k.within, last.1)) h.words)

pub unexpected_not_deep : (s : Source) (size i j : ℕ) → IsUnexpected s size i → IsTooDeep s j → ⊥
unexpected_not_deep s size i j h k = elim (cases_lt j i) [ inl less ↦ deeper less | inr later ↦ h.none k.other k.greedy (deep_has s (file k.other) 0 i j (omega arith) later k.deep) ] where
  deeper : j < i → ⊥
  deeper less =
      let t : Source = over s j (file h.other) in
      let words = over_words s j (file h.other) w.End h.greedy (leads_has s (file h.other) 0 i j (omega arith) less h.before) in
      let b = deep_read s j k in
      let most : ℕ = words.0 + b.0 + 1 in
      let same : file_at most t 0 ≡ TooDeep j = near_deep s t most j (over_agrees s j (file h.other)) (b.1 most (omega arith)) in
      elim (file_outcome t most h.other words.0 h.greedy words.1) [
        | finds e d ↦ found_deep h.other words.0 j (sym e ∙ same)
        | sinks l e d ↦ leads_shallow s t (file h.other) 0 i j less h.before (subst (λ (n : ℕ). DeepAt t 0 (file h.other) n) (same_deep (file_at most t 0) l j e same) d)
        | tires l e m n ↦ absurd (omega arith)
      ]

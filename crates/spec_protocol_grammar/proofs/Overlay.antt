-- A file that agrees with another one up to a place, and goes on as some items are spelled.
use Rattle.std.proofs.Common.{◌≡◌, ℕ, ◌+◌, ◌<◌, ◌≤◌, ◌==◌, nat_le, Bool, true, false, cond, List, [], ◌∷◌, Option, Some, None, refl, sym, ap, subst, inl, inr, ◌∙◌, arith}
use Rattle.std.proofs.lemmas.Bool.{cases_lt, eq-eqb, eqb-true, le-leb, lt-leb}
use Rattle.spec_protocol_grammar.specs.declared.class.Class.{Class}
use Rattle.spec_protocol_grammar.specs.declared.class.Class.TheVariants as w
use Rattle.spec_protocol_grammar.specs.Classes.{Source, Word}
use Rattle.spec_protocol_grammar.specs.Spelling.{Item, one, no, nothing, IsWord, Words, IsShallow, IsGreedy}
use Rattle.spec_protocol_grammar.specs.Refusals.{LeadsTo, Has, DeepAt}
use Rattle.spec_protocol_grammar.proofs.Same.{true-same, same-fits}
use Rattle.spec_protocol_grammar.proofs.Good.{Agree}

-- a word that an item wants
abbrev wanted : Option ℕ → Class → Word
wanted None c = record { number = 0; class = c }
wanted (Some n) c = record { number = n; class = c }

wanted_fits : (number : Option ℕ) (c : Class) → IsWord (wanted number c) number c
wanted_fits None c = same-fits c c (true-same c c refl)
wanted_fits (Some n) c = (refl, same-fits c c (true-same c c refl))

-- the words of these items, the first of which stands at `at`
abbrev laid : List Item → ℕ → Source
laid [] at n = record { number = 0; class = w.End }
laid (one l number c ∷ items) at n = cond (n == at) (wanted number c) (laid items (at + 1) n)
laid (no c ∷ items) at n = laid items at n
laid (nothing ∷ items) at n = laid items at n

laid_here : (number : Option ℕ) (c : Class) (other : Word) (at n : ℕ) → n ≡ at → cond (n == at) (wanted number c) other ≡ wanted number c
laid_here number c other at n e = ap (λ b. cond b (wanted number c) other) (eq-eqb n at e)

laid_later : (here other : Word) (at n : ℕ) → at < n → cond (n == at) here other ≡ other
laid_later here other at n e = by_test (n == at) refl where
  by_test : (b : Bool) → (n == at) ≡ b → cond (n == at) here other ≡ other
  by_test true q = absurd (omega (arith, eqb-true n at q))
  by_test false q = ap (λ b. cond b here other) q

pub has_later : (s : Source) (items : List Item) (at i : ℕ) → Has s at items i → at ≤ i
has_later s [] at i h = absurd h
has_later s (one l n c ∷ items) at i (f, inl e) = omega arith
has_later s (one l n c ∷ items) at i (f, inr h) = omega (arith, has_later s items (at + 1) i h)
has_later s (no c ∷ items) at i h = has_later s items at i h
has_later s (nothing ∷ items) at i h = absurd h

-- from here on the file is spelled as the items are
words_after : (t : Source) (items : List Item) (at : ℕ) (c : Class) → IsGreedy items c → ((n : ℕ) → at ≤ n → t n ≡ laid items at n) → (end : ℕ) × Words t at items end
words_after t [] at c g h = (at, refl)
words_after t (one l number d ∷ items) at c g h =
    let here : t at ≡ wanted number d = h at (omega arith) ∙ laid_here number d (laid items (at + 1) at) at at refl in
    let rest = words_after t items (at + 1) c g (λ n b. h n (omega arith) ∙ laid_later (wanted number d) (laid items (at + 1) n) at n (omega arith)) in
    (rest.0, (subst (λ (v : Word). IsWord v number d) (sym here) (wanted_fits number d), rest.1))
words_after t (no d ∷ items) at c g h = words_after t items at c g.1 h
words_after t (nothing ∷ items) at c g h = absurd g

-- up to here it has the words of another file
words_over : (s t : Source) (items : List Item) (at i : ℕ) (c : Class) → IsGreedy items c → Has s at items i → Agree s t i → ((n : ℕ) → i < n → t n ≡ laid items at n) → (end : ℕ) × Words t at items end
words_over s t [] at i c g h a b = absurd h
words_over s t (one l number d ∷ items) at i c g (f, inl e) a b =
    let here : t at ≡ s at = a at (omega arith) in
    let rest = words_after t items (at + 1) c g (λ n j. b n (omega arith) ∙ laid_later (wanted number d) (laid items (at + 1) n) at n (omega arith)) in
    (rest.0, (subst (λ (v : Word). IsWord v number d) (sym here) f, rest.1))
words_over s t (one l number d ∷ items) at i c g (f, inr h) a b =
    let here : t at ≡ s at = a at (omega (arith, has_later s items (at + 1) i h)) in
    let rest = words_over s t items (at + 1) i c g h a (λ n j. b n j ∙ laid_later (wanted number d) (laid items (at + 1) n) at n (omega (arith, has_later s items (at + 1) i h))) in
    (rest.0, (subst (λ (v : Word). IsWord v number d) (sym here) f, rest.1))
words_over s t (no d ∷ items) at i c g h a b = words_over s t items at i c g.1 h a b
words_over s t (nothing ∷ items) at i c g h a b = absurd h

-- the file that has the words of `s` up to `i`, and goes on as the items are spelled
pub over : Source → ℕ → List Item → Source
over s i items n = cond (nat_le n i) (s n) (laid items 0 n)

pub over_agrees : (s : Source) (i : ℕ) (items : List Item) → Agree s (over s i items) i
unfolding over
over_agrees s i items n h = ap (λ b. cond b (s n) (laid items 0 n)) (le-leb n i h)

over_later : (s : Source) (i : ℕ) (items : List Item) (n : ℕ) → i < n → over s i items n ≡ laid items 0 n
unfolding over
over_later s i items n h = ap (λ b. cond b (s n) (laid items 0 n)) (lt-leb n i h)

-- it is spelled so
pub over_words : (s : Source) (i : ℕ) (items : List Item) (c : Class) → IsGreedy items c → Has s 0 items i → (end : ℕ) × Words (over s i items) 0 items end
over_words s i items c g h = words_over s (over s i items) items 0 i c g h (over_agrees s i items) (over_later s i items)

-- what the words of a file are, up to a place

pub deep_has : (s : Source) (items : List Item) (at i j : ℕ) → at ≤ i → i ≤ j → DeepAt s at items j → Has s at items i
deep_has s [] at i j a b h = absurd h
deep_has s (one l n c ∷ items) at i j a b (f, inl e) = (f, inl (omega arith))
deep_has s (one l n c ∷ items) at i j a b (f, inr h) =
    elim (cases_lt at i) [ inl less ↦ (f, inr (deep_has s items (at + 1) i j (omega arith) b h.1)) | inr here ↦ (f, inl (omega arith)) ]
deep_has s (no c ∷ items) at i j a b h = deep_has s items at i j a b h
deep_has s (nothing ∷ items) at i j a b h = absurd h

pub leads_has : (s : Source) (items : List Item) (at i j : ℕ) → at ≤ j → j < i → LeadsTo s at items i → Has s at items j
leads_has s [] at i j a b h = absurd h
leads_has s (one l n c ∷ items) at i j a b (inl e) = absurd (omega arith)
leads_has s (one l n c ∷ items) at i j a b (inr h) =
    elim (cases_lt at j) [ inl less ↦ (h.0, inr (leads_has s items (at + 1) i j (omega arith) b h.2)) | inr here ↦ (h.0, inl (omega arith)) ]
leads_has s (no c ∷ items) at i j a b h = leads_has s items at i j a b h
leads_has s (nothing ∷ items) at i j a b h = absurd h

pub words_has : (s : Source) (items : List Item) (at end i : ℕ) → at ≤ i → i < end → Words s at items end → Has s at items i
words_has s [] at end i a b h = absurd (omega arith)
words_has s (one l n c ∷ items) at end i a b h =
    elim (cases_lt at i) [ inl less ↦ (h.0, inr (words_has s items (at + 1) end i (omega arith) b h.1)) | inr here ↦ (h.0, inl (omega arith)) ]
words_has s (no c ∷ items) at end i a b h = words_has s items at end i a b h
words_has s (nothing ∷ items) at end i a b h = absurd h

pub deep_has_last : (s : Source) (items : List Item) (at i : ℕ) → DeepAt s at items i → Has s at items i
deep_has_last s [] at i h = absurd h
deep_has_last s (one l n c ∷ items) at i (f, inl e) = (f, inl e.1)
deep_has_last s (one l n c ∷ items) at i (f, inr h) = (f, inr (deep_has_last s items (at + 1) i h.1))
deep_has_last s (no c ∷ items) at i h = deep_has_last s items at i h
deep_has_last s (nothing ∷ items) at i h = absurd h

pub deep_agree : (s t : Source) (items : List Item) (at i : ℕ) → Agree s t i → DeepAt s at items i → DeepAt t at items i
deep_agree s t [] at i a h = absurd h
deep_agree s t (one l n c ∷ items) at i a (f, inl e) =
    let here : at ≤ i = omega (arith, e.1) in
    (subst (λ (v : Word). IsWord v n c) (sym (a at here)) f, inl e)
deep_agree s t (one l n c ∷ items) at i a (f, inr h) =
    let here : at ≤ i = omega (arith, has_later s items (at + 1) i (deep_has_last s items (at + 1) i h.1)) in
    (subst (λ (v : Word). IsWord v n c) (sym (a at here)) f, inr (h.0, deep_agree s t items (at + 1) i a h.1))
deep_agree s t (no c ∷ items) at i a h = deep_agree s t items at i a h
deep_agree s t (nothing ∷ items) at i a h = absurd h

-- one word alone is the first that stands too deep
pub deep_one : (s : Source) (items : List Item) (at i j : ℕ) → DeepAt s at items i → DeepAt s at items j → i ≡ j
deep_one s [] at i j g h = absurd g
deep_one s (one l n c ∷ items) at i j (f, inl a) (k, inl b) = omega (arith, a.1, b.1)
deep_one s (one l n c ∷ items) at i j (f, inl a) (k, inr b) = absurd (omega (arith, a.0, b.0))
deep_one s (one l n c ∷ items) at i j (f, inr a) (k, inl b) = absurd (omega (arith, a.0, b.0))
deep_one s (one l n c ∷ items) at i j (f, inr a) (k, inr b) = deep_one s items (at + 1) i j a.1 b.1
deep_one s (no c ∷ items) at i j g h = deep_one s items at i j g h
deep_one s (nothing ∷ items) at i j g h = absurd g

pub deep_shallow : (s : Source) (items : List Item) (at i : ℕ) → IsShallow items → DeepAt s at items i → ⊥
deep_shallow s [] at i d h = h
deep_shallow s (one l n c ∷ items) at i d (f, inl a) = omega (arith, a.0, d.0)
deep_shallow s (one l n c ∷ items) at i d (f, inr a) = deep_shallow s items (at + 1) i d.1 a.1
deep_shallow s (no c ∷ items) at i d h = deep_shallow s items at i d h
deep_shallow s (nothing ∷ items) at i d h = h

-- nor does one that stands before a place that shallow words lead to
pub leads_shallow : (s t : Source) (items : List Item) (at i j : ℕ) → j < i → LeadsTo s at items i → DeepAt t at items j → ⊥
leads_shallow s t [] at i j b g h = h
leads_shallow s t (one l n c ∷ items) at i j b (inl e) (f, inl a) = omega (arith, a.1)
leads_shallow s t (one l n c ∷ items) at i j b (inl e) (f, inr a) = omega (arith, has_later t items (at + 1) j (deep_has_last t items (at + 1) j a.1))
leads_shallow s t (one l n c ∷ items) at i j b (inr g) (f, inl a) = omega (arith, a.0, g.1)
leads_shallow s t (one l n c ∷ items) at i j b (inr g) (f, inr a) = leads_shallow s t items (at + 1) i j b g.2 a.1
leads_shallow s t (no c ∷ items) at i j b g h = leads_shallow s t items at i j b g h
leads_shallow s t (nothing ∷ items) at i j b g h = h

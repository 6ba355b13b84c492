-- Items in a row, and the words of them.
use Rattle.std.proofs.Common.{◌≡◌, ◌≢◌, ℕ, ◌+◌, ◌≤◌, List, [], ◌∷◌, ◌++◌, refl, sym, subst, inl, inr, arith}
use Rattle.spec_protocol_grammar.specs.declared.class.Class.{Class}
use Rattle.spec_protocol_grammar.specs.Classes.{Source}
use Rattle.spec_protocol_grammar.specs.Spelling.{Item, one, no, nothing, Words, IsShallow, first_of, IsGreedy}
use Rattle.spec_protocol_grammar.specs.Refusals.{LeadsTo, DeepAt}

pub words-append : (s : Source) (a b : List Item) (at mid end : ℕ) → Words s at a mid → Words s mid b end → Words s at (a ++ b) end
words-append s [] b at mid end e h = subst (λ (k : ℕ). Words s k b end) (sym e) h
words-append s (one l n c ∷ a) b at mid end g h = (g.0, words-append s a b (at + 1) mid end g.1 h)
words-append s (no c ∷ a) b at mid end g h = words-append s a b at mid end g h
words-append s (nothing ∷ a) b at mid end g h = absurd g

pub words-split : (s : Source) (a b : List Item) (at end : ℕ) → Words s at (a ++ b) end → (mid : ℕ) × Words s at a mid × Words s mid b end
words-split s [] b at end h = (at, refl, h)
words-split s (one l n c ∷ a) b at end h =
    let r = words-split s a b (at + 1) end h.1 in
    (r.0, (h.0, r.1), r.2)
words-split s (no c ∷ a) b at end h = words-split s a b at end h
words-split s (nothing ∷ a) b at end h = absurd h

pub words_later : (s : Source) (a : List Item) (at end : ℕ) → Words s at a end → at ≤ end
words_later s [] at end h = omega arith
words_later s (one l n c ∷ a) at end h = omega (arith, words_later s a (at + 1) end h.1)
words_later s (no c ∷ a) at end h = words_later s a at end h
words_later s (nothing ∷ a) at end h = absurd h

pub shallow-append : (a b : List Item) → IsShallow a → IsShallow b → IsShallow (a ++ b)
shallow-append [] b g h = h
shallow-append (one l n c ∷ a) b g h = (g.0, shallow-append a b g.1 h)
shallow-append (no c ∷ a) b g h = shallow-append a b g h
shallow-append (nothing ∷ a) b g h = shallow-append a b g h

pub first_of-append : (a b : List Item) (c : Class) → first_of (a ++ b) c ≡ first_of a (first_of b c)
first_of-append [] b c = refl
first_of-append (one l n d ∷ a) b c = refl
first_of-append (no d ∷ a) b c = first_of-append a b c
first_of-append (nothing ∷ a) b c = first_of-append a b c

pub greedy-append : (a b : List Item) (c : Class) → IsGreedy a (first_of b c) → IsGreedy b c → IsGreedy (a ++ b) c
greedy-append [] b c g h = h
greedy-append (one l n d ∷ a) b c g h = greedy-append a b c g h
greedy-append (no d ∷ a) b c g h = (subst (λ (k : Class). d ≢ k) (sym (first_of-append a b c)) g.0, greedy-append a b c g.1 h)
greedy-append (nothing ∷ a) b c g h = absurd g

pub greedy-split : (a b : List Item) (c : Class) → IsGreedy (a ++ b) c → IsGreedy a (first_of b c) × IsGreedy b c
greedy-split [] b c h = (tt, h)
greedy-split (one l n d ∷ a) b c h = greedy-split a b c h
greedy-split (no d ∷ a) b c h =
    let r = greedy-split a b c h.1 in
    ((subst (λ (k : Class). d ≢ k) (first_of-append a b c) h.0, r.0), r.1)
greedy-split (nothing ∷ a) b c h = absurd h

pub leads_front : (s : Source) (a b : List Item) (at i : ℕ) → LeadsTo s at a i → LeadsTo s at (a ++ b) i
leads_front s [] b at i h = absurd h
leads_front s (one l n c ∷ a) b at i (inl e) = inl e
leads_front s (one l n c ∷ a) b at i (inr h) = inr (h.0, h.1, leads_front s a b (at + 1) i h.2)
leads_front s (no c ∷ a) b at i h = leads_front s a b at i h
leads_front s (nothing ∷ a) b at i h = absurd h

pub leads_behind : (s : Source) (a b : List Item) (at mid i : ℕ) → Words s at a mid → IsShallow a → LeadsTo s mid b i → LeadsTo s at (a ++ b) i
leads_behind s [] b at mid i e d h = subst (λ (k : ℕ). LeadsTo s k b i) (sym e) h
leads_behind s (one l n c ∷ a) b at mid i g d h = inr (g.0, d.0, leads_behind s a b (at + 1) mid i g.1 d.1 h)
leads_behind s (no c ∷ a) b at mid i g d h = leads_behind s a b at mid i g d h
leads_behind s (nothing ∷ a) b at mid i g d h = absurd g

pub leads_later : (s : Source) (a : List Item) (at i : ℕ) → LeadsTo s at a i → at ≤ i
leads_later s [] at i h = absurd h
leads_later s (one l n c ∷ a) at i (inl e) = omega arith
leads_later s (one l n c ∷ a) at i (inr h) = omega (arith, leads_later s a (at + 1) i h.2)
leads_later s (no c ∷ a) at i h = leads_later s a at i h
leads_later s (nothing ∷ a) at i h = absurd h

pub deep_front : (s : Source) (a b : List Item) (at i : ℕ) → DeepAt s at a i → DeepAt s at (a ++ b) i
deep_front s [] b at i h = absurd h
deep_front s (one l n c ∷ a) b at i (f, inl e) = (f, inl e)
deep_front s (one l n c ∷ a) b at i (f, inr h) = (f, inr (h.0, deep_front s a b (at + 1) i h.1))
deep_front s (no c ∷ a) b at i h = deep_front s a b at i h
deep_front s (nothing ∷ a) b at i h = absurd h

pub deep_behind : (s : Source) (a b : List Item) (at mid i : ℕ) → Words s at a mid → IsShallow a → DeepAt s mid b i → DeepAt s at (a ++ b) i
deep_behind s [] b at mid i e d h = subst (λ (k : ℕ). DeepAt s k b i) (sym e) h
deep_behind s (one l n c ∷ a) b at mid i g d h = (g.0, inr (d.0, deep_behind s a b (at + 1) mid i g.1 d.1 h))
deep_behind s (no c ∷ a) b at mid i g d h = deep_behind s a b at mid i g d h
deep_behind s (nothing ∷ a) b at mid i g d h = absurd g

pub deep_later : (s : Source) (a : List Item) (at i : ℕ) → DeepAt s at a i → at ≤ i
deep_later s [] at i h = absurd h
deep_later s (one l n c ∷ a) at i (f, inl e) = omega arith
deep_later s (one l n c ∷ a) at i (f, inr h) = omega (arith, deep_later s a (at + 1) i h.1)
deep_later s (no c ∷ a) at i h = deep_later s a at i h
deep_later s (nothing ∷ a) at i h = absurd h

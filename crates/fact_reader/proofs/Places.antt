-- Bytes at a place.
use Rattle.std.proofs.Common.{◌≡◌, ℕ, zero, suc, ◌+◌, ◌<◌, ◌≤◌, ◌==◌, if◌then◌else◌, ◌≢◌, true, false, List, [], ◌∷◌, length, drop, get_or, refl, sym, ◌∙◌, ap, arith}
use Rattle.std.proofs.lemmas.Bool.Decides.{nat_tests}
use Rattle.std.proofs.lemmas.List.{drop-drop}
use Rattle.spec_certificate_text.specs.Terms.{Syntax}
use Rattle.spec_certificate_text.specs.Outcomes.{Found, Faulty, front, read_fixed}
use Rattle.term_reader.proofs.Walk.{next_byte, all_dropped}

pub some_left : (bytes : List ℕ) (place : ℕ) → place < length bytes → drop place bytes ≢ []
some_left [] place below e = absurd (omega (arith, below))
some_left (b ∷ bytes) zero below e = absurd (cc)
some_left (b ∷ bytes) (suc place) below e = some_left bytes place (omega (arith, below)) e

pub front_there : (bytes : List ℕ) (at : ℕ) → at < length bytes → get_or bytes at 0 ≡ front (drop at bytes)
front_there bytes at below = sym (ap front (next_byte bytes at below))

pub front_end : (bytes : List ℕ) (at : ℕ) → length bytes ≤ at → 0 ≡ front (drop at bytes)
front_end bytes at past = sym (ap front (all_dropped bytes at past))

pub ruleset ends = (all_dropped, some_left)

-- behind the first byte
pub drop_next : (bytes : List ℕ) (at : ℕ) → drop 1 (drop at bytes) ≡ drop (at + 1) bytes
drop_next bytes at = drop-drop 1 at bytes

pub ruleset bytes = (front_there, front_end)

cons_step : (w : ℕ) (ws : List ℕ) (b : ℕ) (bs : List ℕ) (at : ℕ) → read_fixed (w ∷ ws) (b ∷ bs) at ≡ (if b == w then read_fixed ws bs (at + 1) else Faulty at Syntax)
unfolding read_fixed
cons_step w ws b bs at = refl

end_step : (w : ℕ) (ws : List ℕ) (at : ℕ) → read_fixed (w ∷ ws) [] at ≡ Faulty at Syntax
unfolding read_fixed
end_step w ws at = refl

done_step : (bs : List ℕ) (at : ℕ) → read_fixed [] bs at ≡ Found tt at bs
unfolding read_fixed
done_step bs at = refl

-- of a text i bytes are read, and reading goes on from here
pub record IsFixed (text bytes : List ℕ) (at i place : ℕ) : Type 0 where
  pub read : read_fixed (drop i text) (drop place bytes) place ≡ read_fixed text (drop at bytes) at
  pub within : place ≤ length bytes

at_both : (text bytes : List ℕ) (at i place : ℕ) → IsFixed text bytes at i place → i < length text → place < length bytes
    → read_fixed text (drop at bytes) at ≡ (if get_or bytes place 0 == get_or text i 0 then read_fixed (drop (i + 1) text) (drop (place + 1) bytes) (place + 1) else Faulty place Syntax)
at_both text bytes at i place going more below =
    sym going.read ∙ (ap (λ ws. read_fixed ws (drop place bytes) place) (next_byte text i more)
    ∙ (ap (λ bs. read_fixed (get_or text i 0 ∷ drop (i + 1) text) bs place) (next_byte bytes place below)
    ∙ cons_step (get_or text i 0) (drop (i + 1) text) (get_or bytes place 0) (drop (place + 1) bytes) place))

pub fixed_start : (text bytes : List ℕ) (at : ℕ) → at ≤ length bytes → IsFixed text bytes at 0 at
fixed_start text bytes at within = record { read = refl; within = within }

pub fixed_on : (text bytes : List ℕ) (at i place : ℕ) → IsFixed text bytes at i place → i < length text → place < length bytes → get_or bytes place 0 ≡ get_or text i 0 → IsFixed text bytes at (i + 1) (place + 1)
fixed_on text bytes at i place going more below is =
    let same : (get_or bytes place 0 == get_or text i 0) ≡ true = grind (arith, nat_tests) in
    record {
      read = sym (at_both text bytes at i place going more below ∙ ap (λ t. if t then read_fixed (drop (i + 1) text) (drop (place + 1) bytes) (place + 1) else Faulty place Syntax) same);
      within = omega arith;
    }

pub fixed_other : (text bytes : List ℕ) (at i place : ℕ) → IsFixed text bytes at i place → i < length text → place < length bytes → get_or bytes place 0 ≢ get_or text i 0 → read_fixed text (drop at bytes) at ≡ Faulty place Syntax
fixed_other text bytes at i place going more below isnt =
    let other : (get_or bytes place 0 == get_or text i 0) ≡ false = grind (arith, nat_tests) in
    at_both text bytes at i place going more below ∙ ap (λ t. if t then read_fixed (drop (i + 1) text) (drop (place + 1) bytes) (place + 1) else Faulty place Syntax) other

pub fixed_cut : (text bytes : List ℕ) (at i place : ℕ) → IsFixed text bytes at i place → i < length text → place ≡ length bytes → read_fixed text (drop at bytes) at ≡ Faulty place Syntax
fixed_cut text bytes at i place going more ends =
    sym going.read ∙ (ap (λ ws. read_fixed ws (drop place bytes) place) (next_byte text i more)
    ∙ (ap (λ bs. read_fixed (get_or text i 0 ∷ drop (i + 1) text) bs place) (all_dropped bytes place (omega arith))
    ∙ end_step (get_or text i 0) (drop (i + 1) text) place))

pub fixed_done : (text bytes : List ℕ) (at i place : ℕ) → IsFixed text bytes at i place → length text ≤ i → read_fixed text (drop at bytes) at ≡ Found tt place (drop place bytes)
fixed_done text bytes at i place going past =
    sym going.read ∙ (ap (λ ws. read_fixed ws (drop place bytes) place) (all_dropped text i past) ∙ done_step (drop place bytes) place)

pub ruleset fixed = (fixed_start, fixed_on, fixed_other, fixed_cut, fixed_done)

-- What comes of reading a tree of the grammar: it ends, or a fault is told before its end, and none of syntax.
use Rattle.std.proofs.Common.{◌≡◌, ◌≢◌, ℕ, ◌+◌, ◌≤◌, ◌⊎◌, inl, inr, Bool, true, false, ◌==◌, ◌&&◌, ◌||◌, List, [], ◌∷◌, ◌++◌, length, refl, ◌∙◌, ap, subst, arith, length-append}
use Rattle.std.proofs.lemmas.Bool.Decides.{nat_tests}
use Rattle.std.specs.List.{list_all}
use Rattle.spec_calculus.specs.Syntax.{Protocol}
use Rattle.spec_protocol_tokens.specs.Bytes.{begins_word, is_in_word}
use Rattle.spec_terms.specs.Term.{Term}
use Rattle.spec_certificate_text.specs.Spelled.{IsWord}
use Rattle.spec_certificate_text.proofs.Runs.{both_right}
use Rattle.spec_certificate_text.proofs.Apart.{no_word}
use Rattle.spec_certificate_text.specs.Terms.{Code, Syntax, Count, Open, Begins, InWord, Ended, Reading, Step, Goes, Fault}
use Rattle.spec_certificate_text.specs.Steps.{is_deep, goes, unless_deep, may_be_empty, closed, begin_term, at_begin, step}
use Rattle.spec_certificate_text.specs.Runs.{Refused, followed, read_on}
use Rattle.spec_certificate_faults.specs.TermFaults.{begins_term}
use Rattle.spec_certificate_text.proofs.Complete.{reading, goes_to, taken, passed, word_read}

pub either : {A B C : Type 0} → A ⊎ B → (A → C) → (B → C) → C
either (inl a) first second = first a
either (inr b) first second = second b

-- reading has come through bytes, up to the rest, with this reading
pub record Through (binds : Bool) (P : Protocol) (bytes : List ℕ) (at : ℕ) (r : Reading) (rest : List ℕ) (s : Reading) : Type 0 where
  pub place : ℕ
  pub is : read_on binds P bytes at r ≡ read_on binds P rest place s
  pub counted : place + length rest ≡ at + length bytes

-- a fault is told, which stands before the rest
pub record Stopped (binds : Bool) (P : Protocol) (bytes : List ℕ) (at : ℕ) (r : Reading) (rest : List ℕ) : Type 0 where
  pub place : ℕ
  pub code : Code
  pub is : read_on binds P bytes at r ≡ Refused place code
  pub early : place + length rest + 1 ≤ at + length bytes
  pub other : code ≢ Syntax

-- a term ends before the rest
pub record EndedAt (binds : Bool) (P : Protocol) (bytes : List ℕ) (at : ℕ) (r : Reading) (rest : List ℕ) (heads : List Open) : Type 0 where
  pub term : Term
  pub since : ℕ
  pub through : Through binds P bytes at r rest (reading heads (Ended term) since)

abbrev pub Comes : Bool → Protocol → List ℕ → ℕ → Reading → List ℕ → List Open → Type 0
Comes binds P bytes at r rest heads = Stopped binds P bytes at r rest ⊎ EndedAt binds P bytes at r rest heads

abbrev pub through_both : (binds : Bool) (P : Protocol) (bytes : List ℕ) (at : ℕ) (r : Reading) (mid : List ℕ) (s : Reading) (rest : List ℕ) (u : Reading) → (one : Through binds P bytes at r mid s) → Through binds P mid one.place s rest u → Through binds P bytes at r rest u
through_both binds P bytes at r mid s rest u one two = record { place = two.place; is = one.is ∙ two.is; counted = two.counted ∙ one.counted }

pub stopped_behind : (binds : Bool) (P : Protocol) (bytes : List ℕ) (at : ℕ) (r : Reading) (mid : List ℕ) (s : Reading) (rest : List ℕ) → (one : Through binds P bytes at r mid s) → Stopped binds P mid one.place s rest → Stopped binds P bytes at r rest
stopped_behind binds P bytes at r mid s rest one two = record { place = two.place; code = two.code; is = one.is ∙ two.is; early = omega (arith, two.early, one.counted); other = two.other }

pub stopped_sooner : (binds : Bool) (P : Protocol) (bytes : List ℕ) (at : ℕ) (r : Reading) (mid rest : List ℕ) → length rest ≤ length mid → Stopped binds P bytes at r mid → Stopped binds P bytes at r rest
stopped_sooner binds P bytes at r mid rest le one = record { place = one.place; code = one.code; is = one.is; early = omega (arith, one.early, le); other = one.other }

pub comes_behind : (binds : Bool) (P : Protocol) (bytes : List ℕ) (at : ℕ) (r : Reading) (mid : List ℕ) (s : Reading) (rest : List ℕ) (heads : List Open) → (one : Through binds P bytes at r mid s) → Comes binds P mid one.place s rest heads → Comes binds P bytes at r rest heads
comes_behind binds P bytes at r mid s rest heads one (inl two) = inl (stopped_behind binds P bytes at r mid s rest one two)
comes_behind binds P bytes at r mid s rest heads one (inr two) =
    inr record { term = two.term; since = two.since; through = through_both binds P bytes at r mid s rest (reading heads (Ended two.term) two.since) one two.through }

-- a step goes on, or tells a fault
pub one_byte : (binds : Bool) (P : Protocol) (b : ℕ) (rest : List ℕ) (at : ℕ) (r s : Reading) → step binds P at r b ≡ Goes s → Through binds P (b ∷ rest) at r rest s
one_byte binds P b rest at r s e = record { place = at + 1; is = goes_to binds P b rest at r s e; counted = omega arith }

pub halts : (binds : Bool) (P : Protocol) (b : ℕ) (bytes : List ℕ) (at : ℕ) (r : Reading) (rest : List ℕ) (place : ℕ) (code : Code) → step binds P at r b ≡ Fault place code → place + length rest + 1 ≤ at + length (b ∷ bytes) → code ≢ Syntax → Stopped binds P (b ∷ bytes) at r rest
halts binds P b bytes at r rest place code e early other = record { place = place; code = code; is = ap (followed (read_on binds P bytes (at + 1)) at (b ∷ bytes)) e; early = early; other = other }

-- `]` begins no term
pub begins_no_bracket : (b : ℕ) → begins_term b ≡ true → (b == 93) ≡ false
begins_no_bracket b begins = by (b == 93) refl
  where
    same : (b == 93) ≡ true → b ≡ 93
    same e = grind (arith, nat_tests)

    by : (bracket : Bool) → (b == 93) ≡ bracket → (b == 93) ≡ false
    by true is = let never : begins_term 93 ≡ true = subst (λ c. begins_term c ≡ true) (same is) begins in absurd (cc)
    by false isnt = isnt

-- the innermost symbol stands before the place
pub StandsBefore : List Open → ℕ → Type 0
StandsBefore [] at = Unit {0}
StandsBefore (o ∷ heads) at = o.place + 1 ≤ at

pub none_before : (at : ℕ) → StandsBefore [] at
unfolding StandsBefore
none_before at = tt

pub stands_before : (o : Open) (heads : List Open) (at : ℕ) → o.place + 1 ≤ at → StandsBefore (o ∷ heads) at
unfolding StandsBefore
stands_before o heads at le = le

-- a term is not too deep, or it is
pub deep_or : (heads : List Open) (from : ℕ) (s : Step) → (unless_deep heads from s ≡ s) ⊎ (unless_deep heads from s ≡ Fault from Count)
deep_or heads from s = by (is_deep heads) refl
  where
    by : (deep : Bool) → is_deep heads ≡ deep → (unless_deep heads from s ≡ s) ⊎ (unless_deep heads from s ≡ Fault from Count)
    by true deep = inr (taken (is_deep heads) (Fault from Count) s (Fault from Count) deep refl)
    by false room = inl (passed (is_deep heads) (Fault from Count) s s room refl)

-- where a term may begin, a byte other than `]` begins it, unless the innermost symbol is too deep
pub begins_or : (binds : Bool) (at : ℕ) (heads : List Open) (b : ℕ) → (b == 93) ≡ false → StandsBefore heads at → (at_begin binds at heads b ≡ begin_term binds at heads b) ⊎ ((place : ℕ) × (at_begin binds at heads b ≡ Fault place Count) × (place + 1 ≤ at))
unfolding StandsBefore
begins_or binds at [] b no_bracket before = inl refl
begins_or binds at (o ∷ heads) b no_bracket before =
    let begun = begin_term binds at (o ∷ heads) b in
    let stays : ((b == 93) && may_be_empty o.symbol o.arguments) ≡ false = ap (λ c. c && may_be_empty o.symbol o.arguments) no_bracket in
    either (deep_or heads o.place begun)
    (λ room. inl (passed ((b == 93) && may_be_empty o.symbol o.arguments) (closed o heads []) (unless_deep heads o.place begun) begun stays room))
    (λ deep. inr (o.place, passed ((b == 93) && may_be_empty o.symbol o.arguments) (closed o heads []) (unless_deep heads o.place begun) (Fault o.place Count) stays deep, before))

-- a word is read up to what follows it, or a fault is told that stands before it
pub word_through : (binds : Bool) (P : Protocol) (w k : List ℕ) (at : ℕ) (heads : List Open) (from : ℕ) → IsWord w → StandsBefore heads at → Stopped binds P (w ++ k) at (reading heads Begins from) (w ++ k) ⊎ Through binds P (w ++ k) at (reading heads Begins from) k (reading heads (InWord w) at)
word_through binds P [] k at heads from word before = absurd (no_word word)
word_through binds P (c ∷ w) k at heads from word before =
    let begun : begin_term binds at heads c ≡ goes heads (InWord (c ∷ [])) at = taken (begins_word c) (goes heads (InWord (c ∷ [])) at) _ _ word.begins refl in
    either (begins_or binds at heads c (begins_no_bracket c (ap (λ t. t || (c == 40) || (c == 64) || (c == 63)) word.begins)) before)
    (λ begins. inr record {
      place = at + 1 + length w;
      is = goes_to binds P c (w ++ k) at (reading heads Begins from) (reading heads (InWord (c ∷ [])) at) (begins ∙ begun)
          ∙ word_read binds P w (c ∷ []) k (at + 1) heads at (both_right (is_in_word c) (list_all is_in_word w) word.goes_on);
      counted = omega (arith, length-append w k);
    })
    (λ deep. inl (halts binds P c (w ++ k) at (reading heads Begins from) (c ∷ (w ++ k)) deep.0 Count deep.1 (omega (arith, deep.2)) (λ e. cc)))

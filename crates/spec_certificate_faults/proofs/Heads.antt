-- What stands before the arguments is read: its symbol is opened, or a fault is told.
use Rattle.std.proofs.Common.{Bool, ◌≡◌, ℕ, suc, ◌+◌, ◌-◌, ◌≤◌, ◌⊎◌, inl, inr, true, List, [], ◌∷◌, ◌++◌, length, Option, Some, None, refl, sym, ◌∙◌, ap, subst, arith, length-append, nat_le}
use Rattle.std.proofs.lemmas.Bool.Decides.{nat_tests}
use Rattle.spec_calculus.specs.Syntax.{Protocol}
use Rattle.spec_terms.specs.Term.{Sym, Ctor, Data, Tuple, Free, Point, Attacker}
use Rattle.spec_run_text.specs.Reading.{numeral}
use Rattle.spec_certificate_text.specs.Loose.{Head, Applied, Tupled, Made, Attackers, opening, closing}
use Rattle.spec_certificate_text.specs.Spelled.{IsWord, AreDigits}
use Rattle.spec_certificate_text.specs.Names.{Named, symbol_called, name_called}
use Rattle.spec_certificate_text.specs.Terms.{Number, Symbol, Count, Open, Begins, InWord, InDigits, AtBracket, Reading, Fault}
use Rattle.spec_certificate_text.specs.Steps.{goes, unless_deep, opened, closing_byte, may_close, may_go_on, may_be_empty, apply, after_point, after_number, step}
use Rattle.spec_certificate_text.proofs.Complete.{reading, digits_read, head_over}
use Rattle.spec_certificate_text.proofs.Named.{IsWorded, symbol_called_is, name_called_is}
use Rattle.spec_certificate_faults.specs.Grammar.{IsWritten, MayHave}
use Rattle.spec_certificate_faults.proofs.Comes.{either, Through, Stopped, through_both, stopped_behind, stopped_sooner, one_byte, halts, StandsBefore, deep_or, begins_or, word_through}

-- a symbol that is read of a head takes what may stand behind it
pub record IsLike (h : Head) (s : Sym) : Type 0 where
  pub closing_is : closing_byte s ≡ closing h
  pub comma : (n : ℕ) → MayHave h (suc (suc n)) → may_go_on s ≡ true
  pub closes : (n : ℕ) → MayHave h (suc n) → may_close s (suc n) ≡ true
  pub empty : MayHave h 0 → may_be_empty s [] ≡ true

two_parts : (n : ℕ) → 2 ≤ n → nat_le 2 n ≡ true
two_parts n le = grind (arith, nat_tests)

like_word : (w : List ℕ) (s : Sym) → IsWorded s → IsLike (Applied w) s
like_word w (Ctor f) is = record { closing_is = refl; comma = λ n may. refl; closes = λ n may. refl; empty = λ none. absurd (omega (arith, none)) }
like_word w (Data f) is = record { closing_is = refl; comma = λ n may. refl; closes = λ n may. refl; empty = λ none. absurd (omega (arith, none)) }
like_word w (Free a) is = record { closing_is = refl; comma = λ n may. refl; closes = λ n may. refl; empty = λ none. absurd (omega (arith, none)) }
like_word w (Tuple n) is = absurd is
like_word w (Point p) is = absurd is
like_word w Attacker is = absurd is

like_tuple : (n : ℕ) → IsLike Tupled (Tuple n)
like_tuple n = record { closing_is = refl; comma = λ m may. refl; closes = λ m may. two_parts (suc m) may; empty = λ none. absurd (omega (arith, none)) }

like_point : (w ds : List ℕ) (p : ℕ) → IsLike (Made w ds) (Point p)
like_point w ds p = record { closing_is = refl; comma = λ n may. refl; closes = λ n may. refl; empty = λ may. refl }

like_attacker : IsLike Attackers Attacker
like_attacker = record { closing_is = refl; comma = λ n may. absurd (omega (arith, may)); closes = λ n may. refl; empty = λ none. absurd (omega (arith, none)) }

-- the head is read, and its symbol opened
pub record Opened (binds : Bool) (P : Protocol) (h : Head) (inner : List ℕ) (at : ℕ) (heads : List Open) (from : ℕ) : Type 0 where
  pub named : Named
  pub like : IsLike h named.symbol
  pub through : Through binds P (opening h inner) at (reading heads Begins from) inner (reading (head_over named at [] ∷ heads) Begins at)

-- where it is not, a fault is told that stands before what follows
abbrev pub HeadRead : Bool → Protocol → Head → List ℕ → ℕ → List Open → ℕ → Type 0
HeadRead binds P h inner at heads from = Stopped binds P (opening h inner) at (reading heads Begins from) inner ⊎ Opened binds P h inner at heads from

-- the byte behind the head
opens_or : (binds : Bool) (P : Protocol) (b : ℕ) (inner : List ℕ) (place : ℕ) (r : Reading) (at : ℕ) (heads : List Open) (named : Named) → at ≤ place → step binds P place r b ≡ unless_deep heads at (opened heads named at)
    → Stopped binds P (b ∷ inner) place r inner ⊎ Through binds P (b ∷ inner) place r inner (reading (head_over named at [] ∷ heads) Begins at)
opens_or binds P b inner place r at heads named le e =
    either (deep_or heads at (opened heads named at))
    (λ room. inr (one_byte binds P b inner place r (reading (head_over named at [] ∷ heads) Begins at) (e ∙ room)))
    (λ deep. inl (halts binds P b inner place r inner at Count (e ∙ deep) (omega (arith, le)) (λ c. cc)))

-- what was read, and then the head's last byte
opens_behind : (binds : Bool) (P : Protocol) (h : Head) (inner : List ℕ) (at : ℕ) (heads : List Open) (from b : ℕ) (s : Reading) (named : Named) → IsLike h named.symbol → (one : Through binds P (opening h inner) at (reading heads Begins from) (b ∷ inner) s)
    → Stopped binds P (b ∷ inner) one.place s inner ⊎ Through binds P (b ∷ inner) one.place s inner (reading (head_over named at [] ∷ heads) Begins at) → HeadRead binds P h inner at heads from
opens_behind binds P h inner at heads from b s named like one two =
    let start = reading heads Begins from in
    let over = reading (head_over named at [] ∷ heads) Begins at in
    either two
    (λ stopped. inl (stopped_behind binds P (opening h inner) at start (b ∷ inner) s inner one stopped))
    (λ through. inr record { named = named; like = like; through = through_both binds P (opening h inner) at start (b ∷ inner) s inner over one through })

-- `w(`
applied_head : (binds : Bool) (P : Protocol) (w inner : List ℕ) (at : ℕ) (heads : List Open) (from : ℕ) → IsWord w → StandsBefore heads at → HeadRead binds P (Applied w) inner at heads from
applied_head binds P w inner at heads from word before =
    either (word_through binds P w (40 ∷ inner) at heads from word before)
    (λ stopped. inl (stopped_sooner binds P (w ++ (40 ∷ inner)) at (reading heads Begins from) (w ++ (40 ∷ inner)) inner (omega (arith, length-append w (40 ∷ inner))) stopped))
    (λ one. by one (symbol_called P w) refl)
  where
    by : (one : Through binds P (w ++ (40 ∷ inner)) at (reading heads Begins from) (40 ∷ inner) (reading heads (InWord w) at)) → (found : Option Named) → symbol_called P w ≡ found → HeadRead binds P (Applied w) inner at heads from
    by one None is =
        inl (stopped_behind binds P (w ++ (40 ∷ inner)) at (reading heads Begins from) (40 ∷ inner) (reading heads (InWord w) at) inner one
        (halts binds P 40 inner one.place (reading heads (InWord w) at) inner at Symbol (ap (apply heads at) is) (omega (arith, one.counted, length-append w (40 ∷ inner))) (λ c. cc)))
    by one (Some named) is =
        opens_behind binds P (Applied w) inner at heads from 40 (reading heads (InWord w) at) named (like_word w named.symbol (symbol_called_is P w named is).worded) one
        (opens_or binds P 40 inner one.place (reading heads (InWord w) at) at heads named (omega (arith, one.counted, length-append w (40 ∷ inner))) (ap (apply heads at) is))

-- `(`
tuple_head : (binds : Bool) (P : Protocol) (inner : List ℕ) (at : ℕ) (heads : List Open) (from : ℕ) → StandsBefore heads at → HeadRead binds P Tupled inner at heads from
tuple_head binds P inner at heads from before =
    let start = reading heads Begins from in
    let tuple : Named = record { symbol = Tuple 0; arity = 0 } in
    either (begins_or binds at heads 40 refl before)
    (λ begins. either (opens_or binds P 40 inner at start at heads tuple (omega arith) begins) (λ stopped. inl stopped) (λ through. inr record { named = tuple; like = like_tuple 0; through = through }))
    (λ deep. inl (halts binds P 40 inner at start inner deep.0 Count deep.1 (omega (arith, deep.2)) (λ c. cc)))

-- `@[`
attacker_head : (binds : Bool) (P : Protocol) (inner : List ℕ) (at : ℕ) (heads : List Open) (from : ℕ) → StandsBefore heads at → HeadRead binds P Attackers inner at heads from
attacker_head binds P inner at heads from before =
    let start = reading heads Begins from in
    let attacker : Named = record { symbol = Attacker; arity = 1 } in
    let over = reading (head_over attacker at [] ∷ heads) Begins at in
    either (begins_or binds at heads 64 refl before)
    (λ begins. either (deep_or heads at (goes heads AtBracket at))
    (λ room.
    let one = one_byte binds P 64 (91 ∷ inner) at start (reading heads AtBracket at) (begins ∙ room) in
    let two = one_byte binds P 91 inner one.place (reading heads AtBracket at) over refl in
    inr record { named = attacker; like = like_attacker; through = through_both binds P (64 ∷ 91 ∷ inner) at start (91 ∷ inner) (reading heads AtBracket at) inner over one two })
    (λ deep. inl (halts binds P 64 (91 ∷ inner) at start inner at Count (begins ∙ deep) (omega arith) (λ c. cc))))
    (λ deep. inl (halts binds P 64 (91 ∷ inner) at start inner deep.0 Count deep.1 (omega (arith, deep.2)) (λ c. cc)))

-- a word, `@` and digits are read, or a fault is told that stands before them
pub digits_through : (binds : Bool) (P : Protocol) (w ds k : List ℕ) (at : ℕ) (heads : List Open) (from : ℕ) → IsWord w → AreDigits ds → StandsBefore heads at
    → Stopped binds P (w ++ (64 ∷ (ds ++ k))) at (reading heads Begins from) (w ++ (64 ∷ (ds ++ k))) ⊎ Through binds P (w ++ (64 ∷ (ds ++ k))) at (reading heads Begins from) k (reading heads (InDigits w ds) at)
digits_through binds P w ds k at heads from word digits before =
    let start = reading heads Begins from in
    let behind = 64 ∷ (ds ++ k) in
    let bytes = w ++ behind in
    either (word_through binds P w behind at heads from word before)
    (λ stopped. inl stopped)
    (λ one.
    let two = one_byte binds P 64 (ds ++ k) one.place (reading heads (InWord w) at) (reading heads (InDigits w []) at) refl in
    let both = through_both binds P bytes at start behind (reading heads (InWord w) at) (ds ++ k) (reading heads (InDigits w []) at) one two in
    inr (through_both binds P bytes at start (ds ++ k) (reading heads (InDigits w []) at) k (reading heads (InDigits w ds) at) both
    record { place = both.place + length ds; is = digits_read binds P ds [] k both.place heads at w digits; counted = omega (arith, length-append ds k) }))

-- `w@d[`
made_head : (binds : Bool) (P : Protocol) (w : List ℕ) (d : ℕ) (ds inner : List ℕ) (at : ℕ) (heads : List Open) (from : ℕ) → IsWord w → AreDigits (d ∷ ds) → StandsBefore heads at → HeadRead binds P (Made w (d ∷ ds)) inner at heads from
made_head binds P w d ds inner at heads from word digits before =
    either (digits_through binds P w (d ∷ ds) (91 ∷ inner) at heads from word digits before)
    (λ stopped. inl (stopped_sooner binds P (opening (Made w (d ∷ ds)) inner) at (reading heads Begins from) (opening (Made w (d ∷ ds)) inner) inner (omega (arith, long)) stopped))
    (λ one. by one (numeral (d ∷ ds)) refl)
  where
    long : length (opening (Made w (d ∷ ds)) inner) ≡ length w + (1 + (1 + length ds + (1 + length inner)))
    long = omega (arith, length-append w (64 ∷ ((d ∷ ds) ++ (91 ∷ inner))), length-append (d ∷ ds) (91 ∷ inner))

    by_name : (one : Through binds P (opening (Made w (d ∷ ds)) inner) at (reading heads Begins from) (91 ∷ inner) (reading heads (InDigits w (d ∷ ds)) at)) → (point : ℕ) → numeral (d ∷ ds) ≡ Some point → (found : Option Named) → name_called P w point ≡ found → HeadRead binds P (Made w (d ∷ ds)) inner at heads from
    by_name one point number None is =
        inl (stopped_behind binds P (opening (Made w (d ∷ ds)) inner) at (reading heads Begins from) (91 ∷ inner) (reading heads (InDigits w (d ∷ ds)) at) inner one
        (halts binds P 91 inner one.place (reading heads (InDigits w (d ∷ ds)) at) inner at Symbol
        (ap (λ o. after_number P one.place heads at w (d ∷ ds) o 91) number ∙ ap (λ o. after_point one.place heads at o 91) is)
        (omega (arith, one.counted, long)) (λ c. cc)))
    by_name one point number (Some named) is =
        let called = name_called_is P w point named is in
        opens_behind binds P (Made w (d ∷ ds)) inner at heads from 91 (reading heads (InDigits w (d ∷ ds)) at) named
        (subst (IsLike (Made w (d ∷ ds))) (sym called.symbol) (like_point w (d ∷ ds) point)) one
        (inr (one_byte binds P 91 inner one.place (reading heads (InDigits w (d ∷ ds)) at) (reading (head_over named at [] ∷ heads) Begins at)
        (ap (λ o. after_number P one.place heads at w (d ∷ ds) o 91) number ∙ ap (λ o. after_point one.place heads at o 91) is)))

    by : (one : Through binds P (opening (Made w (d ∷ ds)) inner) at (reading heads Begins from) (91 ∷ inner) (reading heads (InDigits w (d ∷ ds)) at)) → (number : Option ℕ) → numeral (d ∷ ds) ≡ number → HeadRead binds P (Made w (d ∷ ds)) inner at heads from
    by one None is =
        let r = reading heads (InDigits w (d ∷ ds)) at in
        let no_number : step binds P one.place r 91 ≡ unless_deep heads at (Fault (one.place - length (d ∷ ds)) Number) = ap (λ o. after_number P one.place heads at w (d ∷ ds) o 91) is in
        inl (stopped_behind binds P (opening (Made w (d ∷ ds)) inner) at (reading heads Begins from) (91 ∷ inner) r inner one
        (either (deep_or heads at (Fault (one.place - length (d ∷ ds)) Number))
        (λ room. halts binds P 91 inner one.place r inner (one.place - length (d ∷ ds)) Number (no_number ∙ room) (omega (arith, one.counted, long)) (λ c. cc))
        (λ deep. halts binds P 91 inner one.place r inner at Count (no_number ∙ deep) (omega (arith, one.counted, long)) (λ c. cc))))
    by one (Some point) is = by_name one point is (name_called P w point) refl

pub head_read : (binds : Bool) (P : Protocol) (h : Head) (inner : List ℕ) (at : ℕ) (heads : List Open) (from : ℕ) → IsWritten h → StandsBefore heads at → HeadRead binds P h inner at heads from
head_read binds P (Applied w) inner at heads from is before = applied_head binds P w inner at heads from is before
head_read binds P Tupled inner at heads from is before = tuple_head binds P inner at heads from before
head_read binds P (Made w []) inner at heads from is before = absurd (let some = is.2 in omega (arith, some))
head_read binds P (Made w (d ∷ ds)) inner at heads from is before = made_head binds P w d ds inner at heads from is.0 is.1 before
head_read binds P Attackers inner at heads from is before = attacker_head binds P inner at heads from before

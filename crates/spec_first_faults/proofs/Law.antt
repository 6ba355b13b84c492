-- What is told by a reader that tells the first fault of a kind is the first fault.
use Rattle.std.proofs.Common.{◌≡◌, ℕ, ◌+◌, ◌≤◌, ◌⊎◌, inl, inr, List, [], ◌∷◌, ◌++◌, length, refl, sym, ◌∙◌, ap, subst, arith, append_assoc, length-append}
use Rattle.std.proofs.lemmas.List.{append-nil}
use Rattle.spec_certificate_text.specs.Terms.{Code, Syntax, Number, Symbol, Arity, Count, NodeOrder, NodeLarge}
use Rattle.spec_certificate_text.specs.Outcomes.{Outcome, Found, Faulty, Reader}
use Rattle.spec_reading_faults.proofs.Shared.{shares_behind}
use Rattle.spec_certificate_faults.specs.First.{Kind, NoneGoesOn, IsFault, StandsAt, code_number, NotAfter, IsFirstFault}
use Rattle.spec_certificate_faults.proofs.Comes.{either}
use Rattle.spec_certificate_faults.proofs.TermFirst.{is_longer, compare, first_is_one}
use Rattle.spec_first_faults.proofs.Tells.{Anything, Extends, IsPassed, SyntaxIn, StandsIn, ToldIt, TextRead, Tells}

same_told : {A : Type 0} (o : Outcome A) (p q : ℕ) (c d : Code) → o ≡ Faulty p c → o ≡ Faulty q d → (p ≡ q) × (c ≡ d)
same_told o p q c d one two = let same = sym one ∙ two in (cc, cc)

never_both : {A : Type 0} (o : Outcome A) (x : A) (p q : ℕ) (rest : List ℕ) (c : Code) → o ≡ Found x p rest → o ≡ Faulty q c → ⊥
never_both o x p q rest c one two = let same = sym one ∙ two in cc

text_no_syntax : {A : Type 0} {Last : Type 0} (o : Outcome A) (bytes : List ℕ) (at : ℕ) (rest : List ℕ) (place : ℕ) → TextRead Last o bytes at rest → o ≡ Faulty place Syntax → ⊥
text_no_syntax o bytes at rest place (inl finds) e = never_both o finds.value finds.place place rest Syntax finds.is e
text_no_syntax o bytes at rest place (inr stops) e = stops.other (same_told o stops.place place stops.code Syntax stops.is e).1

syntax_stops : {A : Type 0} {Last : Type 0} (K : Kind) (May : List ℕ → Type 0) (r : Reader A) → Tells Last K Anything May r → (before there : List ℕ) (at : ℕ) → r (before ++ there) at ≡ Faulty (at + length before) Syntax → NoneGoesOn K before there
syntax_stops K May r tells before [] at e = λ rest text. text_no_syntax (r before at) before at rest (at + length before) (tells.texts before rest at tt text) (ap (λ bs. r bs at) (sym (append-nil before)) ∙ e)
syntax_stops K May r tells before (b ∷ k) at e = λ other rest text.
    text_no_syntax (r (before ++ b ∷ other) at) (before ++ b ∷ other) at rest (at + length before) (tells.texts (before ++ b ∷ other) rest at tt text)
    (tells.local.fault (before ++ b ∷ k) (before ++ b ∷ other) at (length before) (at + length before) (shares_behind before b k other) refl e)

-- what is told stands there
fault_is : (K : Kind) (code : Code) (bytes there : List ℕ) → (K.Fault Syntax bytes there → ⊥) → K.Fault code bytes there → IsFault K code bytes there
fault_is K Syntax bytes there none stands = absurd (none stands)
fault_is K Number bytes there none stands = stands
fault_is K Symbol bytes there none stands = stands
fault_is K Arity bytes there none stands = stands
fault_is K Count bytes there none stands = stands
fault_is K NodeOrder bytes there none stands = stands
fault_is K NodeLarge bytes there none stands = stands

pub told_stands : {A : Type 0} {Last : Type 0} (K : Kind) (May : List ℕ → Type 0) (r : Reader A) → Tells Last K Anything May r → (bytes : List ℕ) (at place : ℕ) (code : Code) → r bytes at ≡ Faulty place code → StandsAt K bytes at place code
told_stands K May r tells bytes at place code e = by (tells.right bytes at place code tt e)
  where
    by : ((code ≡ Syntax) × SyntaxIn K bytes (at + length bytes) place) ⊎ StandsIn K bytes (at + length bytes) place code → StandsAt K bytes at place code
    by (inl (syntax, told)) =
        let to = told.to in
        let there : place ≡ at + length to.before = omega (arith, told.counted, ap length to.text, length-append to.before told.there) in
        subst (StandsAt K bytes at place) (sym syntax) record {
          there = told.there;
          is = record {
            before = to.before;
            text = to.text;
            other = to.extends.other;
            rest = to.extends.rest;
            goes_on = to.extends.is;
            stops = syntax_stops K May r tells to.before told.there at (ap (λ bs. r bs at) (sym to.text) ∙ (e ∙ (ap (Faulty place) syntax ∙ ap (λ p. Faulty p Syntax) there)));
          };
          counted = told.counted;
        }
    by (inr stands) = record { there = stands.there; is = fault_is K code bytes stands.there (tells.forms.other_codes bytes stands.there) stands.is; counted = stands.counted }

-- Where a fault of syntax stands, a fault is told that does not stand after it.

no_longer : (K : Kind) (before there longer behind : List ℕ) → before ++ there ≡ longer ++ behind → length before + 1 ≤ length longer → NoneGoesOn K before there → Extends K longer → ⊥
no_longer K before there longer behind e long stops extends =
    let cut = is_longer before longer there behind e long in
    let none : (others end : List ℕ) → K.Text (before ++ cut.0 ∷ others) end → ⊥ = subst (NoneGoesOn K before) cut.3 stops in
    none (cut.1 ++ extends.other) extends.rest (subst (λ bs. K.Text bs extends.rest) (ap (λ bs. bs ++ extends.other) cut.2 ∙ append_assoc before (cut.0 ∷ cut.1) extends.other) extends.is)

no_text : (K : Kind) (before there rest : List ℕ) → NoneGoesOn K before there → K.Text (before ++ there) rest → ⊥
no_text K before [] rest stops is = stops rest (subst (λ bs. K.Text bs rest) (append-nil before) is)
no_text K before (b ∷ k) rest stops is = stops k rest is

syntax_early : {A : Type 0} {Last : Type 0} (K : Kind) (May : List ℕ → Type 0) (r : Reader A) → Tells Last K Anything May r → (before there : List ℕ) (at place : ℕ) (code : Code) → NoneGoesOn K before there → SyntaxIn K (before ++ there) (at + length (before ++ there)) place → at + length before + 1 ≤ place → ⊥
syntax_early K May r tells before there at place code stops told late =
    let to = told.to in
    no_longer K before there to.before told.there to.text (omega (arith, late, told.counted, ap length to.text, length-append to.before told.there)) stops to.extends

other_early : {A : Type 0} {Last : Type 0} (K : Kind) (May : List ℕ → Type 0) (r : Reader A) → Tells Last K Anything May r → (before there : List ℕ) (at place : ℕ) (code : Code) → NoneGoesOn K before there → StandsIn K (before ++ there) (at + length (before ++ there)) place code → at + length before ≤ place → ⊥
other_early {A} {Last} K May r tells before there at place code stops stands late = by (tells.forms.past code (before ++ there) stands.there stands.is)
  where
    by : IsPassed Last K (before ++ there) stands.there → ⊥
    by (inl past) =
        let longer = past.before ++ past.first ∷ [] in
        let text : before ++ there ≡ longer ++ past.later = past.text ∙ (ap (λ bs. past.before ++ bs) past.begins ∙ sym (append_assoc past.before (past.first ∷ []) past.later)) in
        let long : length before + 1 ≤ length longer = omega (arith, late, stands.counted, ap length past.text, length-append past.before stands.there, length-append past.before (past.first ∷ [])) in
        no_longer K before there longer past.later text long stops past.extends
    by (inr ends) = no_text K before there ends.1.rest stops ends.1.is

syntax_told : {A : Type 0} {Last : Type 0} (K : Kind) (May : List ℕ → Type 0) (r : Reader A) → Tells Last K Anything May r → (before there : List ℕ) (at : ℕ) → NoneGoesOn K before there → ToldIt (r (before ++ there) at) (before ++ there) at there Syntax
syntax_told {A} K May r tells before there at stops = by (r (before ++ there) at) refl
  where
    by_place : (place : ℕ) (code : Code) → r (before ++ there) at ≡ Faulty place code → (place + 1 ≤ at + length before) ⊎ ((place ≡ at + length before) ⊎ (at + length before + 1 ≤ place))
        → ((code ≡ Syntax) × SyntaxIn K (before ++ there) (at + length (before ++ there)) place) ⊎ StandsIn K (before ++ there) (at + length (before ++ there)) place code → ToldIt (r (before ++ there) at) (before ++ there) at there Syntax
    by_place place code e (inl less) kind = record { place = place; told = code; is = e; not_after = inl (omega (arith, less, length-append before there)) }
    by_place place code e (inr (inl same)) (inl syntax) = record { place = place; told = code; is = e; not_after = inr (omega (arith, same, length-append before there), omega (arith, ap code_number syntax.0)) }
    by_place place code e (inr (inr more)) (inl syntax) = absurd (syntax_early K May r tells before there at place code stops syntax.1 more)
    by_place place code e (inr late) (inr stands) =
        absurd (other_early K May r tells before there at place code stops stands (either late (λ same. omega (arith, same)) (λ more. omega (arith, more))))

    by : (o : Outcome A) → r (before ++ there) at ≡ o → ToldIt (r (before ++ there) at) (before ++ there) at there Syntax
    by (Found x place rest) e = absurd (no_text K before there rest stops (tells.found (before ++ there) at place x rest tt e))
    by (Faulty place code) e = by_place place code e (compare place (at + length before)) (tells.right (before ++ there) at place code tt e)

any_told : {A : Type 0} {Last : Type 0} (K : Kind) (May : List ℕ → Type 0) (r : Reader A) → Tells Last K Anything May r → (code : Code) (bytes there : List ℕ) (at : ℕ) → IsFault K code bytes there → ToldIt (r bytes at) bytes at there code
any_told K May r tells Syntax bytes there at is = subst (λ bs. ToldIt (r bs at) bs at there Syntax) (sym is.text) (syntax_told K May r tells is.before there at is.stops)
any_told K May r tells Number bytes there at is = tells.told Number bytes there at tt is
any_told K May r tells Symbol bytes there at is = tells.told Symbol bytes there at tt is
any_told K May r tells Arity bytes there at is = tells.told Arity bytes there at tt is
any_told K May r tells Count bytes there at is = tells.told Count bytes there at tt is
any_told K May r tells NodeOrder bytes there at is = tells.told NodeOrder bytes there at tt is
any_told K May r tells NodeLarge bytes there at is = tells.told NodeLarge bytes there at tt is

-- the fault that is told does not stand after another
record TellsFirst {A : Type 0} (o : Outcome A) (other : ℕ) (another : Code) : Type 0 where
  place : ℕ
  code : Code
  is : o ≡ Faulty place code
  first : NotAfter place code other another

tells_first : {A : Type 0} {Last : Type 0} (K : Kind) (May : List ℕ → Type 0) (r : Reader A) → Tells Last K Anything May r → (bytes : List ℕ) (at other : ℕ) (another : Code) → StandsAt K bytes at other another → TellsFirst (r bytes at) other another
tells_first K May r tells bytes at other another stands =
    let told = any_told K May r tells another bytes stands.there at stands.is in
    record {
      place = told.place;
      code = told.told;
      is = told.is;
      first = either told.not_after (λ early. inl (omega (arith, early, stands.counted))) (λ same. inr (omega (arith, same.0, stands.counted), same.1));
    }

pub told_is_first : {A : Type 0} {Last : Type 0} (K : Kind) (May : List ℕ → Type 0) (r : Reader A) → Tells Last K Anything May r → (bytes : List ℕ) (at place : ℕ) (code : Code) → r bytes at ≡ Faulty place code → IsFirstFault K bytes at place code
told_is_first K May r tells bytes at place code e = record {
  stands = told_stands K May r tells bytes at place code e;
  first = λ other another stands.
      let told = tells_first K May r tells bytes at other another stands in
      let same = same_told (r bytes at) told.place place told.code code told.is e in
      subst (λ c. NotAfter place c other another) same.1 (subst (λ p. NotAfter p told.code other another) same.0 told.first);
}

pub first_is_told : {A : Type 0} {Last : Type 0} (K : Kind) (May : List ℕ → Type 0) (r : Reader A) → Tells Last K Anything May r → (bytes : List ℕ) (at place : ℕ) (code : Code) → IsFirstFault K bytes at place code → r bytes at ≡ Faulty place code
first_is_told K May r tells bytes at place code is =
    let told = tells_first K May r tells bytes at place code is.stands in
    let same = first_is_one K bytes at told.place place told.code code (told_is_first K May r tells bytes at told.place told.code told.is) is in
    told.is ∙ (ap (λ p. Faulty p told.code) same.0 ∙ ap (Faulty place) same.1)

pub found_has_none : {A : Type 0} {Last : Type 0} (K : Kind) (May : List ℕ → Type 0) (r : Reader A) → Tells Last K Anything May r → (bytes : List ℕ) (at place : ℕ) (x : A) (rest : List ℕ) → r bytes at ≡ Found x place rest → (other : ℕ) (another : Code) → StandsAt K bytes at other another → ⊥
found_has_none K May r tells bytes at place x rest e other another stands =
    let told = tells_first K May r tells bytes at other another stands in
    never_both (r bytes at) x place told.place rest told.code e told.is

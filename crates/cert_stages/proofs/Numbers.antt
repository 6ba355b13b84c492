-- The numbers beside the clauses of a certificate.
use Rattle.std.proofs.Common.{◌≡◌, ◌∙◌, ◌⊎◌, ℕ, zero, suc, ◌+◌, ◌<◌, ◌≤◌, Bool, true, false, Some, None, List, [], ◌∷◌, ◌++◌, length, drop, add-one, append_assoc, refl, ap, sym, subst, inl, inr, arith}
use Rattle.std.specs.Prelude.{Option, ◌↔◌, IsTrue, not, slice_get, option_map}
use Rattle.std.proofs.Math.Seq.{drop-nil}
use Rattle.std.proofs.lemmas.List.{append-nil, drop_all}
use Rattle.spec_terms.specs.Term.{Term}
use Rattle.spec_terms.proofs.Replace.{some_same, some_none}
use Rattle.spec_clauses.specs.Fact.{Fact, Clause}
use Rattle.spec_clauses.specs.Selection.{Selection, is_selectable, behind}
use Rattle.spec_derivations.specs.Choice.{at_place, IsRight, number_of}
use Rattle.spec_certificates.specs.Certificate.{Numbered, number_beside, numbers_for}
use Rattle.cert_stages.specs.Answers.{AreRight, FirstWrong}
use Rattle.cert_stages.specs.Numbers.{said_at, number_for}

-- what is chosen at a place stands there
pub chosen_there : (hs : List (Fact Term)) (k : ℕ) (at : Selection) → at_place hs k ≡ Some at → slice_get hs k ≡ Some at.fact
chosen_there [] k at e = cc
chosen_there (h ∷ hs) zero at e =
    let first : Selection = record { index = 0; fact = h; others = hs } in
    let same : first ≡ at = cc in ap (λ (a : Selection). Some a.fact) same
chosen_there (h ∷ hs) (suc k) at e = go (at_place hs k) (chosen_there hs k) e
  where
    go : (o : Option Selection) → ((b : Selection) → o ≡ Some b → slice_get hs k ≡ Some b.fact) → option_map (behind h) o ≡ Some at → slice_get hs k ≡ Some at.fact
    go None there e = cc
    go (Some b) there e = let same : behind h b ≡ at = cc in there b refl ∙ ap (λ (a : Selection). Some a.fact) same

-- a number at a place is positive, or 0
pub number_positive : (numbers : List ℕ) (k number : ℕ) → slice_get numbers k ≡ Some number → 0 < number → (at : ℕ) × (slice_get numbers k ≡ Some (suc at))
number_positive numbers k zero there positive = absurd (omega (arith, positive))
number_positive numbers k (suc at) there positive = (at, there)

pub number_zero : (numbers : List ℕ) (k number : ℕ) → slice_get numbers k ≡ Some number → number ≤ 0 → slice_get numbers k ≡ Some 0
number_zero numbers k zero there none = there
number_zero numbers k (suc at) there none = absurd (omega (arith, none))

-- numbers that are looked at in order
pub record AreLooked (numbers : List ℕ) (cs ahead : List Numbered) : Type 0 where
  pub right : AreRight numbers ahead → AreRight numbers cs
  pub wrong : (number : ℕ) → FirstWrong numbers ahead number → FirstWrong numbers cs number

module _ (numbers : List ℕ) (cs : List Numbered) where
  pub looking_begins : AreLooked numbers cs cs
  looking_begins = record { right = λ x. x; wrong = λ number x. x }

  pub looking_goes_on : (ahead behind : List Numbered) (c : Numbered) → ahead ≡ c ∷ behind → IsRight c.clause (number_beside numbers c) → AreLooked numbers cs ahead → AreLooked numbers cs behind
  looking_goes_on ahead behind c e right l = record {
    right = λ x. l.right (subst (AreRight numbers) (sym e) (right, x));
    wrong = λ number x. l.wrong number (subst (λ a. FirstWrong numbers a number) (sym e) (inr (right, x)));
  }

  pub looking_fails : (ahead behind : List Numbered) (c : Numbered) → ahead ≡ c ∷ behind → (IsRight c.clause (number_beside numbers c) → ⊥) → AreLooked numbers cs ahead → FirstWrong numbers cs c.number
  looking_fails ahead behind c e never l = l.wrong c.number (subst (λ a. FirstWrong numbers a c.number) (sym e) (inl (never, refl)))

  pub looking_ends : (ahead : List Numbered) → ahead ≡ [] → AreLooked numbers cs ahead → AreRight numbers cs
  looking_ends ahead e l = l.right (subst (AreRight numbers) (sym e) tt)

-- Whether a clause may rest, and what can be chosen of it.
neither : (false ≡ true) ⊎ (true ≡ false) → ⊥
neither (inl e) = cc
neither (inr e) = cc

-- one that isn't solved rests where it doesn't conclude `att` of a variable
pub unsolved_rests : (solved known is : Bool) → solved ≡ false → known ≡ is → IsTrue (not known) ↔ ((solved ≡ true) ⊎ (is ≡ false))
unsolved_rests true known is e same = cc
unsolved_rests false true true e same = (λ t. cc, λ rests. absurd (neither rests))
unsolved_rests false true false e same = cc
unsolved_rests false false true e same = cc
unsolved_rests false false false e same = (λ t. inr refl, λ rests. refl)

-- the number of what is selected, where its place is told
pub number_none : (o : Option Selection) → option_map (λ (at : Selection). at.index) o ≡ None → 0 ≡ number_of o
number_none None e = refl
number_none (Some at) e = cc

pub number_some : (o : Option Selection) (place : ℕ) → option_map (λ (at : Selection). at.index) o ≡ Some place → place + 1 ≡ number_of o
number_some None place e = cc
number_some (Some at) place e = let same : at.index ≡ place = some_same e in omega (arith, same)

there_chosen : (hs : List (Fact Term)) (k : ℕ) (f : Fact Term) → slice_get hs k ≡ Some f → (at : Selection) × (at_place hs k ≡ Some at) × (at.fact ≡ f)
there_chosen [] k f e = cc
there_chosen (h ∷ hs) zero f e = (record { index = 0; fact = h; others = hs }, refl, some_same e)
there_chosen (h ∷ hs) (suc k) f e =
    let (at, there, same) = there_chosen hs k f e in
    (behind h at, ap (option_map (behind h)) there, same)

module _ (c : Clause Term) (k : ℕ) where
  pub nothing_there : slice_get c.hypotheses k ≡ None → IsRight c (suc k) → ⊥
  nothing_there none (at, there, selectable) = some_none (sym (chosen_there c.hypotheses k at there) ∙ none)

  pub right_there : (f : Fact Term) → slice_get c.hypotheses k ≡ Some f → is_selectable f ≡ true → IsRight c (suc k)
  right_there f e selectable =
      let (at, there, same) = there_chosen c.hypotheses k f e in
      (at, there, ap is_selectable same ∙ selectable)

  pub selectable_there : (f : Fact Term) → slice_get c.hypotheses k ≡ Some f → IsRight c (suc k) → is_selectable f ≡ true
  selectable_there f e (at, there, selectable) = ap is_selectable (some_same (sym e ∙ chosen_there c.hypotheses k at there)) ∙ selectable

-- The numbers by what is said, clause by clause.
pub said_there : (said : List (Option ℕ)) (k : ℕ) (number : Option ℕ) → slice_get said k ≡ Some number → number ≡ said_at said k
said_there [] k number e = cc
said_there (n ∷ said) zero number e = sym (some_same e)
said_there (n ∷ said) (suc k) number e = said_there said k number e

pub said_nowhere : (said : List (Option ℕ)) (k : ℕ) → length said ≤ k → None ≡ said_at said k
said_nowhere [] k past = refl
said_nowhere (n ∷ said) zero past = absurd (omega (arith, past))
said_nowhere (n ∷ said) (suc k) past = said_nowhere said k (omega (arith, past))

first_number : (c : Clause Term) (cs : List (Clause Term)) (said : List (Option ℕ)) → numbers_for (c ∷ cs) said ≡ number_for c (said_at said 0) ∷ numbers_for cs (drop 1 said)
first_number c cs [] = refl
first_number c cs (None ∷ said) = refl
first_number c cs (Some n ∷ said) = refl

nothing : (k : ℕ) → None ≡ said_at [] k
nothing zero = refl
nothing (suc k) = refl

pub number_ahead : (cs : List (Clause Term)) (said : List (Option ℕ)) (k : ℕ) (c : Clause Term) → slice_get cs k ≡ Some c → numbers_for (drop k cs) (drop k said) ≡ number_for c (said_at said k) ∷ numbers_for (drop (suc k) cs) (drop (suc k) said)
number_ahead [] said k c e = cc
number_ahead (d ∷ cs) said zero c e = first_number d cs said ∙ ap (λ (x : Clause Term). number_for x (said_at said 0) ∷ numbers_for cs (drop 1 said)) (some_same e)
number_ahead (d ∷ cs) [] (suc k) c e =
    ap (numbers_for (drop k cs)) (sym (drop-nil k))
    ∙ (number_ahead cs [] k c e ∙ ap (λ n. number_for c n ∷ numbers_for (drop (suc k) cs) []) (sym (nothing k)))
number_ahead (d ∷ cs) (n ∷ said) (suc k) c e = number_ahead cs said k c e

-- the numbers so far, and those of the clauses that are ahead
abbrev pub AreNumbered : List (Clause Term) → List (Option ℕ) → ℕ → List ℕ → Type 0
AreNumbered cs said k numbers = numbers ++ numbers_for (drop k cs) (drop k said) ≡ numbers_for cs said

module _ (cs : List (Clause Term)) (said : List (Option ℕ)) (k : ℕ) (numbers : List ℕ) (was : AreNumbered cs said k numbers) where
  pub numbered_on : (c : Clause Term) (new : List ℕ) (number : ℕ) → slice_get cs k ≡ Some c → number ≡ number_for c (said_at said k) → new ≡ numbers ++ number ∷ [] → AreNumbered cs said (k + 1) new
  numbered_on c new number there is more =
      let behind = numbers_for (drop (suc k) cs) (drop (suc k) said) in
      let next : new ++ behind ≡ numbers_for cs said =
      ap (λ l. l ++ behind) more
      ∙ (append_assoc numbers (number ∷ []) behind
      ∙ (ap (λ n. numbers ++ n ∷ behind) is
      ∙ (ap (λ l. numbers ++ l) (sym (number_ahead cs said k c there)) ∙ was))) in
      subst (λ n. AreNumbered cs said n new) (sym (add-one k)) next

  pub numbered_all : length cs ≤ k → numbers ≡ numbers_for cs said
  numbered_all past = sym (append-nil numbers) ∙ (ap (λ l. numbers ++ numbers_for l (drop k said)) (sym (drop_all k cs past)) ∙ was)

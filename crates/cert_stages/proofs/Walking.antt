-- A walk along clauses, or along pairs, and along rows: what comes of what is still ahead comes of all.
use Rattle.std.proofs.Common.{◌≡◌, ◌∙◌, ℕ, zero, suc, ◌+◌, ◌≤◌, Bool, true, false, Some, List, [], ◌∷◌, ◌++◌, length, drop, refl, ap, sym, subst, inl, inr, arith}
use Rattle.std.specs.Prelude.{slice_get, filter}
use Rattle.std.proofs.lemmas.List.{drop-drop}
use Rattle.spec_terms.specs.Term.{Term}
use Rattle.spec_clauses.specs.Fact.{Clause}
use Rattle.spec_certificates.specs.Certificate.{Numbered, numbered_from, Pair}
use Rattle.spec_certificates.specs.Ruling.{Ruling}
use Rattle.cert_stages.specs.Stages.{Shows, NextShows, AreShown, FirstUnshown, AreClosed, FirstOpen, HasShape, AreInShape, FirstMisshapen}

-- a clause with its number
abbrev pub with_number : ℕ → Clause Term → Numbered
with_number n c = record { number = n; clause = c }

-- the clause at a place is ahead there, and nothing is at the end
pub clause_ahead : (n : ℕ) (cs : List (Clause Term)) (k : ℕ) (c : Clause Term) → slice_get cs k ≡ Some c → drop k (numbered_from n cs) ≡ with_number (n + k) c ∷ drop (suc k) (numbered_from n cs)
clause_ahead n [] k c e = cc
clause_ahead n (d ∷ cs) zero c e = let same : d ≡ c = cc in let here : n ≡ n + 0 = omega arith in cc
clause_ahead n (d ∷ cs) (suc k) c e =
    let number : (n + 1) + k ≡ n + suc k = omega arith in
    clause_ahead (n + 1) cs k c e ∙ ap (λ m. with_number m c ∷ drop (suc k) (numbered_from (n + 1) cs)) number

pub clause_at_place : (n : ℕ) (cs : List (Clause Term)) (k : ℕ) (c : Clause Term) → slice_get cs k ≡ Some c → slice_get (numbered_from n cs) k ≡ Some (with_number (n + k) c)
clause_at_place n [] k c e = cc
clause_at_place n (d ∷ cs) zero c e = let same : d ≡ c = cc in let here : n ≡ n + 0 = omega arith in cc
clause_at_place n (d ∷ cs) (suc k) c e =
    let number : (n + 1) + k ≡ n + suc k = omega arith in
    clause_at_place (n + 1) cs k c e ∙ ap (λ m. Some (with_number m c)) number

pub none_ahead : (n : ℕ) (cs : List (Clause Term)) (k : ℕ) → length cs ≤ k → drop k (numbered_from n cs) ≡ []
none_ahead n [] zero past = refl
none_ahead n [] (suc k) past = refl
none_ahead n (c ∷ cs) zero past = absurd (omega (arith, past))
none_ahead n (c ∷ cs) (suc k) past = none_ahead (n + 1) cs k (omega (arith, past))

next_row : (rows : List (List ℕ)) (next : ℕ) → drop 1 (drop next rows) ≡ drop (next + 1) rows
next_row rows next = drop-drop 1 next rows

-- rows that show something of clauses: of these are still ahead, with the rows from the second place on
pub record IsWalked (S : Shows) (cs : List Numbered) (rows : List (List ℕ)) (from : ℕ) (ahead : List Numbered) (next : ℕ) : Type 0 where
  pub shown : (left : List (List ℕ)) → AreShown S ahead (drop next rows) left → AreShown S cs (drop from rows) left
  pub unshown : (number : ℕ) → FirstUnshown S ahead (drop next rows) number → FirstUnshown S cs (drop from rows) number

module _ (S : Shows) (cs : List Numbered) (rows : List (List ℕ)) (from : ℕ) where
  pub walk_begins : IsWalked S cs rows from cs from
  walk_begins = record { shown = λ left x. x; unshown = λ number x. x }

  pub walk_goes_on : (ahead behind : List Numbered) (next : ℕ) (c : Numbered) → ahead ≡ c ∷ behind → NextShows S (drop next rows) c.clause → IsWalked S cs rows from ahead next → IsWalked S cs rows from behind (next + 1)
  walk_goes_on ahead behind next c e shows w = record {
    shown = λ left x. w.shown left (subst (λ a. AreShown S a (drop next rows) left) (sym e) (shows, subst (λ r. AreShown S behind r left) (sym (next_row rows next)) x));
    unshown = λ number x. w.unshown number (subst (λ a. FirstUnshown S a (drop next rows) number) (sym e) (inr (shows, subst (λ r. FirstUnshown S behind r number) (sym (next_row rows next)) x)));
  }

  pub walk_fails : (ahead behind : List Numbered) (next : ℕ) (c : Numbered) → ahead ≡ c ∷ behind → (NextShows S (drop next rows) c.clause → ⊥) → IsWalked S cs rows from ahead next → FirstUnshown S cs (drop from rows) c.number
  walk_fails ahead behind next c e never w = w.unshown c.number (subst (λ a. FirstUnshown S a (drop next rows) c.number) (sym e) (inl (never, refl)))

  pub walk_ends : (ahead : List Numbered) (next : ℕ) → ahead ≡ [] → IsWalked S cs rows from ahead next → AreShown S cs (drop from rows) (drop next rows)
  walk_ends ahead next e w = w.shown (drop next rows) (subst (λ a. AreShown S a (drop next rows) (drop next rows)) (sym e) refl)

-- of clauses that are sought out
pub sought_ahead : (p : Numbered → Bool) (cs behind : List Numbered) (c : Numbered) → cs ≡ c ∷ behind → p c ≡ true → filter p cs ≡ c ∷ filter p behind
sought_ahead p cs behind c e passes = ap (filter p) e ∙ rw passes refl

pub passed_over : (p : Numbered → Bool) (cs behind : List Numbered) (c : Numbered) → cs ≡ c ∷ behind → p c ≡ false → filter p cs ≡ filter p behind
passed_over p cs behind c e fails = ap (filter p) e ∙ rw fails refl

-- pairs and their rows
closed_append : (clauses : List (Clause Term)) (ps more : List Pair) (rows between left : List (List ℕ)) → AreClosed clauses ps rows between → AreClosed clauses more between left → AreClosed clauses (ps ++ more) rows left
closed_append clauses [] more rows between left same x = subst (λ r. AreClosed clauses more r left) (sym same) x
closed_append clauses (p ∷ ps) more rows between left x y = (x.0, x.1, closed_append clauses ps more x.0 between left x.2 y)

open_append : (clauses : List (Clause Term)) (ps more : List Pair) (rows : List (List ℕ)) (ruling : Ruling) → FirstOpen clauses ps rows ruling → FirstOpen clauses (ps ++ more) rows ruling
open_append clauses [] more rows ruling x = absurd x
open_append clauses (p ∷ ps) more rows ruling (inl x) = inl x
open_append clauses (p ∷ ps) more rows ruling (inr x) = inr (x.0, x.1, open_append clauses ps more x.0 ruling x.2)

open_behind : (clauses : List (Clause Term)) (ps more : List Pair) (rows between : List (List ℕ)) (ruling : Ruling) → AreClosed clauses ps rows between → FirstOpen clauses more between ruling → FirstOpen clauses (ps ++ more) rows ruling
open_behind clauses [] more rows between ruling same x = subst (λ r. FirstOpen clauses more r ruling) (sym same) x
open_behind clauses (p ∷ ps) more rows between ruling x y = inr (x.0, x.1, open_behind clauses ps more x.0 between ruling x.2 y)

pub record IsPassed (clauses : List (Clause Term)) (ps : List Pair) (rows : List (List ℕ)) (from : ℕ) (ahead : List Pair) (next : ℕ) : Type 0 where
  pub closed : (left : List (List ℕ)) → AreClosed clauses ahead (drop next rows) left → AreClosed clauses ps (drop from rows) left
  pub open_ : (ruling : Ruling) → FirstOpen clauses ahead (drop next rows) ruling → FirstOpen clauses ps (drop from rows) ruling

module _ (clauses : List (Clause Term)) (ps : List Pair) (rows : List (List ℕ)) (from : ℕ) where
  pub pass_begins : IsPassed clauses ps rows from ps from
  pass_begins = record { closed = λ left x. x; open_ = λ ruling x. x }

  pub pass_goes_on : (ahead part behind : List Pair) (next later : ℕ) → ahead ≡ part ++ behind → AreClosed clauses part (drop next rows) (drop later rows) → IsPassed clauses ps rows from ahead next → IsPassed clauses ps rows from behind later
  pass_goes_on ahead part behind next later e x w = record {
    closed = λ left y. w.closed left (subst (λ a. AreClosed clauses a (drop next rows) left) (sym e) (closed_append clauses part behind (drop next rows) (drop later rows) left x y));
    open_ = λ ruling y. w.open_ ruling (subst (λ a. FirstOpen clauses a (drop next rows) ruling) (sym e) (open_behind clauses part behind (drop next rows) (drop later rows) ruling x y));
  }

  pub pass_fails : (ahead part behind : List Pair) (next : ℕ) (ruling : Ruling) → ahead ≡ part ++ behind → FirstOpen clauses part (drop next rows) ruling → IsPassed clauses ps rows from ahead next → FirstOpen clauses ps (drop from rows) ruling
  pass_fails ahead part behind next ruling e x w = w.open_ ruling (subst (λ a. FirstOpen clauses a (drop next rows) ruling) (sym e) (open_append clauses part behind (drop next rows) ruling x))

  pub pass_ends : (ahead : List Pair) (next : ℕ) → ahead ≡ [] → IsPassed clauses ps rows from ahead next → AreClosed clauses ps (drop from rows) (drop next rows)
  pass_ends ahead next e w = w.closed (drop next rows) (subst (λ a. AreClosed clauses a (drop next rows) (drop next rows)) (sym e) refl)

-- shapes of clauses
pub record IsLooked (n : ℕ) (cs ahead : List Numbered) : Type 0 where
  pub shaped : AreInShape n ahead → AreInShape n cs
  pub misshapen : (number : ℕ) → FirstMisshapen n ahead number → FirstMisshapen n cs number

module _ (n : ℕ) (cs : List Numbered) where
  pub look_begins : IsLooked n cs cs
  look_begins = record { shaped = λ x. x; misshapen = λ number x. x }

  pub look_goes_on : (ahead behind : List Numbered) (c : Numbered) → ahead ≡ c ∷ behind → HasShape n c.clause → IsLooked n cs ahead → IsLooked n cs behind
  look_goes_on ahead behind c e shape w = record {
    shaped = λ x. w.shaped (subst (AreInShape n) (sym e) (shape, x));
    misshapen = λ number x. w.misshapen number (subst (λ a. FirstMisshapen n a number) (sym e) (inr (shape, x)));
  }

  pub look_fails : (ahead behind : List Numbered) (c : Numbered) → ahead ≡ c ∷ behind → (HasShape n c.clause → ⊥) → IsLooked n cs ahead → FirstMisshapen n cs c.number
  look_fails ahead behind c e never w = w.misshapen c.number (subst (λ a. FirstMisshapen n a c.number) (sym e) (inl (never, refl)))

  pub look_ends : (ahead : List Numbered) → ahead ≡ [] → IsLooked n cs ahead → AreInShape n cs
  look_ends ahead e w = w.shaped (subst (AreInShape n) (sym e) tt)

-- the clause at a place, by its number
pub clause_next : (cs : List (Clause Term)) (k : ℕ) (c : Clause Term) → slice_get cs k ≡ Some c → drop k (numbered_from 1 cs) ≡ with_number (k + 1) c ∷ drop (k + 1) (numbered_from 1 cs)
clause_next cs k c e =
    let place : suc k ≡ k + 1 = omega arith in
    let number : 1 + k ≡ k + 1 = omega arith in
    subst (λ n. drop k (numbered_from 1 cs) ≡ with_number n c ∷ drop (k + 1) (numbered_from 1 cs)) number
    (subst (λ n. drop k (numbered_from 1 cs) ≡ with_number (1 + k) c ∷ drop n (numbered_from 1 cs)) place (clause_ahead 1 cs k c e))

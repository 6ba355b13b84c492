-- A log up to a key goes on to a later key: with one entry more, or with none where all that is offered between is covered.
use Rattle.std.proofs.Common.{◌≡◌, ◌⊎◌, ◌∙◌, ℕ, suc, Bool, true, false, cond, Option, Some, List, [], ◌∷◌, ◌++◌, length, refl, ap, sym, subst, inl, inr, true≢false, arith}
use Rattle.std.specs.List.{AllByRecursion}
use Rattle.std.proofs.lemmas.Bool.Decides.{nat_tests}
use Rattle.spec_terms.specs.Term.{Term}
use Rattle.spec_clauses.specs.Fact.{Clause}
use Rattle.spec_clauses.specs.Resolvents.{Large, Resolvents}
use Rattle.spec_clauses.specs.Inclusion.{here, there, Has}
use Rattle.spec_clauses.proofs.Answers.{one_answer}
use Rattle.spec_clauses.proofs.Lists.{all_append}
use Rattle.spec_clauses.proofs.Inclusion.{Has-append, Has-append_left, Has-append_right, Has-one}
use Rattle.spec_saturation.specs.Key.{Key, key, is_before, Entry, below}
use Rattle.spec_saturation.specs.Log.{IsCoveredBy, Gives, IsOffered, IsNew}
use Rattle.spec_saturation.specs.End.{IsBeforeEnd, AreSorted, IsLogUpTo}
use Rattle.spec_saturation.proofs.Keys.{before_trans, compared, parts_of_key}
use Rattle.spec_saturation.proofs.Offers.{gives_once, offered_once}
use Rattle.spec_saturation.proofs.Cuts.{AreBefore, below_before}
use Rattle.spec_saturation.proofs.Uniqueness.{gives_moved, same_entry}

-- what holds of each item that a list has holds of all
pub all_from_has : {X : Type 0} (P : X → Type 0) (xs : List X) → ((x : X) → Has xs x → P x) → AllByRecursion P xs
all_from_has P [] h = tt
all_from_has P (x ∷ xs) h = (h x (xs, here), all_from_has P xs (λ y g. h y (x ∷ g.0, there g.1)))

-- the next number of the same pair
abbrev pub next : Key → Key
next k = key k.major k.minor (suc k.number)

pub before_next : (k : Key) → is_before k (next k) ≡ true
before_next k = grind (arith, nat_tests)

-- what is before the next key is before the key or is it
pub next_least : (j k : Key) → is_before j (next k) ≡ true → is_before j k ≡ false → j ≡ k
next_least j k h n = elim (compared j k) as (λ _. j ≡ k) [
  | inl b ↦ absurd (true≢false (sym b ∙ n))
  | inr o ↦ elim o as (λ _. j ≡ k) [
    | inl same ↦ same
    | inr after ↦ absurd (not_between j k h after)
  ]
]
  where
    not_between : (j k : Key) → is_before j (next k) ≡ true → is_before k j ≡ true → ⊥
    not_between j k h i = grind (arith, nat_tests)

-- a key before one is before what isn't before that
pub before_not_before : (a b c : Key) → is_before a b ≡ true → is_before c b ≡ false → is_before a c ≡ true
before_not_before a b c h n = grind (arith, nat_tests)

pub not_before_trans : (a b c : Key) → is_before b a ≡ false → is_before c b ≡ false → is_before c a ≡ false
not_before_trans a b c h n = grind (arith, nat_tests)

pub self_not_before : (k : Key) → is_before k k ≡ false
self_not_before k = grind (arith, nat_tests)

-- below a key that isn't before the log's end stand all
pub below_all : (given : List (Clause Term)) (at k : Key) (log : List Entry) → IsLogUpTo given (Some at) log → is_before k at ≡ false → below k log ≡ log
below_all given at k log up_to n = below_before k log (all_from_has (λ e. is_before e.key k ≡ true) log (λ e h. before_not_before e.key at k (up_to.early e h) n))

-- All that is offered from a key on before the other is covered, and no pair from there on is too large.
pub record NothingBetween (given : List (Clause Term)) (from : Key) (to : Option Key) (log : List Entry) : Type 0 where
  pub ascends : (k : Key) → is_before k from ≡ true → IsBeforeEnd k to
  pub covered : (e : Entry) → is_before e.key from ≡ false → IsBeforeEnd e.key to → IsOffered given log e → IsCoveredBy log e.clause
  pub no_large : (m i : ℕ) → is_before (key m i 1) from ≡ false → IsBeforeEnd (key m i 1) to → Gives log m i Large → ⊥

-- then the log is the one up to the other key
pub between : (given : List (Clause Term)) (from : Key) (to : Option Key) (log : List Entry) → IsLogUpTo given (Some from) log → NothingBetween given from to log → IsLogUpTo given to log
between given from to log up_to nothing = record {
  sorted = up_to.sorted;
  early = λ e h. nothing.ascends e.key (up_to.early e h);
  sound = up_to.sound;
  complete = λ e early new. complete e early new (is_before e.key from) refl;
  no_large = λ m i early large. no_large m i early large (is_before (key m i 1) from) refl;
}
  where
    complete : (e : Entry) → IsBeforeEnd e.key to → IsNew given log e → (b : Bool) → is_before e.key from ≡ b → Has log e
    complete e early new true h = up_to.complete e h new
    complete e early new false h =
        let whole = below_all given from e.key log up_to h in
        absurd (new.uncovered (subst (λ es. IsCoveredBy es e.clause) (sym whole) (nothing.covered e h early (subst (λ es. IsOffered given es e) whole new.offered))))

    no_large : (m i : ℕ) → IsBeforeEnd (key m i 1) to → Gives log m i Large → (b : Bool) → is_before (key m i 1) from ≡ b → ⊥
    no_large m i early large true h = up_to.no_large m i h large
    no_large m i early large false h = nothing.no_large m i h early large

-- where a clause is offered no pair is too large
pub offer_not_large : (given : List (Clause Term)) (log : List Entry) (e : Entry) (m i : ℕ) → below (key m i 1) log ≡ log → IsOffered given log e → key m i 1 ≡ e.key → Gives log m i Large → ⊥
offer_not_large given log e m i whole (inl x) at large =
    let p = parts_of_key (key m i 1) (key 0 0 x.number) (at ∙ x.at) in
    let order = large.is_due.order in omega (arith, p.0, p.1, order)
offer_not_large given log e m i whole (inr (inl x)) at large =
    let here : Gives log m i (Resolvents x.resolvents) = subst (λ k. Gives log k.major k.minor (Resolvents x.resolvents)) (sym at) x.gives in
    let one : Resolvents x.resolvents ≡ Large = gives_once one_answer log m i (Resolvents x.resolvents) Large here large in cc
offer_not_large given log e m i whole (inr (inr x)) at large =
    let p = parts_of_key (key m i 1) (key x.turn x.turn (length given)) (at ∙ x.at) in
    let order = large.is_due.order in omega (arith, p.0, p.1, order)

-- a covered offer, and the log is the one up to the next key
pub skipped : (given : List (Clause Term)) (log : List Entry) (e : Entry) → IsLogUpTo given (Some e.key) log → IsOffered given log e → IsCoveredBy log e.clause → IsLogUpTo given (Some (next e.key)) log
skipped given log e up_to offered covered = between given e.key (Some (next e.key)) log up_to (record {
  ascends = λ k h. before_trans k e.key (next e.key) h (before_next e.key);
  covered = λ d n h o. (
      let at = next_least d.key e.key h n in
      subst (IsCoveredBy log) (offered_once one_answer given log e d (sym at) offered o) covered);
  no_large = λ m i n h large. (
      let at = next_least (key m i 1) e.key h n in
      offer_not_large given log e m i (below_all given e.key (key m i 1) log up_to n) offered at large);
})

-- sorted with an entry more behind all
sorted_push : (log : List Entry) (e : Entry) → AreSorted log → AreBefore e.key log → AreSorted (log ++ e ∷ [])
sorted_push [] e sorted before = (tt, tt)
sorted_push (d ∷ log) e sorted before = (all_append (λ later. is_before d.key later.key ≡ true) log (e ∷ []) sorted.0 (before.0, tt), sorted_push log e sorted.1 before.1)

-- below a key that isn't behind the last entry, that entry doesn't count
pub below_push : (k : Key) (log : List Entry) (e : Entry) → is_before e.key k ≡ false → below k (log ++ e ∷ []) ≡ below k log
below_push k [] e n = rw n refl
below_push k (d ∷ log) e n = go (is_before d.key k) (below_push k log e n)
  where
    go : (b : Bool) → below k (log ++ e ∷ []) ≡ below k log → cond b (d ∷ below k (log ++ e ∷ [])) (below k (log ++ e ∷ [])) ≡ cond b (d ∷ below k log) (below k log)
    go true h = ap (λ xs. d ∷ xs) h
    go false h = h

-- a new entry, and the log with it is the one up to the next key
pub pushed : (given : List (Clause Term)) (log : List Entry) (e : Entry) → IsLogUpTo given (Some e.key) log → IsOffered given log e → (IsCoveredBy log e.clause → ⊥) → IsLogUpTo given (Some (next e.key)) (log ++ e ∷ [])
pushed given log e up_to offered uncovered = record {
  sorted = sorted_push log e up_to.sorted (all_from_has (λ d. is_before d.key e.key ≡ true) log up_to.early);
  early = λ d h. early d ((Has-append log (e ∷ []) d).0 h);
  sound = λ d h. sound d ((Has-append log (e ∷ []) d).0 h);
  complete = λ d h new. complete d h new (is_before d.key e.key) refl;
  no_large = λ m i h large. no_large m i h large (is_before (key m i 1) e.key) refl;
}
  where
    whole : List Entry
    whole = log ++ e ∷ []

    early : (d : Entry) → Has log d ⊎ Has (e ∷ []) d → is_before d.key (next e.key) ≡ true
    early d (inl h) = before_trans d.key e.key (next e.key) (up_to.early d h) (before_next e.key)
    early d (inr h) = subst (λ x. is_before x.key (next e.key) ≡ true) (sym (Has-one h)) (before_next e.key)

    same_below : (k : Key) → is_before e.key k ≡ false → below k (log ++ e ∷ []) ≡ below k log
    same_below k n = below_push k log e n

    not_after : (k : Key) → is_before k e.key ≡ true → is_before e.key k ≡ false
    not_after k h = grind (arith, nat_tests)

    moved : (d : Entry) (old now : List Entry) → below d.key now ≡ below d.key old → IsNew given old d → IsNew given now d
    moved d old now same new = record {
      offered = subst (λ es. IsOffered given es d) (sym same) new.offered;
      uncovered = subst (λ es. IsCoveredBy es d.clause → ⊥) (sym same) new.uncovered;
    }

    own : below e.key (log ++ e ∷ []) ≡ log
    own = same_below e.key (self_not_before e.key) ∙ below_all given e.key e.key log up_to (self_not_before e.key)

    new_itself : IsNew given (log ++ e ∷ []) e
    new_itself = record {
      offered = subst (λ es. IsOffered given es e) (sym own) offered;
      uncovered = subst (λ es. IsCoveredBy es e.clause → ⊥) (sym own) uncovered;
    }

    sound : (d : Entry) → Has log d ⊎ Has (e ∷ []) d → IsNew given (log ++ e ∷ []) d
    sound d (inl h) = moved d log (log ++ e ∷ []) (same_below d.key (not_after d.key (up_to.early d h))) (up_to.sound d h)
    sound d (inr h) = subst (IsNew given (log ++ e ∷ [])) (sym (Has-one h)) new_itself

    complete : (d : Entry) → is_before d.key (next e.key) ≡ true → IsNew given (log ++ e ∷ []) d → (b : Bool) → is_before d.key e.key ≡ b → Has (log ++ e ∷ []) d
    complete d h new true p = Has-append_left log (e ∷ []) d (up_to.complete d p (moved d (log ++ e ∷ []) log (sym (same_below d.key (not_after d.key p))) new))
    complete d h new false p =
        let at = next_least d.key e.key h p in
        let here_too : below d.key (log ++ e ∷ []) ≡ log = ap (λ k. below k (log ++ e ∷ [])) at ∙ own in
        let clauses = offered_once one_answer given log d e at (subst (λ es. IsOffered given es d) here_too new.offered) offered in
        subst (Has (log ++ e ∷ [])) (sym (same_entry d e at clauses)) (Has-append_right log (e ∷ []) e ([], here))

    no_large : (m i : ℕ) → is_before (key m i 1) (next e.key) ≡ true → Gives (log ++ e ∷ []) m i Large → (b : Bool) → is_before (key m i 1) e.key ≡ b → ⊥
    no_large m i h large true p = up_to.no_large m i p (gives_moved (log ++ e ∷ []) log m i Large (same_below (key m i 1) (not_after (key m i 1) p)) large)
    no_large m i h large false p =
        let at = next_least (key m i 1) e.key h p in
        let here_too : below (key m i 1) (log ++ e ∷ []) ≡ log = ap (λ k. below k (log ++ e ∷ [])) at ∙ own in
        let all = below_all given e.key (key m i 1) log up_to p in
        offer_not_large given log e m i all offered at (gives_moved (log ++ e ∷ []) log m i Large (here_too ∙ sym all) large)

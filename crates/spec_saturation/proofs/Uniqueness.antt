-- No two lists are the log of the same given clauses: they agree up to where one of them ends, and neither ends before the other.
use Rattle.std.proofs.Common.{◌≡◌, ◌⊎◌, ◌∙◌, ℕ, ◌≤◌, Bool, true, false, Option, Some, None, List, [], ◌∷◌, ◌++◌, length, refl, ap, sym, subst, inl, inr, append_assoc, arith}
use Rattle.std.specs.List.{AllByRecursion}
use Rattle.spec_terms.specs.Term.{Term}
use Rattle.spec_clauses.specs.Fact.{Clause}
use Rattle.spec_clauses.specs.Selection.{Selection}
use Rattle.spec_clauses.specs.Resolvents.{Answer, Large, Resolvents, Resolves}
use Rattle.spec_clauses.specs.Inclusion.{here, Has}
use Rattle.spec_clauses.proofs.Lists.{all_append, all_weaker}
use Rattle.spec_clauses.proofs.Inclusion.{all_has, Has-append_right, Has-filter, Has-filter_source}
use Rattle.spec_saturation.specs.Key.{Key, key, is_before, Entry, below}
use Rattle.spec_saturation.specs.Log.{IsCoveredBy, IsDue, Gives, IsOffered, IsNew}
use Rattle.spec_saturation.specs.End.{End, Closed, Spent, TooLarge, end_key, IsBeforeEnd, AreSorted, IsLogUpTo, IsCause, IsLog}
use Rattle.spec_saturation.proofs.Keys.{never_before_itself, before_trans, compared, parts_of_key}
use Rattle.spec_saturation.proofs.Offers.{gives_once, offered_once}
use Rattle.spec_saturation.proofs.Cuts.{AreAfter, below_front, below_entry, sorted_front, sorted_rest, sorted_below, below_below, fewer_below}

-- an entry is new over the entries below its key
abbrev NewOver : List (Clause Term) → List Entry → Entry → Type 0
NewOver given entries e = IsOffered given entries e × (IsCoveredBy entries e.clause → ⊥)

new_over : (given : List (Clause Term)) (log entries : List Entry) (e : Entry) → below e.key log ≡ entries → IsNew given log e → NewOver given entries e
new_over given log entries e same new = subst (λ es. NewOver given es e) same (new.offered, new.uncovered)

-- what is new in one log is new in another that is the same below
pub new_moved : (given : List (Clause Term)) (log other : List Entry) (e : Entry) → below e.key log ≡ below e.key other → IsNew given log e → IsNew given other e
new_moved given log other e same new =
    let moved = new_over given log (below e.key other) e same new in record { offered = moved.0; uncovered = moved.1 }

-- and so is what a pair gives
pub gives_moved : (log other : List Entry) (m i : ℕ) (answer : Answer) → below (key m i 1) log ≡ below (key m i 1) other → Gives log m i answer → Gives other m i answer
gives_moved log other m i answer same g = record {
  solved = g.solved;
  unsolved = g.unsolved;
  at = g.at;
  is_due = subst (λ es. IsDue es m i g.solved g.unsolved) same g.is_due;
  selected = g.selected;
  gives = g.gives;
}

-- A log doesn't go on with an entry where the other, the same so far, has only later ones.
none_missing : (given : List (Clause Term)) (end : Option Key) (log other : List Entry) → IsLogUpTo given end log → IsLogUpTo given end other → (front : List Entry) (e : Entry) (rest others : List Entry) → log ≡ front ++ e ∷ rest → other ≡ front ++ others → AreAfter e.key others → ⊥
none_missing given end log other a b front e rest others p q later =
    let sorted : AreSorted (front ++ e ∷ rest) = subst AreSorted p a.sorted in
    let before = sorted_front front e rest sorted in
    let in_log : Has log e = subst (λ es. Has es e) (sym p) (Has-append_right front (e ∷ rest) e (rest, here)) in
    let one : below e.key log ≡ front = ap (below e.key) p ∙ below_entry front e rest before (sorted_rest front e rest sorted) in
    let two : below e.key other ≡ front = ap (below e.key) q ∙ below_front e.key front others before later in
    let in_other : Has other e = b.complete e (a.early e in_log) (new_moved given log other e (one ∙ sym two) (a.sound e in_log)) in
    let apart : AllByRecursion (λ x. (is_before x.key e.key ≡ true) ⊎ (is_before e.key x.key ≡ true)) (front ++ others) =
    all_append (λ x. (is_before x.key e.key ≡ true) ⊎ (is_before e.key x.key ≡ true)) front others
    (all_weaker (λ x. is_before x.key e.key ≡ true) (λ x. (is_before x.key e.key ≡ true) ⊎ (is_before e.key x.key ≡ true)) (λ x h. inl h) front before)
    (all_weaker (λ x. is_before e.key x.key ≡ true) (λ x. (is_before x.key e.key ≡ true) ⊎ (is_before e.key x.key ≡ true)) (λ x h. inr h) others later) in
    elim (all_has (λ x. (is_before x.key e.key ≡ true) ⊎ (is_before e.key x.key ≡ true)) (front ++ others) e apart (subst (λ es. Has es e) q in_other)) as (λ _. ⊥) [
      | inl h ↦ never_before_itself e.key h
      | inr h ↦ never_before_itself e.key h
    ]

-- what is behind an entry is after each key before its own
all_after : (k : Key) (front : List Entry) (e : Entry) (rest : List Entry) → is_before k e.key ≡ true → AreSorted (front ++ e ∷ rest) → AreAfter k (e ∷ rest)
all_after k front e rest h sorted =
    (h, all_weaker (λ x. is_before e.key x.key ≡ true) (λ x. is_before k x.key ≡ true) (λ x i. before_trans k e.key x.key h i) rest (sorted_rest front e rest sorted))

pub same_entry : (d e : Entry) → d.key ≡ e.key → d.clause ≡ e.clause → d ≡ e
same_entry d e p q = λ i. record { key = p i; clause = q i }

module _ (one_answer : (i j : Clause Term) (at : Selection) (a b : Answer) → Resolves i j at a → Resolves i j at b → a ≡ b) where
  -- entries of one key behind one front are one
  one_entry : (given : List (Clause Term)) (end : Option Key) (log other : List Entry) → IsLogUpTo given end log → IsLogUpTo given end other → (front : List Entry) (d e : Entry) (rest others : List Entry) → log ≡ front ++ d ∷ rest → other ≡ front ++ e ∷ others → d.key ≡ e.key → d ≡ e
  one_entry given end log other a b front d e rest others p q same =
      let sorted_p : AreSorted (front ++ d ∷ rest) = subst AreSorted p a.sorted in
      let sorted_q : AreSorted (front ++ e ∷ others) = subst AreSorted q b.sorted in
      let in_p : Has log d = subst (λ es. Has es d) (sym p) (Has-append_right front (d ∷ rest) d (rest, here)) in
      let in_q : Has other e = subst (λ es. Has es e) (sym q) (Has-append_right front (e ∷ others) e (others, here)) in
      let below_p : below d.key log ≡ front = ap (below d.key) p ∙ below_entry front d rest (sorted_front front d rest sorted_p) (sorted_rest front d rest sorted_p) in
      let below_q : below e.key other ≡ front = ap (below e.key) q ∙ below_entry front e others (sorted_front front e others sorted_q) (sorted_rest front e others sorted_q) in
      let new_p = new_over given log front d below_p (a.sound d in_p) in
      let new_q = new_over given other front e below_q (b.sound e in_q) in
      same_entry d e same (offered_once one_answer given front d e same new_p.0 new_q.0)

  -- two logs up to one end are the same behind a front that is the same
  same_rest : (given : List (Clause Term)) (end : Option Key) (log other : List Entry) → IsLogUpTo given end log → IsLogUpTo given end other → (front rest others : List Entry) → log ≡ front ++ rest → other ≡ front ++ others → rest ≡ others
  same_rest given end log other a b front [] [] p q = refl
  same_rest given end log other a b front (d ∷ rest) [] p q = absurd (none_missing given end log other a b front d rest [] p q tt)
  same_rest given end log other a b front [] (e ∷ others) p q = absurd (none_missing given end other log b a front e others [] q p tt)
  same_rest given end log other a b front (d ∷ rest) (e ∷ others) p q =
      go (compared d.key e.key) (λ x y. same_rest given end log other a b (front ++ d ∷ []) rest others x y)
    where
      go : (is_before d.key e.key ≡ true) ⊎ ((d.key ≡ e.key) ⊎ (is_before e.key d.key ≡ true)) → (log ≡ (front ++ d ∷ []) ++ rest → other ≡ (front ++ d ∷ []) ++ others → rest ≡ others) → d ∷ rest ≡ e ∷ others
      go (inl h) further = absurd (none_missing given end log other a b front d rest (e ∷ others) p q (all_after d.key front e others h (subst AreSorted q b.sorted)))
      go (inr (inr h)) further = absurd (none_missing given end other log b a front e others (d ∷ rest) q p (all_after e.key front d rest h (subst AreSorted p a.sorted)))
      go (inr (inl h)) further =
          let one : d ≡ e = one_entry given end log other a b front d e rest others p q h in
          let left : log ≡ (front ++ d ∷ []) ++ rest = p ∙ sym (append_assoc front (d ∷ []) rest) in
          let right : other ≡ (front ++ d ∷ []) ++ others = q ∙ (ap (λ x. front ++ x ∷ others) (sym one) ∙ sym (append_assoc front (d ∷ []) others)) in
          let tails : rest ≡ others = further left right in cc

  -- two logs up to one end are one
  pub one_log_up_to : (given : List (Clause Term)) (end : Option Key) (log other : List Entry) → IsLogUpTo given end log → IsLogUpTo given end other → log ≡ other
  one_log_up_to given end log other a b = same_rest given end log other a b [] log other refl refl

-- a key is at the end or before it
abbrev pub IsWithinEnd : Key → Option Key → Type 0
IsWithinEnd k end = (j : Key) → is_before j k ≡ true → IsBeforeEnd j end

-- what stands below a key that isn't past the end is the log up to that key
pub log_below : (given : List (Clause Term)) (end : Option Key) (log : List Entry) (k : Key) → IsWithinEnd k end → IsLogUpTo given end log → IsLogUpTo given (Some k) (below k log)
log_below given end log k within a = record {
  sorted = sorted_below k log a.sorted;
  early = λ e h. (Has-filter_source (λ x. is_before x.key k) log e h).1;
  sound = λ e h. (
      let found = Has-filter_source (λ x. is_before x.key k) log e h in
      new_moved given log (below k log) e (sym (below_below e.key k log (λ j i. before_trans j e.key k i found.1))) (a.sound e found.0));
  complete = λ e early new. Has-filter (λ x. is_before x.key k) log e
      (a.complete e (within e.key early) (new_moved given (below k log) log e (below_below e.key k log (λ j i. before_trans j e.key k i early)) new)) early;
  no_large = λ m i early large.
      a.no_large m i (within (key m i 1) early) (gives_moved (below k log) log m i Large (below_below (key m i 1) k log (λ j h. before_trans j (key m i 1) k h early)) large);
}

-- keys before one that is before the end are before it
within_end : (k : Key) (end : Option Key) → IsBeforeEnd k end → IsWithinEnd k end
within_end k None h j before = tt
within_end k (Some end) h j before = before_trans j k end before h

-- a key isn't below itself
not_below_itself : (k : Key) → is_before k k ≡ false
not_below_itself k = go (is_before k k) refl where
  go : (b : Bool) → is_before k k ≡ b → b ≡ false
  go true h = absurd (never_before_itself k h)
  go false h = refl

module _ (one_answer : (i j : Clause Term) (at : Selection) (a b : Answer) → Resolves i j at a → Resolves i j at b → a ≡ b) where
  -- no log goes on where another has spent the budget or met a pair that is too large
  pub ends_together : (given : List (Clause Term)) (budget : ℕ) (log other : List Entry) (end : Option Key) (stop : End) (k : Key) → end_key stop ≡ Some k → IsBeforeEnd k end → IsLogUpTo given end log → length log ≤ budget → IsLog given budget other stop → ⊥
  ends_together given budget log other end Closed k is_k early a few b = cc
  ends_together given budget log other end (Spent due) k is_k early a few b =
      let at : due.key ≡ k = cc in
      let early_due : IsBeforeEnd due.key end = subst (λ j. IsBeforeEnd j end) (sym at) early in
      let cut = log_below given end log due.key (within_end due.key end early_due) a in
      let same : other ≡ below due.key log = one_log_up_to one_answer given (Some due.key) other (below due.key log) b.up_to cut in
      let below_same : below due.key other ≡ below due.key log = ap (below due.key) same ∙ below_below due.key due.key log (λ j h. h) in
      let there : Has log due = a.complete due early_due (new_moved given other log due below_same b.cause.1) in
      let fewer = fewer_below due.key log due there (not_below_itself due.key) in
      let size : length other ≡ length (below due.key log) = ap length same in
      let full = b.cause.0 in
      omega (arith, fewer, size, full, few)
  ends_together given budget log other end (TooLarge m i) k is_k early a few b =
      let at : key m i 1 ≡ k = cc in
      let early_pair : IsBeforeEnd (key m i 1) end = subst (λ j. IsBeforeEnd j end) (sym at) early in
      let cut = log_below given end log (key m i 1) (within_end (key m i 1) end early_pair) a in
      let same : other ≡ below (key m i 1) log = one_log_up_to one_answer given (Some (key m i 1)) other (below (key m i 1) log) b.up_to cut in
      let below_same : below (key m i 1) other ≡ below (key m i 1) log = ap (below (key m i 1)) same ∙ below_below (key m i 1) (key m i 1) log (λ j h. h) in
      a.no_large m i early_pair (gives_moved other log m i Large below_same b.cause)

  -- an entry isn't new at the key of a pair that is too large
  never_both : (given : List (Clause Term)) (log : List Entry) (e : Entry) (m i : ℕ) → e.key ≡ key m i 1 → IsNew given log e → Gives log m i Large → ⊥
  never_both given log e m i at new large = go new.offered
    where
      go : IsOffered given (below e.key log) e → ⊥
      go (inl x) =
          let p = parts_of_key (key 0 0 x.number) (key m i 1) (sym x.at ∙ at) in
          let order = large.is_due.order in omega (arith, p.0, p.1, order)
      go (inr (inl x)) =
          let here : Gives (below e.key log) m i (Resolvents x.resolvents) = subst (λ k. Gives (below e.key log) k.major k.minor (Resolvents x.resolvents)) at x.gives in
          let same : below (key m i 1) (below e.key log) ≡ below (key m i 1) log = below_below (key m i 1) e.key log (λ j h. subst (λ k. is_before j k ≡ true) (sym at) h) in
          let one : Resolvents x.resolvents ≡ Large = gives_once one_answer log m i (Resolvents x.resolvents) Large (gives_moved (below e.key log) log m i (Resolvents x.resolvents) same here) large in cc
      go (inr (inr x)) =
          let p = parts_of_key (key x.turn x.turn (length given)) (key m i 1) (sym x.at ∙ at) in
          let order = large.is_due.order in omega (arith, p.0, p.1, order)

  -- ends of one log at one key are one
  same_end : (given : List (Clause Term)) (budget : ℕ) (log : List Entry) (end stop : End) → end_key end ≡ end_key stop → IsCause given budget log end → IsCause given budget log stop → end ≡ stop
  same_end given budget log Closed Closed same a b = refl
  same_end given budget log Closed (Spent due) same a b = cc
  same_end given budget log Closed (TooLarge m i) same a b = cc
  same_end given budget log (Spent due) Closed same a b = cc
  same_end given budget log (Spent due) (Spent other) same a b =
      let at : due.key ≡ other.key = cc in
      let one = new_over given log (below other.key log) due (ap (λ k. below k log) at) a.1 in
      let two = new_over given log (below other.key log) other refl b.1 in
      ap Spent (same_entry due other at (offered_once one_answer given (below other.key log) due other at one.0 two.0))
  same_end given budget log (Spent due) (TooLarge m i) same a b = let at : due.key ≡ key m i 1 = cc in absurd (never_both given log due m i at a.1 b)
  same_end given budget log (TooLarge m i) Closed same a b = cc
  same_end given budget log (TooLarge m i) (Spent due) same a b = let at : due.key ≡ key m i 1 = cc in absurd (never_both given log due m i at b.1 a)
  same_end given budget log (TooLarge m i) (TooLarge n j) same a b =
      let at : key m i 1 ≡ key n j 1 = cc in
      let p = parts_of_key (key m i 1) (key n j 1) at in
      let first = p.0 in let second = p.1 in cc

  -- exactly one list is the log, and it ends in one way
  pub one_log : (given : List (Clause Term)) (budget : ℕ) (log other : List Entry) (end stop : End) → IsLog given budget log end → IsLog given budget other stop → (log ≡ other) × (end ≡ stop)
  one_log given budget log other end stop a b = go (end_key end) (end_key stop) refl refl
    where
      together : end_key end ≡ end_key stop → (log ≡ other) × (end ≡ stop)
      together same =
          let logs : log ≡ other = one_log_up_to one_answer given (end_key stop) log other (subst (λ k. IsLogUpTo given k log) same a.up_to) b.up_to in
          (logs, same_end given budget other end stop same (subst (λ l. IsCause given budget l end) logs a.cause) b.cause)

      apart : (j k : Key) → end_key end ≡ Some j → end_key stop ≡ Some k → (is_before j k ≡ true) ⊎ ((j ≡ k) ⊎ (is_before k j ≡ true)) → (log ≡ other) × (end ≡ stop)
      apart j k p q (inl h) = absurd (ends_together given budget other log (end_key stop) end j p (subst (IsBeforeEnd j) (sym q) h) b.up_to b.within a)
      apart j k p q (inr (inl h)) = together (p ∙ (ap Some h ∙ sym q))
      apart j k p q (inr (inr h)) = absurd (ends_together given budget log other (end_key end) stop k q (subst (IsBeforeEnd k) (sym p) h) a.up_to a.within b)

      go : (o p : Option Key) → end_key end ≡ o → end_key stop ≡ p → (log ≡ other) × (end ≡ stop)
      go None None p q = together (p ∙ sym q)
      go None (Some k) p q = absurd (ends_together given budget log other (end_key end) stop k q (subst (IsBeforeEnd k) (sym p) tt) a.up_to a.within b)
      go (Some j) None p q = absurd (ends_together given budget other log (end_key stop) end j p (subst (IsBeforeEnd j) (sym q) tt) b.up_to b.within a)
      go (Some j) (Some k) p q = apart j k p q (compared j k)

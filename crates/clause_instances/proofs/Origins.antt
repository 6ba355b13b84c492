-- What the entries of a log tell of where one comes from: of a given clause, or of two others.
use Rattle.std.proofs.Common.{◌≡◌, ◌∙◌, ℕ, zero, suc, ◌<◌, Bool, true, false, cond, nat_eq, List, [], ◌∷◌, ◌++◌, map, None, Some, inl, inr, refl, ap, sym, subst, eqb-true, arith}
use Rattle.std.specs.Prelude.{slice_get, min, max, nat_le}
use Rattle.std.specs.List.{AllByRecursion, list_any}
use Rattle.std.proofs.lemmas.List.{map-append}
use Rattle.std.proofs.lemmas.Bool.{eq-eqb, leb-true}
use Rattle.std.proofs.lemmas.Bool.Decides.{leb_tells}
use Rattle.spec_trees.specs.Tree.{bind}
use Rattle.spec_calculus.specs.Points.{numbered}
use Rattle.spec_calculus.proofs.Items.{of_some}
use Rattle.spec_terms.specs.Term.{Term}
use Rattle.spec_clauses.specs.Fact.{Clause}
use Rattle.spec_clauses.specs.Norm.{IsNormal}
use Rattle.spec_clauses.specs.Limits.{IsWithinLimit}
use Rattle.spec_clauses.specs.Selection.{is_solved}
use Rattle.spec_clauses.proofs.Selection.{select-none}
use Rattle.spec_translation.specs.Visit.{is_large_term}
use Rattle.spec_saturation.specs.Key.{Key, key, Entry}
use Rattle.spec_attack_runs.specs.Source.{Source}
use Rattle.spec_attack_runs.specs.Instance.{Pending, Meeting, Meets, closing, next_after, telling_parts, met_variables, solved_of, unsolved_of, parent, IsResolved}
use Rattle.spec_attack_runs.proofs.OneDescent.{descents_same}
use Rattle.log_entries.specs.declared.log.Origin.{Origin}
use Rattle.log_entries.specs.declared.log.Origin.TheVariants.{Given, Resolvent}
use Rattle.log_entries.specs.declared.log.PlainEntry.{PlainEntry}
use Rattle.log_entries.specs.Logs.{IsOrigin}
use Rattle.log_entries.specs.PlainLogs.{TellsPlain, TellPlainFrom, TellPlainLog}
use Rattle.clause_instances.specs.declared.resolved.Descends.{Descends}
use Rattle.clause_instances.specs.Derivations.{HasNormedLog}
use Rattle.clause_instances.specs.Descents.{IsGivenAt, IsResolvedAt, IsNotGiven, IsNotResolved}
use Rattle.clause_instances.specs.Parents.{IsSmall, IsMeetingOf}
use Rattle.clause_instances.proofs.Meetings.{any_under}

-- The entry of a number, and of the log.

told_from : (log : List Entry) (k : ℕ) (entries : List PlainEntry) (es : List Entry) (i : ℕ) (entry : PlainEntry) → TellPlainFrom log k entries es → slice_get entries i ≡ Some entry → (e : Entry) × (slice_get es i ≡ Some e) × TellsPlain log entry e
told_from log k [] es i entry tells at = absurd (cc)
told_from log k (d ∷ ds) [] i entry tells at = absurd tells
told_from log k (d ∷ ds) (e ∷ es) zero entry tells at = (e, refl, subst (λ (x : PlainEntry). TellsPlain log x e) (of_some d entry at) tells.0)
told_from log k (d ∷ ds) (e ∷ es) (suc i) entry tells at = told_from log (suc k) ds es i entry tells.2 at

none_from : (log : List Entry) (k : ℕ) (entries : List PlainEntry) (es : List Entry) (i : ℕ) → TellPlainFrom log k entries es → slice_get entries i ≡ None → slice_get es i ≡ None
none_from log k [] [] i tells at = refl
none_from log k [] (e ∷ es) i tells at = absurd tells
none_from log k (d ∷ ds) [] i tells at = absurd tells
none_from log k (d ∷ ds) (e ∷ es) zero tells at = absurd (cc)
none_from log k (d ∷ ds) (e ∷ es) (suc i) tells at = none_from log (suc k) ds es i tells.2 at

pub told_at : (log : List Entry) (entries : List PlainEntry) (n : ℕ) (entry : PlainEntry) → TellPlainLog entries log → numbered entries n ≡ Some entry → (e : Entry) × (numbered log n ≡ Some e) × TellsPlain log entry e
told_at log entries zero entry tells at = absurd (cc)
told_at log entries (suc i) entry tells at = told_from log 1 entries log i entry tells at

none_at : (log : List Entry) (entries : List PlainEntry) (n : ℕ) → TellPlainLog entries log → numbered entries n ≡ None → numbered log n ≡ None
none_at log entries zero tells at = refl
none_at log entries (suc i) tells at = none_from log 1 entries log i tells at

pub not_there : (log : List Entry) (entries : List PlainEntry) (n : ℕ) (e : Entry) → TellPlainLog entries log → numbered entries n ≡ None → numbered log n ≡ Some e → ⊥
not_there log entries n e tells none at = let clash : None ≡ Some e = sym (none_at log entries n tells none) ∙ at in cc

-- what holds of each entry holds of the one of a number
each_from : (P : PlainEntry → Type 0) (entries : List PlainEntry) (i : ℕ) (entry : PlainEntry) → AllByRecursion P entries → slice_get entries i ≡ Some entry → P entry
each_from P [] i entry all at = absurd (cc)
each_from P (d ∷ ds) zero entry all at = subst P (of_some d entry at) all.0
each_from P (d ∷ ds) (suc i) entry all at = each_from P ds i entry all.1 at

pub normed_at : (entries : List PlainEntry) (n : ℕ) (entry : PlainEntry) → HasNormedLog entries → numbered entries n ≡ Some entry → IsNormal entry.clause × IsWithinLimit entry.clause
normed_at entries zero entry all at = absurd (cc)
normed_at entries (suc i) entry all at = each_from (λ (e : PlainEntry). IsNormal e.clause × IsWithinLimit e.clause) entries i entry all at

-- A given entry, and a resolvent.

pub given_at : (log : List Entry) (p : Pending) (entry : PlainEntry) (number : ℕ) (e : Entry) → numbered log p.number ≡ Some e → TellsPlain log entry e → entry.origin ≡ Given number → IsGivenAt log p number
given_at log p entry number e at tells is =
    let origin = subst (λ (o : Origin). IsOrigin log o e.key) is tells.origin in
    record {
      entry = e;
      at = at;
      given = ap (λ (k : Key). k.major) origin.1 ∙ sym (ap (λ (k : Key). k.minor) origin.1);
      number_is = ap (λ (k : Key). k.number) origin.1;
    }

pub resolved_at : (log : List Entry) (p : Pending) (entry : PlainEntry) (descends : Descends) (e : Entry) → numbered log p.number ≡ Some e → TellsPlain log entry e → entry.origin ≡ Resolvent descends.number descends.solved descends.unsolved → IsResolvedAt log p descends
resolved_at log p entry descends e at tells is = record { entry = e; at = at; origin = subst (λ (o : Origin). IsOrigin log o e.key) is tells.origin }

pub nothing_given : (sources : List Source) (log : List Entry) (p : Pending) (n : ℕ) → ((e : Entry) → numbered log p.number ≡ Some e → ⊥) → IsNotGiven sources log p n
nothing_given sources log p n none instance m x = none x.entry x.at

pub nothing_resolved : (log : List Entry) (p : Pending) (n : ℕ) → ((e : Entry) → numbered log p.number ≡ Some e → ⊥) → IsNotResolved log p n
nothing_resolved log p n none left right m x = none x.entry x.at

pub given_alone : (log : List Entry) (p : Pending) (n number : ℕ) → IsGivenAt log p number → IsNotResolved log p n
given_alone log p n number g left right m x =
    let same = of_some g.entry x.entry (sym g.at ∙ x.at) in
    let equal = subst (λ (e : Entry). e.key.major ≡ e.key.minor) same g.given in
    let holds = eq-eqb x.entry.key.major x.entry.key.minor equal in
    let fails = x.order in cc

apart : (a b : ℕ) → max a b ≡ min a b → a ≡ b
apart a b e = omega (arith, e)

pub resolved_alone : (sources : List Source) (log : List Entry) (p : Pending) (n : ℕ) (descends : Descends) → IsResolvedAt log p descends → IsNotGiven sources log p n
resolved_alone sources log p n descends r instance m x =
    let same = of_some r.entry x.entry (sym r.at ∙ x.at) in
    let equal = subst (λ (e : Entry). e.key.major ≡ e.key.minor) (sym same) x.given in
    let key_is = r.origin.0 in
    let ends = sym (ap (λ (k : Key). k.major) key_is) ∙ (equal ∙ ap (λ (k : Key). k.minor) key_is) in
    r.origin.2 (apart descends.solved descends.unsolved ends)

-- The parents, by the numbers of the solved and of the unsolved one.
pub record IsOf (log : List Entry) (p : Pending) (n : ℕ) (descends : Descends) (left right : Pending) (m : ℕ) : Type 0 where
  pub solved : Entry
  pub unsolved : Entry
  pub met : Meeting
  pub part : Clause Term
  pub solved_at : numbered log descends.solved ≡ Some solved
  pub unsolved_at : numbered log descends.unsolved ≡ Some unsolved
  pub of_both : IsMeetingOf solved.clause unsolved.clause met
  pub part_at : numbered (telling_parts met.raw) descends.number ≡ Some part
  pub is_left : left ≡ parent descends.solved (closing p.terms n (met_variables met part)) met.lefts
  pub is_right : right ≡ parent descends.unsolved (closing p.terms n (met_variables met part)) met.rights
  pub small : list_any is_large_term (left.terms ++ right.terms) ≡ false
  pub next : m ≡ next_after p.terms n (met_variables met part)

over : (a b : ℕ) → nat_le a b ≡ false → b < a
over a b e = elim (leb_tells a b) as (λ _. b < a) [
  | inl holds ↦ (let fails = sym holds.0 ∙ e in absurd (cc))
  | inr fails ↦ fails.1
]

-- the greater of two numbers, and the other
higher : (s u : ℕ) → (s ≡ u → ⊥) → (b : Bool) × (cond b (max s u) (min s u) ≡ s) × (cond b (min s u) (max s u) ≡ u)
higher s u two = go (nat_le u s) refl where
  go : (c : Bool) → nat_le u s ≡ c → (b : Bool) × (cond b (max s u) (min s u) ≡ s) × (cond b (min s u) (max s u) ≡ u)
  go true e = let less = leb-true u s e in (true, omega (arith, less), omega (arith, less))
  go false e = let less = over u s e in (false, omega (arith, less), omega (arith, less))

differ : (a b : ℕ) → (a ≡ b → ⊥) → nat_eq a b ≡ false
differ a b two = go (nat_eq a b) refl where
  go : (c : Bool) → nat_eq a b ≡ c → c ≡ false
  go true e = absurd (two (eqb-true a b e))
  go false e = refl

pub made_resolved : (log : List Entry) (p : Pending) (n : ℕ) (descends : Descends) (left right : Pending) (m : ℕ) → IsResolvedAt log p descends → IsOf log p n descends left right m → IsResolved log p n left right m
made_resolved log p n descends left right m r x =
    let s = descends.solved in
    let u = descends.unsolved in
    let which = higher s u r.origin.2 in
    let key_is = r.origin.0 in
    let solved_is : solved_of r.entry.key which.0 ≡ s = ap (λ (k : Key). solved_of k which.0) key_is ∙ which.1 in
    let unsolved_is : unsolved_of r.entry.key which.0 ≡ u = ap (λ (k : Key). unsolved_of k which.0) key_is ∙ which.2 in
    record {
      entry = r.entry;
      major_solved = which.0;
      solved = x.solved;
      unsolved = x.unsolved;
      met = x.met;
      part = x.part;
      at = r.at;
      order = ap (λ (k : Key). nat_eq k.major k.minor) key_is ∙ differ (max s u) (min s u) (λ e. r.origin.2 (apart s u e));
      solved_at = ap (numbered log) solved_is ∙ x.solved_at;
      unsolved_at = ap (numbered log) unsolved_is ∙ x.unsolved_at;
      left_solved = x.of_both.left_solved;
      meets = x.of_both.meets;
      small_raw = x.of_both.small_raw;
      part_at = ap (λ (k : Key). numbered (telling_parts x.met.raw) k.number) key_is ∙ x.part_at;
      is_left = x.is_left ∙ ap (λ k. parent k (closing p.terms n (met_variables x.met x.part)) x.met.lefts) (sym solved_is);
      is_right = x.is_right ∙ ap (λ k. parent k (closing p.terms n (met_variables x.met x.part)) x.met.rights) (sym unsolved_is);
      small = x.small;
      next = x.next;
    }

-- the solved parent is the one that is called so
swapped : (log : List Entry) (s : ℕ) (e f : Entry) → numbered log s ≡ Some e → is_solved e.clause.hypotheses ≡ true → numbered log s ≡ Some f → (met : Meeting) (solved : Clause Term) → Meets solved f.clause met → ⊥
swapped log s e f here solved there met other meets =
    let same = of_some e f (sym here ∙ there) in
    let none = (select-none f.clause.hypotheses).1 (subst (λ (d : Entry). is_solved d.clause.hypotheses ≡ true) same solved) in
    let clash : Some meets.at ≡ None = sym meets.selected ∙ none in cc

which_solved : (log : List Entry) (s u : ℕ) (b : Bool) (e f g : Entry) → (s ≡ u → ⊥) → numbered log s ≡ Some e → is_solved e.clause.hypotheses ≡ true → numbered log (cond b (max s u) (min s u)) ≡ Some f → numbered log (cond b (min s u) (max s u)) ≡ Some g
    → (met : Meeting) → Meets f.clause g.clause met → (cond b (max s u) (min s u) ≡ s) × (cond b (min s u) (max s u) ≡ u)
which_solved log s u b e f g two here solved first second met meets = go b (nat_le u s) refl first second where
  go : (b c : Bool) → nat_le u s ≡ c → numbered log (cond b (max s u) (min s u)) ≡ Some f → numbered log (cond b (min s u) (max s u)) ≡ Some g → (cond b (max s u) (min s u) ≡ s) × (cond b (min s u) (max s u) ≡ u)
  go true true h first second = let less = leb-true u s h in (omega (arith, less), omega (arith, less))
  go false false h first second = let less = over u s h in (omega (arith, less), omega (arith, less))
  go true false h first second = let less = over u s h in let is : min s u ≡ s = omega (arith, less) in absurd (swapped log s e g here solved (ap (numbered log) (sym is) ∙ second) met f.clause meets)
  go false true h first second = let less = leb-true u s h in let is : max s u ≡ s = omega (arith, less) in absurd (swapped log s e g here solved (ap (numbered log) (sym is) ∙ second) met f.clause meets)

pub resolved_of_both : (log : List Entry) (p : Pending) (n : ℕ) (descends : Descends) (left right : Pending) (m : ℕ) → IsResolvedAt log p descends → IsResolved log p n left right m → IsOf log p n descends left right m
resolved_of_both log p n descends left right m r x =
    let s = descends.solved in
    let u = descends.unsolved in
    let same = of_some x.entry r.entry (sym x.at ∙ r.at) in
    let key_is : x.entry.key ≡ key (max s u) (min s u) descends.number = ap (λ (e : Entry). e.key) same ∙ r.origin.0 in
    let solved_at = ap (λ (k : Key). numbered log (solved_of k x.major_solved)) (sym key_is) ∙ x.solved_at in
    let unsolved_at = ap (λ (k : Key). numbered log (unsolved_of k x.major_solved)) (sym key_is) ∙ x.unsolved_at in
    let which = which_solved log s u x.major_solved r.origin.1.0 x.solved x.unsolved r.origin.2 r.origin.1.1 r.origin.1.2 solved_at unsolved_at x.met x.meets in
    let solved_is : solved_of x.entry.key x.major_solved ≡ s = ap (λ (k : Key). solved_of k x.major_solved) key_is ∙ which.0 in
    let unsolved_is : unsolved_of x.entry.key x.major_solved ≡ u = ap (λ (k : Key). unsolved_of k x.major_solved) key_is ∙ which.1 in
    record {
      solved = x.solved;
      unsolved = x.unsolved;
      met = x.met;
      part = x.part;
      solved_at = ap (numbered log) (sym which.0) ∙ solved_at;
      unsolved_at = ap (numbered log) (sym which.1) ∙ unsolved_at;
      of_both = record { left_solved = x.left_solved; meets = x.meets; small_raw = x.small_raw };
      part_at = ap (λ (k : Key). numbered (telling_parts x.met.raw) k.number) (sym key_is) ∙ x.part_at;
      is_left = x.is_left ∙ ap (λ k. parent k (closing p.terms n (met_variables x.met x.part)) x.met.lefts) solved_is;
      is_right = x.is_right ∙ ap (λ k. parent k (closing p.terms n (met_variables x.met x.part)) x.met.rights) unsolved_is;
      small = x.small;
      next = x.next;
    }

-- what the parents' variables stand for is within the limit of size then
pub small_before : (log : List Entry) (p : Pending) (n : ℕ) (descends : Descends) (left right : Pending) (m : ℕ) → (x : IsOf log p n descends left right m) → IsSmall x.met
small_before log p n descends left right m x =
    let s = closing p.terms n (met_variables x.met x.part) in
    let terms : left.terms ++ right.terms ≡ map (bind s) (x.met.lefts ++ x.met.rights) =
    (λ i. (x.is_left i).terms ++ (x.is_right i).terms) ∙ sym (map-append (bind s) x.met.lefts x.met.rights) in
    any_under s (x.met.lefts ++ x.met.rights) (sym (ap (list_any is_large_term) terms) ∙ x.small)

-- the terms of the parents are the same by each meeting of the two
pub terms_of_both : (log : List Entry) (p : Pending) (n : ℕ) (descends : Descends) (left right : Pending) (m : ℕ) (solved unsolved : Entry) (met : Meeting) (part : Clause Term) → (x : IsOf log p n descends left right m)
    → numbered log descends.solved ≡ Some solved → numbered log descends.unsolved ≡ Some unsolved → Meets solved.clause unsolved.clause met → numbered (telling_parts met.raw) descends.number ≡ Some part
    → left.terms ++ right.terms ≡ map (bind (closing p.terms n (met_variables met part))) met.lefts ++ map (bind (closing p.terms n (met_variables met part))) met.rights
terms_of_both log p n descends left right m solved unsolved met part x solved_at unsolved_at meets part_at =
    let first = of_some x.solved solved (sym x.solved_at ∙ solved_at) in
    let second = of_some x.unsolved unsolved (sym x.unsolved_at ∙ unsolved_at) in
    let here : Meets solved.clause unsolved.clause x.met = subst (λ (e : Entry). Meets e.clause unsolved.clause x.met) first (subst (λ (e : Entry). Meets x.solved.clause e.clause x.met) second x.of_both.meets) in
    let same = descents_same solved.clause unsolved.clause descends.number p.terms n x.met met x.part part here meets x.part_at part_at in
    (λ i. (x.is_left i).terms ++ (x.is_right i).terms) ∙ (λ i. same.0 i ++ same.1 i)

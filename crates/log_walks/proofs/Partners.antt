-- What is found by the lists of live entries: a partner, and a due pair.
use Rattle.std.proofs.Common.{◌≡◌, ◌⊎◌, ◌∙◌, ℕ, zero, suc, ◌-◌, ◌<◌, ◌≤◌, Bool, true, false, not, true≢false, Option, Some, None, option_map, List, length, get_or, refl, ap, sym, subst, inl, inr, arith}
use Rattle.std.specs.Prelude.{slice_get, is_some}
use Rattle.std.proofs.lemmas.Option.{slice_get-map}
use Rattle.spec_terms.specs.Term.{Term}
use Rattle.spec_calculus.specs.Points.{numbered}
use Rattle.spec_clauses.specs.Fact.{Clause}
use Rattle.spec_clauses.specs.Selection.{Selection, select, is_solved}
use Rattle.spec_clauses.specs.Resolvents.{NoUnifier, Resolves}
use Rattle.spec_clauses.proofs.Selection.{select-none}
use Rattle.spec_fingerprints.specs.Fingerprints.{may_meet, clause_print}
use Rattle.spec_fingerprints.proofs.Meeting.{solved_first_apart, unsolved_first_apart}
use Rattle.clause_form.specs.Seen.{clause_at}
use Rattle.fact_fingerprint.specs.declared.fingerprints.Fingerprint.{Fingerprint}
use Rattle.fact_fingerprint.specs.Seen.{fingerprint_seen}
use Rattle.log_entries.specs.declared.log.Entry.{Entry}
use Rattle.log_walks.specs.declared.stops.Pair.{Pair}
use Rattle.log_entries.specs.Logs.{is_unbeaten}
use Rattle.fact_classes.specs.Classes.{class_of}
use Rattle.log_entries.specs.Classes.{class_if, class_at}
use Rattle.log_entries.specs.Live.{AreNumbersOf, kept_prints, prints_of, may_both, meets_at, IsPartner}
use Rattle.log_entries.specs.Numbers.{IsAmong, AreNumbersWithin, is_live_entry, is_live_at}
use Rattle.log_walks.specs.Pairs.{major, minor, IsDuePair, NoDuePair, GivesAnswer, ArePassedBy, AllArePassedBy, IsFirstPair}
use Rattle.log_walks.proofs.Found.{later_solved, earlier_solved}
use Rattle.log_entries.proofs.Placing.{numbered_at, one_entry}
use Rattle.clause_offers.proofs.Covers.{listed_within}

-- the fingerprint of an entry by its number
number_printed : (all : List Term) (es : List Entry) (ps : List Fingerprint) (n : ℕ) (x : Entry) → kept_prints ps ≡ prints_of all es → numbered es n ≡ Some x → numbered (kept_prints ps) n ≡ Some (clause_print (clause_at all x.clause))
number_printed all es ps zero x same at = cc
number_printed all es ps (suc k) x same at = ap (λ l. slice_get l k) same ∙ (slice_get-map (λ (e : Entry). clause_print (clause_at all e.clause)) es k ∙ ap (option_map (λ (e : Entry). clause_print (clause_at all e.clause))) at)

-- those of two numbers, as they are kept
kept_at : (ps : List Fingerprint) (n : ℕ) (p : Fingerprint) → numbered ps n ≡ Some p → numbered (kept_prints ps) n ≡ Some (fingerprint_seen p)
kept_at ps zero p at = cc
kept_at ps (suc k) p at = slice_get-map fingerprint_seen ps k ∙ ap (option_map fingerprint_seen) at

pub meets_there : (ps : List Fingerprint) (later number : ℕ) (p q : Fingerprint) (found : Bool) → p ≡ get_or ps (number - 1) p → q ≡ get_or ps (later - 1) q → 0 < number → number ≤ length ps → 0 < later → later ≤ length ps
    → found ≡ may_meet (fingerprint_seen p) (fingerprint_seen q) → found ≡ meets_at (kept_prints ps) later number
meets_there ps later number p q found first second some within some_later later_within told =
    let left = kept_at ps number p (numbered_at ps number p first some within) in
    let right = kept_at ps later q (numbered_at ps later q second some_later later_within) in
    told ∙ sym (λ i. may_both (left i) (right i))

-- where fingerprints tell a due pair apart, it has no unifier
told_answer : (all : List Term) (es : List Entry) (pair : Pair) (due : IsDuePair all es (major pair) (minor pair) pair)
    → (may_meet (clause_print (clause_at all due.solved.clause)) (clause_print (clause_at all due.unsolved.clause)) ≡ false) ⊎ (may_meet (clause_print (clause_at all due.unsolved.clause)) (clause_print (clause_at all due.solved.clause)) ≡ false)
    → GivesAnswer all es pair NoUnifier
told_answer all es pair due apart = go (select (clause_at all due.unsolved.clause).hypotheses) refl
  where
    left : Clause Term
    left = clause_at all due.solved.clause

    right : Clause Term
    right = clause_at all due.unsolved.clause

    go : (o : Option Selection) → select right.hypotheses ≡ o → GivesAnswer all es pair NoUnifier
    go None none = absurd (true≢false (sym ((select-none right.hypotheses).0 none) ∙ due.right_unsolved))
    go (Some at) selected = record {
      due = due;
      at = at;
      selected = selected;
      give = elim apart as (λ _. Resolves left right at NoUnifier) [
        | inl h ↦ solved_first_apart left right at selected due.left_solved h
        | inr h ↦ unsolved_first_apart left right at selected due.left_solved h
      ];
    }

-- who isn't listed as of the other kind is in no due pair
same_kind : (all : List Term) (es : List Entry) (later earlier : ℕ) (x y : Entry) → numbered es later ≡ Some x → numbered es earlier ≡ Some y → is_solved (clause_at all x.clause).hypotheses ≡ is_solved (clause_at all y.clause).hypotheses → NoDuePair all es later earlier
same_kind all es later earlier x y p q same = λ last first at there live too.
    ap (λ (z : Entry). is_solved (clause_at all z.clause).hypotheses) (one_entry es later last x at p) ∙ (same ∙ ap (λ (z : Entry). is_solved (clause_at all z.clause).hypotheses) (one_entry es earlier y first q there))

-- Of an entry and the numbers of those of the other kind: each earlier one is passed by, if it is among these only where fingerprints
-- tell it apart.
module _ (all : List Term) (es : List Entry) (ps : List Fingerprint) (later : ℕ) (x : Entry) (printed : kept_prints ps ≡ prints_of all es) (p : numbered es later ≡ Some x) (live : x.by ≡ None) where
  told : (earlier : ℕ) (y : Entry) → numbered es earlier ≡ Some y → meets_at (kept_prints ps) later earlier ≡ false → may_meet (clause_print (clause_at all y.clause)) (clause_print (clause_at all x.clause)) ≡ false
  told earlier y q none =
      let first = number_printed all es ps earlier y printed q in
      let second = number_printed all es ps later x printed p in
      sym (λ i. may_both (first i) (second i)) ∙ none

  apart_solved : (earlier : ℕ) (y : Entry) → earlier < later → numbered es earlier ≡ Some y → y.by ≡ None → is_solved (clause_at all x.clause).hypotheses ≡ true → is_solved (clause_at all y.clause).hypotheses ≡ false → meets_at (kept_prints ps) later earlier ≡ false → ArePassedBy all es later earlier
  apart_solved earlier y order q too kind other none =
      let pair : Pair = record { solved = later; unsolved = earlier } in
      let due : IsDuePair all es (major pair) (minor pair) pair = record {
        solved = x;
        unsolved = y;
        solved_at = p;
        unsolved_at = q;
        is_later = refl;
        is_earlier = refl;
        order = omega (arith, order);
        solved_live = live;
        unsolved_live = too;
        left_solved = kind;
        right_unsolved = other;
      } in
      inr (record { pair = pair; is_later = omega (arith, order); is_earlier = omega (arith, order); gives = told_answer all es pair due (inr (told earlier y q none)) })

  apart_unsolved : (earlier : ℕ) (y : Entry) → earlier < later → numbered es earlier ≡ Some y → y.by ≡ None → is_solved (clause_at all x.clause).hypotheses ≡ false → is_solved (clause_at all y.clause).hypotheses ≡ true → meets_at (kept_prints ps) later earlier ≡ false → ArePassedBy all es later earlier
  apart_unsolved earlier y order q too kind other none =
      let pair : Pair = record { solved = earlier; unsolved = later } in
      let due : IsDuePair all es (major pair) (minor pair) pair = record {
        solved = y;
        unsolved = x;
        solved_at = q;
        unsolved_at = p;
        is_later = refl;
        is_earlier = refl;
        order = omega (arith, order);
        solved_live = too;
        unsolved_live = live;
        left_solved = other;
        right_unsolved = kind;
      } in
      inr (record { pair = pair; is_later = omega (arith, order); is_earlier = omega (arith, order); gives = told_answer all es pair due (inl (told earlier y q none)) })

  passed_by_number : (b : Bool) (ns : List ℕ) → is_solved (clause_at all x.clause).hypotheses ≡ b → AreNumbersOf all es (not b) ns → (earlier : ℕ) → earlier < later → (IsAmong ns earlier → meets_at (kept_prints ps) later earlier ≡ false) → ArePassedBy all es later earlier
  passed_by_number b ns kind numbers earlier order none = go (numbered es earlier) refl
    where
      of_kinds : (y : Entry) → numbered es earlier ≡ Some y → y.by ≡ None → (b c : Bool) → is_solved (clause_at all x.clause).hypotheses ≡ b → is_solved (clause_at all y.clause).hypotheses ≡ c → AreNumbersOf all es (not b) ns → ArePassedBy all es later earlier
      of_kinds y at too true true kind also numbers = inl (same_kind all es later earlier x y p at (kind ∙ sym also))
      of_kinds y at too false false kind also numbers = inl (same_kind all es later earlier x y p at (kind ∙ sym also))
      of_kinds y at too true false kind also numbers = apart_solved earlier y order at too kind also (none (numbers.every earlier (record { entry = y; at = at; live = too; kind = also })))
      of_kinds y at too false true kind also numbers = apart_unsolved earlier y order at too kind also (none (numbers.every earlier (record { entry = y; at = at; live = too; kind = also })))

      of_entry : (y : Entry) → numbered es earlier ≡ Some y → (o : Option ℕ) → y.by ≡ o → ArePassedBy all es later earlier
      of_entry y at None too = of_kinds y at too b (is_solved (clause_at all y.clause).hypotheses) kind refl numbers
      of_entry y at (Some n) dead = inl (λ last first last_at first_at last_live first_live.
          (let same = one_entry es earlier first y first_at at in let wrong : None ≡ Some n = sym first_live ∙ (ap (λ (z : Entry). z.by) same ∙ dead) in cc))

      go : (o : Option Entry) → numbered es earlier ≡ o → ArePassedBy all es later earlier
      go (Some y) at = of_entry y at y.by refl
      go None at = inl (λ last first last_at first_at last_live first_live. (let wrong : None ≡ Some first = sym at ∙ first_at in cc))

  pub no_next : (from : ℕ) (b : Bool) (ns : List ℕ) → is_solved (clause_at all x.clause).hypotheses ≡ b → AreNumbersOf all es (not b) ns → IsPartner (meets_at (kept_prints ps) later) ns later from None → AllArePassedBy all es later from later
  no_next from b ns kind numbers none = λ earlier least order. passed_by_number b ns kind numbers earlier order (λ among. none earlier among least order)

  -- the first partner makes the next due pair
  first_pair : (from n : ℕ) (b : Bool) (ns : List ℕ) (pair : Pair) → IsDuePair all es later n pair → is_solved (clause_at all x.clause).hypotheses ≡ b → AreNumbersOf all es (not b) ns → IsPartner (meets_at (kept_prints ps) later) ns later from (Some n) → IsFirstPair all es later from pair
  first_pair from n b ns pair due kind numbers found =
      let is = due.is_earlier in
      let least = found.1 in
      let order = found.2 in
      record {
        due = subst (λ k. IsDuePair all es later k pair) (sym is) due;
        from_there = omega (arith, is, least);
        none = λ earlier from_there before. passed_by_number b ns kind numbers earlier (omega (arith, before, is, order)) (λ among. found.3 earlier among from_there (omega (arith, before, is)));
      }

  pub next_solved : (from n : ℕ) (ns : List ℕ) → is_solved (clause_at all x.clause).hypotheses ≡ true → AreNumbersOf all es false ns → IsPartner (meets_at (kept_prints ps) later) ns later from (Some n) → IsFirstPair all es later from (record { solved = later; unsolved = n })
  next_solved from n ns kind numbers found =
      let there = numbers.live n found.0 in
      first_pair from n true ns (record { solved = later; unsolved = n })
      (later_solved all es later n x there.entry found.2 p there.at live there.live kind there.kind) kind numbers found

  pub next_unsolved : (from n : ℕ) (ns : List ℕ) → is_solved (clause_at all x.clause).hypotheses ≡ false → AreNumbersOf all es true ns → IsPartner (meets_at (kept_prints ps) later) ns later from (Some n) → IsFirstPair all es later from (record { solved = n; unsolved = later })
  next_unsolved from n ns kind numbers found =
      let there = numbers.live n found.0 in
      first_pair from n false ns (record { solved = n; unsolved = later })
      (earlier_solved all es later n x there.entry found.2 p there.at live there.live kind there.kind) kind numbers found

-- an entry that isn't live is in none
pub none_dead : (all : List Term) (es : List Entry) (later from : ℕ) (x : Entry) → numbered es later ≡ Some x → is_some x.by ≡ true → AllArePassedBy all es later from later
none_dead all es later from x p dead = λ earlier least order. inl (λ last first last_at first_at live first_live.
    (let same = one_entry es later x last p last_at in
    absurd (true≢false (sym dead ∙ (ap (λ (y : Entry). is_some y.by) same ∙ ap is_some live)))))

-- numbers of live entries of a kind are of so many, and of live ones
pub kind_within : (all : List Term) (es : List Entry) (b : Bool) (ns ms : List ℕ) (count : ℕ) → ms ≡ ns → count ≡ length es → AreNumbersOf all es b ns → AreNumbersWithin count ms
kind_within all es b ns ms count same many numbers = subst (λ (l : List ℕ). AreNumbersWithin count l) (sym same) (record {
  ascend = numbers.ascend;
  within = λ n among. (let there = listed_within all es b ns ns refl numbers n among in (there.0, (let few = there.1 in omega (arith, few, many))));
})

pub kind_alive : (all : List Term) (es : List Entry) (b : Bool) (ns ms : List ℕ) → ms ≡ ns → AreNumbersOf all es b ns → (n : ℕ) → IsAmong ms n → is_live_at es n ≡ true
kind_alive all es b ns ms same numbers n among =
    let there = numbers.live n (subst (λ (l : List ℕ). IsAmong l n) same among) in
    ap is_live_entry there.at ∙ ap is_unbeaten there.live

-- the class of a number is that of its fingerprint
pub class_there : (ps : List Fingerprint) (later : ℕ) (p : Fingerprint) (o : Option ℕ) → p ≡ get_or ps (later - 1) p → 0 < later → later ≤ length ps → o ≡ class_of (fingerprint_seen p) → class_at (kept_prints ps) later ≡ o
class_there ps later p o is some within told = ap class_if (kept_at ps later p (numbered_at ps later p is some within)) ∙ sym told

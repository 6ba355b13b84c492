-- The places of the live clauses by the classes of their conclusions, and what the first of some that covers a clause tells of all.
use Rattle.std.proofs.Common.{◌≡◌, ◌⊎◌, ◌∙◌, ℕ, zero, suc, ◌+◌, ◌<◌, ◌≤◌, false, Option, Some, None, List, [], ◌∷◌, ◌++◌, length, map, take, get_or, refl, ap, sym, subst, inl, inr, arith}
use Rattle.std.specs.Prelude.{slice_get, option_map}
use Rattle.std.proofs.lemmas.Bool.{cases_eq, cases_lt}
use Rattle.std.proofs.lemmas.List.{length-append, length-map, get_or_past, map_more, take_all}
use Rattle.std.proofs.lemmas.Option.{slice_get-map, slice_get-get_or, slice_get_within}
use Rattle.spec_terms.specs.Term.{Term}
use Rattle.spec_terms.proofs.Replace.{some_same}
use Rattle.spec_clauses.specs.Fact.{Clause, Bad}
use Rattle.spec_clauses.specs.Subsumption.{RowHolds, IsFirstRow}
use Rattle.spec_fingerprints.specs.Fingerprints as print
use Rattle.spec_fingerprints.specs.Fingerprints.{may_meet}
use Rattle.spec_saturation.specs.Live.{MustBeCovered}
use Rattle.spec_verdicts.specs.FirstRows.{IsFirstCover}
use Rattle.spec_verdicts.proofs.Finding.{NoneBefore, first_found, none_covers}
use Rattle.clause_form.specs.Seen.{clause_at, IdClause}
use Rattle.clause_form.specs.Fit.{clauses_at}
use Rattle.fact_fingerprint.specs.declared.fingerprints.Fingerprint.{Fingerprint}
use Rattle.fact_fingerprint.specs.Seen.{fingerprint_seen}
use Rattle.fact_classes.specs.declared.classes.Classes.{Classes}
use Rattle.fact_classes.specs.Classes.{class_of, listed, IsEmptyClasses, IsClassListed}
use Rattle.fact_classes.proofs.Classing.{classes_apart}
use Rattle.log_entries.specs.Numbers.{IsAmong, IsAscending}
use Rattle.log_entries.proofs.Numbers.{among_push, among_last, push_among, push_ascends, among_left, among_right, among_either, rising, among_place}
use Rattle.log_entries.proofs.Classing.{one_class}
use Rattle.cert_writer.specs.declared.covering.Found.{Found}
use Rattle.cert_writer.specs.declared.writer.Writer.{Writer}
use Rattle.cert_writer.specs.Ready.{conclusion_print, IsReady}
use Rattle.cert_writer.specs.Classed.{AreOfClass, AreClassed, NoRowAt, IsFirstAmong}
use Rattle.cert_writer.proofs.Items.{fit_normal}
use Rattle.cert_writer.proofs.Prints.{no_row}

abbrev no_clause : IdClause
no_clause = record { hypotheses = []; diffs = []; conclusion = Bad [] }

-- what stands at a place of a list with an item more
at_push : {X : Type 0} (xs : List X) (y : X) (n : ℕ) (x : X) → slice_get (xs ++ y ∷ []) n ≡ Some x → (slice_get xs n ≡ Some x) ⊎ ((n ≡ length xs) × (y ≡ x))
at_push [] y zero x at = inr (refl, cc)
at_push [] y (suc n) x at = cc
at_push (z ∷ xs) y zero x at = inl at
at_push (z ∷ xs) y (suc n) x at = elim (at_push xs y n x at) [
  | inl before ↦ inl before
  | inr last ↦ inr (let place = last.0 in (omega (arith, place), last.1))
]

-- no places of no fingerprints
pub none_classed : (ps : List print.Fingerprint) (classes : Classes) → ps ≡ [] → IsEmptyClasses classes → AreClassed ps classes
none_classed ps classes none empty = λ class. record {
  ascend = subst (λ (own : List ℕ). IsAscending 0 own) (sym (nothing class)) tt;
  within = λ n among. absurd (subst (λ (own : List ℕ). IsAmong own n) (nothing class) among);
  every = λ n p at is. absurd (nowhere n p (subst (λ (l : List print.Fingerprint). slice_get l n ≡ Some p) none at));
}
  where
    nothing : (class : Option ℕ) → listed classes class ≡ []
    nothing None = empty.rest
    nothing (Some class) = ap (λ ls. get_or (map (λ l. l.items) ls) class []) empty.lists ∙ get_or_past [] class [] (omega arith)

    nowhere : (n : ℕ) (p : print.Fingerprint) → slice_get [] n ≡ Some p → ⊥
    nowhere zero p at = cc
    nowhere (suc n) p at = cc

-- with a fingerprint more its place stands among those of its class
module _ (ps : List print.Fingerprint) (p : print.Fingerprint) (class : Option ℕ) (own : List ℕ) (h : AreOfClass ps class own) where
  longer : length (ps ++ p ∷ []) ≡ length ps + 1
  longer = length-append ps (p ∷ [])

  put_place : (n : ℕ) → n ≡ length ps → AreOfClass (ps ++ p ∷ []) class (own ++ n ∷ [])
  put_place n is = record {
    ascend = push_ascends 0 own n h.ascend (omega arith) (λ m among. let few = h.within m among in omega (arith, few, is));
    within = λ m among. elim (push_among own n m among) as (λ _. m < length (ps ++ p ∷ [])) [
      | inl before ↦ (let few = h.within m before in omega (arith, few, longer))
      | inr last ↦ omega (arith, last, is, longer)
    ];
    every = λ m q at told. elim (at_push ps p m q at) as (λ _. IsAmong (own ++ n ∷ []) m) [
      | inl before ↦ among_push own n m (h.every m q before told)
      | inr last ↦ (let place = last.0 in let same : n ≡ m = omega (arith, is, place) in subst (λ k. IsAmong (own ++ n ∷ []) k) same (among_last own n))
    ];
  }

  skip_place : (class ≡ class_of p → ⊥) → AreOfClass (ps ++ p ∷ []) class own
  skip_place differ = record {
    ascend = h.ascend;
    within = λ m among. (let few = h.within m among in omega (arith, few, longer));
    every = λ m q at told. elim (at_push ps p m q at) as (λ _. IsAmong own m) [
      | inl before ↦ h.every m q before told
      | inr last ↦ absurd (differ (sym told ∙ ap class_of (sym last.1)))
    ];
  }

pub place_more : (ps : List print.Fingerprint) (p : print.Fingerprint) (old new : Classes) (n : ℕ) → n ≡ length ps → IsClassListed (class_of p) n old new → AreClassed ps old → AreClassed (ps ++ p ∷ []) new
place_more ps p old new n is put h = λ class. go class (one_class class (class_of p))
  where
    go : (class : Option ℕ) → (class ≡ class_of p) ⊎ (class ≡ class_of p → ⊥) → AreOfClass (ps ++ p ∷ []) class (listed new class)
    go class (inl same) =
        let own : listed new class ≡ listed old class ++ n ∷ [] = ap (listed new) same ∙ (put.here ∙ ap (λ c. listed old c ++ n ∷ []) (sym same)) in
        subst (λ (l : List ℕ). AreOfClass (ps ++ p ∷ []) class l) (sym own) (put_place ps p class (listed old class) (h class) n is)
    go class (inr differ) = subst (λ (l : List ℕ). AreOfClass (ps ++ p ∷ []) class l) (sym (put.elsewhere class differ)) (skip_place ps p class (listed old class) (h class) differ)

-- so with one of a list more
pub print_classed : (ps : List Fingerprint) (i : ℕ) (d : Fingerprint) (old new : Classes) → i < length ps → IsClassListed (class_of (fingerprint_seen (get_or ps i d))) i old new → AreClassed (map fingerprint_seen (take i ps)) old → AreClassed (map fingerprint_seen (take (i + 1) ps)) new
print_classed ps i d old new within put h =
    subst (λ (l : List print.Fingerprint). AreClassed l new) (sym (map_more fingerprint_seen ps i d within)) (place_more (map fingerprint_seen (take i ps)) (fingerprint_seen (get_or ps i d)) old new i (taken ps i within) put h)
  where
    taken : (ps : List Fingerprint) (i : ℕ) → i < length ps → i ≡ length (map fingerprint_seen (take i ps))
    taken [] i within = absurd (omega (arith, within))
    taken (q ∷ ps) zero within = refl
    taken (q ∷ ps) (suc i) within = ap suc (taken ps i (omega (arith, within)))

pub prints_classed : (ps : List Fingerprint) (i : ℕ) (classes : Classes) → length ps ≤ i → AreClassed (map fingerprint_seen (take i ps)) classes → AreClassed (map fingerprint_seen ps) classes
prints_classed ps i classes past h = subst (λ (l : List Fingerprint). AreClassed (map fingerprint_seen l) classes) (take_all i ps past) h

-- Of places that ascend: at none before one a row holds.
pub record NoneOf (all : List Term) (live : List IdClause) (c : Clause Term) (places : List ℕ) (i : ℕ) : Type 0 where
  pub none : (j : ℕ) → j < i → NoRowAt all live c (get_or places j 0)

pub none_of_more : (all : List Term) (live : List IdClause) (c : Clause Term) (places : List ℕ) (i : ℕ) → NoRowAt all live c (get_or places i 0) → NoneOf all live c places i → NoneOf all live c places (i + 1)
none_of_more all live c places i here h = record {
  none = λ j less. elim (cases_lt j i) as (λ _. NoRowAt all live c (get_or places j 0)) [
    | inl earlier ↦ h.none j earlier
    | inr later ↦ (let same : i ≡ j = omega (arith, less, later) in subst (λ k. NoRowAt all live c (get_or places k 0)) same here)
  ];
}

none_below : (all : List Term) (live : List IdClause) (c : Clause Term) (places : List ℕ) (i : ℕ) → IsAscending 0 places → i < length places → NoneOf all live c places i → (n : ℕ) → IsAmong places n → n < get_or places i 0 → NoRowAt all live c n
none_below all live c places i up within h n among less =
    let there = among_place places n among in
    elim (cases_lt there.0 i) as (λ _. NoRowAt all live c n) [
      | inl before ↦ subst (λ k. NoRowAt all live c k) there.2 (h.none there.0 before)
      | inr behind ↦ (let rises = rising 0 places up i there.0 0 behind there.1 in let is = there.2 in absurd (omega (arith, rises, is, less)))
    ]

pub first_there : (all : List Term) (live : List IdClause) (c : Clause Term) (places : List ℕ) (i : ℕ) (found : Found) → IsAscending 0 places → i < length places → found.place ≡ get_or places i 0 → IsAmong places (get_or places i 0) → NoneOf all live c places i
    → ((general : IdClause) → slice_get live (get_or places i 0) ≡ Some general → IsFirstRow (clause_at all general) c found.row) → IsFirstAmong all live c places (Some found)
first_there all live c places i found up within is among none first = (
  subst (λ k. IsAmong places k) (sym is) among,
  λ general there. first general (subst (λ k. slice_get live k ≡ Some general) is there),
  λ n there less. none_below all live c places i up within none n there (omega (arith, is, less)),
)

pub none_there : (all : List Term) (live : List IdClause) (c : Clause Term) (places : List ℕ) (i : ℕ) → length places ≤ i → NoneOf all live c places i → IsFirstAmong all live c places None
none_there all live c places i past h = λ n among. (let there = among_place places n among in let inside = there.1 in subst (λ k. NoRowAt all live c k) there.2 (h.none there.0 (omega (arith, inside, past))))

-- of two lists: the one at the lesser place is the first of both
module _ (all : List Term) (live : List IdClause) (c : Clause Term) (ms ns : List ℕ) where
  pub neither : IsFirstAmong all live c ms None → IsFirstAmong all live c ns None → IsFirstAmong all live c (ms ++ ns) None
  neither left right = λ n among. elim (among_either ms ns n among) as (λ _. NoRowAt all live c n) [
    | inl there ↦ left n there
    | inr there ↦ right n there
  ]

  pub left_first : (f : Found) → IsFirstAmong all live c ms (Some f) → ((n : ℕ) → IsAmong ns n → n < f.place → NoRowAt all live c n) → IsFirstAmong all live c (ms ++ ns) (Some f)
  left_first f left right = (
    among_left ms ns f.place left.0,
    left.1,
    λ n among less. elim (among_either ms ns n among) as (λ _. NoRowAt all live c n) [
      | inl there ↦ left.2 n there less
      | inr there ↦ right n there less
    ],
  )

  pub right_first : (f : Found) → IsFirstAmong all live c ns (Some f) → ((n : ℕ) → IsAmong ms n → n < f.place → NoRowAt all live c n) → IsFirstAmong all live c (ms ++ ns) (Some f)
  right_first f right left = (
    among_right ms ns f.place right.0,
    right.1,
    λ n among less. elim (among_either ms ns n among) as (λ _. NoRowAt all live c n) [
      | inl there ↦ left n there less
      | inr there ↦ right.2 n there less
    ],
  )

-- where a clause's conclusion is of a class, no other live clause covers it but those of the class and of none
pub class_before : (all : List Term) (w : Writer) (special : Clause Term) (p : print.Fingerprint) (class k : ℕ) → IsReady all w → p ≡ conclusion_print special → Some class ≡ class_of p
    → ((n : ℕ) → IsAmong (listed w.classes.now (Some class) ++ listed w.classes.now None) n → n < k → NoRowAt all w.live.now special n) → NoneBefore (clauses_at all w.live.now) special k
class_before all w special p class k ready printed told none = record { none = λ n general row less at h. go n general row less at h (class_of (conclusion_print general)) refl }
  where
    own : List ℕ
    own = listed w.classes.now (Some class)

    rest : List ℕ
    rest = listed w.classes.now None

    seen : (n : ℕ) (general : Clause Term) → slice_get (clauses_at all w.live.now) n ≡ Some general → slice_get (map fingerprint_seen w.prints.now) n ≡ Some (conclusion_print general)
    seen n general at = ap (λ l. slice_get l n) ready.prints ∙ (slice_get-map conclusion_print (clauses_at all w.live.now) n ∙ ap (option_map conclusion_print) at)

    holds : (n : ℕ) (general : Clause Term) (row : List ℕ) → slice_get (clauses_at all w.live.now) n ≡ Some general → NoRowAt all w.live.now special n → RowHolds general special row → ⊥
    holds n general row at never h =
        let few = slice_get_within (clauses_at all w.live.now) n general at in
        let many = length-map w.live.now (clause_at all) in
        let there = slice_get-get_or w.live.now n no_clause (omega (arith, few, many)) in
        let same : clause_at all (get_or w.live.now n no_clause) ≡ general = some_same (sym (slice_get-map (clause_at all) w.live.now n ∙ ap (option_map (clause_at all)) there) ∙ at) in
        never (get_or w.live.now n no_clause) there row (subst (λ (g : Clause Term). RowHolds g special row) (sym same) h)

    go : (n : ℕ) (general : Clause Term) (row : List ℕ) → n < k → slice_get (clauses_at all w.live.now) n ≡ Some general → RowHolds general special row → (o : Option ℕ) → class_of (conclusion_print general) ≡ o → ⊥
    go n general row less at h None is =
        holds n general row at (none n (among_right own rest n ((ready.classes None).every n (conclusion_print general) (seen n general at) is)) less) h
    go n general row less at h (Some j) is = elim (cases_eq j class) as (λ _. ⊥) [
      | inl same ↦ holds n general row at (none n (among_left own rest n ((ready.classes (Some class)).every n (conclusion_print general) (seen n general at) (is ∙ ap Some same))) less) h
      | inr differ ↦ (
          let apart : may_meet (conclusion_print general) p ≡ false = classes_apart (conclusion_print general) p j class is (sym told) differ in
          no_row general special (ap (may_meet (conclusion_print general)) (sym printed) ∙ apart) row h
          )
    ]

-- where one of two lists has none, the first is that of the other
pub only_right : (all : List Term) (live : List IdClause) (c : Clause Term) (ms ns : List ℕ) (o : Option Found) → IsFirstAmong all live c ms None → IsFirstAmong all live c ns o → IsFirstAmong all live c (ms ++ ns) o
only_right all live c ms ns None left right = neither all live c ms ns left right
only_right all live c ms ns (Some f) left right = right_first all live c ms ns f right (λ n among less. left n among)

pub only_left : (all : List Term) (live : List IdClause) (c : Clause Term) (ms ns : List ℕ) (f : Found) → IsFirstAmong all live c ms (Some f) → IsFirstAmong all live c ns None → IsFirstAmong all live c (ms ++ ns) (Some f)
only_left all live c ms ns f left right = left_first all live c ms ns f left (λ n among less. right n among)

-- where both have one, it is that at the lesser place
pub lesser_left : (all : List Term) (live : List IdClause) (c : Clause Term) (ms ns : List ℕ) (f h : Found) → f.place < h.place → IsFirstAmong all live c ms (Some f) → IsFirstAmong all live c ns (Some h) → IsFirstAmong all live c (ms ++ ns) (Some f)
lesser_left all live c ms ns f h less left right = left_first all live c ms ns f left (λ n among before. right.2 n among (omega (arith, before, less)))

pub lesser_right : (all : List Term) (live : List IdClause) (c : Clause Term) (ms ns : List ℕ) (f h : Found) → h.place ≤ f.place → IsFirstAmong all live c ms (Some f) → IsFirstAmong all live c ns (Some h) → IsFirstAmong all live c (ms ++ ns) (Some h)
lesser_right all live c ms ns f h most left right = right_first all live c ms ns h right (λ n among before. left.2 n among (omega (arith, before, most)))

-- the places are those of live clauses
pub places_within : (all : List Term) (w : Writer) → IsReady all w → (class : Option ℕ) (n : ℕ) → IsAmong (listed w.classes.now class) n → n < length w.live.now
places_within all w ready class n there =
    let prints = ap length ready.prints in
    let clauses = length-map (clauses_at all w.live.now) conclusion_print in
    let many = length-map w.live.now (clause_at all) in
    let few = (ready.classes class).within n there in
    omega (arith, few, prints, clauses, many)

-- what is found is a live clause, and shows the first row of all; where nothing is, the clause isn't covered
module _ (all : List Term) (w : Writer) (special : Clause Term) (p : print.Fingerprint) (class : ℕ) (ready : IsReady all w) (printed : p ≡ conclusion_print special) (told : Some class ≡ class_of p) where
  pub found_within : (f : Found) → IsFirstAmong all w.live.now special (listed w.classes.now (Some class) ++ listed w.classes.now None) (Some f) → f.place < length w.live.now
  found_within f h = elim (among_either (listed w.classes.now (Some class)) (listed w.classes.now None) f.place h.0) as (λ _. f.place < length w.live.now) [
    | inl there ↦ places_within all w ready (Some class) f.place there
    | inr there ↦ places_within all w ready None f.place there
  ]

  pub found_covers : (f : Found) (number : ℕ) → IsFirstAmong all w.live.now special (listed w.classes.now (Some class) ++ listed w.classes.now None) (Some f) → number ≡ f.place + 1 → IsFirstCover (clauses_at all w.live.now) special (number ∷ f.row)
  found_covers f number h is =
      let there = slice_get-get_or w.live.now f.place no_clause (found_within f h) in
      first_found (clauses_at all w.live.now) special f.place number (clause_at all (get_or w.live.now f.place no_clause)) f.row is
      (slice_get-map (clause_at all) w.live.now f.place ∙ ap (option_map (clause_at all)) there) (h.1 (get_or w.live.now f.place no_clause) there)
      (class_before all w special p class f.place ready printed told (λ n among less. h.2 n among less))

  pub nothing_found : IsFirstAmong all w.live.now special (listed w.classes.now (Some class) ++ listed w.classes.now None) None → MustBeCovered (clauses_at all w.live.now) special → ⊥
  nothing_found h must =
      let many = length-map w.live.now (clause_at all) in
      none_covers (clauses_at all w.live.now) special (fit_normal all w.live.now ready.fit) (length w.live.now) (omega (arith, many)) (class_before all w special p class (length w.live.now) ready printed told (λ n among less. h n among)) must

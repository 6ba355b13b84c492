-- Places in numbers that ascend, and the first of two lists of them that passes a test.
use Rattle.std.proofs.Common.{◌≡◌, ◌⊎◌, ◌∙◌, ℕ, ◌+◌, ◌<◌, ◌≤◌, min, Bool, true, false, ◌&&◌, Option, Some, None, List, [], ◌++◌, length, get_or, ltb, ltb-true, ltb-false, refl, ap, sym, subst, inl, inr, arith}
use Rattle.std.specs.Prelude.{IfSome}
use Rattle.std.specs.List.Sorted.{IsPartitionPoint}
use Rattle.std.proofs.lemmas.Bool.{cases_eq, cases_lt}
use Rattle.std.proofs.lemmas.List.{get_or_default, get_or_past}
use Rattle.spec_trees.proofs.Equality.{and_true}
use Rattle.spec_fingerprints.specs.Fingerprints.{Fingerprint}
use Rattle.log_entries.specs.declared.log.Entry.{Entry}
use Rattle.fact_classes.specs.declared.classes.Classes.{Classes}
use Rattle.log_entries.specs.Numbers.{IsAmong, IsAscending, is_live_at}
use Rattle.fact_classes.specs.Classes.{listed}
use Rattle.log_entries.specs.Classes.{class_at, AreClassed}
use Rattle.log_entries.specs.Live.{meets_at, is_met_at, IsPartner}
use Rattle.log_entries.proofs.Numbers.{among_left, among_right, among_either, place_among, rising, among_place}
use Rattle.log_entries.proofs.Classing.{numbers_apart}

-- the place before which all numbers are less than one
abbrev pub IsPlaceOf : List ℕ → ℕ → ℕ → Type 0
IsPlaceOf ns from place = IsPartitionPoint (λ n. ltb n from ≡ true) (λ n. ltb n from ≡ false) ns place

-- None of the numbers before a place, from one on, passes a test, and none behind it is less than that one.
pub record IsScanned (passes : ℕ → Bool) (ns : List ℕ) (from place : ℕ) : Type 0 where
  pub none : (j : ℕ) → j < place → from ≤ get_or ns j 0 → passes (get_or ns j 0) ≡ false
  pub rest : (j : ℕ) → place ≤ j → j < length ns → from ≤ get_or ns j 0

pub scan_begins : (passes : ℕ → Bool) (ns : List ℕ) (from place : ℕ) → IsPlaceOf ns from place → place ≤ length ns → IsScanned passes ns from place
scan_begins passes ns from place point within = record {
  none = λ j before least. (let less = ltb-true (get_or ns j 0) from (point.0 j 0 (omega (arith, before, within)) before) in absurd (omega (arith, less, least)));
  rest = λ j behind inside. ltb-false (get_or ns j 0) from (point.1 j 0 behind inside);
}

-- one place on, where what stands there doesn't pass
pub scan_on : (passes : ℕ → Bool) (ns : List ℕ) (from place : ℕ) → IsScanned passes ns from place → passes (get_or ns place 0) ≡ false → IsScanned passes ns from (place + 1)
scan_on passes ns from place h here = record {
  none = λ j before least. elim (cases_lt j place) as (λ _. passes (get_or ns j 0) ≡ false) [
    | inl earlier ↦ h.none j earlier least
    | inr behind ↦ (let same : j ≡ place = omega (arith, before, behind) in subst (λ k. passes (get_or ns k 0) ≡ false) (sym same) here)
  ];
  rest = λ j behind inside. h.rest j (omega (arith, behind)) inside;
}

-- so none passes that is less than what stands at the place, or than a bound, where nothing stands there
scan_told : (passes : ℕ → Bool) (ns : List ℕ) (from place later bound n : ℕ) → IsAscending 1 ns → IsScanned passes ns from place → bound ≤ get_or ns place later → IsAmong ns n → from ≤ n → n < bound → passes n ≡ false
scan_told passes ns from place later bound n up h most among least order =
    let there = among_place ns n among in
    elim (cases_lt there.0 place) as (λ _. passes n ≡ false) [
      | inl before ↦ (let is = there.2 in subst (λ k. passes k ≡ false) is (h.none there.0 before (omega (arith, is, least))))
      | inr behind ↦ (
          let inside = there.1 in
          let is = there.2 in
          let rises = rising 1 ns up place there.0 0 behind inside in
          let here = get_or_default ns place later 0 (omega (arith, behind, inside)) in
          absurd (omega (arith, rises, here, is, order, most))
          )
    ]

-- what stands at a place is less than the bound only where something does
stands : (ns : List ℕ) (place later : ℕ) → get_or ns place later < later → place < length ns
stands ns place later less = elim (cases_lt place (length ns)) as (λ _. place < length ns) [
  | inl inside ↦ inside
  | inr past ↦ (let is = get_or_past ns place later past in absurd (omega (arith, less, is)))
]

there_from : (passes : ℕ → Bool) (ns : List ℕ) (from place later number : ℕ) → IsScanned passes ns from place → get_or ns place later ≡ number → number < later → IsAmong ns number × (from ≤ number)
there_from passes ns from place later number h is order =
    let inside = stands ns place later (omega (arith, is, order)) in
    let same : get_or ns place 0 ≡ number = get_or_default ns place 0 later inside ∙ is in
    (subst (λ k. IsAmong ns k) same (place_among ns place 0 inside), (let least = h.rest place (omega arith) inside in omega (arith, least, same)))

-- The first of two lists that passes, where both have been gone through up to a place.
module _ (passes : ℕ → Bool) (ms ns : List ℕ) (later from i j : ℕ) (up : IsAscending 1 ms) (up_too : IsAscending 1 ns) (left : IsScanned passes ms from i) (right : IsScanned passes ns from j) where
  none_below : (bound : ℕ) → bound ≤ get_or ms i later → bound ≤ get_or ns j later → (n : ℕ) → IsAmong (ms ++ ns) n → from ≤ n → n < bound → passes n ≡ false
  none_below bound first second n among least order = elim (among_either ms ns n among) as (λ _. passes n ≡ false) [
    | inl there ↦ scan_told passes ms from i later bound n up left first there least order
    | inr there ↦ scan_told passes ns from j later bound n up_too right second there least order
  ]

  pub no_partner : (number : ℕ) → number ≡ min (get_or ms i later) (get_or ns j later) → later ≤ number → IsPartner passes (ms ++ ns) later from None
  no_partner number is late = none_below later (omega (arith, is, late)) (omega (arith, is, late))

  pub one_partner : (number : ℕ) → number ≡ min (get_or ms i later) (get_or ns j later) → number < later → IsPartner passes (ms ++ ns) later from (Some number)
  one_partner number is order = go (cases_lt (get_or ns j later) (get_or ms i later))
    where
      there : IsAmong (ms ++ ns) number × (from ≤ number) → IsPartner passes (ms ++ ns) later from (Some number)
      there h = (h.0, h.1, order, none_below number (omega (arith, is)) (omega (arith, is)))

      go : (get_or ns j later < get_or ms i later) ⊎ (get_or ms i later ≤ get_or ns j later) → IsPartner passes (ms ++ ns) later from (Some number)
      go (inl less) =
          let same : get_or ns j later ≡ number = omega (arith, is, less) in
          let h = there_from passes ns from j later number right same order in
          there (among_right ms ns number h.0, h.1)
      go (inr most) =
          let same : get_or ms i later ≡ number = omega (arith, is, most) in
          let h = there_from passes ms from i later number left same order in
          there (among_left ms ns number h.0, h.1)

-- a place on in the list of which what stands there is tried and doesn't pass
pub tried_on : (passes : ℕ → Bool) (ns : List ℕ) (from place later number : ℕ) → IsScanned passes ns from place → get_or ns place later ≡ number → number < later → passes number ≡ false → IsScanned passes ns from (place + 1)
tried_on passes ns from place later number h is order none =
    let inside = stands ns place later (omega (arith, is, order)) in
    let same : number ≡ get_or ns place 0 = sym is ∙ get_or_default ns place later 0 inside in
    scan_on passes ns from place h (subst (λ k. passes k ≡ false) same none)

pub tried_inside : (ns : List ℕ) (place later number : ℕ) → get_or ns place later ≡ number → number < later → place < length ns
tried_inside ns place later number is order = stands ns place later (omega (arith, is, order))

-- what stands in one of two lists of numbers that are more than none is more than none
pub one_some : (ms ns : List ℕ) (n : ℕ) → ((m : ℕ) → IsAmong ms m → 0 < m) → ((m : ℕ) → IsAmong ns m → 0 < m) → IsAmong (ms ++ ns) n → 0 < n
one_some ms ns n left right among = elim (among_either ms ns n among) as (λ _. 0 < n) [
  | inl there ↦ left n there
  | inr there ↦ right n there
]

-- Of numbers of live entries, and others that hold all those among them that may meet the later one: the first of the others
-- of which the entry is live and may meet it is the first of them that may.
pub partner_all : (es : List Entry) (ps : List Fingerprint) (numbers own : List ℕ) (later from : ℕ) (r : Option ℕ) → ((n : ℕ) → IsAmong numbers n → is_live_at es n ≡ true) → ((n : ℕ) → IsAmong numbers n → IsAmong own n ⊎ (meets_at ps later n ≡ false))
    → ((n : ℕ) → IsAmong own n → is_live_at es n ≡ true → IsAmong numbers n) → IsPartner (is_met_at es ps later) own later from r → IfSome r (λ n. is_met_at es ps later n ≡ true) → IsPartner (meets_at ps later) numbers later from r
partner_all es ps numbers own later from r alive every live h met = go r h met
  where
    unmet : (n : ℕ) → IsAmong numbers n → (IsAmong own n → is_met_at es ps later n ≡ false) → meets_at ps later n ≡ false
    unmet n among none = elim (every n among) as (λ _. meets_at ps later n ≡ false) [
      | inl there ↦ sym (ap (λ b. b && meets_at ps later n) (alive n among)) ∙ none there
      | inr apart ↦ apart
    ]

    go : (r : Option ℕ) → IsPartner (is_met_at es ps later) own later from r → IfSome r (λ n. is_met_at es ps later n ≡ true) → IsPartner (meets_at ps later) numbers later from r
    go None h met = λ n among least order. unmet n among (λ there. h n there least order)
    go (Some first) h met = (
      live first h.0 (and_true (is_live_at es first) (meets_at ps later first) met).0,
      h.1,
      h.2,
      λ n among least less. unmet n among (λ there. h.3 n there least less),
    )

-- where the later one is in a class, the others are those of the class and of none
pub class_partners : (es : List Entry) (ps : List Fingerprint) (numbers own rest : List ℕ) (classes : Classes) (later from k : ℕ) (r : Option ℕ) → ((n : ℕ) → IsAmong numbers n → is_live_at es n ≡ true) → AreClassed es ps numbers classes → class_at ps later ≡ Some k → own ≡ listed classes (Some k) → rest ≡ listed classes None
    → IsPartner (is_met_at es ps later) (own ++ rest) later from r → IfSome r (λ n. is_met_at es ps later n ≡ true) → IsPartner (meets_at ps later) numbers later from r
class_partners es ps numbers own rest classes later from k r alive classed last here there h met = partner_all es ps numbers (own ++ rest) later from r alive every live h met
  where
    every : (n : ℕ) → IsAmong numbers n → IsAmong (own ++ rest) n ⊎ (meets_at ps later n ≡ false)
    every n among = go (class_at ps n) refl
      where
        go : (o : Option ℕ) → class_at ps n ≡ o → IsAmong (own ++ rest) n ⊎ (meets_at ps later n ≡ false)
        go None is = inl (among_right own rest n (subst (λ (l : List ℕ). IsAmong l n) (sym there) ((classed None).every n among is)))
        go (Some j) is = elim (cases_eq j k) as (λ _. IsAmong (own ++ rest) n ⊎ (meets_at ps later n ≡ false)) [
          | inl same ↦ inl (among_left own rest n (subst (λ (l : List ℕ). IsAmong l n) (sym here) ((classed (Some k)).every n among (is ∙ ap Some same))))
          | inr differ ↦ inr (numbers_apart ps later n j k last is differ)
        ]

    live : (n : ℕ) → IsAmong (own ++ rest) n → is_live_at es n ≡ true → IsAmong numbers n
    live n among told = elim (among_either own rest n among) as (λ _. IsAmong numbers n) [
      | inl first ↦ (classed (Some k)).live n (subst (λ (l : List ℕ). IsAmong l n) here first) told
      | inr second ↦ (classed None).live n (subst (λ (l : List ℕ). IsAmong l n) there second) told
    ]

-- where it is in none, they are these and no more
pub all_partners : (es : List Entry) (ps : List Fingerprint) (numbers own rest : List ℕ) (later from : ℕ) (r : Option ℕ) → ((n : ℕ) → IsAmong numbers n → is_live_at es n ≡ true) → own ≡ numbers → rest ≡ []
    → IsPartner (is_met_at es ps later) (own ++ rest) later from r → IfSome r (λ n. is_met_at es ps later n ≡ true) → IsPartner (meets_at ps later) numbers later from r
all_partners es ps numbers own rest later from r alive here none h met = partner_all es ps numbers (own ++ rest) later from r alive every live h met
  where
    every : (n : ℕ) → IsAmong numbers n → IsAmong (own ++ rest) n ⊎ (meets_at ps later n ≡ false)
    every n among = inl (among_left own rest n (subst (λ (l : List ℕ). IsAmong l n) (sym here) among))

    live : (n : ℕ) → IsAmong (own ++ rest) n → is_live_at es n ≡ true → IsAmong numbers n
    live n among told = elim (among_either own rest n among) as (λ _. IsAmong numbers n) [
      | inl first ↦ subst (λ (l : List ℕ). IsAmong l n) here first
      | inr second ↦ absurd (subst (λ (l : List ℕ). IsAmong l n) none second)
    ]

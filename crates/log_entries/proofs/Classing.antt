-- Numbers that are listed by the classes of the facts of entries, with an entry more.
use Rattle.std.proofs.Common.{◌≡◌, ◌⊎◌, ◌∙◌, ℕ, ◌+◌, ◌<◌, ◌≤◌, true, false, Option, Some, None, List, [], ◌∷◌, ◌++◌, length, map, get_or, refl, ap, sym, subst, inl, inr, arith}
use Rattle.std.proofs.lemmas.Bool.{cases_eq}
use Rattle.std.proofs.lemmas.List.{length-append, get_or_past}
use Rattle.spec_calculus.specs.Points.{numbered}
use Rattle.spec_fingerprints.specs.Fingerprints.{Fingerprint}
use Rattle.fact_fingerprint.specs.declared.fingerprints.Fingerprint as kept
use Rattle.log_entries.specs.declared.log.Entry.{Entry}
use Rattle.fact_classes.specs.declared.classes.Classes.{Classes}
use Rattle.fact_classes.specs.Classes.{class_of, listed, IsEmptyClasses, AreSameClasses, IsClassListed}
use Rattle.fact_classes.proofs.Classing.{classes_apart}
use Rattle.log_entries.specs.Numbers.{IsAmong, IsAscending, is_live_entry, is_live_at}
use Rattle.log_entries.specs.Classes.{class_if, class_at, AreOfClass, AreClassed}
use Rattle.log_entries.specs.Live.{kept_prints, may_both, meets_at}
use Rattle.log_entries.proofs.Numbers.{among_push, among_last, push_among, last_there, push_within, more_within, numbered_kept}

-- nor do those of two numbers
pub numbers_apart : (ps : List Fingerprint) (later n j k : ℕ) → class_at ps later ≡ Some k → class_at ps n ≡ Some j → (j ≡ k → ⊥) → meets_at ps later n ≡ false
numbers_apart ps later n j k last first differ = go (numbered ps n) (numbered ps later) first last
  where
    go : (o l : Option Fingerprint) → class_if o ≡ Some j → class_if l ≡ Some k → may_both o l ≡ false
    go None l x y = let wrong : None ≡ Some j = x in cc
    go (Some p) None x y = let wrong : None ≡ Some k = y in cc
    go (Some p) (Some q) x y = classes_apart p q j k x y differ

-- the class of a number is that which it had, with a fingerprint more; and the last one's is that of the fingerprint
class_kept : (ps : List Fingerprint) (p : Fingerprint) (n : ℕ) → 0 < n → n ≤ length ps → class_at (ps ++ p ∷ []) n ≡ class_at ps n
class_kept ps p n some few = ap class_if (numbered_kept ps p n some few)

class_last : (ps : List Fingerprint) (p : Fingerprint) (n : ℕ) → n ≡ length ps + 1 → class_at (ps ++ p ∷ []) n ≡ class_of p
class_last ps p n is = ap class_if (last_there ps p n is)

live_kept : (es : List Entry) (e : Entry) (n : ℕ) → 0 < n → n ≤ length es → is_live_at (es ++ e ∷ []) n ≡ is_live_at es n
live_kept es e n some few = ap is_live_entry (numbered_kept es e n some few)

-- Numbers of a class, with an entry more: its number stands among them, if it is of their kind and class; or it doesn't.
module _ (es : List Entry) (e : Entry) (ps : List Fingerprint) (p : Fingerprint) (many : length ps ≡ length es) (ns : List ℕ) (few : (n : ℕ) → IsAmong ns n → (0 < n) × (n ≤ length es)) (class : Option ℕ) (own : List ℕ) (h : AreOfClass es ps ns class own) where
  longer : length (es ++ e ∷ []) ≡ length es + 1
  longer = length-append es (e ∷ [])

  was_live : (m : ℕ) → IsAmong own m → is_live_at (es ++ e ∷ []) m ≡ true → IsAmong ns m
  was_live m among told = let there = h.within.within m among in h.live m among (sym (live_kept es e m there.0 there.1) ∙ told)

  was_every : (m : ℕ) → IsAmong ns m → class_at (ps ++ p ∷ []) m ≡ class → IsAmong own m
  was_every m among is = let there = few m among in h.every m among (sym (class_kept ps p m there.0 (let inside = there.1 in omega (arith, inside, many))) ∙ is)

  put_own : (n : ℕ) → n ≡ length es + 1 → AreOfClass (es ++ e ∷ []) (ps ++ p ∷ []) (ns ++ n ∷ []) class (own ++ n ∷ [])
  put_own n is = record {
    within = push_within (length es) (length (es ++ e ∷ [])) own n longer (is ∙ sym longer) h.within;
    live = λ m among told. elim (push_among own n m among) as (λ _. IsAmong (ns ++ n ∷ []) m) [
      | inl before ↦ among_push ns n m (was_live m before told)
      | inr last ↦ subst (λ k. IsAmong (ns ++ n ∷ []) k) last (among_last ns n)
    ];
    every = λ m among is. elim (push_among ns n m among) as (λ _. IsAmong (own ++ n ∷ []) m) [
      | inl before ↦ among_push own n m (was_every m before is)
      | inr last ↦ subst (λ k. IsAmong (own ++ n ∷ []) k) last (among_last own n)
    ];
  }

  skip_own : (n : ℕ) → n ≡ length es + 1 → (class ≡ class_of p → ⊥) → AreOfClass (es ++ e ∷ []) (ps ++ p ∷ []) (ns ++ n ∷ []) class own
  skip_own n is differ = record {
    within = more_within (length es) (length (es ++ e ∷ [])) own (omega (arith, longer)) h.within;
    live = λ m among told. among_push ns n m (was_live m among told);
    every = λ m among told. elim (push_among ns n m among) as (λ _. IsAmong own m) [
      | inl before ↦ was_every m before told
      | inr last ↦ absurd (differ (sym told ∙ class_last ps p m (omega (arith, last, is, many))))
    ];
  }

  other_own : AreOfClass (es ++ e ∷ []) (ps ++ p ∷ []) ns class own
  other_own = record {
    within = more_within (length es) (length (es ++ e ∷ [])) own (omega (arith, longer)) h.within;
    live = was_live;
    every = was_every;
  }

-- the same lists, by other names
same_listed : (old new : Classes) → AreSameClasses old new → (class : Option ℕ) → listed new class ≡ listed old class
same_listed old new same None = same.rest
same_listed old new same (Some class) = ap (λ (ls : List (List ℕ)). get_or ls class []) same.lists

pub classes_kept : (es : List Entry) (ps : List Fingerprint) (before ns : List ℕ) (old new : Classes) → ns ≡ before → AreSameClasses old new → AreClassed es ps before old → AreClassed es ps ns new
classes_kept es ps before ns old new numbers same h = λ class.
    subst (λ (ms : List ℕ). AreOfClass es ps ms class (listed new class)) (sym numbers)
    (subst (λ (own : List ℕ). AreOfClass es ps before class own) (sym (same_listed old new same class)) (h class))

pub classed_same : (es : List Entry) (before now : List kept.Fingerprint) (olds news : List ℕ) (old new : Classes) → now ≡ before → news ≡ olds → AreSameClasses old new → AreClassed es (kept_prints before) olds old → AreClassed es (kept_prints now) news new
classed_same es before now olds news old new prints numbers same h =
    subst (λ (ps : List kept.Fingerprint). AreClassed es (kept_prints ps) news new) (sym prints) (classes_kept es (kept_prints before) olds news old new numbers same h)

-- none are listed of none
pub none_classed : (es : List Entry) (ps : List Fingerprint) (ns : List ℕ) (classes : Classes) → ns ≡ [] → IsEmptyClasses classes → AreClassed es ps ns classes
none_classed es ps ns classes none empty = λ class. record {
  within = record { ascend = subst (λ (own : List ℕ). IsAscending 1 own) (sym (nothing class)) tt; within = λ m among. absurd (nowhere class m among) };
  live = λ m among told. absurd (nowhere class m among);
  every = λ m among is. absurd (subst (λ (ms : List ℕ). IsAmong ms m) none among);
}
  where
    nothing : (class : Option ℕ) → listed classes class ≡ []
    nothing None = empty.rest
    nothing (Some class) = ap (λ ls. get_or (map (λ l. l.items) ls) class []) empty.lists ∙ get_or_past [] class [] (omega arith)

    nowhere : (class : Option ℕ) (m : ℕ) → IsAmong (listed classes class) m → ⊥
    nowhere class m among = subst (λ (own : List ℕ). IsAmong own m) (nothing class) among

-- whether two classes are the same
pub one_class : (a b : Option ℕ) → (a ≡ b) ⊎ (a ≡ b → ⊥)
one_class None None = inl refl
one_class None (Some k) = inr (λ same. cc)
one_class (Some j) None = inr (λ same. cc)
one_class (Some j) (Some k) = elim (cases_eq j k) as (λ _. (Some j ≡ Some k) ⊎ (Some j ≡ Some k → ⊥)) [
  | inl same ↦ inl (ap Some same)
  | inr differ ↦ inr (λ same. differ (cc))
]

-- with an entry more of these numbers
pub put_classed : (es : List Entry) (e : Entry) (ps : List Fingerprint) (p : Fingerprint) (before ns : List ℕ) (old new : Classes) (n : ℕ) → n ≡ length es + 1 → length ps ≡ length es → ((m : ℕ) → IsAmong before m → (0 < m) × (m ≤ length es))
    → ns ≡ before ++ n ∷ [] → IsClassListed (class_of p) n old new → AreClassed es ps before old → AreClassed (es ++ e ∷ []) (ps ++ p ∷ []) ns new
put_classed es e ps p before ns old new n is many few numbers put h = λ class.
    subst (λ (ms : List ℕ). AreOfClass (es ++ e ∷ []) (ps ++ p ∷ []) ms class (listed new class)) (sym numbers) (go class (one_class class (class_of p)))
  where
    go : (class : Option ℕ) → (class ≡ class_of p) ⊎ (class ≡ class_of p → ⊥) → AreOfClass (es ++ e ∷ []) (ps ++ p ∷ []) (before ++ n ∷ []) class (listed new class)
    go class (inl same) =
        let own : listed new class ≡ listed old class ++ n ∷ [] = ap (listed new) same ∙ (put.here ∙ ap (λ c. listed old c ++ n ∷ []) (sym same)) in
        subst (λ (l : List ℕ). AreOfClass (es ++ e ∷ []) (ps ++ p ∷ []) (before ++ n ∷ []) class l) (sym own) (put_own es e ps p many before few class (listed old class) (h class) n is)
    go class (inr differ) =
        subst (λ (l : List ℕ). AreOfClass (es ++ e ∷ []) (ps ++ p ∷ []) (before ++ n ∷ []) class l) (sym (put.elsewhere class differ)) (skip_own es e ps p many before few class (listed old class) (h class) n is differ)

-- and of others
pub other_classed : (es : List Entry) (e : Entry) (ps : List Fingerprint) (p : Fingerprint) (before ns : List ℕ) (old new : Classes) → length ps ≡ length es → ((m : ℕ) → IsAmong before m → (0 < m) × (m ≤ length es))
    → ns ≡ before → AreSameClasses old new → AreClassed es ps before old → AreClassed (es ++ e ∷ []) (ps ++ p ∷ []) ns new
other_classed es e ps p before ns old new many few numbers same h =
    classes_kept (es ++ e ∷ []) (ps ++ p ∷ []) before ns old new numbers same (λ class. other_own es e ps p many before few class (listed old class) (h class))

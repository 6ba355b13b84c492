-- Terms, patterns and events are read as they are spelled.
use Rattle.std.proofs.Common.{◌≡◌, ℕ, zero, suc, ◌+◌, ◌<◌, ◌≤◌, Bool, true, false, List, [], ◌∷◌, ◌++◌, refl, ap, subst, inl, arith}
use Rattle.spec_calculus.specs.Bounds.{most_levels}
use Rattle.spec_protocol_grammar.specs.declared.class.Class.{Class}
use Rattle.spec_protocol_grammar.specs.declared.class.Class.TheVariants as w
use Rattle.spec_protocol_grammar.specs.Classes.{Source, same, fits}
use Rattle.spec_protocol_grammar.specs.Sketch.{TermSketch, Named, Grouped, TermsSketch, none, more, terms_sketch}
use Rattle.spec_protocol_grammar.specs.Spelling.{word, kept, more_of, term, arguments, terms, more_terms, Words, IsGreedy}
use Rattle.spec_protocol_grammar.specs.Refusals.{DeepAt}
use Rattle.spec_protocol_grammar.specs.Reading.{Reader, done, deep, with_place, then_marked, list_at, list_of, arguments_at, named, grouped, begins_term, term_by, term_at}
use Rattle.spec_protocol_grammar.proofs.Same.{same-true}
use Rattle.spec_protocol_grammar.proofs.Good.{IsDeep, Outcome, Sound, Good}
use Rattle.spec_protocol_grammar.proofs.Combine.{All, numbered_items, then_items, done_items, good_numbered}
use Rattle.spec_protocol_grammar.proofs.Choose.{good_same, built_sound, built_complete, choice_sound, refused_sound, choice_outcome, good_deep}
use Rattle.spec_protocol_grammar.proofs.Lists.{list_items, arguments_items, NotOpen, good_parts, good_arguments}

pub never : {A : Type 0} → false ≡ true → A
never e = absurd (cc)

-- a class at which something begins
pub begins_at : (begins : Class → Bool) (c k : Class) → same c k ≡ true → begins c ≡ true → begins k ≡ true
begins_at begins c k e b = subst (λ (d : Class). begins d ≡ true) (same-true c k e) b

-- terms in a row, and their list
abbrev pub terms_list : TermsSketch → List TermSketch
terms_list none = []
terms_list (more t ts) = t ∷ terms_list ts

pub terms_there : (ts : TermsSketch) → terms_sketch (terms_list ts) ≡ ts
terms_there none = refl
terms_there (more t ts) = ap (more t) (terms_there ts)

pub more_spelled : (l : ℕ) (ts : List TermSketch) → more_terms l (terms_sketch ts) ≡ more_of l w.Comma (term (l + 1)) ts
more_spelled l [] = refl
more_spelled l (t ∷ ts) = ap (λ is. word l w.Comma ∷ (term (l + 1) t ++ is)) (more_spelled l ts)

pub arguments_spelled : (l : ℕ) (ts : List TermSketch) → arguments l (terms_sketch ts) ≡ arguments_items l (term (l + 1)) ts
arguments_spelled l [] = refl
arguments_spelled l (t ∷ ts) = ap (λ is. word l w.Open ∷ ((term (l + 1) t ++ is) ++ (word l w.Close ∷ []))) (more_spelled l ts)

pub terms_spelled : (l : ℕ) (p : TermSketch × List TermSketch) → terms l (terms_sketch (list_of p)) ≡ list_items l w.Comma (term (l + 1)) p
terms_spelled l p = ap (λ is. term (l + 1) p.0 ++ is) (more_spelled l p.1)

module _ {most : ℕ} (l : ℕ) (h : l ≤ most_levels) (below : Reader TermSketch) (g : Good most All false (term (l + 1)) NotOpen below) where
  named_good : Good most All false (numbered_items l w.Name (arguments_items l (term (l + 1)))) NotOpen (with_place w.Name (arguments_at most below))
  named_good = good_numbered l h w.Name refl (good_arguments l h g)

  grouped_good : Good most All false (numbered_items l w.Open (then_items (list_items l w.Comma (term (l + 1))) l w.Close done_items)) NotOpen (with_place w.Open (then_marked (list_at most w.Comma below) w.Close done))
  grouped_good = good_numbered l h w.Open refl (good_parts l h g)

  named_spelled : (p : ℕ × List TermSketch) → term l (named p) ≡ numbered_items l w.Name (arguments_items l (term (l + 1))) p
  named_spelled p = ap (λ is. kept l p.0 w.Name ∷ is) (arguments_spelled l p.1)

  grouped_spelled : (p : ℕ × ((TermSketch × List TermSketch) × Unit {0})) → term l (grouped p) ≡ numbered_items l w.Open (then_items (list_items l w.Comma (term (l + 1))) l w.Close done_items) p
  grouped_spelled p = ap (λ is. kept l p.0 w.Open ∷ (is ++ (word l w.Close ∷ []))) (terms_spelled l p.1.0)

  term_sound : (c : Class) → Sound false (term l) NotOpen (term_by most below c)
  term_sound w.Name = built_sound (term l) named named_spelled named_good
  term_sound w.Open = built_sound (term l) grouped grouped_spelled grouped_good
  term_sound _ = refused_sound false (term l) NotOpen (Named 0 none) (λ s at. inl refl) (λ c i. (i, tt))

  term_complete : (s : Source) (at : ℕ) (t : TermSketch) (end : ℕ) → All at → Words s at (term l t) end → IsGreedy (term l t) (s end).class → Outcome most s at (term l t) t end (term_by most below (s at).class s at)
  term_complete s at (Named n ts) end low =
      let P : TermsSketch → Type 0 = λ ts. Words s at (term l (Named n ts)) end → IsGreedy (term l (Named n ts)) (s end).class → Outcome most s at (term l (Named n ts)) (Named n ts) end (term_by most below (s at).class s at) in
      subst P (terms_there ts) (λ z y. choice_outcome (term_by most below) w.Name (λ k e. e) z.0.1 (built_complete (term l) named named_spelled named_good s at (n, terms_list ts) end tt z y))
  term_complete s at (Grouped n none) end low = λ z y. absurd z.1
  term_complete s at (Grouped n (more t ts)) end low =
      let P : TermsSketch → Type 0 = λ ts. Words s at (term l (Grouped n (more t ts))) end → IsGreedy (term l (Grouped n (more t ts))) (s end).class → Outcome most s at (term l (Grouped n (more t ts))) (Grouped n (more t ts)) end (term_by most below (s at).class s at) in
      subst P (terms_there ts) (λ z y. choice_outcome (term_by most below) w.Open (λ k e. e) z.0.1 (built_complete (term l) grouped grouped_spelled grouped_good s at (n, ((t, terms_list ts), tt)) end tt z y))

  term_level : Good most All false (term l) NotOpen (λ s at. term_by most below (s at).class s at)
  term_level = record { some = Named 0 none; some_firm = λ c i. (i, tt); sound = choice_sound term_sound; complete = term_complete }

-- a term below the last level
module _ (l : ℕ) (h : most_levels < l) where
  term_begun : (s : Source) (at : ℕ) (c : Class) → (s at).class ≡ c → begins_term c ≡ true → IsDeep (term l) NotOpen s at at
  term_begun s at w.Name e b = record { other = Named (s at).number none; deep = ((refl, ap (fits w.Name) e), inl (h, refl)); firm = λ c i. (i, tt) }
  term_begun s at w.Open e b = record {
    other = Grouped (s at).number (more (Named 0 none) none);
    deep = ((refl, ap (fits w.Open) e), inl (h, refl));
    firm = λ c i. (λ e. cc, (λ e. cc, tt));
  }
  term_begun s at _ e b = never b

  term_sunk : (s : Source) (at : ℕ) (t : TermSketch) (end : ℕ) → Words s at (term l t) end → (begins_term (s at).class ≡ true) × DeepAt s at (term l t) at
  term_sunk s at (Named n ts) end z = (begins_at begins_term w.Name (s at).class z.0.1 refl, (z.0, inl (h, refl)))
  term_sunk s at (Grouped n ts) end z = (begins_at begins_term w.Open (s at).class z.0.1 refl, (z.0, inl (h, refl)))

  term_deep : {most : ℕ} → Good most All false (term l) NotOpen (deep begins_term)
  term_deep = good_deep begins_term (Named 0 none) (λ s at. inl refl) (λ c i. (i, tt)) (λ s at b. term_begun s at (s at).class refl b) term_sunk

-- terms are read as they are spelled
pub good_term : (most left l : ℕ) → left + l ≡ 513 → Good most All false (term l) NotOpen (term_at most left)
unfolding term_at
good_term most zero l d = good_same (deep begins_term) (term_at most zero) (λ s at. refl) (term_deep l (omega arith))
good_term most (suc left) l d =
    good_same (λ s at. term_by most (term_at most left) (s at).class s at) (term_at most (suc left)) (λ s at. refl)
    (term_level l (omega arith) (term_at most left) (good_term most left (l + 1) (omega arith)))

-- Items by their number.
use Rattle.std.proofs.Common.{◌≡◌, ℕ, zero, suc, ◌-◌, ◌≤◌, ◌<◌, List, [], length, get_or, map, None, Some, option_map, slice_get, refl, sym, ap, ◌∙◌, arith}
use Rattle.std.specs.Option.{option_map_or}
use Rattle.std.proofs.lemmas.Option.{slice_get-map, slice_get_read, slice_get_past}
use Rattle.spec_calculus.specs.Syntax as calculus
use Rattle.spec_calculus.specs.Points.{numbered}
use Rattle.pi_tree.specs.declared.destructors.Dtor.{Dtor}
use Rattle.pi_tree.specs.Rules.{destructor_of}

-- the number is one more than the index
pub numbered-index : {A : Type 0} (items : List A) (number index : ℕ) → 1 ≤ number → index ≡ number - 1 → numbered items number ≡ slice_get items index
numbered-index items zero index h e = absurd (omega arith)
numbered-index items (suc k) index h e = let same : index ≡ k = omega arith in ap (slice_get items) (sym same)

pub numbered-none : {A : Type 0} (items : List A) (number : ℕ) → number < 1 → numbered items number ≡ None
numbered-none items zero h = refl
numbered-none items (suc k) h = absurd (omega arith)

-- an item that was read there
pub numbered-read : {A B : Type 0} (f : A → B) (items : List A) (number index : ℕ) (x : A) → 1 ≤ number → index ≡ number - 1 → index < length items → x ≡ get_or items index x → numbered (map f items) number ≡ Some (f x)
numbered-read f items number index x h e within at =
    numbered-index (map f items) number index h e ∙ (slice_get-map f items index ∙ ap (option_map f) (slice_get_read items (length items) index x refl within at))

pub numbered-past : {A B : Type 0} (f : A → B) (items : List A) (number index : ℕ) → 1 ≤ number → index ≡ number - 1 → length items ≤ index → numbered (map f items) number ≡ None
numbered-past f items number index h e past =
    numbered-index (map f items) number index h e ∙ (slice_get-map f items index ∙ ap (option_map f) (slice_get_past items index past))

pub rules-read : (items : List Dtor) (number index : ℕ) (found : Dtor) → 1 ≤ number → index ≡ number - 1 → index < length items → found ≡ get_or items index found → option_map_or (λ d. d.rules) (numbered (map destructor_of items) number) [] ≡ found.rules
rules-read items number index found h e within at = ap (λ o. option_map_or (λ d. d.rules) o []) (numbered-read destructor_of items number index found h e within at)

pub rules-past : (items : List Dtor) (number index : ℕ) → 1 ≤ number → index ≡ number - 1 → length items ≤ index → option_map_or (λ d. d.rules) (numbered (map destructor_of items) number) [] ≡ []
rules-past items number index h e past = ap (λ o. option_map_or (λ d. d.rules) o []) (numbered-past destructor_of items number index h e past)

pub rules-none : (items : List calculus.Destructor) (number : ℕ) → number < 1 → option_map_or (λ d. d.rules) (numbered items number) [] ≡ []
rules-none items number h = ap (λ o. option_map_or (λ d. d.rules) o []) (numbered-none items number h)

pub ruleset by_number = (numbered-read, numbered-past, numbered-none, rules-read, rules-past, rules-none)

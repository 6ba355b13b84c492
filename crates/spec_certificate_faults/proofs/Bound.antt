-- A bound variable is read up to what follows it, or a fault is told: outside of constraints one at its first byte.
use Rattle.std.proofs.Common.{◌≡◌, ◌≢◌, ℕ, ◌+◌, ◌-◌, ◌≤◌, ◌⊎◌, inl, inr, Bool, true, false, List, [], ◌∷◌, ◌++◌, length, Option, Some, None, refl, sym, ◌∙◌, ap, subst, arith, length-append}
use Rattle.std.specs.Char.{is_ascii_digit}
use Rattle.spec_trees.specs.Tree.{Leaf}
use Rattle.spec_calculus.specs.Syntax.{Protocol}
use Rattle.spec_run_text.specs.Reading.{numeral}
use Rattle.spec_certificate_text.specs.Sides.{first_bound}
use Rattle.spec_certificate_text.specs.Spelled.{AreDigits, IsBoundWord, goes_on}
use Rattle.spec_certificate_text.specs.Terms.{Code, Syntax, Number, Symbol, Count, Open, Begins, InBound, Ended, Fault}
use Rattle.spec_certificate_text.specs.Steps.{goes, after_term, begin_bound, after_bound, bound_ended, step}
use Rattle.spec_certificate_text.proofs.Complete.{reading, passed, goes_to, bound_digits_read, same_step, no_digit}
use Rattle.spec_certificate_faults.specs.Grammar.{EndsAt}
use Rattle.spec_certificate_faults.proofs.Comes.{either, Through, Stopped, Comes, stopped_sooner, comes_behind, halts, StandsBefore, deep_or, begins_or}

-- it begins, or a fault is told
bound_begins : (binds : Bool) (at : ℕ) (heads : List Open) → (begin_bound binds at heads ≡ goes heads (InBound []) at) ⊎ ((code : Code) × (begin_bound binds at heads ≡ Fault at code) × (code ≢ Syntax))
bound_begins true at heads = either (deep_or heads at (goes heads (InBound []) at)) (λ room. inl room) (λ deep. inr (Count, deep, λ e. cc))
bound_begins false at heads = inr (Symbol, refl, λ e. cc)

-- its digits are read
pub bound_through : (binds : Bool) (P : Protocol) (ds k : List ℕ) (at : ℕ) (heads : List Open) (from : ℕ) → AreDigits ds → StandsBefore heads at
    → Stopped binds P (63 ∷ (ds ++ k)) at (reading heads Begins from) (ds ++ k) ⊎ Through binds P (63 ∷ (ds ++ k)) at (reading heads Begins from) k (reading heads (InBound ds) at)
bound_through binds P ds k at heads from digits before =
    let start = reading heads Begins from in
    let there = ds ++ k in
    either (begins_or binds at heads 63 refl before)
    (λ begins. either (bound_begins binds at heads)
    (λ inside. inr record {
      place = at + 1 + length ds;
      is = goes_to binds P 63 there at start (reading heads (InBound []) at) (begins ∙ inside) ∙ bound_digits_read binds P ds [] k (at + 1) heads at digits;
      counted = omega (arith, length-append ds k);
    })
    (λ told. inl (halts binds P 63 there at start there at told.0 (begins ∙ told.1) (omega arith) told.2)))
    (λ deep. inl (halts binds P 63 there at start there deep.0 Count deep.1 (omega (arith, deep.2)) (λ e. cc)))

-- the byte behind the digits
pub bound_step : (binds : Bool) (P : Protocol) (digits : List ℕ) (b place : ℕ) (heads : List Open) (at : ℕ) → 1 ≤ length digits → is_ascii_digit b ≡ false → step binds P place (reading heads (InBound digits) at) b ≡ after_bound place heads at digits (numeral digits) b
bound_step binds P [] b place heads at some ends = absurd (omega (arith, some))
bound_step binds P (d ∷ ds) b place heads at some ends = passed (is_ascii_digit b) (goes heads (InBound ((d ∷ ds) ++ b ∷ [])) at) (bound_ended place heads at (d ∷ ds) b) _ ends refl

digits_leaf : (binds : Bool) (P : Protocol) (digits : List ℕ) (b : ℕ) (k : List ℕ) (at : ℕ) (heads : List Open) (from : ℕ) → AreDigits digits → 1 ≤ length digits → goes_on b ≡ false → StandsBefore heads at → Comes binds P (63 ∷ (digits ++ b ∷ k)) at (reading heads Begins from) (b ∷ k) heads
digits_leaf binds P digits b k at heads from all some ends before =
    let bytes = 63 ∷ (digits ++ b ∷ k) in
    let start = reading heads Begins from in
    either (bound_through binds P digits (b ∷ k) at heads from all before)
    (λ stopped. inl (stopped_sooner binds P bytes at start (digits ++ b ∷ k) (b ∷ k) (omega (arith, length-append digits (b ∷ k))) stopped))
    (λ one. comes_behind binds P bytes at start (b ∷ k) (reading heads (InBound digits) at) (b ∷ k) heads one
    (by one.place (omega (arith, one.counted, length-append digits (b ∷ k))) (numeral digits) refl))
  where
    by : (place : ℕ) → length digits ≤ place → (number : Option ℕ) → numeral digits ≡ number → Comes binds P (b ∷ k) place (reading heads (InBound digits) at) (b ∷ k) heads
    by place long None none =
        inl (halts binds P b k place (reading heads (InBound digits) at) (b ∷ k) (place - length digits) Number
        (bound_step binds P digits b place heads at some (no_digit b ends) ∙ ap (λ o. after_bound place heads at digits o b) none) (omega (arith, long, some)) (λ e. cc))
    by place long (Some i) is =
        let ended = after_term place (Leaf (first_bound + i)) heads at b in
        inr record {
          term = Leaf (first_bound + i);
          since = at;
          through = record {
            place = place;
            is = same_step binds P b k place (reading heads (InBound digits) at) (reading heads (Ended (Leaf (first_bound + i))) at)
                (bound_step binds P digits b place heads at some (no_digit b ends) ∙ (ap (λ o. after_bound place heads at digits o b) is ∙ passed (goes_on b) (Fault place Syntax) ended _ ends refl));
            counted = refl;
          };
        }

pub bound_leaf : (binds : Bool) (P : Protocol) (w rest : List ℕ) (at : ℕ) (heads : List Open) (from : ℕ) → IsBoundWord w → EndsAt goes_on rest → StandsBefore heads at → Comes binds P (w ++ rest) at (reading heads Begins from) rest heads
bound_leaf binds P w [] at heads from is ends before = absurd ends
bound_leaf binds P w (b ∷ k) at heads from is ends before =
    subst (λ u. Comes binds P (u ++ b ∷ k) at (reading heads Begins from) (b ∷ k) heads) (sym is.is) (digits_leaf binds P is.digits b k at heads from is.all is.some ends before)

-- Threads by their number.
use Rattle.std.proofs.Common.{◌≡◌, ◌≢◌, ℕ, zero, suc, ◌+◌, ◌-◌, ◌≤◌, ◌<◌, List, [], ◌∷◌, ◌++◌, length, get_or, map, take, drop, slice_get, slice_set, Option, None, Some, option_map, refl, sym, ap, ◌∙◌, arith}
use Rattle.std.proofs.lemmas.List.{length-map}
use Rattle.std.proofs.lemmas.Option.{slice_get-map, slice_get_read, slice_get_past}
use Rattle.std.specs.Option.{option_map_or}
use Rattle.spec_calculus.specs.Points.{numbered, replaced}
use Rattle.spec_calculus.specs.Runs as calculus
use Rattle.term_values.proofs.Items.{numbered-index, numbered-none, numbered-read}
use Rattle.pi_configurations.specs.declared.threads.Thread.{Thread}
use Rattle.pi_configurations.specs.Threads.{thread_of}
use Rattle.pi_configurations.specs.Moves.{moved_to, moved, entered, entered_at}

-- an item that is written there
map-set : {A B : Type 0} (f : A → B) (items : List A) (index : ℕ) (x : A) → map f (slice_set items index x) ≡ slice_set (map f items) index (f x)
map-set f [] index x = refl
map-set f (y ∷ items) zero x = refl
map-set f (y ∷ items) (suc index) x = ap (λ zs. f y ∷ zs) (map-set f items index x)

pub replaced-index : {A : Type 0} (items : List A) (number index : ℕ) (x : A) → number ≢ 0 → index ≡ number - 1 → replaced items number x ≡ slice_set items index x
replaced-index items zero index x h e = absurd (h refl)
replaced-index items (suc k) index x h e = let same : index ≡ k = omega arith in ap (λ i. slice_set items i x) (sym same)

pub threads-replaced : (items : List Thread) (number index : ℕ) (x : Thread) → number ≢ 0 → index ≡ number - 1 → map thread_of (slice_set items index x) ≡ replaced (map thread_of items) number (thread_of x)
threads-replaced items number index x h e = map-set thread_of items index x ∙ sym (replaced-index (map thread_of items) number index (thread_of x) h e)

one_at_least : (number : ℕ) → number ≢ 0 → 1 ≤ number
one_at_least number h = omega arith

pub threads-moved : (items : List Thread) (number index point : ℕ) (x y : Thread) → number ≢ 0 → index ≡ number - 1 → index < length items → x ≡ get_or items index x → thread_of y ≡ moved_to point (thread_of x) → map thread_of (slice_set items index y) ≡ moved (map thread_of items) number point
threads-moved items number index point x y h e within at new =
    threads-replaced items number index y h e
    ∙ (ap (λ t. replaced (map thread_of items) number t) new
    ∙ ap (λ o. option_map_or (λ thread. replaced (map thread_of items) number (moved_to point thread)) o (map thread_of items)) (sym (numbered-read thread_of items number index x (one_at_least number h) e within at)))

pub ruleset of_threads = (threads-replaced, threads-moved, numbered-none)

-- what is listed for a point
pub listed-point : (phases : List ℕ) (point index phase : ℕ) → 1 ≤ point → index ≡ point - 1 → index < length phases → phase ≡ get_or phases index phase → numbered phases point ≡ Some phase
listed-point phases point index phase h e within at = numbered-index phases point index h e ∙ slice_get_read phases (length phases) index phase refl within at

pub listed-past : (phases : List ℕ) (point index : ℕ) → 1 ≤ point → index ≡ point - 1 → length phases ≤ index → numbered phases point ≡ None
listed-past phases point index h e past = numbered-index phases point index h e ∙ slice_get_past phases index past

pub ruleset of_points_listed = (listed-point, listed-past, numbered-none)

-- the thread at an index, as a phase finds it
pub thread-entered : (phases : List ℕ) (n : ℕ) (items : List Thread) (index : ℕ) (x y : Thread) → index < length items → x ≡ get_or items index x → thread_of y ≡ entered phases n (thread_of x) → map thread_of (slice_set items index y) ≡ entered_at phases n (map thread_of items) index
thread-entered phases n items index x y within at new =
    let there : slice_get (map thread_of items) index ≡ Some (thread_of x) = slice_get-map thread_of items index ∙ ap (option_map thread_of) (slice_get_read items (length items) index x refl within at) in
    map-set thread_of items index y
    ∙ (ap (slice_set (map thread_of items) index) new
    ∙ ap (λ o. option_map_or (λ thread. slice_set (map thread_of items) index (entered phases n thread)) o (map thread_of items)) (sym there))

pub threads-past : (phases : List ℕ) (n : ℕ) (threads : List calculus.Thread) (index : ℕ) → length threads ≤ index → threads ≡ entered_at phases n threads index
threads-past phases n threads index past =
    ap (λ o. option_map_or (λ thread. slice_set threads index (entered phases n thread)) o threads) (sym (slice_get_past threads index past))

-- threads of which the first ones are entered
module _ (f : calculus.Thread → calculus.Thread) where
  abbrev changed_at : List calculus.Thread → ℕ → List calculus.Thread
  changed_at threads index = option_map_or (λ thread. slice_set threads index (f thread)) (slice_get threads index) threads

  behind_first : (first : calculus.Thread) (threads : List calculus.Thread) (k : ℕ) (o : Option calculus.Thread) → option_map_or (λ thread. first ∷ slice_set threads k (f thread)) o (first ∷ threads) ≡ first ∷ option_map_or (λ thread. slice_set threads k (f thread)) o threads
  behind_first first threads k None = refl
  behind_first first threads k (Some thread) = refl

  one_more : (old : List calculus.Thread) (index : ℕ) → changed_at (map f (take index old) ++ drop index old) index ≡ map f (take (suc index) old) ++ drop (suc index) old
  one_more [] zero = refl
  one_more [] (suc k) = refl
  one_more (x ∷ xs) zero = refl
  one_more (x ∷ xs) (suc k) = let threads = map f (take k xs) ++ drop k xs in behind_first (f x) threads k (slice_get threads k) ∙ ap (λ ts. f x ∷ ts) (one_more xs k)

  all_done : (old : List calculus.Thread) (index : ℕ) → length old ≤ index → map f (take index old) ++ drop index old ≡ map f old
  all_done [] zero past = refl
  all_done [] (suc k) past = refl
  all_done (x ∷ xs) zero past = absurd (omega (arith, past))
  all_done (x ∷ xs) (suc k) past = ap (λ ts. f x ∷ ts) (all_done xs k (omega (arith, past)))

pub entered-more : (phases : List ℕ) (n : ℕ) (old threads : List calculus.Thread) (index : ℕ) → threads ≡ map (entered phases n) (take index old) ++ drop index old → entered_at phases n threads index ≡ map (entered phases n) (take (index + 1) old) ++ drop (index + 1) old
entered-more phases n old threads index before =
    let next : suc index ≡ index + 1 = omega arith in
    ap (λ ts. entered_at phases n ts index) before ∙ (one_more (entered phases n) old index ∙ ap (λ k. map (entered phases n) (take k old) ++ drop k old) next)

pub entered-all : (phases : List ℕ) (n : ℕ) (old : List calculus.Thread) (index : ℕ) → length old ≤ index → map (entered phases n) (take index old) ++ drop index old ≡ map (entered phases n) old
entered-all phases n old index past = all_done (entered phases n) old index past

pub ruleset of_phases = (thread-entered, threads-past, entered-more, entered-all, length-map)

-- When each step of tables is possible, and for which cause it is refused, from what stands at its thread.
use Rattle.std.proofs.Common.{◌≡◌, ℕ, ◌+◌, Bool, true, false, not, ◌||◌, cond, List, [], ◌∷◌, ◌++◌, Option, None, Some, is_some, option_and_then, option_map, refl, sym, ap, ◌∙◌}
use Rattle.std.specs.List.{list_any, flat_map}
use Rattle.std.specs.Option.{option_map_or}
use Rattle.spec_calculus.specs.Syntax.{Term, Pattern, Condition, Process, Insert, Get, Protocol}
use Rattle.spec_calculus.specs.Points.{numbered, point_after}
use Rattle.spec_calculus.specs.Values.{Environment, values_of}
use Rattle.spec_calculus.specs.Tables.{Held, sides, if_met, meets, row_matched, matched_entry}
use Rattle.spec_calculus.specs.Runs.{At, Configuration, Put, Fetch, Miss, acting, goes_on, writes, after_put, after_fetch, after_miss}
use Rattle.spec_calculus.specs.Refusals as cause
use Rattle.spec_calculus.specs.Refusals.{first_cause, where_true, at_put, at_fetch, at_miss, refusal}
use Rattle.spec_calculus.specs.Limits.{is_large, terms_at, listed, written, asked, asked_once, asked_of_all, evaluated}
use Rattle.pi_configurations.specs.Moves.{advanced}
use Rattle.pi_model.specs.declared.errors.StepError.{StepError}
use Rattle.pi_model.specs.Errors.{refusal_of}
use Rattle.pi_model.specs.Plans.{IsPossible, IsRefused, Stands, StandsNowhere}
use Rattle.pi_model.proofs.ThreadSteps.{acting_stands, listed_stands, advanced_stands, possible, refused, large, nowhere, elsewhere, here, written-values}
use Rattle.term_values.proofs.Room.{any-append}

-- what is taken of an entry, and the environment with it
some_of : (s whole : Environment) (o : Option Environment) → Some whole ≡ option_map (λ bs. s ++ bs) o → (bs : Environment) × (o ≡ Some bs) × (whole ≡ s ++ bs)
some_of s whole None h = cc
some_of s whole (Some bs) h = (bs, refl, cc)

none_of : (s : Environment) (o : Option Environment) → None ≡ option_map (λ bs. s ++ bs) o → o ≡ None
none_of s None h = refl
none_of s (Some bs) h = cc

-- the values of the condition's terms with an entry that is taken
asked_with : (s whole bs : Environment) (condition : Condition) (met : Bool) → Some whole ≡ option_map (λ xs. s ++ xs) (cond met (Some bs) None) → values_of (s ++ bs) (sides condition) ≡ values_of whole (sides condition)
asked_with s whole bs condition true h = let same : whole ≡ s ++ bs = cc in ap (λ w. values_of w (sides condition)) (sym same)
asked_with s whole bs condition false h = cc

asked_of : (s whole : Environment) (condition : Condition) (o : Option Environment) → Some whole ≡ option_map (λ bs. s ++ bs) (option_and_then (if_met s condition) o) → option_map_or (λ bs. values_of (s ++ bs) (sides condition)) o [] ≡ values_of whole (sides condition)
asked_of s whole condition None h = cc
asked_of s whole condition (Some bs) h = asked_with s whole bs condition (meets (s ++ bs) condition) h

module _ (P : Protocol) (c : Configuration) where
  -- put
  pub put-nowhere : (i : ℕ) (e : StepError) → StandsNowhere c i e → IsRefused P c (Put i) (refusal_of e)
  put-nowhere i e h = refused P c (Put i) (refusal_of e) (nowhere P c at_put [] i e h)

  pub put-elsewhere : (i p : ℕ) (s : Environment) (q : Process) → Stands P c i p s q → at_put p s q ≡ None → IsRefused P c (Put i) cause.WrongForm
  put-elsewhere i p s q h e = refused P c (Put i) cause.WrongForm (elsewhere P c at_put [] i p s q h e)

  pub put-large : (i p : ℕ) (s : Environment) (table : ℕ) (arguments : List Term) (next : Process) → Stands P c i p s (Insert table arguments next) → list_any is_large (values_of s (terms_at (Insert table arguments next))) ≡ true → IsRefused P c (Put i) cause.Large
  put-large i p s table arguments next h l =
      large P c (Put i) (here P c at_put [] i p s (Insert table arguments next) next h refl) (written-values P c i p s (Insert table arguments next) true h l)

  pub put-possible : (i p : ℕ) (s : Environment) (table : ℕ) (arguments : List Term) (next : Process) → Stands P c i p s (Insert table arguments next) → list_any is_large (values_of s (terms_at (Insert table arguments next))) ≡ false → IsPossible P c (Put i) (writes (advanced c i (p + 1)) (record { table = table; arguments = values_of s arguments }))
  put-possible i p s table arguments next h l =
      possible P c (Put i) (writes (advanced c i (p + 1)) (record { table = table; arguments = values_of s arguments })) (here P c at_put [] i p s (Insert table arguments next) next h refl) (written-values P c i p s (Insert table arguments next) false h l)
      (acting_stands P c (after_put c i) i p s (Insert table arguments next) h
      ∙ ap (λ d. Some (writes d (record { table = table; arguments = values_of s arguments }))) (sym (advanced_stands P c i p (p + 1) s (Insert table arguments next) h)))

  -- fetch
  pub fetch-nowhere : (i entry : ℕ) (e : StepError) → StandsNowhere c i e → IsRefused P c (Fetch i entry) (refusal_of e)
  fetch-nowhere i entry e h = refused P c (Fetch i entry) (refusal_of e) (nowhere P c (at_fetch c entry) (where_true cause.NoEntry (not (option_map_or (λ matches. matches) (acting P c i (at_fetch c entry)) false)) ∷ []) i e h)

  pub fetch-elsewhere : (i entry p : ℕ) (s : Environment) (q : Process) → Stands P c i p s q → at_fetch c entry p s q ≡ None → IsRefused P c (Fetch i entry) cause.WrongForm
  fetch-elsewhere i entry p s q h e = refused P c (Fetch i entry) cause.WrongForm (elsewhere P c (at_fetch c entry) (where_true cause.NoEntry (not (option_map_or (λ matches. matches) (acting P c i (at_fetch c entry)) false)) ∷ []) i p s q h e)

  -- at a `get`
  module _ (i p : ℕ) (s : Environment) (table : ℕ) (patterns : List Pattern) (condition : Condition) (next otherwise : Process) (h : Stands P c i p s (Get table patterns condition next otherwise)) where
    abbrev get : Process
    get = Get table patterns condition next otherwise

    abbrev takes : Held → Option Environment
    takes = matched_entry s table patterns condition

    fetch-cause : (entry : ℕ) (o : Option Environment) → option_and_then (matched_entry s table patterns condition) (numbered c.entries entry) ≡ o → refusal P c (Fetch i entry) ≡ first_cause (where_true cause.NoEntry (not (is_some o)) ∷ [])
    fetch-cause entry o e =
        here P c (at_fetch c entry) (where_true cause.NoEntry (not (option_map_or (λ matches. matches) (acting P c i (at_fetch c entry)) false)) ∷ []) i p s get (is_some (option_and_then takes (numbered c.entries entry))) h refl
        ∙ (ap (λ x. first_cause (where_true cause.NoEntry (not (option_map_or (λ matches. matches) x false)) ∷ [])) (acting_stands P c (at_fetch c entry) i p s get h)
        ∙ ap (λ x. first_cause (where_true cause.NoEntry (not (is_some x)) ∷ [])) e)

    pub fetch-no_number : (entry : ℕ) → numbered c.entries entry ≡ None → IsRefused P c (Fetch i entry) cause.NoEntry
    fetch-no_number entry e = refused P c (Fetch i entry) cause.NoEntry (fetch-cause entry None (ap (option_and_then takes) e))

    pub fetch-no_match : (entry : ℕ) (held : Held) → numbered c.entries entry ≡ Some held → None ≡ option_map (λ bs. s ++ bs) (matched_entry s table patterns condition held) → IsRefused P c (Fetch i entry) cause.NoEntry
    fetch-no_match entry held e none = refused P c (Fetch i entry) cause.NoEntry (fetch-cause entry None (ap (option_and_then takes) e ∙ none_of s (takes held) none))

    -- where the entry is taken
    module _ (entry : ℕ) (held : Held) (whole : Environment) (e : numbered c.entries entry ≡ Some held) (taken : Some whole ≡ option_map (λ bs. s ++ bs) (matched_entry s table patterns condition held)) where
      fetch-values : (b : Bool) → (list_any is_large (values_of s (terms_at (Get table patterns condition next otherwise))) || list_any is_large (values_of whole (sides condition))) ≡ b → list_any is_large (evaluated P c (Fetch i entry)) ≡ b
      fetch-values b l =
          any-append is_large (listed P c i written) (listed P c i (asked_once c entry))
          ∙ (ap (λ xs. list_any is_large xs || list_any is_large (listed P c i (asked_once c entry))) (listed_stands P c i p s get written h)
          ∙ (ap (λ xs. list_any is_large (values_of s (terms_at get)) || list_any is_large xs) (listed_stands P c i p s get (asked_once c entry) h)
          ∙ (ap (λ o. list_any is_large (values_of s (terms_at get)) || list_any is_large (option_map_or (asked s table patterns condition) o [])) e
          ∙ (ap (λ xs. list_any is_large (values_of s (terms_at get)) || list_any is_large xs) (asked_of s whole condition (row_matched s table patterns held) taken) ∙ l))))

      met : (bs : Environment) × (matched_entry s table patterns condition held ≡ Some bs) × (whole ≡ s ++ bs)
      met = some_of s whole (takes held) taken

      pub fetch-large : (list_any is_large (values_of s (terms_at (Get table patterns condition next otherwise))) || list_any is_large (values_of whole (sides condition))) ≡ true → IsRefused P c (Fetch i entry) cause.Large
      fetch-large l = large P c (Fetch i entry) (fetch-cause entry (Some met.0) (ap (option_and_then takes) e ∙ met.1)) (fetch-values true l)

      pub fetch-possible : (list_any is_large (values_of s (terms_at (Get table patterns condition next otherwise))) || list_any is_large (values_of whole (sides condition))) ≡ false → IsPossible P c (Fetch i entry) (goes_on c i (At (p + 1) whole))
      fetch-possible l =
          possible P c (Fetch i entry) (goes_on c i (At (p + 1) whole)) (fetch-cause entry (Some met.0) (ap (option_and_then takes) e ∙ met.1)) (fetch-values false l)
          (acting_stands P c (after_fetch c i entry) i p s get h
          ∙ (ap (option_map (λ xs. goes_on c i (At (p + 1) (s ++ xs)))) (ap (option_and_then takes) e ∙ met.1)
          ∙ ap (λ w. Some (goes_on c i (At (p + 1) w))) (sym met.2)))

    -- miss: whether some entry may be taken
    abbrev IsTaking : Bool → Type 0
    IsTaking taking = taking ≡ list_any (λ held. is_some (matched_entry s table patterns condition held)) c.entries

    miss-cause : (taking : Bool) → IsTaking taking → refusal P c (Miss i) ≡ first_cause (where_true cause.NotFailing taking ∷ [])
    miss-cause taking e =
        here P c (at_miss c) (where_true cause.NotFailing (option_map_or (λ matches. matches) (acting P c i (at_miss c)) false) ∷ []) i p s get (list_any (λ held. is_some (takes held)) c.entries) h refl
        ∙ (ap (λ x. first_cause (where_true cause.NotFailing (option_map_or (λ matches. matches) x false) ∷ [])) (acting_stands P c (at_miss c) i p s get h)
        ∙ ap (λ x. first_cause (where_true cause.NotFailing x ∷ [])) (sym e))

    -- whether the value of one of the condition's terms is large with some entry that matches
    abbrev IsAnyAskedLarge : Bool → Type 0
    IsAnyAskedLarge any_large = any_large ≡ list_any is_large (flat_map (asked s table patterns condition) c.entries)

    miss-values : (any_large b : Bool) → IsAnyAskedLarge any_large → (list_any is_large (values_of s (terms_at (Get table patterns condition next otherwise))) || any_large) ≡ b → list_any is_large (evaluated P c (Miss i)) ≡ b
    miss-values any_large b t l =
        any-append is_large (listed P c i written) (listed P c i (asked_of_all c))
        ∙ (ap (λ xs. list_any is_large xs || list_any is_large (listed P c i (asked_of_all c))) (listed_stands P c i p s get written h)
        ∙ (ap (λ xs. list_any is_large (values_of s (terms_at get)) || list_any is_large xs) (listed_stands P c i p s get (asked_of_all c) h)
        ∙ (ap (λ d. list_any is_large (values_of s (terms_at get)) || d) (sym t) ∙ l)))

    pub miss-taking : (taking : Bool) → IsTaking taking → taking ≡ true → IsRefused P c (Miss i) cause.NotFailing
    miss-taking taking e is = refused P c (Miss i) cause.NotFailing (miss-cause true (sym is ∙ e))

    pub miss-large : (taking any_large : Bool) → IsTaking taking → taking ≡ false → IsAnyAskedLarge any_large → (list_any is_large (values_of s (terms_at (Get table patterns condition next otherwise))) || any_large) ≡ true → IsRefused P c (Miss i) cause.Large
    miss-large taking any_large e is t l = large P c (Miss i) (miss-cause false (sym is ∙ e)) (miss-values any_large true t l)

    pub miss-possible : (taking any_large : Bool) → IsTaking taking → taking ≡ false → IsAnyAskedLarge any_large → (list_any is_large (values_of s (terms_at (Get table patterns condition next otherwise))) || any_large) ≡ false → IsPossible P c (Miss i) (advanced c i (point_after (p + 1) next))
    miss-possible taking any_large e is t l =
        possible P c (Miss i) (advanced c i (point_after (p + 1) next)) (miss-cause false (sym is ∙ e)) (miss-values any_large false t l)
        (acting_stands P c (after_miss c i) i p s get h
        ∙ (ap (λ b. cond b None (Some (goes_on c i (At (point_after (p + 1) next) s)))) (sym e ∙ is)
        ∙ ap Some (sym (advanced_stands P c i p (point_after (p + 1) next) s get h))))

  pub miss-nowhere : (i : ℕ) (e : StepError) → StandsNowhere c i e → IsRefused P c (Miss i) (refusal_of e)
  miss-nowhere i e h = refused P c (Miss i) (refusal_of e) (nowhere P c (at_miss c) (where_true cause.NotFailing (option_map_or (λ matches. matches) (acting P c i (at_miss c)) false) ∷ []) i e h)

  pub miss-elsewhere : (i p : ℕ) (s : Environment) (q : Process) → Stands P c i p s q → at_miss c p s q ≡ None → IsRefused P c (Miss i) cause.WrongForm
  miss-elsewhere i p s q h e = refused P c (Miss i) cause.WrongForm (elsewhere P c (at_miss c) (where_true cause.NotFailing (option_map_or (λ matches. matches) (acting P c i (at_miss c)) false) ∷ []) i p s q h e)

pub ruleset of_put = (put-nowhere, put-elsewhere, put-large, put-possible)

pub ruleset of_fetch = (fetch-nowhere, fetch-elsewhere, fetch-no_number, fetch-no_match, fetch-large, fetch-possible)

pub ruleset of_miss = (miss-nowhere, miss-elsewhere, miss-taking, miss-large, miss-possible)

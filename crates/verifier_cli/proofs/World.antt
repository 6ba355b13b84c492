-- From what is asked and what it comes to to all that is said of a call.
use Rattle.std.proofs.Common.{◌≡◌, ◌≤◌, ◌⊎◌, ℕ, zero, suc, List, Option, Some, None, true, false, inl, inr, refl, sym, subst, ◌∙◌, arith}
use Rattle.spec_calculus.specs.Bounds.{most_budget, most_keys}
use Rattle.spec_calculus.specs.Syntax.{Protocol}
use Rattle.spec_protocol_scope.specs.Spells.{Spells}
use Rattle.command_words.specs.Request.{Request, Verify, Check, ListOf, Replay, RingOf, request_of}
use Rattle.protocol_loading.specs.Outside.{Outside, IsNothingLoaded}
use Rattle.call_outcomes.specs.Outcome.{Outcome, Usage, Verified, Memory, Becomes}
use Rattle.call_outcomes.specs.SeenOutcome.{outcome_of}
use Rattle.call_outcomes.specs.Text.{HasText, outcome_bytes}
use Rattle.call_outcomes.specs.declared.outcome.Outcome as declared
use Rattle.verifier_cli.specs.Command.{IsAskable, Verifies}
use Rattle.verifier_cli.specs.ReadBack.{IsReadBack}
use Rattle.verifier_cli.specs.Requests.{ComesTo}
use Rattle.verifier_cli.proofs.Comes.{comes_after, memory_comes}
use Rattle.verifier_cli.specs.Words.{IsNoCommand}
use Rattle.verifier_cli.specs.World.{World, format_of}
use Rattle.verifier_cli.proofs.Complete.{violates_none, attacks_violate, is_complete}

-- What words ask for.

-- the laws of the numbers that words may ask for
pub record AskedNumbers : Type 0 where
  pub budgets : (words : List (List ℕ)) (file : List ℕ) (budget format : ℕ) → request_of words ≡ Some (Verify file budget format) → budget ≤ most_budget
  pub formats : (words : List (List ℕ)) (file : List ℕ) (budget format : ℕ) → request_of words ≡ Some (Verify file budget format) → (1 ≤ format) × (format ≤ 2)
  pub stages : (words : List (List ℕ)) (stages : ℕ) → request_of words ≡ Some (RingOf stages) → (2 ≤ stages) × (stages ≤ most_keys)

pub askable : AskedNumbers → (words : List (List ℕ)) (asked : Request) → request_of words ≡ Some asked → IsAskable asked
askable laws words (Verify file budget format) e = (laws.budgets words file budget format e, laws.formats words file budget format e)
askable laws words (Check file report) e = tt
askable laws words (ListOf file query) e = tt
askable laws words (Replay file run) e = tt
askable laws words (RingOf stages) e = laws.stages words stages e

-- the formats
pub one_or_two : (format : ℕ) → 1 ≤ format → format ≤ 2 → (format ≡ 1) ⊎ (format ≡ 2)
one_or_two zero least most = absurd (omega (arith, least))
one_or_two (suc zero) least most = inl refl
one_or_two (suc (suc zero)) least most = inr refl
one_or_two (suc (suc (suc n))) least most = absurd (omega (arith, most))

-- what is so of the request that the words make is so of each that they make: there is one
pub as_asked : (words : List (List ℕ)) (made : Request) (F : Request → Type 0) → Some made ≡ request_of words → F made → (asked : Request) → request_of words ≡ Some asked → F asked
as_asked words made F e is asked h =
    let both : Some made ≡ Some asked = e ∙ h in
    let same : made ≡ asked = cc in
    subst F same is

pub a_command : (words : List (List ℕ)) (request : Request) → Some request ≡ request_of words → IsNoCommand words → ⊥
a_command words request e none = let same : Some request ≡ None = e ∙ none in cc

-- no request comes to a call for nothing
never_usage : (asked : Request) (files : Outside) (words : Option Protocol) → ComesTo asked files words Usage → ⊥
never_usage (Verify file budget format) files words c = (c.defined (λ e. cc)).answers
never_usage (Check file report) files words c = (c.defined (λ e. cc)).answers
never_usage (ListOf file query) files words c = (c.defined (λ e. cc)).answers
never_usage (Replay file run) files words c = (c.defined (λ e. cc)).answers
never_usage (RingOf stages) files words c = (c.defined (λ e. cc)).answers

pub never_for_nothing : (asked : Request) (files : Outside) (outcome : Outcome) (Writes : List ℕ → Type 0) → World asked files outcome Writes → outcome ≡ Usage → ⊥
never_for_nothing asked files outcome Writes world e = never_usage asked files world.words (subst (ComesTo asked files world.words) e world.comes)

-- Worlds.

-- the law of verdicts that are read back
abbrev pub VerdictsBack : Type 0
VerdictsBack = (bytes : List ℕ) (P : Protocol) (budget format : ℕ) (outcome : Outcome) → budget ≤ most_budget → Spells bytes P → Verifies bytes budget outcome → IsReadBack bytes (outcome_bytes format (Some P) outcome) outcome

verdicts_back : VerdictsBack → (asked : Request) → IsAskable asked → (files : Outside) (words : Option Protocol) (outcome : Outcome) (c : ComesTo asked files words outcome) → HasText words outcome → IsReadBack c.protocol (outcome_bytes (format_of asked) words outcome) outcome
verdicts_back law (Verify file budget format) within files (Some P) (Verified vs) c worded = law c.protocol P budget format (Verified vs) within.0 c.spelled (c.defined (λ e. cc))
verdicts_back law (Verify file budget format) within files None (Verified vs) c worded = let never : true ≡ false = worded in absurd (cc)
verdicts_back law (Check file report) within files words (Verified vs) c worded = absurd (c.defined (λ e. cc)).answers
verdicts_back law (ListOf file query) within files words (Verified vs) c worded = absurd (c.defined (λ e. cc)).answers
verdicts_back law (Replay file run) within files words (Verified vs) c worded = absurd (c.defined (λ e. cc)).answers
verdicts_back law (RingOf stages) within files words (Verified vs) c worded = absurd (c.defined (λ e. cc)).answers
verdicts_back law asked within files words _ c worded = tt

-- one world, where the words of the text are those of the protocol that was read
pub world_of : VerdictsBack → (asked : Request) → IsAskable asked → (files : Outside) (words given : Option Protocol) (found after : Outcome) (format : ℕ) (Writes : List ℕ → Type 0) → given ≡ words → format ≡ format_of asked
    → ComesTo asked files words found → Becomes found after → HasText given after → Writes (outcome_bytes format given after) → World asked files after Writes
world_of law asked within files words given found after format Writes same chosen comes becomes worded written =
    let c : ComesTo asked files given after = comes_after asked files given found after becomes (subst (λ (P : Option Protocol). ComesTo asked files P found) (sym same) comes) in
    record {
      words = given;
      comes = c;
      headline = violates_none asked files given after c;
      attacks = attacks_violate asked files given after c;
      printed = worded;
      written = subst (λ n. Writes (outcome_bytes n given after)) chosen written;
      read_back = verdicts_back law asked within files given after c worded;
      complete = is_complete asked files given after c;
    }

-- of want of memory, where nothing was loaded
pub memory_world : (asked : Request) (files : Outside) (outcome : declared.Outcome) (Writes : List ℕ → Type 0) → IsNothingLoaded files → outcome_of outcome ≡ Memory
    → Writes (outcome_bytes (format_of asked) None (outcome_of outcome)) → World asked files (outcome_of outcome) Writes
memory_world asked files outcome Writes same is written =
    subst (λ o. World asked files o Writes) (sym is)
    (let c = memory_comes asked files same in
    record {
      words = None;
      comes = c;
      headline = violates_none asked files None Memory c;
      attacks = attacks_violate asked files None Memory c;
      printed = refl;
      written = subst (λ o. Writes (outcome_bytes (format_of asked) None o)) is written;
      read_back = tt;
      complete = is_complete asked files None Memory c;
    })

-- Whether a refused step is possible.
use Rattle.std.proofs.Common.{◌≡◌, ◌≢◌, Bool, true, false, cond, [], ◌∷◌, Option, None, Some, IsNone, IsSome, ◌↔◌, refl}
use Rattle.std.specs.List.{list_any}
use Rattle.std.specs.Option.{option_or}
use Rattle.spec_calculus.specs.Syntax.{Protocol}
use Rattle.spec_calculus.specs.Runs.{Configuration, Step, Build, Reduce, Part, Fresh, Split, Copy, Make, Pass, Hear, Say, Take, Fail, Mark, Next, Put, Fetch, Miss, after_step}
use Rattle.spec_calculus.specs.Refusals as cause
use Rattle.spec_calculus.specs.Refusals.{Refusal, first_cause, where_true, refusal, IsUniform}
use Rattle.spec_calculus.specs.Limits.{is_large, evaluated, limited_refusal}
use Rattle.spec_calculus.proofs.Refusals.{refusals_are_exact}
use Rattle.pi_model.specs.declared.errors.StepError.TheVariants.{NoThread, WrongForm, UnknownChannel, ChannelsDiffer, NoKnowledge, NoRule, NotFailing, NotPublic, NoEntry, Large}
use Rattle.pi_model.specs.declared.errors.ApplyError.{ApplyError}
use Rattle.pi_model.specs.declared.errors.ApplyError.TheVariants.{Refused, Memory}
use Rattle.pi_model.specs.Answers.{IsRefusalOf, TellsWhether}

other-first : (applies : Bool) (r : Refusal) (rest : Option Refusal) → r ≢ cause.Large → rest ≢ Some cause.Large → cond applies (Some r) rest ≢ Some cause.Large
other-first true r rest h k e = let same : r ≡ cause.Large = cc in h same
other-first false r rest h k e = k e

-- each cause is another
no_thread-other : cause.NoThread ≢ cause.Large
no_thread-other e = cc

wrong_form-other : cause.WrongForm ≢ cause.Large
wrong_form-other e = cc

unknown_channel-other : cause.UnknownChannel ≢ cause.Large
unknown_channel-other e = cc

channels_differ-other : cause.ChannelsDiffer ≢ cause.Large
channels_differ-other e = cc

no_knowledge-other : cause.NoKnowledge ≢ cause.Large
no_knowledge-other e = cc

no_rule-other : cause.NoRule ≢ cause.Large
no_rule-other e = cc

not_failing-other : cause.NotFailing ≢ cause.Large
not_failing-other e = cc

not_public-other : cause.NotPublic ≢ cause.Large
not_public-other e = cc

no_entry-other : cause.NoEntry ≢ cause.Large
no_entry-other e = cc

one : (a : Bool) (r : Refusal) → r ≢ cause.Large → first_cause (where_true r a ∷ []) ≢ Some cause.Large
one a r h = other-first a r None h (λ e. cc)

two : (a b : Bool) (r s : Refusal) → r ≢ cause.Large → s ≢ cause.Large → first_cause (where_true r a ∷ where_true s b ∷ []) ≢ Some cause.Large
two a b r s h k = other-first a r (first_cause (where_true s b ∷ [])) h (one b s k)

three : (a b d : Bool) (r s t : Refusal) → r ≢ cause.Large → s ≢ cause.Large → t ≢ cause.Large → first_cause (where_true r a ∷ where_true s b ∷ where_true t d ∷ []) ≢ Some cause.Large
three a b d r s t h k l = other-first a r (first_cause (where_true s b ∷ where_true t d ∷ [])) h (two b d s t k l)

four : (a b d f : Bool) (r s t u : Refusal) → r ≢ cause.Large → s ≢ cause.Large → t ≢ cause.Large → u ≢ cause.Large → first_cause (where_true r a ∷ where_true s b ∷ where_true t d ∷ where_true u f ∷ []) ≢ Some cause.Large
four a b d f r s t u h k l m = other-first a r (first_cause (where_true s b ∷ where_true t d ∷ where_true u f ∷ [])) h (three b d f s t u k l m)

refusal-other : (P : Protocol) (c : Configuration) (step : Step) → refusal P c step ≢ Some cause.Large
refusal-other P c (Build f ks) = three _ _ _ _ _ _ wrong_form-other no_knowledge-other not_public-other
refusal-other P c (Reduce d r ks) = three _ _ _ _ _ _ wrong_form-other no_knowledge-other no_rule-other
refusal-other P c (Part k i) = two _ _ _ _ no_knowledge-other wrong_form-other
refusal-other P c Fresh = λ e. cc
refusal-other P c (Split i) = two _ _ _ _ no_thread-other wrong_form-other
refusal-other P c (Copy i) = two _ _ _ _ no_thread-other wrong_form-other
refusal-other P c (Make i) = two _ _ _ _ no_thread-other wrong_form-other
refusal-other P c (Pass i j) = three _ _ _ _ _ _ no_thread-other wrong_form-other channels_differ-other
refusal-other P c (Hear i) = three _ _ _ _ _ _ no_thread-other wrong_form-other unknown_channel-other
refusal-other P c (Say j k) = four _ _ _ _ _ _ _ _ no_thread-other wrong_form-other unknown_channel-other no_knowledge-other
refusal-other P c (Take i n) = three _ _ _ _ _ _ no_thread-other wrong_form-other no_rule-other
refusal-other P c (Fail i) = three _ _ _ _ _ _ no_thread-other wrong_form-other not_failing-other
refusal-other P c (Mark i) = two _ _ _ _ no_thread-other wrong_form-other
refusal-other P c Next = one _ _ wrong_form-other
refusal-other P c (Put i) = two _ _ _ _ no_thread-other wrong_form-other
refusal-other P c (Fetch i e) = three _ _ _ _ _ _ no_thread-other wrong_form-other no_entry-other
refusal-other P c (Miss i) = three _ _ _ _ _ _ no_thread-other wrong_form-other not_failing-other

cond-some : (b : Bool) (r : Refusal) → cond b (Some cause.Large) None ≡ Some r → (b ≡ true) × (r ≡ cause.Large)
cond-some true r e = (refl, cc)
cond-some false r e = cc

-- the cause of a refusal, or size
parts : (o : Option Refusal) (b : Bool) (r : Refusal) → r ≢ cause.Large → option_or o (cond b (Some cause.Large) None) ≡ Some r → o ≡ Some r
parts None b r other e = absurd (other (cond-some b r e).1)
parts (Some x) b r other e = e

size : (o : Option Refusal) (b : Bool) → o ≢ Some cause.Large → option_or o (cond b (Some cause.Large) None) ≡ Some cause.Large → (o ≡ None) × (b ≡ true)
size None b other e = (refl, (cond-some b cause.Large e).0)
size (Some x) b other e = absurd (other e)

not_some : {A B : Type 0} (o : Option A) (p : Option B) (x : A) → (IsNone o ↔ IsSome p) → o ≡ Some x → p ≡ None
not_some o None x h e = refl
not_some None (Some y) x h e = cc
not_some (Some z) (Some y) x h e = let bad : true ≡ false = h.1 refl in cc

is_none-of : {A : Type 0} (o : Option A) → o ≡ None → IsNone o
is_none-of None e = refl
is_none-of (Some x) e = cc

module _ (P : Protocol) (c : Configuration) (step : Step) (uniform : IsUniform P) where
  impossible : (r : Refusal) → r ≢ cause.Large → limited_refusal P c step ≡ Some r → after_step P c step ≡ None
  impossible r other e =
      not_some (refusal P c step) (after_step P c step) r (refusals_are_exact P c step uniform) (parts (refusal P c step) (list_any is_large (evaluated P c step)) r other e)

  too_large : limited_refusal P c step ≡ Some cause.Large → IsSome (after_step P c step) × (list_any is_large (evaluated P c step) ≡ true)
  too_large e =
      let both = size (refusal P c step) (list_any is_large (evaluated P c step)) (refusal-other P c step) e in
      ((refusals_are_exact P c step uniform).0 (is_none-of (refusal P c step) both.0), both.1)

  pub told : (error : ApplyError) → IsRefusalOf P c step error → TellsWhether P c step error
  told (Refused NoThread) e = impossible cause.NoThread (λ x. cc) e
  told (Refused WrongForm) e = impossible cause.WrongForm (λ x. cc) e
  told (Refused UnknownChannel) e = impossible cause.UnknownChannel (λ x. cc) e
  told (Refused ChannelsDiffer) e = impossible cause.ChannelsDiffer (λ x. cc) e
  told (Refused NoKnowledge) e = impossible cause.NoKnowledge (λ x. cc) e
  told (Refused NoRule) e = impossible cause.NoRule (λ x. cc) e
  told (Refused NotFailing) e = impossible cause.NotFailing (λ x. cc) e
  told (Refused NotPublic) e = impossible cause.NotPublic (λ x. cc) e
  told (Refused NoEntry) e = impossible cause.NoEntry (λ x. cc) e
  told (Refused Large) e = too_large e
  told (Memory x) e = tt

pub ruleset of_told = (told)

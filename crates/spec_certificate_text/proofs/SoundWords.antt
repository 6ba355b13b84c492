-- No step within a word or digits loses or changes a byte.
use Rattle.std.proofs.Common.{◌≡◌, ℕ, ◌+◌, ◌-◌, ◌≤◌, Bool, true, ◌==◌, if◌then◌else◌, List, [], ◌∷◌, ◌++◌, drop, Option, Some, None, refl, sym, ◌∙◌, ap, append_assoc, arith}
use Rattle.std.specs.Char.{is_ascii_digit}
use Rattle.std.specs.Fmt.{decimal}
use Rattle.std.specs.List.{list_all}
use Rattle.spec_trees.specs.Tree.{Leaf, node}
use Rattle.spec_calculus.specs.Syntax.{Protocol}
use Rattle.spec_protocol_tokens.specs.Bytes.{is_in_word}
use Rattle.spec_protocol_scope.specs.Names.{is_variable}
use Rattle.spec_terms.specs.Term.{Sym, Ctor, Data, Tuple, Free, Point, Attacker}
use Rattle.spec_run_text.specs.Reading.{numeral}
use Rattle.spec_run_text.proofs.Numbers.{numeral_some}
use Rattle.spec_certificate_text.specs.Words.{symbol_word}
use Rattle.spec_certificate_text.specs.Text.{term_text}
use Rattle.spec_certificate_text.proofs.Runs.{both_left}
use Rattle.spec_certificate_text.specs.Names.{Named, symbol_called, name_called}
use Rattle.spec_certificate_text.specs.Terms.{Open, Mode, Begins, InWord, InDigits, AtBracket, InBound, Ended, Reading, Fault, head_text, heads_text, mode_text, so_far}
use Rattle.spec_certificate_text.specs.Steps.{goes, unless_deep, opened, after_term, after_variable, after_name, after_word, apply, in_word, after_point, after_number, after_digits, in_digits, at_bracket, after_bound, bound_ended, in_bound, step_in, step}
use Rattle.spec_certificate_text.specs.Sides.{first_bound, variable_word}
use Rattle.spec_certificate_text.specs.Spelled.{goes_on}
use Rattle.spec_certificate_text.proofs.Sides.{own_word, bound_word}
use Rattle.spec_certificate_text.specs.Sound.{IsSound}
use Rattle.spec_certificate_text.proofs.Named.{IsWorded, symbol_called_is, name_called_is}
use Rattle.spec_certificate_text.proofs.Sound.{when, same_byte, unless_deep-sound, after_term-sound, at_begin-sound}

-- the name of a variable is `v` and the rest of it
pub variable_rest : (word : List ℕ) → is_variable word ≡ true → word ≡ 118 ∷ drop 1 word
variable_rest [] e = absurd (cc)
variable_rest (b ∷ []) e = absurd (cc)
variable_rest (b ∷ d ∷ ds) e = ap (λ c. c ∷ d ∷ ds) (same_byte b 118 (both_left (b == 118) (list_all is_ascii_digit (d ∷ ds)) e))

after_variable-sound : (P : Protocol) (text : List ℕ) (b : ℕ) (k : List ℕ) (at : ℕ) (heads : List Open) (from : ℕ) (digits : List ℕ) (number : Option ℕ) → numeral digits ≡ number → text ≡ heads_text P heads (118 ∷ (digits ++ (b ∷ k))) → IsSound P text b k (after_variable at heads from digits number b)
after_variable-sound P text b k at heads from digits None is e = tt
after_variable-sound P text b k at heads from digits (Some x) is e =
    let told = numeral_some digits x is in
    after_term-sound P text b k at (Leaf x) heads from (e ∙ (ap (λ ds. heads_text P heads (118 ∷ (ds ++ (b ∷ k)))) told.0 ∙ ap (λ w. heads_text P heads (w ++ (b ∷ k))) (sym (own_word x told.1))))

-- a bound variable is `?` and its digits
after_bound-sound : (P : Protocol) (text : List ℕ) (b : ℕ) (k : List ℕ) (at : ℕ) (heads : List Open) (from : ℕ) (digits : List ℕ) (number : Option ℕ) → numeral digits ≡ number → text ≡ heads_text P heads (63 ∷ (digits ++ (b ∷ k))) → IsSound P text b k (after_bound at heads from digits number b)
after_bound-sound P text b k at heads from digits None is e = tt
after_bound-sound P text b k at heads from digits (Some i) is e =
    let told = numeral_some digits i is in
    let over : first_bound ≤ first_bound + i = omega arith in
    let back : (first_bound + i) - first_bound ≡ i = omega arith in
    let word : 63 ∷ digits ≡ variable_word (first_bound + i) = ap (λ ds. 63 ∷ ds) (told.0 ∙ ap decimal (sym back)) ∙ sym (bound_word (first_bound + i) over) in
    let ended = after_term at (Leaf (first_bound + i)) heads from b in
    when P text b k (goes_on b) (Fault at _) ended (λ more. tt) (λ stops. after_term-sound P text b k at (Leaf (first_bound + i)) heads from (e ∙ ap (λ w. heads_text P heads (w ++ (b ∷ k))) word))

bound_ended-sound : (P : Protocol) (text : List ℕ) (b : ℕ) (k : List ℕ) (at : ℕ) (heads : List Open) (from : ℕ) (digits : List ℕ) → text ≡ heads_text P heads (63 ∷ (digits ++ (b ∷ k))) → IsSound P text b k (bound_ended at heads from digits b)
bound_ended-sound P text b k at heads from [] e = tt
bound_ended-sound P text b k at heads from (d ∷ ds) e = after_bound-sound P text b k at heads from (d ∷ ds) (numeral (d ∷ ds)) refl e

in_bound-sound : (P : Protocol) (text : List ℕ) (b : ℕ) (k : List ℕ) (at : ℕ) (heads : List Open) (from : ℕ) (digits : List ℕ) → text ≡ heads_text P heads (63 ∷ (digits ++ (b ∷ k))) → IsSound P text b k (in_bound at heads from digits b)
in_bound-sound P text b k at heads from digits e =
    when P text b k (is_ascii_digit b) (goes heads (InBound (digits ++ b ∷ [])) from) (bound_ended at heads from digits b)
    (λ digit. e ∙ ap (λ rest. heads_text P heads (63 ∷ rest)) (sym (append_assoc digits (b ∷ []) k))) (λ ends. bound_ended-sound P text b k at heads from digits e)

pub alone_text : (P : Protocol) (s : Sym) (rest : List ℕ) → IsWorded s → term_text P (node s []) rest ≡ symbol_word P s ++ rest
alone_text P (Ctor f) rest worded = refl
alone_text P (Data f) rest worded = refl
alone_text P (Free a) rest worded = refl
alone_text P (Tuple n) rest worded = absurd worded
alone_text P (Point p) rest worded = absurd worded
alone_text P Attacker rest worded = absurd worded

pub applied_text : (P : Protocol) (s : Sym) (rest : List ℕ) → IsWorded s → head_text P s rest ≡ symbol_word P s ++ (40 ∷ rest)
applied_text P (Ctor f) rest worded = refl
applied_text P (Data f) rest worded = refl
applied_text P (Free a) rest worded = refl
applied_text P (Tuple n) rest worded = absurd worded
applied_text P (Point p) rest worded = absurd worded
applied_text P Attacker rest worded = absurd worded

after_name-sound : (P : Protocol) (text : List ℕ) (b : ℕ) (k : List ℕ) (at : ℕ) (heads : List Open) (from : ℕ) (word : List ℕ) (found : Option Named) → symbol_called P word ≡ found → text ≡ heads_text P heads (word ++ (b ∷ k)) → IsSound P text b k (after_name at heads from found b)
after_name-sound P text b k at heads from word None is e = tt
after_name-sound P text b k at heads from word (Some named) is e =
    let called = symbol_called_is P word named is in
    let alone : word ++ (b ∷ k) ≡ term_text P (node named.symbol []) (b ∷ k) = ap (λ w. w ++ (b ∷ k)) (sym called.has_word) ∙ sym (alone_text P named.symbol (b ∷ k) called.worded) in
    let ended = after_term at (node named.symbol []) heads from b in
    when P text b k (named.arity == 0) (unless_deep heads from ended) (Fault from _)
    (λ constant. unless_deep-sound P text b k heads from ended (after_term-sound P text b k at (node named.symbol []) heads from (e ∙ ap (heads_text P heads) alone)))
    (λ takes. tt)

after_word-sound : (P : Protocol) (text : List ℕ) (b : ℕ) (k : List ℕ) (at : ℕ) (heads : List Open) (from : ℕ) (word : List ℕ) → text ≡ heads_text P heads (word ++ (b ∷ k)) → IsSound P text b k (after_word P at heads from word b)
after_word-sound P text b k at heads from word e =
    let number = after_variable at heads from (drop 1 word) (numeral (drop 1 word)) b in
    when P text b k (is_variable word) (unless_deep heads from number) (after_name at heads from (symbol_called P word) b)
    (λ variable. unless_deep-sound P text b k heads from number (after_variable-sound P text b k at heads from (drop 1 word) (numeral (drop 1 word)) refl (e ∙ ap (λ w. heads_text P heads (w ++ (b ∷ k))) (variable_rest word variable))))
    (λ name. after_name-sound P text b k at heads from word (symbol_called P word) refl e)

apply-sound : (P : Protocol) (text : List ℕ) (b : ℕ) (k : List ℕ) (heads : List Open) (from : ℕ) (word : List ℕ) (found : Option Named) → symbol_called P word ≡ found → text ≡ heads_text P heads (word ++ (40 ∷ k)) → IsSound P text b k (apply heads from found)
apply-sound P text b k heads from word None is e = tt
apply-sound P text b k heads from word (Some named) is e =
    let called = symbol_called_is P word named is in
    let head : word ++ (40 ∷ k) ≡ head_text P named.symbol k = ap (λ w. w ++ (40 ∷ k)) (sym called.has_word) ∙ sym (applied_text P named.symbol k called.worded) in
    unless_deep-sound P text b k heads from (opened heads named from) (e ∙ ap (heads_text P heads) head)

in_word-sound : (P : Protocol) (text : List ℕ) (b : ℕ) (k : List ℕ) (at : ℕ) (heads : List Open) (from : ℕ) (word : List ℕ) → text ≡ heads_text P heads (word ++ (b ∷ k)) → IsSound P text b k (in_word P at heads from word b)
in_word-sound P text b k at heads from word e =
    let longer = goes heads (InWord (word ++ b ∷ [])) from in
    let applied = apply heads from (symbol_called P word) in
    let behind = goes heads (InDigits word []) from in
    let ended = after_word P at heads from word b in
    when P text b k (is_in_word b) longer (if b == 40 then applied else (if b == 64 then behind else ended))
    (λ letter. e ∙ ap (heads_text P heads) (sym (append_assoc word (b ∷ []) k)))
    (λ no_letter. when P text b k (b == 40) applied (if b == 64 then behind else ended)
    (λ is. apply-sound P text b k heads from word (symbol_called P word) refl (e ∙ ap (λ c. heads_text P heads (word ++ (c ∷ k))) (same_byte b 40 is)))
    (λ alone. when P text b k (b == 64) behind ended
    (λ is. e ∙ ap (λ c. heads_text P heads (word ++ (c ∷ k))) (same_byte b 64 is))
    (λ ends. after_word-sound P text b k at heads from word e)))

after_point-sound : (P : Protocol) (text : List ℕ) (b : ℕ) (k : List ℕ) (at : ℕ) (heads : List Open) (from : ℕ) (word : List ℕ) (point : ℕ) (found : Option Named) → name_called P word point ≡ found → text ≡ heads_text P heads (word ++ (64 ∷ (decimal point ++ (b ∷ k)))) → IsSound P text b k (after_point at heads from found b)
after_point-sound P text b k at heads from word point None is e = tt
after_point-sound P text b k at heads from word point (Some named) is e =
    let called = name_called_is P word point named is in
    let head : word ++ (64 ∷ (decimal point ++ (91 ∷ k))) ≡ head_text P named.symbol k =
    ap (λ w. w ++ (64 ∷ (decimal point ++ (91 ∷ k)))) (sym called.has_word) ∙ ap (λ s. head_text P s k) (sym called.symbol) in
    when P text b k (b == 91) (opened heads named from) (unless_deep heads from (Fault at _))
    (λ is_bracket. e ∙ ap (heads_text P heads) (ap (λ c. word ++ (64 ∷ (decimal point ++ (c ∷ k)))) (same_byte b 91 is_bracket) ∙ head))
    (λ none. unless_deep-sound P text b k heads from (Fault at _) tt)

after_number-sound : (P : Protocol) (text : List ℕ) (b : ℕ) (k : List ℕ) (at : ℕ) (heads : List Open) (from : ℕ) (word digits : List ℕ) (number : Option ℕ) → numeral digits ≡ number → text ≡ heads_text P heads (word ++ (64 ∷ (digits ++ (b ∷ k)))) → IsSound P text b k (after_number P at heads from word digits number b)
after_number-sound P text b k at heads from word digits None is e = unless_deep-sound P text b k heads from (Fault _ _) tt
after_number-sound P text b k at heads from word digits (Some point) is e =
    after_point-sound P text b k at heads from word point (name_called P word point) refl (e ∙ ap (λ ds. heads_text P heads (word ++ (64 ∷ (ds ++ (b ∷ k))))) (numeral_some digits point is).0)

in_digits-sound : (P : Protocol) (text : List ℕ) (b : ℕ) (k : List ℕ) (at : ℕ) (heads : List Open) (from : ℕ) (word digits : List ℕ) → text ≡ heads_text P heads (word ++ (64 ∷ (digits ++ (b ∷ k)))) → IsSound P text b k (in_digits P at heads from word digits b)
in_digits-sound P text b k at heads from word digits e =
    when P text b k (is_ascii_digit b) (goes heads (InDigits word (digits ++ b ∷ [])) from) (after_digits P at heads from word digits b)
    (λ digit. e ∙ ap (λ rest. heads_text P heads (word ++ (64 ∷ rest))) (sym (append_assoc digits (b ∷ []) k)))
    (λ end. by digits e)
  where
    by : (ds : List ℕ) → text ≡ heads_text P heads (word ++ (64 ∷ (ds ++ (b ∷ k)))) → IsSound P text b k (after_digits P at heads from word ds b)
    by [] is = unless_deep-sound P text b k heads from (Fault at _) tt
    by (d ∷ ds) is = after_number-sound P text b k at heads from word (d ∷ ds) (numeral (d ∷ ds)) refl is

at_bracket-sound : (P : Protocol) (text : List ℕ) (b : ℕ) (k : List ℕ) (at : ℕ) (heads : List Open) (from : ℕ) → text ≡ heads_text P heads (64 ∷ b ∷ k) → IsSound P text b k (at_bracket at heads from b)
at_bracket-sound P text b k at heads from e =
    when P text b k (b == 91) (opened heads record { symbol = Attacker; arity = 1 } from) (Fault at _)
    (λ is. e ∙ ap (λ c. heads_text P heads (64 ∷ c ∷ k)) (same_byte b 91 is)) (λ none. tt)

-- a step that is not refused keeps the text
pub step-sound : (binds : Bool) (P : Protocol) (at : ℕ) (r : Reading) (b : ℕ) (k : List ℕ) → IsSound P (so_far P r (b ∷ k)) b k (step binds P at r b)
step-sound binds P at r b k = by r.mode
  where
    by : (mode : Mode) → IsSound P (heads_text P r.heads (mode_text P mode (b ∷ k))) b k (step_in binds P at r.heads r.from mode b)
    by Begins = at_begin-sound binds P (heads_text P r.heads (b ∷ k)) b k at r.heads refl
    by (InWord word) = in_word-sound P (heads_text P r.heads (word ++ (b ∷ k))) b k at r.heads r.from word refl
    by (InDigits word digits) = in_digits-sound P (heads_text P r.heads (word ++ (64 ∷ (digits ++ (b ∷ k))))) b k at r.heads r.from word digits refl
    by AtBracket = at_bracket-sound P (heads_text P r.heads (64 ∷ b ∷ k)) b k at r.heads r.from refl
    by (InBound digits) = in_bound-sound P (heads_text P r.heads (63 ∷ (digits ++ (b ∷ k)))) b k at r.heads r.from digits refl
    by (Ended t) = after_term-sound P (heads_text P r.heads (term_text P t (b ∷ k))) b k at t r.heads r.from refl

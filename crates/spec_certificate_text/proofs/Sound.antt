-- No step loses or changes a byte.
use Rattle.std.proofs.Common.{◌≡◌, ℕ, ◌+◌, Bool, true, false, ◌==◌, ◌&&◌, if◌then◌else◌, List, [], ◌∷◌, ◌++◌, length, refl, sym, ◌∙◌, ap, arith}
use Rattle.std.proofs.lemmas.Bool.Decides.{nat_tests}
use Rattle.spec_trees.specs.Tree.{node, trees}
use Rattle.spec_protocol_tokens.specs.Bytes.{begins_word}
use Rattle.spec_calculus.specs.Syntax.{Protocol}
use Rattle.spec_terms.specs.Term.{Sym, Ctor, Data, Tuple, Free, Point, Attacker, Term}
use Rattle.spec_certificate_text.specs.Loose.{onto, row, behind}
use Rattle.spec_certificate_text.specs.Written.{written, written_row}
use Rattle.spec_certificate_text.specs.Text.{term_text}
use Rattle.spec_certificate_text.proofs.Runs.{both_left, both_right}
use Rattle.spec_certificate_text.specs.Terms.{Open, Begins, InWord, AtBracket, InBound, Ended, Step, Fault, head_text, arguments_text, heads_text}
use Rattle.spec_certificate_text.specs.Steps.{is_deep, goes, unless_deep, opened, with_parts, has_arity, closed, closing_byte, may_close, may_go_on, may_be_empty, after_term, begin_bound, begin_term, at_begin}
use Rattle.spec_certificate_text.specs.Sound.{IsSound}

-- a choice is sound where each side is
pub when : (P : Protocol) (text : List ℕ) (b : ℕ) (k : List ℕ) (test : Bool) (x y : Step) → (test ≡ true → IsSound P text b k x) → (test ≡ false → IsSound P text b k y) → IsSound P text b k (if test then x else y)
when P text b k true x y first second = first refl
when P text b k false x y first second = second refl

pub same_byte : (a b : ℕ) → (a == b) ≡ true → a ≡ b
same_byte a b e = grind (arith, nat_tests)

pub unless_deep-sound : (P : Protocol) (text : List ℕ) (b : ℕ) (k : List ℕ) (heads : List Open) (from : ℕ) (s : Step) → IsSound P text b k s → IsSound P text b k (unless_deep heads from s)
unless_deep-sound P text b k heads from s sound = when P text b k (is_deep heads) (Fault from _) s (λ deep. tt) (λ shallow. sound)

-- one more argument
pub arguments_text-push : (P : Protocol) (ts : List Term) (t : Term) (k : List ℕ) → arguments_text P (ts ++ t ∷ []) k ≡ arguments_text P ts (term_text P t (44 ∷ k))
arguments_text-push P [] t k = refl
arguments_text-push P (u ∷ us) t k = ap (λ rest. term_text P u (44 ∷ rest)) (arguments_text-push P us t k)

behind_row : (P : Protocol) (ts : List Term) (t : Term) (k : List ℕ) → behind (written_row P (trees (ts ++ t ∷ []))) k ≡ 44 ∷ row (written_row P (trees (ts ++ t ∷ []))) k
behind_row P [] t k = refl
behind_row P (u ∷ us) t k = refl

-- a row is its arguments, of which the last has no comma
row_text : (P : Protocol) (ts : List Term) (t : Term) (k : List ℕ) → row (written_row P (trees (ts ++ t ∷ []))) k ≡ arguments_text P ts (term_text P t k)
row_text P [] t k = refl
row_text P (u ∷ us) t k = ap (onto (written P u)) (behind_row P us t k ∙ ap (λ rest. 44 ∷ rest) (row_text P us t k))

-- a symbol over some arguments
headed_closed : (P : Protocol) (s : Sym) (n : ℕ) (ts : List Term) (t : Term) (k : List ℕ) → term_text P (node (with_parts s n) (ts ++ t ∷ [])) k ≡ head_text P s (row (written_row P (trees (ts ++ t ∷ []))) (closing_byte s ∷ k))
headed_closed P (Ctor f) n [] t k = refl
headed_closed P (Ctor f) n (u ∷ us) t k = refl
headed_closed P (Data f) n [] t k = refl
headed_closed P (Data f) n (u ∷ us) t k = refl
headed_closed P (Tuple m) n ts t k = refl
headed_closed P (Free a) n [] t k = refl
headed_closed P (Free a) n (u ∷ us) t k = refl
headed_closed P (Point p) n ts t k = refl
headed_closed P Attacker n ts t k = refl

pub closed_text : (P : Protocol) (s : Sym) (n : ℕ) (ts : List Term) (t : Term) (k : List ℕ) → head_text P s (arguments_text P ts (term_text P t (closing_byte s ∷ k))) ≡ term_text P (node (with_parts s n) (ts ++ t ∷ [])) k
closed_text P s n ts t k = ap (head_text P s) (sym (row_text P ts t (closing_byte s ∷ k))) ∙ sym (headed_closed P s n ts t k)

closed-sound : (P : Protocol) (text : List ℕ) (b : ℕ) (k : List ℕ) (o : Open) (heads : List Open) (ts : List Term) → text ≡ heads_text P heads (term_text P (node (with_parts o.symbol (length ts)) ts) k) → IsSound P text b k (closed o heads ts)
closed-sound P text b k o heads ts e =
    let ended = goes heads (Ended (node (with_parts o.symbol (length ts)) ts)) o.place in
    when P text b k (has_arity o.symbol o.arity (length ts)) (unless_deep heads o.place ended) (Fault o.place _) (λ fits. unless_deep-sound P text b k heads o.place ended e) (λ misfits. tt)

pub after_term-sound : (P : Protocol) (text : List ℕ) (b : ℕ) (k : List ℕ) (at : ℕ) (t : Term) (heads : List Open) (from : ℕ) → text ≡ heads_text P heads (term_text P t (b ∷ k)) → IsSound P text b k (after_term at t heads from b)
after_term-sound P text b k at t [] from e = e
after_term-sound P text b k at t (o ∷ heads) from e =
    let more = goes (record o { arguments = o.arguments ++ t ∷ [] } ∷ heads) Begins from in
    let end = closed o heads (o.arguments ++ t ∷ []) in
    let otherwise = if (b == closing_byte o.symbol) && may_close o.symbol (length o.arguments + 1) then end else Fault at _ in
    when P text b k ((b == 44) && may_go_on o.symbol) more otherwise
    (λ comma. let is : b ≡ 44 = same_byte b 44 (both_left (b == 44) (may_go_on o.symbol) comma) in
    e ∙ ap (λ rest. heads_text P heads (head_text P o.symbol rest)) (ap (λ c. arguments_text P o.arguments (term_text P t (c ∷ k))) is ∙ sym (arguments_text-push P o.arguments t k)))
    (λ no_comma. when P text b k ((b == closing_byte o.symbol) && may_close o.symbol (length o.arguments + 1)) end (Fault at _)
    (λ closes. let is : b ≡ closing_byte o.symbol = same_byte b (closing_byte o.symbol) (both_left (b == closing_byte o.symbol) (may_close o.symbol (length o.arguments + 1)) closes) in
    closed-sound P text b k o heads (o.arguments ++ t ∷ [])
    (e ∙ ap (heads_text P heads) (ap (λ c. head_text P o.symbol (arguments_text P o.arguments (term_text P t (c ∷ k)))) is ∙ closed_text P o.symbol (length (o.arguments ++ t ∷ [])) o.arguments t k)))
    (λ stays. tt))

-- a bound variable begins
begin_bound-sound : (binds : Bool) (P : Protocol) (text : List ℕ) (b : ℕ) (k : List ℕ) (at : ℕ) (heads : List Open) → b ≡ 63 → text ≡ heads_text P heads (b ∷ k) → IsSound P text b k (begin_bound binds at heads)
begin_bound-sound true P text b k at heads is e = unless_deep-sound P text b k heads at (goes heads (InBound []) at) (e ∙ ap (λ c. heads_text P heads (c ∷ k)) is)
begin_bound-sound false P text b k at heads is e = tt

begin_term-sound : (binds : Bool) (P : Protocol) (text : List ℕ) (b : ℕ) (k : List ℕ) (at : ℕ) (heads : List Open) → text ≡ heads_text P heads (b ∷ k) → IsSound P text b k (begin_term binds at heads b)
begin_term-sound binds P text b k at heads e =
    let tuple = unless_deep heads at (opened heads record { symbol = Tuple 0; arity = 0 } at) in
    let bracket = unless_deep heads at (goes heads AtBracket at) in
    let bound = begin_bound binds at heads in
    let otherwise = if b == 63 then bound else Fault at _ in
    when P text b k (begins_word b) (goes heads (InWord (b ∷ [])) at) (if b == 40 then tuple else (if b == 64 then bracket else otherwise)) (λ word. e)
    (λ no_word. when P text b k (b == 40) tuple (if b == 64 then bracket else otherwise)
    (λ is. unless_deep-sound P text b k heads at (opened heads record { symbol = Tuple 0; arity = 0 } at) (e ∙ ap (λ c. heads_text P heads (c ∷ k)) (same_byte b 40 is)))
    (λ no_tuple. when P text b k (b == 64) bracket otherwise
    (λ is. unless_deep-sound P text b k heads at (goes heads AtBracket at) (e ∙ ap (λ c. heads_text P heads (c ∷ k)) (same_byte b 64 is)))
    (λ no_bracket. when P text b k (b == 63) bound (Fault at _) (λ is. begin_bound-sound binds P text b k at heads (same_byte b 63 is) e) (λ none. tt))))

pub empty_name : (P : Protocol) (s : Sym) (ts : List Term) (k : List ℕ) → may_be_empty s ts ≡ true → head_text P s (arguments_text P ts (93 ∷ k)) ≡ term_text P (node (with_parts s 0) []) k
empty_name P (Point p) [] k e = refl
empty_name P (Point p) (t ∷ ts) k e = absurd (cc)
empty_name P (Ctor f) ts k e = absurd (cc)
empty_name P (Data f) ts k e = absurd (cc)
empty_name P (Tuple n) ts k e = absurd (cc)
empty_name P (Free a) ts k e = absurd (cc)
empty_name P Attacker ts k e = absurd (cc)

pub at_begin-sound : (binds : Bool) (P : Protocol) (text : List ℕ) (b : ℕ) (k : List ℕ) (at : ℕ) (heads : List Open) → text ≡ heads_text P heads (b ∷ k) → IsSound P text b k (at_begin binds at heads b)
at_begin-sound binds P text b k at [] e = begin_term-sound binds P text b k at [] e
at_begin-sound binds P text b k at (o ∷ heads) e =
    let begun = unless_deep heads o.place (begin_term binds at (o ∷ heads) b) in
    when P text b k ((b == 93) && may_be_empty o.symbol o.arguments) (closed o heads []) begun
    (λ ends.
    let is : b ≡ 93 = same_byte b 93 (both_left (b == 93) (may_be_empty o.symbol o.arguments) ends) in
    closed-sound P text b k o heads [] (e ∙ ap (heads_text P heads) (ap (λ c. head_text P o.symbol (arguments_text P o.arguments (c ∷ k))) is ∙ empty_name P o.symbol o.arguments k (both_right (b == 93) (may_be_empty o.symbol o.arguments) ends))))
    (λ goes_on. unless_deep-sound P text b k heads o.place (begin_term binds at (o ∷ heads) b) (begin_term-sound binds P text b k at (o ∷ heads) e))

-- Behind what was read so far some text goes on, and none with the byte at which a fault of syntax is told.
use Rattle.std.proofs.Common.{◌≤◌, ◌≡◌, ℕ, suc, ◌+◌, inl, inr, Bool, true, false, ◌&&◌, if◌then◌else◌, List, [], ◌∷◌, ◌++◌, length, refl, sym, ◌∙◌, ap, subst, arith, append_assoc, length-append}
use Rattle.std.specs.Char.{is_ascii_digit}
use Rattle.std.specs.List.{list_all}
use Rattle.spec_trees.specs.Tree.{Leaf, Node, none, more}
use Rattle.spec_calculus.specs.Syntax.{Protocol}
use Rattle.spec_certificate_text.specs.Loose.{Made, Attackers, Loose, onto}
use Rattle.spec_certificate_text.specs.Written.{written}
use Rattle.spec_certificate_text.specs.Text.{term_text}
use Rattle.spec_certificate_text.specs.OfProtocol.{HasNames}
use Rattle.spec_certificate_text.proofs.Runs.{both_left, both_right}
use Rattle.spec_certificate_text.specs.Terms.{Syntax, Count, Open, Mode, Begins, InWord, InDigits, AtBracket, InBound, Ended, Reading, Step, Goes, Ends, Fault, heads_text, mode_text, so_far}
use Rattle.spec_certificate_text.specs.Steps.{is_deep, step}
use Rattle.spec_certificate_text.specs.Runs.{Refused, followed, cut_off, at_end, read_on, read_tree}
use Rattle.spec_certificate_text.specs.Sound.{IsSound}
use Rattle.spec_certificate_text.proofs.SoundWords.{step-sound}
use Rattle.spec_certificate_text.proofs.Kept.{ModeOf, ReadingOf, StepOf, step-kept}
use Rattle.spec_certificate_text.proofs.Long.{onto_long}
use Rattle.spec_reading_faults.proofs.Terms.{Ahead, step-ahead}
use Rattle.spec_certificate_faults.specs.Grammar.{IsInGrammar, MayBegin}
use Rattle.spec_certificate_faults.specs.First.{IsTermText}
use Rattle.spec_certificate_faults.proofs.Standing.{ArePlaced, begins_there, written_in}
use Rattle.spec_certificate_faults.proofs.Explained.{ModePlaced, IsPlaced, IsExplained, step-explained, start_placed, start_kept}
use Rattle.spec_certificate_text.proofs.Followed.{onto_followed}
use Rattle.spec_certificate_faults.proofs.Completes.{simple, simple_in, completes}

-- some text begins with these bytes up to the rest
pub record GoesOn (bytes rest : List ℕ) : Type 0 where
  pub before : List ℕ
  pub text : bytes ≡ before ++ rest
  pub other : List ℕ
  pub behind : List ℕ
  pub long : length behind ≤ length other
  pub is : IsTermText (before ++ other) behind

-- a tree begins with what was read of a term
mode_goes_on : (bytes : List ℕ) (level : ℕ) (here : List ℕ) → MayBegin bytes level here → (read rest : List ℕ) → here ≡ read ++ rest → (t : Loose) → IsInGrammar t → ((tail : List ℕ) → (other : List ℕ) × (onto t tail ≡ read ++ other) × (length tail ≤ length other)) → GoesOn bytes rest
mode_goes_on bytes level here may read rest text t is shown =
    let c = completes bytes level here may in
    let done = c.each t is in
    let same = shown done.tail in
    record {
      before = c.before ++ read;
      text = c.text ∙ (ap (λ l. c.before ++ l) text ∙ sym (append_assoc c.before read rest));
      other = same.0;
      behind = done.rest;
      long = omega (arith, done.long, same.2);
      is = subst (λ l. IsTermText l done.rest) (ap (λ l. c.before ++ l) same.1 ∙ sym (append_assoc c.before read same.0)) done.is;
    }

one_more_digit : (ds : List ℕ) → list_all is_ascii_digit ds ≡ true → list_all is_ascii_digit (ds ++ 48 ∷ []) ≡ true
one_more_digit [] all = refl
one_more_digit (d ∷ ds) all = ap (λ t. t && list_all is_ascii_digit (ds ++ 48 ∷ [])) (both_left (is_ascii_digit d) (list_all is_ascii_digit ds) all) ∙ one_more_digit ds (both_right (is_ascii_digit d) (list_all is_ascii_digit ds) all)

digits_read : (word ds tail : List ℕ) → onto (Node (Made word (ds ++ 48 ∷ [])) none) tail ≡ (word ++ (64 ∷ ds)) ++ (48 ∷ 91 ∷ 93 ∷ tail)
digits_read word ds tail = ap (λ l. word ++ (64 ∷ l)) (append_assoc ds (48 ∷ []) (91 ∷ 93 ∷ tail)) ∙ sym (append_assoc word (64 ∷ ds) (48 ∷ 91 ∷ 93 ∷ tail))

state_goes_on : (binds : Bool) (P : Protocol) → HasNames P → (total : ℕ) (bytes k : List ℕ) (r : Reading) → ReadingOf binds P r → IsPlaced P total r k → bytes ≡ so_far P r k → GoesOn bytes k
unfolding ModeOf ModePlaced
state_goes_on binds P names total bytes k r is placed text = by r.mode is.mode placed.heads placed.mode text
  where
    may : (here : List ℕ) → ArePlaced P total r.heads here → bytes ≡ heads_text P r.heads here → MayBegin bytes (suc (length r.heads)) here
    may here heads same = begins_there binds P names total bytes r.heads here is.heads heads same

    by : (mode : Mode) → ModeOf binds P (length r.heads) mode → ArePlaced P total r.heads (mode_text P mode k) → ModePlaced total r.from mode k → bytes ≡ heads_text P r.heads (mode_text P mode k) → GoesOn bytes k
    by Begins of_mode heads mode same = mode_goes_on bytes _ k (may k heads same) [] k refl simple simple_in (λ tail. (onto simple tail, refl, onto_long simple tail))
    by (InWord word) of_mode heads mode same = mode_goes_on bytes _ (word ++ k) (may (word ++ k) heads same) word k refl (Leaf word) (inl mode.1) (λ tail. (tail, refl, omega arith))
    by (InDigits word ds) of_mode heads mode same =
        let here = word ++ (64 ∷ (ds ++ k)) in
        mode_goes_on bytes _ here (may here heads same) (word ++ (64 ∷ ds)) k (sym (append_assoc word (64 ∷ ds) k)) (Node (Made word (ds ++ 48 ∷ [])) none)
        ((mode.1, one_more_digit ds mode.2, omega (arith, length-append ds (48 ∷ []))), tt, tt) (λ tail. (48 ∷ 91 ∷ 93 ∷ tail, digits_read word ds tail, omega arith))
    by AtBracket of_mode heads mode same =
        mode_goes_on bytes _ (64 ∷ k) (may (64 ∷ k) heads same) (64 ∷ []) k refl (Node Attackers (more simple none)) (tt, refl, (simple_in, tt)) (λ tail. (91 ∷ onto simple (93 ∷ tail), refl, omega (arith, onto_long simple (93 ∷ tail))))
    by (InBound ds) of_mode heads mode same =
        mode_goes_on bytes _ (63 ∷ (ds ++ k)) (may (63 ∷ (ds ++ k)) heads same) (63 ∷ ds) k refl (Leaf (63 ∷ (ds ++ 48 ∷ [])))
        (inr record { digits = ds ++ 48 ∷ []; some = omega (arith, length-append ds (48 ∷ [])); all = one_more_digit ds mode.1; is = refl })
        (λ tail. (48 ∷ tail, ap (λ l. 63 ∷ l) (append_assoc ds (48 ∷ []) tail), omega arith))
    by (Ended t) of_mode heads mode same =
        mode_goes_on bytes _ (term_text P t k) (may (term_text P t k) heads same) (term_text P t []) k (sym (onto_followed (written P t) [] k)) (written P t) (written_in binds P names t of_mode.is_of) (λ tail. (tail, sym (onto_followed (written P t) [] tail), omega arith))

-- a fault of syntax is told at the byte that is looked at, or at the end
pub record SyntaxAt (bytes : List ℕ) (total place : ℕ) : Type 0 where
  pub there : List ℕ
  pub goes_on : GoesOn bytes there
  pub counted : place + length there ≡ total

cut_at : (at : ℕ) (heads : List Open) (from place : ℕ) → cut_off at heads from ≡ Refused place Syntax → at ≡ place
cut_at at heads from place e = by (is_deep heads) e
  where
    by : (deep : Bool) → (if deep then Refused from Count else Refused at Syntax) ≡ Refused place Syntax → at ≡ place
    by true told = absurd (cc)
    by false told = cc

end_at : (at : ℕ) (heads : List Open) (from : ℕ) (mode : Mode) (place : ℕ) → at_end at heads from mode ≡ Refused place Syntax → at ≡ place
end_at at [] from Begins place e = cc
end_at at (o ∷ heads) from Begins place e = cut_at at heads o.place place e
end_at at heads from (InWord word) place e = cut_at at heads from place e
end_at at heads from (InDigits word digits) place e = cut_at at heads from place e
end_at at heads from AtBracket place e = cut_at at heads from place e
end_at at heads from (InBound digits) place e = cut_at at heads from place e
end_at at heads from (Ended t) place e = cut_at at heads from place e

syntax_told : (binds : Bool) (P : Protocol) → HasNames P → (bytes : List ℕ) (total : ℕ) (rest : List ℕ) (at : ℕ) (r : Reading) (place : ℕ) → ReadingOf binds P r → IsPlaced P total r rest → bytes ≡ so_far P r rest → at + length rest ≡ total → read_on binds P rest at r ≡ Refused place Syntax → SyntaxAt bytes total place
unfolding StepOf IsExplained Ahead
syntax_told binds P names bytes total [] at r place is placed text counted e =
    record { there = []; goes_on = state_goes_on binds P names total bytes [] r is placed text; counted = subst (λ p. p + 0 ≡ total) (end_at at r.heads r.from r.mode place e) counted }
syntax_told binds P names bytes total (b ∷ k) at r place is placed text counted e =
    by (step binds P at r b) (step-kept binds P at r b is) (step-sound binds P at r b k) (step-explained binds P names bytes total b k at r is placed text counted) (step-ahead binds P at r.heads r.from r.mode b) e
    (λ s s_is s_placed s_text. syntax_told binds P names bytes total k (at + 1) s place s_is s_placed s_text (omega (arith, counted)))
  where
    by : (s : Step) → StepOf binds P s → IsSound P (so_far P r (b ∷ k)) b k s → IsExplained binds P bytes total k s → Ahead at s → followed (read_on binds P k (at + 1)) at (b ∷ k) s ≡ Refused place Syntax
        → ((s : Reading) → ReadingOf binds P s → IsPlaced P total s k → bytes ≡ so_far P s k → read_on binds P k (at + 1) s ≡ Refused place Syntax → SyntaxAt bytes total place) → SyntaxAt bytes total place
    by (Goes s) kept sound explained ahead told later = later s kept explained (text ∙ sound) told
    by (Ends t) kept sound explained ahead told later = absurd (cc)
    by (Fault p c) kept sound explained ahead told later =
        let places : p ≡ place = cc in
        let codes : c ≡ Syntax = cc in
        record { there = b ∷ k; goes_on = state_goes_on binds P names total bytes (b ∷ k) r is placed text; counted = subst (λ q. q + length (b ∷ k) ≡ total) (ahead codes ∙ places) counted }

pub term_goes_on : (binds : Bool) (P : Protocol) → HasNames P → (bytes : List ℕ) (at place : ℕ) → read_tree binds P bytes at ≡ Refused place Syntax → SyntaxAt bytes (at + length bytes) place
term_goes_on binds P names bytes at place e =
    syntax_told binds P names bytes (at + length bytes) bytes at record { heads = []; mode = Begins; from = at } place (start_kept binds P at) (start_placed P (at + length bytes) at bytes) refl refl e

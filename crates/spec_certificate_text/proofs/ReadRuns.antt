-- What was read of some bytes is their front.
use Rattle.std.proofs.Common.{◌≡◌, ℕ, ◌+◌, if◌then◌else◌, Bool, true, false, List, [], ◌∷◌, length, ◌∙◌, ap, arith}
use Rattle.spec_calculus.specs.Syntax.{Protocol}
use Rattle.spec_terms.specs.Term.{Term}
use Rattle.spec_certificate_text.specs.Text.{term_text}
use Rattle.spec_certificate_text.specs.Terms.{Syntax, Count, Open, Mode, Begins, InWord, InDigits, AtBracket, InBound, Ended, Reading, Step, Goes, Ends, Fault, so_far}
use Rattle.spec_certificate_text.specs.Steps.{is_deep, step}
use Rattle.spec_certificate_text.specs.Runs.{Done, Refused, followed, cut_off, at_end, read_on, read_tree, read_term}
use Rattle.spec_certificate_text.specs.Sound.{IsSound}
use Rattle.spec_certificate_text.proofs.SoundWords.{step-sound}

-- where the bytes end no term was read
none_cut : (at : ℕ) (heads : List Open) (from : ℕ) (t : Term) (place : ℕ) (rest : List ℕ) → cut_off at heads from ≡ Done t place rest → ⊥
none_cut at heads from t place rest e = by (is_deep heads) e
  where
    by : (deep : Bool) → (if deep then Refused from Count else Refused at Syntax) ≡ Done t place rest → ⊥
    by true told = cc
    by false told = cc

pub none_at_end : (at : ℕ) (heads : List Open) (from : ℕ) (mode : Mode) (t : Term) (place : ℕ) (rest : List ℕ) → at_end at heads from mode ≡ Done t place rest → ⊥
none_at_end at [] from Begins t place rest e = cc
none_at_end at (o ∷ heads) from Begins t place rest e = none_cut at heads o.place t place rest e
none_at_end at heads from (InWord word) t place rest e = none_cut at heads from t place rest e
none_at_end at heads from (InDigits word digits) t place rest e = none_cut at heads from t place rest e
none_at_end at heads from AtBracket t place rest e = none_cut at heads from t place rest e
none_at_end at heads from (InBound digits) t place rest e = none_cut at heads from t place rest e
none_at_end at heads from (Ended u) t place rest e = none_cut at heads from t place rest e

pub read_on-sound : (binds : Bool) (P : Protocol) (bytes : List ℕ) (at : ℕ) (r : Reading) (t : Term) (place : ℕ) (rest : List ℕ) → read_on binds P bytes at r ≡ Done t place rest → so_far P r bytes ≡ term_text P t rest
read_on-sound binds P [] at r t place rest e = absurd (none_at_end at r.heads r.from r.mode t place rest e)
read_on-sound binds P (c ∷ bytes) at r t place rest e = by (step binds P at r c) (step-sound binds P at r c bytes) e (read_on-sound binds P bytes (at + 1))
  where
    by : (s : Step) → IsSound P (so_far P r (c ∷ bytes)) c bytes s → followed (read_on binds P bytes (at + 1)) at (c ∷ bytes) s ≡ Done t place rest
        → ((r' : Reading) (u : Term) (p : ℕ) (k : List ℕ) → read_on binds P bytes (at + 1) r' ≡ Done u p k → so_far P r' bytes ≡ term_text P u k)
        → so_far P r (c ∷ bytes) ≡ term_text P t rest
    by (Goes r') sound read later = sound ∙ later r' t place rest read
    by (Ends u) sound read later =
        let same : u ≡ t = cc in
        let rests : c ∷ bytes ≡ rest = cc in
        sound ∙ (ap (λ v. term_text P v (c ∷ bytes)) same ∙ ap (term_text P t) rests)
    by (Fault p code) sound read later = absurd (cc)

-- a term or a side that was read is what the bytes begin with
pub read_tree-sound : (binds : Bool) (P : Protocol) (bytes : List ℕ) (at : ℕ) (t : Term) (place : ℕ) (rest : List ℕ) → read_tree binds P bytes at ≡ Done t place rest → bytes ≡ term_text P t rest
read_tree-sound binds P bytes at t place rest e = read_on-sound binds P bytes at record { heads = []; mode = _; from = at } t place rest e

-- so is a term of a fact
pub read_term-sound : (P : Protocol) (bytes : List ℕ) (at : ℕ) (t : Term) (place : ℕ) (rest : List ℕ) → read_term P bytes at ≡ Done t place rest → bytes ≡ term_text P t rest
read_term-sound P bytes at t place rest e = read_tree-sound false P bytes at t place rest e

-- what was read and what is left are all bytes
pub read_on-place : (binds : Bool) (P : Protocol) (bytes : List ℕ) (at : ℕ) (r : Reading) (t : Term) (place : ℕ) (rest : List ℕ) → read_on binds P bytes at r ≡ Done t place rest → place + length rest ≡ at + length bytes
read_on-place binds P [] at r t place rest e = absurd (none_at_end at r.heads r.from r.mode t place rest e)
read_on-place binds P (c ∷ bytes) at r t place rest e = by (step binds P at r c) e (read_on-place binds P bytes (at + 1))
  where
    by : (s : Step) → followed (read_on binds P bytes (at + 1)) at (c ∷ bytes) s ≡ Done t place rest → ((r' : Reading) (u : Term) (p : ℕ) (k : List ℕ) → read_on binds P bytes (at + 1) r' ≡ Done u p k → p + length k ≡ at + 1 + length bytes) → place + length rest ≡ at + length (c ∷ bytes)
    by (Goes r') read later = omega (arith, later r' t place rest read)
    by (Ends u) read later = let here : at ≡ place = cc in let left : c ∷ bytes ≡ rest = cc in omega (arith, here, ap length left)
    by (Fault p code) read later = absurd (cc)

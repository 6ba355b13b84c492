-- Kinds of texts, made of others: fixed bytes, runs of bytes, one behind another, one of two, so many, and rows.
use Rattle.std.specs.Prelude.{◌≡◌, ℕ, zero, suc, ◌≤◌, ◌⊎◌, Bool, true, List, ◌++◌, length}
use Rattle.std.specs.List.{list_all}
use Rattle.spec_certificate_text.specs.Terms.{Code, Count}
use Rattle.spec_certificate_text.specs.Outcomes.{front}
use Rattle.spec_certificate_faults.specs.Grammar.{EndsAt}
use Rattle.spec_certificate_faults.specs.First.{Kind}

-- these very bytes, in which no fault but one of syntax can stand
abbrev pub fixed : List ℕ → Kind
fixed word = record { Text = λ bytes rest. bytes ≡ word ++ rest; Fault = λ code bytes there. ⊥ }

-- all bytes that pass the one test, before a byte that does not; the first passes the other test too
pub record IsRun (begins passes : ℕ → Bool) (bytes rest : List ℕ) : Type 0 where
  pub run : List ℕ
  pub some : 1 ≤ length run
  pub begin : begins (front run) ≡ true
  pub all : list_all passes run ≡ true
  pub ends : EndsAt passes rest
  pub text : bytes ≡ run ++ rest

abbrev pub runs : (ℕ → Bool) → (ℕ → Bool) → Kind
runs begins passes = record { Text = IsRun begins passes; Fault = λ code bytes there. ⊥ }

-- nothing, where what follows is so
abbrev pub nothing_before : (List ℕ → Type 0) → Kind
nothing_before So = record { Text = λ bytes rest. (bytes ≡ rest) × So rest; Fault = λ code bytes there. ⊥ }

-- one behind another: a fault stands in the first, or in what follows a first one, whatever its words name
abbrev pub behind : Kind → Kind → Kind
behind K L = record {
  Text = λ bytes rest. (mid : List ℕ) × K.Text bytes mid × L.Text mid rest;
  Fault = λ code bytes there. K.Fault code bytes there ⊎ ((mid : List ℕ) × K.Text bytes mid × L.Fault code mid there);
}

-- one of two
abbrev pub one_of : Kind → Kind → Kind
one_of K L = record {
  Text = λ bytes rest. K.Text bytes rest ⊎ L.Text bytes rest;
  Fault = λ code bytes there. K.Fault code bytes there ⊎ L.Fault code bytes there;
}

-- where such a thing begins some faults stand that the whole of it makes
abbrev pub marked : Kind → (Code → List ℕ → Type 0) → Kind
marked K Here = record {
  Text = K.Text;
  Fault = λ code bytes there. K.Fault code bytes there ⊎ ((there ≡ bytes) × Here code bytes);
}

-- so many of the one kind, and one of the other behind them
pub data TextOfMany (K L : Kind) : (bytes rest : List ℕ) → Type 0 where
  last : {bytes rest : List ℕ} → L.Text bytes rest → TextOfMany K L bytes rest
  further : {bytes rest : List ℕ} (mid : List ℕ) → K.Text bytes mid → TextOfMany K L mid rest → TextOfMany K L bytes rest

pub data FaultAmong (K L : Kind) (code : Code) : (bytes there : List ℕ) → Type 0 where
  in_last : {bytes there : List ℕ} → L.Fault code bytes there → FaultAmong K L code bytes there
  in_one : {bytes there : List ℕ} → K.Fault code bytes there → FaultAmong K L code bytes there
  later : {bytes there : List ℕ} (mid : List ℕ) → K.Text bytes mid → FaultAmong K L code mid there → FaultAmong K L code bytes there

abbrev pub many : Kind → Kind → Kind
many K L = record { Text = TextOfMany K L; Fault = FaultAmong K L }

-- Count: behind so many others, the first of which stands there, one more begins, with this letter
unfoldable pub IsOneTooMany : Kind → ℕ → ℕ → List ℕ → List ℕ → Type 0
IsOneTooMany K letter zero bytes there = (there ≡ bytes) × (front there ≡ letter)
IsOneTooMany K letter (suc most) bytes there = (mid : List ℕ) × K.Text bytes mid × IsOneTooMany K letter most mid there

-- so many at most, each of which begins with the letter
abbrev pub at_most : ℕ → ℕ → Kind → Kind → Kind
at_most most letter K L = record {
  Text = TextOfMany K L;
  Fault = λ code bytes there. FaultAmong K L code bytes there ⊎ ((code ≡ Count) × IsOneTooMany K letter most bytes there);
}

-- things, one at least: behind each but the last stands the one, and behind the last the other
abbrev pub row_of : Kind → List ℕ → List ℕ → Kind
row_of K comma close = many (behind K (fixed comma)) (behind K (fixed close))

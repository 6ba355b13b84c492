-- Kinds of texts in which what stands before counts: it has led to a state, and a text leads on to another.
use Rattle.std.specs.Prelude.{◌≡◌, ℕ, zero, suc, ◌⊎◌, List}
use Rattle.spec_certificate_text.specs.Terms.{Code, Count}
use Rattle.spec_certificate_text.specs.Outcomes.{front}
use Rattle.spec_certificate_faults.specs.First.{Kind}
use Rattle.spec_first_faults.specs.Kinds as plain
use Rattle.spec_first_faults.specs.Kinds.{fixed}

-- which bytes are a text of a kind, whatever its words name and whatever the state is, and then a rest; from which state such a text leads
-- to which, where its numbers are without fault; and which faults stand where in bytes, in a state
pub record KindIn (S : Type 0) : Type 1 where
  pub Text : (bytes rest : List ℕ) → Type 0
  pub Leads : (s : S) (bytes rest : List ℕ) (t : S) → Type 0
  pub Fault : (s : S) (code : Code) (bytes there : List ℕ) → Type 0

-- the kind in one state
abbrev pub in_state : {S : Type 0} → KindIn S → S → Kind
in_state K s = record { Text = K.Text; Fault = K.Fault s }

-- a kind in which the state does not count, and stays
abbrev pub kept : {S : Type 0} → Kind → KindIn S
kept K = record {
  Text = K.Text;
  Leads = λ s bytes rest t. K.Text bytes rest × (t ≡ s);
  Fault = λ s code bytes there. K.Fault code bytes there;
}

-- these very bytes, which change the state so
abbrev pub changing : {S : Type 0} → List ℕ → (S → S) → KindIn S
changing word change = record {
  Text = (fixed word).Text;
  Leads = λ s bytes rest t. (fixed word).Text bytes rest × (t ≡ change s);
  Fault = λ s code bytes there. ⊥;
}

-- one behind another
abbrev pub behind : {S : Type 0} → KindIn S → KindIn S → KindIn S
behind {S} K L = record {
  Text = λ bytes rest. (mid : List ℕ) × K.Text bytes mid × L.Text mid rest;
  Leads = λ s bytes rest u. (mid : List ℕ) × (t : S) × K.Leads s bytes mid t × L.Leads t mid rest u;
  Fault = λ s code bytes there. K.Fault s code bytes there ⊎ ((mid : List ℕ) × (t : S) × K.Leads s bytes mid t × L.Fault t code mid there);
}

-- one of two
abbrev pub one_of : {S : Type 0} → KindIn S → KindIn S → KindIn S
one_of K L = record {
  Text = λ bytes rest. K.Text bytes rest ⊎ L.Text bytes rest;
  Leads = λ s bytes rest t. K.Leads s bytes rest t ⊎ L.Leads s bytes rest t;
  Fault = λ s code bytes there. K.Fault s code bytes there ⊎ L.Fault s code bytes there;
}

-- where such a thing begins some faults stand that the whole of it makes
abbrev pub marked : {S : Type 0} → KindIn S → (S → Code → List ℕ → Type 0) → KindIn S
marked K Here = record {
  Text = K.Text;
  Leads = K.Leads;
  Fault = λ s code bytes there. K.Fault s code bytes there ⊎ ((there ≡ bytes) × Here s code bytes);
}

-- so many of the one kind, and one of the other behind them
pub data LeadsThrough {S : Type 0} (K L : KindIn S) : (s : S) (bytes rest : List ℕ) (t : S) → Type 0 where
  last : {s t : S} {bytes rest : List ℕ} → L.Leads s bytes rest t → LeadsThrough K L s bytes rest t
  further : {s u : S} {bytes rest : List ℕ} (mid : List ℕ) (t : S) → K.Leads s bytes mid t → LeadsThrough K L t mid rest u → LeadsThrough K L s bytes rest u

pub data FaultThrough {S : Type 0} (K L : KindIn S) (code : Code) : (s : S) (bytes there : List ℕ) → Type 0 where
  in_last : {s : S} {bytes there : List ℕ} → L.Fault s code bytes there → FaultThrough K L code s bytes there
  in_one : {s : S} {bytes there : List ℕ} → K.Fault s code bytes there → FaultThrough K L code s bytes there
  later : {s : S} {bytes there : List ℕ} (mid : List ℕ) (t : S) → K.Leads s bytes mid t → FaultThrough K L code t mid there → FaultThrough K L code s bytes there

-- the texts of a kind, without its faults
abbrev pub texts_of : {S : Type 0} → KindIn S → Kind
texts_of K = record { Text = K.Text; Fault = λ code bytes there. ⊥ }

abbrev pub many : {S : Type 0} → KindIn S → KindIn S → KindIn S
many K L = record {
  Text = plain.TextOfMany (texts_of K) (texts_of L);
  Leads = LeadsThrough K L;
  Fault = λ s code bytes there. FaultThrough K L code s bytes there;
}

-- Count: behind so many others, the first of which stands there, one more begins, with this letter
unfoldable pub IsOneTooMany : {S : Type 0} → KindIn S → ℕ → ℕ → S → List ℕ → List ℕ → Type 0
IsOneTooMany K letter zero s bytes there = (there ≡ bytes) × (front there ≡ letter)
IsOneTooMany {S} K letter (suc most) s bytes there = (mid : List ℕ) × (t : S) × K.Leads s bytes mid t × IsOneTooMany K letter most t mid there

-- so many at most, each of which begins with the letter
abbrev pub at_most : {S : Type 0} → ℕ → ℕ → KindIn S → KindIn S → KindIn S
at_most most letter K L = record {
  Text = (many K L).Text;
  Leads = (many K L).Leads;
  Fault = λ s code bytes there. (many K L).Fault s code bytes there ⊎ ((code ≡ Count) × IsOneTooMany K letter most s bytes there);
}

-- things, one at least: behind each but the last stands the one, and behind the last the other
abbrev pub row_of : {S : Type 0} → KindIn S → List ℕ → List ℕ → KindIn S
row_of K comma close = many (behind K (kept (fixed comma))) (behind K (kept (fixed close)))

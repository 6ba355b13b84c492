-- The sketch of the text of a ring.
use Rattle.std.specs.Prelude.{ℕ, zero, suc, ◌+◌, true, false, List, [], ◌∷◌, None}
use Rattle.spec_protocol_grammar.specs.Sketch.{TermSketch, Named, none, more, NamedPattern, no_patterns, ProcessSketch, Process, alone, beside, UnitSketch, Replicated, Output, Input, Let, omitted, given, Attacker, RuleSketch, DeclarationSketch, Free, Fun, Reduc, Query, FileSketch}

-- so many tokens further, one after another
abbrev pub further : ℕ → ℕ → ℕ
further zero b = b
further (suc k) b = further k (b + 1)

-- a name, and a name with two arguments
abbrev pub bare : ℕ → TermSketch
bare b = Named b none

abbrev pub applied : ℕ → TermSketch → TermSketch → TermSketch
applied b s t = Named b (more s (more t none))

-- the rule `dec(enc(x,y),y) -> x`, and the declarations before the keys
abbrev pub rule_sketch : RuleSketch
rule_sketch = record { first = 13; arguments = more (applied 15 (bare 17) (bare 19)) (more (bare 22) none); result = bare 25 }

abbrev pub first_sketches : List DeclarationSketch → List DeclarationSketch
first_sketches behind = Free 0 true 1 [] ∷ Free 3 false 5 [] ∷ Fun 7 true 8 10 ∷ Reduc 12 rule_sketch [] ∷ behind

-- `private free k.`, from this token on
abbrev pub key_sketch : ℕ → DeclarationSketch
key_sketch b = Free b false (further 2 b) []

-- so many keys, and what is asked behind them
abbrev pub key_sketches : ℕ → ℕ → List DeclarationSketch
key_sketches b zero = Query b (Attacker (b + 1) (bare (further 3 b)) None) ∷ []
key_sketches b (suc behind) = key_sketch b ∷ key_sketches (further 4 b) behind

-- the token behind so many keys
abbrev pub behind_keys : ℕ → ℕ → ℕ
behind_keys b zero = b
behind_keys b (suc behind) = behind_keys (further 4 b) behind

-- `out(c,enc(y,l))`, `let y = dec(x,k) in` this, and `! in(c,x);` that, by their tokens
abbrev pub send_by : (output channel enc y next : ℕ) → UnitSketch
send_by output channel enc y next = Output output (bare channel) (applied enc (bare y) (bare next)) omitted

abbrev pub open_by : (let_word y dec x key : ℕ) → UnitSketch → UnitSketch
open_by let_word y dec x key u = Let let_word (NamedPattern y no_patterns) (applied dec (bare x) (bare key)) u omitted

abbrev pub hear_by : (bang input channel x : ℕ) → UnitSketch → UnitSketch
hear_by bang input channel x u = Replicated bang (Input input (bare channel) (NamedPattern x no_patterns) (given u))

-- a process of the ring, from this token on
abbrev pub pass_sketch : ℕ → UnitSketch
pass_sketch b =
    hear_by b (b + 1) (further 3 b) (further 5 b)
    (open_by (further 8 b) (further 9 b) (further 11 b) (further 13 b) (further 15 b)
    (send_by (further 18 b) (further 20 b) (further 22 b) (further 24 b) (further 26 b)))

-- a process of the ring and so many behind it
abbrev pub passes_sketch : ℕ → ℕ → ProcessSketch
passes_sketch b zero = Process (pass_sketch b) alone
passes_sketch b (suc behind) = Process (pass_sketch b) (beside (passes_sketch (further 30 b) behind))

-- `out(c,enc(s,k))`, from this token on
abbrev pub start_sketch : ℕ → UnitSketch
start_sketch b = Output b (bare (further 2 b)) (applied (further 4 b) (bare (further 6 b)) (bare (further 8 b))) omitted

-- the main process from the word `process` on, with so many processes behind the first of the ring
abbrev pub main_sketch : ℕ → ℕ → ProcessSketch
main_sketch b m = Process (start_sketch (b + 1)) (beside (passes_sketch (further 13 b) m))

-- a ring of a key and so many behind it
abbrev pub ring_sketch : ℕ → FileSketch
ring_sketch m = record {
  declarations = first_sketches (key_sketches 27 (suc m));
  first = further 6 (behind_keys 27 (suc m));
  main = main_sketch (further 6 (behind_keys 27 (suc m))) m;
}

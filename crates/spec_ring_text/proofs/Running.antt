-- The process that the main process of a ring stands for.
use Rattle.std.proofs.Common.{◌≡◌, ℕ, ◌+◌, ◌-◌, ◌*◌, ◌<◌, ◌≤◌, true, false, List, [], ◌∷◌, None, Ok, inl, inr, refl, ap, ◌∙◌, arith}
use Rattle.std.specs.Prelude.{◌≢◌, zero, suc, codes, ◌==◌}
use Rattle.std.proofs.lemmas.Bool.Decides.{eqb_tells}
use Rattle.spec_trees.specs.Tree.{Leaf}
use Rattle.spec_calculus.specs.Bounds.{most_points, most_points_above}
use Rattle.spec_calculus.specs.Syntax as calculus
use Rattle.spec_calculus.specs.Plain.{IsPlain}
use Rattle.spec_protocol_scope.specs.Names.{Texts, Scope, Bound, bound_as}
use Rattle.spec_protocol_grammar.specs.Sketch.{UnitSketch, Input, NamedPattern, no_patterns, given}
use Rattle.spec_protocol_scope.specs.Processes.{Numbers, no_macros, process, unit, main_process}
use Rattle.spec_ring_text.specs.Text.{key, successor}
use Rattle.spec_ring_text.specs.Meaning.{pass, passes, encrypted, decrypted, key_name, ring_protocol}
use Rattle.spec_ring_text.proofs.Chunks.{Chunk, words}
use Rattle.spec_ring_text.proofs.Lines.{middle_chunks, pass_chunk, pass_chunks}
use Rattle.spec_ring_text.proofs.Sketch.{further, bare, applied, send_by, open_by, hear_by, pass_sketch, passes_sketch, main_sketch}
use Rattle.spec_ring_text.proofs.Found.{ring_scope, channel_meant, secret_meant, encryption_meant, decryption_meant, key_meant}
use Rattle.spec_ring_text.proofs.Rules as rules
use Rattle.spec_ring_text.proofs.Rules.{at_site, at_numbers}
use Rattle.spec_ring_text.proofs.Spelled.{Reads}

-- the message of a process of the ring
abbrev message : ℕ → ℕ → calculus.Term
message v j = encrypted (Leaf (calculus.Variable (v + 1))) (key_name j)

module _ (T : Texts) (n : ℕ) (small : n < 900) (bound : List Bound) (a p v : ℕ) (few_above : a + 1 ≤ most_points_above) (few : p + 1 ≤ most_points) where
  abbrev s : Scope
  s = ring_scope T n

  -- a term under a key is sent
  sent : (output channel enc y next j : ℕ) (x : calculus.Name) → 1 ≤ j → j ≤ n → T channel ≡ codes "c" → T enc ≡ codes "enc" → T next ≡ key j
      → bound_as T bound channel ≡ None → bound_as T bound next ≡ None → rules.Denotes s bound (bare y) (Leaf x)
      → unit s no_macros (at_site bound a) (at_numbers p v) (send_by output channel enc y next) ≡ Ok (calculus.Output (Leaf (calculus.Free 1)) (encrypted (Leaf x) (key_name j)) calculus.Nil, at_numbers (p + 1 + 1) v)
  sent output channel enc y next j x low high channel_is enc_is next_is channel_free next_free y_there =
      rules.output s no_macros bound a p v few_above few output (bare channel) (applied enc (bare y) (bare next)) (Leaf (calculus.Free 1)) (encrypted (Leaf x) (key_name j))
      (rules.free_name s bound channel 1 channel_free (channel_meant T n channel channel_is))
      (rules.encrypted_term s bound enc (bare y) (bare next) x (calculus.Free (j + 2)) (encryption_meant T n enc enc_is) y_there (rules.free_name s bound next (j + 2) next_free (key_meant T n next j low high small next_is)))

-- a process of the ring, by the texts of its tokens
module _ (T : Texts) (n : ℕ) (small : n < 900) (i j : ℕ) (i_low : 1 ≤ i) (i_high : i ≤ n) (j_low : 1 ≤ j) (j_high : j ≤ n)
    (bang input channel x let_word y dec x_again key_token output channel_again enc y_again next a p v : ℕ)
    (x_is : T x ≡ codes "x") (y_is : T y ≡ codes "y") (few_above : a + 4 ≤ most_points_above) (few : p + 5 ≤ most_points) where
  abbrev with_x : List Bound
  with_x = record { token = x; name = calculus.Variable v } ∷ []

  abbrev with_y : List Bound
  with_y = record { token = y; name = calculus.Variable (v + 1) } ∷ with_x

  handed_on : T channel_again ≡ codes "c" → T enc ≡ codes "enc" → T y_again ≡ codes "y" → T next ≡ key j
      → unit (ring_scope T n) no_macros (at_site with_y (a + 1 + 1 + 1)) (at_numbers (p + 1 + 1 + 1) (v + 1 + 1)) (send_by output channel_again enc y_again next)
      ≡ Ok (calculus.Output (Leaf (calculus.Free 1)) (message v j) calculus.Nil, at_numbers (p + 1 + 1 + 1 + 1 + 1) (v + 1 + 1))
  handed_on channel_is enc_is y_again_is next_is =
      sent T n small with_y (a + 1 + 1 + 1) (p + 1 + 1 + 1) (v + 1 + 1) (omega arith) (omega arith) output channel_again enc y_again next j (calculus.Variable (v + 1)) j_low j_high channel_is enc_is next_is
      (rw (y_is, x_is, channel_is) refl) (rw (y_is, x_is, next_is) refl) (rules.bound_name (ring_scope T n) with_y y_again (calculus.Variable (v + 1)) (rw (y_is, y_again_is) refl))

  abbrev passed_on : UnitSketch
  passed_on = send_by output channel_again enc y_again next

  opened : (P : calculus.Process) → T dec ≡ codes "dec" → T x_again ≡ codes "x" → T key_token ≡ key i
      → unit (ring_scope T n) no_macros (at_site with_y (a + 1 + 1 + 1)) (at_numbers (p + 1 + 1 + 1) (v + 1 + 1)) passed_on ≡ Ok (P, at_numbers (p + 1 + 1 + 1 + 1 + 1) (v + 1 + 1))
      → unit (ring_scope T n) no_macros (at_site with_x (a + 1 + 1)) (at_numbers (p + 1 + 1) (v + 1)) (open_by let_word y dec x_again key_token passed_on)
      ≡ Ok (calculus.Let (Leaf (calculus.Bind (v + 1))) (decrypted (Leaf (calculus.Variable v)) (key_name i)) P calculus.Nil, at_numbers (p + 1 + 1 + 1 + 1 + 1 + 1) (v + 1 + 1))
  opened P dec_is x_again_is key_is h =
      rules.let_call (ring_scope T n) no_macros with_x (a + 1 + 1) (p + 1 + 1) (v + 1) (omega arith) (omega arith) let_word y (applied dec (bare x_again) (bare key_token)) passed_on
      (decrypted (Leaf (calculus.Variable v)) (key_name i)) P (p + 1 + 1 + 1 + 1 + 1) (v + 1 + 1) (omega arith)
      (rules.decrypted_term (ring_scope T n) with_x dec x_again key_token (calculus.Variable v) (calculus.Free (i + 2)) (decryption_meant T n dec dec_is) refl
      (rules.bound_name (ring_scope T n) with_x x_again (calculus.Variable v) (rw (x_is, x_again_is) refl))
      (rules.free_name (ring_scope T n) with_x key_token (i + 2) (rw (x_is, key_is) refl) (key_meant T n key_token i i_low i_high small key_is))) h

  heard : (u : UnitSketch) (P : calculus.Process) (end : Numbers) → T channel ≡ codes "c"
      → unit (ring_scope T n) no_macros (at_site with_x (a + 1 + 1)) (at_numbers (p + 1 + 1) (v + 1)) u ≡ Ok (P, end)
      → unit (ring_scope T n) no_macros (at_site [] a) (at_numbers p v) (hear_by bang input channel x u) ≡ Ok (calculus.Replication (calculus.Input (Leaf (calculus.Free 1)) (Leaf (calculus.Bind v)) P), end)
  heard u P end channel_is h =
      rules.replicated (ring_scope T n) no_macros [] a p v (omega arith) (omega arith) bang (Input input (bare channel) (NamedPattern x no_patterns) (given u)) (calculus.Input (Leaf (calculus.Free 1)) (Leaf (calculus.Bind v)) P) end
      (rules.input (ring_scope T n) no_macros [] (a + 1) (p + 1) v (omega arith) (omega arith) input x (bare channel) u (Leaf (calculus.Free 1)) P end (rules.free_name (ring_scope T n) [] channel 1 refl (channel_meant T n channel channel_is)) h)

  pass_is : T channel ≡ codes "c" → T dec ≡ codes "dec" → T x_again ≡ codes "x" → T key_token ≡ key i
      → T channel_again ≡ codes "c" → T enc ≡ codes "enc" → T y_again ≡ codes "y" → T next ≡ key j
      → unit (ring_scope T n) no_macros (at_site [] a) (at_numbers p v) (hear_by bang input channel x (open_by let_word y dec x_again key_token passed_on)) ≡ Ok (pass i j v, at_numbers (p + 6) (v + 2))
  pass_is channel_is dec_is x_again_is key_is channel_again_is enc_is y_again_is next_is =
      let points : p + 1 + 1 + 1 + 1 + 1 + 1 ≡ p + 6 = omega arith in
      let variables : v + 1 + 1 ≡ v + 2 = omega arith in
      heard (open_by let_word y dec x_again key_token passed_on)
      (calculus.Let (Leaf (calculus.Bind (v + 1))) (decrypted (Leaf (calculus.Variable v)) (key_name i)) (calculus.Output (Leaf (calculus.Free 1)) (message v j) calculus.Nil) calculus.Nil)
      (at_numbers (p + 1 + 1 + 1 + 1 + 1 + 1) (v + 1 + 1)) channel_is
      (opened (calculus.Output (Leaf (calculus.Free 1)) (message v j) calculus.Nil) dec_is x_again_is key_is (handed_on channel_again_is enc_is y_again_is next_is))
      ∙ (ap (λ (k : ℕ). Ok (pass i j v, at_numbers k (v + 1 + 1))) points ∙ ap (λ (k : ℕ). Ok (pass i j v, at_numbers (p + 6) k)) variables)

-- a process of the ring, from the `|` before it on
pass_at : (T : Texts) (n : ℕ) → n < 900 → (i j : ℕ) → 1 ≤ i → i ≤ n → 1 ≤ j → j ≤ n → (b a p v : ℕ) (behind : List Chunk) → Reads T b (words (pass_chunk i j behind)) → a + 4 ≤ most_points_above → p + 5 ≤ most_points
    → unit (ring_scope T n) no_macros (at_site [] a) (at_numbers p v) (pass_sketch (b + 1)) ≡ Ok (pass i j v, at_numbers (p + 6) (v + 2))
pass_at T n small i j i_low i_high j_low j_high b a p v behind h few_above few = pass_is T n small i j i_low i_high j_low j_high
    (b + 1) (further 2 b) (further 4 b) (further 6 b) (further 9 b) (further 10 b) (further 12 b) (further 14 b) (further 16 b)
    (further 19 b) (further 21 b) (further 23 b) (further 25 b) (further 27 b) a p v
    h.1.1.1.1.1.1.0 h.1.1.1.1.1.1.1.1.1.1.0 few_above few h.1.1.1.1.0 h.1.1.1.1.1.1.1.1.1.1.1.1.0 h.1.1.1.1.1.1.1.1.1.1.1.1.1.1.0 h.1.1.1.1.1.1.1.1.1.1.1.1.1.1.1.1.0 h.1.1.1.1.1.1.1.1.1.1.1.1.1.1.1.1.1.1.1.1.1.0 h.1.1.1.1.1.1.1.1.1.1.1.1.1.1.1.1.1.1.1.1.1.1.1.0 h.1.1.1.1.1.1.1.1.1.1.1.1.1.1.1.1.1.1.1.1.1.1.1.1.1.0 h.1.1.1.1.1.1.1.1.1.1.1.1.1.1.1.1.1.1.1.1.1.1.1.1.1.1.1.0

-- the successor of a key is one of the keys
successor_within : (n i : ℕ) → 1 ≤ i → i ≤ n → (1 ≤ successor n i) × (successor n i ≤ n)
successor_within n i low high =
    elim (eqb_tells i n) [
      | inl h ↦ (let e : (i == n) ≡ true = h.0 in rw e (omega arith, omega arith))
      | inr h ↦ (let e : (i == n) ≡ false = h.0 in let other : i ≢ n = h.1 in rw e (omega arith, omega arith))
    ]

-- the process of key i and those behind it
passes_are : (T : Texts) (n : ℕ) → n < 900 → (b i m a p v : ℕ) → 1 ≤ i → i + m ≡ n → Reads T b (words (pass_chunks n i (suc m))) → a + m + 4 ≤ most_points_above → p + 7 * m + 5 ≤ most_points
    → (end : Numbers) × (process (ring_scope T n) no_macros (at_site [] a) (at_numbers p v) (passes_sketch (b + 1) m) ≡ Ok (passes n i v m, end))
passes_are T n small b i zero a p v low high h few_above few =
    let within = successor_within n i low (omega arith) in
    (at_numbers (p + 6) (v + 2), pass_at T n small i (successor n i) low (omega arith) within.0 within.1 b a p v [] h (omega arith) (omega arith))
passes_are T n small b i (suc m) a p v low high h few_above few =
    let within = successor_within n i low (omega arith) in
    let first = pass_at T n small i (successor n i) low (omega arith) within.0 within.1 b (a + 1) (p + 1) v (pass_chunks n (i + 1) (suc m)) h (omega arith) (omega arith) in
    let others = passes_are T n small (further 30 b) (i + 1) m (a + 1) (p + 1 + 6) (v + 2) (omega arith) (omega arith) h.1.1.1.1.1.1.1.1.1.1.1.1.1.1.1.1.1.1.1.1.1.1.1.1.1.1.1.1.1.1 (omega arith) (omega arith) in
    (others.0, rw (rules.room [] a p v (omega arith) (omega arith), first, others.1) refl)

-- the main process
pub main_is : (T : Texts) (m b : ℕ) → m < 500 → Reads T b (words (middle_chunks (pass_chunks (suc m) 1 (suc m)))) → main_process (ring_scope T (suc m)) (main_sketch (further 6 b) m) ≡ Ok (ring_protocol (suc m)).main
main_is T m b small h =
    let n : ℕ = suc m in
    let s : Scope = ring_scope T n in
    let secret_there = rules.free_name s [] (further 13 b) 2 refl (secret_meant T n (further 13 b) h.1.1.1.1.1.1.1.1.1.1.1.1.1.0) in
    let first = sent T n (omega arith) [] 1 2 1 (omega arith) (omega arith) (further 7 b) (further 9 b) (further 11 b) (further 13 b) (further 15 b) 1 (calculus.Free 2) (omega arith) (omega arith) h.1.1.1.1.1.1.1.1.1.0 h.1.1.1.1.1.1.1.1.1.1.1.0 h.1.1.1.1.1.1.1.1.1.1.1.1.1.1.1.0 refl refl secret_there in
    let others = passes_are T n (omega arith) (further 18 b) 1 m 1 4 1 (omega arith) (omega arith) h.1.1.1.1.1.1.1.1.1.1.1.1.1.1.1.1.1.1 (omega arith) (omega arith) in
    let last : m ≡ suc m - 1 = omega arith in
    rw (first, others.1) (ap (λ (k : ℕ). Ok (calculus.Parallel (calculus.Output (Leaf (calculus.Free 1)) (encrypted (Leaf (calculus.Free 2)) (key_name 1)) calculus.Nil) (passes n 1 1 k))) last)

-- no process of a ring waits for a phase, and none uses a table
passes_plain : (n i v m : ℕ) → IsPlain (passes n i v m)
passes_plain n i v zero = (tt, tt)
passes_plain n i v (suc m) = ((tt, tt), passes_plain n (i + 1) (v + 2) m)

pub ring_plain : (n : ℕ) → IsPlain (ring_protocol n).main
ring_plain n = (tt, passes_plain n 1 1 (n - 1))

-- Bound variables: their numbers, and in the terms of which nodes they stand.
use Rattle.std.proofs.Common.{◌≡◌, ℕ, suc, zero, ◌+◌, ◌-◌, ◌<◌, ◌≤◌, ◌||◌, Bool, true, false, List, length, drop, get_or, refl, sym, ap, ◌∙◌, arith}
use Rattle.std.proofs.lemmas.Option.{unwrap_or-slice_get}
use Rattle.std.specs.Option.{unwrap_or}
use Rattle.std.specs.List.{list_any}
use Rattle.spec_calculus.proofs.Items.{numbered-past}
use Rattle.spec_certificate_text.specs.OfProtocol.{IsShort}
use Rattle.spec_certificate_text.specs.Outcomes.{Found, read_number}
use Rattle.spec_certificate_text.proofs.Parts.{number_there}
use Rattle.spec_node_counts.specs.Nodes.{bound_at}
use Rattle.term_reader.proofs.Walk.{next_byte, all_dropped}

-- a number that was read has no more digits than the limit
pub short_number : (bytes : List ℕ) (at n p : ℕ) (rest : List ℕ) → read_number bytes at ≡ Found n p rest → IsShort n
short_number bytes at n p rest e = (number_there bytes at n p rest e).is

pub ruleset short = (short_number)

pub bound_of_none : (bounds : List Bool) (n : ℕ) → n ≡ 0 → false ≡ bound_at bounds n
bound_of_none bounds zero e = refl
bound_of_none bounds (suc n) e = absurd (omega (arith, e))

pub bound_past : (bounds : List Bool) (n : ℕ) → length bounds < n → false ≡ bound_at bounds n
bound_past bounds n past = sym (ap (λ o. unwrap_or o false) (numbered-past bounds n past))

pub bound_there : (bounds : List Bool) (n : ℕ) → 0 < n → get_or bounds (n - 1) false ≡ bound_at bounds n
bound_there bounds zero some = absurd (omega (arith, some))
bound_there bounds (suc n) some = let less : suc n - 1 ≡ n = omega arith in ap (λ i. get_or bounds i false) less ∙ sym (unwrap_or-slice_get bounds n false)

pub ruleset bound = (bound_of_none, bound_past, bound_there)

-- in the terms of so many of the numbers no bound variable stands
pub record AreUnbound (bounds : List Bool) (ns : List ℕ) (i : ℕ) : Type 0 where
  pub left : list_any (bound_at bounds) (drop i ns) ≡ list_any (bound_at bounds) ns

pub unbound_start : (bounds : List Bool) (ns : List ℕ) → AreUnbound bounds ns 0
unbound_start bounds ns = record { left = refl }

pub unbound_on : (bounds : List Bool) (ns : List ℕ) (i : ℕ) → AreUnbound bounds ns i → i < length ns → bound_at bounds (get_or ns i 0) ≡ false → AreUnbound bounds ns (i + 1)
unbound_on bounds ns i are below none =
    record { left = sym (ap (λ b. b || list_any (bound_at bounds) (drop (i + 1) ns)) none) ∙ (sym (ap (list_any (bound_at bounds)) (next_byte ns i below)) ∙ are.left) }

pub bound_among : (bounds : List Bool) (ns : List ℕ) (i : ℕ) → AreUnbound bounds ns i → i < length ns → bound_at bounds (get_or ns i 0) ≡ true → true ≡ list_any (bound_at bounds) ns
bound_among bounds ns i are below is =
    sym (ap (λ b. b || list_any (bound_at bounds) (drop (i + 1) ns)) is) ∙ (sym (ap (list_any (bound_at bounds)) (next_byte ns i below)) ∙ are.left)

pub unbound_end : (bounds : List Bool) (ns : List ℕ) (i : ℕ) → AreUnbound bounds ns i → length ns ≤ i → false ≡ list_any (bound_at bounds) ns
unbound_end bounds ns i are past = sym (ap (list_any (bound_at bounds)) (all_dropped ns i past)) ∙ are.left

pub ruleset rows = (unbound_start, unbound_on, bound_among, unbound_end)

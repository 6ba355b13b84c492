-- The lines of a derivation, as far as they are told.
use Rattle.std.proofs.Common.{◌≡◌, ℕ, zero, suc, false, List, [], ◌∷◌, ◌++◌, slice_get, Some, refl, sym, subst}
use Rattle.std.specs.List.{list_any}
use Rattle.spec_calculus.specs.Points.{numbered}
use Rattle.spec_saturation.specs.Key.{Entry}
use Rattle.log_entries.specs.declared.log.PlainEntry.{PlainEntry}
use Rattle.log_entries.specs.Logs.{IsOrigin}
use Rattle.log_entries.specs.PlainLogs.{TellPlainFrom, TellPlainLog}
use Rattle.log_text.specs.declared.tree.Part.{Part}
use Rattle.log_text.specs.declared.tree.Part.TheVariants.{Told}
use Rattle.log_text.specs.declared.tree.Line.{Line}
use Rattle.log_text.specs.Derived.{is_of, ComesFrom, IsPart, behind, Derives, begins, goes_on}

come_from : (log : List Entry) (n : ℕ) (ps : List PlainEntry) (es : List Entry) (i : ℕ) (p : PlainEntry) → TellPlainFrom log n ps es → slice_get ps i ≡ Some p
    → (number : ℕ) → ((e : Entry) → slice_get es i ≡ Some e → numbered log number ≡ Some e) → ComesFrom log number p.origin
come_from log n [] es i p t there number at = cc
come_from log n (x ∷ xs) [] i p t there number at = absurd t
come_from log n (x ∷ xs) (e ∷ es) zero p t there number at =
    let same : x ≡ p = cc in
    record { entry = e; at = at e refl; from = subst (λ (q : PlainEntry). IsOrigin log q.origin e.key) same t.0.origin }
come_from log n (x ∷ xs) (e ∷ es) (suc i) p t there number at = come_from log (suc n) xs es i p t.2 there number at

-- an entry of a log that is told comes from where it is said
comes_from : (entries : List PlainEntry) (log : List Entry) (index : ℕ) (p : PlainEntry) → TellPlainLog entries log → slice_get entries index ≡ Some p → ComesFrom log (suc index) p.origin
comes_from entries log index p t there = come_from log 1 entries log index p t there (suc index) (λ e at. at)

-- an entry that wasn't told is told by where it comes from
pub first_part : (entries : List PlainEntry) (log : List Entry) (lines : List Line) (number index : ℕ) (p : PlainEntry) → TellPlainLog entries log → list_any (is_of number) lines ≡ false → number ≡ suc index
    → slice_get entries index ≡ Some p → IsPart log lines number (Told p.origin)
first_part entries log lines number index p t new is there = (new, subst (λ (n : ℕ). ComesFrom log n p.origin) (sym is) (comes_from entries log index p t there))

-- nothing yet
pub derives_first : (log : List Entry) (number : ℕ) (lines : List Line) (rest : List ℕ) → lines ≡ [] → rest ≡ number ∷ [] → Derives log number lines rest
derives_first log number lines rest none due = subst (λ (ls : List Line). Derives log number ls rest) (sym none) (subst (λ (ns : List ℕ). Derives log number [] ns) (sym due) begins)

-- one more line
pub derives_on : (log : List Entry) (number : ℕ) (lines : List Line) (due rest : List ℕ) (entry : ℕ) (part : Part) (longer : List Line) (left : List ℕ) → Derives log number lines due → due ≡ rest ++ entry ∷ []
    → IsPart log lines entry part → longer ≡ lines ++ record { entry = entry; part = part } ∷ [] → left ≡ rest ++ behind part → Derives log number longer left
derives_on log number lines due rest entry part longer left so_far next is told behind_it =
    let here : Derives log number lines (rest ++ entry ∷ []) = subst (λ (ns : List ℕ). Derives log number lines ns) next so_far in
    subst (λ (ls : List Line). Derives log number ls left) (sym told) (subst (λ (ns : List ℕ). Derives log number (lines ++ record { entry = entry; part = part } ∷ []) ns) (sym behind_it) (goes_on lines rest entry part here is))

-- The ids of live clauses, entry by entry.
use Rattle.std.proofs.Common.{◌≡◌, ◌∙◌, ℕ, ◌+◌, ◌≤◌, Some, None, List, [], ◌∷◌, ◌++◌, map, length, take, refl, ap}
use Rattle.std.specs.Prelude.{slice_get, filter}
use Rattle.std.proofs.lemmas.List.{map-append}
use Rattle.spec_verdicts.proofs.Building.{take_next, take_past}
use Rattle.clause_form.proofs.Counting.{filter-append}
use Rattle.log_entries.specs.declared.log.Entry.{Entry}
use Rattle.log_entries.specs.Logs.{is_unbeaten}
use Rattle.cert_writer.specs.Living.{live_ids}

pub live_one : (e : Entry) → e.by ≡ None → live_ids (e ∷ []) ≡ e.clause ∷ []
live_one e none = rw none refl

pub live_not : (e : Entry) (number : ℕ) → e.by ≡ Some number → live_ids (e ∷ []) ≡ []
live_not e number some = rw some refl

ids_append : (es fs : List Entry) → live_ids (es ++ fs) ≡ live_ids es ++ live_ids fs
ids_append es fs =
    let p = λ (e : Entry). is_unbeaten e.by in
    ap (map (λ (e : Entry). e.clause)) (filter-append p es fs) ∙ map-append (λ (e : Entry). e.clause) (filter p es) (filter p fs)

pub ids_next : (es : List Entry) (k : ℕ) (e : Entry) → slice_get es k ≡ Some e → live_ids (take (k + 1) es) ≡ live_ids (take k es) ++ live_ids (e ∷ [])
ids_next es k e at = ap live_ids (take_next es k e at) ∙ ids_append (take k es) (e ∷ [])

pub ids_all : (es : List Entry) (k : ℕ) → length es ≤ k → live_ids (take k es) ≡ live_ids es
ids_all es k past = ap live_ids (take_past es k past)

-- Files that were read, and those that were not.
use Rattle.std.proofs.Common.{◌≡◌, ◌<◌, ℕ, List, [], ◌++◌, length, take, Option, None, Some, IfSome, inl, inr, refl, sym, ap, ◌∙◌, append_assoc}
use Rattle.std.proofs.lemmas.List.{append-nil}
use Rattle.spec_calculus.specs.Bounds.{most_bytes, most_report_bytes, most_run_bytes}
use Rattle.spec_calculus.specs.Syntax as syntax
use Rattle.spec_protocol_scope.specs.Spells as spells
use Rattle.hv_io.specs.Files.{Load, with_loads}
use Rattle.hv_io.specs.Place.{line_at}
use Rattle.protocol_loading.specs.declared.loading.Unloaded.{Unloaded}
use Rattle.protocol_loading.specs.declared.loading.Unloaded.TheVariants as unloaded
use Rattle.protocol_loading.specs.declared.loading.Unread.{Unread}
use Rattle.protocol_loading.specs.declared.loading.Unread.TheVariants as unread
use Rattle.protocol_loading.specs.Codes.{refusal_by}
use Rattle.protocol_loading.specs.Outside.{Outside}
use Rattle.protocol_loading.specs.Reading as loading
use Rattle.protocol_loading.specs.Reading.{IsNoText}
use Rattle.protocol_loading.proofs.Files.{of_file}
use Rattle.call_outcomes.specs.Outcome.{LongReport, LongRun, Protocol, Outcome, Refused, Memory}
use Rattle.verifier_cli.specs.Command.{IsRefusalOf}
use Rattle.verifier_cli.specs.Checking.{RefusesReport}
use Rattle.verifier_cli.specs.Replaying.{RefusesRun}
use Rattle.verifier_cli.specs.ReportReading.{IsUnreadReport, report_not_loaded}
use Rattle.verifier_cli.specs.RunReading.{IsUnreadRun, run_not_loaded}
use Rattle.verifier_cli.specs.Unread.{IfRead, IsNoReading, IsUnread, outcome_by}

-- what follows from what is said of the bytes of a file that was read is said too
pub if_read : (files : Outside) (name : List ℕ) (most : ℕ) (outcome : Outcome) (F G : List ℕ → Type 0) → ((bytes : List ℕ) → F bytes → G bytes) → IfRead files name most outcome F → IfRead files name most outcome G
if_read files name most outcome F G h (inl x) = inl (of_file files name most F G h x)
if_read files name most outcome F G h (inr why) = inr why

-- Where no protocol was read or loaded, the call comes to the reason.

place_shown : (bytes : List ℕ) (why : spells.Refusal) (line column : ℕ) → loading.IsRefusedAt bytes why line column → IsRefusalOf bytes (Protocol line column why)
place_shown bytes why line column is = record {
  why = why;
  place = is.place;
  refused = is.refused;
  shown = ap (λ (row : ℕ). Protocol row column why) is.on_line ∙ ap (λ (column : ℕ). Protocol (line_at bytes is.place) column why) is.in_column;
}

pub no_reading : (bytes : List ℕ) (why : Unread) → loading.IsNoReading bytes why → IsNoReading bytes (outcome_by why)
no_reading bytes unread.Fault is = absurd is
no_reading bytes (unread.Refused line column why) is = place_shown bytes (refusal_by why) line column is
no_reading bytes unread.Memory is = tt

pub no_protocol : (files : Outside) (file : List ℕ) (why : Unread) → loading.IsUnread files file why → IsUnread files file (outcome_by why)
no_protocol files file unread.Fault is = inr is
no_protocol files file (unread.Refused line column why) is =
    inl (of_file files file most_bytes (λ bytes. loading.IsRefusedAt bytes (refusal_by why) line column) (λ bytes. IsRefusalOf bytes (Protocol line column (refusal_by why))) (λ bytes at. place_shown bytes (refusal_by why) line column at) is)
no_protocol files file unread.Memory (inl x) = inl x
no_protocol files file unread.Memory (inr same) = inr (same, tt)

-- A text that was not loaded leaves the call without a report or a run.

pub no_report : (P : syntax.Protocol) (files : Outside) (report : List ℕ) (why : Unloaded) → IsNoText files report most_report_bytes why → IsUnreadReport P files report (report_not_loaded why)
no_report P files report unloaded.Failed is = inr is
no_report P files report unloaded.TooLong is =
    inl (of_file files report most_report_bytes (λ bytes. most_report_bytes < length bytes) (λ bytes. RefusesReport P bytes LongReport 1) (λ bytes more. (more, refl)) is)
no_report P files report unloaded.Memory is = inr (is, tt)

pub no_run : (files : Outside) (run : List ℕ) (why : Unloaded) → IsNoText files run most_run_bytes why → IsUnreadRun files run (run_not_loaded why)
no_run files run unloaded.Failed is = inr is
no_run files run unloaded.TooLong is =
    inl (of_file files run most_run_bytes (λ bytes. most_run_bytes < length bytes) (λ bytes. RefusesRun bytes LongRun 1) (λ bytes more. (more, refl)) is)
no_run files run unloaded.Memory is = inr (is, tt)

-- Where no load gave bytes, those of the file may be any that are held.

abbrev pub held_or_none : Option (List ℕ) → List ℕ
held_or_none None = []
held_or_none (Some all) = all

pub as_held : (held : Option (List ℕ)) → IfSome held (λ all. held_or_none held ≡ all)
as_held None = tt
as_held (Some all) = refl

-- Loads after loads.

pub no_more_loads : (before : Option (List Load)) (some : List Load) → before ≡ with_loads before (take 0 some)
no_more_loads None some = refl
no_more_loads (Some before) some = ap Some (sym (append-nil before))

pub loads_then : (before : Option (List Load)) (some more : List Load) → with_loads (with_loads before some) more ≡ with_loads before (some ++ more)
loads_then None some more = refl
loads_then (Some before) some more = ap Some (append_assoc before some more)

-- Processes without phases and tables, and queries about phase 0.
use Rattle.std.specs.Prelude.{◌≡◌, ℕ, cond, Option, Some}
use Rattle.spec_calculus.specs.Syntax.{Process, Nil, Output, Input, Parallel, Replication, New, Let, Event, Phase, Insert, Get, Query, Secret, SecretNew, Correspondence}
use Rattle.spec_calculus.specs.Runs.{Configuration}
use Rattle.spec_calculus.specs.Refusals.{Refusal, NoThread, WrongForm, no_thread}

-- the process waits for no phase, and writes and reads no table
abbrev pub IsPlain : Process → Type 0
IsPlain Nil = Unit {0}
IsPlain (Output channel message next) = IsPlain next
IsPlain (Input channel pattern next) = IsPlain next
IsPlain (Parallel left right) = IsPlain left × IsPlain right
IsPlain (Replication copied) = IsPlain copied
IsPlain (New word next) = IsPlain next
IsPlain (Let pattern expression next otherwise) = IsPlain next × IsPlain otherwise
IsPlain (Event performed next) = IsPlain next
IsPlain (Phase number next) = ⊥
IsPlain (Insert table arguments next) = ⊥
IsPlain (Get table patterns condition next otherwise) = ⊥

-- the query asks about phase 0, or about events
abbrev pub IsPlainQuery : Query → Type 0
IsPlainQuery (Secret message phase) = phase ≡ 0
IsPlainQuery (SecretNew point phase) = phase ≡ 0
IsPlainQuery (Correspondence left alternatives) = Unit {0}

-- why a step of a form that no thread stands at is not possible
abbrev pub nowhere : Configuration → ℕ → Option Refusal
nowhere c i = cond (no_thread c i) (Some NoThread) (Some WrongForm)

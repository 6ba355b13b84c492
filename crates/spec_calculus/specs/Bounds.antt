-- The limits of protocols, of runs, of clauses and of reports, each named once.
use Rattle.std.specs.Prelude.{ℕ}

-- bytes of the text of a protocol
abbrev pub most_bytes : ℕ
most_bytes = 1048576

-- bytes of the text of a report
abbrev pub most_report_bytes : ℕ
most_report_bytes = 67108864

-- bytes of the text of a run
abbrev pub most_run_bytes : ℕ
most_run_bytes = 16777216

-- bytes of a line of the text of a run, its line feed not counted
abbrev pub most_line_bytes : ℕ
most_line_bytes = 256

-- digits of a number
abbrev pub most_digits : ℕ
most_digits = 9

-- levels of the grammar that are open at a place of the text of a protocol
abbrev pub most_levels : ℕ
most_levels = 512

-- declared names, functions, events and macros together
abbrev pub most_names : ℕ
most_names = 1024

-- arguments of a name, and parts of a tuple
abbrev pub most_arguments : ℕ
most_arguments = 16

-- rules of a destructor
abbrev pub most_rules : ℕ
most_rules = 16

-- alternatives of a query
abbrev pub most_alternatives : ℕ
most_alternatives = 16

-- events of an alternative
abbrev pub most_events : ℕ
most_events = 16

-- queries
abbrev pub most_queries : ℕ
most_queries = 256

-- symbols of a term in the text of a protocol, of a whole rule, and of a query's event
abbrev pub most_written_symbols : ℕ
most_written_symbols = 2000

-- points of the main process, after macros are expanded
abbrev pub most_points : ℕ
most_points = 4096

-- the greatest phase
abbrev pub most_phases : ℕ
most_phases = 16

-- points above a point
abbrev pub most_points_above : ℕ
most_points_above = 511

-- applications of destructors in an expression
abbrev pub most_applications : ℕ
most_applications = 16

-- choices of rules for the destructors of an expression
abbrev pub most_choices : ℕ
most_choices = 65536

-- symbols of a clause or of a bound term, and of a value in a replay
abbrev pub most_symbols : ℕ
most_symbols = 16384

-- levels of a term in the text of a certificate
abbrev pub most_term_levels : ℕ
most_term_levels = 16384

-- visits of one translation
abbrev pub most_visits : ℕ
most_visits = 65536

-- clauses of a certificate
abbrev pub most_clauses : ℕ
most_clauses = 1000000

-- the greatest budget: entries of a log
abbrev pub most_budget : ℕ
most_budget = 1000000

-- keys of a ring
abbrev pub most_keys : ℕ
most_keys = 400

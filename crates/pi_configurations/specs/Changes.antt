-- What a change makes of a configuration.
use Rattle.spec_trees.specs.Tree.{Leaf}
use Rattle.spec_calculus.specs.Values.{AttackerName}
use Rattle.spec_calculus.specs.Runs.{Configuration, learns, goes_on, begins, names, performs, writes}
use Rattle.pi_tree.specs.Values.{value_of}
use Rattle.pi_configurations.specs.declared.changes.Change.{Change}
use Rattle.pi_configurations.specs.declared.changes.Change.TheVariants.{Learn, Name, Split, Begin, Make, Pass, Hear, Replace, Advance, Mark, Put, Next}
use Rattle.pi_configurations.specs.Threads.{thread_of}
use Rattle.pi_configurations.specs.Happenings.{performed_of}
use Rattle.held_entries.specs.Entries.{held_of}
use Rattle.pi_configurations.specs.Moves.{advanced, entered_in}

abbrev pub changed : Change → Configuration → Configuration
changed (Learn v) c = learns c (value_of v)
changed Name c = names (learns c (Leaf (AttackerName c.next)))
changed (Split i point thread) c = advanced (begins c (thread_of thread)) i point
changed (Begin thread) c = begins c (thread_of thread)
changed (Make i thread) c = names (goes_on c i (thread_of thread))
changed (Pass i point j thread) c = goes_on (advanced c i point) j (thread_of thread)
changed (Hear i point v) c = learns (advanced c i point) (value_of v)
changed (Replace i thread) c = goes_on c i (thread_of thread)
changed (Advance i point) c = advanced c i point
changed (Mark i point happened) c = performs (advanced c i point) (performed_of happened)
changed (Put i point held) c = writes (advanced c i point) (held_of held)
changed (Next number phases) c = entered_in phases.items number c

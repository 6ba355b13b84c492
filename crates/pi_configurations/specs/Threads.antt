-- What contracts see of a thread.
use Rattle.spec_calculus.specs.Runs as calculus
use Rattle.pi_configurations.specs.declared.threads.Thread.{Thread}
use Rattle.pi_configurations.specs.declared.threads.Thread.TheVariants.{At, Ended}

abbrev pub thread_of : Thread → calculus.Thread
thread_of (At point environment) = calculus.At point environment
thread_of Ended = calculus.Ended

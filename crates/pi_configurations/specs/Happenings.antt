-- What contracts see of an event that was performed.
use Rattle.spec_calculus.specs.Runs as calculus
use Rattle.pi_configurations.specs.declared.happenings.Happened.{Happened}

abbrev pub performed_of : Happened → calculus.Performed
performed_of h = record { event = h.event; arguments = h.args }

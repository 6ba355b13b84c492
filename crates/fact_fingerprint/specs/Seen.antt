-- What contracts see of fingerprints.
use Rattle.spec_fingerprints.specs.Fingerprints as print
use Rattle.fact_fingerprint.specs.declared.fingerprints.Fingerprint.{Fingerprint}

abbrev pub fingerprint_seen : Fingerprint → print.Fingerprint
fingerprint_seen f = record { head = f.head; least = f.least; most = f.most }

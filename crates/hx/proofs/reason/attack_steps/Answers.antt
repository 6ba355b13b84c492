-- An attack may be asked for of each entry that can be explained.
use Rattle.hx.proofs.reason.attack_steps.Goals as goal

pub reconstruct-requires : goal.reconstruct-requires
reconstruct-requires c =
    let read = c.requires.readable in
    record { limits = read.limits; rules = read.rules; scoped = read.scoped; queries = read.queries; there = c.requires.there; small = c.requires.small; normed = c.requires.normed }

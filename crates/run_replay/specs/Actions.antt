-- Actions as contracts see them.
use Rattle.spec_run_text.specs.Reading as text
use Rattle.run_replay.specs.declared.words.Action.{Action}
use Rattle.run_replay.specs.declared.words.Action.TheVariants.{Build, Reduce, Part, Fresh, Split, Copy, Make, Pass, Hear, Say, Take, Fail, Mark, Next, Put, Fetch, Miss}

-- the action
abbrev pub action_of : Action → text.Action
action_of Build = text.Build
action_of Reduce = text.Reduce
action_of Part = text.Part
action_of Fresh = text.Fresh
action_of Split = text.Split
action_of Copy = text.Copy
action_of Make = text.Make
action_of Pass = text.Pass
action_of Hear = text.Hear
action_of Say = text.Say
action_of Take = text.Take
action_of Fail = text.Fail
action_of Mark = text.Mark
action_of Next = text.Next
action_of Put = text.Put
action_of Fetch = text.Fetch
action_of Miss = text.Miss

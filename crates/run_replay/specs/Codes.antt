-- How contracts store steps: what the models of lists of them take.
use Rattle.std.specs.Prelude.{◌≡◌, ◌⊎◌, ℕ, Bool, true, false, List, refl}
use Rattle.std.proofs.Common.{inl, inr}
use Rattle.std.specs.Coded.{Coded, code_by, coded×, coded⊎, coded_ℕ, coded_bool, coded_list}
use Rattle.spec_calculus.specs.Runs.{Step, Build, Reduce, Part, Fresh, Split, Copy, Make, Pass, Hear, Say, Take, Fail, Mark, Next, Put, Fetch, Miss}

-- A step as its parts: which of those with no number, of one number, of two, and of a number and a list it is, and its numbers.
abbrev Parts : Type 0
Parts = Bool ⊎ (((Bool × (Bool × Bool)) × ℕ) ⊎ (((Bool × Bool) × (ℕ × ℕ)) ⊎ ((Bool × (ℕ × List ℕ)) ⊎ (ℕ × (ℕ × List ℕ)))))

abbrev step_parts : Step → Parts
step_parts Fresh = inl true
step_parts Next = inl false
step_parts (Split thread) = inr (inl ((true, (true, true)), thread))
step_parts (Copy thread) = inr (inl ((true, (true, false)), thread))
step_parts (Make thread) = inr (inl ((true, (false, true)), thread))
step_parts (Hear thread) = inr (inl ((true, (false, false)), thread))
step_parts (Fail thread) = inr (inl ((false, (true, true)), thread))
step_parts (Mark thread) = inr (inl ((false, (true, false)), thread))
step_parts (Put thread) = inr (inl ((false, (false, true)), thread))
step_parts (Miss thread) = inr (inl ((false, (false, false)), thread))
step_parts (Part value part) = inr (inr (inl ((true, true), (value, part))))
step_parts (Pass sender receiver) = inr (inr (inl ((true, false), (sender, receiver))))
step_parts (Say thread value) = inr (inr (inl ((false, true), (thread, value))))
step_parts (Fetch thread entry) = inr (inr (inl ((false, false), (thread, entry))))
step_parts (Build constructor arguments) = inr (inr (inr (inl (true, (constructor, arguments)))))
step_parts (Take thread label) = inr (inr (inr (inl (false, (thread, label)))))
step_parts (Reduce destructor rule arguments) = inr (inr (inr (inr (destructor, (rule, arguments)))))

abbrev parts_step : Parts → Step
parts_step (inl true) = Fresh
parts_step (inl false) = Next
parts_step (inr (inl ((true, (true, true)), thread))) = Split thread
parts_step (inr (inl ((true, (true, false)), thread))) = Copy thread
parts_step (inr (inl ((true, (false, true)), thread))) = Make thread
parts_step (inr (inl ((true, (false, false)), thread))) = Hear thread
parts_step (inr (inl ((false, (true, true)), thread))) = Fail thread
parts_step (inr (inl ((false, (true, false)), thread))) = Mark thread
parts_step (inr (inl ((false, (false, true)), thread))) = Put thread
parts_step (inr (inl ((false, (false, false)), thread))) = Miss thread
parts_step (inr (inr (inl ((true, true), (value, part))))) = Part value part
parts_step (inr (inr (inl ((true, false), (sender, receiver))))) = Pass sender receiver
parts_step (inr (inr (inl ((false, true), (thread, value))))) = Say thread value
parts_step (inr (inr (inl ((false, false), (thread, entry))))) = Fetch thread entry
parts_step (inr (inr (inr (inl (true, (constructor, arguments)))))) = Build constructor arguments
parts_step (inr (inr (inr (inl (false, (thread, label)))))) = Take thread label
parts_step (inr (inr (inr (inr (destructor, (rule, arguments)))))) = Reduce destructor rule arguments

pub parts_step-step_parts : (s : Step) → parts_step (step_parts s) ≡ s
parts_step-step_parts Fresh = refl
parts_step-step_parts Next = refl
parts_step-step_parts (Split thread) = refl
parts_step-step_parts (Copy thread) = refl
parts_step-step_parts (Make thread) = refl
parts_step-step_parts (Hear thread) = refl
parts_step-step_parts (Fail thread) = refl
parts_step-step_parts (Mark thread) = refl
parts_step-step_parts (Put thread) = refl
parts_step-step_parts (Miss thread) = refl
parts_step-step_parts (Part value part) = refl
parts_step-step_parts (Pass sender receiver) = refl
parts_step-step_parts (Say thread value) = refl
parts_step-step_parts (Fetch thread entry) = refl
parts_step-step_parts (Build constructor arguments) = refl
parts_step-step_parts (Take thread label) = refl
parts_step-step_parts (Reduce destructor rule arguments) = refl

abbrev pub coded_steps : Coded (List Step)
coded_steps = coded_list (code_by Parts
    (coded⊎ coded_bool (coded⊎ (coded× (coded× coded_bool (coded× coded_bool coded_bool)) coded_ℕ)
    (coded⊎ (coded× (coded× coded_bool coded_bool) (coded× coded_ℕ coded_ℕ)) (coded⊎ (coded× coded_bool (coded× coded_ℕ (coded_list coded_ℕ))) (coded× coded_ℕ (coded× coded_ℕ (coded_list coded_ℕ)))))))
    step_parts parts_step parts_step-step_parts)

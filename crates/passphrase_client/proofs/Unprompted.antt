-- An act that may not ask the user has no step that waits for one.
use Rattle.std.proofs.{Common.{◌≡◌, true, false, List, ◌∷◌, All, refl}, lemmas.List.Elements.{All-from_recursion, All-head, All-tail}}
use Rattle.passphrase_talk.specs.declared.connector.{Agents.{Agents, TheVariants.{One, Both}}, Waits.TheVariants.Answer}
use Rattle.{passphrase_words.specs.declared.task.Act.Act, passphrase_client.specs.{Steps.{steps_of, looks, forgets, waits_of, may_ask}, declared.steps.Step.Step}}
use Rattle.passphrase_words.specs.declared.task.Act.TheVariants as act

-- the step waits for no prompt
abbrev Waits-alone : Step → Type 0
Waits-alone step = waits_of step ≡ Answer

pub first_waits : (step : Step) (steps : List Step) → All (λ step. waits_of step ≡ Answer) (step ∷ steps) → waits_of step ≡ Answer
first_waits step steps all = All-head Waits-alone step steps all

pub others_wait : (step : Step) (steps : List Step) → All (λ step. waits_of step ≡ Answer) (step ∷ steps) → All (λ step. waits_of step ≡ Answer) steps
others_wait step steps all = All-tail Waits-alone step steps all

pub all_wait : (it : Act) (agents : Agents) → may_ask it ≡ false → All (λ step. waits_of step ≡ Answer) (steps_of it agents)
all_wait (act.Give repeats true ttl feeds) One never = All-from_recursion Waits-alone (looks One) (refl, tt)
all_wait (act.Give repeats true ttl feeds) Both never = All-from_recursion Waits-alone (looks Both) (refl, (refl, tt))
all_wait (act.Give repeats false ttl feeds) agents never = absurd (cc never)
all_wait act.Cached One never = All-from_recursion Waits-alone (looks One) (refl, tt)
all_wait act.Cached Both never = All-from_recursion Waits-alone (looks Both) (refl, (refl, tt))
all_wait act.Forget One never = All-from_recursion Waits-alone (forgets One) (refl, tt)
all_wait act.Forget Both never = All-from_recursion Waits-alone (forgets Both) (refl, (refl, tt))
all_wait act.ForgetAll One never = All-from_recursion Waits-alone (forgets One) (refl, tt)
all_wait act.ForgetAll Both never = All-from_recursion Waits-alone (forgets Both) (refl, (refl, tt))
all_wait act.Store One never = All-from_recursion Waits-alone (steps_of act.Store One) (refl, tt)
all_wait act.Store Both never = All-from_recursion Waits-alone (steps_of act.Store Both) (refl, (refl, tt))

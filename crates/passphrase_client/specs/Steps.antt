-- What a run does at the agents that answer, in order. Which steps an act has is this project's own rule.
use Rattle.std.specs.{Prelude.{Bool, true, false, not, List, [], ◌∷◌, ℕ, None}, Option.is_some}
use Rattle.passphrase_talk.specs.declared.connector.{Agents.{Agents, TheVariants.{One, Both}}, Place.{Place, TheVariants.{Home, Beside}}, Waits.{Waits, TheVariants.{Answer, Prompt}}}
use Rattle.passphrase_words.specs.{Requests.{RequestValue, act_ttl}, declared.task.Act.Act}
use Rattle.passphrase_client.specs.declared.steps.Step.{Step, TheVariants.{Look, Ask, Forget, Store, Probe, Keep}}
use Rattle.passphrase_words.specs.Requests as request
use Rattle.passphrase_words.specs.declared.task.Act.TheVariants as act

-- what is kept is asked for, at each agent that answers
abbrev pub looks : Agents → List Step
looks One = Look Home ∷ []
looks Both = Look Home ∷ Look Beside ∷ []

-- what is kept is forgotten at each agent
abbrev pub forgets : Agents → List Step
forgets One = Forget Home ∷ []
forgets Both = Forget Beside ∷ Forget Home ∷ []

-- Those that may ask the user. Where a new one is typed (twice) what was kept is forgotten first, and else looked for. Where it is
-- to be kept with a lifetime, the agent is tried whether it takes one before the user is asked.
abbrev pub steps_to_give : Bool → Bool → Agents → List Step
steps_to_give false false One = Look Home ∷ Ask ∷ []
steps_to_give false false Both = Look Home ∷ Look Beside ∷ Ask ∷ []
steps_to_give false true One = Look Home ∷ Probe ∷ Ask ∷ Keep ∷ []
steps_to_give false true Both = Look Home ∷ Look Beside ∷ Probe ∷ Ask ∷ Keep ∷ []
steps_to_give true false One = Forget Home ∷ Ask ∷ []
steps_to_give true false Both = Forget Beside ∷ Forget Home ∷ Ask ∷ []
steps_to_give true true One = Probe ∷ Forget Home ∷ Ask ∷ Keep ∷ []
steps_to_give true true Both = Probe ∷ Forget Beside ∷ Forget Home ∷ Ask ∷ Keep ∷ []

-- the steps of an act
abbrev pub steps_of : Act → Agents → List Step
steps_of (act.Give repeats true ttl feeds) agents = looks agents
steps_of (act.Give repeats false ttl feeds) agents = steps_to_give repeats (is_some ttl) agents
steps_of act.Cached agents = looks agents
steps_of act.Forget agents = forgets agents
steps_of act.ForgetAll agents = forgets agents
steps_of act.Store One = Store ∷ []
steps_of act.Store Both = Store ∷ Forget Beside ∷ []

-- where a step's request goes
abbrev pub place_of : Step → Place
place_of (Look place) = place
place_of (Forget place) = place
place_of _ = Home

-- for what its answer waits
abbrev pub waits_of : Step → Waits
waits_of Ask = Prompt
waits_of _ = Answer

-- whether an act may ask the user: one that gives a passphrase, unless nobody is to be asked
abbrev pub may_ask : Act → Bool
may_ask (act.Give repeats quiet ttl feeds) = not quiet
may_ask _ = false

-- by what an act forgets: what is kept for its id, or all that is
abbrev pub forgets_by : Act → RequestValue
forgets_by act.ForgetAll = request.ClearsAll
forgets_by _ = request.Clears

-- what it asks for, where this passphrase is held
abbrev pub request_of : Step → Act → List ℕ → RequestValue
request_of (Look place) act held = request.Looks
request_of Ask act held = request.Asks
request_of (Forget place) act held = forgets_by act
request_of Probe act held = request.Probes
request_of Store act held = request.Presets None held
request_of Keep act held = request.Presets (act_ttl act) held

-- what the tries so far leave to the later ones
use Rattle.std.proofs.Common.{◌≡◌, true, List, ◌++◌, None}
use Rattle.agent_ask.specs.{Doing.{HasEvents, DoesCall}, Events.PromptEvent, Prompts.Tries, Tests.{PinTest, WithTests}, declared.prompt.ask.Asked.Asked}
use Rattle.agent_ask.proofs.prompt.tries.ask_tries.Given as goal

abbrev pub invariant-loop-number : goal.invariant-loop-number
invariant-loop-number g l = ((g.P.Prompter.at l.prompter).ready ≡ true)
    × HasEvents (DoesCall g.P.Prompter.prompted)
    (λ events. WithTests g.T.Test.tested l.fn.test l.test
    (λ tests. (more : List PromptEvent) (later : List PinTest) (end : Asked) → Tries l.plan (g.T.Test.rule l.fn.test) l.number l.failure more later end
    → Tries l.plan (g.T.Test.rule l.fn.test) 1 None (events ++ more) (tests ++ later) end)) l.fn.prompter l.prompter

-- so far all repeats were the same
use Rattle.std.proofs.Common.{◌≡◌, true}
use Rattle.agent_ports.specs.Leads.{Leads}
use Rattle.agent_ask.specs.{Doing.DoesCall, Prompts.repeated}
use Rattle.agent_ask.proofs.prompt.tries.ask_repeats.Given as goal

abbrev pub invariant-loop : goal.invariant-loop
invariant-loop g l = ((g.P.Prompter.at l.prompter).ready ≡ true)
    × Leads (DoesCall g.P.Prompter.prompted) l.fn.prompter (repeated l.counter l.fn.pin) l.prompter

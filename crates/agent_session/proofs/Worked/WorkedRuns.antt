-- Worked examples: a session with the one request NOP, of whose exchange the laws hold.
use Rattle.std.{proofs.Common.{◌≡◌, List, [], ◌∷◌, None, refl, sym, subst}, specs.Prelude.{⊤, codes}}
use Rattle.{agent_ask.specs.{Events.Call, Session.{Actions.returns, SessionEvents.{Received, Sent}, TurnActions.unheld, Worlds.{Outside, Does}}, Prompters.AtPrompter}, assuan_server.specs.{Written.{ok, greeting}, Reading.Supply}}
use Rattle.{command_table.specs.Commands.command_named, agent_commands.specs.{Requests.request_of, Talks.Session, declared.{request.{CacheCommand.TheVariants.Nop, Request.{Request, TheVariants.Cache}}, went.SessionEnd.TheVariants.Ended}}}
use Rattle.{agent_commands.specs.declared.went.Went.TheVariants.On, agent_origin.specs.{PortStates.PortWorld, SessionExchanges.{SessionExchange, RequestExchange, cache}, declared.session_state.SessionState.SessionState}}
use Rattle.{agent_ports.specs.{KeyFiles.KeyFiles, Leads.{Leads, none, one}, Sides.Side, TrustFiles.TrustState}, assuan_text.specs.LineEnds.line_of, cache_policy.specs.{Desks.AtDesk, Turns.Turn, declared.mark.MarkStep.MarkStep}}
use Rattle.{key_commands.specs.Events.Event, session_options.specs.declared.rules.Rules.Rules}
use Rattle.agent_session.{specs.{Completeness.SessionCauses, RunExchanges.{ExchangeBetween, LawfulExchange}}, proofs.{Answering.in_session, RunExchanges.{between, session_between, lawful}}}
use Rattle.agent_ask.specs.Session.Answering as answering
use Rattle.agent_ask.specs.Session.ActionExchanges as whole
use Rattle.agent_ask.specs.Session.Worlds as worlds
use Rattle.agent_commands.specs.Talks as talks
use Rattle.assuan_line.specs.declared.reader.Took.TheVariants as took

-- a desk and a prompter of which nobody wants anything
abbrev no_turn : Unit {0} → MarkStep → Turn → Unit {0} → Type 0
no_turn before asked turn after = ⊥

abbrev no_call : Unit {0} → Call → Unit {0} → Type 0
no_call before call after = ⊥

nop_line : request_of (codes "NOP") ≡ Cache Nop
unfolding request_of command_named
nop_line = refl

module _ (rules : Rules) (kept : SessionState) (supply : Supply) (desk : AtDesk) (prompter : AtPrompter) (keys : KeyFiles) (dice : Side) (trust : TrustState) where
  abbrev at : Outside (PortWorld no_turn no_call)
  at = record { input = None; source = None; output = None; desk = tt; ends = record { prompter = tt; keys = keys; dice = dice; trust = trust } }

  abbrev events : List Event
  events = Sent (line_of greeting) ∷ Received (took.Line (codes "NOP")) ∷ Sent ok ∷ Received took.End ∷ []

  nop : SessionExchange rules kept (codes "NOP") (Sent ok ∷ []) kept On
  nop = subst (λ (r : Request). RequestExchange rules kept r (Sent ok ∷ []) kept On) (sym nop_line) (cache (whole.answered [] None _ returns unheld))

  session : Session (SessionExchange rules) kept events Ended
  session = talks.greeted (talks.goes_on (codes "NOP") (answering.whole nop) talks.ended)

  leads : Leads (Does (PortWorld no_turn no_call) supply) at events at
  leads = one worlds.sent (one (worlds.received {input = None} {source = None} tt tt) (one worlds.sent (one (worlds.received {input = None} {source = None} tt tt) none)))

  lawful_session : Session (ExchangeBetween supply (SessionExchange rules) (LawfulExchange no_turn no_call (λ at_rest. prompter) rules (SessionCauses rules) (λ line. ⊤) (λ at_rest. ⊤))) (between kept at) events Ended
  lawful_session =
      session_between (SessionExchange rules) (LawfulExchange no_turn no_call (λ at_rest. prompter) rules (SessionCauses rules) (λ line. ⊤) (λ at_rest. ⊤)) (λ at_rest. ⊤) (λ before event after does so. tt)
      (lawful no_turn no_call (λ at_rest. desk) (λ at_rest. prompter) (λ before asked turn after never. absurd never) (λ before call after never. absurd never) rules (λ at_rest. ⊤) (λ at_rest. ⊤)
      (λ before asked after so spares never. absurd never) (in_session rules) (λ before line own after went caused. caused.answered) (λ line. ⊤) (λ before line own after went exchange is. exchange))
      at at tt session leads

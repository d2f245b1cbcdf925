-- Worked examples: a request for consent whose pinentry couldn't be started. Its prompt has no child.
use Rattle.std.{proofs.Common.{◌≡◌, ℕ, false, List, [], ◌∷◌, Some, None, Err, refl, sym, subst, arith}, specs.Prelude.⊤}
use Rattle.agent_ask.specs.{ConsentActions.AgreesTo, Doing.called, Events.{Start, Shut, Called}, Session.{PortCalls.Prompt, Actions.{goes_on, stops}, SessionEvents.{Sent, Port, cache_turn}, Worlds.{Outside, Does}}, Plans.IsSpec}
use Rattle.{agent_ask.specs.declared.prompt.spec.PromptSpec.PromptSpec, agent_commands.specs.{Exchanges.confirms_by, declared.{request.{CacheCommand.TheVariants.GetConfirmation, Request.TheVariants.Cache}, went.Went.TheVariants.On}}}
use Rattle.{agent_origin.specs.{PortStates.PortWorld, SessionExchanges.{RequestExchange, cache}, declared.session_state.SessionState.SessionState}, agent_ports.specs.{KeyFiles.KeyFiles, Launches.Launches, Leads.{Leads, none, one}, Sides.Side}}
use Rattle.{agent_ports.specs.TrustFiles.TrustState, assuan_server.specs.{Clients.session_lines, Reading.Supply, Written.failed}, session_client.specs.declared.refusal.Refusal.TheVariants.Agent, cache_policy.specs.Turns.{Turn, Open, Done}}
use Rattle.{cache_policy.specs.declared.mark.MarkStep.{MarkStep, TheVariants.{Seat, Close}}, key_commands.specs.Events.Event, pinentry_client.{proofs.Calling.is_call, specs.{Dialogues.{PinentryDoes, unlaunched, shut_alone}, States.idle}}}
use Rattle.session_options.specs.declared.rules.Rules.{Rules}
use Rattle.agent_serve.{specs.Prompts.HavePrompts, proofs.{PromptedLines.request_prompted, PromptedSessions.have_prompts}}
use Rattle.agent_ask.specs.ConsentActions as consent
use Rattle.agent_ask.specs.Consents as consents
use Rattle.agent_ask.specs.Session.PortCalls as ported
use Rattle.agent_ask.specs.Session.ActionExchanges as whole
use Rattle.agent_ask.specs.Prompts as prompts
use Rattle.agent_ask.specs.Session.TurnActions as taken
use Rattle.agent_ask.specs.SessionPrompts as tickets
use Rattle.agent_ask.specs.Session.Worlds as worlds
use Rattle.agent_ask.specs.declared.prompt.prompter.Opened.TheVariants as opened
use Rattle.session_client.specs.declared.code.Code.TheVariants as code
use Rattle.session_options.specs.declared.options.PinMode.TheVariants as mode

-- at any desk
abbrev any_turn : Unit {0} → MarkStep → Turn → Unit {0} → Type 0
any_turn before asked turn after = ⊤

module _ (rules : Rules) (kept : SessionState) (description : _) (spec : PromptSpec) (asks : kept.options.mode ≡ mode.Ask) (is_spec : IsSpec rules kept.options description (record { items = [] }) false spec) where
  abbrev unstarted : List Event
  unstarted =
      cache_turn (Seat None None) (Open 0) ∷ Port (Prompt (Called (Start spec opened.Failed))) ∷ Port (Prompt (Called Shut)) ∷ cache_turn (Close 0 None) Done ∷ Sent (failed code.NoPinentry) ∷ []

  abbrev shown : List Event
  shown = Port (Prompt (Called (Start spec opened.Failed))) ∷ Port (Prompt (Called Shut)) ∷ []

  refused : AgreesTo session_lines rules kept.options description.items (Some 0) shown (Err (Agent code.NoPinentry)) (Some 0)
  refused =
      consent.refused spec is_spec
      (record {
        prompt = Called (Start spec opened.Failed) ∷ Called Shut ∷ [];
        in_session = tickets.called (tickets.called tickets.none);
        asks = record { before = Called (Start spec opened.Failed) ∷ []; whole = refl; asks = consents.unopened prompts.failed };
      }) refl

  confirms : confirms_by rules kept.options kept.options.mode description None (cache_turn (Seat None None) (Open 0) ∷ shown) (Err (Agent code.NoPinentry)) (Some 0)
  confirms = subst (λ way. confirms_by rules kept.options way description None (cache_turn (Seat None None) (Open 0) ∷ shown) (Err (Agent code.NoPinentry)) (Some 0)) (sym asks) (goes_on (taken.opened tt) refused)

  exchange : RequestExchange rules kept (Cache (GetConfirmation description)) unstarted kept On
  exchange = cache (whole.refused (cache_turn (Seat None None) (Open 0) ∷ shown) (Some 0) (Agent code.NoPinentry) (stops confirms) (taken.closed Done tt))

  module _ (program : List ℕ) (keys : KeyFiles) (dice : Side) (trust : TrustState) (supply : Supply) where
    abbrev launches : ℕ → Launches
    launches faults = record { coming = Some []; launched = Some []; finished = Some []; faults = faults }

    abbrev at : ℕ → List ℕ → Outside (PortWorld any_turn PinentryDoes)
    at faults written = record { input = None; source = None; output = Some written; desk = tt; ends = record { prompter = idle program (launches faults); keys = keys; dice = dice; trust = trust } }

    leads : Leads (Does (PortWorld any_turn PinentryDoes) supply) (at 0 []) unstarted (at 1 (failed code.NoPinentry))
    leads =
        one (worlds.turned tt) (one (worlds.ported (ported.prompt (called (unlaunched {launches = launches 1} (record { coming = refl; launched = refl; finished = refl; rose = omega arith; faults = omega arith })))))
        (one (worlds.ported (ported.prompt (called shut_alone))) (one (worlds.turned tt) (one worlds.sent none))))

    has_one_prompt : HavePrompts program unstarted (launches 0) (launches 1)
    has_one_prompt = have_prompts any_turn (λ before call after does. is_call does) program (launches 0) (launches 1) refl refl (request_prompted _ exchange) leads

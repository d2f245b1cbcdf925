-- Sessions with a pinentry: their prompts, one after another, and the children of these.
use Rattle.std.{specs.List.count_by, proofs.Common.{◌≡◌, ◌+◌, ◌-◌, ◌^◌, ℕ, List, [], ◌∷◌, ◌++◌, min, sym, ap, subst, ◌∙◌, arith}}
use Rattle.agent_ask.{proofs.Counting.failures, specs.{Session.{Answering.{WholeOrCut, whole, cut}, SessionEvents.{Received, Sent, Cut, CutAtLast}, Worlds.{Outside, Does}}, Doing.{called, out_of_memory}, Events.Call, Prompters.{IsCall, is_failed}}}
use Rattle.{agent_commands.specs.{Endings.went_after, Talks.{Session, Talk}, declared.went.{SessionEnd.SessionEnd, Went.Went}}, agent_origin.specs.PortStates.PortWorld, agent_ports.specs.{Counts.RoseBy, Launches.Launches}}
use Rattle.{agent_ports.specs.Leads.{Leads, none, one}, assuan_server.specs.Reading.Supply, cache_policy.specs.{Turns.Turn, declared.mark.MarkStep.MarkStep}, key_commands.specs.Events.Event, pinentry_client.proofs.Children.their_children}
use Rattle.pinentry_client.specs.{Children.ArePrompts, Dialogues.PinentryDoes, States.{AtPinentry, at_prompter, idle}}
use Rattle.agent_serve.{specs.Prompts.{calls_in, Prompted, HavePrompts}, proofs.PromptedEvents.{calls_append, prompted_append, uncalled}}
use Rattle.agent_ask.specs.Session.PortCalls as ported
use Rattle.agent_ask.specs.Session.Worlds as worlds
use Rattle.agent_commands.specs.Talks as talks

-- ---- the prompter's calls among the events

module _ {D P : Type 0} (turned : D → MarkStep → Turn → D → Type 0) (prompted : P → Call → P → Type 0) {supply : Supply} where
  pub calls_lead : {before after : Outside (PortWorld turned prompted)} {events : List Event} → Leads (Does (PortWorld turned prompted) supply) before events after
      → Leads prompted before.ends.prompter (calls_in events) after.ends.prompter
  calls_lead none = none
  calls_lead (one (worlds.received known needed) more) = calls_lead more
  calls_lead (one worlds.sent more) = calls_lead more
  calls_lead (one worlds.cut more) = calls_lead more
  calls_lead (one (worlds.asked known needed) more) = calls_lead more
  calls_lead (one (worlds.not_asked unsent split) more) = calls_lead more
  calls_lead (one (worlds.turned does) more) = calls_lead more
  calls_lead (one (worlds.ported (ported.prompt (called does))) more) = one does (calls_lead more)
  calls_lead (one (worlds.ported (ported.prompt out_of_memory)) more) = calls_lead more
  calls_lead (one (worlds.ported (ported.keys does)) more) = calls_lead more
  calls_lead (one (worlds.ported (ported.dice does)) more) = calls_lead more
  calls_lead (one (worlds.ported (ported.trust does)) more) = calls_lead more
  calls_lead (one (worlds.ported ported.no_memory) more) = calls_lead more

-- ---- sessions

cut_calls : {events done : List Event} → CutAtLast events done → calls_in events ≡ calls_in done
cut_calls last =
    ap calls_in last.whole ∙ (calls_append last.before (Sent (last.sent ++ last.unsent) ∷ []) ∙ (sym (calls_append last.before (Cut last.sent ∷ [])) ∙ sym (ap calls_in last.done_is)))

cut_prompted : {events done : List Event} → CutAtLast events done → Prompted events → Prompted done
cut_prompted last are = record { prompts = are.prompts; are = subst (ArePrompts are.prompts) (cut_calls last) are.are }

module _ {S : Type 0} (exchange : S → List ℕ → List Event → S → Went → Type 0)
    (each : (before : S) (line : List ℕ) (events : List Event) (after : S) (went : Went) → exchange before line events after went → Prompted events) where
  one_prompted : {before after : S} {events : List Event} {went : Went} (line : List ℕ) → WholeOrCut went_after (exchange before line) events after went → Prompted events
  one_prompted line (whole exchanged) = each _ line _ _ _ exchanged
  one_prompted line (cut exchanged last) = cut_prompted last (each _ line _ _ _ exchanged)

  -- a line that came, and what is done for it
  behind_line : (took : _) (events : List Event) → Prompted events → Prompted (Received took ∷ events)
  behind_line took events are = prompted_append (Received took ∷ []) events (uncalled (Received took ∷ []) (tt, tt)) are

  talk_prompted : {before : S} {events : List Event} {end : SessionEnd} → Talk exchange before events end → Prompted events
  talk_prompted (talks.goes_on {events} {more} line exchanged talk) = behind_line _ (events ++ more) (prompted_append events more (one_prompted line exchanged) (talk_prompted talk))
  talk_prompted (talks.over {events} line exchanged) = behind_line _ events (one_prompted line exchanged)
  talk_prompted talks.ended = uncalled _ (tt, tt)
  talk_prompted talks.spent = uncalled _ (tt, tt)
  talk_prompted talks.read_fault = uncalled _ (tt, tt)
  talk_prompted talks.too_long = uncalled _ (tt, (tt, tt))
  talk_prompted (talks.cut_too_long {done} last) = behind_line _ done (cut_prompted last (uncalled _ (tt, tt)))

  pub session_prompted : {start : S} {events : List Event} {end : SessionEnd} → Session exchange start events end → Prompted events
  session_prompted (talks.greeted {events} talk) = prompted_append (Sent _ ∷ []) events (uncalled (Sent _ ∷ []) (tt, tt)) (talk_prompted talk)
  session_prompted (talks.cut_greeting last) = cut_prompted last (uncalled _ (tt, tt))

-- ---- with a pinentry of which no child stands before and after

without_child : (times before after : ℕ) → RoseBy times (min (before + 0) (2 ^ 64 - 1)) (min (after + 0) (2 ^ 64 - 1)) → RoseBy times before after
without_child times before after rose = omega (arith, rose)

module _ {D : Type 0} (turned : D → MarkStep → Turn → D → Type 0) (promise : (before : AtPinentry) (call : Call) (after : AtPinentry) → PinentryDoes before call after → IsCall (at_prompter before) call (at_prompter after))
    {supply : Supply} (program : List ℕ) (launches launches_now : Launches) where
  pub have_prompts : {before after : Outside (PortWorld turned PinentryDoes)} {events : List Event} → before.ends.prompter ≡ idle program launches → after.ends.prompter ≡ idle program launches_now
      → Prompted events → Leads (Does (PortWorld turned PinentryDoes) supply) before events after → HavePrompts program events launches launches_now
  have_prompts {before} {after} {events} first last are leads =
      let calls : Leads PinentryDoes (idle program launches) (calls_in events) (idle program launches_now) =
      subst (λ (p : AtPinentry). Leads PinentryDoes p (calls_in events) (idle program launches_now)) first
      (subst (λ (p : AtPinentry). Leads PinentryDoes before.ends.prompter (calls_in events) p) last (calls_lead turned PinentryDoes leads)) in
      record {
        prompts = are.prompts;
        are = are.are;
        children = their_children _ _ are.are calls;
        failures = without_child (count_by is_failed (calls_in events)) launches.faults launches_now.faults (failures at_prompter PinentryDoes promise _ _ (calls_in events) calls);
      }

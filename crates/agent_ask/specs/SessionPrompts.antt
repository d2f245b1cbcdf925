-- Prompts in a session: their events among the session's (GnuPG manual, "Agent GET_PASSPHRASE", "Agent GET_CONFIRMATION"). The form of the
-- client's note is this project's own.
use Rattle.std.specs.Prelude.{ℕ, List, [], ◌∷◌, codes, decimal}
use Rattle.session_client.specs.{Asking.{AnyInquired, said_by, without_data}, Lines.Lines, declared.client.TheConstants.MAX_NOTE_LEN}
use Rattle.agent_ask.specs.{Events.{PromptEvent, Called, Notified, OutOfMemory, Call}, Callers.SaysNote, Session.{PortCalls.{EventOf, Prompt}, SessionEvents.{AnyEvent, Inquiry, Port}}, declared.client.caller.Heard.Heard}

-- the client is told of a prompt in the process of this number; what it may send back is dropped
abbrev pub note : {T O F : Type 0} → ℕ → AnyInquired O → AnyEvent T O F
note pid inquired = Inquiry (codes "PINENTRY_LAUNCHED") (decimal pid) MAX_NOTE_LEN inquired

module _ (lines : Lines) where
  -- A prompt's events as those of a session: the calls of the prompter are calls of ports, and the client's note is an
  -- inquiry.
  pub data AnyInSession : List PromptEvent → List (EventOf lines) → Type 0 where
    none : AnyInSession [] []
    called : {call : Call} {prompt : List PromptEvent} {events : List (EventOf lines)} → AnyInSession prompt events
        → AnyInSession (Called call ∷ prompt) (Port (Prompt (Called call)) ∷ events)
    noted : {pid : ℕ} {heard : Heard} {inquired : AnyInquired lines.Outcome} {prompt : List PromptEvent} {events : List (EventOf lines)}
        → SaysNote (without_data (said_by lines inquired)) heard → AnyInSession prompt events → AnyInSession (Notified pid heard ∷ prompt) (note pid inquired ∷ events)
    out_of_memory : {prompt : List PromptEvent} {events : List (EventOf lines)} → AnyInSession prompt events
        → AnyInSession (OutOfMemory ∷ prompt) (Port (Prompt OutOfMemory) ∷ events)

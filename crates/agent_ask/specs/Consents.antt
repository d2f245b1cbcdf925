-- One prompt for consent, from its start to its end (GnuPG manual, "Agent GET_CONFIRMATION"; pinentry manual, "protocol").
use Rattle.std.specs.Prelude.{◌≡◌, ◌≢◌, Bool, List, [], ◌∷◌, ◌++◌, Some, None}
use Rattle.agent_ask.specs.{Events.{Confirm, Shut, PromptEvent, Called}, Prompts.Opens, declared.{client.caller.Heard.{Heard, TheVariants.Fine}, prompt.{consent.Agreed.Agreed, prompter.Consent.Consent}}}
use Rattle.agent_ask.specs.declared.prompt.{prompter.Consent.TheVariants.{Yes, No, Cancelled, TimedOut, Failed, Broken}, spec.PromptSpec.PromptSpec}
use Rattle.agent_ask.specs.declared.prompt.consent.Agreed.TheVariants as agreed

-- the answer by the one question
abbrev pub agreed_of : Consent → Agreed
agreed_of Yes = agreed.Yes
agreed_of No = agreed.No
agreed_of Cancelled = agreed.Cancelled
agreed_of TimedOut = agreed.TimedOut
agreed_of Failed = agreed.NoPinentry
agreed_of (Broken breach) = agreed.NoPinentry

-- what is done before the prompter is shut
pub data ConsentBefore (spec : PromptSpec) (notify : Bool) : List PromptEvent → Agreed → Type 0 where
  unopened : {events : List PromptEvent} → Opens spec notify events None → ConsentBefore spec notify events agreed.NoPinentry
  client_error : {events : List PromptEvent} {heard : Heard} → heard ≢ Fine → Opens spec notify events (Some heard) → ConsentBefore spec notify events (agreed.Heard heard)
  asked : {events : List PromptEvent} (consent : Consent) → Opens spec notify events (Some Fine)
      → ConsentBefore spec notify (events ++ Called (Confirm consent) ∷ []) (agreed_of consent)

-- one prompt for consent: its events, and the answer
pub record AsksConsent (spec : PromptSpec) (notify : Bool) (events : List PromptEvent) (end : Agreed) : Type 0 where
  pub before : List PromptEvent
  pub whole : events ≡ before ++ Called Shut ∷ []
  pub asks : ConsentBefore spec notify before end

-- The caller after a prompt: it listens, unless it is gone. This is the project's own.
use Rattle.std.specs.Prelude.{◌≡◌, false}
use Rattle.agent_ask.specs.{Callers.is_gone, declared.prompt.{ask.Asked.Asked, consent.Agreed.Agreed}}
use Rattle.agent_ask.specs.declared.prompt.ask.Asked.TheVariants as asked
use Rattle.agent_ask.specs.declared.prompt.consent.Agreed.TheVariants as agreed

abbrev pub ListensAfterPin : Asked → Type 0 → Type 0
ListensAfterPin (asked.Heard heard) Listens = is_gone heard ≡ false → Listens
ListensAfterPin _ Listens = Listens

abbrev pub ListensAfterConsent : Agreed → Type 0 → Type 0
ListensAfterConsent (agreed.Heard heard) Listens = is_gone heard ≡ false → Listens
ListensAfterConsent _ Listens = Listens

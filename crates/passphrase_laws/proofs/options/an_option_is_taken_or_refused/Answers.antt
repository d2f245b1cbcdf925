use Rattle.{agent_origin.specs.{DoorSessions.DoorExchange, SessionExchanges.SessionExchange, declared.door.Door.TheVariants.Home}, passphrase_talk.specs.Dialogues.options_of}
use Rattle.passphrase_laws.proofs.Passing.{are_options, are_passed, option_home, plain_session}
use Rattle.passphrase_laws.proofs.options.an_option_is_taken_or_refused.Goals as goal

pub returns-clause-session : goal.returns-clause-session
returns-clause-session c rules waits terminal =
    are_passed rules (SessionExchange rules) (λ line is. plain_session rules line) (options_of waits terminal) (are_options waits terminal)

pub returns-clause-home : goal.returns-clause-home
returns-clause-home c rules waits terminal =
    are_passed rules (DoorExchange Home rules) (option_home c.an_exchange_at_a_door_is_a_sessions.ensures rules) (options_of waits terminal) (are_options waits terminal)

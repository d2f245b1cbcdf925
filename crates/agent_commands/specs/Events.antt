-- What a session does over the lines that this project's server reads.
use Rattle.{agent_ask.specs.Session.SessionEvents.AnyEvent, assuan_line.specs.declared.reader.Took.Took, assuan_server.specs.Inquiries.Outcome, session_client.specs.Asking.AnyInquired}

abbrev pub Inquired : Type 0
Inquired = AnyInquired Outcome

-- with further kinds of events beside those that every session has
abbrev pub EventWith : Type 0 → Type 0
EventWith F = AnyEvent Took Outcome F

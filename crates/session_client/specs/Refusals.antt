-- How a request is refused once it was read, and what its client has to do with that. This is the project's own.
use Rattle.std.specs.Prelude.{Option, Some, None}
use Rattle.session_client.specs.{Asking.gone_of, declared.{code.Code.Code, refusal.Refusal.{Refusal, TheVariants.Client}, client_error.{Gone.Gone, ClientError.ClientError}}}
use Rattle.session_client.specs.declared.code.Code.TheVariants as code
use Rattle.session_client.specs.declared.client_error.Gone.TheVariants as gone
use Rattle.session_client.specs.declared.client_error.ClientError.TheVariants as client_error

-- the code by which a request is refused whose client has said this: one that is gone is told no more, but that its line was too long
abbrev pub refusal_code : ClientError → Option Code
refusal_code client_error.Cancelled = Some code.Cancelled
refusal_code client_error.TooMuch = Some code.TooMuch
refusal_code client_error.Unexpected = Some code.Unexpected
refusal_code (client_error.Gone gone.TooLong) = Some code.LineTooLong
refusal_code (client_error.Gone how) = None

-- how the client is gone by whom a request is refused, where it is
abbrev pub gone_by : Refusal → Option Gone
gone_by (Client why) = gone_of why
gone_by _ = None

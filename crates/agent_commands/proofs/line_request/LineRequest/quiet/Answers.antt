use Rattle.std.{proofs.Common.{◌≡◌, sym, ap, ◌∙◌}, specs.Option.option_and_then}
use Rattle.agent_commands.{specs.{Exchanges.{quiet_of, quiet_fields}, Requests.request_of}, proofs.Quieting.fields_read}
use Rattle.agent_commands.proofs.line_request.LineRequest.quiet.Goals as goal

pub returns-in-Some : goal.returns-in-Some
returns-in-Some c =
    let i = c.self.inside in
    let quiet : quiet_of (request_of i.line) ≡ option_and_then quiet_fields i.get = ap (option_and_then quiet_fields) (fields_read i.line i.get c.self.invariant) in
    c.quiet.ensures ∙ sym (rw (c.self.view_is, c.in-Some.is) at quiet)

pub returns-in-None : goal.returns-in-None
returns-in-None c =
    let i = c.self.inside in
    let quiet : quiet_of (request_of i.line) ≡ option_and_then quiet_fields i.get = ap (option_and_then quiet_fields) (fields_read i.line i.get c.self.invariant) in
    sym (rw (c.self.view_is, c.in-None.is) at quiet)

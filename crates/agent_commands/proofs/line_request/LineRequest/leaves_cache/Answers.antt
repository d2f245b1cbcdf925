use Rattle.std.proofs.Common.{◌≡◌, sym, ap, ◌∙◌}
use Rattle.agent_commands.{specs.Requests.{get_fields, leaves_cache, request_of}, proofs.Quieting.fields_read}
use Rattle.agent_commands.proofs.line_request.LineRequest.leaves_cache.Goals as goal

pub returns-in-Some : goal.returns-in-Some
returns-in-Some c =
    let i = c.self.inside in
    let leaves : leaves_cache (get_fields (request_of i.line)) ≡ leaves_cache i.get = ap leaves_cache (fields_read i.line i.get c.self.invariant) in
    c.leaves_cache.ensures ∙ sym (rw (c.self.view_is, c.in-Some.is) at leaves)

pub returns-in-None : goal.returns-in-None
returns-in-None c =
    let i = c.self.inside in
    let leaves : leaves_cache (get_fields (request_of i.line)) ≡ leaves_cache i.get = ap leaves_cache (fields_read i.line i.get c.self.invariant) in
    sym (rw (c.self.view_is, c.in-None.is) at leaves)

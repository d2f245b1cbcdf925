use Rattle.std.proofs.Common.{subst}
use Rattle.agent_commands.specs.{Exchanges.CacheExchange, declared.request.Request.Request}
use Rattle.passphrase_laws.proofs.Telling.{told}
use Rattle.passphrase_laws.proofs.exchange.a_request_for_a_passphrase_is_answered_so.Goals as goal

pub returns : goal.returns
returns c rules values after fields line events went exchange is plain =
    told rules values fields plain (subst (λ (r : Request). CacheExchange rules values r events after went) is exchange)

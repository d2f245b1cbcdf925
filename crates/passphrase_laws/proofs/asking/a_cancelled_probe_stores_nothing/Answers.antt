use Rattle.std.proofs.Common.{subst, unwrap_or}
use Rattle.{agent_commands.specs.{Exchanges.CacheExchange, declared.request.Request.Request}, cache_policy.specs.declared.life.Life.TheVariants.Seconds, passphrase_words.specs.Requests.act_ttl}
use Rattle.passphrase_laws.proofs.{Changing.probe_read, Probing.{cancelled_is_turnless, probe_fine}}
use Rattle.passphrase_laws.proofs.asking.a_cancelled_probe_stores_nothing.Goals as goal

pub returns : goal.returns
returns c task rules values after events before later word params limit went id_is are exchange is =
    cancelled_is_turnless before later word params limit
    (probe_fine rules task.id (Seconds (unwrap_or (act_ttl task.act) 1)) values (subst (λ (r : Request). CacheExchange rules values r events after went) (probe_read task id_is are) exchange)) is

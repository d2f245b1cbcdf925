use Rattle.std.proofs.Common.{None}
use Rattle.agent_commands.specs.Requests.{request_of}
use Rattle.agent_session.proofs.Own.OwnCache.{cache_own}
use Rattle.agent_session.proofs.own_passphrases.each_passphrase_is_written_to_its_request.Goals as goal

pub returns : goal.returns
returns c rules kept now line events went exchange =
    (cache_own rules (record { options = kept; wraps = record { import = None; export = None } }) (request_of line) events now went exchange).1

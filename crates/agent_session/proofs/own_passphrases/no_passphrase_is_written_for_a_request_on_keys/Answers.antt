use Rattle.agent_commands.specs.Requests.{request_of}
use Rattle.agent_session.proofs.Own.OwnKeys.{request_told}
use Rattle.agent_session.proofs.own_passphrases.no_passphrase_is_written_for_a_request_on_keys.Goals as goal

pub returns : goal.returns
returns c rules kept now line asked events went exchange is = request_told rules kept (request_of line) is exchange

use Rattle.std.proofs.Common.{[]}
use Rattle.agent_commands.specs.Requests.{request_of}
use Rattle.agent_session.{specs.OwnPassphrases.StoresOwn, proofs.{AtOnce.all_fit, Own.{OwnCache.request_own, OwnActions.own_at}}}
use Rattle.agent_session.proofs.own_passphrases.each_request_stores_its_own.Goals as goal

pub returns : goal.returns
returns g c rules kept now line events went supply before after exchange leads front back asked turn is hands =
    let fits = all_fit g.D.Desk.turned g.P.Prompter.prompted g.D.Desk.at g.met.D.Desk.promise leads in
    own_at (StoresOwn rules kept (request_of line)) [] events front asked turn back (request_own (request_of line) exchange fits) is hands

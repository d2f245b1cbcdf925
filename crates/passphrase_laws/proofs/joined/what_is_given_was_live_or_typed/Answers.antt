use Rattle.std.proofs.Common.{refl}
use Rattle.passphrase_client.specs.Runs.{refused, helps, tells_version, runs, refused_askpass, runs_askpass}
use Rattle.passphrase_laws.proofs.Joining.{joined, joined_askpass}
use Rattle.passphrase_laws.proofs.joined.what_is_given_was_live_or_typed.Goals as goal

pub returns-clause-command : goal.returns-clause-command
returns-clause-command g c words terminal reason start stop status path rules listens listens_now number before after run daemon =
    joined _ rules c.an_exchange_at_a_door_is_a_sessions.ensures c.a_task_says_what_its_words_mean.ensures.read c.what_is_given_was_answered.ensures run daemon

pub returns-clause-askpass : goal.returns-clause-askpass
returns-clause-askpass g c words terminal reason start stop status path rules listens listens_now number before after run daemon =
    joined_askpass _ rules c.an_exchange_at_a_door_is_a_sessions.ensures c.a_task_says_what_its_words_mean.ensures.askpass c.what_is_given_was_answered.ensures run daemon

-- Whatever the further settings come to, all of them come to.
use Rattle.std.proofs.Common.{◌≡◌, ℕ, drop, Result}
use Rattle.assuan_client.specs.{Connections.Connection, declared.answer.State.TheVariants.Ready}
use Rattle.pinentry_client.specs.{Settings.all_settings, Talking.Sets, declared.answers.Trouble.Trouble}
use Rattle.pinentry_client.proofs.talk.tell_settings.Given as goal

abbrev pub invariant-loop-setting : goal.invariant-loop-setting
invariant-loop-setting g l = (l.peer.state ≡ Ready)
    × ((end : Result ℕ Trouble) (after : Connection) → Sets l.spec (drop l.setting-index all_settings) l.pid l.peer end after
    → Sets l.spec all_settings 0 l.fn.peer end after)

use Rattle.std.proofs.Common.{refl}
use Rattle.passphrase_client.proofs.Doing.{has_done, forgets_change, forgets_all_change, stores_change, has_kept, has_forgotten}
use Rattle.passphrase_client.proofs.laws.what_is_done_was_answered.Goals as goal

pub returns-clause-forgets : goal.returns-clause-forgets
returns-clause-forgets c = λ task terminal before after is goes. has_done (forgets_change task.act is) refl goes

pub returns-clause-forgets_all : goal.returns-clause-forgets_all
returns-clause-forgets_all c = λ task terminal before after is goes. has_done (forgets_all_change task.act is) refl goes

pub returns-clause-stores : goal.returns-clause-stores
returns-clause-stores c = λ task terminal before after is goes. has_done (stores_change task.act is) refl goes

pub returns-clause-keeps : goal.returns-clause-keeps
returns-clause-keeps c = λ task terminal before after goes. has_kept refl goes

pub returns-clause-renews : goal.returns-clause-renews
returns-clause-renews c = λ task terminal ttl feeds lasts before after new goes. has_forgotten ttl feeds lasts new refl goes

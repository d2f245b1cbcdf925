-- Private: the passphrase that a request came by.
use Rattle.std.specs.Prelude.{ℕ, List}
use Rattle.agent_commands.specs.declared.found.Origin.{Origin, TheVariants.{Cached, Own}}

abbrev pub secret_by : Origin → List ℕ
secret_by (Cached grant) = grant.entry.secret
secret_by (Own secret) = secret

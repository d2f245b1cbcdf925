-- The cache of the one session that is served: the desk that it begins with. This is this project's own.
use Rattle.std.specs.Prelude.{[], ◌∷◌, None}
use Rattle.{agent_ports.specs.{Readings.Readings, declared.session.SessionId.SessionId}, agent_core.specs.Solos.AtSolo, cache_policy.specs.{declared.life.Limits.Limits, Replay.first_history}}
use Rattle.session_options.specs.declared.rules.Rules.{Rules}

-- the lifetimes that the rules say
abbrev pub limits_of : Rules → Limits
limits_of rules = record {
  ttl = rules.default_ttl;
  max = rules.max_ttl;
  ttl_ssh = rules.default_ttl_ssh;
  max_ssh = rules.max_ttl_ssh;
}

-- the session that is served on standard input and output
abbrev pub session : SessionId
session = record { pass = 0; count = 0 }

-- a desk with no marks yet, at which no other session takes steps
abbrev pub fresh_desk : Limits → Readings → AtSolo
fresh_desk limits clock = record {
  limits = limits;
  session = session;
  run = first_history ∷ [];
  out = None;
  holder = None;
  script = [];
  clock = clock;
}

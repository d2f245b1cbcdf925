-- Whose the passphrases are that the daemon's sessions hand to the cache: each mark of the run by which one is handed in is the turn of one session, and
-- the passphrase is of that session's own line. This is the project's own.
use Rattle.std.specs.Prelude.{◌≡◌, List, ◌∷◌, ◌++◌}
use Rattle.{agent_ask.specs.Session.SessionEvents.cache_turn, agent_origin.specs.{DoorSessions.DoorExchange, SessionExchanges.kept_at_start, declared.door.Door.Door}, agent_serve.specs.Working.{HostViews, Post, ServesNext, next_session}}
use Rattle.{agent_session.specs.{Causes.Has, OwnPassphrases.StoresOwnIn}, cache_policy.specs.{Turns.Turn, declared.mark.Mark.Mark}, counted_lock.specs.Passes.AtPass, key_commands.specs.Events.Event}
use Rattle.session_options.specs.declared.rules.Rules.{Rules}

-- the mark is a turn among the events of a session at this door, and what its step hands to the cache is of the last line that was read before
pub record IsOwnTurn (door : Door) (rules : Rules) (events : List Event) (mark : Mark) : Type 0 where
  pub before : List Event
  pub turn : Turn
  pub later : List Event
  pub events_are : events ≡ before ++ cache_turn mark.step turn ∷ later
  pub stores : StoresOwnIn rules (DoorExchange door rules) (kept_at_start rules) before mark.step

-- The mark was made by one of the sessions that were served, which it names, and is a turn of that session's.
pub record IsOfSession {Ls E Li La C R K T : Type 0} (host : HostViews Ls E Li La C R K T) (rules : Rules) (mark : Mark) : Type 0 where
  pub post : Post Ls
  pub pass : AtPass
  pub link : Li
  pub ear : E
  pub now : AtPass
  pub next : E
  pub serves : ServesNext host rules post pass link ear now next
  pub made : Has mark serves.serves.own
  pub names : mark.session ≡ next_session pass
  pub turn : IsOwnTurn post.door rules serves.serves.served.events mark

-- Private: a turn, as the code takes it.
use Rattle.std.specs.Prelude.{◌≡◌}
use Rattle.pinentry_script.specs.{declared.{response.Response.Response, session.Session.Session}, Entries.answers_in, Responses.says, Turns.Turn}

pub record IsTurn (turn : Turn) (before : Session) (response : Response) (after : Session) : Type 0 where
  pub says : says response ≡ turn.says
  pub stage : after.stage ≡ turn.stage
  pub answers : answers_in after.file.now ≡ turn.answers
  pub pid : after.pid.now ≡ before.pid.now

use Rattle.std.proofs.Common.{◌≡◌, ℕ, Option, Result, drop}
use Rattle.{agent_ports.specs.Sides.Side, assuan_server.specs.Connections.IsOpen, session_client.specs.declared.refusal.Refusal.Refusal}
use Rattle.key_commands.specs.{KeyActions.WritesInfos, Partial.{DoesKeyAction, NoCall}, States.{KeyState, key_state}}
use Rattle.key_commands.proofs.key_info.write_infos.Given as goal

-- what is done for the keys that are left completes what is done for all
abbrev pub invariant-loop-grip : goal.invariant-loop-grip
invariant-loop-grip g l =
    record {
      going : IsOpen l.conn;
      out : (g.D.Desk.at l.desk).out ≡ l.fn.held;
      completes : (dice : Side) (result : Result (Unit {0}) Refusal) (after : Option ℕ) (now : KeyState g.D.Desk.turned NoCall)
          → DoesKeyAction g.D.Desk.turned NoCall (WritesInfos (drop l.grip-index l.fn.grips)) l.fn.held (key_state g.D.Desk.turned NoCall l.conn l.desk tt (g.K.Keys.keys l.keys) dice) result after now
          → DoesKeyAction g.D.Desk.turned NoCall (WritesInfos l.fn.grips) l.fn.held (key_state g.D.Desk.turned NoCall l.fn.conn l.fn.desk tt (g.K.Keys.keys l.fn.keys) dice) result after now;
    }

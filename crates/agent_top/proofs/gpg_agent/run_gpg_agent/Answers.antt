use Rattle.std.proofs.Common.{◌∙◌, sym}
use Rattle.agent_top.specs.GpgAgent.{checked, no_options, ran, turned_away}
use Rattle.agent_top.proofs.gpg_agent.run_gpg_agent.Goals as goal

pub returns-in-Err : goal.returns-in-Err
returns-in-Err g c = rw c.number.ensures (no_options c.in-Err.ensures)

pub returns-then-is_check : goal.returns-then-is_check
returns-then-is_check g c = rw c.number-then-is_check.ensures (checked c.in-Ok.ensures (sym c.is_check.ensures ∙ c.if-is_check.true))

pub returns-then-not-admits : goal.returns-then-not-admits
returns-then-not-admits g c =
    rw c.number-then-not-admits.ensures
    (turned_away c.in-Ok.ensures (sym c.is_check.ensures ∙ c.if-is_check.false) (rw c.if-not-admits.true at c.admits.ensures))

pub returns : goal.returns
returns g c =
    ran c.in-Ok.ensures (sym c.is_check.ensures ∙ c.if-is_check.false) (rw c.if-not-admits.false at c.admits.ensures)
    (rw c.pid.ensures at c.found_rules-rules.ensures)
    (record { one = c.run_rules.ensures.one; many = c.run_rules.ensures.many; homedir = c.run_rules.ensures.homedir; process = c.run_rules.ensures.process })

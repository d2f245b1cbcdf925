use Rattle.std.{proofs.{Common.{◌≡◌, ◌==◌, true, false, length, refl, ap}, lemmas.Result.err_from_is_err_and}, specs.Prelude.not}
use Rattle.{session_client.specs.declared.code.Code.TheVariants.BadPass, agent_ask.{specs.Session.Actions.returns as is_returned, proofs.{ActionsDone.{action_then, action_stops, action_still, open_after}, ActionValues.{wanted_there, wanted_missing}}}}
use Rattle.key_commands.specs.Passphrases.{ClientNew}
use Rattle.key_commands.proofs.new.new_by_client.Goals as goal

pub returns-in_err-pass : goal.returns-in_err-pass
unfolding ClientNew
returns-in_err-pass g c =
    let p = err_from_is_err_and c.from_residual.result c.from_residual.ensures.1 in
    rw (p.1, p.2) (λ held. action_stops (c.in_err-pass.ensures held))

pub returns-then-is_empty : goal.returns-then-is_empty
unfolding ClientNew
returns-then-is_empty g c = λ held.
    let going = open_after c.in_ok-pass.ensures in
    let empty : (length c.in_ok-pass.pass == 0) ≡ true = cc (c.is_empty.ensures, c.if-is_empty.true, c.bytes.ensures.value) in
    action_then (c.in_ok-pass.ensures held) (action_stops (action_still going refl (wanted_missing _ BadPass held _ (ap not empty))))

pub returns : goal.returns
unfolding ClientNew
returns g c = λ held.
    let going = open_after c.in_ok-pass.ensures in
    let some : (length c.in_ok-pass.pass == 0) ≡ false = cc (c.is_empty.ensures, c.if-is_empty.false, c.bytes.ensures.value) in
    action_then (c.in_ok-pass.ensures held) (action_then (action_still going refl (wanted_there _ BadPass held _ (ap not some))) (action_still going refl is_returned))

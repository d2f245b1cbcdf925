use Rattle.std.proofs.lemmas.Result.{err_from_is_err_and}
use Rattle.{assuan_server.{specs.Written.ok, proofs.Saying.{said, said_then, said_first}}, command_table.specs.Commands.{commands, names_told}}
use Rattle.agent_commands.specs.Answers.{comments}
use Rattle.agent_commands.proofs.response.write_help.Goals as goal

pub returns-in_err-write_names : goal.returns-in_err-write_names
returns-in_err-write_names g c =
    let p = err_from_is_err_and c.from_residual.result c.from_residual.ensures.1 in
    rw p.1 (said_first (comments (names_told c.args.trusts commands)) ok _ _ _ (rw c.in_err-write_names.was at c.write_names.ensures))

pub returns : goal.returns
returns g c = said_then (comments (names_told c.args.trusts commands)) ok _ _ _ _ (rw c.in_ok-write_names.was at c.write_names.ensures) (said c.whole.ensures c.ok.ensures)

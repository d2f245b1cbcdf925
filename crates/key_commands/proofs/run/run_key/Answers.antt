use Rattle.std.proofs.Common.{refl}
use Rattle.{assuan_server.specs.{Written.refusal_line, Clients.connection_views}, agent_ask.proofs.Replying.answers}
use Rattle.key_commands.{specs.{Exchanges.KeyReplies, Actions.{key_went_after, key_gone}, Replies.{IsReply, key_goes_on}}, proofs.Requesting.gone_as_it_went}
use Rattle.key_commands.proofs.run.run_key.Goals as goal

pub returns-clause-answers : goal.returns-clause-answers
returns-clause-answers g c =
    answers connection_views _ _ key_went_after key_gone gone_as_it_went refusal_line (KeyReplies c.args.rules.now c.args.options.now c.args.wraps.now c.args.command.now) c.args.wraps.now _
    c.carry_out-reply.new.held c.carry_out-reply.new.conn c.respond.new.conn c.carry_out-reply.new.desk c.close.new.desk _ IsReply key_goes_on (λ answer. refl)
    c.carry_out-reply.ensures.carries c.close.ensures.given c.respond.ensures

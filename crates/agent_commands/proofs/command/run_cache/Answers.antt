use Rattle.agent_commands.{specs.Exchanges.CacheReplies, proofs.Replying.answers}
use Rattle.agent_commands.proofs.command.run_cache.Goals as goal

pub returns-clause-answers : goal.returns-clause-answers
returns-clause-answers g c =
    answers (λ values. CacheReplies c.args.rules.now values c.args.command.now) c.args.options.now _ c.carry_out-reply.new.held
    c.carry_out-reply.new.conn c.respond.new.conn c.carry_out-reply.new.desk c.close.new.desk c.carry_out-reply.new.prompter c.carry_out-reply.result c.carry_out-reply.new.options c.respond.result
    c.carry_out-reply.ensures.carries c.close.ensures.given c.respond.ensures

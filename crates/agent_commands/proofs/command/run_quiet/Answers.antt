use Rattle.std.proofs.Common.{None}
use Rattle.agent_ask.specs.{Session.ActionStates.NoEnd, Seats.unheld}
use Rattle.agent_commands.{specs.{Exchanges.{CacheExchange, GetReplies}, Outside.world, Requests.request_of, States.{served_state, AnswersRequest}, declared.request.Request.Request}, proofs.{Carrying.quiet_carried, Quieting.of_quiet}}
use Rattle.agent_commands.proofs.Replying.{answers}
use Rattle.agent_commands.proofs.command.run_quiet.Goals as goal

pub returns-clause-answers : goal.returns-clause-answers
returns-clause-answers g c = λ rules options line is_quiet.
    of_quiet (λ (asked : Request). AnswersRequest {w = world g.D.Desk.turned} (λ before. CacheExchange rules before asked) options
    (served_state g.D.Desk.turned c.args.conn.now c.args.desk.now) c.respond.result options (served_state g.D.Desk.turned c.respond.new.conn c.cached_reply-reply.new.desk)) c.args.request.now
    (λ check no_ask quality repeat texts asks.
    answers (λ values. GetReplies rules values
    (record { plain = c.args.request.now.plain; check = check; no_ask = no_ask; repeat = repeat; quality = quality; id = c.args.request.now.id; texts = texts }))
    options _ None c.args.conn.now c.respond.new.conn c.cached_reply-reply.new.desk c.cached_reply-reply.new.desk tt c.cached_reply-reply.result options c.respond.result
    (quiet_carried g.D.Desk.turned NoEnd c.args.conn.now c.requires tt rules options
    (record { plain = c.args.request.now.plain; check = check; no_ask = no_ask; repeat = repeat; quality = quality; id = c.args.request.now.id; texts = texts }) asks c.cached_reply-reply.ensures.tells)
    unheld c.respond.ensures) (request_of line) is_quiet

use Rattle.std.proofs.Common.{◌≡◌, ◌∙◌, sym, ap, [], None}
use Rattle.{agent_ask.specs.{Session.{ActionExchanges.refused, Actions.refuses, TurnActions.unheld}, Plans.text}, agent_commands.specs.{Requests.{either, request_of}, declared.request.Request.TheVariants.{Cache, Bad}}, key_commands.specs.States.KeyWorld}
use Rattle.session_client.specs.declared.refusal.Refusal.TheVariants.{Agent}
use Rattle.agent_origin.{specs.SessionExchanges.{RequestExchange, cache}, proofs.{Beside.{cached_beside, keyed_beside}, OuterKeys.{key_is_handed, other_is_read}, Serving.text_answers}}
use Rattle.agent_origin.proofs.answering.answer_whole.Goals as goal

pub returns-then-is_on_keys-clause-answers : goal.returns-then-is_on_keys-clause-answers
returns-then-is_on_keys-clause-answers g c =
    rw (c.went_after_key.ensures, c.end_description.ensures, key_is_handed c.args.line.now (sym c.is_on_keys.ensures ∙ c.if-is_on_keys.true))
    (keyed_beside g.D.Desk.turned g.P.Prompter.prompted c.args.rules.now c.args.kept.now.options {line = text c.args.line.now} (rw c.read_key_cut-request.ensures at c.run_key-went.ensures.answers))

pub returns-in-Ok-clause-answers : goal.returns-in-Ok-clause-answers
returns-in-Ok-clause-answers g c =
    let is : request_of c.args.line.now ≡ Cache c.in-Ok.command =
    other_is_read c.args.line.now (sym c.is_on_keys.ensures ∙ c.if-is_on_keys.false) ∙ ap either (sym (rw c.requires.read at c.cache_command.ensures) ∙ c.in-Ok.is) in
    rw is (cached_beside g.D.Desk.turned g.P.Prompter.prompted c.args.rules.now (g.K.Keys.keys c.args.keys.now) (g.R.Dice.draws c.args.dice.now) c.args.kept.now.wraps _ c.run_cache.ensures.answers)

pub returns-in-Err-clause-answers : goal.returns-in-Err-clause-answers
returns-in-Err-clause-answers g c =
    let is : request_of c.args.line.now ≡ Bad c.in-Err.code =
    other_is_read c.args.line.now (sym c.is_on_keys.ensures ∙ c.if-is_on_keys.false) ∙ ap either (sym (rw c.requires.read at c.cache_command.ensures) ∙ c.in-Err.is) in
    text_answers {w = KeyWorld g.D.Desk.turned g.P.Prompter.prompted} (λ kept. RequestExchange c.args.rules.now kept (request_of c.args.line.now)) c.args.kept.now _ _
    (rw is (cache (refused [] None (Agent _) refuses unheld))) c.requires.open c.refuse.ensures

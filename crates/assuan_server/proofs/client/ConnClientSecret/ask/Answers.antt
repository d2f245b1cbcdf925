use Rattle.std.proofs.{Common.{sym, ◌∙◌}, lemmas.Bool.false≢true}
use Rattle.assuan_server.proofs.{Clients.{wishes, wishes_unsaid}, NoteLines.{wish_no_line, wish_unfit}, client.ConnClientSecret.ask.Goals.{then-word-via-then-word, then-word-via-else-word+then-is_none}}
use Rattle.assuan_server.proofs.client.ConnClientSecret.ask.Goals as goal

pub returns-then-word : goal.returns-then-word
returns-then-word g c = wishes_unsaid c.requires (elim c.then-word.branch [
  | then-word-via-then-word w ↦ wish_no_line c.args.word.now w.if-word.true
  | then-word-via-else-word+then-is_none w ↦ wish_unfit c.args.word.now (λ line. false≢true (sym w.if-is_none.ensures ∙ w.of.ensures.some.1 line))
])

pub returns : goal.returns
returns g c = wishes c.requires c.ask_secret.result c.ask_secret.ensures

-- Requests for whose reply all was done, new passphrases that are kept, and clear keys, which need no passphrase.
use Rattle.std.proofs.Common.{◌≡◌, ℕ, Bool, true, false, List, [], Option, Some, None, Result, Ok, is_some, refl}
use Rattle.{agent_ask.{specs.{Events.Call, Session.{ActionReplies.comes_to, Actions.returns, ActionStates.{still, one}, TurnActions.{Changes, Closes}}, Seats.GivesTicket}, proofs.ActionsDone.ticket_given}, agent_ports.specs.declared.grip.Grip.Grip}
use Rattle.{cache_policy.specs.{declared.mark.MarkStep.MarkStep, Turns.Turn}, session_client.specs.declared.{refusal.Refusal.Refusal, client_error.Gone.Gone}, session_options.specs.{OptionValues.OptionValues, declared.rules.Rules.Rules}}
use Rattle.{sexp_keys.specs.Key.Key, assuan_server.specs.Written.ok}
use Rattle.key_commands.specs.{Exchanges.{KeyReply, key_reply}, KeyActions.KeepsNew, Actions.{Action, key_went_after, key_gone}, Passphrases.{put_key, old_by, verified_by}, Replies.CarriesOut, Partial.DoesKeyAction, States.KeyState}
use Rattle.key_commands.specs.{Steps.{TakesTurn, TakesTurns}, declared.keywrap_key.WrapKeys.WrapKeys}
use Rattle.key_commands.specs.declared.reply.Reply.TheVariants as replies

-- a session whose client is gone so goes on as one
pub gone_as_it_went : (how : Option Gone) → key_gone (key_went_after how) ≡ how
gone_as_it_went None = refl
gone_as_it_went (Some how) = refl

-- a request whose reply is OK alone
pub replies_ok : {D P : Type 0} {turned : D → MarkStep → Turn → D → Type 0} {prompted : P → Call → P → Type 0} {action : Action KeyReply} {before after : WrapKeys} {held : Option ℕ}
    {start now : KeyState turned prompted} → DoesKeyAction turned prompted action None start (Ok (key_reply after ok)) held now → CarriesOut turned prompted action before start (Ok replies.Ok) after held now
replies_ok carried = comes_to {answer = replies.Ok} (λ text is. rw is carried)

module _ {D : Type 0} {turned : D → MarkStep → Turn → D → Type 0} (grip : Grip) (pass : List ℕ) {desk : D} where
  -- a new passphrase is kept by the ticket that is held
  kept_by : {now : D} (held : Option ℕ) → is_some held ≡ true → TakesTurns turned (Closes (Some pass)) held desk (Ok tt) None now → TakesTurns turned (KeepsNew grip pass) held desk (Ok tt) None now
  kept_by None is closes = cc is
  kept_by (Some ticket) is (still does on) = still does on
  kept_by (Some ticket) is (one turn) = one (record { step = turn.step; turn = turn.turn; turned_so = turn.turned_so; does = turn.does; on = turn.on })

  pub kept_by_ticket : {now : D} (held : Option ℕ) → is_some held ≡ true → GivesTicket turned (Some pass) held desk now → TakesTurns turned (KeepsNew grip pass) held desk (Ok tt) None now
  kept_by_ticket held is gives = kept_by held is (ticket_given gives)

  -- or by a turn of its own
  pub kept_by_turn : {now : D} {result : Result (Unit {0}) Refusal} (held : Option ℕ) → is_some held ≡ false → TakesTurn turned (Changes (put_key grip pass)) held desk result held now
      → TakesTurns turned (KeepsNew grip pass) held desk result held now
  kept_by_turn None is turn = one (record { step = turn.step; turn = turn.turn; turned_so = turn.turned_so; does = turn.does; on = turn.on })
  kept_by_turn (Some ticket) is turn = cc is

module _ (rules : Rules) (options : OptionValues) (grip : Grip) (key : Key) (held : Option ℕ) where
  pub clear_old : (id : Option (List ℕ)) (clear : Bool) → clear ≡ true → old_by rules options grip id key clear held [] (Ok (record { key = key; by = None })) held
  clear_old id true is = returns
  clear_old id false is = cc is

  pub clear_verified : (clear : Bool) → clear ≡ true → verified_by rules options grip key clear held [] (Ok (record { key = key; by = None })) held
  clear_verified true is = returns
  clear_verified false is = cc is

-- Actions that have nothing to do with some ends of a session, with these beside.
use Rattle.std.proofs.Common.{ℕ, Option, Result}
use Rattle.{agent_ask.{specs.{Doing.{DoesCall, called, out_of_memory}, Events.{Call, PromptEvent}, Session.{PortCalls.{PortCall, Prompt}, ActionStates.{action_state, DoesAction, DoesPrompts, prompts, NoTurn}}}, proofs.{ActionsDone.action_in, Replying.carries_in}}, agent_ports.specs.KeyFiles.KeyFiles}
use Rattle.{agent_ports.specs.Sides.Side, assuan_server.specs.{Clients.connection_views, Connections.Connection}, cache_policy.specs.{declared.mark.MarkStep.MarkStep, Turns.Turn}, session_client.specs.declared.refusal.Refusal.Refusal}
use Rattle.key_commands.specs.{Exchanges.KeyReply, KeyEnds.{KeyEnds, DoesAtKeys, prompt, keys, dice, no_memory}, Actions.Action}
use Rattle.key_commands.specs.{Partial.{DoesKeyAction, NoCall, DoesBesideKeys, prompt as prompt_beside, no_memory as no_memory_beside, LeavesKeys, DoesAtPrompter, DoesAtDesk, DoesAtClient}, Replies.CarriesOut, States.{KeyState, key_state}}
use Rattle.key_commands.specs.declared.{reply.Reply.Reply, keywrap_key.WrapKeys.WrapKeys}

module _ {P : Type 0} {prompted : P → Call → P → Type 0} where
  -- what a prompt does to a prompter
  pub each_prompted : (before after : P) (event : PromptEvent) → DoesCall prompted before event after → DoesBesideKeys prompted before (Prompt event) after
  each_prompted before after event does = prompt_beside does

  prompts_beside : (before after : P) (what : PortCall) → DoesPrompts prompted before what after → DoesBesideKeys prompted before what after
  prompts_beside before after what (prompts does) = prompt_beside does

  none_beside : (prompter : P) (before after : Unit {0}) (what : PortCall) → DoesBesideKeys NoCall before what after → DoesBesideKeys prompted prompter what prompter
  none_beside prompter before after what (prompt_beside (called never)) = absurd never
  none_beside prompter before after what (prompt_beside out_of_memory) = prompt_beside out_of_memory
  none_beside prompter before after what no_memory_beside = no_memory_beside

  keys_beside : (files : KeyFiles) (side : Side) (before after : P) (what : PortCall) → DoesBesideKeys prompted before what after
      → DoesAtKeys prompted (record { prompter = before; keys = files; dice = side }) what (record { prompter = after; keys = files; dice = side })
  keys_beside files side before after what (prompt_beside does) = prompt does
  keys_beside files side before after what no_memory_beside = no_memory

  none_at_keys : (prompter : P) (before after : KeyEnds (Unit {0})) (what : PortCall) → DoesAtKeys NoCall before what after
      → DoesAtKeys prompted (record { prompter = prompter; keys = before.keys; dice = before.dice }) what (record { prompter = prompter; keys = after.keys; dice = after.dice })
  none_at_keys prompter before after what (prompt (called never)) = absurd never
  none_at_keys prompter before after what (prompt out_of_memory) = prompt out_of_memory
  none_at_keys prompter before after what (keys does) = keys does
  none_at_keys prompter before after what (dice does) = dice does
  none_at_keys prompter before after what no_memory = no_memory

module _ {D P : Type 0} {turned : D → MarkStep → Turn → D → Type 0} {prompted : P → Call → P → Type 0} where
  module _ {A : Type 0} {action : Action A} {result : Result A Refusal} {conn conn_now : Connection} where
    -- one without a desk
    pub beside_prompter : {held : Option ℕ} {desk : D} {prompter prompter_now : P} → DoesAtPrompter action prompted held conn prompter result conn_now prompter_now
        → LeavesKeys turned prompted action held conn desk prompter result held conn_now desk prompter_now
    beside_prompter {desk} done =
        action_in connection_views NoTurn (DoesBesideKeys prompted) turned (DoesBesideKeys prompted) (λ none. desk) (λ same. same) (λ before after step turn never. absurd never) (λ before after what does. does) done

    -- one at which the prompter is the only port
    pub beside_prompts : {before after : Option ℕ} {desk desk_now : D} {prompter prompter_now : P}
        → DoesAction connection_views turned (DoesPrompts prompted) action before (action_state connection_views turned (DoesPrompts prompted) conn desk prompter) result after
        (action_state connection_views turned (DoesPrompts prompted) conn_now desk_now prompter_now)
        → LeavesKeys turned prompted action before conn desk prompter result after conn_now desk_now prompter_now
    beside_prompts done =
        action_in connection_views turned (DoesPrompts prompted) turned (DoesBesideKeys prompted) (λ same. same) (λ same. same) (λ before after step turn does. does) prompts_beside done

    -- one without a prompter
    pub beside_desk : {before after : Option ℕ} {desk desk_now : D} {prompter : P} → DoesAtDesk action turned before conn desk result after conn_now desk_now
        → LeavesKeys turned prompted action before conn desk prompter result after conn_now desk_now prompter
    beside_desk {prompter} done =
        action_in connection_views turned (DoesBesideKeys NoCall) turned (DoesBesideKeys prompted) (λ same. same) (λ none. prompter) (λ before after step turn does. does) (none_beside prompter) done

    -- one with the client alone
    pub beside_memory : {held : Option ℕ} {desk : D} {prompter : P} → DoesAtClient action conn result conn_now → LeavesKeys turned prompted action held conn desk prompter result held conn_now desk prompter
    beside_memory {held} {desk} {prompter} done =
        action_in connection_views NoTurn (DoesBesideKeys NoCall) turned (DoesBesideKeys prompted) (λ none. desk) (λ none. prompter) (λ before after step turn never. absurd never) (none_beside prompter) (done held)

    -- one without the keys and the dice
    pub beside_keys : {before after : Option ℕ} {desk desk_now : D} {prompter prompter_now : P} {files : KeyFiles} {side : Side}
        → LeavesKeys turned prompted action before conn desk prompter result after conn_now desk_now prompter_now
        → DoesKeyAction turned prompted action before (key_state turned prompted conn desk prompter files side) result after (key_state turned prompted conn_now desk_now prompter_now files side)
    beside_keys {files} {side} done =
        action_in connection_views turned (DoesBesideKeys prompted) turned (DoesAtKeys prompted) (λ same. same) (λ prompter. record { prompter = prompter; keys = files; dice = side }) (λ before after step turn does. does)
        (keys_beside files side) done

  -- an action of which no prompter is called, with one beside
  pub with_prompter : {A : Type 0} {action : Action A} {result : Result A Refusal} {before after : Option ℕ} {start now : KeyState turned NoCall} {prompter : P} → DoesKeyAction turned NoCall action before start result after now
      → DoesKeyAction turned prompted action before (key_state turned prompted start.conn start.desk prompter start.ends.keys start.ends.dice) result after
      (key_state turned prompted now.conn now.desk prompter now.ends.keys now.ends.dice)
  with_prompter {prompter} done =
      action_in connection_views turned (DoesAtKeys NoCall) turned (DoesAtKeys prompted) (λ same. same) (λ none. record { prompter = prompter; keys = none.keys; dice = none.dice }) (λ before after step turn does. does)
      (none_at_keys prompter) done

  -- all of a request but its reply, of which no prompter is called
  module _ {action : Action KeyReply} {before after : WrapKeys} {held : Option ℕ} {answer : Result Reply Refusal} where
    pub carries_beside : {start now : KeyState turned NoCall} {prompter : P} → CarriesOut turned NoCall action before start answer after held now
        → CarriesOut turned prompted action before (key_state turned prompted start.conn start.desk prompter start.ends.keys start.ends.dice) answer after held
        (key_state turned prompted now.conn now.desk prompter now.ends.keys now.ends.dice)
    carries_beside {prompter} done =
        carries_in turned (DoesAtKeys NoCall) turned (DoesAtKeys prompted) (λ same. same) (λ none. record { prompter = prompter; keys = none.keys; dice = none.dice }) (λ before after step turn does. does)
        (none_at_keys prompter) done

    -- nor is a turn taken
    pub carries_beside_desk : {start now : KeyState NoTurn NoCall} {desk : D} {prompter : P} → CarriesOut NoTurn NoCall action before start answer after held now
        → CarriesOut turned prompted action before (key_state turned prompted start.conn desk prompter start.ends.keys start.ends.dice) answer after held
        (key_state turned prompted now.conn desk prompter now.ends.keys now.ends.dice)
    carries_beside_desk {desk} {prompter} done =
        carries_in NoTurn (DoesAtKeys NoCall) turned (DoesAtKeys prompted) (λ none. desk) (λ none. record { prompter = prompter; keys = none.keys; dice = none.dice }) (λ before after step turn never. absurd never)
        (none_at_keys prompter) done

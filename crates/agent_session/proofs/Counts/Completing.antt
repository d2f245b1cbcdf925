-- Whole sessions: each of their exchanges is caused, and where no count of faults rose each request is answered.
use Rattle.std.{specs.{List.AllByRecursion, Prelude.⊤}, proofs.Common.{◌≡◌, ◌≤◌, true, List, refl, arith, ◌⊎◌, ℕ, inl, inr}}
use Rattle.agent_ask.specs.{Doing.{DoesCall, called, out_of_memory}, Events.{Call, PromptEvent, Called}}
use Rattle.agent_ask.specs.{Session.PortCalls.{PortCall, PortEnds, KeyCall, Read, Listed, Replaced, Removed, Draw, Drew, NotDrawn, Prompt, Keys, Dice, Trust, DoesPort, DoesKeys, DoesDraw}, Prompters.{AtPrompter, IsCall, is_failed}}
use Rattle.{agent_ask.specs.Session.{SessionEvents.Port, TrustCalls.{TrustCall, DoesTrust}, Worlds.{Outside, Does}}, agent_ports.specs.{Counts.Rose, KeyFiles.KeyFiles, Leads.{Leads, none, one}, Sides.Side, TrustFiles.TrustState}}
use Rattle.{assuan_server.specs.Reading.Supply, cache_policy.specs.{declared.mark.MarkStep.MarkStep, Turns.Turn}, agent_commands.specs.Events.EventWith, agent_origin.specs.PortStates.PortWorld}
use Rattle.agent_session.{specs.{Causes.{Has, here, later, FailsAtKeys, FailsAtTrust, FailsAtKeysOrDice, HasOne, HasCall, HasTrustCall}, Completeness.FailuresRise}, proofs.{Causes.KeyExplained.NeverAbsent, Standing.each_has}}
use Rattle.agent_ask.specs.Session.PortCalls as ported
use Rattle.agent_ask.specs.Session.TrustCalls as trust_call
use Rattle.agent_ask.specs.Session.Worlds as worlds
use Rattle.agent_ports.specs.declared.keys.KeyDone.TheVariants as key_done
use Rattle.agent_ports.specs.declared.keys.KeyNames.TheVariants as key_names
use Rattle.agent_ports.specs.declared.keys.KeyRead.TheVariants as key_read
use Rattle.agent_ports.specs.declared.trust.TrustDone.TheVariants as trust_done
use Rattle.agent_ports.specs.declared.trust.TrustRead.TheVariants as trust_read
use Rattle.agent_session.specs.Causes as causes

-- ---- what no event of a session is

-- an answer of the keys that there may be: a file that is replaced needn't be there
abbrev pub IsPossible : EventWith PortCall → Type 0
IsPossible (Port (Keys (Replaced grip file key_done.Absent))) = ⊥
IsPossible _ = ⊤

pub never_absent : {events : List (EventWith PortCall)} → AllByRecursion IsPossible events → NeverAbsent events
never_absent {events} each grip file has = each_has IsPossible events each has

-- an event in which neither the prompter nor the keys nor the dice nor the trust file failed
abbrev pub IsSteady : EventWith PortCall → Type 0
IsSteady (Port (Prompt (Called call))) = ¬ (is_failed call ≡ true)
IsSteady (Port (Keys call)) = ¬ FailsAtKeys call
IsSteady (Port (Dice (NotDrawn count))) = ⊥
IsSteady (Port (Trust call)) = ¬ FailsAtTrust call
IsSteady _ = ⊤

-- the event is a call of the trust file that failed
abbrev FailsAtTrustFile : EventWith PortCall → Type 0
FailsAtTrustFile (Port (Trust call)) = FailsAtTrust call
FailsAtTrustFile _ = ⊥

-- the event is a call of the prompter that failed
abbrev FailsAtPrompter : EventWith PortCall → Type 0
FailsAtPrompter (Port (Prompt (Called call))) = is_failed call ≡ true
FailsAtPrompter _ = ⊥

first_rose : (before mid after : ℕ) → Rose before mid → mid ≤ after → Rose before after
first_rose before mid after rose stays = omega (arith, rose, stays)

last_rose : (before mid after : ℕ) → before ≤ mid → Rose mid after → Rose before after
last_rose before mid after stays rose = omega (arith, stays, rose)

-- the counts of the keys and of the dice, and what a call that fails does to them
keys_move : (before after : KeyFiles) (call : KeyCall) → DoesKeys before call after → before.faults ≤ after.faults
keys_move before after (Read grip answer) does = does.leaves.never_falls
keys_move before after (Listed answer) does = does.leaves.never_falls
keys_move before after (Replaced grip file answer) does = does.changes.never_falls
keys_move before after (Removed grip answer) does = does.changes.never_falls

pub keys_rise : (before after : KeyFiles) (call : KeyCall) → DoesKeys before call after → FailsAtKeys call → Rose before.faults after.faults
keys_rise before after (Read grip key_read.Failed) does fails = does.failed refl
keys_rise before after (Listed key_names.Failed) does fails = does.failed refl
keys_rise before after (Replaced grip file key_done.Failed) does fails = does.changes.failed refl
keys_rise before after (Removed grip key_done.Failed) does fails = does.changes.failed refl
keys_rise before after _ does fails = absurd fails

keys_possible : (before after : KeyFiles) (call : KeyCall) → DoesKeys before call after → IsPossible (Port (Keys call))
keys_possible before after (Replaced grip file key_done.Absent) does = does.not_absent refl
keys_possible before after _ does = tt

draw_moves : (before after : Side) (draw : Draw) → DoesDraw before draw after → before.faults ≤ after.faults
draw_moves before after (Drew bytes) does = does.never_falls
draw_moves before after (NotDrawn count) does = does.never_falls

-- a call of the trust file that failed raised its count
trust_moves : (before after : TrustState) (call : TrustCall) → DoesTrust before call after → before.faults ≤ after.faults
trust_moves before after (trust_call.Read answer) does = does.never_falls
trust_moves before after (trust_call.Replaced file answer) does = does.never_falls

pub trust_rises : (before after : TrustState) (call : TrustCall) → DoesTrust before call after → FailsAtTrust call → Rose before.faults after.faults
trust_rises before after (trust_call.Read trust_read.Failed) does fails = does.failed refl
trust_rises before after (trust_call.Replaced file trust_done.Failed) does fails = does.failed refl
trust_rises before after _ does fails = absurd fails

module _ {D P : Type 0} (turned : D → MarkStep → Turn → D → Type 0) (prompted : P → Call → P → Type 0) (at : P → AtPrompter)
    (promise : (before : P) (call : Call) (after : P) → prompted before call after → IsCall (at before) call (at after)) where
  abbrev DoesHere : Supply → Outside (PortWorld turned prompted) → EventWith PortCall → Outside (PortWorld turned prompted) → Type 0
  DoesHere = Does (PortWorld turned prompted)

  -- the counts don't fall
  pub record Moves (before after : PortEnds P) : Type 0 where
    pub prompter : (at before.prompter).faults ≤ (at after.prompter).faults
    pub keys : before.keys.faults ≤ after.keys.faults
    pub dice : before.dice.faults ≤ after.dice.faults
    pub trust : before.trust.faults ≤ after.trust.faults

  -- and none of them has risen
  pub record StandStill (before after : PortEnds P) : Type 0 where
    pub prompter : ¬ Rose (at before.prompter).faults (at after.prompter).faults
    pub keys : ¬ Rose before.keys.faults after.keys.faults
    pub dice : ¬ Rose before.dice.faults after.dice.faults
    pub trust : ¬ Rose before.trust.faults after.trust.faults

  moves_none : (ends : PortEnds P) → Moves ends ends
  moves_none ends = record { prompter = omega arith; keys = omega arith; dice = omega arith; trust = omega arith }

  call_moves : {before after : P} {event : PromptEvent} → DoesCall prompted before event after → (at before).faults ≤ (at after).faults
  call_moves {before} {after} (called {call} does) = (promise before call after does).faults
  call_moves out_of_memory = omega arith

  port_moves : {before after : PortEnds P} {what : PortCall} → DoesPort prompted before what after → Moves before after
  port_moves (ported.prompt does) = record { prompter = call_moves does; keys = omega arith; dice = omega arith; trust = omega arith }
  port_moves {before} (ported.keys {call} {files} does) = record { prompter = omega arith; keys = keys_move before.keys files call does; dice = omega arith; trust = omega arith }
  port_moves {before} (ported.dice {draw} {side} does) = record { prompter = omega arith; keys = omega arith; dice = draw_moves before.dice side draw does; trust = omega arith }
  port_moves {before} (ported.trust {call} {file} does) = record { prompter = omega arith; keys = omega arith; dice = omega arith; trust = trust_moves before.trust file call does }
  port_moves ported.no_memory = moves_none _

  call_steady : {before after : P} {event : PromptEvent} → DoesCall prompted before event after → ¬ Rose (at before).faults (at after).faults → IsSteady (Port (Prompt event))
  call_steady {before} {after} (called {call} does) still = λ fails. still ((promise before call after does).rose fails)
  call_steady out_of_memory still = tt

  draw_steady : (before after : Side) (draw : Draw) → DoesDraw before draw after → ¬ Rose before.faults after.faults → IsSteady (Port (Dice draw))
  draw_steady before after (Drew bytes) does still = tt
  draw_steady before after (NotDrawn count) does still = still does.failed

  port_steady : {before after : PortEnds P} {what : PortCall} → DoesPort prompted before what after → StandStill before after → IsSteady (Port what)
  port_steady (ported.prompt does) still = call_steady does still.prompter
  port_steady {before} (ported.keys {call} {files} does) still = λ fails. still.keys (keys_rise before.keys files call does fails)
  port_steady {before} (ported.dice {draw} {side} does) still = draw_steady before.dice side draw does still.dice
  port_steady {before} (ported.trust {call} {file} does) still = λ fails. still.trust (trust_rises before.trust file call does fails)
  port_steady ported.no_memory still = tt

  port_possible : {before after : PortEnds P} {what : PortCall} → DoesPort prompted before what after → IsPossible (Port what)
  port_possible (ported.prompt does) = tt
  port_possible {before} (ported.keys {call} {files} does) = keys_possible before.keys files call does
  port_possible (ported.dice does) = tt
  port_possible (ported.trust does) = tt
  port_possible ported.no_memory = tt

  call_rises : {before after : P} {event : PromptEvent} → DoesCall prompted before event after → FailsAtPrompter (Port (Prompt event)) → Rose (at before).faults (at after).faults
  call_rises {before} {after} (called {call} does) fails = (promise before call after does).rose fails
  call_rises out_of_memory fails = absurd fails

  module _ {supply : Supply} where
    pub event_moves : {before after : Outside (PortWorld turned prompted)} {event : EventWith PortCall} → DoesHere supply before event after → Moves before.ends after.ends
    event_moves (worlds.ported does) = port_moves does
    event_moves _ = moves_none _

    event_steady : {before after : Outside (PortWorld turned prompted)} {event : EventWith PortCall} → DoesHere supply before event after → StandStill before.ends after.ends → IsSteady event
    event_steady (worlds.ported does) still = port_steady does still
    event_steady _ still = tt

    event_possible : {before after : Outside (PortWorld turned prompted)} {event : EventWith PortCall} → DoesHere supply before event after → IsPossible event
    event_possible (worlds.ported does) = port_possible does
    event_possible _ = tt

    all_move : {before after : Outside (PortWorld turned prompted)} {events : List (EventWith PortCall)} → Leads (DoesHere supply) before events after → Moves before.ends after.ends
    all_move none = moves_none _
    all_move (one does rest_of) =
        let first = event_moves does in let rest = all_move rest_of in
        record { prompter = omega (arith, first.prompter, rest.prompter); keys = omega (arith, first.keys, rest.keys); dice = omega (arith, first.dice, rest.dice); trust = omega (arith, first.trust, rest.trust) }

    pub all_steady : {before after : Outside (PortWorld turned prompted)} {events : List (EventWith PortCall)} → Leads (DoesHere supply) before events after → StandStill before.ends after.ends
        → AllByRecursion IsSteady events
    all_steady none still = tt
    all_steady {before} {after} (one {mid} does rest_of) still =
        let first = event_moves does in let rest = all_move rest_of in
        let now : StandStill before.ends mid.ends = record {
          prompter = λ rose. still.prompter (omega (arith, rose, rest.prompter));
          keys = λ rose. still.keys (omega (arith, rose, rest.keys));
          dice = λ rose. still.dice (omega (arith, rose, rest.dice));
          trust = λ rose. still.trust (omega (arith, rose, rest.trust));
        } in
        let then : StandStill mid.ends after.ends = record {
          prompter = λ rose. still.prompter (omega (arith, rose, first.prompter));
          keys = λ rose. still.keys (omega (arith, rose, first.keys));
          dice = λ rose. still.dice (omega (arith, rose, first.dice));
          trust = λ rose. still.trust (omega (arith, rose, first.trust));
        } in
        (event_steady does now, all_steady rest_of then)

    pub all_possible : {before after : Outside (PortWorld turned prompted)} {events : List (EventWith PortCall)} → Leads (DoesHere supply) before events after → AllByRecursion IsPossible events
    all_possible none = tt
    all_possible (one does rest_of) = (event_possible does, all_possible rest_of)

    -- ---- a failure raises its count

    event_rises : {before after : Outside (PortWorld turned prompted)} {event : EventWith PortCall} → DoesHere supply before event after → FailsAtKeysOrDice event
        → Rose before.ends.keys.faults after.ends.keys.faults ⊎ Rose before.ends.dice.faults after.ends.dice.faults
    event_rises (worlds.received known needed) fails = absurd fails
    event_rises worlds.sent fails = absurd fails
    event_rises worlds.cut fails = absurd fails
    event_rises (worlds.asked known needed) fails = absurd fails
    event_rises (worlds.not_asked unsent split) fails = absurd fails
    event_rises (worlds.turned does) fails = absurd fails
    event_rises (worlds.ported (ported.prompt does)) fails = absurd fails
    event_rises {before} (worlds.ported (ported.keys {call} {files} does)) fails = inl (keys_rise before.ends.keys files call does fails)
    event_rises (worlds.ported (ported.dice {draw = Drew bytes} does)) fails = absurd fails
    event_rises (worlds.ported (ported.dice {draw = NotDrawn count} does)) fails = inr does.failed
    event_rises (worlds.ported (ported.trust does)) fails = absurd fails
    event_rises (worlds.ported ported.no_memory) fails = absurd fails

    prompter_rises : {before after : Outside (PortWorld turned prompted)} {event : EventWith PortCall} → DoesHere supply before event after → FailsAtPrompter event
        → Rose (at before.ends.prompter).faults (at after.ends.prompter).faults
    prompter_rises (worlds.ported (ported.prompt does)) fails = call_rises does fails
    prompter_rises _ fails = absurd fails

    trust_event_rises : {before after : Outside (PortWorld turned prompted)} {event : EventWith PortCall} → DoesHere supply before event after → FailsAtTrustFile event
        → Rose before.ends.trust.faults after.ends.trust.faults
    trust_event_rises (worlds.received known needed) fails = absurd fails
    trust_event_rises worlds.sent fails = absurd fails
    trust_event_rises worlds.cut fails = absurd fails
    trust_event_rises (worlds.asked known needed) fails = absurd fails
    trust_event_rises (worlds.not_asked unsent split) fails = absurd fails
    trust_event_rises (worlds.turned does) fails = absurd fails
    trust_event_rises (worlds.ported (ported.prompt does)) fails = absurd fails
    trust_event_rises (worlds.ported (ported.keys does)) fails = absurd fails
    trust_event_rises (worlds.ported (ported.dice does)) fails = absurd fails
    trust_event_rises {before} (worlds.ported (ported.trust {call} {file} does)) fails = trust_rises before.ends.trust file call does fails
    trust_event_rises (worlds.ported ported.no_memory) fails = absurd fails

    all_rise : {before after : Outside (PortWorld turned prompted)} {events : List (EventWith PortCall)} {event : EventWith PortCall} → Leads (DoesHere supply) before events after → Has event events
        → FailsAtKeysOrDice event → Rose before.ends.keys.faults after.ends.keys.faults ⊎ Rose before.ends.dice.faults after.ends.dice.faults
    all_rise none has fails = elim has [ ]
    all_rise (one does rest) here fails = elim (event_rises does fails) [ inl keys ↦ inl (first_rose _ _ _ keys (all_move rest).keys) | inr dice ↦ inr (first_rose _ _ _ dice (all_move rest).dice) ]
    all_rise (one does rest) (later has) fails = elim (all_rise rest has fails) [ inl keys ↦ inl (last_rose _ _ _ (event_moves does).keys keys) | inr dice ↦ inr (last_rose _ _ _ (event_moves does).dice dice) ]

    all_prompts_rise : {before after : Outside (PortWorld turned prompted)} {events : List (EventWith PortCall)} {event : EventWith PortCall} → Leads (DoesHere supply) before events after → Has event events
        → FailsAtPrompter event → Rose (at before.ends.prompter).faults (at after.ends.prompter).faults
    all_prompts_rise none has fails = elim has [ ]
    all_prompts_rise (one does rest) here fails = first_rose _ _ _ (prompter_rises does fails) (all_move rest).prompter
    all_prompts_rise (one does rest) (later has) fails = last_rose _ _ _ (event_moves does).prompter (all_prompts_rise rest has fails)

    all_trust_rise : {before after : Outside (PortWorld turned prompted)} {events : List (EventWith PortCall)} {event : EventWith PortCall} → Leads (DoesHere supply) before events after → Has event events
        → FailsAtTrustFile event → Rose before.ends.trust.faults after.ends.trust.faults
    all_trust_rise none has fails = elim has [ ]
    all_trust_rise (one does rest) here fails = first_rose _ _ _ (trust_event_rises does fails) (all_move rest).trust
    all_trust_rise (one does rest) (later has) fails = last_rose _ _ _ (event_moves does).trust (all_trust_rise rest has fails)

    has_risen : {before after : Outside (PortWorld turned prompted)} {events : List (EventWith PortCall)} → Leads (DoesHere supply) before events after → HasOne events FailsAtKeysOrDice
        → Rose before.ends.keys.faults after.ends.keys.faults ⊎ Rose before.ends.dice.faults after.ends.dice.faults
    has_risen leads (causes.one event fails has) = all_rise leads has fails

    has_prompt_risen : {before after : Outside (PortWorld turned prompted)} {events : List (EventWith PortCall)} → Leads (DoesHere supply) before events after → HasCall events is_failed
        → Rose (at before.ends.prompter).faults (at after.ends.prompter).faults
    has_prompt_risen leads (causes.called call fails has) = all_prompts_rise leads has fails

    has_trust_risen : {before after : Outside (PortWorld turned prompted)} {events : List (EventWith PortCall)} → Leads (DoesHere supply) before events after → HasTrustCall events FailsAtTrust
        → Rose before.ends.trust.faults after.ends.trust.faults
    has_trust_risen leads (causes.called_trust call fails has) = all_trust_rise leads has fails

    pub failures_rise : {before after : Outside (PortWorld turned prompted)} {events : List (EventWith PortCall)} → Leads (DoesHere supply) before events after
        → FailuresRise at events before.ends after.ends
    failures_rise leads = record { keys_or_dice = has_risen leads; prompter = has_prompt_risen leads; trust = has_trust_risen leads }

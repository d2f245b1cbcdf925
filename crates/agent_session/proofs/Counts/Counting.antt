-- At most as many events fail on an end as its count rises by.
use Rattle.std.{proofs.{Common.{◌≡◌, ◌≤◌, ℕ, Bool, cond, true, false, List, ◌∷◌, length, refl, sym, arith}, lemmas.List.Sums.length-filter}, specs.List.{count_by, filter}}
use Rattle.agent_ask.specs.{Doing.{DoesCall, called, out_of_memory}, Events.{Call, PromptEvent}, Session.PortCalls.{KeyCall, Read, Listed, Replaced, Removed, Draw, Drew, NotDrawn, Prompt, Keys, Dice, Trust, DoesDraw}}
use Rattle.{agent_ask.specs.{Prompters.{AtPrompter, IsCall}, Session.{SessionEvents.Port, TrustCalls.TrustCall, Worlds.{Outside, Does}}}, agent_ports.specs.{Counts.{RoseBy, Rose}, Leads.{Leads, none, one}, Sides.Side}}
use Rattle.{assuan_server.specs.Reading.Supply, cache_policy.specs.{declared.mark.MarkStep.MarkStep, Turns.Turn}, key_commands.specs.Events.Event, agent_origin.specs.PortStates.PortWorld}
use Rattle.agent_session.{specs.{Causes.{FailsAtKeys, FailsAtTrust}, Counting.{fails_at_prompter, fails_at_keys, fails_at_dice, fails_at_trust, CountsFailures}}, proofs.Counts.Completing.{keys_rise, trust_rises, event_moves}}
use Rattle.agent_ask.specs.Session.PortCalls as ported
use Rattle.agent_ask.specs.Session.TrustCalls as trust_call
use Rattle.agent_ask.specs.Session.Worlds as worlds
use Rattle.agent_ports.specs.declared.keys.KeyDone.TheVariants as key_done
use Rattle.agent_ports.specs.declared.keys.KeyNames.TheVariants as key_names
use Rattle.agent_ports.specs.declared.keys.KeyRead.TheVariants as key_read
use Rattle.agent_ports.specs.declared.trust.TrustDone.TheVariants as trust_done
use Rattle.agent_ports.specs.declared.trust.TrustRead.TheVariants as trust_read

-- one more event, which failed, or didn't
counted : {E : Type 0} (failed : Bool) (event : E) (more : List E) (before mid after : ℕ) → (failed ≡ true → Rose before mid) → before ≤ mid → RoseBy (length more) mid after
    → RoseBy (length (cond failed (event ∷ more) more)) before after
counted true event more before mid after rose moves later = let first = rose refl in omega (arith, first, later)
counted false event more before mid after rose moves later = omega (arith, moves, later)

-- events, each of which leaves a count or raises it, and raises it where it failed
module _ {S E : Type 0} (does : S → E → S → Type 0) (failed : E → Bool) (count : S → ℕ) (moves : (before : S) (event : E) (after : S) → does before event after → count before ≤ count after)
    (rises : (before : S) (event : E) (after : S) → does before event after → failed event ≡ true → Rose (count before) (count after)) where
  all_counted : (before after : S) (events : List E) → Leads does before events after → RoseBy (length (filter failed events)) (count before) (count after)
  all_counted before after events none = omega arith
  all_counted before after events (one {mid} {event} {more} first later) =
      counted (failed event) event (filter failed more) (count before) (count mid) (count after) (rises before event mid first) (moves before event mid first) (all_counted mid after more later)

  failures_counted : (before after : S) (events : List E) → Leads does before events after → RoseBy (count_by failed events) (count before) (count after)
  failures_counted before after events leads = rw (sym (length-filter failed events)) (all_counted before after events leads)

keys_failed : (call : KeyCall) → fails_at_keys (Port (Keys call)) ≡ true → FailsAtKeys call
keys_failed (Read grip key_read.Failed) is = tt
keys_failed (Listed key_names.Failed) is = tt
keys_failed (Replaced grip file key_done.Failed) is = tt
keys_failed (Removed grip key_done.Failed) is = tt
keys_failed _ is = absurd (cc is)

trust_failed : (call : TrustCall) → fails_at_trust (Port (Trust call)) ≡ true → FailsAtTrust call
trust_failed (trust_call.Read trust_read.Failed) is = tt
trust_failed (trust_call.Replaced file trust_done.Failed) is = tt
trust_failed _ is = absurd (cc is)

draw_failed : (before after : Side) (draw : Draw) → DoesDraw before draw after → fails_at_dice (Port (Dice draw)) ≡ true → Rose before.faults after.faults
draw_failed before after (Drew bytes) does is = absurd (cc is)
draw_failed before after (NotDrawn count) does is = does.failed

never : {A : Type 0} → false ≡ true → A
never is = absurd (cc is)

module _ {D P : Type 0} (turned : D → MarkStep → Turn → D → Type 0) (prompted : P → Call → P → Type 0) (at : P → AtPrompter)
    (promise : (before : P) (call : Call) (after : P) → prompted before call after → IsCall (at before) call (at after)) where
  call_failed : {before after : P} {event : PromptEvent} → DoesCall prompted before event after → fails_at_prompter (Port (Prompt event)) ≡ true → Rose (at before).faults (at after).faults
  call_failed {before} {after} (called {call} does) is = (promise before call after does).rose is
  call_failed out_of_memory is = absurd (cc is)

  abbrev DoesHere : Supply → Outside (PortWorld turned prompted) → Event → Outside (PortWorld turned prompted) → Type 0
  DoesHere = Does (PortWorld turned prompted)

  -- where it failed at one of the ends, that one's count rises
  record Rises (before : Outside (PortWorld turned prompted)) (event : Event) (after : Outside (PortWorld turned prompted)) : Type 0 where
    prompter : fails_at_prompter event ≡ true → Rose (at before.ends.prompter).faults (at after.ends.prompter).faults
    keys : fails_at_keys event ≡ true → Rose before.ends.keys.faults after.ends.keys.faults
    dice : fails_at_dice event ≡ true → Rose before.ends.dice.faults after.ends.dice.faults
    trust : fails_at_trust event ≡ true → Rose before.ends.trust.faults after.ends.trust.faults

  module _ {supply : Supply} where
    rises : (before : Outside (PortWorld turned prompted)) (event : Event) (after : Outside (PortWorld turned prompted)) → DoesHere supply before event after → Rises before event after
    rises before event after (worlds.ported (ported.prompt does)) = record { prompter = λ is. call_failed does is; keys = never; dice = never; trust = never }
    rises before event after (worlds.ported (ported.keys {call} {files} does)) = record { prompter = never; keys = λ is. keys_rise before.ends.keys files call does (keys_failed call is); dice = never; trust = never }
    rises before event after (worlds.ported (ported.dice {draw} {side} does)) = record { prompter = never; keys = never; dice = λ is. draw_failed before.ends.dice side draw does is; trust = never }
    rises before event after (worlds.ported (ported.trust {call} {file} does)) = record { prompter = never; keys = never; dice = never; trust = λ is. trust_rises before.ends.trust file call does (trust_failed call is) }
    rises before event after (worlds.ported ported.no_memory) = record { prompter = never; keys = never; dice = never; trust = never }
    rises before event after (worlds.received known needed) = record { prompter = never; keys = never; dice = never; trust = never }
    rises before event after worlds.sent = record { prompter = never; keys = never; dice = never; trust = never }
    rises before event after worlds.cut = record { prompter = never; keys = never; dice = never; trust = never }
    rises before event after (worlds.asked known needed) = record { prompter = never; keys = never; dice = never; trust = never }
    rises before event after (worlds.not_asked unsent split) = record { prompter = never; keys = never; dice = never; trust = never }
    rises before event after (worlds.turned does) = record { prompter = never; keys = never; dice = never; trust = never }

    pub counts_failures : (before after : Outside (PortWorld turned prompted)) (events : List Event) → Leads (DoesHere supply) before events after → CountsFailures at events before.ends after.ends
    counts_failures before after events leads = record {
      prompter = failures_counted (DoesHere supply) fails_at_prompter (λ out. (at out.ends.prompter).faults)
          (λ b e a does. (event_moves turned prompted at promise does).prompter) (λ b e a does. (rises b e a does).prompter) before after events leads;
      keys = failures_counted (DoesHere supply) fails_at_keys (λ out. out.ends.keys.faults)
          (λ b e a does. (event_moves turned prompted at promise does).keys) (λ b e a does. (rises b e a does).keys) before after events leads;
      dice = failures_counted (DoesHere supply) fails_at_dice (λ out. out.ends.dice.faults)
          (λ b e a does. (event_moves turned prompted at promise does).dice) (λ b e a does. (rises b e a does).dice) before after events leads;
      trust = failures_counted (DoesHere supply) fails_at_trust (λ out. out.ends.trust.faults)
          (λ b e a does. (event_moves turned prompted at promise does).trust) (λ b e a does. (rises b e a does).trust) before after events leads;
    }

-- Each kind of step is replied by the policy, and the core then stands for the history with its mark.
use Rattle.std.{specs.{Prelude.{◌≡◌, ℕ, List, [], ◌∷◌, Bool, true, false, ◌||◌, Option, Some, None, IsSome, refl, cond}, Option.{option_and_then, is_some}}, proofs.Common.{ap, sym, ◌∙◌, subst, arith}}
use Rattle.{agent_ports.specs.declared.session.SessionId.SessionId, cache_policy.specs.declared.{mode.Mode.Mode, life.{Life.{Life, TheVariants.Default}, Limits.Limits}, mark.{Under.Under, Way.{Way, TheVariants.{Quiet, Prompt}}, Mark.Mark}}}
use Rattle.cache_policy.specs.{declared.{mark.MarkStep.MarkStep, entry.Entry.Entry, grant.Grant.Grant, history.Held.Held, wait.Wait.Wait}, Lifetimes.{ttl_of, max_of, is_zero}, Histories.{History, next_number, with_mark}}
use Rattle.cache_policy.specs.{Entries.{entry_of, kept_under, kept, stored}, Seat.{under_of, is_open, is_stop, unless_given_back, seat, stopped}, Live.{takes_away, gives, live}, Policy.{Reply, policy, prompt_ruling, ask_ruling}}
use Rattle.cache_policy.specs.{Runs.{next_history, is_spent}, Legal.IsLegal, Turns.{Turn, Given, Empty, Open, Stand, Done, Held as WhetherHeld, Stopping, Late, Refused, since_when}, Waits.is_late}
use Rattle.{cache_policy.proofs.OneMore.{stopped_with_mark, seat_with_mark}, cache_book.specs.{declared.slot.Slot.Slot, Slots.slots, Shelves.{touched, cleared, IsGrantFrom, ServesNone}}}
use Rattle.cache_book.proofs.{Marking.{slots_same, slots_flushed, slots_cleared}, Storing.{slots_given, slots_stored}, Live.{IsLiveGrant, grant_is_live, none_live, live_is_live, grant_swept, none_swept}}
use Rattle.agent_core.specs.{declared.state.State.State, States.{seen, held_of, IsState}, Taking.{held_at, since_at, HasMarked, HasMarkedAlone, HasMoreRoom, Finds, Prompts, Puts, Closes, with_stored, next_slots, number_of, slots_at}}
use Rattle.agent_core.{specs.Cores.{StandsFor, mark_of, WantsMemory, IsAsBefore, IsStep, marked, stood, refused}, proofs.Standing.{IsReady, slots_at_ready, stands_then, seat_kept, stopped_kept}}
use Rattle.cache_policy.specs.declared.mark.MarkStep.TheVariants as asked
use Rattle.cache_policy.specs.declared.mark.MarkReply.TheVariants as reply
use Rattle.cache_policy.specs.Policy as ruling

-- a step that is taken: the state before and after, whose it is, on which history, and at which moment
pub record IsTaken (before after : State) (history : History) (moment : ℕ) : Type 0 where
  pub ready : IsReady before history moment
  pub state : IsState after
  pub going : is_spent (next_history history) ≡ false

-- what is live for a request
pub live_found : (before : State) (history : History) (moment : ℕ) (id : List ℕ) (mode : Mode) (grant : Grant) → IsReady before history moment
    → IsGrantFrom (next_slots before) id mode moment grant → IsLiveGrant before.limits (next_history history) id mode moment grant
live_found before history moment id mode grant is from =
    grant_is_live before.limits (next_history history) id mode moment grant
    (subst (λ (list : List Slot). IsGrantFrom list id mode moment grant) (slots_at_ready before history moment is) (grant_swept (next_slots before) id mode moment grant from))

pub live_none : (before : State) (history : History) (moment : ℕ) (id : List ℕ) (mode : Mode) → IsReady before history moment
    → ServesNone (next_slots before) id mode moment → live before.limits (next_history history) id mode moment ≡ None
live_none before history moment id mode is none =
    none_live before.limits (next_history history) id mode moment
    (subst (λ (list : List Slot). ServesNone list id mode moment) (slots_at_ready before history moment is) (none_swept (next_slots before) id mode moment none))

-- a mark that leaves all slots, seat and 'stopped'
record IsAlone (limits : Limits) (next : History) (mark : Mark) : Type 0 where
  pub none : stored limits next mark.step mark.moment ≡ []
  pub keeps : (entry : Entry) → takes_away entry mark.step ≡ false
  pub unused : (number : ℕ) → gives number mark.reply ≡ false
  pub shut : is_open mark.reply ≡ false
  pub held : (held : Held) → unless_given_back mark.step held ≡ Some held
  pub no_stop : is_stop mark.step ≡ false

alone : (before after : State) (history : History) (mark : Mark) → IsTaken before after history mark.moment → HasMarkedAlone before mark.moment after
    → IsAlone before.limits (next_history history) mark → StandsFor (seen after) (with_mark (next_history history) mark)
alone before after history mark is marks lone =
    stands_then before after history mark (slots_at before mark.moment) (held_at before) before.stopped is.ready marks is.state (record {
      slots_are = slots_at_ready before history mark.moment is.ready
          ∙ sym (slots_same before.limits (next_history history) mark mark.moment lone.none lone.keeps lone.unused);
      seat_is = seat_kept before history mark is.ready lone.shut lone.held;
      stopped_is = stopped_kept before history mark is.ready lone.no_stop;
    })

-- a step that wants a ticket for a passphrase that is kept under this, and was first tried then
pub record IsWish (limits : Limits) (next : History) (step_of : MarkStep) (moment : ℕ) (since : Option ℕ) (under : Option Under) : Type 0 where
  pub rules : policy limits next step_of moment ≡ prompt_ruling (stopped next) (seat next) (is_late since moment)
  pub since_is : since_when step_of moment ≡ since_at since moment
  pub under_is : under_of step_of ≡ under
  pub none : stored limits next step_of moment ≡ []
  pub keeps : (entry : Entry) → takes_away entry step_of ≡ false
  pub held : (held : Held) → unless_given_back step_of held ≡ Some held
  pub no_stop : is_stop step_of ≡ false
  pub wants : IsSome under → policy limits next step_of moment ≡ Reply reply.Open → WantsMemory limits next step_of moment

number_is : (before : State) (history : History) (moment : ℕ) → IsReady before history moment → number_of before ≡ next_number (next_history history)
number_is before history moment is = omega (arith, is.next.base_is, is.next.count_is)

pub as_before : (before after : State) → HasMoreRoom before after → IsAsBefore (seen before) (seen after)
as_before before after more = record {
  same = ap seen more.same ∙ ap (λ (list : List Slot). record (seen before) { slots = list; spare = after.shelf.spare }) more.slots;
  room = more.spare;
}

-- what the policy says of it, by what the state has
wish_rules : (before after : State) (history : History) (moment : ℕ) (step_of : MarkStep) (since : Option ℕ) (under : Option Under)
    → IsTaken before after history moment → IsWish before.limits (next_history history) step_of moment since under
    → (stops : Bool) (holder : Option ℕ) (late : Bool) → before.stopped ≡ stops → before.seat ≡ holder → is_late since moment ≡ late
    → policy before.limits (next_history history) step_of moment ≡ prompt_ruling stops (held_of holder before.under) late
wish_rules before after history moment step_of since under is wish stops holder late stops_is holder_is late_is =
    wish.rules
    ∙ (ap (λ b. prompt_ruling b (seat (next_history history)) (is_late since moment)) (sym is.ready.next.stopped_is ∙ stops_is)
    ∙ (ap (λ h. prompt_ruling stops h (is_late since moment)) (sym is.ready.next.seat_is ∙ ap (λ (o : Option ℕ). held_of o before.under) holder_is)
    ∙ ap (prompt_ruling stops (held_of holder before.under)) late_is))

held_stands : (holder : Option ℕ) (under : Option Under) → IsSome holder → prompt_ruling false (held_of holder under) false ≡ ruling.Stand
held_stands None under some = cc
held_stands (Some ticket) under some = refl

held_late : (holder : Option ℕ) (under : Option Under) → IsSome holder → prompt_ruling false (held_of holder under) true ≡ Reply reply.Late
held_late None under some = cc
held_late (Some ticket) under some = refl

pub prompts_step : (before after : State) (history : History) (session : SessionId) (moment : ℕ) (step_of : MarkStep) (since : Option ℕ) (under : Option Under) (turn : Turn)
    → IsTaken before after history moment → IsWish before.limits (next_history history) step_of moment since under → Prompts before moment session since under turn after
    → IsStep (seen before) history session moment step_of turn (seen after)
prompts_step before after history session moment step_of since under Stopping is wish does =
    marked is.going (record {
      reply_is = reply.Stopping;
      rules = wish_rules before after history moment step_of since under is wish true before.seat (is_late since moment) does.0 refl refl;
      shows = refl;
      stands = alone before after history (mark_of session step_of reply.Stopping moment) is does.1
          (record { none = wish.none; keeps = wish.keeps; unused = λ n. refl; shut = refl; held = wish.held; no_stop = wish.no_stop });
    })
prompts_step before after history session moment step_of since under Late is wish does =
    marked is.going (record {
      reply_is = reply.Late;
      rules = wish_rules before after history moment step_of since under is wish false before.seat true does.0 refl does.2.0
          ∙ held_late before.seat before.under does.1;
      shows = refl;
      stands = alone before after history (mark_of session step_of reply.Late moment) is does.2.1
          (record { none = wish.none; keeps = wish.keeps; unused = λ n. refl; shut = refl; held = wish.held; no_stop = wish.no_stop });
    })
prompts_step before after history session moment step_of since under (Stand wait) is wish does =
    stood is.going
    (wish_rules before after history moment step_of since under is wish false before.seat false does.0 refl does.2.0
    ∙ held_stands before.seat before.under does.1)
    (does.2.1 ∙ ap (λ (n : ℕ). let w : Wait = record { session = session; since = n } in w) (sym wish.since_is))
    (ap seen does.2.2)
prompts_step before after history session moment step_of since under (Open number) is wish does =
    marked is.going (record {
      reply_is = reply.Open;
      rules = wish_rules before after history moment step_of since under is wish false None (is_late since moment) does.0 does.1 refl;
      shows = (refl, does.2 ∙ number_is before history moment is.ready);
      stands = stands_then before after history mark (slots_at before moment) (Some (record { ticket = number; under = under })) before.stopped is.ready does.3 is.state (record {
        slots_are = slots_at_ready before history moment is.ready
            ∙ sym (slots_same before.limits (next_history history) mark moment wish.none wish.keeps (λ n. refl));
        seat_is = ap (λ (n : ℕ). Some (record { ticket = n; under = under })) (does.2 ∙ number_is before history moment is.ready)
            ∙ (ap (λ (u : Option Under). Some (record { ticket = next_number (next_history history); under = u })) (sym wish.under_is)
            ∙ sym (seat_with_mark (next_history history) mark));
        stopped_is = stopped_kept before history mark is.ready wish.no_stop;
      });
    })
  where
    mark : Mark
    mark = mark_of session step_of reply.Open moment
prompts_step before after history session moment step_of since under Refused is wish does =
    refused is.going
    (wish.wants does.2 (wish_rules before after history moment step_of since under is wish false None (is_late since moment) does.0 does.1 refl))
    (as_before before after does.3)
prompts_step before after history session moment step_of since under (Given grant) is wish does = absurd does.2
prompts_step before after history session moment step_of since under Empty is wish does = absurd does.2
prompts_step before after history session moment step_of since under Done is wish does = absurd does.2
prompts_step before after history session moment step_of since under (WhetherHeld held) is wish does = absurd does.2

-- an Ask that is given what is live
pub given_step : (before after : State) (history : History) (session : SessionId) (moment : ℕ) (id : List ℕ) (mode : Mode) (way : Way) (since : Option ℕ) (grant : Grant)
    → IsTaken before after history moment → IsGrantFrom (next_slots before) id mode moment grant
    → HasMarked before moment (touched grant.entry.number moment (slots_at before moment)) (held_at before) before.stopped after
    → IsStep (seen before) history session moment (asked.Ask id mode way since) (Given grant) (seen after)
given_step before after history session moment id mode way since grant is from marks =
    let found = live_found before history moment id mode grant is.ready from in
    marked is.going (record {
      reply_is = reply.Given grant.entry.number;
      rules = ap (λ (o : Option Entry). ask_ruling o way (stopped (next_history history)) (seat (next_history history)) (is_late since moment)) found.live_is;
      shows = (
        refl,
        subst (λ (i : List ℕ). live before.limits (next_history history) i grant.mode moment ≡ Some grant.entry) (sym found.id_is)
            (subst (λ (m : Mode). live before.limits (next_history history) id m moment ≡ Some grant.entry) (sym found.mode_is) found.live_is),
        found.last,
        found.moment_is,
      );
      stands = stands_then before after history mark (touched grant.entry.number moment (slots_at before moment)) (held_at before) before.stopped is.ready marks is.state (record {
        slots_are = ap (touched grant.entry.number moment) (slots_at_ready before history moment is.ready)
            ∙ sym (slots_given before.limits (next_history history) mark grant.entry.number refl (λ entry. refl) (λ other. refl)
            (λ entry known same. live_is_live before.limits (next_history history) id mode moment grant.entry entry found.live_is known same));
        seat_is = seat_kept before history mark is.ready refl (λ held. refl);
        stopped_is = stopped_kept before history mark is.ready refl;
      });
    })
  where
    mark : Mark
    mark = mark_of session (asked.Ask id mode way since) (reply.Given grant.entry.number) moment

-- what a mark stores is one entry of its own number and moment, or none
abbrev IsStorable : History → ℕ → List Entry → Type 0
IsStorable next moment [] = Unit {0}
IsStorable next moment (entry ∷ []) = (entry.number ≡ next_number next) × (entry.entered ≡ moment)
IsStorable next moment (entry ∷ other ∷ later) = ⊥

entry_storable : (limits : Limits) (next : History) (moment : ℕ) (id : List ℕ) (mode : Mode) (life : Life) (secret : List ℕ)
    → IsStorable next moment (entry_of limits (next_number next) moment id mode life secret)
entry_storable limits next moment id mode life secret =
    elim (is_zero (ttl_of limits mode life)) as (λ b. IsStorable next moment (cond b [] (record {
      number = next_number next;
      id = id;
      mode = mode;
      secret = secret;
      entered = moment;
      ttl = ttl_of limits mode life;
      max = max_of limits mode;
    } ∷ []))) [ true ↦ tt | false ↦ (refl, refl) ]

kept_storable : (limits : Limits) (next : History) (moment : ℕ) (under : Option Under) (keep : Option (List ℕ))
    → IsStorable next moment (kept limits (next_number next) moment under keep)
kept_storable limits next moment (Some under) (Some secret) = entry_storable limits next moment under.id under.mode Default secret
kept_storable limits next moment (Some under) None = tt
kept_storable limits next moment None keep = tt

-- the slots with what a mark stores
slots_with_stored : (limits : Limits) (next : History) (mark : Mark) (list : List Entry) → IsLegal limits next
    → stored limits next mark.step mark.moment ≡ list → IsStorable next mark.moment list
    → ((entry : Entry) → takes_away entry mark.step ≡ false) → ((number : ℕ) → gives number mark.reply ≡ false)
    → slots limits (with_mark next mark) mark.moment ≡ with_stored list (slots limits next mark.moment)
slots_with_stored limits next mark [] legal stored_is storable keeps unused = slots_same limits next mark mark.moment stored_is keeps unused
slots_with_stored limits next mark (entry ∷ []) legal stored_is storable keeps unused =
    slots_stored limits next mark entry (record { legal = legal; stored_is = stored_is; number = storable.0; entered = storable.1; keeps = keeps; unused = unused })
slots_with_stored limits next mark (entry ∷ other ∷ later) legal stored_is storable keeps unused = absurd storable

pub put_step : (before after : State) (history : History) (session : SessionId) (moment : ℕ) (id : List ℕ) (mode : Mode) (life : Life) (secret : List ℕ) (turn : Turn)
    → IsTaken before after history moment → Puts before moment id mode life secret turn after
    → IsStep (seen before) history session moment (asked.Put id mode life secret) turn (seen after)
put_step before after history session moment id mode life secret Done is does =
    marked is.going (record {
      reply_is = reply.Done;
      rules = refl;
      shows = refl;
      stands = stands_then before after history mark _ (held_at before) before.stopped is.ready does is.state (record {
        slots_are = ap (λ (n : ℕ). with_stored (entry_of before.limits n moment id mode life secret) (slots_at before moment)) (number_is before history moment is.ready)
            ∙ (ap (with_stored (entry_of before.limits (next_number (next_history history)) moment id mode life secret)) (slots_at_ready before history moment is.ready)
            ∙ sym (slots_with_stored before.limits (next_history history) mark (entry_of before.limits (next_number (next_history history)) moment id mode life secret)
            is.ready.next.legal refl (entry_storable before.limits (next_history history) moment id mode life secret) (λ entry. refl) (λ n. refl)));
        seat_is = seat_kept before history mark is.ready refl (λ held. refl);
        stopped_is = stopped_kept before history mark is.ready refl;
      });
    })
  where
    mark : Mark
    mark = mark_of session (asked.Put id mode life secret) reply.Done moment
put_step before after history session moment id mode life secret Refused is does = refused is.going tt (as_before before after does)
put_step before after history session moment id mode life secret (Given grant) is does = absurd does
put_step before after history session moment id mode life secret Empty is does = absurd does
put_step before after history session moment id mode life secret (Open number) is does = absurd does
put_step before after history session moment id mode life secret (Stand wait) is does = absurd does
put_step before after history session moment id mode life secret Late is does = absurd does
put_step before after history session moment id mode life secret (WhetherHeld held) is does = absurd does
put_step before after history session moment id mode life secret Stopping is does = absurd does

pub close_step : (before after : State) (history : History) (session : SessionId) (moment ticket : ℕ) (keep : Option (List ℕ))
    → IsTaken before after history moment → Closes before moment ticket keep after
    → IsStep (seen before) history session moment (asked.Close ticket keep) Done (seen after)
close_step before after history session moment ticket keep is does =
    marked is.going (record {
      reply_is = reply.Done;
      rules = refl;
      shows = refl;
      stands = stands_then before after history mark _ _ before.stopped is.ready does is.state (record {
        slots_are = ap (λ (n : ℕ). with_stored (kept before.limits n moment (kept_under (held_at before) ticket) keep) (slots_at before moment)) (number_is before history moment is.ready)
            ∙ (ap (λ (h : Option Held). with_stored (kept before.limits (next_number next) moment (kept_under h ticket) keep) (slots_at before moment)) is.ready.next.seat_is
            ∙ (ap (with_stored (kept before.limits (next_number next) moment (kept_under (seat next) ticket) keep)) (slots_at_ready before history moment is.ready)
            ∙ sym (slots_with_stored before.limits next mark (kept before.limits (next_number next) moment (kept_under (seat next) ticket) keep)
            is.ready.next.legal refl (kept_storable before.limits next moment (kept_under (seat next) ticket) keep) (λ entry. refl) (λ n. refl))));
        seat_is = ap (option_and_then (unless_given_back (asked.Close ticket keep))) is.ready.next.seat_is ∙ sym (seat_with_mark next mark);
        stopped_is = stopped_kept before history mark is.ready refl;
      });
    })
  where
    next : History
    next = next_history history

    mark : Mark
    mark = mark_of session (asked.Close ticket keep) reply.Done moment

pub clear_step : (before after : State) (history : History) (session : SessionId) (moment : ℕ) (id : List ℕ) (mode : Mode)
    → IsTaken before after history moment → HasMarked before moment (cleared id mode (slots_at before moment)) (held_at before) before.stopped after
    → IsStep (seen before) history session moment (asked.Clear id mode) Done (seen after)
clear_step before after history session moment id mode is does =
    marked is.going (record {
      reply_is = reply.Done;
      rules = refl;
      shows = refl;
      stands = stands_then before after history mark _ (held_at before) before.stopped is.ready does is.state (record {
        slots_are = ap (cleared id mode) (slots_at_ready before history moment is.ready)
            ∙ sym (slots_cleared before.limits (next_history history) mark moment id mode refl (λ entry. refl) (λ n. refl));
        seat_is = seat_kept before history mark is.ready refl (λ held. refl);
        stopped_is = stopped_kept before history mark is.ready refl;
      });
    })
  where
    mark : Mark
    mark = mark_of session (asked.Clear id mode) reply.Done moment

pub flush_step : (before after : State) (history : History) (session : SessionId) (moment : ℕ)
    → IsTaken before after history moment → HasMarked before moment [] (held_at before) before.stopped after
    → IsStep (seen before) history session moment asked.Flush Done (seen after)
flush_step before after history session moment is does =
    marked is.going (record {
      reply_is = reply.Done;
      rules = refl;
      shows = refl;
      stands = stands_then before after history mark [] (held_at before) before.stopped is.ready does is.state (record {
        slots_are = sym (slots_flushed before.limits (next_history history) mark moment refl (λ entry. refl));
        seat_is = seat_kept before history mark is.ready refl (λ held. refl);
        stopped_is = stopped_kept before history mark is.ready refl;
      });
    })
  where
    mark : Mark
    mark = mark_of session asked.Flush reply.Done moment

or_true : (b : Bool) → true ≡ (b || true)
or_true true = refl
or_true false = refl

pub stop_step : (before after : State) (history : History) (session : SessionId) (moment : ℕ)
    → IsTaken before after history moment → HasMarked before moment (slots_at before moment) (held_at before) true after
    → IsStep (seen before) history session moment asked.Stop Done (seen after)
stop_step before after history session moment is does =
    marked is.going (record {
      reply_is = reply.Done;
      rules = refl;
      shows = refl;
      stands = stands_then before after history mark (slots_at before moment) (held_at before) true is.ready does is.state (record {
        slots_are = slots_at_ready before history moment is.ready
            ∙ sym (slots_same before.limits (next_history history) mark moment refl (λ entry. refl) (λ n. refl));
        seat_is = seat_kept before history mark is.ready refl (λ held. refl);
        stopped_is = or_true (stopped (next_history history)) ∙ sym (stopped_with_mark (next_history history) mark);
      });
    })
  where
    mark : Mark
    mark = mark_of session asked.Stop reply.Done moment

-- whether something is live is what was found
pub peek_step : (before after : State) (history : History) (session : SessionId) (moment : ℕ) (id : List ℕ) (mode : Mode) (there : Bool) (found : Option Grant)
    → IsTaken before after history moment → Finds (next_slots before) id mode moment found → there ≡ is_some found → HasMarkedAlone before moment after
    → IsStep (seen before) history session moment (asked.Peek id mode) (WhetherHeld there) (seen after)
peek_step before after history session moment id mode there found is finds there_is does =
    marked is.going (record {
      reply_is = reply.Held there;
      rules = ap (λ (b : Bool). Reply (reply.Held b)) (looked found finds ∙ sym there_is);
      shows = refl;
      stands = alone before after history (mark_of session (asked.Peek id mode) (reply.Held there) moment) is does
          (record { none = refl; keeps = λ entry. refl; unused = λ n. refl; shut = refl; held = λ held. refl; no_stop = refl });
    })
  where
    looked : (o : Option Grant) → Finds (next_slots before) id mode moment o → is_some (live before.limits (next_history history) id mode moment) ≡ is_some o
    looked None none = ap is_some (live_none before history moment id mode is.ready none)
    looked (Some grant) from = ap is_some (live_found before history moment id mode grant is.ready from).live_is

-- since when a step stands, by the moment of its first try
since_asked : (id : List ℕ) (mode : Mode) (way : Way) (since : Option ℕ) (moment : ℕ) → since_when (asked.Ask id mode way since) moment ≡ since_at since moment
since_asked id mode way None moment = refl
since_asked id mode way (Some first) moment = refl

since_seated : (under : Option Under) (since : Option ℕ) (moment : ℕ) → since_when (asked.Seat under since) moment ≡ since_at since moment
since_seated under None moment = refl
since_seated under (Some first) moment = refl

pub wish_of_ask : (before after : State) (history : History) (moment : ℕ) (id : List ℕ) (mode : Mode) (since : Option ℕ) → IsTaken before after history moment
    → ServesNone (next_slots before) id mode moment
    → IsWish before.limits (next_history history) (asked.Ask id mode Prompt since) moment since (Some (record { id = id; mode = mode }))
wish_of_ask before after history moment id mode since is none = record {
  rules = ap (λ (o : Option Entry). ask_ruling o Prompt (stopped (next_history history)) (seat (next_history history)) (is_late since moment))
      (live_none before history moment id mode is.ready none);
  since_is = since_asked id mode Prompt since moment;
  under_is = refl;
  none = refl;
  keeps = λ entry. refl;
  held = λ held. refl;
  no_stop = refl;
  wants = λ some opens. opens;
}

pub wish_of_seat : (before after : State) (history : History) (moment : ℕ) (since : Option ℕ) (under : Option Under) → IsTaken before after history moment
    → IsWish before.limits (next_history history) (asked.Seat under since) moment since under
wish_of_seat before after history moment since under is = record {
  rules = refl;
  since_is = since_seated under since moment;
  under_is = refl;
  none = refl;
  keeps = λ entry. refl;
  held = λ held. refl;
  no_stop = refl;
  wants = λ some opens. (some, opens);
}

pub empty_step : (before after : State) (history : History) (session : SessionId) (moment : ℕ) (id : List ℕ) (mode : Mode) (since : Option ℕ)
    → IsTaken before after history moment → ServesNone (next_slots before) id mode moment → HasMarkedAlone before moment after
    → IsStep (seen before) history session moment (asked.Ask id mode Quiet since) Empty (seen after)
empty_step before after history session moment id mode since is none does =
    marked is.going (record {
      reply_is = reply.Empty;
      rules = ap (λ (o : Option Entry). ask_ruling o Quiet (stopped (next_history history)) (seat (next_history history)) (is_late since moment))
          (live_none before history moment id mode is.ready none);
      shows = refl;
      stands = alone before after history (mark_of session (asked.Ask id mode Quiet since) reply.Empty moment) is does
          (record { none = refl; keeps = λ entry. refl; unused = λ n. refl; shut = refl; held = λ held. refl; no_stop = refl });
    })

-- Only a Close, a Put and a Stop end another's stand: no other step frees the seat, ends the agent, or makes an entry live.
use Rattle.std.{proofs.{Common.{◌≡◌, ◌≤◌, ◌&&◌, ◌||◌, ℕ, List, [], Bool, true, false, Option, Some, None, IfSome, cond, max, not, refl, sym, ap, ◌∙◌}, Math.Bool.or-false}, specs.Prelude.{if◌then◌else◌, ◌==◌}}
use Rattle.std.specs.Option.{option_or, option_and_then, is_some}
use Rattle.cache_policy.specs.declared.{entry.Entry.Entry, history.Held.Held, life.{Limits.Limits, Life.Life}, mark.{Mark.Mark, MarkReply.MarkReply, MarkStep.{MarkStep, TheVariants.{Ask, Seat, Close, Put, Clear, Flush, Peek, Stop}}}}
use Rattle.cache_policy.specs.{declared.{mark.Way.{Way, TheVariants.{Quiet, Prompt}}, mode.Mode.Mode, step.Step.Step}, Entries.stored, Entry.within, Histories.{History, next_number, with_mark}}
use Rattle.cache_policy.specs.{Live.{newest_of, newest, takes_away, gone, gives, last_use, is_live, live}, Policy.{Reply, Stand, policy, prompt_ruling, ask_ruling}}
use Rattle.cache_policy.{specs.{Seat.{under_of, is_open, is_stop, gives_back, unless_given_back, seat, stopped}, Turns.{asked_step, with_since}, Waits.is_late}, proofs.ReturnLemmas.prompt_gives_nothing}
use Rattle.{cache_policy.proofs.OneMore.{stopped_with_mark, seat_with_mark, newest_with_mark, is_live_with_mark}, cache_book.proofs.{Known.{IsKnown, all_known, all_newest}, Live.live_is_live, Marking.{both_true, within_earlier}}}
use Rattle.counted_lock.specs.Waking.{EndsStand}
use Rattle.cache_policy.specs.declared.mark.MarkReply.TheVariants as reply
use Rattle.cache_policy.specs.declared.step.Step.TheVariants as asked

-- the steps that may
abbrev pub may_end : MarkStep → Bool
may_end (Close ticket keep) = true
may_end (Put id mode life secret) = true
may_end Stop = true
may_end _ = false

-- a prompt for which a step stands: the agent goes on, a ticket is out, and the step isn't late
record PromptStands (stops : Bool) (held : Option Held) (late : Bool) : Type 0 where
  on : stops ≡ false
  ticket : Held
  out : held ≡ Some ticket
  early : late ≡ false

prompt_stands : (stops : Bool) (held : Option Held) (late : Bool) → prompt_ruling stops held late ≡ Stand → PromptStands stops held late
prompt_stands true held late is = cc is
prompt_stands false None late is = cc is
prompt_stands false (Some ticket) true is = cc is
prompt_stands false (Some ticket) false is = record { on = refl; ticket = ticket; out = refl; early = refl }

still_stands : {stops : Bool} {held : Option Held} {late : Bool} → PromptStands stops held late → prompt_ruling stops held late ≡ Stand
still_stands at = rw (at.on, at.out, at.early) refl

-- an Ask that stands finds no live entry
ask_stands : (found : Option Entry) (way : Way) (stops : Bool) (held : Option Held) (late : Bool) → ask_ruling found way stops held late ≡ Stand
    → (found ≡ None) × (way ≡ Prompt) × PromptStands stops held late
ask_stands (Some entry) way stops held late is = cc is
ask_stands None Quiet stops held late is = cc is
ask_stands None Prompt stops held late is = (refl, refl, prompt_stands stops held late is)

-- where a ticket is out none is opened
prompt_opens_none : (stops : Bool) (ticket : Held) (late : Bool) (answer : MarkReply) → prompt_ruling stops (Some ticket) late ≡ Reply answer → is_open answer ≡ false
prompt_opens_none true ticket late answer is = let same : reply.Stopping ≡ answer = cc is in ap is_open (sym same)
prompt_opens_none false ticket true answer is = let same : reply.Late ≡ answer = cc is in ap is_open (sym same)
prompt_opens_none false ticket false answer is = cc is

ask_opens_none : (found : Option Entry) (way : Way) (stops : Bool) (ticket : Held) (late : Bool) (answer : MarkReply) → ask_ruling found way stops (Some ticket) late ≡ Reply answer → is_open answer ≡ false
ask_opens_none (Some entry) way stops ticket late answer is = let same : reply.Given entry.number ≡ answer = cc is in ap is_open (sym same)
ask_opens_none None Quiet stops ticket late answer is = let same : reply.Empty ≡ answer = cc is in ap is_open (sym same)
ask_opens_none None Prompt stops ticket late answer is = prompt_opens_none stops ticket late answer is

module _ (limits : Limits) (history : History) (moment : ℕ) (answer : MarkReply) where
  opens_none : (step : MarkStep) (ticket : Held) → may_end step ≡ false → seat history ≡ Some ticket → policy limits history step moment ≡ Reply answer → is_open answer ≡ false
  opens_none (Ask id mode way since) ticket quiet out is =
      ask_opens_none (live limits history id mode moment) way (stopped history) ticket (is_late since moment) answer (rw out at is)
  opens_none (Seat under since) ticket quiet out is = prompt_opens_none (stopped history) ticket (is_late since moment) answer (rw out at is)
  opens_none (Clear id mode) ticket quiet out is = let same : reply.Done ≡ answer = cc is in ap is_open (sym same)
  opens_none Flush ticket quiet out is = let same : reply.Done ≡ answer = cc is in ap is_open (sym same)
  opens_none (Peek id mode) ticket quiet out is = let same : reply.Held (is_some (live limits history id mode moment)) ≡ answer = cc is in ap is_open (sym same)
  opens_none (Close number keep) ticket quiet out is = cc quiet
  opens_none (Put id mode life secret) ticket quiet out is = cc quiet
  opens_none Stop ticket quiet out is = cc quiet

  -- what is given is live
  given_live : (step : MarkStep) (number : ℕ) → may_end step ≡ false → policy limits history step moment ≡ Reply (reply.Given number)
      → (id : List ℕ) × (mode : Mode) × (entry : Entry) × (live limits history id mode moment ≡ Some entry) × (entry.number ≡ number)
  given_live (Ask id mode way since) number quiet is = by_found (live limits history id mode moment) refl way is
    where
      by_found : (found : Option Entry) → live limits history id mode moment ≡ found → (way : Way)
          → ask_ruling found way (stopped history) (seat history) (is_late since moment) ≡ Reply (reply.Given number)
          → (id : List ℕ) × (mode : Mode) × (entry : Entry) × (live limits history id mode moment ≡ Some entry) × (entry.number ≡ number)
      by_found (Some entry) found way is = (id, mode, entry, found, cc is)
      by_found None found Quiet is = cc is
      by_found None found Prompt is = absurd (prompt_gives_nothing (stopped history) (seat history) (is_late since moment) number is)
  given_live (Seat under since) number quiet is = absurd (prompt_gives_nothing (stopped history) (seat history) (is_late since moment) number is)
  given_live (Clear id mode) number quiet is = cc is
  given_live Flush number quiet is = cc is
  given_live (Peek id mode) number quiet is = cc is
  given_live (Close other keep) number quiet is = cc quiet
  given_live (Put id mode life secret) number quiet is = cc quiet
  given_live Stop number quiet is = cc quiet

-- such a step stores nothing, gives no ticket back and isn't a Stop
stores_none : (limits : Limits) (history : History) (step : MarkStep) (moment : ℕ) → may_end step ≡ false → stored limits history step moment ≡ []
stores_none limits history (Ask id mode way since) moment quiet = refl
stores_none limits history (Seat under since) moment quiet = refl
stores_none limits history (Clear id mode) moment quiet = refl
stores_none limits history Flush moment quiet = refl
stores_none limits history (Peek id mode) moment quiet = refl
stores_none limits history (Close ticket keep) moment quiet = cc quiet
stores_none limits history (Put id mode life secret) moment quiet = cc quiet
stores_none limits history Stop moment quiet = cc quiet

gives_none_back : (step : MarkStep) (ticket : ℕ) → may_end step ≡ false → gives_back ticket step ≡ false
gives_none_back (Ask id mode way since) ticket quiet = refl
gives_none_back (Seat under since) ticket quiet = refl
gives_none_back (Clear id mode) ticket quiet = refl
gives_none_back Flush ticket quiet = refl
gives_none_back (Peek id mode) ticket quiet = refl
gives_none_back (Close other keep) ticket quiet = cc quiet
gives_none_back (Put id mode life secret) ticket quiet = cc quiet
gives_none_back Stop ticket quiet = cc quiet

no_stop : (step : MarkStep) → may_end step ≡ false → is_stop step ≡ false
no_stop (Ask id mode way since) quiet = refl
no_stop (Seat under since) quiet = refl
no_stop (Clear id mode) quiet = refl
no_stop Flush quiet = refl
no_stop (Peek id mode) quiet = refl
no_stop (Close ticket keep) quiet = cc quiet
no_stop (Put id mode life secret) quiet = cc quiet
no_stop Stop quiet = cc quiet

not_either : (a b : Bool) → not (a || b) ≡ true → not a ≡ true
not_either false b is = refl
not_either true b is = cc is

module _ (limits : Limits) (history : History) (mark : Mark) (quiet : may_end mark.step ≡ false) (ruled : policy limits history mark.step mark.moment ≡ Reply mark.reply) where
  stopped_same : stopped (with_mark history mark) ≡ stopped history
  stopped_same = stopped_with_mark history mark ∙ ap (λ (b : Bool). stopped history || b) (no_stop mark.step quiet) ∙ or-false (stopped history)

  seat_same : (ticket : Held) → seat history ≡ Some ticket → seat (with_mark history mark) ≡ Some ticket
  seat_same ticket out =
      seat_with_mark history mark
      ∙ ap (λ (b : Bool). cond b (Some (record { ticket = next_number history; under = under_of mark.step })) (option_and_then (unless_given_back mark.step) (seat history))) (opens_none limits history mark.moment mark.reply mark.step ticket quiet out ruled)
      ∙ ap (option_and_then (unless_given_back mark.step)) out
      ∙ ap (λ (b : Bool). cond b None (Some ticket)) (gives_none_back mark.step ticket.ticket quiet)

  prompt_same : {late : Bool} → PromptStands (stopped history) (seat history) late → PromptStands (stopped (with_mark history mark)) (seat (with_mark history mark)) late
  prompt_same at = record { on = stopped_same ∙ at.on; ticket = at.ticket; out = seat_same at.ticket at.out; early = at.early }

  module _ (id : List ℕ) (mode : Mode) (first again : ℕ) (before : first ≤ mark.moment) (none_first : live limits history id mode first ≡ None) (none_again : live limits history id mode again ≡ None) where
    -- an entry that isn't live for the step isn't live behind the mark
    still_dead : (entry : Entry) → newest limits history id mode ≡ Some entry → IsKnown limits history entry → is_live (with_mark history mark) again entry ≡ true → ⊥
    still_dead entry is known lives = by_reply (gives entry.number mark.reply) refl (sym (is_live_with_mark history mark entry again known.older) ∙ lives)
      where
        dead : (moment : ℕ) → live limits history id mode moment ≡ None → is_live history moment entry ≡ true → ⊥
        dead moment none lives = cc (none, is, lives)

        lives_at : (moment : ℕ) → not (gone history entry) ≡ true → within entry (last_use history entry) moment ≡ true → is_live history moment entry ≡ true
        lives_at moment stays in_time = rw (stays, in_time) refl

        by_reply : (given : Bool) → gives entry.number mark.reply ≡ given
            → (not (gone history entry || takes_away entry mark.step) && within entry (if given then max (last_use history entry) mark.moment else last_use history entry) again) ≡ true → ⊥
        by_reply false unused is_true =
            let parts = both_true (not (gone history entry || takes_away entry mark.step)) (within entry (last_use history entry) again) is_true in
            dead again none_again (lives_at again (not_either (gone history entry) (takes_away entry mark.step) parts.0) parts.1)
        by_reply true used is_true = by_given mark.reply refl used
          where
            by_given : (answer : MarkReply) → mark.reply ≡ answer → gives entry.number answer ≡ true → ⊥
            by_given (reply.Given number) answers same =
                let found = given_live limits history mark.moment (reply.Given number) mark.step number quiet (ruled ∙ ap Reply answers) in
                let lived = live_is_live limits history found.0 found.1 mark.moment found.2 entry found.3 known (ap (λ (n : ℕ). n == entry.number) found.4 ∙ same) in
                let parts = both_true (not (gone history entry)) (within entry (last_use history entry) mark.moment) lived in
                dead first none_first (lives_at first parts.0 (within_earlier entry (last_use history entry) first mark.moment before parts.1))
            by_given reply.Empty answers same = cc same
            by_given reply.Open answers same = cc same
            by_given reply.Done answers same = cc same
            by_given (reply.Held held) answers same = cc same
            by_given reply.Stopping answers same = cc same
            by_given reply.Late answers same = cc same

    live_same : live limits (with_mark history mark) id mode again ≡ None
    live_same =
        ap (option_and_then alive) (newest_with_mark limits history mark id mode ∙ ap (λ (list : List Entry). option_or (newest_of id mode list) (newest limits history id mode)) (stores_none limits history mark.step mark.moment quiet))
        ∙ by_newest (newest limits history id mode) refl (all_newest (IsKnown limits history) limits history id mode (all_known limits history))
      where
        alive : Entry → Option Entry
        alive entry = if is_live (with_mark history mark) again entry then Some entry else None

        by_live : (entry : Entry) (lives : Bool) → is_live (with_mark history mark) again entry ≡ lives → (lives ≡ true → ⊥) → alive entry ≡ None
        by_live entry true is never = absurd (never refl)
        by_live entry false is never = ap (λ (b : Bool). cond b (Some entry) None) is

        by_newest : (found : Option Entry) → newest limits history id mode ≡ found → IfSome found (IsKnown limits history) → option_and_then alive found ≡ None
        by_newest None is known = refl
        by_newest (Some entry) is known = by_live entry (is_live (with_mark history mark) again entry) refl (λ lives. still_dead entry is known lives)

  -- so a step that stands stands still
  stands_still : (standing : MarkStep) (first again : ℕ) → first ≤ mark.moment → policy limits history standing first ≡ Stand → policy limits history standing again ≡ Stand
      → policy limits (with_mark history mark) standing again ≡ Stand
  stands_still (Ask id mode way since) first again before stood stands =
      let at_first = ask_stands (live limits history id mode first) way (stopped history) (seat history) (is_late since first) stood in
      let at_again = ask_stands (live limits history id mode again) way (stopped history) (seat history) (is_late since again) stands in
      rw (live_same id mode first again before at_first.0 at_again.0, at_again.1) (still_stands (prompt_same at_again.2))
  stands_still (Seat under since) first again before stood stands = still_stands (prompt_same (prompt_stands (stopped history) (seat history) (is_late since again) stands))
  stands_still (Close ticket keep) first again before stood stands = cc stands
  stands_still (Put id mode life secret) first again before stood stands = cc stands
  stands_still (Clear id mode) first again before stood stands = cc stands
  stands_still Flush first again before stood stands = cc stands
  stands_still (Peek id mode) first again before stood stands = cc stands
  stands_still Stop first again before stood stands = cc stands

pub ends_stand : (limits : Limits) (history : History) (mark : Mark) → EndsStand limits history mark → may_end mark.step ≡ true
ends_stand limits history mark ends = by_step (may_end mark.step) refl
  where
    by_step : (may : Bool) → may_end mark.step ≡ may → may ≡ true
    by_step true is = refl
    by_step false is = absurd (ends.ends (stands_still limits history mark is ends.ruled ends.standing ends.first ends.again ends.before ends.stood ends.stands))

-- and a step may as its mark does
pub may_end_as : (since : Option ℕ) (step : MarkStep) → may_end (with_since since step) ≡ may_end step
may_end_as since (Ask id mode way first) = refl
may_end_as since (Seat under first) = refl
may_end_as since (Close ticket keep) = refl
may_end_as since (Put id mode life secret) = refl
may_end_as since (Clear id mode) = refl
may_end_as since Flush = refl
may_end_as since (Peek id mode) = refl
may_end_as since Stop = refl

-- any other step doesn't
pub none_ends : (step : Step) → ((ticket : ℕ) (keep : Option (List ℕ)) → step ≡ asked.Close ticket keep → ⊥)
    → ((id : List ℕ) (mode : Mode) (life : Life) (secret : List ℕ) → step ≡ asked.Put id mode life secret → ⊥) → (step ≡ asked.Stop → ⊥) → may_end (asked_step step) ≡ false
none_ends (asked.Ask id mode way wait) no_close no_put no_stop = refl
none_ends (asked.Seat under wait) no_close no_put no_stop = refl
none_ends (asked.Close ticket keep) no_close no_put no_stop = absurd (no_close ticket keep refl)
none_ends (asked.Put id mode life secret) no_close no_put no_stop = absurd (no_put id mode life secret refl)
none_ends (asked.Clear id mode) no_close no_put no_stop = refl
none_ends asked.Flush no_close no_put no_stop = refl
none_ends (asked.Peek id mode) no_close no_put no_stop = refl
none_ends asked.Stop no_close no_put no_stop = absurd (no_stop refl)

-- A turn of a daemon's session in the daemon's one run.
use mathlib.Core.List.{IsPrefix}
use Rattle.std.proofs.Common.{◌≡◌, ℕ, List, [], ◌∷◌, ◌++◌, Some, None, refl, ap, sym, subst, ◌∙◌, append-nil, append_assoc}
use Rattle.{agent_ask.specs.Session.SessionEvents.{Received, Sent, Cut, Inquiry, CacheTurn, Port, turns_in}, agent_commands.specs.Actions.CacheEvent, agent_ports.specs.{Readings.Readings, declared.session.SessionId.SessionId}}
use Rattle.{agent_serve.specs.Serves.{PassTurns, none, turned}, agent_session.specs.Causes.{Has, here, later}}
use Rattle.cache_policy.specs.{Desks.{IsOwnMark, MakesMarks, marked, refused, spent}, Extending.Taken, Histories.{History, with_mark}, Live.live, Runs.last_history, Turns.{FitsStep, Given, Turn, since_of}}
use Rattle.cache_policy.specs.declared.{entry.Entry.Entry, grant.Grant.Grant, life.Limits.Limits, mark.{Mark.Mark, MarkStep.{MarkStep, TheVariants.Ask}, Way.Way}, mode.Mode.{Mode, TheVariants.User}}
use Rattle.{counted_lock.specs.{Logs.run_of_log, Passes.AtPass, Turns.TurnsPass}, passphrase_laws.{specs.Joined.WasLive, proofs.Giving.gave_rightly}}

pub prefix_trans : (a b c : List Mark) → IsPrefix a b → IsPrefix b c → IsPrefix a c
prefix_trans a b c first second = (first.0 ++ second.0, sym (append_assoc a first.0 second.0) ∙ ap (λ (l : List Mark). l ++ second.0) first.1 ∙ second.1)

turn_grows : {session : SessionId} {first last : Readings} {asked : MarkStep} {before after : AtPass} {turn : Turn} → TurnsPass session first last asked before turn after
    → IsPrefix before.seen after.seen
turn_grows {before} does = (
  does.others ++ does.own,
  sym (append_assoc before.seen does.others does.own) ∙ ap (λ (l : List Mark). l ++ does.own) (sym does.found_is) ∙ sym (ap (λ (p : AtPass). p.seen) does.now),
)

turns_grow : {session : SessionId} {before after : AtPass} {first last : Readings} {turns : List Taken} {own : List Mark} → PassTurns session before first turns own after last
    → IsPrefix before.seen after.seen
turns_grow {before} none = ([], append-nil before.seen)
turns_grow {before} {after} (turned {mid} does more) = prefix_trans before.seen mid.seen after.seen (turn_grows does) (turns_grow more)

-- the turn was taken at a pass of these lifetimes, and what the pass has seen behind it is a beginning of the run
record IsTaken (session : SessionId) (limits : Limits) (run : List Mark) (taken : Taken) : Type 0 where
  before : AtPass
  after : AtPass
  first : Readings
  last : Readings
  does : TurnsPass session first last taken.asked before taken.turn after
  stands : IsPrefix after.seen run
  limits_are : before.limits ≡ limits

taken_in : {session : SessionId} {limits : Limits} {run : List Mark} {before after : AtPass} {first last : Readings} {turns : List Taken} {own : List Mark} {taken : Taken}
    → PassTurns session before first turns own after last → Has taken turns → IsPrefix after.seen run → before.limits ≡ limits → IsTaken session limits run taken
taken_in none has stands same = elim has [ ]
taken_in {run} {before} {after} {first} (turned {mid} {then} does more) here stands same =
    record { before = before; after = mid; first = first; last = then; does = does; stands = prefix_trans mid.seen after.seen run (turns_grow more) stands; limits_are = same }
taken_in (turned does more) (later has) stands same = taken_in more has stands (ap (λ (p : AtPass). p.limits) does.now ∙ same)

-- the mark of a turn that gave a passphrase
record GaveMark (limits : Limits) (session : SessionId) (asked : MarkStep) (grant : Grant) (run : List History) (own : List Mark) : Type 0 where
  mark : Mark
  own_is : own ≡ mark ∷ []
  called : ℕ
  is : IsOwnMark limits session called asked (Given grant) run mark

gave_mark : {limits : Limits} {session : SessionId} {called : ℕ} {asked : MarkStep} {grant : Grant} {run : List History} {turn : Turn} {own : List Mark} → turn ≡ Given grant
    → MakesMarks limits session called asked run turn own → GaveMark limits session asked grant run own
gave_mark {limits} {session} {called} {asked} {run} same (marked own is) =
    record { mark = own; own_is = refl; called = called; is = subst (λ (t : Turn). IsOwnMark limits session called asked t run own) same is }
gave_mark same refused = absurd (cc same)
gave_mark same (spent is) = absurd (cc same)

was_live : {session : SessionId} {limits : Limits} {run : List Mark} {id secret : List ℕ} {way : Way} {grant : Grant} → IsTaken session limits run (record { asked = Ask id User way None; turn = Given grant })
    → FitsStep (Ask id User way None) (Given grant) → grant.entry.secret ≡ secret → WasLive limits run session id secret
was_live {session} {limits} {run} {id} {way = way} {grant} taken fits secret_is =
    let does = taken.does in
    let made = gave_mark refl does.makes in
    let seen : taken.after.seen ≡ does.found ++ made.mark ∷ [] = ap (λ (p : AtPass). p.seen) does.now ∙ ap (λ (l : List Mark). does.found ++ l) made.own_is in
    let by_limits = λ (l : Limits). live l made.is.before grant.id grant.mode made.mark.moment ≡ Some grant.entry in
    let by_id = λ (i : List ℕ). live limits made.is.before i grant.mode made.mark.moment ≡ Some grant.entry in
    let by_mode = λ (m : Mode). live limits made.is.before id m made.mark.moment ≡ Some grant.entry in
    let is_live = subst by_mode fits.1 (subst by_id fits.0 (subst by_limits taken.limits_are made.is.shows.1)) in
    let gave = gave_rightly limits made.is.before made.mark id User way (since_of made.mark.step) grant.entry made.is.asked_is is_live in
    record {
      earlier = does.found;
      mark = made.mark;
      later = taken.stands.0;
      run_is = sym taken.stands.1 ∙ ap (λ (l : List Mark). l ++ taken.stands.0) seen ∙ append_assoc does.found (made.mark ∷ []) taken.stands.0;
      by = made.is.by;
      number = grant.entry.number;
      given = made.is.shows.0;
      before = made.is.before;
      last = subst (λ (l : List Mark). last_history (run_of_log l) ≡ Some (with_mark made.is.before made.mark)) seen made.is.last;
      rightly = gave.rightly;
      id_is = gave.id_is;
      mode_is = gave.mode_is;
      is_live = is_live ∙ ap (λ (e : Entry). Some e) (sym gave.entry_is);
      secret_is = ap (λ (e : Entry). e.secret) gave.entry_is ∙ secret_is;
    }

turn_in : {taken : Taken} (events : List CacheEvent) → Has (CacheTurn taken) events → Has taken (turns_in events)
turn_in [] has = elim has [ ]
turn_in (CacheTurn other ∷ more) here = here
turn_in (CacheTurn other ∷ more) (later has) = later (turn_in more has)
turn_in (Received took ∷ more) (later has) = turn_in more has
turn_in (Sent text ∷ more) (later has) = turn_in more has
turn_in (Cut text ∷ more) (later has) = turn_in more has
turn_in (Inquiry word params limit inquired ∷ more) (later has) = turn_in more has
turn_in (Port what ∷ more) (later has) = turn_in more has

-- what a turn of the session gave was live in the run
pub given_was_live : {session : SessionId} {before after : AtPass} {first last : Readings} {own run : List Mark} {limits : Limits} {id secret : List ℕ} {way : Way} {grant : Grant} (events : List CacheEvent)
    → PassTurns session before first (turns_in events) own after last → IsPrefix after.seen run → before.limits ≡ limits
    → Has (CacheTurn (record { asked = Ask id User way None; turn = Given grant })) events → FitsStep (Ask id User way None) (Given grant) → grant.entry.secret ≡ secret
    → WasLive limits run session id secret
given_was_live events turns stands same has fits secret_is = was_live (taken_in turns (turn_in events has) stands same) fits secret_is

-- What is written, and what a run comes to, on worked examples, each by computation.
use Rattle.std.{specs.{Fmt.digits, Prelude.{◌≡◌, ◌≤◌, ◌<◌, ℕ, zero, suc, nat_eq, List, [], ◌∷◌, ◌++◌, length, codes, None, refl, true, false}, List.flat_map}, proofs.{Common.{lit<, lit≤, arith}, lemmas.Bool.Decides.nat_tests}}
use Rattle.{hex.proofs.OnLiterals.hex_on_literals, agent_commands.specs.{Answers.closing, Passphrases.ask, Requests.request_of, declared.went.Went.TheVariants.On}, command_table.specs.Commands.command_named, agent_core.specs.Cores.mark_of}
use Rattle.{agent_origin.specs.{DoorSessions.{DoorExchange, is_allowed, forbidden, unset}, declared.{door.Door.TheVariants.Outer, session_state.SessionState.SessionState}}, agent_ask.specs.Session.SessionEvents.Sent, agent_ports.specs.Sides.Side}
use Rattle.{agent_ports.specs.declared.session.SessionId.SessionId, assuan_escape.specs.Escapes.hex_text, assuan_server.specs.Written.{failed, greeting, ok, ok_text}, assuan_text.specs.LineEnds.line_of}
use Rattle.cache_policy.{proofs.GrowingRuns.legal_run_with_mark, specs.{Legal.IsLegalRun, declared.{life.{Life.TheVariants.Endless, Limits.Limits}, mark.{Mark.Mark, MarkReply.TheVariants.{Given, Empty, Done}}}}}
use Rattle.{cache_policy.specs.declared.{mark.MarkStep.TheVariants.{Put, Clear, Stop}, mode.Mode.TheVariants.{Any, User}, tally.Tally.Tally}, counted_lock.specs.{Logs.{run_of_log, marks_by}, Passes.{AtCounted, AtPass, IsClosed, numbered}}}
use Rattle.session_options.specs.{Defaults.default_rules, declared.rules.Rules.Rules}
use Rattle.agent_top.{proofs.Replays.first_legal, specs.{Cache.limits_of, Completeness.NoFault, Daemon.{summary_line, status_after}, Load.load_line, Top.{Machine, machine, exit_number, status_of}}}
use Rattle.agent_commands.specs.declared.went.SessionEnd.TheVariants as ends
use Rattle.agent_ports.specs.declared.link.Sent.TheVariants as sent
use Rattle.session_client.specs.declared.code.Code.TheVariants as code

-- ---- what is written

-- to a client that asks for a passphrase, stores it, gets it back and leaves
replies : line_of greeting ++ failed code.NoData ++ ok ++ line_of (ok_text (hex_text (codes "pw"))) ++ closing
    ≡ flat_map line_of (codes "OK Pleased to meet you" ∷ codes "ERR 67108922 No data <GPG Agent>" ∷ codes "OK" ∷ codes "OK 7077" ∷ codes "OK closing connection" ∷ [])
unfolding digits hex_on_literals
replies = refl

-- and to one at the outer door that sets a terminal, or asks for a passphrase that is cached
module _ (rules : Rules) (kept : SessionState) where
  sets_terminal : DoorExchange Outer rules kept (codes "OPTION ttyname=/dev/pts/3") (Sent ok ∷ []) kept On
  unfolding command_named request_of
  sets_terminal = is_allowed refl unset

  asks_for_cached : DoorExchange Outer rules kept (codes "GET_PASSPHRASE k") (Sent (failed code.Forbidden) ∷ []) kept On
  unfolding command_named request_of
  asks_for_cached = forbidden refl

-- statuses

at_the_end : exit_number (status_of ends.Ended) ≡ 0
at_the_end = refl

too_long : exit_number (status_of ends.TooLong) ≡ 7
too_long = refl

stopped : exit_number (status_after true sent.All) ≡ 0
stopped = refl

unstopped : exit_number (status_after false sent.All) ≡ 5
unstopped = refl

summary_unsent : exit_number (status_after true (sent.Failed 3)) ≡ 4
summary_unsent = refl

-- a machine no count of which has risen
abbrev quiet : Side
quiet = record { bytes = None; faults = 0 }

abbrev still : Machine
still =
    machine quiet quiet (record { later = λ k. None; count = 0; last = 0 }) (record { coming = None; launched = None; finished = None; faults = 0 }) (record { files = None; folder = None; faults = 0 }) quiet

is_still : NoFault still still
is_still = record {
  link = record { input = λ rose. omega (arith, rose); output = λ rose. omega (arith, rose) };
  launches = λ rose. omega (arith, rose);
  keys = λ rose. omega (arith, rose);
  dice = λ rose. omega (arith, rose);
}

-- ---- a run of two sessions at two passes: the first stores a passphrase, which the second is given; the first clears it, and the second finds none and stops the agent

abbrev limits : Limits
limits = limits_of default_rules

abbrev first : SessionId
first = record { pass = 0; count = 0 }

abbrev second : SessionId
second = record { pass = 1; count = 0 }

abbrev stored : Mark
stored = mark_of first (Put (codes "k") Any Endless (codes "pw")) Done 0

abbrev got : Mark
got = mark_of second (ask (codes "k")) (Given 0) 0

abbrev cleared : Mark
cleared = mark_of first (Clear (codes "k") User) Done 60

abbrev missed : Mark
missed = mark_of second (ask (codes "k")) Empty 60

abbrev ended : Mark
ended = mark_of second Stop Done 120

abbrev log : List Mark
log = stored ∷ got ∷ cleared ∷ missed ∷ ended ∷ []

legal : IsLegalRun limits (run_of_log log)
legal =
    legal_run_with_mark limits (run_of_log (stored ∷ got ∷ cleared ∷ missed ∷ [])) _ ended
    (legal_run_with_mark limits (run_of_log (stored ∷ got ∷ cleared ∷ [])) _ missed
    (legal_run_with_mark limits (run_of_log (stored ∷ got ∷ [])) _ cleared
    (legal_run_with_mark limits (run_of_log (stored ∷ [])) _ got
    (legal_run_with_mark limits (run_of_log []) _ stored (first_legal limits) refl refl (lit≤ tt) (lit≤ tt) (lit< tt)) refl refl (lit≤ tt) (lit≤ tt) (lit< tt)) refl refl (lit≤ tt) (lit≤ tt) (lit< tt))
    refl refl (lit≤ tt) (lit≤ tt) (lit< tt)) refl refl (lit≤ tt) (lit≤ tt) (lit< tt)

abbrev tally : Tally
tally = record { marks = 5; given = 1; empty = 1; opened = 0; stored = 1; cleared = 1; flushed = 0; stopped = true }

module _ (lock : AtCounted) where
  abbrev counted : AtCounted
  counted = record lock { limits = limits; passes = 2 }

  abbrev pass_of : ℕ → AtPass
  pass_of number = record { table = lock.table; limits = limits; number = number; sessions = 1; seen = log }

  one_of_each : (number : ℕ) → number < 2 → length (numbered number (pass_of 0 ∷ pass_of 1 ∷ [])) ≡ 1
  one_of_each zero below = refl
  one_of_each (suc zero) below = refl
  one_of_each (suc (suc number)) below = absurd (omega (arith, below))

  none_beyond : (number : ℕ) → 2 ≤ number → marks_by number log ≡ []
  none_beyond number beyond =
      let not_first : nat_eq 0 number ≡ false = grind (arith, nat_tests) in
      let not_second : nat_eq 1 number ≡ false = grind (arith, nat_tests) in
      rw (not_first, not_second) refl

  -- so the passes leave it
  closed : IsClosed counted (pass_of 0 ∷ pass_of 1 ∷ []) tally
  closed = record {
    run = log;
    legal = legal;
    all = (record { seen = ([], refl); own = refl }, (record { seen = ([], refl); own = refl }, tt));
    numbers = one_of_each;
    within = none_beyond;
    each = (refl, (refl, (refl, (refl, (refl, tt)))));
    tally_is = refl;
  }

its_summary : summary_line tally ≡ line_of (codes "marks 5 given 1 empty 1 opened 0 stored 1 cleared 1 flushed 0")
unfolding digits
its_summary = refl

in_a_load : load_line tally ≡ line_of (codes "sessions 64 requests 12864 marks 5 given 1 empty 1 opened 0 stored 1 cleared 1 flushed 0")
unfolding digits
in_a_load = refl

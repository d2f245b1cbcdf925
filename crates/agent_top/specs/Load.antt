-- A load: sessions whose requests are made from a number, the steps of their turns, and what a run of it leaves. This is the project's own.
use Rattle.std.specs.{Prelude.{◌≡◌, ℕ, ◌+◌, ◌/◌, ◌%◌, ◌==◌, zero, suc, nat_lt, List, [], ◌∷◌, ◌++◌, length, codes, decimal, map, Option, Some, None, if◌then◌else◌}, Int.{w32, to_be_bytes}, List.{filter_map, AllByRecursion}}
use Rattle.{rand_core.specs.Pcg32Seed.pcg32_seed, rand_pcg.specs.{Lcg.Lcg, Pcg.{pcg32, pcg32_of_seed}}, agent_core.specs.{Tallies.tally_of, Solos.SoloState}, agent_ports.specs.{Counts.Rose, Sides.{Side, with_bytes, sent_part, IsCut}}}
use Rattle.{agent_ports.specs.declared.link.Sent.{Sent, TheVariants.{All, Failed}}, assuan_text.specs.LineEnds.line_of, cache_policy.specs.{Histories.{History, moments}, Legal.IsLegalRun, Replay.Replays, Runs.start_of_run}}
use Rattle.cache_policy.specs.declared.{life.Life.TheVariants.Seconds, mark.{Mark.Mark, MarkStep.{MarkStep, TheVariants.{Ask, Put, Clear}}, Way.TheVariants.Quiet}, mode.Mode.TheVariants.{Any, User}, tally.Tally.Tally}
use Rattle.session_options.specs.Defaults.{default_rules}
use Rattle.agent_top.specs.{Cache.{limits_of, session}, Daemon.summary, Top.exit_number, declared.status.Status.Status}
use Rattle.agent_top.specs.declared.status.Status.TheVariants as status

-- the cache id of a word: `k` and a number below 32
abbrev pub key : ℕ → List ℕ
key word = 107 ∷ decimal (word / 8 % 32)

-- The step of the request that a word makes: a GET_PASSPHRASE that doesn't ask, a PRESET_PASSPHRASE for up to 1,000 seconds of the word's own
-- bytes, a CLEAR_PASSPHRASE, or a NOP, which takes none.
abbrev pub step_of : ℕ → Option MarkStep
step_of word =
    if nat_lt (word % 8) 4 then Some (Ask (key word) User Quiet None)
    else if nat_lt (word % 8) 6 then Some (Put (key word) Any (Seconds (word / 256 % 1000 + 1)) (to_be_bytes w32 word))
    else if word % 8 == 6 then Some (Clear (key word) User)
    else None

-- the next words of a generator
unfoldable pub words_from : ℕ → Lcg → List ℕ
words_from zero generator = []
words_from (suc count) generator = (pcg32 generator).0 ∷ words_from count (pcg32 generator).1

-- the generator that a number gives, and the words of 64 sessions of 200 requests
abbrev pub generator_of : ℕ → Lcg
generator_of number = pcg32_of_seed (pcg32_seed 16 number)

abbrev pub load_words : ℕ → List ℕ
load_words number = words_from 12800 (generator_of number)

-- the steps of a load
unfoldable pub load_steps : ℕ → List MarkStep
load_steps number = filter_map step_of (load_words number)

-- the readings of a clock that goes on by 7 seconds
unfoldable pub readings_from : ℕ → ℕ → List ℕ
readings_from zero first = []
readings_from (suc count) first = first ∷ readings_from count (first + 7)

abbrev pub load_readings : ℕ → List ℕ
load_readings number = readings_from (length (load_steps number)) 0

-- the mark is the session's, of this moment, with the step of the word
pub record IsOfWord (moment word : ℕ) (mark : Mark) : Type 0 where
  pub by : mark.session ≡ session
  pub moment_is : mark.moment ≡ moment
  pub step_is : step_of word ≡ Some mark.step

-- marks of the session with the steps of these words, 7 seconds apart
pub record AreOfWords (first : ℕ) (words : List ℕ) (marks : List Mark) : Type 0 where
  pub by : AllByRecursion (λ mark. mark.session ≡ session) marks
  pub steps_are : map (λ mark. mark.step) marks ≡ filter_map step_of words
  pub moments_are : moments marks ≡ readings_from (length marks) first

-- the tally is that of the run that a load's steps make
pub record IsLoadTally (number : ℕ) (tally : Tally) : Type 0 where
  pub run : List History
  pub replays : Replays (limits_of default_rules) session (load_steps number) (load_readings number) run
  pub tally_is : tally ≡ tally_of (limits_of default_rules) run

-- the run has one history, whose marks are those of a load
pub record IsMadeByLoad (number : ℕ) (run : List History) : Type 0 where
  pub history : History
  pub run_is : run ≡ history ∷ []
  pub made : AreOfWords 0 (load_words number) history.marks

-- the desk's run began alike, and is legal where it was; the desk has the same clock
pub record KeepsRun {C : Type 0} (before after : SoloState C) : Type 0 where
  pub limits : after.limits ≡ before.limits
  pub start : start_of_run after.run ≡ start_of_run before.run
  pub legal : IsLegalRun before.limits before.run → IsLegalRun before.limits after.run
  pub lent : after.lent ≡ before.lent

abbrev pub load_line : Tally → List ℕ
load_line tally = line_of (codes "sessions 64 requests 12864 " ++ summary tally)

abbrev pub load_status : Sent → Status
load_status All = status.Success
load_status (Failed sent) = status.WriteFault

-- The line of the load's tally was sent, whole or in part; or there was no memory, and nothing was written.
pub data RunsLoad (number : ℕ) (before : Side) : ℕ → Side → Type 0 where
  wrote : {after : Side} {result : ℕ} (tally : Tally) (sent : Sent) → IsLoadTally number tally → after.bytes ≡ with_bytes before.bytes (sent_part (load_line tally) sent)
      → result ≡ exit_number (load_status sent) → (IsCut sent → Rose before.faults after.faults) → RunsLoad number before result after
  no_memory : RunsLoad number before (exit_number status.NoMemory) before

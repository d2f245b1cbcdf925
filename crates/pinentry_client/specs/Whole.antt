-- One prompt from its start to its end, as a dialogue with one child (pinentry manual, "protocol").
use Rattle.std.specs.Prelude.{◌≡◌, ℕ, Bool, true, List, [], ◌∷◌, is_ok, Option, None, Result, ⊤}
use Rattle.{agent_ask.specs.{Events.{Call, Start, GetPin, Confirm, Shut}, Prompters.is_failed, declared.prompt.{prompter.{Consent.Consent, Opened.Opened, Outcome.Outcome}, spec.PromptSpec.PromptSpec}}, agent_ports.specs.Counts.Rose}
use Rattle.{agent_ports.specs.{Launches.{Launches, IsFresh, child_then, then_launched, then_finished}, Sides.Side}, assuan_client.specs.{Connections.Connection, Skipping.nothing, declared.answer.State.TheVariants.Ready}}
use Rattle.assuan_line.specs.declared.reader.TheConstants.{BUDGET}
use Rattle.pinentry_client.specs.{Dialogues.{SaysBye, opened_of, stays_ready, stays_open}, Talking.{StartTalk, PinTalk, ConsentTalk}, declared.answers.Trouble.Trouble}
use Rattle.agent_ask.specs.declared.prompt.prompter.Consent.TheVariants as agreed
use Rattle.agent_ask.specs.declared.prompt.prompter.Opened.TheVariants as opened
use Rattle.agent_ask.specs.declared.prompt.prompter.Outcome.TheVariants as outcome
use Rattle.assuan_line.specs.declared.breach.Breach.TheVariants as breach

-- the questions of a prompt, and its end
pub data AreQuestions : List Call → Type 0 where
  pin : {error : List ℕ} {outcome : Outcome} {more : List Call} → AreQuestions more → AreQuestions (GetPin error outcome ∷ more)
  consent : {consent : Consent} {more : List Call} → AreQuestions more → AreQuestions (Confirm consent ∷ more)
  shut : AreQuestions (Shut ∷ [])

-- the calls of one prompt
pub data IsOnePrompt : List Call → Type 0 where
  start : {spec : PromptSpec} {opened : Opened} {more : List Call} → AreQuestions more → IsOnePrompt (Start spec opened ∷ more)

-- The questions are put to a child, which can be asked or not, up to the end: its link then has these sides.
pub data Questions : Connection → Bool → List Call → Side → Side → Type 0 where
  pin : {conn later : Connection} {error : List ℕ} {outcome : Outcome} {more : List Call} {input output : Side} → PinTalk error conn outcome later
      → Questions later (stays_ready outcome) more input output → Questions conn true (GetPin error outcome ∷ more) input output
  consent : {conn later : Connection} {consent : Consent} {more : List Call} {input output : Side} → ConsentTalk conn consent later
      → Questions later (stays_open consent) more input output → Questions conn true (Confirm consent ∷ more) input output
  shut : {conn : Connection} {ready : Bool} {output : Side} → SaysBye ready conn.output output → Questions conn ready (Shut ∷ []) conn.input output

-- One prompt's calls with their answers, and a child that could give these bytes, did not give those that are left, and was written these;
-- where they are known.
pub record Dialogue (calls : List Call) (given left written : Option (List ℕ)) : Type 0 where
  pub spec : PromptSpec
  pub end : Result ℕ Trouble
  pub more : List Call
  pub calls_are : calls ≡ Start spec (opened_of end) ∷ more
  pub fresh : Connection
  pub unused : IsFresh fresh.input fresh.output
  pub reader : fresh.reader ≡ record { ahead = []; left = BUDGET; ended = None }
  pub tally : fresh.tally ≡ nothing
  pub state : fresh.state ≡ Ready
  pub given_are : fresh.input.bytes ≡ given
  pub opens : Connection
  pub starts : StartTalk spec fresh end opens
  pub input : Side
  pub output : Side
  pub asks : Questions opens (is_ok end) more input output
  pub left_are : input.bytes ≡ left
  pub written_are : output.bytes ≡ written

-- A prompt has one child of the launcher, which runs this program, is the next to come and then the last of those that were finished,
-- and they have a dialogue. Where the launch failed, which the launcher counts, there is none, and the prompt is shut.
pub data HasItsChild (program : List ℕ) (calls : List Call) (before after : Launches) : Type 0 where
  none : {spec : PromptSpec} → calls ≡ Start spec opened.Failed ∷ Shut ∷ [] → Rose before.faults after.faults → after.coming ≡ before.coming
      → after.launched ≡ before.launched → after.finished ≡ before.finished → HasItsChild program calls before after
  one : (given left written : Option (List ℕ)) → Dialogue calls given left written → before.coming ≡ child_then given after.coming
      → after.launched ≡ then_launched before.launched program → after.finished ≡ then_finished before.finished left written
      → HasItsChild program calls before after

-- the same is asked
abbrev pub AsksAlike : Call → Call → Type 0
AsksAlike (Start spec first) (Start other second) = spec ≡ other
AsksAlike (GetPin error first) (GetPin other second) = error ≡ other
AsksAlike (Confirm first) (Confirm second) = ⊤
AsksAlike Shut Shut = ⊤
AsksAlike _ _ = ⊥

-- the same is asked by each of the calls in turn, and the same ones of them fail
pub data AskAlike : List Call → List Call → Type 0 where
  none : AskAlike [] []
  one : {call other : Call} {calls others : List Call} → AsksAlike call other → is_failed call ≡ is_failed other → AskAlike calls others
      → AskAlike (call ∷ calls) (other ∷ others)

-- a call was answered that the bytes allowed of its child were all taken
abbrev pub IsSpent : Call → Type 0
IsSpent (Start spec (opened.Broken breach.Spent)) = ⊤
IsSpent (GetPin error (outcome.Broken breach.Spent)) = ⊤
IsSpent (Confirm (agreed.Broken breach.Spent)) = ⊤
IsSpent _ = ⊥

pub data HasSpent : List Call → Type 0 where
  here : {call : Call} {more : List Call} → IsSpent call → HasSpent (call ∷ more)
  later : {call : Call} {more : List Call} → HasSpent more → HasSpent (call ∷ more)

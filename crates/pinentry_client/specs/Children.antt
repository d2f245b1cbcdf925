-- Prompts one after another, and the children that they have (pinentry manual, "protocol"). Which prompts have one is this project's own.
use Rattle.std.specs.Prelude.{◌≡◌, ℕ, List, [], ◌∷◌, ◌++◌, Option}
use Rattle.{agent_ask.specs.{Events.{Call, Start, Shut}, declared.prompt.spec.PromptSpec.PromptSpec}, agent_ports.specs.Launches.{Launches, Finished, child_then, then_launched, then_finished}}
use Rattle.pinentry_client.specs.Whole.{IsOnePrompt, Dialogue}
use Rattle.agent_ask.specs.declared.prompt.prompter.Opened.TheVariants as opened

-- some calls are those of these prompts, one after another
pub data ArePrompts : List (List Call) → List Call → Type 0 where
  none : ArePrompts [] []
  next : {prompt calls : List Call} {prompts : List (List Call)} → IsOnePrompt prompt → ArePrompts prompts calls → ArePrompts (prompt ∷ prompts) (prompt ++ calls)

-- A child that was launched and finished: the bytes that it could give, those that it had left in the end, and those that it was written, where they are
-- known.
pub record Child : Type 0 where
  pub given : Option (List ℕ)
  pub left : Option (List ℕ)
  pub written : Option (List ℕ)

-- The prompts' children, in order: each prompt has one, with which its calls are a dialogue, but for a prompt whose launch failed, which is shut at once.
pub data HaveChildren : List (List Call) → List Child → Type 0 where
  none : HaveChildren [] []
  unlaunched : {spec : PromptSpec} {prompts : List (List Call)} {children : List Child} → HaveChildren prompts children
      → HaveChildren ((Start spec opened.Failed ∷ Shut ∷ []) ∷ prompts) children
  one : {prompt : List Call} {prompts : List (List Call)} {children : List Child} (child : Child) → Dialogue prompt child.given child.left child.written
      → HaveChildren prompts children → HaveChildren (prompt ∷ prompts) (child ∷ children)

-- these children, and then those to come
abbrev pub coming_with : List Child → Option (List (List ℕ)) → Option (List (List ℕ))
coming_with [] coming = coming
coming_with (child ∷ more) coming = child_then child.given (coming_with more coming)

-- the programs, and then this one for each of these children
abbrev pub launched_with : List ℕ → Option (List (List ℕ)) → List Child → Option (List (List ℕ))
launched_with program launched [] = launched
launched_with program launched (child ∷ more) = launched_with program (then_launched launched program) more

-- the finished ones, and then these
abbrev pub finished_with : Option (List Finished) → List Child → Option (List Finished)
finished_with finished [] = finished
finished_with finished (child ∷ more) = finished_with (then_finished finished child.left child.written) more

-- The children of prompts, and the launcher before and after them: they are the next to come, all of them run this program, and they are the last that it
-- has finished, in order.
pub record HaveTheirChildren (program : List ℕ) (prompts : List (List Call)) (before after : Launches) : Type 0 where
  pub children : List Child
  pub have : HaveChildren prompts children
  pub coming : before.coming ≡ coming_with children after.coming
  pub launched : after.launched ≡ launched_with program before.launched children
  pub finished : after.finished ≡ finished_with before.finished children

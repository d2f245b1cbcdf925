-- A dialogue never says that there was no connection, or no memory for one.
use Rattle.std.proofs.Common.{◌≡◌, ◌∷◌, [], List, arith, rules}
use Rattle.assuan_client.specs.declared.answer.Answer.{Answer}
use Rattle.passphrase_talk.specs.{declared.{dialogue.Course.Course, told.Told.Told}, Dialogues.{told_of, told_from, told_behind, told_by, loss_of, quiet, after_said}, Turns.{Said, Hello, OptionLine, Request, End, Cancel, Turn}}
use Rattle.passphrase_talk.specs.declared.told.Loss.TheVariants as loss
use Rattle.passphrase_talk.specs.declared.told.Told.TheVariants as told

by_answer : (course : Course) (last : Answer) → told_by course last ≡ told.Lost loss.Unmet → ⊥
by_answer course last is = grind (arith, rules)

behind_answer : (course : Course) (last : Answer) (turns : List Turn) → told_behind course last turns ≡ told.Lost loss.Unmet → ⊥
behind_answer course last [] is = by_answer course last is
behind_answer course last (turn ∷ turns) is = behind_answer (after_said turn.said course) turn.answer turns is

loss_met : (last : Answer) → told.Lost (loss_of last) ≡ told.Lost loss.Unmet → ⊥
loss_met last is = grind (arith, rules)

from_turn : (said : Said) (last : Answer) (turns : List Turn) (later : Told) → (later ≡ told.Lost loss.Unmet → ⊥) → told_from said last turns later ≡ told.Lost loss.Unmet → ⊥
from_turn (Request line) last turns later not is = behind_answer quiet last turns is
from_turn Hello last [] later not is = loss_met last is
from_turn Hello last (turn ∷ turns) later not is = not is
from_turn (OptionLine option) last [] later not is = loss_met last is
from_turn (OptionLine option) last (turn ∷ turns) later not is = not is
from_turn End last [] later not is = loss_met last is
from_turn End last (turn ∷ turns) later not is = not is
from_turn Cancel last [] later not is = loss_met last is
from_turn Cancel last (turn ∷ turns) later not is = not is

pub never_unmet : (turns : List Turn) → told_of turns ≡ told.Lost loss.Unmet → ⊥
never_unmet [] is = grind (arith, rules)
never_unmet (turn ∷ turns) is = from_turn turn.said turn.answer turns (told_of turns) (never_unmet turns) is

-- ---- no memory

has_memory : (course : Course) (last : Answer) → told_by course last ≡ told.NoMemory → ⊥
has_memory course last is = grind (arith, rules)

had_memory : (course : Course) (last : Answer) (turns : List Turn) → told_behind course last turns ≡ told.NoMemory → ⊥
had_memory course last [] is = has_memory course last is
had_memory course last (turn ∷ turns) is = had_memory (after_said turn.said course) turn.answer turns is

loss_has_memory : (last : Answer) → told.Lost (loss_of last) ≡ told.NoMemory → ⊥
loss_has_memory last is = grind (arith, rules)

turn_has_memory : (said : Said) (last : Answer) (turns : List Turn) (later : Told) → (later ≡ told.NoMemory → ⊥) → told_from said last turns later ≡ told.NoMemory → ⊥
turn_has_memory (Request line) last turns later not is = had_memory quiet last turns is
turn_has_memory Hello last [] later not is = loss_has_memory last is
turn_has_memory Hello last (turn ∷ turns) later not is = not is
turn_has_memory (OptionLine option) last [] later not is = loss_has_memory last is
turn_has_memory (OptionLine option) last (turn ∷ turns) later not is = not is
turn_has_memory End last [] later not is = loss_has_memory last is
turn_has_memory End last (turn ∷ turns) later not is = not is
turn_has_memory Cancel last [] later not is = loss_has_memory last is
turn_has_memory Cancel last (turn ∷ turns) later not is = not is

pub never_short : (turns : List Turn) → told_of turns ≡ told.NoMemory → ⊥
never_short [] is = grind (arith, rules)
never_short (turn ∷ turns) is = turn_has_memory turn.said turn.answer turns (told_of turns) (never_short turns) is

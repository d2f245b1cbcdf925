-- Command lines, and what each asks for.
use Rattle.std.{proofs.Common.{◌≡◌, ℕ, true, false, List, [], ◌∷◌, Some, None, refl, arith}, specs.Prelude.codes}
use Rattle.passphrase_words.specs.{Options.form_of, Requests.{line_of_request, Looks, Asks, Clears, Presets}, Spelling.{none, flag, joined, apart}, Tasks.{TaskValue, WantedValue, WantsHelp, WantsTask}, Words.{Reads, help, task}}
use Rattle.passphrase_words.{specs.declared.task.Act.TheVariants.Give, proofs.Reading.{no_such_task, no_operands}}

-- nothing is read of the words
abbrev IsRefused : List (List ℕ) → Type 0
IsRefused words = (wanted : WantedValue) → Reads words wanted → ⊥

-- `passphrase id`
plain_task : TaskValue
plain_task = record {
  folder = None;
  seconds = None;
  id = codes "id";
  act = Give false false None true;
  texts = codes "X Passphrase+id";
}

an_id : Reads (codes "id" ∷ []) (WantsTask plain_task)
unfolding plain_task
an_id = task none refl (record {
  sound = refl;
  together = refl;
  alone_or_free = refl;
  counted = refl;
  task_is = refl;
  fit = record { id_is = refl; short = omega arith; whole = refl };
})

its_request : line_of_request plain_task Asks ≡ codes "GET_PASSPHRASE --data id X X Passphrase+id"
unfolding plain_task
its_request = refl

its_look_up : line_of_request plain_task Looks ≡ codes "GET_PASSPHRASE --data --no-ask id X X Passphrase+id"
unfolding plain_task
its_look_up = refl

it_is_forgotten : line_of_request plain_task Clears ≡ codes "CLEAR_PASSPHRASE id"
unfolding plain_task
it_is_forgotten = refl

it_is_stored : line_of_request plain_task (Presets None (codes "a\nJ")) ≡ codes "PRESET_PASSPHRASE id -1 610A4A"
unfolding plain_task
it_is_stored = refl

-- `passphrase --new '--prompt=A +prompt%:' --homedir d -- id X`
full_task : TaskValue
full_task = record {
  folder = Some (codes "d");
  seconds = None;
  id = codes "id";
  act = Give true false None true;
  texts = codes "A+%2Bprompt%25: %58";
}

a_full_line : Reads (codes "--new" ∷ codes "--prompt=A +prompt%:" ∷ codes "--homedir" ∷ codes "d" ∷ codes "--" ∷ codes "id" ∷ codes "X" ∷ []) (WantsTask full_task)
unfolding full_task form_of
a_full_line = task (flag {name = codes "--new"} refl (joined {name = codes "--prompt"} {value = codes "A +prompt%:"} refl (apart {name = codes "--homedir"} {value = codes "d"} refl none))) refl (record {
  sound = refl;
  together = refl;
  alone_or_free = refl;
  counted = refl;
  task_is = refl;
  fit = record { id_is = refl; short = omega arith; whole = refl };
})

its_prompt : line_of_request full_task Asks ≡ codes "GET_PASSPHRASE --data --repeat=1 id X A+%2Bprompt%25: %58"
unfolding full_task
its_prompt = refl

-- what is behind `--help` isn't looked at
help_first : Reads (codes "--new" ∷ codes "--help" ∷ codes "--clear" ∷ []) WantsHelp
unfolding form_of
help_first = help (flag {name = codes "--new"} refl none) refl

no_words : IsRefused []
unfolding form_of
no_words = no_such_task [] [] [] refl refl refl (λ t is. cc is.counted)

an_empty_id : IsRefused ([] ∷ [])
unfolding form_of
an_empty_id = no_such_task ([] ∷ []) ([] ∷ []) ([] ∷ []) refl refl refl (λ t is. let id = is.fit.id_is in let no = rw is.task_is at id in cc no)

an_unknown_option : IsRefused (codes "--clear" ∷ codes "id" ∷ [])
unfolding form_of
an_unknown_option = no_operands (codes "--clear" ∷ codes "id" ∷ []) (codes "--clear" ∷ codes "id" ∷ []) refl refl refl

a_short_option : IsRefused (codes "-n" ∷ codes "id" ∷ [])
unfolding form_of
a_short_option = no_operands (codes "-n" ∷ codes "id" ∷ []) (codes "-n" ∷ codes "id" ∷ []) refl refl refl

new_twice : IsRefused (codes "--new" ∷ codes "--new" ∷ codes "id" ∷ [])
unfolding form_of
new_twice = no_such_task (codes "--new" ∷ codes "--new" ∷ codes "id" ∷ []) (codes "id" ∷ []) (codes "id" ∷ []) refl refl refl (λ t is. cc is.sound)

an_empty_prompt : IsRefused (codes "--prompt=" ∷ codes "id" ∷ [])
unfolding form_of
an_empty_prompt = no_such_task (codes "--prompt=" ∷ codes "id" ∷ []) (codes "id" ∷ []) (codes "id" ∷ []) refl refl refl (λ t is. cc is.sound)

new_and_no_ask : IsRefused (codes "--new" ∷ codes "--no-ask" ∷ codes "id" ∷ [])
unfolding form_of
new_and_no_ask = no_such_task (codes "--new" ∷ codes "--no-ask" ∷ codes "id" ∷ []) (codes "id" ∷ []) (codes "id" ∷ []) refl refl refl (λ t is. cc is.together)

forget_with_a_description : IsRefused (codes "--forget" ∷ codes "id" ∷ codes "text" ∷ [])
unfolding form_of
forget_with_a_description =
    no_such_task (codes "--forget" ∷ codes "id" ∷ codes "text" ∷ []) (codes "id" ∷ codes "text" ∷ []) (codes "id" ∷ codes "text" ∷ []) refl refl refl (λ t is. cc is.alone_or_free)

an_option_behind_the_id : IsRefused (codes "id" ∷ codes "text" ∷ codes "--new" ∷ [])
unfolding form_of
an_option_behind_the_id =
    no_such_task (codes "id" ∷ codes "text" ∷ codes "--new" ∷ []) (codes "id" ∷ codes "text" ∷ codes "--new" ∷ []) (codes "id" ∷ codes "text" ∷ codes "--new" ∷ []) refl refl refl (λ t is. cc is.counted)

a_folder_that_is_missing : IsRefused (codes "--homedir" ∷ [])
unfolding form_of
a_folder_that_is_missing = no_operands (codes "--homedir" ∷ []) (codes "--homedir" ∷ []) refl refl refl

-- When options and operands are a task's, and which. The rules are this project's own.
use Rattle.std.specs.{Prelude.{◌≡◌, ℕ, ◌&&◌, ◌||◌, not, Bool, true, false, List, [], ◌∷◌, codes, get_or, length, ◌==◌, Option, Some, None, if◌then◌else◌}, List.list_all, Option.{option_and_then, option_map_or}, Str.bytes_eq}
use Rattle.passphrase_words.specs.{Ids.askpass_id, Options.{form_of, is_of_form, seconds_of, excluded}, Questions.prompt_for, Spelling.{Setting, is_set, value_given}, Tasks.TaskValue, Texts.{Fits, description_by, texts_of}, declared.task.Act.Act}
use Rattle.passphrase_words.specs.declared.task.Act.TheVariants.{Give, Cached, Forget, ForgetAll, Store}

-- the value has the form of its option
abbrev pub fits : Setting → Bool
fits setting = option_map_or (λ form. is_of_form form setting.1) (form_of setting.0) false

-- each has its form, and none is given twice
abbrev pub are_sound : List Setting → Bool
are_sound [] = true
are_sound (setting ∷ others) = fits setting && not (is_set setting.0 others) && are_sound others

-- not both of the two are given
abbrev pub is_apart : List Setting → List ℕ × List ℕ → Bool
is_apart given pair = not (is_set pair.0 given && is_set pair.1 given)

-- nothing is given together that excludes one another
abbrev pub go_together : List Setting → Bool
go_together given = list_all (is_apart given) excluded

-- an id alone is wanted
abbrev pub wants_id_alone : List Setting → Bool
wants_id_alone given = is_set (codes "--forget") given || is_set (codes "--store") given || is_set (codes "--cached") given

-- all that is kept is to be forgotten
abbrev pub forgets_all : List Setting → Bool
forgets_all given = is_set (codes "--forget-all") given

-- an id, and maybe a description; and nothing where all is forgotten
abbrev pub are_counted : List Setting → List (List ℕ) → Bool
are_counted given operands = if forgets_all given then length operands == 0 else length operands == 1 || length operands == 2

-- the id; where all is forgotten it is said of `all`
abbrev pub id_given : List Setting → List (List ℕ) → List ℕ
id_given given operands = if forgets_all given then codes "all" else get_or operands 0 []

-- the description, which names what is new where none is given
abbrev pub description_given : List Setting → List (List ℕ) → List ℕ
description_given given operands = description_by (is_set (codes "--new") given) (id_given given operands) (get_or operands 1 [])

-- where an id alone is wanted there is neither a description nor a prompt
abbrev pub is_alone_or_free : List Setting → List (List ℕ) → Bool
is_alone_or_free given operands =
    if wants_id_alone given then length operands == 1 && not (is_set (codes "--prompt") given) else true

-- the seconds that an option is given
abbrev pub seconds_given : List ℕ → List Setting → Option ℕ
seconds_given name given = option_and_then seconds_of (value_given name given)

-- what is to be done
abbrev pub act_of : List Setting → Act
act_of given =
    if forgets_all given then ForgetAll
    else if is_set (codes "--forget") given then Forget
    else if is_set (codes "--store") given then Store
    else if is_set (codes "--cached") given then Cached
    else Give (is_set (codes "--new") given) (is_set (codes "--no-ask") given) (seconds_given (codes "--ttl") given)
    (not (is_set (codes "--null") given))

-- the task of these options and operands
abbrev pub task_of : List Setting → List (List ℕ) → TaskValue
task_of given operands =
    let id = id_given given operands in
    record {
      folder = value_given (codes "--homedir") given;
      seconds = seconds_given (codes "--timeout") given;
      id = id;
      act = act_of given;
      texts = texts_of id (value_given (codes "--prompt") given) (description_given given operands);
    }

-- the options and the operands are the task's
pub record IsTask (given : List Setting) (operands : List (List ℕ)) (task : TaskValue) : Type 0 where
  pub sound : are_sound given ≡ true
  pub together : go_together given ≡ true
  pub alone_or_free : is_alone_or_free given operands ≡ true
  pub counted : are_counted given operands ≡ true
  pub task_is : task ≡ task_of given operands
  pub fit : Fits task.id task.texts

-- an askpass is called with a text, whose passphrase is given, or asked for; or with `--forget` and a text, whose passphrase is forgotten
abbrev pub askpass_asked : List (List ℕ) → Option (List ℕ × Act)
askpass_asked (text ∷ []) = if bytes_eq text (codes "--forget") then None else Some (text, Give false false None true)
askpass_asked (word ∷ text ∷ []) = if bytes_eq word (codes "--forget") then Some (text, Forget) else None
askpass_asked _ = None

-- its task for this text
abbrev pub askpass_task : List ℕ → Act → TaskValue
askpass_task text act = record {
  folder = None;
  seconds = None;
  id = askpass_id text;
  act = act;
  texts = texts_of (askpass_id text) (prompt_for text) text;
}

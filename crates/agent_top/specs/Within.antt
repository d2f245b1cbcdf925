-- What an option is given, or else its default, lies within the bounds of its numbers, which are this project's own: so the rules
-- that are read have the facts that their type keeps.
use Rattle.std.{specs.{Prelude.{◌≤◌, ℕ, ◌&&◌, nat_le, List, codes, unwrap_or, Option, Some, None}, Option.option_and_then}, proofs.{Common.lit≤, lemmas.Bool.{leb-true, and_parts, cond_both}}}
use Rattle.{session_options.specs.{Counts.{IsS2kCount, IsWorkers}, Defaults.default_rules}, assuan_text.specs.Numbers.number_of}
use Rattle.agent_top.specs.{Settings.{Setting, value_given}, Forms.{form_of, if_between, number_for, number_or}, declared.words.forms.Form.{Form, TheVariants.{Flag, Path, Number}}}

-- a number that an option of this form may be given
abbrev pub IsWithin : Option Form → ℕ → Type 0
IsWithin (Some (Number least greatest)) number = (least ≤ number) × (number ≤ greatest)
IsWithin _ number = ⊥

-- a number, or else a default, where the default is within the bounds
between : (least greatest default : ℕ) (number : Option ℕ) → (least ≤ default) × (default ≤ greatest)
    → (least ≤ unwrap_or (option_and_then (if_between least greatest) number) default)
    × (unwrap_or (option_and_then (if_between least greatest) number) default ≤ greatest)
between least greatest default None within = within
between least greatest default (Some number) within =
    cond_both (nat_le least number && nat_le number greatest) (Some number) None
    (λ chosen. (least ≤ unwrap_or chosen default) × (unwrap_or chosen default ≤ greatest))
    (λ e. let parts = and_parts (nat_le least number) (nat_le number greatest) e in (leb-true least number parts.0, leb-true number greatest parts.1))
    (λ _. within)

-- a value, or else a default, is within the bounds where the default is
pub number_is_within : (form : Option Form) (default : ℕ) (value : Option (List ℕ)) → IsWithin form default
    → IsWithin form (unwrap_or (option_and_then (number_for form) value) default)
number_is_within (Some (Number least greatest)) default None within = within
number_is_within (Some (Number least greatest)) default (Some value) within = between least greatest default (number_of value) within
number_is_within (Some Flag) default value within = absurd within
number_is_within (Some Path) default value within = absurd within
number_is_within None default value within = absurd within

pub count_is_within : (given : List Setting) → IsS2kCount (number_or default_rules.s2k_count (codes "--s2k-count") given)
unfolding form_of
count_is_within given =
    let within = number_is_within (form_of (codes "--s2k-count")) default_rules.s2k_count (value_given (codes "--s2k-count") given) (lit≤ tt, lit≤ tt) in
    record { least = within.0; greatest = within.1 }

pub workers_are_within : (given : List Setting) → IsWorkers (number_or default_rules.workers (codes "--workers") given)
unfolding form_of
workers_are_within given =
    let within = number_is_within (form_of (codes "--workers")) default_rules.workers (value_given (codes "--workers") given) (lit≤ tt, lit≤ tt) in
    record { least = within.0; greatest = within.1 }

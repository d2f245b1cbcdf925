-- Lines that a door answers by itself, by what each is.
use Rattle.std.proofs.Common.{◌≡◌, ◌⊎◌, inl, inr, ℕ, Bool, true, false, cond, List, Option, Some, None, refl}
use Rattle.{agent_commands.specs.Requests.request_of, command_table.specs.{Commands.command_in, declared.commands.{Command.Command, CommandName.CommandName, TrustCommandName.TrustCommandName}}}
use Rattle.agent_origin.specs.{DoorSessions.{own_to_door, door_command}, Doors.sets_terminal, TrustRequests.trust_command, declared.{door.Door.{Door, TheVariants.{Home, Outer}}, door_session.DoorCommand.DoorCommand}}
use Rattle.agent_origin.specs.declared.door_session.DoorCommand.TheVariants.{Help, Trust, Terminal}
use Rattle.command_table.specs.declared.commands.Command.TheVariants as on
use Rattle.command_table.specs.declared.commands.CommandName.TheVariants as name

named_by : {X : Type 0} {terminal x : X} → ¬ (terminal ≡ x) → (sets : Bool) (rest : Option X) → cond sets (Some terminal) rest ≡ Some x → rest ≡ Some x
named_by {terminal} {x} other true rest is = absurd (other (let same : terminal ≡ x = cc is in same))
named_by other false rest is = is

-- one that is no option of the terminal is a command that the door answers
own_command : (door : Door) (line : List ℕ) {command : DoorCommand} → ¬ (Terminal ≡ command) → door_command door line ≡ Some command → own_to_door (command_in line) ≡ Some command
own_command Home line other is = is
own_command Outer line other is = named_by other (sets_terminal (request_of line)) _ is

unnamed_by : {X : Type 0} (terminal : X) (sets : Bool) (rest : Option X) → cond sets (Some terminal) rest ≡ None → rest ≡ None
unnamed_by terminal true rest is = cc is
unnamed_by terminal false rest is = is

-- of those on the cache it answers HELP alone
of_cache : (name : CommandName) → (own_to_door (Some (on.Cache name)) ≡ Some Help) ⊎ (own_to_door (Some (on.Cache name)) ≡ None)
of_cache name.Help = inl refl
of_cache _ = inr refl

trust_by : (found : Option Command) → own_to_door found ≡ Some Trust → (name : TrustCommandName) × (trust_command found ≡ Some name)
trust_by (Some (on.Trust name)) is = (name, refl)
trust_by (Some (on.Cache name)) is = elim (of_cache name) [ inl help ↦ absurd (cc (help, is)) | inr none ↦ absurd (cc (none, is)) ]
trust_by (Some (on.Key name)) is = absurd (cc is)
trust_by None is = absurd (cc is)

no_trust_by : {command : Option DoorCommand} → ¬ (Some Trust ≡ command) → (found : Option Command) → own_to_door found ≡ command → trust_command found ≡ None
no_trust_by other (Some (on.Trust name)) is = absurd (other is)
no_trust_by other (Some (on.Cache name)) is = refl
no_trust_by other (Some (on.Key name)) is = refl
no_trust_by other None is = refl

-- so one on the trust list is what the door answers as such, and no other one is
pub trust_named : (door : Door) (line : List ℕ) → door_command door line ≡ Some Trust → (name : TrustCommandName) × (trust_command (command_in line) ≡ Some name)
trust_named door line is = trust_by (command_in line) (own_command door line (λ e. absurd (cc e)) is)

pub help_is_no_trust : (door : Door) (line : List ℕ) → door_command door line ≡ Some Help → trust_command (command_in line) ≡ None
help_is_no_trust door line is = no_trust_by (λ e. absurd (cc e)) (command_in line) (own_command door line (λ e. absurd (cc e)) is)

pub other_is_no_trust : (door : Door) (line : List ℕ) → door_command door line ≡ None → trust_command (command_in line) ≡ None
other_is_no_trust Home line is = no_trust_by (λ e. absurd (cc e)) (command_in line) is
other_is_no_trust Outer line is = no_trust_by (λ e. absurd (cc e)) (command_in line) (unnamed_by _ (sets_terminal (request_of line)) _ is)

never_terminal : (found : Option Command) → own_to_door found ≡ Some Terminal → ⊥
never_terminal (Some (on.Trust name)) is = cc is
never_terminal (Some (on.Cache name)) is = elim (of_cache name) [ inl help ↦ cc (help, is) | inr none ↦ cc (none, is) ]
never_terminal (Some (on.Key name)) is = cc is
never_terminal None is = cc is

terminal_by : (sets : Bool) (found : Option Command) → cond sets (Some Terminal) (own_to_door found) ≡ Some Terminal → sets ≡ true
terminal_by true found is = refl
terminal_by false found is = absurd (never_terminal found is)

-- an option of the terminal is one
pub terminal_set : (door : Door) (line : List ℕ) → door_command door line ≡ Some Terminal → sets_terminal (request_of line) ≡ true
terminal_set Outer line is = terminal_by (sets_terminal (request_of line)) (command_in line) is
terminal_set Home line is = absurd (never_terminal (command_in line) is)

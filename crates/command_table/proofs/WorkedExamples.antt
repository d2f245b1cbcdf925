-- The definitions on worked examples, each by computation.
use Rattle.std.specs.Prelude.{◌≡◌, [], ◌∷◌, ◌++◌, map, codes, true, false, Some, None, refl}
use Rattle.command_table.specs.{Commands.{command_in, command_named, commands, ends_description, names_told, is_listed}, declared.commands.{Command.TheVariants.{Cache, Key, Trust}, CommandName.TheVariants.{GetInfo, Nop, SetKeyDesc}}}
use Rattle.command_table.specs.declared.commands.{KeyCommandName.TheVariants.Passwd, TrustCommandName.TheVariants.IsTrusted}

in_any_case : command_in (codes " GetInfo version") ≡ Some (Cache GetInfo)
unfolding command_named
in_any_case = refl

whole_words : map command_in (codes "PASSWD 00" ∷ codes "PASSWDS" ∷ codes "PASS" ∷ [] ∷ []) ≡ Some (Key Passwd) ∷ None ∷ None ∷ None ∷ []
unfolding command_named
whole_words = refl

it_stays : map (λ line. ends_description (command_in line)) (codes "HAVEKEY" ∷ codes "KEYINFO --list" ∷ codes "keywrap_key --export" ∷ codes "PASSWDS" ∷ []) ≡ false ∷ false ∷ false ∷ false ∷ []
unfolding command_named
it_stays = refl

it_ends : map (λ line. ends_description (command_in line)) (codes " export_key" ∷ codes "IMPORT_KEY" ∷ codes "PASSWD --verify 00" ∷ codes "DELETE_KEY --stub-only" ∷ []) ≡ true ∷ true ∷ true ∷ true ∷ []
unfolding command_named
it_ends = refl

-- HELP of a session without a door, and what it tells at one besides
told : names_told false ((codes "NOP", Cache Nop) ∷ (codes "SETKEYDESC", Cache SetKeyDesc) ∷ (codes "PASSWD", Key Passwd) ∷ (codes "ISTRUSTED", Trust IsTrusted) ∷ []) ≡ codes "NOP" ∷ codes "PASSWD" ∷ []
told = refl

told_at_a_door : names_told true commands ≡ names_told false commands ++ codes "ISTRUSTED" ∷ codes "MARKTRUSTED" ∷ []
told_at_a_door = refl

-- byte for byte
listed_pair : is_listed (codes "PASSWD") (codes "verify") ≡ true
unfolding is_listed
listed_pair = refl

unlisted_case : is_listed (codes "passwd") (codes "verify") ≡ false
unfolding is_listed
unlisted_case = refl

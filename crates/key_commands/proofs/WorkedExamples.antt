-- The definition of requests on worked examples, each by computation.
use Rattle.std.{specs.Prelude.{◌≡◌, ℕ, List, [], ◌∷◌, ◌++◌, replicate, codes, true, false, Some, None, refl}, proofs.Common.{◌≤◌, length, arith}}
use Rattle.{hex.proofs.OnLiterals.hex_on_literals, agent_ports.specs.declared.grip.Grip.Grip, session_client.specs.declared.code.Code.TheVariants.{NotSupported, UnknownCommand, Parameter}, command_table.specs.Commands.command_named}
use Rattle.key_commands.specs.{Requests.key_request_of, declared.request.{Direction.TheVariants.{Import, Export}, KeyRequest.TheVariants.{HaveKey, ListGrips, KeyInfo, ListKeys, KeyWrap, ImportKey, ExportKey, Passwd, DeleteKey, Bad}}}
use Rattle.key_commands.specs.declared.wrapping.TheConstants.{MAX_LIST_LEN}

-- a key, and its name with digits of both cases
abbrev the_key : Grip
the_key = record { 0 = 0 ∷ 1 ∷ replicate 17 170 ++ 255 ∷ [] }

abbrev its_name : List ℕ
its_name = codes "0001" ++ replicate 34 97 ++ codes "fF"

other_command : key_request_of (codes "GETINFO version") ≡ Bad UnknownCommand
unfolding key_request_of command_named
other_command = refl

have_mark : key_request_of (codes "havekey  " ++ its_name ++ codes " -- ") ≡ Bad Parameter
unfolding key_request_of command_named hex_on_literals
have_mark = refl

have_two : key_request_of (codes "HAVEKEY --frob -- " ++ its_name ++ 9 ∷ its_name) ≡ HaveKey (the_key ∷ the_key ∷ [])
unfolding key_request_of command_named hex_on_literals
have_two = refl

have_none : key_request_of (codes "HAVEKEY") ≡ Bad Parameter
unfolding key_request_of command_named
have_none = refl

have_all : key_request_of (codes "HAVEKEY --list") ≡ ListGrips
unfolding key_request_of command_named
have_all = refl

-- as gpg of GnuPG 2.4 asks for it; further words are passed over
have_thousand : key_request_of (codes "HAVEKEY --list=1000 00") ≡ ListGrips
unfolding key_request_of command_named
have_thousand = refl

have_none_of_all : key_request_of (codes "HAVEKEY --list=0") ≡ Bad Parameter
unfolding key_request_of command_named
have_none_of_all = refl

-- zeros in front count as digits
ten_digits : key_request_of (codes "HAVEKEY --list=0000000001") ≡ ListGrips
unfolding key_request_of command_named
ten_digits = refl

eleven_digits : key_request_of (codes "HAVEKEY --list=00000000001") ≡ Bad Parameter
unfolding key_request_of command_named
eleven_digits = refl

no_digits : key_request_of (codes "HAVEKEY --list --list=") ≡ Bad Parameter
unfolding key_request_of command_named
no_digits = refl

-- `--list` stands behind the end of the options
have_all_mark : key_request_of (codes "HAVEKEY -- --list") ≡ Bad Parameter
unfolding key_request_of command_named hex_on_literals
have_all_mark = refl

info : key_request_of (codes "KEYINFO " ++ its_name ++ codes " more") ≡ KeyInfo the_key
unfolding key_request_of command_named hex_on_literals
info = refl

info_list : key_request_of (codes "KEYINFO --list more") ≡ ListKeys
unfolding key_request_of command_named
info_list = refl

-- `--list` stands behind the end of the options
info_mark : key_request_of (codes "KEYINFO -- --list") ≡ Bad Parameter
unfolding key_request_of command_named hex_on_literals
info_mark = refl

short_name : key_request_of (codes "KEYINFO " ++ replicate 39 48) ≡ Bad Parameter
unfolding key_request_of command_named
short_name = refl

other_digit : key_request_of (codes "KEYINFO " ++ replicate 39 48 ++ codes "g") ≡ Bad Parameter
unfolding key_request_of command_named hex_on_literals
other_digit = refl

wrap : key_request_of (codes "KEYWRAP_KEY --import") ≡ KeyWrap Import
unfolding key_request_of command_named
wrap = refl

wrap_out : key_request_of (codes "keywrap_key --clear --export") ≡ KeyWrap Export
unfolding key_request_of command_named
wrap_out = refl

wrap_both : key_request_of (codes "KEYWRAP_KEY --import --export") ≡ Bad Parameter
unfolding key_request_of command_named
wrap_both = refl

wrap_neither : key_request_of (codes "KEYWRAP_KEY import") ≡ Bad Parameter
unfolding key_request_of command_named
wrap_neither = refl

import : key_request_of (codes "IMPORT_KEY") ≡ ImportKey false None
unfolding key_request_of command_named
import = refl

import_forced : key_request_of (codes "IMPORT_KEY --force " ++ replicate 50 97) ≡ ImportKey true (Some (replicate 50 97))
unfolding key_request_of command_named
import_forced = refl

nonce_of_51 : key_request_of (codes "IMPORT_KEY " ++ replicate 51 97) ≡ Bad Parameter
unfolding key_request_of command_named
nonce_of_51 = refl

export : key_request_of (codes "EXPORT_KEY --cache-nonce=A --cache-nonce=N " ++ its_name) ≡ ExportKey the_key (Some (codes "N"))
unfolding key_request_of command_named hex_on_literals
export = refl

-- without a value it is another option
export_without : key_request_of (codes "EXPORT_KEY --cache-nonce " ++ its_name) ≡ ExportKey the_key None
unfolding key_request_of command_named hex_on_literals
export_without = refl

empty_nonce : key_request_of (codes "EXPORT_KEY --cache-nonce= " ++ its_name) ≡ Bad Parameter
unfolding key_request_of command_named hex_on_literals
empty_nonce = refl

passwd : key_request_of (codes "PASSWD --cache-nonce=N --passwd-nonce=M --verify " ++ its_name) ≡ Passwd the_key (Some (codes "N")) (Some (codes "M")) true
unfolding key_request_of command_named hex_on_literals
passwd = refl

delete : key_request_of (codes "DELETE_KEY --force " ++ its_name) ≡ DeleteKey the_key true
unfolding key_request_of command_named hex_on_literals
delete = refl

-- the name comes before the option that isn't supported
delete_stub : key_request_of (codes "DELETE_KEY --stub-only " ++ its_name) ≡ Bad NotSupported
unfolding key_request_of command_named hex_on_literals
delete_stub = refl

delete_nothing : key_request_of (codes "DELETE_KEY --stub-only") ≡ Bad Parameter
unfolding key_request_of command_named
delete_nothing = refl

-- the longest list of a key
longest_list : (list : List ℕ) → length list ≡ 65000 → length list ≤ MAX_LIST_LEN
longest_list list len = omega (arith, len)

longer_list : (list : List ℕ) → length list ≡ 65001 → length list ≤ MAX_LIST_LEN → ⊥
longer_list list len within = omega (arith, len, within)

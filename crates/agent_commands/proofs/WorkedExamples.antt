-- The definition on worked examples, each by computation.
use Rattle.std.specs.Prelude.{◌≡◌, ℕ, List, [], ◌∷◌, ◌++◌, replicate, codes, true, false, Some, None, Ok, refl}
use Rattle.{percent_encoding.proofs.OnLiterals.percent_encoding_on_literals, hex.proofs.OnLiterals.hex_on_literals, cache_policy.specs.declared.{life.Life.TheVariants.{Default, Endless, Seconds}, mode.Mode.TheVariants.{User, Normal, Ssh}}}
use Rattle.{command_table.specs.Commands.{command_named, is_listed}, agent_ask.specs.Plans.text, session_client.specs.declared.code.Code.TheVariants.{NotSupported, UnknownCommand, Parameter}}
use Rattle.agent_commands.specs.{Fields.passphrase, Requests.{GetFields, request_of, get_passphrase, info_named}, declared.request.Info.TheVariants.{Version, Listed}}
use Rattle.agent_commands.specs.declared.request.{CacheCommand.TheVariants.{Nop, Bye, SetOption, GetInfo, PresetPassphrase, ClearPassphrase, GetConfirmation, KillAgent}, Request.TheVariants.{Cache, Key, Bad}}

-- GET_PASSPHRASE with no option and no texts
abbrev of_id : List ℕ → GetFields
of_id id = record {
  plain = false;
  check = false;
  no_ask = false;
  repeat = 0;
  quality = false;
  id = Some id;
  texts = None;
}

nop_with_blanks : request_of (codes "NOP" ++ replicate 997 32) ≡ Cache Nop
unfolding request_of command_named
nop_with_blanks = refl

blanks_in_front : request_of (32 ∷ 9 ∷ codes "bye now") ≡ Cache Bye
unfolding request_of command_named
blanks_in_front = refl

version : request_of (codes "getinfo version") ≡ Cache (GetInfo Version)
unfolding request_of command_named info_named
version = refl

version_is_lower : request_of (codes "GETINFO Version") ≡ Bad Parameter
unfolding request_of command_named info_named
version_is_lower = refl

foo : request_of (codes "FOO") ≡ Bad UnknownCommand
unfolding request_of command_named
foo = refl

key : request_of (codes "Keyinfo --list") ≡ Key (text (codes "Keyinfo --list"))
unfolding request_of command_named
key = refl

no_command : request_of [] ≡ Bad UnknownCommand
unfolding request_of command_named
no_command = refl

unlisted_pair : request_of (codes "GETINFO cmd_has_option GET_PASSPHRASE mode") ≡ Bad NotSupported
unfolding request_of command_named info_named is_listed
unlisted_pair = refl

listed_pair : request_of (codes "GETINFO cmd_has_option PRESET_PASSPHRASE inquire more") ≡ Cache (GetInfo Listed)
unfolding request_of command_named info_named is_listed
listed_pair = refl

listed_key_pair : request_of (codes "GETINFO cmd_has_option PASSWD verify") ≡ Cache (GetInfo Listed)
unfolding request_of command_named info_named is_listed
listed_key_pair = refl

half_a_pair : request_of (codes "GETINFO cmd_has_option FOO") ≡ Bad Parameter
unfolding request_of command_named info_named
half_a_pair = refl

option_text : request_of (codes "OPTION --ttyname = /dev/pts/1") ≡ Cache (SetOption (text (codes "--ttyname = /dev/pts/1")))
unfolding request_of command_named
option_text = refl

preset : request_of (codes "PRESET_PASSPHRASE id1 -1 25") ≡ Cache (PresetPassphrase (codes "id1") Endless (Some (37 ∷ [])))
unfolding request_of command_named hex_on_literals
preset = refl

inquiry : request_of (codes "PRESET_PASSPHRASE --inquire -- id1 0 ") ≡ Cache (PresetPassphrase (codes "id1") Default None)
unfolding request_of command_named
inquiry = refl

seconds : request_of (codes "preset_passphrase --inquire id1 2147483647") ≡ Cache (PresetPassphrase (codes "id1") (Seconds 2147483647) None)
unfolding request_of command_named
seconds = refl

too_many_seconds : request_of (codes "preset_passphrase --inquire id1 2147483648") ≡ Bad Parameter
unfolding request_of command_named
too_many_seconds = refl

both_ways : request_of (codes "PRESET_PASSPHRASE --inquire id1 -1 25") ≡ Bad Parameter
unfolding request_of command_named
both_ways = refl

neither_way : request_of (codes "PRESET_PASSPHRASE id1 -1") ≡ Bad Parameter
unfolding request_of command_named
neither_way = refl

odd_digits : request_of (codes "PRESET_PASSPHRASE id1 -1 255") ≡ Bad Parameter
unfolding request_of command_named hex_on_literals
odd_digits = refl

bytes_of_255 : passphrase (Ok (replicate 255 97)) ≡ Some (replicate 255 97)
bytes_of_255 = refl

bytes_of_256 : passphrase (Ok (replicate 256 97)) ≡ None
bytes_of_256 = refl

get : request_of (codes "GET_PASSPHRASE --no-ask --data id1") ≡ Cache (get_passphrase (record (of_id (codes "id1")) { plain = true; no_ask = true }))
unfolding request_of command_named
get = refl

no_id : request_of (codes "GET_PASSPHRASE --no-ask X") ≡ Cache (get_passphrase (record (of_id (codes "X")) { no_ask = true; id = None }))
unfolding request_of command_named
no_id = refl

unknown_option : request_of (codes "GET_PASSPHRASE --frob --data=yes --repeat=9 --repeat=02 id1") ≡ Cache (get_passphrase (record (of_id (codes "id1")) { repeat = 2 }))
unfolding request_of command_named
unknown_option = refl

repeat_16 : request_of (codes "GET_PASSPHRASE --repeat=16 id1") ≡ Cache (get_passphrase (record (of_id (codes "id1")) { repeat = 16 }))
unfolding request_of command_named
repeat_16 = refl

repeat_17 : request_of (codes "GET_PASSPHRASE --repeat=17 id1") ≡ Bad Parameter
unfolding request_of command_named
repeat_17 = refl

repeat_once : request_of (codes "GET_PASSPHRASE --repeat=17 --repeat id1") ≡ Cache (get_passphrase (record (of_id (codes "id1")) { repeat = 1 }))
unfolding request_of command_named
repeat_once = refl

two_words : request_of (codes "GET_PASSPHRASE id1 X") ≡ Bad Parameter
unfolding request_of command_named
two_words = refl

usual_texts : request_of (codes "GET_PASSPHRASE id1 X X X more") ≡ Cache (get_passphrase (record (of_id (codes "id1")) {
  texts = Some (record {
    error = text [];
    prompt = text (codes "Passphrase:");
    description = text (codes "Please enter the passphrase");
  });
}))
unfolding request_of command_named
usual_texts = refl

escaped_texts : request_of (codes "GET_PASSPHRASE id1 a+b 100%25 %C3%a9+x") ≡ Cache (get_passphrase (record (of_id (codes "id1")) {
  texts = Some (record {
    error = text (codes "a b");
    prompt = text (codes "100%");
    description = text (195 ∷ 169 ∷ codes " x");
  });
}))
unfolding request_of command_named percent_encoding_on_literals
escaped_texts = refl

id_of_50 : request_of (codes "GET_PASSPHRASE " ++ replicate 50 97) ≡ Cache (get_passphrase (of_id (replicate 50 97)))
unfolding request_of command_named
id_of_50 = refl

id_of_51 : request_of (codes "GET_PASSPHRASE " ++ replicate 51 97) ≡ Bad Parameter
unfolding request_of command_named
id_of_51 = refl

clear : request_of (codes "clear_passphrase id1 more") ≡ Cache (ClearPassphrase (codes "id1") User)
unfolding request_of command_named
clear = refl

clear_normal : request_of (codes "CLEAR_PASSPHRASE --mode=ssh --mode=normal id1") ≡ Cache (ClearPassphrase (codes "id1") Normal)
unfolding request_of command_named
clear_normal = refl

-- `--mode` without a value is another option
clear_ssh : request_of (codes "CLEAR_PASSPHRASE --mode=ssh --mode id1") ≡ Cache (ClearPassphrase (codes "id1") Ssh)
unfolding request_of command_named
clear_ssh = refl

other_mode : request_of (codes "CLEAR_PASSPHRASE --mode=any id1") ≡ Bad Parameter
unfolding request_of command_named
other_mode = refl

confirmation : request_of (codes "GET_CONFIRMATION Really+send now") ≡ Cache (GetConfirmation (text (codes "Really send")))
unfolding request_of command_named percent_encoding_on_literals
confirmation = refl

usual_confirmation : request_of (codes "get_confirmation X") ≡ Cache (GetConfirmation (text (codes "Please confirm")))
unfolding request_of command_named
usual_confirmation = refl

kill : request_of (codes "KILLAGENT") ≡ Cache KillAgent
unfolding request_of command_named
kill = refl

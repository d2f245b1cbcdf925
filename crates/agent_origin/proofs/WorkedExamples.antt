-- The definitions on worked examples, each by computation.
use Rattle.std.{specs.Prelude.{◌≡◌, ◌++◌, replicate, codes, true, false, refl}, proofs.Common.{ℕ, ◌≤◌, List, length, None, Some, arith}}
use Rattle.{hex.proofs.OnLiterals.hex_on_literals, percent_encoding.proofs.OnLiterals.percent_encoding_on_literals, agent_commands.specs.Requests.request_of, agent_ports.specs.declared.grip.Grip.Grip}
use Rattle.{command_table.specs.Commands.command_named, session_client.specs.declared.code.Code.TheVariants.{UnknownCommand, Parameter}}
use Rattle.agent_origin.specs.{Doors.allowed, DoorSessions.door_command, declared.{door_session.DoorCommand.TheVariants.Terminal, trust.request.{TheConstants.MAX_NAME_LEN, TrustPurpose.TheVariants.X509}}}
use Rattle.agent_origin.specs.{declared.{trust.request.TrustRequest.TheVariants.{IsTrusted, MarkTrusted, Bad}, door.Door.TheVariants.{Home, Outer}}, TrustRequests.trust_request_of}

-- ---- doors

reload : allowed Outer (codes "RELOADAGENT") ≡ false
unfolding command_named
reload = refl

reload_at_home : allowed Home (codes "RELOADAGENT") ≡ true
reload_at_home = refl

cached : allowed Outer (codes "GET_PASSPHRASE --no-ask id1") ≡ false
unfolding command_named request_of
cached = refl

uncached : allowed Outer (codes "get_passphrase X X X X") ≡ true
unfolding command_named request_of
uncached = refl

-- it isn't in form
uncached_of_two_words : allowed Outer (codes "GET_PASSPHRASE X X") ≡ false
unfolding command_named request_of
uncached_of_two_words = refl

-- it isn't known
foo : allowed Outer (codes "FOO") ≡ true
unfolding command_named
foo = refl

one_key : allowed Outer (codes "KEYINFO " ++ replicate 40 65) ≡ true
unfolding command_named
one_key = refl

all_keys : allowed Outer (codes "KEYINFO --list") ≡ false
unfolding command_named
all_keys = refl

some_keys : allowed Outer (codes "HAVEKEY " ++ replicate 40 48) ≡ true
unfolding command_named
some_keys = refl

have_all_keys : allowed Outer (codes "HAVEKEY --list") ≡ false
unfolding command_named
have_all_keys = refl

have_thousand_keys : allowed Outer (codes "havekey --list=1000") ≡ false
unfolding command_named
have_thousand_keys = refl

-- a value makes no form of it allowed
no_count_of_keys : allowed Outer (codes "HAVEKEY --list= 00") ≡ false
unfolding command_named
no_count_of_keys = refl

-- `--list` stands behind the end of the options
not_all_keys : allowed Outer (codes "KEYINFO -- --list") ≡ true
unfolding command_named
not_all_keys = refl

mode : allowed Outer (codes "OPTION --pinentry-mode=loopback") ≡ false
unfolding command_named
mode = refl

other_option : allowed Outer (codes "OPTION pinentry-mode2") ≡ true
unfolding command_named
other_option = refl

-- the terminal of another machine has no effect, whatever the value
ttyname : door_command Outer (codes "OPTION ttyname=/dev/pts/1") ≡ Some Terminal
unfolding request_of command_named
ttyname = refl

language : door_command Outer (codes "option --lc-messages") ≡ Some Terminal
unfolding request_of command_named
language = refl

ttyname_at_home : door_command Home (codes "OPTION ttyname=/dev/pts/1") ≡ None
unfolding command_named
ttyname_at_home = refl

-- a name is compared exactly
other_case : door_command Outer (codes "OPTION TTYNAME=/dev/pts/1") ≡ None
unfolding command_named request_of
other_case = refl

version : allowed Outer (codes "GETINFO version") ≡ true
unfolding command_named
version = refl

pid : allowed Outer (codes "GETINFO pid") ≡ false
unfolding command_named
pid = refl

mark : allowed Outer (codes "MARKTRUSTED") ≡ false
unfolding command_named
mark = refl

-- ---- requests

abbrev fingerprint : Grip
fingerprint = record { 0 = replicate 20 170 }

is_trusted : trust_request_of (codes "istrusted " ++ replicate 40 65 ++ codes " more") ≡ IsTrusted fingerprint
unfolding trust_request_of command_named hex_on_literals
is_trusted = refl

is_trusted_of_none : trust_request_of (codes "ISTRUSTED") ≡ Bad Parameter
unfolding trust_request_of command_named
is_trusted_of_none = refl

is_trusted_of_39 : trust_request_of (codes "ISTRUSTED " ++ replicate 39 65) ≡ Bad Parameter
unfolding trust_request_of command_named
is_trusted_of_39 = refl

mark_trusted : trust_request_of (codes "MARKTRUSTED " ++ replicate 40 97 ++ codes " S Root+CA more") ≡ MarkTrusted fingerprint X509 (record { items = codes "Root CA" })
unfolding trust_request_of command_named hex_on_literals percent_encoding_on_literals
mark_trusted = refl

mark_of_star : trust_request_of (codes "MARKTRUSTED " ++ replicate 40 97 ++ codes " * Root") ≡ Bad Parameter
unfolding trust_request_of command_named hex_on_literals
mark_of_star = refl

mark_without_name : trust_request_of (codes "MARKTRUSTED " ++ replicate 40 97 ++ codes " P") ≡ Bad Parameter
unfolding trust_request_of command_named
mark_without_name = refl

mark_of_901 : trust_request_of (codes "MARKTRUSTED " ++ replicate 40 97 ++ codes " P " ++ replicate 901 97) ≡ Bad Parameter
unfolding trust_request_of command_named hex_on_literals percent_encoding_on_literals
mark_of_901 = refl

longest_name : (name : List ℕ) → length name ≡ 900 → length name ≤ MAX_NAME_LEN
longest_name name len = omega (arith, len)

other_command : trust_request_of (codes "HAVEKEY") ≡ Bad UnknownCommand
unfolding trust_request_of command_named
other_command = refl

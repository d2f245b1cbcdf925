-- Failures at a session's link, counted: a read that failed behind the greeting, and an inquiry whose line couldn't be written.
use Rattle.std.{specs.{List.count_by, Prelude.codes}, proofs.Common.{◌≡◌, List, [], ◌∷◌, refl}}
use Rattle.{agent_ask.specs.{LinkFaults.{fails_at_input, fails_at_output}, Session.SessionEvents.{Received, Sent, Inquiry}}, assuan_line.specs.declared.reader.Took.TheVariants.{Line, ReadFault}, assuan_server.specs.Clients.session_lines}
use Rattle.{assuan_server.specs.Written.greeting, assuan_text.specs.LineEnds.line_of, session_client.specs.Asking.NotAsked, key_commands.specs.Events.Event}

abbrev unread : List Event
unread = Sent (line_of greeting) ∷ Received ReadFault ∷ []

one_read_failed : count_by (fails_at_input session_lines) unread ≡ 1
one_read_failed = refl

no_write_failed : count_by (fails_at_output session_lines) unread ≡ 0
no_write_failed = refl

abbrev unasked : List Event
unasked = Received (Line (codes "PRESET_PASSPHRASE --inquire id1 -1")) ∷ Inquiry (codes "PASSPHRASE") [] 255 (NotAsked (codes "INQ")) ∷ []

one_write_failed : count_by (fails_at_output session_lines) unasked ≡ 1
one_write_failed = refl

no_read_failed : count_by (fails_at_input session_lines) unasked ≡ 0
no_read_failed = refl

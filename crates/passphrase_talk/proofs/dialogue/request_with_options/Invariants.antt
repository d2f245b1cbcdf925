-- Whatever is told behind the options to come, it is told of all.
use Rattle.std.{proofs.Common.{◌≡◌, ℕ, List, Option, drop}, specs.List.flat_map}
use Rattle.assuan_client.specs.{Connections.Connection, declared.answer.State.TheVariants.Ready}
use Rattle.passphrase_talk.specs.{declared.{connector.Waits.TheVariants.Prompt, told.Told.Told}, Dialogues.{Requests, Leads, told_of, launches_of, option_lines, all_settings}}
use Rattle.passphrase_talk.proofs.dialogue.request_with_options.Given as goal

abbrev pub invariant-loop-setting : goal.invariant-loop-setting
invariant-loop-setting g l = (l.peer.state ≡ Ready)
    × ((what : Told) (after : Connection) (launched : Option (List (List ℕ)))
    → Leads Prompt (Requests l.line (flat_map (option_lines (g.C.Connector.terminal l.connector)) (drop l.setting-index all_settings))) told_of launches_of l.peer what after
    (g.C.Connector.contacts l.connector).launches launched
    → Leads Prompt (Requests l.line (flat_map (option_lines (g.C.Connector.terminal l.fn.connector)) all_settings)) told_of launches_of l.fn.peer what after
    (g.C.Connector.contacts l.fn.connector).launches launched)

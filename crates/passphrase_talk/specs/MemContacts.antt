-- The contacts of a connector in memory, from its fields.
use Rattle.std.specs.{Prelude.{ℕ, Bool, true, false, List, [], ◌∷◌, map, drop, codes, Option, Some, None, Box}, Option.option_map, declared.alloc.Global.Global}
use Rattle.agent_ports.specs.{Plans.Plan, Sides.Side, declared.mem.link.{MemLink.MemLink, PlannedLink.PlannedLink}}
use Rattle.passphrase_talk.specs.{Contacts.{Contact, Sought, Opening}, declared.{connector.{Place.{Place, TheVariants.Beside}, Waits.Waits}, mem_connector.MemConnector.MemConnector}}
use Rattle.passphrase_talk.specs.declared.mem_connector.{MemContact.{MemContact, MemContact', Held-MemContact-earlier, None', Some', out-MemContact}, MemMeeting.MemMeeting, MemSought.MemSought}

-- all the bytes that each link gives
abbrev pub gives_of : List PlannedLink → List (List ℕ)
gives_of links = map (λ link. link.gives.items) links

-- the two sides of a contact's link, with counts of its own
abbrev pub meeting_input : MemMeeting → Side
meeting_input meeting =
    let contact = out-MemContact meeting.contact.value in
    record { bytes = Some (drop contact.link.source.taken contact.link.source.bytes.items); faults = contact.read_faults }

abbrev pub meeting_output : MemMeeting → Side
meeting_output meeting =
    let contact = out-MemContact meeting.contact.value in
    record { bytes = Some contact.link.sink.bytes.items; faults = contact.write_faults }

-- what a contact had left to give, and what it was written
abbrev pub contact_with : Place → MemLink → Contact
contact_with place link = record { place = place; left = drop link.source.taken link.source.bytes.items; written = link.sink.bytes.items }

abbrev pub contact_of : MemContact → Contact
contact_of contact = contact_with (out-MemContact contact).place (out-MemContact contact).link

-- the contacts, the last of them first
abbrev mutual
  pub latest_of : MemContact → List Contact
  latest_of (MemContact' place link reads writes earlier) = contact_with place link ∷ earlier_ones earlier

  pub earlier_ones : Held-MemContact-earlier → List Contact
  earlier_ones None' = []
  earlier_ones (Some' p contact) = latest_of contact

abbrev pub latest_first : Option (Box MemContact Global) → List Contact
latest_first None = []
latest_first (Some contact) = latest_of contact.value

-- what was sought, and found
abbrev pub sought_of : MemSought → Sought
sought_of sought = record { folder = option_map (λ name. name.bytes.items) sought.folder; seconds = sought.seconds; found = sought.found }

-- a connection that was made
abbrev pub opening_of : Place × Waits → Opening
opening_of made = record { place = made.0; waits = made.1 }

-- what was handed on, unless there was no memory for some of it
abbrev pub launches_with : Bool → List (List ℕ) → Option (List (List ℕ))
launches_with true launches = None
launches_with false launches = Some launches

-- the calls of a connector that are to fail
abbrev pub call_plan : MemConnector → Plan
call_plan connector = record { failing = connector.failing.items; calls = connector.calls; size = 0 }

-- why a call failed, by the agent to which the last connection did
abbrev pub reason_at : Option Place → List ℕ
reason_at (Some Beside) = codes "it is planned beside"
reason_at _ = codes "it is planned"

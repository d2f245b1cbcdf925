-- The forms of the lines of worked dialogues, and how much of them is skipped at most.
use Rattle.std.{proofs.Common.{◌≡◌, [], refl}, specs.Prelude.{codes, replicate, true, false}}
use Rattle.assuan_client.specs.{Forms.{answer_form, Data, Note, Ok, Err, Inquiry, Foreign}, Skipping.skips}

greeting : answer_form (codes "OK Pleased to meet you") ≡ Ok
greeting = refl

other_greeting : answer_form (codes "HELLO") ≡ Foreign
other_greeting = refl

number : answer_form (codes "D 7") ≡ Data
number = refl

inquiry : answer_form (codes "INQUIRE OTHER x y") ≡ Inquiry (codes "OTHER") (codes "x y")
inquiry = refl

cancelled : answer_form (codes "ERR 83886179 Operation cancelled <Pinentry>") ≡ Err 83886179
cancelled = refl

largest : answer_form (codes "ERR 4294967295") ≡ Err 4294967295
largest = refl

too_large : answer_form (codes "ERR 4294967296") ≡ Foreign
too_large = refl

status : answer_form (codes "S PROGRESS x") ≡ Note
status = refl

empty : answer_form (codes "") ≡ Foreign
empty = refl

-- the 255th byte and the one behind it
last_byte : skips (record { notes = 0; bytes = replicate 254 97 }) Data 1 ≡ true
last_byte = refl

one_byte_more : skips (record { notes = 0; bytes = replicate 255 97 }) Data 1 ≡ false
one_byte_more = refl

-- the 10,000th note and the one behind it
last_note : skips (record { notes = 9999; bytes = [] }) Note 0 ≡ true
last_note = refl

one_note_more : skips (record { notes = 10000; bytes = [] }) Note 0 ≡ false
one_note_more = refl

-- What is left of marks, entries and histories without the bytes of their secrets. This is the project's own.
use Rattle.std.specs.{Prelude.{[], map}, Option.option_map}
use Rattle.cache_policy.specs.{declared.{mark.{Mark.Mark, MarkStep.{MarkStep, TheVariants.{Ask, Seat, Close, Put, Clear, Flush, Peek, Stop}}}, entry.Entry.Entry}, Histories.History}

-- the step, where each secret has no bytes; whether a Close keeps one still shows
abbrev pub bare_step : MarkStep → MarkStep
bare_step (Ask id mode way since) = Ask id mode way since
bare_step (Seat under since) = Seat under since
bare_step (Close ticket keep) = Close ticket (option_map (λ secret. []) keep)
bare_step (Put id mode life secret) = Put id mode life []
bare_step (Clear id mode) = Clear id mode
bare_step Flush = Flush
bare_step (Peek id mode) = Peek id mode
bare_step Stop = Stop

abbrev pub bare_mark : Mark → Mark
bare_mark mark = record mark { step = bare_step mark.step }

abbrev pub bare : History → History
bare history = record history { marks = map bare_mark history.marks }

abbrev pub bare_entry : Entry → Entry
bare_entry entry = record entry { secret = [] }

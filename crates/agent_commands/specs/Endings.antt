-- How a session ends whose client is gone, and how it goes on otherwise.
use Rattle.std.specs.Prelude.{Option, Some, None}
use Rattle.session_client.specs.declared.client_error.Gone.{Gone}
use Rattle.agent_commands.specs.declared.went.{SessionEnd.{SessionEnd, TheVariants.{Bye, Killed, Ended, TooLong, Spent, ReadFault, WriteFault}}, Went.{Went, TheVariants.{On, End}}}
use Rattle.session_client.specs.declared.client_error.Gone.TheVariants as gone

abbrev pub end_of : Gone → SessionEnd
end_of gone.Ended = Ended
end_of gone.TooLong = TooLong
end_of gone.Spent = Spent
end_of gone.ReadFault = ReadFault
end_of gone.WriteFault = WriteFault

-- how the client is gone where a session ends so, where it is
abbrev pub gone_of : SessionEnd → Option Gone
gone_of Bye = None
gone_of Killed = None
gone_of Ended = Some gone.Ended
gone_of TooLong = Some gone.TooLong
gone_of Spent = Some gone.Spent
gone_of ReadFault = Some gone.ReadFault
gone_of WriteFault = Some gone.WriteFault

abbrev pub went_after : Option Gone → Went
went_after None = On
went_after (Some how) = End (end_of how)

-- how the client is gone after a request that went so, where it is
abbrev pub gone_after : Went → Option Gone
gone_after On = None
gone_after (End end) = gone_of end

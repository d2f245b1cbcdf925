-- One session at a pass of the counted lock: what it does to its link, and which marks it adds to the run. This is the project's own.
use Rattle.std.specs.{Prelude.{◌≡◌, ◌+◌, ℕ, Bool, true, false, List, [], ◌∷◌, ◌++◌, filter, length, None}, List.AllByRecursion}
use Rattle.{agent_ask.specs.Session.SessionEvents.turns_in, agent_commands.specs.declared.went.SessionEnd.SessionEnd, agent_ports.specs.{HostParts.{Views, IsFolder, AreNew}, KeyFiles.KeyFiles, Launches.Launches, Readings.Readings, Sides.Side}}
use Rattle.{agent_ports.specs.{declared.{host.Parts.Parts, session.SessionId.SessionId}, TrustFiles.TrustState}, agent_origin.specs.{declared.door.Door.Door, DoorSessions.ServesDoor, PortStates.{PortWorld, surroundings}}}
use Rattle.{agent_origin.specs.Sessions.Surroundings, cache_policy.specs.{declared.mark.Mark.Mark, Extending.Taken, Seat.is_open, Tallies.{is_given, is_empty, how_many}, Turns.{Turn, Given, Empty, Open}}}
use Rattle.{counted_lock.specs.{Passes.{AtPass, mine}, Turns.{AtCountedDesk, TurnsPass, CountedTurn}}, pinentry_client.specs.{Dialogues.PinentryDoes, States.idle}, session_options.specs.declared.rules.Rules.Rules}

-- both sides of a link
pub record LinkSides : Type 0 where
  pub input : Side
  pub output : Side

abbrev pub link_of : Side → Side → LinkSides
link_of input output = record { input = input; output = output }

-- the turns of a session at its pass, one after another, and the marks that they made
pub data PassTurns (session : SessionId) : AtPass → Readings → List Taken → List Mark → AtPass → Readings → Type 0 where
  none : {pass : AtPass} {clock : Readings} → PassTurns session pass clock [] [] pass clock
  turned : {before mid after : AtPass} {first then last : Readings} {taken : Taken} {turns : List Taken} {marks : List Mark}
      (does : TurnsPass session first then taken.asked before taken.turn mid) → PassTurns session mid then turns marks after last
      → PassTurns session before first (taken ∷ turns) (does.own ++ marks) after last

abbrev pub came_given : Turn → Bool
came_given (Given grant) = true
came_given _ = false

abbrev pub came_empty : Turn → Bool
came_empty Empty = true
came_empty _ = false

abbrev pub came_open : Turn → Bool
came_open (Open number) = true
came_open _ = false

-- how many of these turns came out so
abbrev pub how_many_turns : (Turn → Bool) → List Taken → ℕ
how_many_turns passes turns = length (filter (λ taken. passes taken.turn) turns)

-- The marks that a session added to those of its pass: they are the session's, and as many of them were replied Given, Empty and Open as of
-- its turns.
pub record AddsMarks (session : SessionId) (turns : List Taken) (own : List Mark) (before after : AtPass) : Type 0 where
  pub mine_is : mine after ≡ mine before ++ own
  pub by : AllByRecursion (λ mark. mark.session ≡ session) own
  pub given : how_many (λ mark. is_given mark.reply) own ≡ how_many_turns came_given turns
  pub empty : how_many (λ mark. is_empty mark.reply) own ≡ how_many_turns came_empty turns
  pub opened : how_many (λ mark. is_open mark.reply) own ≡ how_many_turns came_open turns

-- the desk of a session that has no ticket, by the readings of its clock
abbrev pub desk_at : AtPass → SessionId → Readings → AtCountedDesk Readings
desk_at pass session clock = record { pass = pass; session = session; out = None; clock = clock }

-- the desk, the pinentry that the rules name, of which no child stands, the keys, the dice and the trust file, as what a session has to do with
abbrev pub at_pass : Rules → SessionId → LinkSides → AtPass → Readings → Launches → KeyFiles → Side → TrustState → Surroundings (PortWorld (CountedTurn (λ clock. clock)) PinentryDoes)
at_pass rules session link pass clock launches keys dice trust_file =
    surroundings (CountedTurn (λ readings. readings)) PinentryDoes link.input link.output (desk_at pass session clock) (idle rules.pinentry.items launches) keys dice trust_file

-- A session was served at this pass that came in by this door, with new parts of its own and a trust file of which no call had failed, all of the
-- types that the host has: so by a clock, a launcher, keys, dice and a trust file of the host's. The keys and the trust file were those of the folder at this path. It ended so, and no ticket and no child of it is
-- left. What it did to the run is what its turns did.
pub record ServesOne {La C R K T : Type 0} (views : Views La C R K) (trusts : T → TrustState) (folder : List ℕ) (rules : Rules) (door : Door) (session : SessionId)
    (before : LinkSides) (pass : AtPass) (end : SessionEnd) (after : LinkSides) (now : AtPass) : Type 0 where
  pub parts : Parts La C R K
  pub new : AreNew views parts
  pub trust_file : T
  pub unused : (trusts trust_file).faults ≡ 0
  pub keys_in : IsFolder folder (views.keys parts.keys).folder
  pub trust_in : IsFolder folder (trusts trust_file).folder
  pub clock_now : Readings
  pub launches_now : Launches
  pub keys_now : KeyFiles
  pub dice_now : Side
  pub trust_now : TrustState
  pub served : ServesDoor (CountedTurn (λ readings. readings)) PinentryDoes door rules
      (at_pass rules session before (record pass { sessions = session.count + 1 }) (views.readings parts.clock) (views.launches parts.launcher) (views.keys parts.keys) (views.draws parts.dice)
      (trusts trust_file))
      end (at_pass rules session after now clock_now launches_now keys_now dice_now trust_now)
  pub own : List Mark
  pub turns : PassTurns session (record pass { sessions = session.count + 1 }) (views.readings parts.clock) (turns_in served.events) own now clock_now
  pub adds : AddsMarks session (turns_in served.events) own pass now
  -- the pass has had this session, and has seen more of the run
  pub more : List Mark
  pub now_is : now ≡ record pass { sessions = session.count + 1; seen = pass.seen ++ more }

-- What is done with a connection: a read, a write, an inquiry; and how it is left. This is the project's own.
use Rattle.std.specs.Prelude.{◌≡◌, ◌≤◌, ℕ, Bool, true, false, List, [], codes, decimal, Option, Some, None, Result, Ok, Err, ⊤}
use Rattle.agent_ports.specs.{Counts.Rose, Sides.{with_bytes, WhereKnown}, Writing.{Writes, StopsWriting}, declared.link.WriteFault.WriteFault as Fault}
use Rattle.session_client.specs.{Lines.{Lines, Views, TakesNeeded, IsOpen, unread_at}, declared.{client.TheConstants.MAX_NOTE_LEN, client_error.{Gone.Gone, ClientError.ClientError}}}
use Rattle.session_client.specs.declared.client_error.Gone.TheVariants as gone
use Rattle.session_client.specs.declared.client_error.ClientError.TheVariants as client_error

-- what an inquiry came to: its line was written, and the client's lines came to this, or the write failed after these bytes of it
pub data AnyInquired (O : Type 0) : Type 0 where
  Asked : O → AnyInquired O
  NotAsked : List ℕ → AnyInquired O

-- what the client has said by it: the bytes that it gave, or what came in their place
abbrev pub said_by : (lines : Lines) → AnyInquired lines.Outcome → Result (List ℕ) ClientError
said_by lines (Asked outcome) = lines.says outcome
said_by lines (NotAsked text) = Err (client_error.Gone gone.WriteFault)

-- it said nothing, since a read of its link failed
abbrev pub is_unread : {A : Type 0} → Result A ClientError → Bool
is_unread (Err (client_error.Gone gone.ReadFault)) = true
is_unread _ = false

-- the same, where its bytes are dropped
abbrev pub without_data : Result (List ℕ) ClientError → Result (Unit {0}) ClientError
without_data (Ok bytes) = Ok tt
without_data (Err why) = Err why

-- how the client's connection was lost, where it was
abbrev pub gone_of : ClientError → Option Gone
gone_of (client_error.Gone how) = Some how
gone_of _ = None

-- how the reader of a client that is gone so has ended: after a write that failed it may stand in any way
abbrev pub HasEnded : {T : Type 0} → (Gone → Option T) → Gone → Option T → Type 0
HasEnded ended_by gone.WriteFault ended = ⊤
HasEnded ended_by how ended = ended ≡ ended_by how

module _ {lines : Lines} {C : Type 0} (views : Views lines C) where
  -- nothing was done with it but to write
  pub record LeavesInput (start now : C) : Type 0 where
    pub input : views.input now ≡ views.input start
    pub unread : unread_at views now ≡ unread_at views start
    pub supply : (supply : lines.Supply) → views.has_supply supply start → views.has_supply supply now
    pub ended : views.ended now ≡ views.ended start
    pub held : views.held now ≡ views.held start
    pub link : views.link now ≡ views.link start

  -- a text was written, whole or in part
  pub record HasSaid (text : List ℕ) (start : C) (result : Result (Unit {0}) Fault) (now : C) : Type 0 where
    pub output : Writes text (views.output start) result (views.output now)
    pub leaves : LeavesInput start now

  -- a line was written, where there is one
  abbrev pub SaysLine : Option (List ℕ) → C → Result (Unit {0}) Fault → C → Type 0
  SaysLine None start result now = (result ≡ Ok tt) × (now ≡ start)
  SaysLine (Some text) start result now = HasSaid text start result now

  -- bytes were read, and are this by the link's lines, or the link failed; of the output this is left
  pub record HasRead (Reads : lines.Supply → List ℕ → List ℕ → Type 0) (Needs : List ℕ → List ℕ → List ℕ → Type 0) (failed : Bool) (output : Option (List ℕ)) (start now : C) : Type 0 where
    pub reads : (supply : lines.Supply) → views.has_supply supply start
        → WhereKnown (unread_at views start) (unread_at views now) (Reads supply) × views.has_supply supply now
    pub needed : TakesNeeded Needs (unread_at views start) (views.input start).bytes (views.input now).bytes
    pub output_is : (views.output now).bytes ≡ output
    pub rose : failed ≡ true → Rose (views.input start).faults (views.input now).faults
    pub input_faults : (views.input start).faults ≤ (views.input now).faults
    pub output_faults : (views.output start).faults ≤ (views.output now).faults
    pub link : views.link now ≡ views.link start

  -- the write of a text stopped after these bytes of it, and nothing else was done
  pub record HasStopped (text sent : List ℕ) (start now : C) : Type 0 where
    pub leaves : LeavesInput start now
    pub stopped : StopsWriting text (views.output start) (views.output now)
    pub sent_is : stopped.sent ≡ sent
    pub faults : (views.output start).faults ≤ (views.output now).faults

  -- the client was asked by this word and these parameters for so many bytes at most
  abbrev pub HasInquired : List ℕ → List ℕ → ℕ → AnyInquired lines.Outcome → C → C → Type 0
  HasInquired word params limit (Asked outcome) start now =
      HasRead (λ supply bytes rest. lines.reads_answer supply limit bytes outcome rest) lines.needs_answer (is_unread (lines.says outcome))
      (with_bytes (views.output start).bytes (lines.inquiry_line word params)) start now
  HasInquired word params limit (NotAsked text) start now = HasStopped (lines.inquiry_line word params) text start now

  -- its client is gone
  pub record IsLost (how : Gone) (start now : C) : Type 0 where
    pub ended : HasEnded lines.ended_by how (views.ended now)
    pub read_fault : how ≡ gone.ReadFault → Rose (views.input start).faults (views.input now).faults
    pub write_fault : how ≡ gone.WriteFault → Rose (views.output start).faults (views.output now).faults

  -- how it is left by what its client was asked: open, but where the client is gone
  abbrev pub LeftByError : ClientError → C → C → Type 0
  LeftByError (client_error.Gone how) start now = IsLost how start now
  LeftByError _ start now = IsOpen views now

  abbrev pub LeftBy : {A : Type 0} → Result A ClientError → C → C → Type 0
  LeftBy (Ok value) start now = IsOpen views now
  LeftBy (Err why) start now = LeftByError why start now

  -- an inquiry, and how it leaves the connection, by what the client has said
  pub record Inquires {A : Type 0} (word params : List ℕ) (limit : ℕ) (inquired : AnyInquired lines.Outcome) (result : Result A ClientError) (start now : C) : Type 0 where
    pub done : HasInquired word params limit inquired start now
    pub fewer : IsOpen views now → views.held now ≤ views.held start
    pub left : LeftBy result start now

  -- the client was told of a prompt in the process of this number; what it sent back is dropped
  pub record TellsClient (pid : ℕ) (result : Result (Unit {0}) ClientError) (start now : C) : Type 0 where
    pub inquired : AnyInquired lines.Outcome
    pub result_is : result ≡ without_data (said_by lines inquired)
    pub inquires : Inquires (codes "PINENTRY_LAUNCHED") (decimal pid) MAX_NOTE_LEN inquired result start now

  -- it was asked by this word for so many bytes at most
  pub record AsksClient (word : List ℕ) (limit : ℕ) (result : Result (List ℕ) ClientError) (start now : C) : Type 0 where
    pub inquired : AnyInquired lines.Outcome
    pub result_is : result ≡ said_by lines inquired
    pub inquires : Inquires word [] limit inquired result start now

-- How requests and inquiries stand in the bytes of a link, and what is seen of a connection over it. This is the project's own.
use Rattle.std.specs.{Prelude.{◌≡◌, ◌⊎◌, ℕ, Bool, List, ◌++◌, Option, Some, None, Result}, Borrow.GName, Option.option_map}
use Rattle.agent_ports.specs.Sides.{Side, WhereKnown}
use Rattle.session_client.specs.declared.client_error.{Gone.Gone, ClientError.ClientError}

-- How requests and inquiries stand in the bytes of a link. A read needed the bytes that it took where they were undecided before its last
-- piece: of the bytes ahead, those that the source held before it, and those that it holds after it.
pub record Lines : Type 1 where
  -- with what a session began: how many bytes there were, and how many of them may be taken
  pub Supply : Type 0
  -- what a read gives: a line, or what comes in its place; and whether the link failed
  pub Took : Type 0
  pub is_failed : Took → Bool
  -- the next request of these bytes, or what comes in its place, and the bytes from there on
  pub reads_request : Supply → List ℕ → Took → List ℕ → Type 0
  pub needs_request : List ℕ → List ℕ → List ℕ → Type 0
  -- the line that asks the client, by a word and parameters
  pub inquiry_line : List ℕ → List ℕ → List ℕ
  -- what an inquiry comes to, within a limit, and what the client has said by it
  pub Outcome : Type 0
  pub reads_answer : Supply → ℕ → List ℕ → Outcome → List ℕ → Type 0
  pub needs_answer : List ℕ → List ℕ → List ℕ → Type 0
  pub says : Outcome → Result (List ℕ) ClientError
  -- the answer that ended a reader whose client is gone so, but where a write failed
  pub ended_by : Gone → Option Took

-- A read takes nothing from the link, or bytes that it needs, and of its last piece at most so many more: what was there before that
-- piece decided nothing.
abbrev pub TakesNeeded : (List ℕ → List ℕ → List ℕ → Type 0) → Option (List ℕ) → Option (List ℕ) → Option (List ℕ) → Type 0
TakesNeeded Needs input before after =
    WhereKnown before after (λ rest left. (rest ≡ left) ⊎ ((ahead : List ℕ) × (input ≡ Some (ahead ++ rest)) × Needs ahead rest left))

-- what is seen of a connection
pub record Views (lines : Lines) (C : Type 0) : Type 1 where
  -- both sides of its link, and which link it is
  pub input : C → Side
  pub output : C → Side
  pub link : C → GName
  -- the bytes that come next, where the source holds these
  pub unread : C → List ℕ → List ℕ
  -- it began with this supply, where its bytes are known
  pub has_supply : lines.Supply → C → Type 0
  -- what ended its reader, and how many bytes that has and may take
  pub ended : C → Option lines.Took
  pub held : C → ℕ

module _ {lines : Lines} {C : Type 0} (views : Views lines C) where
  -- its reader hasn't ended
  abbrev pub IsOpen : C → Type 0
  IsOpen conn = views.ended conn ≡ None

  -- the bytes that come next, where they are known
  abbrev pub unread_at : C → Option (List ℕ)
  unread_at conn = option_map (views.unread conn) (views.input conn).bytes

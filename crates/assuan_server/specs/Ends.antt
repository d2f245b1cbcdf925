-- Why an inquiry has no bytes for its caller, and what its answer follows from.
use Rattle.std.specs.Prelude.{◌≡◌, ◌↔◌, ℕ, List, Option, Some}
use Rattle.{assuan_line.specs.{Next.ended_by, declared.reader.Took.Took}, session_client.specs.declared.client_error.ClientError.ClientError}
use Rattle.assuan_server.specs.{Asking.not_written, Inquiries.{Outcome, ComesTo, ended_of, error_outcome}}

-- the client gave nothing by this answer, whatever came before it
pub record GivesNone (took : Took) (error : ClientError) : Type 0 where
  pub outcome : Outcome
  pub named : error_outcome error ≡ Some outcome
  pub comes_to : (limit : ℕ) (bytes : List ℕ) → ComesTo limit bytes took outcome

-- the answer, of one kind, that has a client's error as its own
pub record IsAnswerBy {A : Type 0} (outcome_of : A → Option Outcome) (write_fault : A) (error : ClientError) (answer : A) : Type 0 where
  pub named : outcome_of answer ≡ error_outcome error
  pub cut : (answer ≡ write_fault) ↔ (error ≡ not_written)

-- An answer says so much of what an inquiry comes to, by the read that ended it and by what is kept of its bytes.
pub record IsAnswer (limit : ℕ) (keeps : List ℕ → Type 0) (took : Took) (Says : Outcome → Type 0) : Type 0 where
  pub answers : (bytes : List ℕ) → keeps bytes → (outcome : Outcome) × ComesTo limit bytes took outcome × Says outcome
  pub ended : (outcome : Outcome) → Says outcome → ended_by took ≡ ended_of outcome

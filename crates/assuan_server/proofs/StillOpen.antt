-- A connection behind an inquiry that a line closed.
use Rattle.std.proofs.Common.{◌≡◌, ℕ, List, None, ◌∙◌}
use Rattle.assuan_server.specs.{Asking.Inquire, Connections.{Connection, IsOpen}, Inquiries.{Outcome, ended_of}}

pub ended_is_closed : {limit : ℕ} {line : List ℕ} {Says : Outcome → Type 0} {before after : Connection} (outcome : Outcome)
    → Says outcome → ended_of outcome ≡ None → Inquire limit line Says before after → IsOpen after
ended_is_closed outcome says closed inquire = inquire.gathered.read.ended ∙ inquire.ended outcome says ∙ closed

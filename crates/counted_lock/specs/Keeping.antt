-- Private: what a pass, the lock and the places of passes keep.
use Rattle.std.specs.{Prelude.{◌≡◌, ◌<◌, ℕ, Bool, List, [], ◌∷◌, length, ⊤}, List.AllByRecursion}
use Rattle.{atomic_table.specs.Seated.TableId, cache_policy.specs.declared.mark.Mark.Mark}
use Rattle.counted_lock.specs.{declared.board.{About.About, Claim.Claim}, Logs.{IsLegalLog, is_stopped, marks_by}, Rule.Fits, Claims.{claim, Sat, own}, Plays.IsIdle, Passes.AtPass}

abbrev pub claim_of : AtPass → Claim
claim_of pass = claim pass.limits pass.number pass.seen

pub record IsPass (number sessions front calls : ℕ) (stopped : Bool) (m : Sat) : Type 0 where
  pub idle : IsIdle m
  pub number_is : (own m).number ≡ number
  pub front_is : front ≡ length (own m).seen
  pub calls_is : calls ≡ length (marks_by number (own m).seen)
  pub stopped_is : stopped ≡ is_stopped (own m).seen
  pub legal : IsLegalLog (own m).limits (own m).seen
  pub earlier : AllByRecursion (λ mark. mark.session.count < sessions) (marks_by number (own m).seen)

pub record IsCounted (table : TableId) (about : About) : Type 0 where
  pub words : table.words ≡ 3
  pub slots : table.slots ≡ 1
  pub some : 0 < about.passes

abbrev pub PassesFit : About → List Mark → List AtPass → Type 0
PassesFit about log [] = ⊤
PassesFit about log (pass ∷ later) = Fits about log (claim_of pass) × PassesFit about log later

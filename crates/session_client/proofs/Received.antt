-- A read of a request, as proofs speak of it.
use Rattle.session_client.specs.{Asking.HasRead, Lines.{Lines, Views}}

module _ {lines : Lines} {C : Type 0} (views : Views lines C) where
  -- the next request was read, or this came in its place
  abbrev pub HasReceived : lines.Took → C → C → Type 0
  HasReceived took start now = HasRead views (λ supply bytes rest. lines.reads_request supply bytes took rest) lines.needs_request (lines.is_failed took) (views.output start).bytes start now

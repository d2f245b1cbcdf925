-- Sessions whose exchanges are each seen otherwise, by what holds of their events.
use Rattle.std.proofs.Common.{◌≡◌, ℕ, List, [], ◌∷◌, ◌++◌, refl, sym, subst}
use Rattle.{agent_ask.specs.Session.{Answering.{WholeOrCut, whole, cut}, SessionEvents.CutAtLast}, agent_commands.specs.{Endings.went_after, Events.EventWith, Talks.{Talk, Session}, declared.went.SessionEnd.{SessionEnd, TheVariants.WriteFault}}}
use Rattle.agent_commands.specs.declared.went.Went.{Went, TheVariants.End}
use Rattle.agent_session.specs.Completeness.{WholeTalk, WholeSession, IsFaultless}
use Rattle.agent_commands.specs.Talks as talks
use Rattle.agent_session.specs.Completeness as faultless

whole_of : {S F : Type 0} {after : S} {events : List (EventWith F)} {went : Went} (exchange : List (EventWith F) → S → Went → Type 0) → (went ≡ End WriteFault → ⊥)
    → WholeOrCut went_after exchange events after went → exchange events after went
whole_of exchange never (whole exchanged) = exchanged
whole_of exchange never (cut exchanged last) = absurd (never refl)

ends_well : (end : SessionEnd) → IsFaultless end → End end ≡ End WriteFault → ⊥
ends_well end well is = let same : WriteFault ≡ end = cc in subst IsFaultless (sym same) well

module _ {S F : Type 0} (One Other : S → List ℕ → List (EventWith F) → S → Went → Type 0) (Fine : List (EventWith F) → Type 0)
    (left : (first more : List (EventWith F)) → Fine (first ++ more) → Fine first) (right : (first more : List (EventWith F)) → Fine (first ++ more) → Fine more)
    (moves : (before : S) (line : List ℕ) (events : List (EventWith F)) (after : S) (went : Went) → Fine events → One before line events after went → Other before line events after went) where
  tail : (event : EventWith F) (more : List (EventWith F)) → Fine (event ∷ more) → Fine more
  tail event more fine = right (event ∷ []) more fine

  -- ---- sessions in which no write failed

  talk_whole : {before : S} {events : List (EventWith F)} {end : SessionEnd} → Talk One before events end → IsFaultless end → Fine events → WholeTalk Other before events end
  talk_whole (talks.goes_on {events} {more} line exchanged talk) well fine =
      let rest = tail _ (events ++ more) fine in
      faultless.goes_on line (moves _ line _ _ _ (left events more rest) (whole_of (One _ line) (λ is. absurd (cc is)) exchanged)) (talk_whole talk well (right events more rest))
  talk_whole {end} (talks.over {events} line exchanged) well fine = faultless.over line (moves _ line _ _ _ (tail _ events fine) (whole_of (One _ line) (ends_well end well) exchanged))
  talk_whole talks.ended well fine = faultless.ended
  talk_whole talks.spent well fine = faultless.spent
  talk_whole talks.read_fault well fine = absurd well
  talk_whole talks.too_long well fine = faultless.too_long
  talk_whole (talks.cut_too_long last) well fine = absurd well

  pub session_whole : {before : S} {events : List (EventWith F)} {end : SessionEnd} → Session One before events end → IsFaultless end → Fine events → WholeSession Other before events end
  session_whole (talks.greeted {events} talk) well fine = faultless.greeted (talk_whole talk well (tail _ events fine))
  session_whole (talks.cut_greeting last) well fine = absurd well

  -- ---- all sessions

  module _ (uncut : (events done : List (EventWith F)) → CutAtLast events done → Fine done → Fine events) where
    exchange_moved : {before after : S} {events : List (EventWith F)} {went : Went} (line : List ℕ) → WholeOrCut went_after (One before line) events after went → Fine events
        → WholeOrCut went_after (Other before line) events after went
    exchange_moved line (whole exchanged) fine = whole (moves _ line _ _ _ fine exchanged)
    exchange_moved line (cut {events} {done} exchanged last) fine = cut (moves _ line _ _ _ (uncut events done last fine) exchanged) last

    talk_moved : {before : S} {events : List (EventWith F)} {end : SessionEnd} → Talk One before events end → Fine events → Talk Other before events end
    talk_moved (talks.goes_on {events} {more} line exchanged talk) fine =
        let rest = tail _ (events ++ more) fine in
        talks.goes_on line (exchange_moved line exchanged (left events more rest)) (talk_moved talk (right events more rest))
    talk_moved (talks.over {events} line exchanged) fine = talks.over line (exchange_moved line exchanged (tail _ events fine))
    talk_moved talks.ended fine = talks.ended
    talk_moved talks.spent fine = talks.spent
    talk_moved talks.read_fault fine = talks.read_fault
    talk_moved talks.too_long fine = talks.too_long
    talk_moved (talks.cut_too_long last) fine = talks.cut_too_long last

    pub session_moved : {before : S} {events : List (EventWith F)} {end : SessionEnd} → Session One before events end → Fine events → Session Other before events end
    session_moved (talks.greeted {events} talk) fine = talks.greeted (talk_moved talk (tail _ events fine))
    session_moved (talks.cut_greeting last) fine = talks.cut_greeting last

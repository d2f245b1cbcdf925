-- Turns at a desk extend its run.
use Rattle.std.{proofs.{Common.{◌≡◌, ℕ, List, [], ◌∷◌, ◌++◌, Bool, Option, Some, None, true, cond, eq-eqb, refl, sym, ◌∙◌, ap, subst, append-nil, append_assoc}, lemmas.List.Elements.filter-append}, specs.List.filter}
use Rattle.agent_ports.specs.{declared.session.SessionId.SessionId, Leads.{Leads, none as stay, one}}
use Rattle.cache_policy.specs.{declared.{life.Limits.Limits, mark.{Mark.Mark, MarkStep.MarkStep}}, Histories.History, Runs.joined, Turns.Turn, Desks.{AtDesk, is_of, MakesMarks, marked, refused, spent, GoesOn, GoesOnWhereKnown, IsTurn}}
use Rattle.cache_policy.{specs.Extending.{Taken, TakesTurn, AreMarked, none, turned, IsExtended, IsExtendedWhereKnown, ExtendsDesk}, proofs.Lists.filter_none}

is_own : (session : SessionId) (mark : Mark) → mark.session ≡ session → is_of session mark ≡ true
is_own session mark by = rw (by, eq-eqb session.pass session.pass refl, eq-eqb session.count session.count refl) refl

own_filtered : {limits : Limits} {session : SessionId} {called : ℕ} {asked : MarkStep} {run : List History} {turn : Turn} {own : List Mark}
    → MakesMarks limits session called asked run turn own → filter (is_of session) own ≡ own
own_filtered {session = session} (marked own is) = ap (λ (b : Bool). cond b (own ∷ []) []) (is_own session own is.by)
own_filtered refused = refl
own_filtered (spent all) = refl

-- no turn
extended_same : (limits : Limits) (session : SessionId) (run : Option (List History)) → IsExtendedWhereKnown limits session run [] run
extended_same limits session None = tt
extended_same limits session (Some run) = record {
  start = refl;
  more = [];
  marks = sym (append-nil (joined run));
  own = none;
  legal = λ legal. legal;
}

-- a turn, and then others
extended_first : (limits : Limits) (session : SessionId) (before mid after : List History) (taken : Taken) (turns : List Taken)
    → GoesOn limits session before taken.asked taken.turn mid → IsExtended limits session mid turns after
    → IsExtended limits session before (taken ∷ turns) after
extended_first limits session before mid after taken turns first rest =
    record {
      start = rest.start ∙ first.start;
      more = (first.others ++ first.own) ++ rest.more;
      marks = rest.marks ∙ ap (λ (m : List Mark). m ++ rest.more) first.marks ∙ append_assoc (joined before) (first.others ++ first.own) rest.more;
      own =
          let shown : filter (is_of session) ((first.others ++ first.own) ++ rest.more) ≡ first.own ++ filter (is_of session) rest.more =
          filter-append (is_of session) (first.others ++ first.own) rest.more
          ∙ ap (λ (m : List Mark). m ++ filter (is_of session) rest.more)
          (filter-append (is_of session) first.others first.own
          ∙ ap (λ (m : List Mark). m ++ filter (is_of session) first.own) (filter_none (is_of session) first.others first.foreign)
          ∙ own_filtered first.makes) in
          subst (λ (m : List Mark). AreMarked limits session after before (taken ∷ turns) m) (sym shown)
          (turned mid first (record { start = rest.start; more = rest.more; marks = rest.marks }) rest.own);
      legal = λ legal. rest.legal (first.legal legal);
    }

extended_on : (limits : Limits) (session : SessionId) (before mid after : Option (List History)) (taken : Taken) (turns : List Taken)
    → GoesOnWhereKnown limits session before taken.asked taken.turn mid → IsExtendedWhereKnown limits session mid turns after
    → IsExtendedWhereKnown limits session before (taken ∷ turns) after
extended_on limits session None None None taken turns first rest = tt
extended_on limits session (Some before) (Some mid) (Some after) taken turns first rest = extended_first limits session before mid after taken turns first rest
extended_on limits session None (Some mid) after taken turns first rest = absurd first
extended_on limits session (Some before) None after taken turns first rest = absurd first
extended_on limits session None None (Some after) taken turns first rest = absurd rest
extended_on limits session (Some before) (Some mid) None taken turns first rest = absurd rest

-- over any desk
module _ {D : Type 0} (at : D → AtDesk) (does : D → MarkStep → Turn → D → Type 0)
    (promise : (before : D) (asked : MarkStep) (turn : Turn) (after : D) → does before asked turn after → IsTurn (at before) asked turn (at after)) where
  pub extends : (before after : D) (turns : List Taken) → Leads (TakesTurn does) before turns after → ExtendsDesk (at before) turns (at after)
  extends before after turns stay = extended_same (at before).limits (at before).session (at before).run
  extends before after turns (one {mid} {event} {more} turn later) =
      let is = promise before event.asked event.turn mid turn in
      extended_on (at before).limits (at before).session (at before).run (at mid).run (at after).run event more is.run
      (subst (λ (l : Limits). IsExtendedWhereKnown l (at before).session (at mid).run more (at after).run) is.limits
      (subst (λ (s : SessionId). IsExtendedWhereKnown (at mid).limits s (at mid).run more (at after).run) is.session (extends mid after more later)))

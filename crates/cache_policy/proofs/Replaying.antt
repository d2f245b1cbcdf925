-- A replay is the only one of its steps and readings.
use Rattle.std.{specs.{Prelude.{◌≡◌, ◌≢◌, ℕ, List, [], ◌∷◌, ◌++◌, length, map, Some, refl}, List.AllByRecursion}, proofs.{Common.{ap, sym, ◌∙◌, subst, arith, append-nil, length-append}, lemmas.List.length-map}}
use Rattle.agent_ports.specs.declared.session.SessionId.{SessionId}
use Rattle.cache_policy.specs.{declared.{bounds.TheConstants.MAX_MARKS, life.Limits.Limits, mark.{Mark.Mark, MarkReply.MarkReply, MarkStep.MarkStep}}, Histories.{History, start_of, with_mark}, Legal.{FollowsPolicy, IsLegal}}
use Rattle.cache_policy.specs.{Policy.{Reply, policy}, Replay.{NoneEmpty, Replays}, Runs.{IsRun, joined, start_of_run, turn_over}}

mark_same : (mark other : Mark) → mark.session ≡ other.session → mark.step ≡ other.step → mark.reply ≡ other.reply → mark.moment ≡ other.moment → mark ≡ other
mark_same mark other session step_is reply moment =
    ap (λ (s : SessionId). record { session = s; step = mark.step; reply = mark.reply; moment = mark.moment }) session
    ∙ (ap (λ (s : MarkStep). record { session = other.session; step = s; reply = mark.reply; moment = mark.moment }) step_is
    ∙ (ap (λ (r : MarkReply). record { session = other.session; step = other.step; reply = r; moment = mark.moment }) reply
    ∙ ap (λ (m : ℕ). record { session = other.session; step = other.step; reply = other.reply; moment = m }) moment))

-- the parts of a list are mapped alike
split_map : {A B : Type 0} (f : A → B) (front back fore rear : List A) → length front ≡ length fore → map f (front ++ back) ≡ map f (fore ++ rear)
    → (map f front ≡ map f fore) × (map f back ≡ map f rear)
split_map f [] back [] rear lengths same = (refl, same)
split_map f [] back (y ∷ fore) rear lengths same = absurd (omega (arith, lengths))
split_map f (x ∷ front) back [] rear lengths same = absurd (omega (arith, lengths))
split_map f (x ∷ front) back (y ∷ fore) rear lengths same =
    let head : f x ≡ f y = cc same in
    let tail : map f (front ++ back) ≡ map f (fore ++ rear) = cc same in
    let rest = split_map f front back fore rear (omega (arith, lengths)) tail in
    (ap (λ (z : _). z ∷ map f front) head ∙ ap (λ (l : List _). f y ∷ l) rest.0, rest.1)

all_parts : {A : Type 0} (P : A → Type 0) (front back : List A) → AllByRecursion P (front ++ back) → AllByRecursion P front × AllByRecursion P back
all_parts P [] back all = (tt, all)
all_parts P (x ∷ front) back all = let rest = all_parts P front back all.1 in ((all.0, rest.0), rest.1)

abbrev step_of : Mark → MarkStep
step_of mark = mark.step

abbrev moment_of_mark : Mark → ℕ
moment_of_mark mark = mark.moment

module _ (limits : Limits) (session : SessionId) where
  abbrev By : List Mark → Type 0
  By marks = AllByRecursion (λ mark. mark.session ≡ session) marks

  -- marks that follow the policy are told by their steps and moments
  same_marks : (start : History) (marks others : List Mark) → FollowsPolicy limits start marks → FollowsPolicy limits start others → By marks → By others
      → map step_of marks ≡ map step_of others → map moment_of_mark marks ≡ map moment_of_mark others → marks ≡ others
  same_marks start [] [] follows follows_too by by_too steps at = refl
  same_marks start [] (other ∷ others) follows follows_too by by_too steps at = absurd (cc steps)
  same_marks start (mark ∷ marks) [] follows follows_too by by_too steps at = absurd (cc steps)
  same_marks start (mark ∷ marks) (other ∷ others) follows follows_too by by_too steps at =
      let step_is : mark.step ≡ other.step = cc steps in
      let moment_is : mark.moment ≡ other.moment = cc at in
      let later_steps : map step_of marks ≡ map step_of others = cc steps in
      let later_at : map moment_of_mark marks ≡ map moment_of_mark others = cc at in
      let ruled : Reply mark.reply ≡ Reply other.reply =
      sym follows.0 ∙ (ap (λ (s : MarkStep). policy limits start s mark.moment) step_is ∙ (ap (λ (m : ℕ). policy limits start other.step m) moment_is ∙ follows_too.0)) in
      let reply_is : mark.reply ≡ other.reply = cc ruled in
      let same = mark_same mark other (by.0 ∙ sym by_too.0) step_is reply_is moment_is in
      ap (λ (m : Mark). m ∷ marks) same
      ∙ ap (λ (l : List Mark). other ∷ l) (same_marks (with_mark start other) marks others
      (subst (λ (m : Mark). FollowsPolicy limits (with_mark start m) marks) same follows.1) follows_too.1 by.1 by_too.1 later_steps later_at)

  same_history : (history other : History) → start_of history ≡ start_of other → IsLegal limits history → IsLegal limits other → By history.marks → By other.marks
      → map step_of history.marks ≡ map step_of other.marks → map moment_of_mark history.marks ≡ map moment_of_mark other.marks → history ≡ other
  same_history history other start legal legal_too by by_too steps at =
      let marks = same_marks (start_of history) history.marks other.marks legal.replies
      (subst (λ (s : History). FollowsPolicy limits s other.marks) (sym start) legal_too.replies) by by_too steps at in
      ap (λ (s : History). record s { marks = history.marks }) start ∙ ap (λ (m : List Mark). record (start_of other) { marks = m }) marks

  -- a run of one history, and one that goes on behind a full history
  too_many : (history : History) (next later : History) (more : List History) → IsLegal limits history → length next.marks ≡ MAX_MARKS → later.marks ≢ []
      → map step_of (history.marks ++ []) ≡ map step_of (next.marks ++ joined (later ∷ more)) → ⊥
  too_many history next later more legal full filled steps =
      by_marks later.marks refl
    where
      by_marks : (marks : List Mark) → later.marks ≡ marks → ⊥
      by_marks [] none = filled none
      by_marks (first ∷ rest) some =
          let a = length-map (history.marks ++ []) step_of in
          let b = length-map (next.marks ++ joined (later ∷ more)) step_of in
          let c = ap (λ (l : List MarkStep). length l) steps in
          let d = length-append history.marks [] in
          let e = length-append next.marks (joined (later ∷ more)) in
          let f = length-append later.marks (joined more) in
          let g = ap (λ (l : List Mark). length l) some in
          omega (arith, a, b, c, d, e, f, g, full, legal.few)

  same_runs : (run other : List History) → IsRun run → IsRun other → start_of_run run ≡ start_of_run other
      → AllByRecursion (IsLegal limits) run → AllByRecursion (IsLegal limits) other → NoneEmpty run → NoneEmpty other → By (joined run) → By (joined other)
      → map step_of (joined run) ≡ map step_of (joined other) → map moment_of_mark (joined run) ≡ map moment_of_mark (joined other) → run ≡ other
  same_runs [] other is is_too start each each_too none none_too by by_too steps at = absurd is
  same_runs (history ∷ later) [] is is_too start each each_too none none_too by by_too steps at = absurd is_too
  same_runs (history ∷ []) (other ∷ []) is is_too start each each_too none none_too by by_too steps at =
      let begins : start_of history ≡ start_of other = cc start in
      let same = same_history history other begins each.0 each_too.0 (subst By (append-nil history.marks) by) (subst By (append-nil other.marks) by_too)
      (subst (λ (l : List Mark). map step_of l ≡ map step_of other.marks) (append-nil history.marks) (subst (λ (l : List Mark). map step_of (history.marks ++ []) ≡ map step_of l) (append-nil other.marks) steps))
      (subst (λ (l : List Mark). map moment_of_mark l ≡ map moment_of_mark other.marks) (append-nil history.marks) (subst (λ (l : List Mark). map moment_of_mark (history.marks ++ []) ≡ map moment_of_mark l) (append-nil other.marks) at)) in
      ap (λ (h : History). h ∷ []) same
  same_runs (history ∷ []) (other ∷ next ∷ more) is is_too start each each_too none none_too by by_too steps at =
      absurd (too_many history other next more each.0 is_too.0.full none_too.0 steps)
  same_runs (history ∷ next ∷ more) (other ∷ []) is is_too start each each_too none none_too by by_too steps at =
      absurd (too_many other history next more each_too.0 is.0.full none.0 (sym steps))
  same_runs (history ∷ next ∷ more) (other ∷ there ∷ rest) is is_too start each each_too none none_too by by_too steps at =
      let begins : start_of history ≡ start_of other = cc start in
      let lengths : length history.marks ≡ length other.marks = is.0.full ∙ sym is_too.0.full in
      let steps_are = split_map step_of history.marks (joined (next ∷ more)) other.marks (joined (there ∷ rest)) lengths steps in
      let moments_are = split_map moment_of_mark history.marks (joined (next ∷ more)) other.marks (joined (there ∷ rest)) lengths at in
      let by_parts = all_parts (λ (mark : Mark). mark.session ≡ session) history.marks (joined (next ∷ more)) by in
      let by_parts_too = all_parts (λ (mark : Mark). mark.session ≡ session) other.marks (joined (there ∷ rest)) by_too in
      let same = same_history history other begins each.0 each_too.0 by_parts.0 by_parts_too.0 steps_are.0 moments_are.0 in
      let begins_then : start_of next ≡ start_of there = is.0.start ∙ (ap turn_over same ∙ sym is_too.0.start) in
      ap (λ (h : History). h ∷ next ∷ more) same
      ∙ ap (λ (l : List History). other ∷ l) (same_runs (next ∷ more) (there ∷ rest) is.1 is_too.1 (ap (λ (h : History). Some h) begins_then)
      each.1 each_too.1 none.1 none_too.1 by_parts.1 by_parts_too.1 steps_are.1 moments_are.1)

pub only_replay : (limits : Limits) (session : SessionId) (steps : List MarkStep) (readings : List ℕ) (run other : List History)
    → Replays limits session steps readings run → Replays limits session steps readings other → run ≡ other
only_replay limits session steps readings run other is is_too =
    same_runs limits session run other is.legal.turns_over is_too.legal.turns_over (is.start ∙ sym is_too.start) is.legal.each is_too.legal.each
    is.none_empty is_too.none_empty is.by is_too.by (is.steps_are ∙ sym is_too.steps_are) (is.moments_are ∙ sym is_too.moments_are)
